pub mod DischargeMoves
