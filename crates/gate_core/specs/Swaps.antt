-- What two entries keep when they are made the other way round.
use Rattle.std.specs.Prelude.{◌≡◌, true}
use Rattle.gx_base.specs.States.{State}
use Rattle.gx_base.specs.Steps.{next_state, reply_to}
use Rattle.gx_base.specs.Tables.{Rows}
use Rattle.gx_base.specs.declared.acts.Entry.{Entry}
use Rattle.gate_core.specs.Replays.{pair_ok, SawRight}

-- an entry made in s and the next one, the other way round: both replies and the end stay, and so do what each saw and its rows with all later entries
pub record Swapped (rows : Rows) (s : State) (e m : Entry) : Type 0 where
  pub later : reply_to s m.call ≡ m.reply
  pub earlier : reply_to (next_state s m.call) e.call ≡ e.reply
  pub end : next_state (next_state s m.call) e.call ≡ next_state (next_state s e.call) m.call
  pub earlier_saw : SawRight rows s e → SawRight rows (next_state s m.call) e
  pub earlier_rows : (g : Entry) → pair_ok rows s e g ≡ true → pair_ok rows (next_state s m.call) e g ≡ true
  pub later_saw : SawRight rows (next_state s e.call) m → SawRight rows s m
  pub later_rows : (g : Entry) → pair_ok rows (next_state s e.call) m g ≡ true → pair_ok rows s m g ≡ true
