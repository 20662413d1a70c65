-- Gates that rooms hold, and what a room tells of one.
use Rattle.std.specs.Prelude.{ℕ, []}
use Rattle.gx_base.specs.RoomViews.{RoomView, OfGate, ReplaysAlone}
use Rattle.gate_core.specs.Views.{GateView, start, IsLawfulGate}

-- a gate's entries and mark. It began with its start, the number of its kind and its table, and has no commits
abbrev pub room_view : GateView → RoomView
room_view g = record { live = g.live; done = g.done; commits = []; mark = g.mark; origin = OfGate (start g) g.kind g.table }

-- a gate is lawful in its room, and so each worker's live entries replay after the done ones with no other live ones
pub record IsHomedGate (g : GateView) : Type 0 where
  pub lawful : IsLawfulGate g
  pub alone : (worker : ℕ) → ReplaysAlone (room_view g) worker
