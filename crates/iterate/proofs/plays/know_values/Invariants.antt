use Rattle.std.proofs.Common.{◌≡◌, ◌<◌, ℕ, Some}
use Rattle.std.specs.List.{slice_get}
use Rattle.rooms.specs.declared.values.Value.{Value}
use Rattle.iterate.specs.PlayedTurns.{IsLawfulValue}
use Rattle.iterate.proofs.plays.know_values.Given as goal

abbrev pub invariant-loop-value : goal.invariant-loop-value
invariant-loop-value g l = (room : ℕ) (value : Value g.row.T.Denot g.row.S.Denot) → room < l.value-index → slice_get l.values room ≡ Some value → IsLawfulValue value
