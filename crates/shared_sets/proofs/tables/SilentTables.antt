-- No precise row of sets or cells names the state function of the later call.
use Rattle.std.specs.Prelude.{◌≡◌, false, refl}
use Rattle.gx_base.specs.declared.conditions.Side.TheVariants.{Second}
use Rattle.gx_base.specs.Below.{names_state}
use Rattle.gx_base.specs.SetKind.{SetDeed, Add, Remove, Contains, Nothing, set_deed}
use Rattle.kind_tables.proofs.CallerLemmas.{IsSilent, register_silent}
use Rattle.gx_base.specs.CellsKind.{cells_use}
use Rattle.shared_sets.specs.SetTables.{precise_set, set_tables}
use Rattle.shared_sets.specs.CellsTables.{cells_tables}

set_silent : (d e : SetDeed) → names_state Second (precise_set d e) ≡ false
set_silent Add Add = refl
set_silent Remove Add = refl
set_silent Contains Add = refl
set_silent Nothing e = refl
set_silent d e = refl

pub set_tables-silent : IsSilent set_tables.precise
set_tables-silent first second = set_silent (set_deed first) (set_deed second)

pub cells_tables-silent : IsSilent cells_tables.precise
cells_tables-silent = register_silent cells_use
