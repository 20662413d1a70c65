-- The words of the shipped tables.
use Rattle.std.specs.Prelude.{ℕ, List, Option, Some, None, codes, bytes_eq, if◌then◌else◌}
use Rattle.gx_base.specs.declared.kinds.Choice.{Choice}
use Rattle.gx_base.specs.declared.kinds.Choice.TheVariants.{Precise, Simple, Rw, Global}

abbrev pub choice_of : List ℕ → Option Choice
choice_of word =
    if bytes_eq word (codes "precise") then Some Precise
    else if bytes_eq word (codes "simple") then Some Simple
    else if bytes_eq word (codes "rw") then Some Rw
    else if bytes_eq word (codes "global") then Some Global
    else None
