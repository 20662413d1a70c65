-- The numbers of the kinds.
use Rattle.std.specs.Prelude.{ℕ}
use Rattle.gx_base.specs.declared.kinds.Kind.{Kind}
use Rattle.gx_base.specs.declared.kinds.Kind.TheVariants.{Set, Cells, Flow, Points, Domains}

-- the kinds are numbered from 0
abbrev pub kind_number : Kind → ℕ
kind_number Set = 0
kind_number Cells = 1
kind_number Flow = 2
kind_number Points = 3
kind_number Domains = 4
