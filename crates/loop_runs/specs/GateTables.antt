-- The tables of the gates of a run.
use Rattle.std.specs.Prelude.{◌≢◌, ℕ}
use Rattle.gx_base.specs.TableRows.{RowMap, row_of}
use Rattle.gx_base.specs.declared.kinds.Kind.{Kind}
use Rattle.gx_base.specs.Kinds.{kind_number}
use Rattle.cond_lattice.specs.declared.grades.Grade.TheVariants.{General}
use Rattle.cond_lattice.specs.Grades.{table_grade}
use Rattle.table_choice.specs.RunTables.{MayServe}

-- each by the number of its kind
abbrev pub GateTables : Type 0
GateTables = ℕ → RowMap

-- gates of the kind may have the table, and remembering what earlier calls saw is enough to keep it
pub record ServesGates (kind : Kind) (table : RowMap) : Type 0 where
  pub serves : MayServe (kind_number kind) (row_of table)
  pub class : table_grade (kind_number kind) (row_of table) ≢ General
