-- The classes of whole tables.
use Rattle.std.specs.Prelude.{ℕ, ◌≢◌}
use Rattle.gx_base.specs.Tables.{Rows}
use Rattle.cond_lattice.specs.declared.grades.Grade.TheVariants.{General}
use Rattle.cond_lattice.specs.Grades.{grade_of}

-- no row is GENERAL, so that a conflict is told by what the earlier call saw
abbrev pub HasNoGeneralRow : Rows → Type 0
HasNoGeneralRow rows = (first second : ℕ) → grade_of (rows first second) ≢ General
