-- A screen of whichever sort a table calls for.
use Rattle.std.specs.Prelude.{◌≡◌, ◌≢◌, ℕ}
use Rattle.gx_base.specs.TableRows.{RowMap, row_of}
use Rattle.cond_lattice.specs.declared.grades.Grade.TheVariants.{Simple, General}
use Rattle.cond_lattice.specs.Grades.{table_grade}
use Rattle.abstract_locks.specs.LockScreens.{Serves}
use Rattle.table_choice.specs.declared.screens.AnyScreen.{AnyScreen}
use Rattle.table_choice.specs.declared.screens.AnyScreen.TheVariants.{Lock, Forward}

-- the tables that the screen suits are those that the one in it suits
abbrev pub Suits : AnyScreen → ℕ → RowMap → Type 0
Suits (Lock locks) kind table = Serves locks.value kind table
Suits (Forward screen) kind table = table_grade kind (row_of table) ≢ General

-- locks for a table of simple rows, and what the log remembers for any other
abbrev pub IsOfClass : ℕ → RowMap → AnyScreen → Type 0
IsOfClass kind table (Lock locks) = table_grade kind (row_of table) ≡ Simple
IsOfClass kind table (Forward screen) = table_grade kind (row_of table) ≢ Simple
