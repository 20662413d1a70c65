-- What contracts see of a lock screen, and which tables it keeps.
use Rattle.std.specs.Prelude.{◌≡◌, ℕ, true, refl}
use Rattle.std.specs.Coded.{Coded, code_by, coded×, coded_ℕ}
use Rattle.gx_base.specs.TableRows.{RowMap, row_map_code, row_of}
use Rattle.cond_lattice.specs.Grades.{AreSimple}
use Rattle.lock_compiler.specs.declared.modes.Need.{Need}
use Rattle.lock_compiler.specs.LockModes.{LockModes, incompatible}
use Rattle.lock_compiler.specs.Compiled.{compiled}
use Rattle.lock_compiler.specs.Reduced.{reduced}

-- a lock screen as plain data: the number of a kind, and the table that it was made of
pub record Locks : Type 0 where
  pub kind : ℕ
  pub table : RowMap

-- it is stored as its fields
abbrev pub locks_code : Coded Locks
locks_code =
    code_by (ℕ × RowMap)
    (coded× coded_ℕ row_map_code)
    (λ locks. (locks.kind, locks.table))
    (λ p. record { kind = p.0; table = p.1 })
    (λ _. refl)

-- each row of the kind's methods is simple, and the modes are those of the table, made few
pub record AreModesOf (locks : Locks) (modes : LockModes) : Type 0 where
  pub simple : AreSimple locks.kind (row_of locks.table)
  pub compiled : modes ≡ reduced (compiled locks.kind (row_of locks.table))

-- the screen serves its kind, with each table that has the very rows of its own
pub record Serves (locks : Locks) (kind : ℕ) (table : RowMap) : Type 0 where
  pub same_kind : kind ≡ locks.kind
  pub same_rows : (first second : ℕ) → row_of table first second ≡ row_of locks.table first second

-- a held need and one that is asked for have equal values and incompatible modes
pub record Excludes (modes : LockModes) (held asked : Need) : Type 0 where
  pub equal_values : held.value ≡ asked.value
  pub refused : incompatible modes held.mode asked.mode ≡ true
