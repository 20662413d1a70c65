-- A table of a class below General names no state function of a later call.
use Rattle.std.specs.Prelude.{◌≡◌, ◌≢◌, ℕ, Bool, true, false, ◌&&◌, refl}
use Rattle.std.proofs.Common.{ap}
use Rattle.gx_base.specs.declared.conditions.Side.TheVariants.{Second}
use Rattle.gx_base.specs.Below.{names_state}
use Rattle.gx_base.specs.Methods.{is_method}
use Rattle.gx_base.specs.Tables.{Rows, KeepsToKind}
use Rattle.cond_lattice.specs.declared.grades.Grade.TheVariants.{General}
use Rattle.cond_lattice.specs.Grades.{table_grade}
use Rattle.cond_lattice.proofs.CallerLemmas.{row_nameless}
use Rattle.gate_core.specs.Scans.{SeesFirstAlone}
use Rattle.gate_core.proofs.lists.EntryLists.{both_true}

blind_by : (kind : ℕ) (rows : Rows) (first second : ℕ) (b : Bool) → (is_method kind first && is_method kind second) ≡ b → table_grade kind rows ≢ General → KeepsToKind kind rows → names_state Second (rows first second) ≡ false
blind_by kind rows first second true q n k =
    let p : (is_method kind first ≡ true) × (is_method kind second ≡ true) = both_true (is_method kind first) (is_method kind second) q in
    row_nameless kind rows first second n p.0 p.1
blind_by kind rows first second false q n k = ap (names_state Second) (k first second q)

-- no row of a table of the kind that isn't General names a state function of its later call
pub sees_first_alone : (kind : ℕ) (rows : Rows) → table_grade kind rows ≢ General → KeepsToKind kind rows → SeesFirstAlone rows
sees_first_alone kind rows n k first second = blind_by kind rows first second (is_method kind first && is_method kind second) refl n k
