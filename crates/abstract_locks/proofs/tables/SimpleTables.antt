-- Tables of simple rows ask for nothing but what an entry logged.
use Rattle.std.specs.Prelude.{◌≡◌, ℕ, Bool, true, false, ◌&&◌, refl}
use Rattle.std.proofs.Common.{ap}
use Rattle.std.proofs.lemmas.Bool.{and_parts}
use Rattle.gx_base.specs.declared.conditions.Side.TheVariants.{Second}
use Rattle.gx_base.specs.Below.{names_state}
use Rattle.gx_base.specs.Methods.{is_method}
use Rattle.gx_base.specs.Tables.{Rows, KeepsToKind}
use Rattle.cond_lattice.specs.Grades.{AreSimple}
use Rattle.cond_lattice.proofs.CallerLemmas.{simple_nameless}
use Rattle.gate_core.specs.Scans.{SeesFirstAlone}

nameless_by : (kind : ℕ) (rows : Rows) (first second : ℕ) (b : Bool) → (is_method kind first && is_method kind second) ≡ b → AreSimple kind rows → KeepsToKind kind rows → names_state Second (rows first second) ≡ false
nameless_by kind rows first second true e simple keeps = let p = and_parts _ _ e in simple_nameless Second (rows first second) (simple first second p.0 p.1)
nameless_by kind rows first second false e simple keeps = ap (names_state Second) (keeps first second e)

pub simple_sees_alone : (kind : ℕ) (rows : Rows) → AreSimple kind rows → KeepsToKind kind rows → SeesFirstAlone rows
simple_sees_alone kind rows simple keeps first second = nameless_by kind rows first second (is_method kind first && is_method kind second) refl simple keeps
