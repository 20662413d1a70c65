use Rattle.std.proofs.Common.{◌≡◌, ℕ, true, sym}
use Rattle.gx_base.specs.Kinds.{kind_number}
use Rattle.gx_base.specs.Methods.{is_method}
use Rattle.gx_base.specs.TableRows.{row_of}
use Rattle.gx_base.proofs.CallerLemmas.{one_more, all_methods}
use Rattle.cond_lattice.specs.Derivations.{IsRowBelow}
use Rattle.cond_lattice.proofs.order.Derived.{IsRowBelow-sound}
use Rattle.cond_lattice.proofs.tables.TableLemmas.{rows_sound}
use Rattle.cond_lattice.proofs.table_rules.below.Goals as goal

pub loop-first-preserved : goal.loop-first-preserved
loop-first-preserved c =
    one_more (kind_number c.args.kind) c.loop-first.place c.in-Some.first
    (λ m. (n : ℕ) → is_method (kind_number c.args.kind) n ≡ true → IsRowBelow (row_of c.args.c.now m n) (row_of c.args.d.now m n))
    (sym c.in-Some.ensures) c.loop-first.invariant c.in_default-first_not_below.ensures.none

pub returns-clause-sound_rows : goal.returns-clause-sound_rows
returns-clause-sound_rows c = λ m n known_m known_n. IsRowBelow-sound (
    all_methods (kind_number c.args.kind) c.loop-first.place
    (λ m. (n : ℕ) → is_method (kind_number c.args.kind) n ≡ true → IsRowBelow (row_of c.args.c.now m n) (row_of c.args.d.now m n))
    (sym c.in_default.ensures) c.loop-first.invariant m known_m n known_n)

pub returns-clause-sound : goal.returns-clause-sound
returns-clause-sound c =
    rows_sound (kind_number c.args.kind) (row_of c.args.c.now) (row_of c.args.d.now) (λ m n known_m known_n.
    all_methods (kind_number c.args.kind) c.loop-first.place
    (λ m. (n : ℕ) → is_method (kind_number c.args.kind) n ≡ true → IsRowBelow (row_of c.args.c.now m n) (row_of c.args.d.now m n))
    (sym c.in_default.ensures) c.loop-first.invariant m known_m n known_n)
