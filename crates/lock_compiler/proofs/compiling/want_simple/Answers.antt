use Rattle.std.proofs.Common.{◌≡◌, ℕ, true, sym}
use Rattle.gx_base.specs.Kinds.{kind_number}
use Rattle.gx_base.specs.Methods.{is_method}
use Rattle.gx_base.specs.TableRows.{row_of}
use Rattle.gx_base.proofs.CallerLemmas.{one_more}
use Rattle.cond_lattice.specs.Grades.{is_simple}
use Rattle.lock_compiler.proofs.compiling.want_simple.Goals as goal

pub firsts-preserved : goal.firsts-preserved
firsts-preserved c =
    one_more (kind_number c.args.kind) c.firsts.place c.in-Some.first
    (λ m. (n : ℕ) → is_method (kind_number c.args.kind) n ≡ true → is_simple (row_of c.args.table.now m n) ≡ true)
    (sym c.in-Some.ensures) c.firsts.invariant c.in_default-first_not_simple.ensures.none
