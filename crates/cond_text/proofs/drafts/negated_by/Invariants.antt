use Rattle.std.proofs.Common.{ℕ}
use Rattle.cond_syntax.specs.WrittenConditions.{WrittenCondition}
use Rattle.cond_text.specs.Drafts.{IsDraft, negated_by}
use Rattle.cond_text.proofs.drafts.negated_by.Given as goal

abbrev pub invariant-loop : goal.invariant-loop
invariant-loop l = (kind : ℕ) (written : WrittenCondition) → IsDraft kind written l.initial.draft → IsDraft kind (negated_by l.counter written) l.draft
