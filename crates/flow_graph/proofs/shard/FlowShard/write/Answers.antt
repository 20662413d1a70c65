use Rattle.std.proofs.Common.{ℕ, ℤ, IsTrue, refl, subst}
use Rattle.std.specs.Box.{with_value}
use Rattle.flow_graph.specs.declared.numbers.FlowNumbers.{FlowNumbers}
use Rattle.flow_graph.specs.FlowNumbers.{has_row_at}
use Rattle.flow_graph.proofs.flow_rows.Rooms.{numbers_kept}
use Rattle.flow_graph.proofs.shard.FlowShard.write.Goals as goal

pub returns-in-Some-clause-kept : goal.returns-in-Some-clause-kept
returns-in-Some-clause-kept c = numbers_kept c.args.self.now _ c.in-Some.numbers (with_value c.in-Some.numbers c.write.new.self) c.in-Some.is refl
    (subst (λ (old : FlowNumbers). (sort : ℕ) (q : ℤ) → IsTrue (has_row_at old sort q) → IsTrue (has_row_at c.write.new.self sort q)) c.deref_mut.ensures.value c.write.ensures.kept)
