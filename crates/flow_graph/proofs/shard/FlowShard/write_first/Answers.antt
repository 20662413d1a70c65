use Rattle.std.proofs.Common.{sym, ◌∙◌, ap, w64}
use Rattle.std.proofs.lemmas.Int.{to_z-of_z}
use Rattle.gx_base.specs.States.{with_number}
use Rattle.flow_graph.specs.Uses.{sort_of}
use Rattle.flow_graph.specs.FlowNumbers.{state_with}
use Rattle.flow_graph.proofs.flow_rows.Rooms.{rooms_kept, none_there}
use Rattle.flow_graph.proofs.flow_rows.Unwritten.{no_rows}
use Rattle.flow_graph.proofs.shard.FlowShard.write_first.Goals as goal

pub returns-clause-ok : goal.returns-clause-ok
returns-clause-ok c =
    ap state_with c.in_ok-boxed.ensures.ok ∙ c.in_ok-write.ensures.ok
    ∙ (λ i. with_number ((c.new-numbers.ensures ∙ sym (no_rows c.args.self.now.numbers c.requires.none)) i) (sort_of c.args.quantity, to_z-of_z w64 c.args.key c.ranges.key i) (to_z-of_z w64 c.args.number c.ranges.number i))

pub returns-clause-kept : goal.returns-clause-kept
returns-clause-kept c = rooms_kept c.args.self.now _ (λ sort q t. absurd (none_there c.args.self.now.numbers sort q c.requires.none t))
