use Rattle.std.proofs.Common.{◌≡◌, Option, Some, sym, ◌∙◌, ap, subst}
use Rattle.std.specs.Box.{with_value}
use Rattle.std.specs.Global.{Box}
use Rattle.flow_graph.specs.declared.numbers.FlowNumbers.{FlowNumbers}
use Rattle.flow_graph.specs.declared.shard.FlowShard.{FlowShard}
use Rattle.flow_graph.specs.FlowNumbers.{AreLean}
use Rattle.flow_graph.specs.FlowState.{IsLeanAt}
use Rattle.flow_graph.proofs.shard.FlowShard.tidy_rows.Goals as goal

same_numbers : (s : FlowShard) (b : Box FlowNumbers) (n : FlowNumbers) → s.numbers ≡ Some b → n ≡ b.value → record s { numbers = Some (with_value b n) } ≡ s
same_numbers s b n is e = ap (λ (m : FlowNumbers). let t : FlowShard = record s { numbers = Some (with_value b m) } in t) e ∙ ap (λ (numbers : Option (Box FlowNumbers)). let t : FlowShard = record s { numbers = numbers } in t) (sym is)

pub returns-in-Some-clause-idle : goal.returns-in-Some-clause-idle
returns-in-Some-clause-idle c = λ lean.
    let idle : AreLean c.in-Some.numbers.value → c.tidy.new.self ≡ c.in-Some.numbers.value = subst (λ (old : FlowNumbers). AreLean old → c.tidy.new.self ≡ old) c.deref_mut.ensures.value c.tidy.ensures.idle in
    same_numbers c.args.self.now c.in-Some.numbers c.tidy.new.self c.in-Some.is (idle (subst (λ (numbers : Option (Box FlowNumbers)). IsLeanAt numbers 0 × IsLeanAt numbers 1 × IsLeanAt numbers 2) c.in-Some.is lean))
