use Rattle.std.proofs.Common.{◌+◌, ◌≤◌, length, List, sym, subst, arith}
use Rattle.gx_base.specs.declared.acts.Entry.{Entry}
use Rattle.gate_core.specs.Entries.{one_if_other}
use Rattle.gate_core.proofs.lists.Others.{first_within}
use Rattle.gate_core.proofs.live.LiveEntries.push_reserved.Goals as goal

pub prove-unreachable-requires : goal.prove-unreachable-requires
prove-unreachable-requires c = omega (arith, first_within c.args.self.now.entries.items c.args.entry, c.args.self.now.counted, c.len-len.ensures)

pub overflow_add-self : goal.overflow_add-self
overflow_add-self c =
    let within : c.args.self.now.others + one_if_other c.as_slice.result.now c.args.entry ≤ length c.args.self.now.entries.items =
    subst (λ (es : List Entry). c.args.self.now.others + one_if_other es c.args.entry ≤ length c.args.self.now.entries.items) (sym c.as_slice.ensures.value)
    (omega (arith, first_within c.args.self.now.entries.items c.args.entry, c.args.self.now.counted)) in
    omega (arith, c.other_than_first.ensures, c.len-len.ensures)
