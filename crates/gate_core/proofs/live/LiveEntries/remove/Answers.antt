use Rattle.std.proofs.Common.{◌≡◌, ◌+◌, List, sym, ◌∙◌, subst}
use Rattle.gx_base.specs.declared.acts.Entry.{Entry}
use Rattle.gate_core.specs.Entries.{others_of_first, one_if_other}
use Rattle.gate_core.proofs.lists.Others.{others_removed}
use Rattle.gate_core.proofs.live.LiveEntries.remove.Goals as goal

pub others_without-self-requires : goal.others_without-self-requires
others_without-self-requires c = λ low.
    subst (λ (es : List Entry). c.args.self.now.others ≡ others_of_first es + one_if_other es c.remove-entry.result) (sym (c.as_slice.ensures.value ∙ c.remove-entry.ensures.items))
    (c.args.self.now.counted ∙ others_removed c.args.self.now.entries.items c.args.place c.remove-entry.result low c.requires c.remove-entry.ensures.value)
