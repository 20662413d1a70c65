use Rattle.std.proofs.Common.{◌≤◌, List, vec_capacity, sym, subst, arith}
use Rattle.gx_base.specs.Kinds.{kind_number}
use Rattle.gx_base.specs.declared.acts.Entry.{Entry}
use Rattle.gate_core.specs.Entries.{others_than}
use Rattle.gate_core.specs.Views.{GateView}
use Rattle.gate_core.proofs.deeds.Withdrawing.{appended, marked, gate_releases}
use Rattle.gate_core.proofs.gates.Gate.release.Goals as goal

pub invariant_of-self : goal.invariant_of-self
invariant_of-self g c =
    let v : GateView = (record { kind = kind_number c.self.inside.kind; table = c.self.inside.table; state = g.T.SeqType.state c.self.inside.object; done = c.self.inside.done.items; live = c.self.inside.live.entries.items; mark = c.self.inside.mark }) in
    let below : v.mark ≤ c.args.number = subst (λ (old : GateView). old.mark ≤ c.args.number) (sym c.self.view_is) c.requires.rises in
    gate_releases v (g.T.SeqType.has_room c.self.inside.object) (g.T.SeqType.has_room c.self.inside.object) (g.S.Screen.stands_for c.self.inside.screen) (g.S.Screen.stands_for c.leave.new.screen)
    (g.S.Screen.suits c.self.inside.screen) (g.S.Screen.suits c.leave.new.screen) (vec_capacity c.self.inside.done) (vec_capacity c.append_done-self-inside.new.done) c.self.invariant
    c.args.worker c.args.iter c.args.number c.append_done-self-inside.new.done.items c.keep_others.new.self.entries.items c.append_done-self-inside.result below
    (appended c.args.worker c.args.iter c.args.number c.self.inside.done.items c.append_done-self-inside.new.done.items _ _ c.append_done-self-inside.ensures.done c.as_slice-2.ensures.value)
    c.keep_others.ensures
    (marked c.args.worker c.args.iter c.args.number c.self.inside.mark c.append_done-self-inside.result _ _ c.append_done-self-inside.ensures.mark c.as_slice-2.ensures.value)
    (λ made r. r)
    (λ x. subst (λ (xs : List Entry). g.S.Screen.stands_for c.leave.new.screen (others_than c.args.worker c.args.iter xs)) c.as_slice.ensures.value c.leave.ensures.entries)
    (λ x. (c.leave.ensures.same (kind_number c.self.inside.kind) c.self.inside.table).0 x)
    (subst (λ k. vec_capacity c.self.inside.done ≤ k) (sym c.append_done-self-inside.ensures.capacity) (omega arith))
