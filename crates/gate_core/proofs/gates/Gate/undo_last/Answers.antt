use Rattle.std.proofs.Common.{◌≡◌, List, false, vec_capacity, sym, ◌∙◌, ap, subst, arith}
use Rattle.std.specs.Prelude.{Some}
use Rattle.gx_base.specs.Kinds.{kind_number}
use Rattle.gx_base.specs.declared.acts.Entry.{Entry}
use Rattle.gate_core.specs.Entries.{has_entry, last_of, without_last}
use Rattle.gate_core.specs.LastPlaces.{IsLastPlace}
use Rattle.gate_core.specs.Views.{GateView, undo_last}
use Rattle.gate_core.specs.CallAnswers.{call_of}
use Rattle.gate_core.proofs.lists.EntryLists.{loses_last}
use Rattle.gate_core.proofs.deeds.Withdrawing.{last_at, roomed_last, undone_view, same_undone, none_back, gate_undoes}
use Rattle.gate_core.proofs.gates.Gate.undo_last.Goals as goal

pub returns-in_err-place-clause-new : goal.returns-in_err-place-clause-new
returns-in_err-place-clause-new g c =
    let none : has_entry c.args.worker c.args.iter c.self.inside.live.entries.items ≡ false = subst (λ (xs : List Entry). has_entry c.args.worker c.args.iter xs ≡ false) c.as_slice.ensures.value c.in_err-place.ensures in
    same_undone c.args.self.now c.args.worker c.args.iter (subst (λ (old : GateView). has_entry c.args.worker c.args.iter old.live ≡ false) c.self.view_is none)

pub returns-in_err-place-clause-back : goal.returns-in_err-place-clause-back
returns-in_err-place-clause-back g c =
    let none : has_entry c.args.worker c.args.iter c.self.inside.live.entries.items ≡ false = subst (λ (xs : List Entry). has_entry c.args.worker c.args.iter xs ≡ false) c.as_slice.ensures.value c.in_err-place.ensures in
    c.from_residual.ensures ∙ none_back c.args.worker c.args.iter c.args.self.now.live (subst (λ (old : GateView). has_entry c.args.worker c.args.iter old.live ≡ false) c.self.view_is none)

pub take_back-requires : goal.take_back-requires
take_back-requires g c =
    let at : IsLastPlace c.args.worker c.args.iter c.self.inside.live.entries.items (Some c.in_ok-place.place) = subst (λ (xs : List Entry). IsLastPlace c.args.worker c.args.iter xs (Some c.in_ok-place.place)) c.as_slice.ensures.value c.in_ok-place.ensures in
    roomed_last (g.T.SeqType.has_room c.self.inside.object) c.args.worker c.args.iter c.self.inside.live.entries.items c.in_ok-place.place c.remove-entry.result at c.remove-entry.ensures.value c.self.invariant.roomed_live

pub left-requires : goal.left-requires
left-requires g c =
    let at : IsLastPlace c.args.worker c.args.iter c.self.inside.live.entries.items (Some c.in_ok-place.place) = subst (λ (xs : List Entry). IsLastPlace c.args.worker c.args.iter xs (Some c.in_ok-place.place)) c.as_slice.ensures.value c.in_ok-place.ensures in
    let last : last_of c.args.worker c.args.iter c.self.inside.live.entries.items ≡ Some c.remove-entry.result = last_at c.args.worker c.args.iter c.self.inside.live.entries.items c.in_ok-place.place c.remove-entry.result at c.remove-entry.ensures.value in
    (c.self.inside.live.entries.items, without_last c.args.worker c.args.iter c.self.inside.live.entries.items, c.self.invariant.screened, loses_last c.args.worker c.args.iter c.self.inside.live.entries.items c.remove-entry.result last)

pub invariant_of-self : goal.invariant_of-self
invariant_of-self g c =
    let v : GateView = (record { kind = kind_number c.self.inside.kind; table = c.self.inside.table; state = g.T.SeqType.state c.self.inside.object; done = c.self.inside.done.items; live = c.self.inside.live.entries.items; mark = c.self.inside.mark }) in
    let at : IsLastPlace c.args.worker c.args.iter c.self.inside.live.entries.items (Some c.in_ok-place.place) = subst (λ (xs : List Entry). IsLastPlace c.args.worker c.args.iter xs (Some c.in_ok-place.place)) c.as_slice.ensures.value c.in_ok-place.ensures in
    let last : last_of c.args.worker c.args.iter c.self.inside.live.entries.items ≡ Some c.remove-entry.result = last_at c.args.worker c.args.iter c.self.inside.live.entries.items c.in_ok-place.place c.remove-entry.result at c.remove-entry.ensures.value in
    gate_undoes v (g.T.SeqType.has_room c.self.inside.object) (g.T.SeqType.has_room c.take_back.new.object) (g.S.Screen.stands_for c.self.inside.screen) (g.S.Screen.stands_for c.left.new.self)
    (g.S.Screen.suits c.self.inside.screen) (g.S.Screen.suits c.left.new.self) (vec_capacity c.self.inside.done) (vec_capacity c.self.inside.done) c.self.invariant
    c.args.worker c.args.iter c.remove-entry.result (g.T.SeqType.state c.take_back.new.object) c.remove-entry.new.self.entries.items last c.take_back.ensures.state (◌∙◌ {A = List Entry} c.remove-entry.ensures.items (sym at.2)) c.take_back.ensures.kept
    (λ x. c.left.ensures.entries c.self.inside.live.entries.items (without_last c.args.worker c.args.iter c.self.inside.live.entries.items) x (loses_last c.args.worker c.args.iter c.self.inside.live.entries.items c.remove-entry.result last))
    (λ x. (c.left.ensures.same (kind_number c.self.inside.kind) c.self.inside.table).0 x) (omega arith)

pub returns-clause-new : goal.returns-clause-new
returns-clause-new g c =
    let v : GateView = (record { kind = kind_number c.self.inside.kind; table = c.self.inside.table; state = g.T.SeqType.state c.self.inside.object; done = c.self.inside.done.items; live = c.self.inside.live.entries.items; mark = c.self.inside.mark }) in
    let at : IsLastPlace c.args.worker c.args.iter c.self.inside.live.entries.items (Some c.in_ok-place.place) = subst (λ (xs : List Entry). IsLastPlace c.args.worker c.args.iter xs (Some c.in_ok-place.place)) c.as_slice.ensures.value c.in_ok-place.ensures in
    let last : last_of c.args.worker c.args.iter c.self.inside.live.entries.items ≡ Some c.remove-entry.result = last_at c.args.worker c.args.iter c.self.inside.live.entries.items c.in_ok-place.place c.remove-entry.result at c.remove-entry.ensures.value in
    subst (λ old. ◌≡◌ {A = GateView} (record v { state = g.T.SeqType.state c.take_back.new.object; live = c.remove-entry.new.self.entries.items }) (undo_last old c.args.worker c.args.iter)) c.self.view_is
    (undone_view v c.args.worker c.args.iter c.remove-entry.result (g.T.SeqType.state c.take_back.new.object) c.remove-entry.new.self.entries.items last c.take_back.ensures.state (◌∙◌ {A = List Entry} c.remove-entry.ensures.items (sym at.2)))

pub returns-clause-back : goal.returns-clause-back
returns-clause-back g c =
    let v : GateView = (record { kind = kind_number c.self.inside.kind; table = c.self.inside.table; state = g.T.SeqType.state c.self.inside.object; done = c.self.inside.done.items; live = c.self.inside.live.entries.items; mark = c.self.inside.mark }) in
    let at : IsLastPlace c.args.worker c.args.iter c.self.inside.live.entries.items (Some c.in_ok-place.place) = subst (λ (xs : List Entry). IsLastPlace c.args.worker c.args.iter xs (Some c.in_ok-place.place)) c.as_slice.ensures.value c.in_ok-place.ensures in
    let last : last_of c.args.worker c.args.iter c.self.inside.live.entries.items ≡ Some c.remove-entry.result = last_at c.args.worker c.args.iter c.self.inside.live.entries.items c.in_ok-place.place c.remove-entry.result at c.remove-entry.ensures.value in
    subst (λ (old : GateView). Some (c.remove-entry.result.call, c.remove-entry.result.reply) ≡ call_of (last_of c.args.worker c.args.iter old.live)) c.self.view_is (ap call_of (sym last))
