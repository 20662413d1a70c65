use Rattle.std.proofs.Common.{◌≡◌, vec_capacity, subst}
use Rattle.std.specs.Prelude.{Some, None, IsTrue}
use Rattle.gx_base.specs.Kinds.{kind_number}
use Rattle.gate_core.specs.declared.refusals.GateRefuse.TheVariants.{Conflict}
use Rattle.gate_core.specs.Entries.{made_of}
use Rattle.gate_core.specs.Views.{GateView, gate_rows, live_start, asked_entry, in_way}
use Rattle.gate_core.specs.CallAnswers.{IsAdmitted, TellsOf, GateRefusalFits}
use Rattle.gate_core.proofs.lists.EntryLists.{each_same}
use Rattle.gate_core.proofs.deeds.Asking.{Asks, asks, lead_to, rooms_asked, told_of, taken_back, same_view, gate_same, gate_admits, admitted}
use Rattle.gate_core.proofs.gates.Gate.call.Goals as goal

pub conflict-requires-clause-roomed : goal.conflict-requires-clause-roomed
conflict-requires-clause-roomed g c =
    rooms_asked (g.T.SeqType.has_room c.take_memory.new.object) (g.T.SeqType.has_room c.ask.new.object) c.self.inside.live.entries.items c.take_memory.new.live.entries.items c.in_ok-asked.asked
    (c.take_memory.ensures.roomed c.self.invariant.roomed_live) c.in_ok-asked.ensures.kept c.in_ok-asked.ensures.roomed c.take_memory.ensures.live

pub conflict-requires-clause-replays : goal.conflict-requires-clause-replays
conflict-requires-clause-replays g c =
    let v : GateView = (record { kind = kind_number c.self.inside.kind; table = c.self.inside.table; state = g.T.SeqType.state c.self.inside.object; done = c.self.inside.done.items; live = c.self.inside.live.entries.items; mark = c.self.inside.mark }) in
    let a : Asks v c.args.worker c.args.iter c.args.item c.args.call c.in_ok-asked.asked (g.T.SeqType.state c.ask.new.object) c.take_memory.new.live.entries.items =
    asks v c.args.worker c.args.iter c.args.item c.args.call c.in_ok-asked.asked (g.T.SeqType.state c.take_memory.new.object) (g.T.SeqType.state c.ask.new.object) c.take_memory.new.live.entries.items
    c.take_memory.ensures.state c.in_ok-asked.ensures.asked c.in_ok-asked.ensures.ok c.take_memory.ensures.live in
    lead_to v c.args.worker c.args.iter c.args.item c.args.call c.in_ok-asked.asked (g.T.SeqType.state c.ask.new.object) c.take_memory.new.live.entries.items c.self.invariant.lawful c.in_ok-asked.ensures.call a

pub invariant_of-self-in-Some : goal.invariant_of-self-in-Some
invariant_of-self-in-Some g c =
    let v : GateView = (record { kind = kind_number c.self.inside.kind; table = c.self.inside.table; state = g.T.SeqType.state c.self.inside.object; done = c.self.inside.done.items; live = c.self.inside.live.entries.items; mark = c.self.inside.mark }) in
    let a : Asks v c.args.worker c.args.iter c.args.item c.args.call c.in_ok-asked.asked (g.T.SeqType.state c.ask.new.object) c.take_memory.new.live.entries.items =
    asks v c.args.worker c.args.iter c.args.item c.args.call c.in_ok-asked.asked (g.T.SeqType.state c.take_memory.new.object) (g.T.SeqType.state c.ask.new.object) c.take_memory.new.live.entries.items
    c.take_memory.ensures.state c.in_ok-asked.ensures.asked c.in_ok-asked.ensures.ok c.take_memory.ensures.live in
    gate_same v (g.T.SeqType.has_room c.self.inside.object) (g.T.SeqType.has_room c.take_back.new.object) (g.S.Screen.stands_for c.self.inside.screen) (g.S.Screen.stands_for c.conflict.new.screen)
    (g.S.Screen.suits c.self.inside.screen) (g.S.Screen.suits c.conflict.new.screen) (vec_capacity c.self.inside.done) (vec_capacity c.take_memory.new.done)
    (g.T.SeqType.state c.take_back.new.object) c.take_memory.new.done.items c.take_memory.new.live.entries.items c.self.invariant
    (taken_back v c.args.worker c.args.iter c.args.item c.args.call c.in_ok-asked.asked (g.T.SeqType.state c.ask.new.object) (g.T.SeqType.state c.conflict.new.object) (g.T.SeqType.state c.take_back.new.object) c.take_memory.new.live.entries.items
    c.self.invariant.lawful c.in_ok-asked.ensures.call a c.in-Some.ensures.state c.take_back.ensures.state)
    c.take_memory.ensures.done c.take_memory.ensures.live
    (λ h. each_same (λ x. IsTrue (g.T.SeqType.has_room c.take_memory.new.object (made_of x))) (λ x. IsTrue (g.T.SeqType.has_room c.take_back.new.object (made_of x))) c.self.inside.live.entries.items
    (λ x r. c.take_back.ensures.kept (made_of x) (c.in-Some.ensures.kept (made_of x) (c.in_ok-asked.ensures.kept (made_of x) r))) (c.take_memory.ensures.roomed h))
    (λ x. c.in-Some.ensures.entries c.self.inside.live.entries.items (c.in_ok-asked.ensures.entries c.self.inside.live.entries.items x))
    (λ x. (c.in-Some.ensures.same (kind_number c.self.inside.kind) c.self.inside.table).0 ((c.in_ok-asked.ensures.same (kind_number c.self.inside.kind) c.self.inside.table).0 x))
    c.take_memory.ensures.capacity

pub invariant_of-self-in-None : goal.invariant_of-self-in-None
invariant_of-self-in-None g c =
    let v : GateView = (record { kind = kind_number c.self.inside.kind; table = c.self.inside.table; state = g.T.SeqType.state c.self.inside.object; done = c.self.inside.done.items; live = c.self.inside.live.entries.items; mark = c.self.inside.mark }) in
    let a : Asks v c.args.worker c.args.iter c.args.item c.args.call c.in_ok-asked.asked (g.T.SeqType.state c.ask.new.object) c.take_memory.new.live.entries.items =
    asks v c.args.worker c.args.iter c.args.item c.args.call c.in_ok-asked.asked (g.T.SeqType.state c.take_memory.new.object) (g.T.SeqType.state c.ask.new.object) c.take_memory.new.live.entries.items
    c.take_memory.ensures.state c.in_ok-asked.ensures.asked c.in_ok-asked.ensures.ok c.take_memory.ensures.live in
    let free : in_way v (asked_entry c.args.worker c.args.iter c.args.item c.args.call v.state) ≡ None = told_of v c.args.worker c.args.iter c.args.item c.args.call c.in_ok-asked.asked (g.T.SeqType.state c.ask.new.object) c.take_memory.new.live.entries.items None c.self.invariant.lawful c.in_ok-asked.ensures.call a c.in-None.ensures.told in
    gate_admits v (g.T.SeqType.has_room c.self.inside.object) (g.T.SeqType.has_room c.conflict.new.object) (g.S.Screen.stands_for c.self.inside.screen) (g.S.Screen.stands_for c.entered.new.self)
    (g.S.Screen.suits c.self.inside.screen) (g.S.Screen.suits c.entered.new.self) (vec_capacity c.self.inside.done) (vec_capacity c.take_memory.new.done)
    c.args.worker c.args.iter c.args.item c.args.call c.in_ok-asked.asked (g.T.SeqType.state c.ask.new.object) (g.T.SeqType.state c.conflict.new.object) c.take_memory.new.done.items c.take_memory.new.live.entries.items c.push_reserved.new.self.entries.items
    c.self.invariant c.in_ok-asked.ensures.call a free c.in-None.ensures.state c.take_memory.ensures.done c.push_reserved.ensures.items
    (rooms_asked (g.T.SeqType.has_room c.take_memory.new.object) (g.T.SeqType.has_room c.conflict.new.object) c.self.inside.live.entries.items c.take_memory.new.live.entries.items c.in_ok-asked.asked
    (c.take_memory.ensures.roomed c.self.invariant.roomed_live) (λ made r. c.in-None.ensures.kept made (c.in_ok-asked.ensures.kept made r)) (c.in-None.ensures.kept (made_of c.in_ok-asked.asked) c.in_ok-asked.ensures.roomed)
    c.take_memory.ensures.live)
    (λ x. c.entered.ensures.entries c.self.inside.live.entries.items (c.in-None.ensures.entries c.self.inside.live.entries.items (c.in_ok-asked.ensures.entries c.self.inside.live.entries.items x)))
    (λ x. (c.entered.ensures.same (kind_number c.self.inside.kind) c.self.inside.table).0 ((c.in-None.ensures.same (kind_number c.self.inside.kind) c.self.inside.table).0 ((c.in_ok-asked.ensures.same (kind_number c.self.inside.kind) c.self.inside.table).0 x)))
    c.in_ok-take_memory.ensures.done_room

pub returns-in-Some-clause-err : goal.returns-in-Some-clause-err
returns-in-Some-clause-err g c =
    let v : GateView = (record { kind = kind_number c.self.inside.kind; table = c.self.inside.table; state = g.T.SeqType.state c.self.inside.object; done = c.self.inside.done.items; live = c.self.inside.live.entries.items; mark = c.self.inside.mark }) in
    let a : Asks v c.args.worker c.args.iter c.args.item c.args.call c.in_ok-asked.asked (g.T.SeqType.state c.ask.new.object) c.take_memory.new.live.entries.items =
    asks v c.args.worker c.args.iter c.args.item c.args.call c.in_ok-asked.asked (g.T.SeqType.state c.take_memory.new.object) (g.T.SeqType.state c.ask.new.object) c.take_memory.new.live.entries.items
    c.take_memory.ensures.state c.in_ok-asked.ensures.asked c.in_ok-asked.ensures.ok c.take_memory.ensures.live in
    let told : TellsOf (gate_rows v) (live_start v) v.live (asked_entry c.args.worker c.args.iter c.args.item c.args.call v.state) (Some c.in-Some.told) = told_of v c.args.worker c.args.iter c.args.item c.args.call c.in_ok-asked.asked (g.T.SeqType.state c.ask.new.object) c.take_memory.new.live.entries.items (Some c.in-Some.told) c.self.invariant.lawful c.in_ok-asked.ensures.call a c.in-Some.ensures.told in
    let back : g.T.SeqType.state c.take_back.new.object ≡ v.state =
    taken_back v c.args.worker c.args.iter c.args.item c.args.call c.in_ok-asked.asked (g.T.SeqType.state c.ask.new.object) (g.T.SeqType.state c.conflict.new.object) (g.T.SeqType.state c.take_back.new.object) c.take_memory.new.live.entries.items
    c.self.invariant.lawful c.in_ok-asked.ensures.call a c.in-Some.ensures.state c.take_back.ensures.state in
    subst (λ old. GateRefusalFits old (record v { state = g.T.SeqType.state c.take_back.new.object; done = c.take_memory.new.done.items; live = c.take_memory.new.live.entries.items }) c.args.worker c.args.iter c.args.item c.args.call (Conflict c.in-Some.told)) c.self.view_is
    (told, same_view v (g.T.SeqType.state c.take_back.new.object) c.take_memory.new.done.items c.take_memory.new.live.entries.items back c.take_memory.ensures.done c.take_memory.ensures.live)

pub returns-in-None-clause-ok : goal.returns-in-None-clause-ok
returns-in-None-clause-ok g c =
    let v : GateView = (record { kind = kind_number c.self.inside.kind; table = c.self.inside.table; state = g.T.SeqType.state c.self.inside.object; done = c.self.inside.done.items; live = c.self.inside.live.entries.items; mark = c.self.inside.mark }) in
    let a : Asks v c.args.worker c.args.iter c.args.item c.args.call c.in_ok-asked.asked (g.T.SeqType.state c.ask.new.object) c.take_memory.new.live.entries.items =
    asks v c.args.worker c.args.iter c.args.item c.args.call c.in_ok-asked.asked (g.T.SeqType.state c.take_memory.new.object) (g.T.SeqType.state c.ask.new.object) c.take_memory.new.live.entries.items
    c.take_memory.ensures.state c.in_ok-asked.ensures.asked c.in_ok-asked.ensures.ok c.take_memory.ensures.live in
    let free : in_way v (asked_entry c.args.worker c.args.iter c.args.item c.args.call v.state) ≡ None = told_of v c.args.worker c.args.iter c.args.item c.args.call c.in_ok-asked.asked (g.T.SeqType.state c.ask.new.object) c.take_memory.new.live.entries.items None c.self.invariant.lawful c.in_ok-asked.ensures.call a c.in-None.ensures.told in
    subst (λ old. IsAdmitted old (record v { state = g.T.SeqType.state c.conflict.new.object; done = c.take_memory.new.done.items; live = c.push_reserved.new.self.entries.items }) c.args.worker c.args.iter c.args.item c.args.call c.in_ok-asked.asked.reply) c.self.view_is
    (admitted v c.args.worker c.args.iter c.args.item c.args.call c.in_ok-asked.asked (g.T.SeqType.state c.ask.new.object) (g.T.SeqType.state c.conflict.new.object) c.take_memory.new.done.items c.take_memory.new.live.entries.items c.push_reserved.new.self.entries.items
    a free c.in-None.ensures.state c.take_memory.ensures.done c.push_reserved.ensures.items)
