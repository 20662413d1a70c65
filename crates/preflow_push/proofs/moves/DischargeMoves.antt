-- How a body moves from stage to stage.
use Rattle.std.proofs.Common.{◌≡◌, ℕ, ◌+◌, ◌<◌, ℤ, pos, negsuc, Bool, true, false, int_le, Option, Some, None, List, [], ◌∷◌, length, drop, get_or, slice_get, add-one, ⊎_elim, refl, sym, ap, ◌∙◌, subst, arith}
use Rattle.std.specs.Int.{w64, int_min, int_wrapping_add, int_wrapping_sub}
use Rattle.std.proofs.Math.Nat.{mod-lt}
use Rattle.std.proofs.Math.Seq.{drop-cons}
use Rattle.std.proofs.lemmas.List.{drop_all}
use Rattle.std.proofs.lemmas.Option.{slice_get_within, slice_get-get_or, slice_get_cases}
use Rattle.gx_base.specs.declared.calls.Call.{Call as CallOf}
use Rattle.gx_base.specs.declared.calls.Reply.{Reply}
use Rattle.gx_base.specs.declared.acts.Act.{Act}
use Rattle.gx_base.specs.declared.acts.Act.TheVariants as acts
use Rattle.gx_base.specs.Plans.{Plan, Call}
use Rattle.commit_book.proofs.CallerLemmas.{moves_by_call, moves_to_end, moves_within, moves_if_true, moves_if_false}
use Rattle.preflow_push.specs.declared.touches.Touch.{Touch}
use Rattle.preflow_push.specs.declared.stages.Walk.{Walk}
use Rattle.preflow_push.specs.declared.stages.Stage.{Stage}
use Rattle.preflow_push.specs.declared.stages.Stage.TheVariants as stages
use Rattle.preflow_push.specs.declared.discharge.Discharge.{Discharge}
use Rattle.preflow_push.specs.FlowCalls.{rooms, room_of, flow_call_of, relabel, flow, height, send}
use Rattle.preflow_push.specs.Discharge.{rise, along, residual, lesser, after_flow, after_height, sending, sent_along, is_just_above, after_gains, push_unless, unless_spent, is_terminal}
use Rattle.preflow_push.specs.Stages.{acts_over}
use Rattle.preflow_push.specs.Discharges.{MovesTo, ends_of, lists_of, body_rest, acts_of, onward_of, acts_onward}

pub room_of-lt : (n : ℤ) → room_of n < rooms
room_of-lt (pos a) = mod-lt a (omega arith)
room_of-lt (negsuc a) = omega arith

-- a call in the room of a node or an arc
pub calls : (d : Discharge) (n : ℤ) (call : CallOf) (goes_on : Reply → Plan) (bound : ℕ) (act : Act) (stage : Stage)
    → act ≡ acts.Call (room_of n) call → ((reply : Reply) → body_rest d stage (Some reply) ≡ goes_on reply) → acts_of d stage < bound
    → MovesTo d (Call (room_of n) call goes_on) bound act stage
calls d n call goes_on bound act stage e rest falls = moves_by_call (room_of n) call goes_on bound act stage e (room_of-lt n) rest falls

pub call_along : (act : Act) (method : ℕ) (m n x y : ℤ) → m ≡ n → x ≡ y → act ≡ acts.Call (room_of m) (flow_call_of method m x) → act ≡ acts.Call (room_of n) (flow_call_of method n y)
call_along act method m n x y e f h = h ∙ ap (λ (k : ℤ). acts.Call (room_of k) (flow_call_of method k x)) e ∙ ap (λ (z : ℤ). acts.Call (room_of n) (flow_call_of method n z)) f

-- what is left at a place of a list
drop_some : (xs : List Touch) (i : ℕ) (x : Touch) → slice_get xs i ≡ Some x → drop i xs ≡ x ∷ drop (i + 1) xs
drop_some xs i x e =
    let lt : i < length xs = slice_get_within xs i x e in
    let read : slice_get xs i ≡ Some (get_or xs i x) = slice_get-get_or xs i x lt in
    let is : get_or xs i x ≡ x = cc in
    rw (add-one, drop-cons xs i x lt, is) refl

none_is_some : (o : Option Touch) (x : Touch) → o ≡ None → o ≡ Some x → ⊥
none_is_some o x e f = cc

drop_none : (xs : List Touch) (i : ℕ) → slice_get xs i ≡ None → drop i xs ≡ []
drop_none xs i e = ⊎_elim (λ w. absurd (none_is_some (slice_get xs i) w.0 e w.2)) (λ w. drop_all i xs w.0) (slice_get_cases xs i).1

-- the next arc
next_by : (d : Discharge) (walk : Walk) (arc : Touch) (act : Act) (arcs : List Touch) → arcs ≡ arc ∷ drop (walk.at + 1) (lists_of d walk.list) → act ≡ acts.Call (room_of arc.number) (flow arc.number)
    → MovesTo d (along (ends_of d) walk.node walk.height arcs walk.excess walk.least) (acts_over (length arcs)) act (stages.AfterFlow (record walk { at = walk.at + 1 }) arc)
next_by d walk arc act arcs e called =
    subst (λ (these : List Touch). MovesTo d (along (ends_of d) walk.node walk.height these walk.excess walk.least) (acts_over (length these)) act (stages.AfterFlow (record walk { at = walk.at + 1 }) arc)) (sym e)
    (calls d arc.number (flow arc.number) _ _ act _ called (λ reply. refl) (omega arith))

pub next_arc : (d : Discharge) (walk : Walk) (arc : Touch) (act : Act) → slice_get (lists_of d walk.list) walk.at ≡ Some arc → act ≡ acts.Call (room_of arc.number) (flow arc.number)
    → MovesTo d (onward_of d walk walk.excess walk.least) (acts_onward d walk) act (stages.AfterFlow (record walk { at = walk.at + 1 }) arc)
next_arc d walk arc act e called = next_by d walk arc act _ (drop_some _ walk.at arc e) called

-- after the last arc
rise_by : (d : Discharge) (walk : Walk) (o : Option ℤ) (arcs : List Touch) (least : ℤ) (act : Act) → arcs ≡ [] → o ≡ Some least → act ≡ acts.Call (room_of walk.node) (relabel walk.node (int_wrapping_add w64 least (pos 1)))
    → MovesTo d (along (ends_of d) walk.node walk.height arcs walk.excess o) (acts_over (length arcs)) act (stages.AfterRelabel walk.node)
rise_by d walk o arcs least act e is called =
    subst (λ (these : List Touch). MovesTo d (along (ends_of d) walk.node walk.height these walk.excess o) (acts_over (length these)) act (stages.AfterRelabel walk.node)) (sym e)
    (subst (λ (some : Option ℤ). MovesTo d (rise walk.node some) (acts_over 0) act (stages.AfterRelabel walk.node)) (sym is)
    (calls d walk.node _ _ _ act _ called (λ reply. refl) (omega arith)))

pub rises : (d : Discharge) (walk : Walk) (least : ℤ) (act : Act) → slice_get (lists_of d walk.list) walk.at ≡ None → walk.least ≡ Some least → act ≡ acts.Call (room_of walk.node) (relabel walk.node (int_wrapping_add w64 least (pos 1)))
    → MovesTo d (onward_of d walk walk.excess walk.least) (acts_onward d walk) act (stages.AfterRelabel walk.node)
rises d walk least act e is called = rise_by d walk walk.least _ least act (drop_none _ walk.at e) is called

end_by : (d : Discharge) (walk : Walk) (o : Option ℤ) (arcs : List Touch) → arcs ≡ [] → o ≡ None
    → MovesTo d (along (ends_of d) walk.node walk.height arcs walk.excess o) (acts_over (length arcs)) acts.Done stages.End
end_by d walk o arcs e is =
    subst (λ (these : List Touch). MovesTo d (along (ends_of d) walk.node walk.height these walk.excess o) (acts_over (length these)) acts.Done stages.End) (sym e)
    (subst (λ (none : Option ℤ). MovesTo d (rise walk.node none) (acts_over 0) acts.Done stages.End) (sym is) (moves_to_end _ _))

pub stays : (d : Discharge) (walk : Walk) → slice_get (lists_of d walk.list) walk.at ≡ None → walk.least ≡ None → MovesTo d (onward_of d walk walk.excess walk.least) (acts_onward d walk) acts.Done stages.End
stays d walk e is = end_by d walk walk.least _ (drop_none _ walk.at e) is

-- after the flow f of an arc
pub no_residual : (d : Discharge) (walk : Walk) (arc : Touch) (f : ℤ) (act : Act) (stage : Stage) → int_le (residual arc f) (pos 0) ≡ true
    → MovesTo d (onward_of d walk walk.excess walk.least) (acts_onward d walk) act stage
    → MovesTo d (after_flow (ends_of d) walk.node walk.height arc f walk.excess walk.least (onward_of d walk)) (acts_onward d walk + 5) act stage
no_residual d walk arc f act stage e moves = moves_if_true _ _ _ _ act stage e (moves_within _ _ _ act stage (omega arith) moves)

pub some_residual : (d : Discharge) (walk : Walk) (arc : Touch) (f r : ℤ) (act : Act) → r ≡ residual arc f → int_le r (pos 0) ≡ false → act ≡ acts.Call (room_of arc.other) (height arc.other)
    → MovesTo d (after_flow (ends_of d) walk.node walk.height arc f walk.excess walk.least (onward_of d walk)) (acts_onward d walk + 5) act (stages.AfterOther walk arc r)
some_residual d walk arc f r act is e called =
    moves_if_false _ _ _ _ act _ (subst (λ (z : ℤ). int_le z (pos 0) ≡ false) is e)
    (calls d arc.other _ _ _ act _ called (λ reply. ap (λ (z : ℤ). after_height (ends_of d) walk.node walk.height arc z reply.p walk.excess walk.least (onward_of d walk)) is) (omega arith))

-- after the height k of the other end
pub not_just_above : (d : Discharge) (walk : Walk) (arc : Touch) (r k : ℤ) (act : Act) (stage : Stage) → is_just_above walk.height k ≡ false
    → MovesTo d (onward_of d walk walk.excess (Some (lesser walk.least k))) (acts_onward d walk) act stage
    → MovesTo d (after_height (ends_of d) walk.node walk.height arc r k walk.excess walk.least (onward_of d walk)) (acts_onward d walk + 4) act stage
not_just_above d walk arc r k act stage e moves = moves_if_false _ _ _ _ act stage e (moves_within _ _ _ act stage (omega arith) moves)

pub just_above : (d : Discharge) (walk : Walk) (arc : Touch) (r k x : ℤ) (act : Act) → is_just_above walk.height k ≡ true → x ≡ int_min walk.excess r
    → act ≡ acts.Call (room_of arc.number) (send arc.number (sent_along arc x))
    → MovesTo d (after_height (ends_of d) walk.node walk.height arc r k walk.excess walk.least (onward_of d walk)) (acts_onward d walk + 4) act (stages.AfterSend walk arc x)
just_above d walk arc r k x act e is called =
    moves_if_true _ _ _ _ act _ e
    (subst (λ (z : ℤ). MovesTo d (sending (ends_of d) walk.node walk.height arc z walk.excess walk.least (onward_of d walk)) (acts_onward d walk + 4) act (stages.AfterSend walk arc x)) is
    (calls d arc.number _ _ _ act _ called (λ reply. refl) (omega arith)))

-- after both excesses were told, at the source or the sink
pub at_terminal : (d : Discharge) (walk : Walk) (arc : Touch) (x : ℤ) (act : Act) (stage : Stage) → is_terminal (ends_of d) arc.other ≡ true
    → MovesTo d (unless_spent (int_wrapping_sub w64 walk.excess x) walk.least (onward_of d walk)) (acts_onward d walk) act stage
    → MovesTo d (after_gains (ends_of d) walk.node walk.height arc x walk.excess walk.least (onward_of d walk)) (acts_onward d walk + 1) act stage
at_terminal d walk arc x act stage e moves =
    subst (λ (t : Bool). MovesTo d (push_unless t arc.other (unless_spent (int_wrapping_sub w64 walk.excess x) walk.least (onward_of d walk))) (acts_onward d walk + 1) act stage) (sym e)
    (moves_within _ _ _ act stage (omega arith) moves)
