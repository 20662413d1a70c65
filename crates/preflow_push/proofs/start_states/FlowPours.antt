-- The arcs out of the source are filled one after another.
use Rattle.std.specs.Prelude.{◌≡◌, ℕ, suc, ◌+◌, ◌<◌, ℤ, pos, Bool, true, false, not, ◌&&◌, ◌||◌, if◌then◌else◌, List, [], ◌∷◌, length, drop, int_lt, refl}
use Rattle.std.proofs.Common.{sym, ◌∙◌, ap, subst, arith, get_or, add-one}
use Rattle.std.proofs.Math.Seq.{drop-cons}
use Rattle.std.specs.List.{list_any}
use Rattle.std.specs.Ordering.{int_eq}
use Rattle.std.specs.Cmp.{signed_Decides}
use Rattle.gx_base.specs.States.{State}
use Rattle.gx_base.specs.FlowKind.{excess_sort}
use Rattle.flow_files.specs.declared.network.Arc.{Arc}
use Rattle.flow_files.specs.Networks.{Net}
use Rattle.preflow_push.specs.FlowStates.{excess_in, flow_in}
use Rattle.preflow_push.specs.Discharge.{is_terminal, terminals}
use Rattle.preflow_push.specs.Starts.{filled, filled_from, poured, with_height, empty_rooms, start_states, is_active}
use Rattle.preflow_push.proofs.start_states.FlowWrites.{flow_in-filled, excess_in-filled, nothing_at_first}

pub filled_when : (source n m : ℤ) (arc : Arc) (s t : ℕ → State) → int_eq arc.from source ≡ true → n ≡ m → t ≡ filled n arc s → t ≡ filled_from source m arc s
filled_when source n m arc s t leaves e is = is ∙ (λ i. filled (e i) arc s) ∙ sym (ap (λ (b : Bool). if b then filled m arc s else s) leaves)

pub kept_else : (source m : ℤ) (arc : Arc) (s : ℕ → State) → int_eq arc.from source ≡ false → s ≡ filled_from source m arc s
kept_else source m arc s stays = sym (ap (λ (b : Bool). if b then filled m arc s else s) stays)

pub poured_more : (source n : ℤ) (at : ℕ) (arcs : List Arc) (s t w : ℕ → State) (d : Arc) → n ≡ pos (at + 1) → at < length arcs → poured source (at + 1) (drop at arcs) s ≡ w → t ≡ filled_from source n (get_or arcs at d) s
    → poured source (at + 1 + 1) (drop (at + 1) arcs) t ≡ w
poured_more source n at arcs s t w d number lt e made =
    let is : t ≡ filled_from source (pos (at + 1)) (get_or arcs at d) s = made ∙ (λ i. filled_from source (number i) (get_or arcs at d) s) in
    let next : drop at arcs ≡ get_or arcs at d ∷ drop (at + 1) arcs = rw (add-one, drop-cons arcs at d lt) refl in
    let first : poured source (at + 1) (get_or arcs at d ∷ drop (at + 1) arcs) s ≡ w = subst (λ (these : List Arc). poured source (at + 1) these s ≡ w) next e in
    let count : at + 1 + 1 ≡ suc (at + 1) = omega arith in
    (λ i. poured source (count i) (drop (at + 1) arcs) (is i)) ∙ first

-- arcs that come later carry nothing yet
apart_numbers : (m n : ℕ) → n < m → int_eq (pos m) (pos n) ≡ false
apart_numbers m n lt = grind arith

flow_by : (source : ℤ) (number q : ℤ) (arc : Arc) (s : ℕ → State) (b : Bool) → int_eq q number ≡ false → flow_in (if b then filled number arc s else s) q ≡ flow_in s q
flow_by source number q arc s true apart = flow_in-filled s arc number q apart
flow_by source number q arc s false apart = refl

pub no_flow_more : (source n : ℤ) (at m : ℕ) (arc : Arc) (s t : ℕ → State) → n ≡ pos (at + 1) → at + 1 < m → flow_in s (pos m) ≡ pos 0 → t ≡ filled_from source n arc s → flow_in t (pos m) ≡ pos 0
no_flow_more source n at m arc s t number lt none made =
    let is : t ≡ filled_from source (pos (at + 1)) arc s = made ∙ (λ i. filled_from source (number i) arc s) in
    ap (λ (u : ℕ → State). flow_in u (pos m)) is ∙ flow_by source (pos (at + 1)) (pos m) arc s (int_eq arc.from source) (apart_numbers m (at + 1) lt) ∙ none

-- only nodes that arcs enter gain
or_left : (a b : Bool) → a || b ≡ false → a ≡ false
or_left true b e = e
or_left false b e = refl

or_right : (a b : Bool) → a || b ≡ false → b ≡ false
or_right true b e = absurd (cc)
or_right false b e = e

same_test : (q x y : ℤ) → int_eq x y ≡ true → int_eq q x ≡ int_eq q y
same_test q x y e = ap (int_eq q) ((signed_Decides x y).0 e)

excess_by : (source number q : ℤ) (arc : Arc) (s : ℕ → State) (b : Bool) → int_eq arc.from source ≡ b → int_eq q source ≡ false → int_eq q arc.to ≡ false → excess_in (if b then filled number arc s else s) q ≡ excess_in s q
excess_by source number q arc s true e from to = excess_in-filled s arc number q (same_test q arc.from source e ∙ from) to
excess_by source number q arc s false e from to = refl

pub excess_in-poured : (source : ℤ) (n : ℕ) (arcs : List Arc) (s : ℕ → State) (q : ℤ) → int_eq q source ≡ false → list_any (λ (arc : Arc). int_eq q arc.to) arcs ≡ false → excess_in (poured source n arcs s) q ≡ excess_in s q
excess_in-poured source n [] s q from none = refl
excess_in-poured source n (arc ∷ arcs) s q from none =
    excess_in-poured source (suc n) arcs (filled_from source (pos n) arc s) q from (or_right (int_eq q arc.to) (list_any (λ (a : Arc). int_eq q a.to) arcs) none)
    ∙ excess_by source (pos n) q arc s (int_eq arc.from source) refl from (or_left (int_eq q arc.to) (list_any (λ (a : Arc). int_eq q a.to) arcs) none)

not_terminal : (a b c : Bool) → not (a || b) && c ≡ true → a ≡ false
not_terminal true b c e = absurd (cc)
not_terminal false b c e = refl

has_more : (a c : Bool) → a && c ≡ true → c ≡ true
has_more true c e = e
has_more false c e = absurd (cc)

entered_by : (net : Net) (q : ℤ) (b : Bool) → list_any (λ (arc : Arc). int_eq q arc.to) net.arcs ≡ b → is_active net (start_states net) q ≡ true → b ≡ true
entered_by net q true e active = refl
entered_by net q false e active =
    let zero_excess : excess_in (start_states net) q ≡ pos 0 =
    excess_in-poured net.source 1 net.arcs (with_height net.source net.nodes empty_rooms) q (not_terminal (int_eq q net.source) (int_eq q net.sink) (int_lt (pos 0) (excess_in (start_states net) q)) active) e
    ∙ nothing_at_first net.source net.nodes q excess_sort refl in
    let positive : int_lt (pos 0) (excess_in (start_states net) q) ≡ true = has_more (not (is_terminal (terminals net) q)) (int_lt (pos 0) (excess_in (start_states net) q)) active in
    sym (ap (int_lt (pos 0)) zero_excess) ∙ positive

-- a node for which there is something to do at the start is one that an arc enters
pub active_is_entered : (net : Net) (q : ℤ) → is_active net (start_states net) q ≡ true → list_any (λ (arc : Arc). int_eq q arc.to) net.arcs ≡ true
active_is_entered net q active = entered_by net q (list_any (λ (arc : Arc). int_eq q arc.to) net.arcs) refl active
