-- The start, in plain words.
use Rattle.std.specs.Prelude.{◌≡◌, ℕ, suc, ◌<◌, ◌≤◌, ℤ, pos, ◌+ℤ◌, ◌-ℤ◌, neg_ℤ, Bool, true, false, nat_eq, if◌then◌else◌, List, [], ◌∷◌, FitsSigned, refl}
use Rattle.std.proofs.Common.{sym, ◌∙◌, ap, subst, arith}
use Rattle.std.proofs.lemmas.Int.{ints, SFits-int_wrap, int_wrap-add_left, int_wrap-add_right, wrapping_add_is, wrapping_neg_is}
use Rattle.std.proofs.lemmas.Bool.Decides.{nat_tests}
use Rattle.std.specs.List.{AllByRecursion}
use Rattle.std.specs.Cmp.{signed_Decides}
use Rattle.std.specs.Int.{w64, int_wrap, int_wrapping_add}
use Rattle.std.specs.Ordering.{int_eq}
use Rattle.gx_base.specs.FlowKind.{height_sort, excess_sort, flow_sort}
use Rattle.gx_base.specs.States.{State, number_at, with_number}
use Rattle.gx_base.proofs.CallerLemmas.{same_row-sort, number_at-same}
use Rattle.flow_files.specs.declared.network.Arc.{Arc}
use Rattle.flow_files.specs.Networks.{Net}
use Rattle.preflow_push.specs.FlowCalls.{room_of, minus}
use Rattle.preflow_push.specs.FlowStates.{height_in, excess_in, flow_in}
use Rattle.preflow_push.specs.Starts.{set_in, with_height, with_gain, with_flow, filled, filled_from, poured, empty_rooms, start_states}
use Rattle.preflow_push.specs.StartLaw.{carried, AreCarried, brought, balance}
use Rattle.preflow_push.proofs.start_states.FlowWrites.{set_in-other, gain-other, flow_in-filled, nothing_at_first}

-- ---- a write is seen in its row

same_room : (room : ℕ) (t s : State) → (if nat_eq room room then t else s) ≡ t
same_room room t s = ap (λ (b : Bool). if b then t else s) (let e : nat_eq room room ≡ true = grind (arith, nat_tests) in e)

set_in-same : (sort : ℕ) (number x : ℤ) (s : ℕ → State) → number_at (set_in sort number x s (room_of number)) (sort, number) ≡ x
set_in-same sort number x s =
    ap (λ (t : State). number_at t (sort, number)) (same_room (room_of number) (with_number (s (room_of number)) (sort, number) x) (s (room_of number)))
    ∙ number_at-same (s (room_of number)) (sort, number) x

same_is : (q number : ℤ) → int_eq q number ≡ true → q ≡ number
same_is q number e = (signed_Decides q number).0 e

set_in-at : (sort : ℕ) (number q x : ℤ) (s : ℕ → State) (b : Bool) → int_eq q number ≡ b
    → number_at (set_in sort number x s (room_of q)) (sort, q) ≡ (if b then x else number_at (s (room_of q)) (sort, q))
set_in-at sort number q x s true e = subst (λ (k : ℤ). number_at (set_in sort number x s (room_of k)) (sort, k) ≡ x) (sym (same_is q number e)) (set_in-same sort number x s)
set_in-at sort number q x s false e = set_in-other sort sort number q x s (same_row-sort sort q number ∙ e)

-- ---- heights

height_in-filled : (s : ℕ → State) (arc : Arc) (number q : ℤ) → height_in (filled number arc s) q ≡ height_in s q
height_in-filled s arc number q =
    gain-other height_sort arc.to q arc.cap (with_gain arc.from (minus arc.cap) (with_flow number arc.cap s)) refl
    ∙ gain-other height_sort arc.from q (minus arc.cap) (with_flow number arc.cap s) refl
    ∙ set_in-other height_sort flow_sort number q arc.cap s refl

height_by : (source number q : ℤ) (arc : Arc) (s : ℕ → State) (b : Bool) → height_in (if b then filled number arc s else s) q ≡ height_in s q
height_by source number q arc s true = height_in-filled s arc number q
height_by source number q arc s false = refl

height_in-poured : (source : ℤ) (n : ℕ) (arcs : List Arc) (s : ℕ → State) (q : ℤ) → height_in (poured source n arcs s) q ≡ height_in s q
height_in-poured source n [] s q = refl
height_in-poured source n (arc ∷ arcs) s q = height_in-poured source (suc n) arcs (filled_from source (pos n) arc s) q ∙ height_by source (pos n) q arc s (int_eq arc.from source)

pub heights-start : (net : Net) (q : ℤ) → height_in (start_states net) q ≡ (if int_eq q net.source then net.nodes else pos 0)
heights-start net q = height_in-poured net.source 1 net.arcs (with_height net.source net.nodes empty_rooms) q ∙ at_first (int_eq q net.source) refl
  where
    at_first : (b : Bool) → int_eq q net.source ≡ b → height_in (with_height net.source net.nodes empty_rooms) q ≡ (if b then net.nodes else pos 0)
    at_first true e = set_in-at height_sort net.source q net.nodes empty_rooms true e
    at_first false e = nothing_at_first net.source net.nodes q height_sort (same_row-sort height_sort q net.source ∙ e)

-- ---- flows

NothingFrom : ℕ → (ℕ → State) → Type 0
NothingFrom n s = (m : ℕ) → n ≤ m → flow_in s (pos m) ≡ pos 0

apart_numbers : (m n : ℕ) → (m ≡ n → ⊥) → int_eq (pos m) (pos n) ≡ false
apart_numbers m n h = grind (arith, nat_tests)

flow_by : (source : ℤ) (number q : ℤ) (arc : Arc) (s : ℕ → State) (b : Bool) → int_eq q number ≡ false → flow_in (if b then filled number arc s else s) q ≡ flow_in s q
flow_by source number q arc s true apart = flow_in-filled s arc number q apart
flow_by source number q arc s false apart = refl

flow_in-before : (source : ℤ) (n m : ℕ) (arcs : List Arc) (s : ℕ → State) → m < n → flow_in (poured source n arcs s) (pos m) ≡ flow_in s (pos m)
flow_in-before source n m [] s lt = refl
flow_in-before source n m (arc ∷ arcs) s lt =
    flow_in-before source (suc n) m arcs (filled_from source (pos n) arc s) (omega arith)
    ∙ flow_by source (pos n) (pos m) arc s (int_eq arc.from source) (apart_numbers m n (λ e. omega (arith, e, lt)))

flow_in-itself : (s : ℕ → State) (arc : Arc) (number : ℤ) → flow_in (filled number arc s) number ≡ arc.cap
flow_in-itself s arc number =
    gain-other flow_sort arc.to number arc.cap (with_gain arc.from (minus arc.cap) (with_flow number arc.cap s)) refl
    ∙ gain-other flow_sort arc.from number (minus arc.cap) (with_flow number arc.cap s) refl
    ∙ set_in-same flow_sort number arc.cap s

carried_by : (number : ℤ) (arc : Arc) (s : ℕ → State) (b : Bool) → flow_in s number ≡ pos 0 → flow_in (if b then filled number arc s else s) number ≡ (if b then arc.cap else pos 0)
carried_by number arc s true none = flow_in-itself s arc number
carried_by number arc s false none = none

nothing_more : (source : ℤ) (n : ℕ) (arc : Arc) (s : ℕ → State) → NothingFrom n s → NothingFrom (suc n) (filled_from source (pos n) arc s)
unfolding NothingFrom
nothing_more source n arc s none m le =
    flow_by source (pos n) (pos m) arc s (int_eq arc.from source) (apart_numbers m n (λ e. omega (arith, e, le))) ∙ none m (omega arith)

flows-poured : (source : ℤ) (n : ℕ) (arcs : List Arc) (s : ℕ → State) → NothingFrom n s → AreCarried source (flow_in (poured source n arcs s)) n arcs
unfolding NothingFrom
flows-poured source n [] s none = tt
flows-poured source n (arc ∷ arcs) s none = (
  flow_in-before source (suc n) n arcs (filled_from source (pos n) arc s) (omega arith) ∙ carried_by (pos n) arc s (int_eq arc.from source) (none n (omega arith)),
  flows-poured source (suc n) arcs (filled_from source (pos n) arc s) (nothing_more source n arc s none),
)

pub flows-start : (net : Net) → AreCarried net.source (flow_in (start_states net)) 1 net.arcs
unfolding NothingFrom
flows-start net = flows-poured net.source 1 net.arcs (with_height net.source net.nodes empty_rooms) (λ m le. nothing_at_first net.source net.nodes (pos m) flow_sort refl)

-- ---- excesses

-- a gain, where the excess that stands there is the 64 bits of a number
added : (total x : ℤ) → FitsSigned w64 x → int_wrapping_add w64 (int_wrap w64 total) x ≡ int_wrap w64 (total +ℤ x)
added total x fits = wrapping_add_is w64 (int_wrap w64 total) x (SFits-int_wrap w64 total) fits ∙ int_wrap-add_left w64 total x

lost : (total x : ℤ) → FitsSigned w64 x → int_wrapping_add w64 (int_wrap w64 total) (minus x) ≡ int_wrap w64 (total +ℤ neg_ℤ x)
lost total x fits =
    let negated : minus x ≡ int_wrap w64 (neg_ℤ x) = wrapping_neg_is w64 x fits in
    ap (int_wrapping_add w64 (int_wrap w64 total)) negated
    ∙ added total (int_wrap w64 (neg_ℤ x)) (SFits-int_wrap w64 (neg_ℤ x))
    ∙ int_wrap-add_right w64 total (neg_ℤ x)

excess_in-gain : (node q x : ℤ) (s : ℕ → State) (b : Bool) → int_eq q node ≡ b → excess_in (with_gain node x s) q ≡ (if b then int_wrapping_add w64 (excess_in s q) x else excess_in s q)
excess_in-gain node q x s true e =
    set_in-at excess_sort node q (int_wrapping_add w64 (excess_in s node) x) s true e ∙ ap (λ (k : ℤ). int_wrapping_add w64 (excess_in s k) x) (sym (same_is q node e))
excess_in-gain node q x s false e = set_in-at excess_sort node q (int_wrapping_add w64 (excess_in s node) x) s false e

-- what a full arc does to the excess of a node, by the ends that the node is
after_both : (e cap total : ℤ) (to from : Bool) → FitsSigned w64 cap → e ≡ int_wrap w64 total
    → (if to then int_wrapping_add w64 (if from then int_wrapping_add w64 e (minus cap) else e) cap else (if from then int_wrapping_add w64 e (minus cap) else e))
    ≡ int_wrap w64 (total +ℤ ((if to then cap else pos 0) -ℤ (if from then cap else pos 0)))
after_both e cap total true true fits is =
    ap (λ (k : ℤ). int_wrapping_add w64 (int_wrapping_add w64 k (minus cap)) cap) is ∙ ap (λ (k : ℤ). int_wrapping_add w64 k cap) (lost total cap fits) ∙ added (total +ℤ neg_ℤ cap) cap fits
    ∙ ap (int_wrap w64) (omega (arith, ints))
after_both e cap total true false fits is = ap (λ (k : ℤ). int_wrapping_add w64 k cap) is ∙ added total cap fits ∙ ap (int_wrap w64) (omega (arith, ints))
after_both e cap total false true fits is = ap (λ (k : ℤ). int_wrapping_add w64 k (minus cap)) is ∙ lost total cap fits ∙ ap (int_wrap w64) (omega (arith, ints))
after_both e cap total false false fits is = is ∙ ap (int_wrap w64) (omega (arith, ints))

excess_in-full : (number q total : ℤ) (arc : Arc) (s : ℕ → State) → FitsSigned w64 arc.cap → excess_in s q ≡ int_wrap w64 total → excess_in (filled number arc s) q ≡ int_wrap w64 (total +ℤ brought q arc arc.cap)
excess_in-full number q total arc s fits is =
    excess_in-gain arc.to q arc.cap (with_gain arc.from (minus arc.cap) (with_flow number arc.cap s)) (int_eq q arc.to) refl
    ∙ ap (λ (k : ℤ). if int_eq q arc.to then int_wrapping_add w64 k arc.cap else k)
    (excess_in-gain arc.from q (minus arc.cap) (with_flow number arc.cap s) (int_eq q arc.from) refl
    ∙ ap (λ (k : ℤ). if int_eq q arc.from then int_wrapping_add w64 k (minus arc.cap) else k) (set_in-other excess_sort flow_sort number q arc.cap s refl))
    ∙ after_both (excess_in s q) arc.cap total (int_eq q arc.to) (int_eq q arc.from) fits is

nothing_brought : (q : ℤ) (arc : Arc) → brought q arc (pos 0) ≡ pos 0
nothing_brought q arc = by_ends (int_eq q arc.to) (int_eq q arc.from)
  where
    by_ends : (to from : Bool) → (if to then pos 0 else pos 0) -ℤ (if from then pos 0 else pos 0) ≡ pos 0
    by_ends true true = refl
    by_ends true false = refl
    by_ends false true = refl
    by_ends false false = refl

excess_by : (number q total : ℤ) (arc : Arc) (s : ℕ → State) (b : Bool) → FitsSigned w64 arc.cap → excess_in s q ≡ int_wrap w64 total
    → excess_in (if b then filled number arc s else s) q ≡ int_wrap w64 (total +ℤ brought q arc (if b then arc.cap else pos 0))
excess_by number q total arc s true fits is = excess_in-full number q total arc s fits is
excess_by number q total arc s false fits is = is ∙ ap (int_wrap w64) (let none = nothing_brought q arc in omega (arith, ints, none))

excesses-poured : (source : ℤ) (n : ℕ) (arcs : List Arc) (s : ℕ → State) (flows : ℤ → ℤ) (q total : ℤ) → AllByRecursion (λ (arc : Arc). FitsSigned w64 arc.cap) arcs
    → AreCarried source flows n arcs → excess_in s q ≡ int_wrap w64 total → excess_in (poured source n arcs s) q ≡ int_wrap w64 (total +ℤ balance flows q n arcs)
excesses-poured source n [] s flows q total fits flow is = is ∙ ap (int_wrap w64) (omega (arith, ints))
excesses-poured source n (arc ∷ arcs) s flows q total fits flow is =
    let first : excess_in (filled_from source (pos n) arc s) q ≡ int_wrap w64 (total +ℤ brought q arc (carried source arc)) =
    excess_by (pos n) q total arc s (int_eq arc.from source) fits.0 is in
    excesses-poured source (suc n) arcs (filled_from source (pos n) arc s) flows q (total +ℤ brought q arc (carried source arc)) fits.1 flow.1 first
    ∙ ap (λ (x : ℤ). int_wrap w64 ((total +ℤ brought q arc x) +ℤ balance flows q (suc n) arcs)) (sym flow.0)
    ∙ ap (int_wrap w64) (sum_of total (brought q arc (flows (pos n))) (balance flows q (suc n) arcs))
  where
    sum_of : (a b c : ℤ) → (a +ℤ b) +ℤ c ≡ a +ℤ (b +ℤ c)
    sum_of a b c = omega (arith, ints)

pub excesses-start : (net : Net) (q : ℤ) → AllByRecursion (λ (arc : Arc). FitsSigned w64 arc.cap) net.arcs → excess_in (start_states net) q ≡ int_wrap w64 (balance (flow_in (start_states net)) q 1 net.arcs)
unfolding int_wrap
excesses-start net q fits =
    excesses-poured net.source 1 net.arcs (with_height net.source net.nodes empty_rooms) (flow_in (start_states net)) q (pos 0) fits (flows-start net) (nothing_at_first net.source net.nodes q excess_sort refl ∙ refl)
    ∙ ap (int_wrap w64) (nothing_and (balance (flow_in (start_states net)) q 1 net.arcs))
  where
    nothing_and : (a : ℤ) → pos 0 +ℤ a ≡ a
    nothing_and a = omega (arith, ints)
