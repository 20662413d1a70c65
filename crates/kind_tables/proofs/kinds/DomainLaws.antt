-- The tables of domain books: the precise one is valid, and the others are as they should be.
use Rattle.std.specs.Prelude.{◌≡◌, ℤ, Bool, true, false, not, ◌&&◌, ◌||◌, refl, ◌⊎◌}
use Rattle.std.proofs.Common.{sym, ◌∙◌, ap, subst, inl, inr}
use Rattle.std.specs.Ordering.{int_eq}
use Rattle.gx_base.specs.declared.calls.Call.{Call}
use Rattle.gx_base.specs.declared.kinds.Kind.TheVariants.{Domains}
use Rattle.gx_base.specs.Kinds.{kind_number}
use Rattle.gx_base.specs.Below.{IsBelow}
use Rattle.gx_base.proofs.CallerLemmas.{IsBelow-itself, False-IsBelow, domain_deed-foreign, with-number_at, IsSum, dom_stays, aimed-same, aimed-IsCall, domain_next-HoldsNumbers}
use Rattle.gx_base.specs.Conditions.{holds}
use Rattle.gx_base.specs.States.{State, number_at, with_number, HoldsNumbers}
use Rattle.gx_base.specs.Meanings.{IsCall, number_reply}
use Rattle.gx_base.specs.RegisterDeeds.{Deed, Reads, Adds, Sets, On, next_by, reply_by}
use Rattle.gx_base.specs.DomainKind.{DomainDeed, Weigh, Total, Move, Credit, Sum, Nothing, domain_deed, dom, domain_use, aimed, domain_next, domain_meaning}
use Rattle.gx_base.specs.Tables.{uses_state}
use Rattle.cond_lattice.specs.Simple.{strengthened}
use Rattle.kind_tables.specs.DomainTables.{precise_domain, simple_domain, reader_writer_domain, domain_tables}
use Rattle.kind_tables.proofs.swapping.Effects.{Effect, SwapsBy, first_still, second_still, both_still, same_int, both, not_true}
use Rattle.kind_tables.proofs.swapping.UseSwaps.{UsesSwap, swap_numbers_differ, swap_either, deed_test}
use Rattle.kind_tables.proofs.swapping.Validity.{TableLaws, valid_from}
use Rattle.kind_tables.proofs.kinds.TableFacts.{TableFacts, NoneIsFalse, keeps}

-- a call of a domain book, as an effect
abbrev pub domain_effect : DomainDeed → Call → Effect
domain_effect d c = record { next = λ s. domain_next d s c; reply = λ s. reply_by (domain_use d) s (aimed d s c) }

-- what a method on sums does with the sum
abbrev pub sum_deed : DomainDeed → Deed
sum_deed Weigh = Adds
sum_deed Credit = Adds
sum_deed _ = Reads

use_is : (d : DomainDeed) → IsSum d → On 1 (sum_deed d) ≡ domain_use d
use_is Weigh i = refl
use_is Total i = refl
use_is Move i = absurd i
use_is Credit i = refl
use_is Sum i = refl
use_is Nothing i = absurd i

-- two deeds on sums aim as they do in the first state
sums_swap : (d e : DomainDeed) → IsSum d → IsSum e → (s : State) (a b : Call) → UsesSwap (domain_use d) (domain_use e) s (aimed d s a) (aimed e s b) → SwapsBy (domain_effect d a) (domain_effect e b) s
sums_swap d e i j s a b w =
    let ea : aimed e (domain_next d s a) b ≡ aimed e s b = aimed-same e s (domain_next d s a) b (dom_stays d i s a b.a) in
    let eb : aimed d (domain_next e s b) a ≡ aimed d s a = aimed-same d s (domain_next e s b) a (dom_stays e j s b a.a) in
    record {
      second = w.second ∙ ap (reply_by (domain_use e) (domain_next d s a)) (sym ea);
      first = ap (reply_by (domain_use d) (domain_next e s b)) eb ∙ w.first;
      end = ap (next_by (domain_use d) (domain_next e s b)) eb ∙ w.end ∙ ap (next_by (domain_use e) (domain_next d s a)) (sym ea);
    }

-- they use two sums, or pass the test on one
abbrev pub SumPair : (d e : DomainDeed) (s : State) (a b : Call) → Type 0
SumPair d e s a b =
    (int_eq (aimed d s a).a (aimed e s b).a ≡ false) ⊎ (deed_test (sum_deed d) (sum_deed e) (number_at s (1, (aimed d s a).a)) (aimed d s a).b (aimed e s b).b ≡ true)

sum_pair_swaps : (d e : DomainDeed) → IsSum d → IsSum e → (s : State) (a b : Call) → HoldsNumbers s → IsCall a → IsCall b → SumPair d e s a b → SwapsBy (domain_effect d a) (domain_effect e b) s
sum_pair_swaps d e i j s a b h fa fb p =
    let w : UsesSwap (On 1 (sum_deed d)) (On 1 (sum_deed e)) s (aimed d s a) (aimed e s b) = swap_either 1 (sum_deed d) (sum_deed e) s (aimed d s a) (aimed e s b) h (aimed-IsCall d s a h fa) (aimed-IsCall e s b h fb) p in
    sums_swap d e i j s a b (subst (λ u. UsesSwap u (domain_use e) s (aimed d s a) (aimed e s b)) (use_is d i) (subst (λ v. UsesSwap (On 1 (sum_deed d)) v s (aimed d s a) (aimed e s b)) (use_is e j) w))

-- a move to where the element is changes nothing
move_still : (s : State) (c : Call) → HoldsNumbers s → int_eq (dom s c.a) c.b ≡ true → domain_next Move s c ≡ s
move_still s c h t = ap (with_number s (0, c.a)) (sym (same_int (dom s c.a) c.b t)) ∙ with-number_at s (0, c.a) h

move_first : (e : DomainDeed) → IsSum e → (s : State) (a b : Call) → HoldsNumbers s → IsCall b → int_eq (dom s a.a) a.b ≡ true → SwapsBy (domain_effect Move a) (domain_effect e b) s
move_first e j s a b h fb t =
    let stays : dom (domain_next e s b) a.a ≡ dom s a.a = dom_stays e j s b a.a in
    first_still (domain_effect Move a) (domain_effect e b) s (move_still s a h t)
    (move_still (domain_next e s b) a (domain_next-HoldsNumbers e s b h fb) (ap (λ x. int_eq x a.b) stays ∙ t)) (ap number_reply stays)

move_second : (d : DomainDeed) → IsSum d → (s : State) (a b : Call) → HoldsNumbers s → IsCall a → int_eq (dom (domain_next d s a) b.a) b.b ≡ true → SwapsBy (domain_effect d a) (domain_effect Move b) s
move_second d i s a b h fa t =
    let stays : dom (domain_next d s a) b.a ≡ dom s b.a = dom_stays d i s a b.a in
    second_still (domain_effect d a) (domain_effect Move b) s (move_still s b h (ap (λ x. int_eq x b.b) (sym stays) ∙ t))
    (move_still (domain_next d s a) b (domain_next-HoldsNumbers d s a h fa) t) (ap number_reply (sym stays))

words : (p q : Bool) → (p || not q) ≡ true → (q ≡ false) ⊎ (p ≡ true)
words true q e = inr refl
words false q e = inl (not_true q e)

other_or : (x y : Bool) → (not x || y) ≡ true → (x ≡ false) ⊎ (y ≡ true)
other_or true y e = inr e
other_or false y e = inl refl

move_move : (s : State) (a b : Call) → HoldsNumbers s → IsCall a → IsCall b
    → (int_eq a.a b.a ≡ false) ⊎ ((int_eq (dom s a.a) a.b && int_eq (dom (domain_next Move s a) b.a) b.b) ≡ true) → SwapsBy (domain_effect Move a) (domain_effect Move b) s
move_move s a b h fa fb (inl n) = swap_numbers_differ 0 0 Sets Sets s a b h fa fb n
move_move s a b h fa fb (inr t) =
    let p : (int_eq (dom s a.a) a.b ≡ true) × (int_eq (dom (domain_next Move s a) b.a) b.b ≡ true) = both _ _ t in
    let i : domain_next Move s a ≡ s = move_still s a h p.0 in
    both_still (domain_effect Move a) (domain_effect Move b) s i (move_still s b h (ap (λ u. int_eq (dom u b.a) b.b) (sym i) ∙ p.1))

-- the row of two methods, on two calls with their replies
abbrev pub Row : (d e : DomainDeed) (s : State) (a b : Call) → Type 0
Row d e s a b =
    holds (precise_domain d e) (record { call = a; reply = (domain_effect d a).reply s }) (record { call = b; reply = (domain_effect e b).reply (domain_next d s a) })
    (record { first = dom s a.a; second = dom s b.a }) ≡ true

swaps_by : (d e : DomainDeed) (s : State) (a b : Call) → HoldsNumbers s → IsCall a → IsCall b → Row d e s a b → SwapsBy (domain_effect d a) (domain_effect e b) s
swaps_by Weigh Weigh s a b h fa fb t = sum_pair_swaps Weigh Weigh tt tt s a b h fa fb (inr refl)
swaps_by Weigh Total s a b h fa fb t = sum_pair_swaps Weigh Total tt tt s a b h fa fb (words _ _ t)
swaps_by Weigh Move s a b h fa fb t = move_second Weigh tt s a b h fa t
swaps_by Weigh Credit s a b h fa fb t = sum_pair_swaps Weigh Credit tt tt s a b h fa fb (inr refl)
swaps_by Weigh Sum s a b h fa fb t = sum_pair_swaps Weigh Sum tt tt s a b h fa fb (words _ _ t)
swaps_by Weigh Nothing s a b h fa fb t = absurd (cc)
swaps_by Total Weigh s a b h fa fb t = sum_pair_swaps Total Weigh tt tt s a b h fa fb (words _ _ t)
swaps_by Total Total s a b h fa fb t = sum_pair_swaps Total Total tt tt s a b h fa fb (inr refl)
swaps_by Total Move s a b h fa fb t = move_second Total tt s a b h fa t
swaps_by Total Credit s a b h fa fb t = sum_pair_swaps Total Credit tt tt s a b h fa fb (words _ _ t)
swaps_by Total Sum s a b h fa fb t = sum_pair_swaps Total Sum tt tt s a b h fa fb (inr refl)
swaps_by Total Nothing s a b h fa fb t = absurd (cc)
swaps_by Move Weigh s a b h fa fb t = move_first Weigh tt s a b h fb t
swaps_by Move Total s a b h fa fb t = move_first Total tt s a b h fb t
swaps_by Move Move s a b h fa fb t = move_move s a b h fa fb (other_or _ _ t)
swaps_by Move Credit s a b h fa fb t = move_first Credit tt s a b h fb t
swaps_by Move Sum s a b h fa fb t = move_first Sum tt s a b h fb t
swaps_by Move Nothing s a b h fa fb t = absurd (cc)
swaps_by Credit Weigh s a b h fa fb t = sum_pair_swaps Credit Weigh tt tt s a b h fa fb (inr refl)
swaps_by Credit Total s a b h fa fb t = sum_pair_swaps Credit Total tt tt s a b h fa fb (words _ _ t)
swaps_by Credit Move s a b h fa fb t = move_second Credit tt s a b h fa t
swaps_by Credit Credit s a b h fa fb t = sum_pair_swaps Credit Credit tt tt s a b h fa fb (inr refl)
swaps_by Credit Sum s a b h fa fb t = sum_pair_swaps Credit Sum tt tt s a b h fa fb (other_or _ _ t)
swaps_by Credit Nothing s a b h fa fb t = absurd (cc)
swaps_by Sum Weigh s a b h fa fb t = sum_pair_swaps Sum Weigh tt tt s a b h fa fb (words _ _ t)
swaps_by Sum Total s a b h fa fb t = sum_pair_swaps Sum Total tt tt s a b h fa fb (inr refl)
swaps_by Sum Move s a b h fa fb t = move_second Sum tt s a b h fa t
swaps_by Sum Credit s a b h fa fb t = sum_pair_swaps Sum Credit tt tt s a b h fa fb (other_or _ _ t)
swaps_by Sum Sum s a b h fa fb t = sum_pair_swaps Sum Sum tt tt s a b h fa fb (inr refl)
swaps_by Sum Nothing s a b h fa fb t = absurd (cc)
swaps_by Nothing e s a b h fa fb t = absurd (cc)

-- no row with a move first names a state function
looks_back_sum : (d e : DomainDeed) → uses_state (precise_domain d e) ≡ true → IsSum d
looks_back_sum Weigh e u = tt
looks_back_sum Total e u = tt
looks_back_sum Credit e u = tt
looks_back_sum Sum e u = tt
looks_back_sum Nothing e u = absurd (cc)
looks_back_sum Move Weigh u = absurd (cc)
looks_back_sum Move Total u = absurd (cc)
looks_back_sum Move Move u = absurd (cc)
looks_back_sum Move Credit u = absurd (cc)
looks_back_sum Move Sum u = absurd (cc)
looks_back_sum Move Nothing u = absurd (cc)

-- beside a deed on a sum, no call changes a domain
second_sees : (d e : DomainDeed) → IsSum d → (s : State) (a b : Call) → HoldsNumbers s → Row d e s a b → (x : ℤ) → dom s x ≡ dom (domain_next e s b) x
second_sees d Weigh i s a b h t x = sym (dom_stays Weigh tt s b x)
second_sees d Total i s a b h t x = refl
second_sees d Credit i s a b h t x = sym (dom_stays Credit tt s b x)
second_sees d Sum i s a b h t x = refl
second_sees d Nothing i s a b h t x = refl
second_sees Weigh Move i s a b h t x = sym (ap (λ u. dom u x) (move_still s b h (ap (λ y. int_eq y b.b) (sym (dom_stays Weigh tt s a b.a)) ∙ t)))
second_sees Total Move i s a b h t x = sym (ap (λ u. dom u x) (move_still s b h t))
second_sees Credit Move i s a b h t x = sym (ap (λ u. dom u x) (move_still s b h (ap (λ y. int_eq y b.b) (sym (dom_stays Credit tt s a b.a)) ∙ t)))
second_sees Sum Move i s a b h t x = sym (ap (λ u. dom u x) (move_still s b h t))
second_sees Move Move i s a b h t x = absurd i
second_sees Nothing Move i s a b h t x = absurd i

first_sees : (d e : DomainDeed) → IsSum e → (s : State) (a b : Call) → HoldsNumbers s → Row d e s a b → (x : ℤ) → dom s x ≡ dom (domain_next d s a) x
first_sees Weigh e j s a b h t x = sym (dom_stays Weigh tt s a x)
first_sees Total e j s a b h t x = refl
first_sees Credit e j s a b h t x = sym (dom_stays Credit tt s a x)
first_sees Sum e j s a b h t x = refl
first_sees Nothing e j s a b h t x = refl
first_sees Move Weigh j s a b h t x = sym (ap (λ u. dom u x) (move_still s a h t))
first_sees Move Total j s a b h t x = sym (ap (λ u. dom u x) (move_still s a h t))
first_sees Move Credit j s a b h t x = sym (ap (λ u. dom u x) (move_still s a h t))
first_sees Move Sum j s a b h t x = sym (ap (λ u. dom u x) (move_still s a h t))
first_sees Move Move j s a b h t x = absurd j
first_sees Move Nothing j s a b h t x = absurd j

-- the precise table of domain books is valid
pub domain_table : TableLaws domain_meaning HoldsNumbers domain_tables.precise
domain_table = record {
  swaps = λ s a b h fa fb t. swaps_by (domain_deed a.method) (domain_deed b.method) s a b h fa fb t;
  sees_first = λ s a b h fa fb t l. second_sees (domain_deed a.method) (domain_deed b.method) (looks_back_sum (domain_deed a.method) (domain_deed l.0) l.1) s a b h t;
  sees_second = λ s a b h fa fb t l. first_sees (domain_deed a.method) (domain_deed b.method) (looks_back_sum (domain_deed b.method) (domain_deed l.0) l.1) s a b h t;
}

domain_none : NoneIsFalse Nothing precise_domain
domain_none = record { left = λ d. refl; right = elim [ Weigh ↦ refl | Total ↦ refl | Move ↦ refl | Credit ↦ refl | Sum ↦ refl | Nothing ↦ refl ] }

reader_writer_none : NoneIsFalse Nothing reader_writer_domain
reader_writer_none = record { left = λ d. refl; right = elim [ Weigh ↦ refl | Total ↦ refl | Move ↦ refl | Credit ↦ refl | Sum ↦ refl | Nothing ↦ refl ] }

domain_strengthened : (d e : DomainDeed) → simple_domain d e ≡ strengthened (precise_domain d e)
domain_strengthened Weigh Weigh = refl
domain_strengthened Total Weigh = refl
domain_strengthened Move Weigh = refl
domain_strengthened Credit Weigh = refl
domain_strengthened Sum Weigh = refl
domain_strengthened Nothing e = refl
domain_strengthened d e = refl

readers_below_domain : (d e : DomainDeed) → IsBelow (reader_writer_domain d e) (simple_domain d e)
readers_below_domain Weigh e = False-IsBelow _
readers_below_domain Total Weigh = False-IsBelow _
readers_below_domain Total Total = IsBelow-itself _
readers_below_domain Total Move = False-IsBelow _
readers_below_domain Total Credit = False-IsBelow _
readers_below_domain Total Sum = IsBelow-itself _
readers_below_domain Total Nothing = False-IsBelow _
readers_below_domain Move e = False-IsBelow _
readers_below_domain Credit e = False-IsBelow _
readers_below_domain Sum Weigh = False-IsBelow _
readers_below_domain Sum Total = IsBelow-itself _
readers_below_domain Sum Move = False-IsBelow _
readers_below_domain Sum Credit = False-IsBelow _
readers_below_domain Sum Sum = IsBelow-itself _
readers_below_domain Sum Nothing = False-IsBelow _
readers_below_domain Nothing e = False-IsBelow _

pub domain_facts : TableFacts (kind_number Domains) domain_tables
domain_facts = record {
  valid = valid_from (kind_number Domains) domain_tables.precise domain_table;
  keeps_to_kind = keeps (kind_number Domains) Nothing domain_deed domain_deed-foreign precise_domain domain_none;
  strengthened = λ first second. domain_strengthened (domain_deed first) (domain_deed second);
  readers_below = λ first second. readers_below_domain (domain_deed first) (domain_deed second);
  readers_keep_to_kind = keeps (kind_number Domains) Nothing domain_deed domain_deed-foreign reader_writer_domain reader_writer_none;
}
