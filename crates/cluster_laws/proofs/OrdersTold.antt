-- Two orders of points with one report are the same.
use Rattle.std.proofs.Common.{◌≡◌, ◌⊎◌, inl, inr, ℕ, suc, ◌+◌, ◌≤◌, ℤ, pos, Bool, true, false, if◌then◌else◌, Option, Some, None, List, [], ◌∷◌, ◌++◌, length, refl, sym, ap, subst, ◌∙◌, append_assoc, arith}
use Rattle.std.specs.Prelude.{◌+ℤ◌, int_le}
use Rattle.std.specs.List.{AllByRecursion, flat_map, range_with_len}
use Rattle.std.proofs.lemmas.Bool.{and_parts}
use Rattle.std.proofs.lemmas.Int.{ints}
use Rattle.std.proofs.lemmas.List.Concat.{flat_map-cons}
use Rattle.gx_base.specs.declared.calls.Spot.{Spot}
use Rattle.gx_base.specs.declared.items.Item.{Item}
use Rattle.gx_base.specs.Plans.{Plan, Push, Done}
use Rattle.gx_base.specs.SerialIterations.{body}
use Rattle.gx_base.specs.States.{State}
use Rattle.gx_base.specs.Worklists.{has_item, with_items}
use Rattle.gx_base.proofs.serial.Prefixes.{FirstTurn, first_turn}
use Rattle.clustering.specs.PointRows.{Coordinates}
use Rattle.clustering.specs.PointFiles.{numbered_spots, most_points, IsReadable}
use Rattle.clustering.specs.Chain.{id_item, is_of_id, chain_body, chain_plan, weighing, merging, merge_of}
use Rattle.clustering.specs.CloudRooms.{point_in}
use Rattle.clustering.specs.ClusterReports.{commit_line, if_gone, if_left, gone_line, there_line}
use Rattle.clustering.specs.Starts.{start_states, start_ready}
use Rattle.told_orders.specs.ItemLines.{BeginsOtherwise, BeginsWithLines}
use Rattle.told_orders.proofs.Lines.{IsOfNumber, lines_tell, number_lines}
use Rattle.told_orders.proofs.Orders.{PushesOnly, body-pushes, all-with_items, all-serial}
use Rattle.cluster_laws.specs.ClusterRuns.{chain_operator}
use Rattle.cluster_laws.specs.OrderLaw.{AreNumberedFromZero, ReportsOrder}
use Rattle.cluster_laws.proofs.Beginnings.{begins_so, length-numbered_spots}
use Rattle.cluster_laws.proofs.Bodies.{HoldsBetween, IsIdle, goes_by_id, kept_by_bodies}
use Rattle.cluster_laws.proofs.Chains.{Meets}
use Rattle.cluster_laws.proofs.Clouds.{IsCloud}
use Rattle.cluster_laws.proofs.Counts.{no_bool}
use Rattle.cluster_laws.proofs.Items.{none_of}

-- ---- the items of an order

of_number : (n k : ℕ) → suc k ≤ n → n ≤ most_points → IsOfNumber (id_item (pos k))
of_number n k less few = record { is = refl; fits = omega (arith, ints) }

start_items : (places : List Coordinates) (m : ℕ) → m + length places ≤ most_points → AllByRecursion IsOfNumber (start_ready (numbered_spots m places))
start_items [] m few = tt
start_items (place ∷ places) m few = (of_number (suc m) m (omega arith) (omega arith), start_items places (suc m) (omega arith))

-- a merge pushes items of two such numbers
pushes_by : (b : Bool) (plan : Plan) → PushesOnly IsOfNumber plan → PushesOnly IsOfNumber (if b then Done else plan)
pushes_by true plan only = tt
pushes_by false plan only = only

weighing_pushes : (id : ℤ) (u v : Spot) → IsOfNumber (id_item u.id) → IsOfNumber (id_item id) → PushesOnly IsOfNumber (weighing id u v)
weighing_pushes id u v first own = λ a b. pushes_by (int_le (a.p +ℤ b.p) (pos 0)) (merging (merge_of id u a.p v b.p)) (λ _ _ _ _ _ _. (first, pushes_by _ (Push (id_item id) Done) (own, tt)))

none_pushed : (states : ℕ → State) → AllByRecursion IsOfNumber (body Done states).outcome.pushes
unfolding body
none_pushed states = tt

module _ (n : ℕ) (most : n ≤ most_points) where
  pushed_by_id : (id : ℤ) (states : ℕ → State) → IsCloud n states → IsOfNumber (id_item id) → AllByRecursion IsOfNumber (body (chain_body id (n + 1)) states).outcome.pushes
  pushed_by_id id states cloud own = from (goes_by_id n most id states cloud)
    where
      from : IsIdle n most id states ⊎ Meets (states 0) n cloud.are id (chain_body id (n + 1)) states → AllByRecursion IsOfNumber (body (chain_body id (n + 1)) states).outcome.pushes
      from (inl idle) = subst (AllByRecursion IsOfNumber) (sym idle.1.1) (none_pushed states)
      from (inr found) =
          let k = cloud.are.number found.u.id found.u found.pair.first in
          let first : IsOfNumber (id_item found.u.id) = subst (λ (id : ℤ). IsOfNumber (id_item id)) (sym k.2) (of_number n k.0 k.1 most) in
          subst (AllByRecursion IsOfNumber) (sym found.same.1) (body-pushes IsOfNumber (weighing id found.u found.v) states (weighing_pushes id found.u found.v first own))

  pushed_by_bodies : (item : Item) (states : ℕ → State) (ready : List Item) → HoldsBetween n states ready → IsOfNumber item → AllByRecursion IsOfNumber (body (chain_plan n item) states).outcome.pushes
  pushed_by_bodies item states ready h is = by (is_of_id item)
    where
      by : (b : Bool) → AllByRecursion IsOfNumber (body (if b then chain_body item.k0 (n + 1) else Done) states).outcome.pushes
      by true = pushed_by_id item.k0 states h.0 (record { is = refl; fits = is.fits })
      by false = none_pushed states

order_items : (spots : List Spot) (bytes : List ℕ) (order : List Item) → AreNumberedFromZero spots → ReportsOrder spots bytes order → AllByRecursion IsOfNumber order
order_items spots bytes order are r =
    let places : length are.places ≤ most_points = subst (λ (n : ℕ). n ≤ most_points) (ap (λ (l : List Spot). length l) are.are ∙ length-numbered_spots 0 are.places) are.within in
    let few : 0 + length are.places ≤ most_points = omega arith in
    let ready : AllByRecursion IsOfNumber (start_ready spots) = subst (λ (l : List Spot). AllByRecursion IsOfNumber (start_ready l)) (sym are.are) (start_items are.places 0 few) in
    all-serial IsOfNumber (chain_operator (length spots)) (HoldsBetween (length spots)) (kept_by_bodies (length spots) are.within) (pushed_by_bodies (length spots) are.within) order
    (start_states spots) (with_items [] (start_ready spots)) r.ended (begins_so are.places spots are.are) (all-with_items IsOfNumber (start_ready spots) [] tt ready) r.in_turn

-- ---- what stands after the lines of commits: i is 105, m is 109, c is 99

abbrev OtherLines : List ℕ → Type 0
OtherLines bytes = BeginsOtherwise 105 bytes

-- the first line is there, and is another one
abbrev HasOtherLine : List ℕ → Type 0
HasOtherLine [] = ⊥
HasOtherLine (b ∷ bs) = OtherLines (b ∷ bs)

then_other : (xs ys : List ℕ) → OtherLines xs → OtherLines ys → OtherLines (xs ++ ys)
then_other [] ys p q = q
then_other (x ∷ xs) ys p q = p

has_then : (xs ys : List ℕ) → HasOtherLine xs → OtherLines (xs ++ ys)
has_then [] ys p = absurd p
has_then (x ∷ xs) ys p = p

other_of_all : (f : ℕ → List ℕ) → ((k : ℕ) → OtherLines (f k)) → (ks : List ℕ) → OtherLines (flat_map f ks)
other_of_all f each [] = tt
other_of_all f each (k ∷ ks) = subst OtherLines (sym (flat_map-cons f k ks)) (then_other (f k) (flat_map f ks) (each k) (other_of_all f each ks))

first_then : (f : ℕ → List ℕ) (k : ℕ) (ks more : List ℕ) → HasOtherLine (f k) → OtherLines (flat_map f (k ∷ ks) ++ more)
first_then f k ks more p =
    subst OtherLines (sym (ap (λ (l : List ℕ). l ++ more) (flat_map-cons f k ks) ∙ append_assoc (f k) (flat_map f ks) more)) (has_then (f k) (flat_map f ks ++ more) p)

gone_other : (states : ℕ → State) (id : ℤ) (o : Option Spot) → OtherLines (if_gone states id o)
gone_other states id None = refl
gone_other states id (Some spot) = tt

gone_has : (states : ℕ → State) (k : ℕ) → point_in states (pos k) ≡ None → HasOtherLine (gone_line states k)
gone_has states k e = subst (λ (o : Option Spot). HasOtherLine (if_gone states (pos k) o)) (sym e) refl

there_has : (states : ℕ → State) (k : ℕ) (spot : Spot) → point_in states (pos k) ≡ Some spot → HasOtherLine (there_line states k)
there_has states k spot e = subst (λ (o : Option Spot). HasOtherLine (if_left states (pos k) o)) (sym e) refl

-- of the point with the number 0 there is such a line
after_commits : (states : ℕ → State) (ks more : List ℕ) → OtherLines (flat_map (gone_line states) (0 ∷ ks) ++ (flat_map (there_line states) (0 ∷ ks) ++ more))
after_commits states ks more = by (point_in states (pos 0)) refl
  where
    by : (o : Option Spot) → point_in states (pos 0) ≡ o → OtherLines (flat_map (gone_line states) (0 ∷ ks) ++ (flat_map (there_line states) (0 ∷ ks) ++ more))
    by None e = first_then (gone_line states) 0 ks (flat_map (there_line states) (0 ∷ ks) ++ more) (gone_has states 0 e)
    by (Some spot) e =
        then_other (flat_map (gone_line states) (0 ∷ ks)) (flat_map (there_line states) (0 ∷ ks) ++ more) (other_of_all (gone_line states) (λ k. gone_other states (pos k) (point_in states (pos k))) (0 ∷ ks))
        (first_then (there_line states) 0 ks more (there_has states 0 spot e))

-- ---- reports

lines_of_order : (spot : Spot) (spots : List Spot) (bytes : List ℕ) (order : List Item) → ReportsOrder (spot ∷ spots) bytes order → BeginsWithLines 105 commit_line bytes order
lines_of_order spot spots bytes order r =
    let states = r.ended.states in
    let numbers : List ℕ = range_with_len 0 (length (spot ∷ spots)) in
    let gone : List ℕ = flat_map (gone_line states) numbers in
    let there : List ℕ = flat_map (there_line states) numbers in
    record {
      more = gone ++ (there ++ r.more);
      begins = r.begins ∙ append_assoc (flat_map commit_line order ++ gone) there r.more ∙ append_assoc (flat_map commit_line order) gone (there ++ r.more);
      told_apart = after_commits states (range_with_len 1 (length spots)) r.more;
    }

-- where there is no point, nothing commits
none_commits : (bytes : List ℕ) (order : List Item) → ReportsOrder [] bytes order → order ≡ []
unfolding with_items
none_commits bytes [] r = refl
none_commits bytes (item ∷ order) r =
    let turn : FirstTurn (chain_operator 0) (start_states []) [] item order r.ended = first_turn (chain_operator 0) (start_states []) [] item order r.ended r.in_turn in
    absurd (no_bool (has_item [] item) (and_parts (has_item [] item) true turn.may).0 (none_of item))

pub orders_told : (spots : List Spot) → AreNumberedFromZero spots → (bytes : List ℕ) (order other : List Item) → ReportsOrder spots bytes order → ReportsOrder spots bytes other → order ≡ other
orders_told [] are bytes order other p q = none_commits bytes order p ∙ sym (none_commits bytes other q)
orders_told (spot ∷ spots) are bytes order other p q =
    lines_tell IsOfNumber 105 commit_line (number_lines 105 (32 ∷ []) refl) bytes order other (order_items (spot ∷ spots) bytes order are p) (order_items (spot ∷ spots) bytes other are q) (lines_of_order spot spots bytes order p)
    (lines_of_order spot spots bytes other q)

pub numbered_by_file : (bytes : List ℕ) (spots : List Spot) → IsReadable bytes spots → AreNumberedFromZero spots
numbered_by_file bytes spots read = record { places = read.is_file.places; are = read.is_file.are; within = read.within }
