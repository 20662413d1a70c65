-- The set of the nodes that are ready at the start, as a list by rising number.
use Rattle.std.specs.Prelude.{◌≡◌, ℕ, zero, suc, ◌+◌, ◌<◌, ℤ, pos, negsuc, Bool, true, false, ◌&&◌, nat_lt, nat_le, List, map, refl}
use Rattle.std.proofs.Common.{sym, ◌∙◌, ap, arith}
use Rattle.std.proofs.lemmas.Bool.Decides.{nat_tests}
use Rattle.std.proofs.lemmas.Map.Views.{any-filter_same}
use Rattle.std.proofs.lemmas.Map.Lookups.{btree_set_from_contains}
use Rattle.std.proofs.lemmas.List.Kept.{IsStrictlySortedBy-filter}
use Rattle.std.specs.List.{list_any, filter, range_with_len, AllByRecursion}
use Rattle.std.specs.List.Sorted.{IsStrictlySortedBy}
use Rattle.std.specs.BTreeSet as sorted
use Rattle.std.specs.BTreeSet.{BTreeSet}
use Rattle.std.specs.Ordering.{int_cmp, int_eq}
use Rattle.std.specs.declared.cmp.Ordering.TheVariants.{Less}
use Rattle.std.specs.Cmp.{int_cmp_total, signed_Decides}
use Rattle.std.specs.FinMap.{int_cmp-IsAntisymmetric}
use Rattle.flow_files.specs.declared.network.Arc.{Arc}
use Rattle.flow_files.specs.Networks.{Net}
use Rattle.preflow_push.specs.Discharge.{is_node}
use Rattle.preflow_push.specs.Starts.{nodes_to, is_active, start_states}
use Rattle.preflow_push.proofs.start_states.FlowPours.{active_is_entered}

-- the nodes stand in order
below_all : (x a n : ℕ) → x < a → AllByRecursion (λ (y : ℤ). int_cmp (pos x) y ≡ Less) (map pos (range_with_len a n))
below_all x a zero lt = tt
below_all x a (suc n) lt = (grind arith, below_all x (a + 1) n (omega arith))

range_sorted : (a n : ℕ) → IsStrictlySortedBy int_cmp (map pos (range_with_len a n))
unfolding IsStrictlySortedBy
range_sorted a zero = tt
range_sorted a (suc n) = (below_all a (a + 1) n (omega arith), range_sorted (a + 1) n)

nodes_sorted : (nodes : ℤ) → IsStrictlySortedBy int_cmp (nodes_to nodes)
unfolding IsStrictlySortedBy
nodes_sorted (pos n) = range_sorted 1 n
nodes_sorted (negsuc n) = tt

-- which nodes there are
in_range : (x a n : ℕ) → list_any (int_eq (pos x)) (map pos (range_with_len a n)) ≡ nat_le a x && nat_lt x (a + n)
in_range x a zero = grind (arith, nat_tests)
in_range x a (suc n) = let more = in_range x (a + 1) n in grind (arith, nat_tests)

no_negative : (x a n : ℕ) → list_any (int_eq (negsuc x)) (map pos (range_with_len a n)) ≡ false
no_negative x a zero = refl
no_negative x a (suc n) = no_negative x (a + 1) n

pub any_node : (nodes q : ℤ) → list_any (int_eq q) (nodes_to nodes) ≡ is_node nodes q
any_node (pos n) (pos x) = in_range x 1 n ∙ grind (arith, nat_tests)
any_node (pos n) (negsuc x) = no_negative x 1 n
any_node (negsuc n) (pos x) = grind (arith, nat_tests)
any_node (negsuc n) (negsuc x) = refl

both : (entered node active : Bool) → (active ≡ true → entered ≡ true) → entered && (node && active) ≡ active && node
both true true true h = refl
both true true false h = refl
both true false true h = refl
both true false false h = refl
both false node true h = absurd (let k : false ≡ true = h refl in cc)
both false node false h = refl

set_of : List ℤ → BTreeSet ℤ
set_of keys = record { keys = keys }

-- a set of just the nodes for which there is something to do has them by rising number
pub ready_by : (net : Net) (set : BTreeSet ℤ) → sorted.IsOrdered int_cmp set
    → ((q : ℤ) → sorted.contains int_cmp set q ≡ list_any (λ (arc : Arc). int_eq q arc.to) net.arcs && (is_node net.nodes q && is_active net (start_states net) q))
    → set.keys ≡ filter (is_active net (start_states net)) (nodes_to net.nodes)
unfolding set_of
ready_by net set ordered has =
    btree_set_from_contains int_cmp_total set (set_of (filter (is_active net (start_states net)) (nodes_to net.nodes))) ordered
    (IsStrictlySortedBy-filter int_cmp (is_active net (start_states net)) (nodes_to net.nodes) (nodes_sorted net.nodes))
    (λ q. has q
    ∙ both (list_any (λ (arc : Arc). int_eq q arc.to) net.arcs) (is_node net.nodes q) (is_active net (start_states net) q) (active_is_entered net q)
    ∙ ap (λ (b : Bool). is_active net (start_states net) q && b) (sym (any_node net.nodes q))
    ∙ sym (any-filter_same (int_eq q) (is_active net (start_states net)) (is_active net (start_states net) q) (λ k e. ap (is_active net (start_states net)) (sym ((signed_Decides q k).0 e))) (nodes_to net.nodes)))
    int_cmp-IsAntisymmetric
