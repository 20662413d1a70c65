-- Which items are ready at the start, and that the sums of a network that is read don't wrap.
use Rattle.std.specs.Prelude.{◌≡◌, ◌≢◌, ℕ, zero, suc, ◌+◌, ◌*◌, ◌<◌, ◌≤◌, ◌^◌, ℤ, pos, ◌+ℤ◌, ◌-ℤ◌, neg_ℤ, ◌≤ℤ◌, ◌<ℤ◌, Bool, true, false, not, ◌&&◌, ◌||◌, if◌then◌else◌, List, [], ◌∷◌, length, map, Contains, FitsSigned, int_lt, int_le, refl}
use Rattle.std.proofs.Common.{sym, ◌∙◌, ap, subst, arith}
use Rattle.std.proofs.lemmas.Bool.{and_parts}
use Rattle.std.proofs.lemmas.Int.{ints, int_wrap_fits}
use Rattle.std.proofs.lemmas.Map.Views.{any-filter_same}
use Rattle.std.specs.Cmp.{signed_Decides}
use Rattle.std.specs.Int.{w64}
use Rattle.std.specs.List.{list_any, filter, AllByRecursion}
use Rattle.std.specs.Ordering.{int_eq}
use Rattle.gx_base.specs.declared.items.Item.{Item}
use Rattle.flow_files.specs.declared.network.Arc.{Arc}
use Rattle.flow_files.specs.declared.flow_lines.Said.{Said}
use Rattle.flow_files.specs.declared.flow_lines.Said.TheVariants.{Nothing, Problem, Source, Sink, Arc as ArcLine, Wrong}
use Rattle.flow_files.specs.Networks.{Net}
use Rattle.preflow_push.specs.Discharge.{node_item, is_node, is_terminal, terminals}
use Rattle.flow_files.specs.FlowFiles.{most_capacity, IsOf, IsFlowFile, arcs_of}
use Rattle.flow_files.specs.FlowLimits.{IsReadable}
use Rattle.preflow_push.specs.FlowStates.{excess_in, flow_in}
use Rattle.preflow_push.specs.Starts.{is_active, nodes_to, start_states, start_ready}
use Rattle.preflow_push.specs.StartLaw.{carried, AreCarried, brought, balance, IsOfExcess, IsStart}
use Rattle.preflow_push.proofs.start_states.ReadyNodes.{any_node}
use Rattle.preflow_push.proofs.start_states.StartLaws.{heights-start, flows-start, excesses-start}

-- ---- which items are ready

-- the item is that of a node of the list
record IsItemOf (nodes : List ℤ) (item : Item) : Type 0 where
  pub node : ℤ
  pub is : item ≡ node_item node
  pub among : list_any (int_eq node) nodes ≡ true

itself : (q : ℤ) → int_eq q q ≡ true
itself q = (signed_Decides q q).1 refl

first_item : (x : ℤ) (xs : List ℤ) (item : Item) → node_item x ≡ item → IsItemOf (x ∷ xs) item
first_item x xs item e = record { node = x; is = sym e; among = ap (λ (b : Bool). b || list_any (int_eq x) xs) (itself x) }

or_true : (a b : Bool) → b ≡ true → (a || b) ≡ true
or_true true b e = refl
or_true false b e = e

later_item : (x : ℤ) (xs : List ℤ) (item : Item) → IsItemOf xs item → IsItemOf (x ∷ xs) item
later_item x xs item i = record { node = i.node; is = i.is; among = or_true (int_eq i.node x) (list_any (int_eq i.node) xs) i.among }

item_among : (xs : List ℤ) (item : Item) → Contains (map node_item xs) item → IsItemOf xs item
item_among [] item (k, lt, e) = absurd (omega arith)
item_among (x ∷ xs) item (zero, lt, e) = first_item x xs item e
item_among (x ∷ xs) item (suc k, lt, e) = later_item x xs item (item_among xs item (k, omega arith, e))

among_by : (x q : ℤ) (xs : List ℤ) (b : Bool) → int_eq q x ≡ b → (b || list_any (int_eq q) xs) ≡ true → (list_any (int_eq q) xs ≡ true → Contains (map node_item xs) (node_item q)) → Contains (map node_item (x ∷ xs)) (node_item q)
among_by x q xs true e any later = (0, omega arith, ap node_item (sym ((signed_Decides q x).0 e)))
among_by x q xs false e any later = let l = later any in (suc l.0, omega (arith, l.1), l.2)

has_item : (xs : List ℤ) (q : ℤ) → list_any (int_eq q) xs ≡ true → Contains (map node_item xs) (node_item q)
has_item [] q any = absurd (cc)
has_item (x ∷ xs) q any = among_by x q xs (int_eq q x) refl any (has_item xs q)

-- ---- what the test of a node says

not_true : (a b : Bool) → not (a || b) ≡ true → (a ≡ false) × (b ≡ false)
not_true true b e = absurd (cc)
not_true false true e = absurd (cc)
not_true false false e = (refl, refl)

apart : (q x : ℤ) → int_eq q x ≡ false → q ≢ x
apart q x e same = let t : int_eq q x ≡ true = (signed_Decides q x).1 same in let f : true ≡ false = sym t ∙ e in cc

unequal : (q x : ℤ) (b : Bool) → int_eq q x ≡ b → q ≢ x → b ≡ false
unequal q x true e differ = absurd (differ ((signed_Decides q x).0 e))
unequal q x false e differ = refl

at_least : (a b : ℤ) → int_le a b ≡ true → a ≤ℤ b
at_least a b h = grind (arith, ints)

is_at_least : (a b : ℤ) → a ≤ℤ b → int_le a b ≡ true
is_at_least a b h = grind (arith, ints)

is_less : (a b : ℤ) → int_lt a b ≡ true → a <ℤ b
is_less a b h = grind (arith, ints)

less_is : (a b : ℤ) → a <ℤ b → int_lt a b ≡ true
less_is a b h = grind (arith, ints)

kept_nodes : (net : Net) (q : ℤ) → list_any (int_eq q) (filter (is_active net (start_states net)) (nodes_to net.nodes)) ≡ is_active net (start_states net) q && is_node net.nodes q
kept_nodes net q =
    any-filter_same (int_eq q) (is_active net (start_states net)) (is_active net (start_states net) q) (λ k e. ap (is_active net (start_states net)) (sym ((signed_Decides q k).0 e))) (nodes_to net.nodes)
    ∙ ap (λ (b : Bool). is_active net (start_states net) q && b) (any_node net.nodes q)

of_excess : (net : Net) (item : Item) → IsItemOf (filter (is_active net (start_states net)) (nodes_to net.nodes)) item → IsOfExcess net (start_states net) item
of_excess net item i =
    let q = i.node in
    let tests = and_parts (is_active net (start_states net) q) (is_node net.nodes q) (sym (kept_nodes net q) ∙ i.among) in
    let active = and_parts (not (is_terminal (terminals net) q)) (int_lt (pos 0) (excess_in (start_states net) q)) tests.0 in
    let other = not_true (int_eq q net.source) (int_eq q net.sink) active.0 in
    let node = and_parts (int_le (pos 1) q) (int_le q net.nodes) tests.1 in
    record {
      node = q;
      is = i.is;
      from_one = at_least (pos 1) q node.0;
      within = at_least q net.nodes node.1;
      no_source = apart q net.source other.0;
      no_sink = apart q net.sink other.1;
      excess = is_less (pos 0) (excess_in (start_states net) q) active.1;
    }

ready_if : (net : Net) (item : Item) → IsOfExcess net (start_states net) item → Contains (start_ready net) item
ready_if net item o =
    let q = o.node in
    let source : int_eq q net.source ≡ false = unequal q net.source (int_eq q net.source) refl o.no_source in
    let sink : int_eq q net.sink ≡ false = unequal q net.sink (int_eq q net.sink) refl o.no_sink in
    let excess : int_lt (pos 0) (excess_in (start_states net) q) ≡ true = less_is (pos 0) (excess_in (start_states net) q) o.excess in
    let first : int_le (pos 1) q ≡ true = is_at_least (pos 1) q o.from_one in
    let last : int_le q net.nodes ≡ true = is_at_least q net.nodes o.within in
    let kept : is_active net (start_states net) q && is_node net.nodes q ≡ true = rw (source, sink, excess, first, last) refl in
    subst (Contains (start_ready net)) (sym o.is) (has_item (filter (is_active net (start_states net)) (nodes_to net.nodes)) q (kept_nodes net q ∙ kept))

pub is_of_excess : (net : Net) (item : Item) → Contains (start_ready net) item → IsOfExcess net (start_states net) item
is_of_excess net item c = of_excess net item (item_among (filter (is_active net (start_states net)) (nodes_to net.nodes)) item c)

pub starts : (net : Net) → AllByRecursion (λ (arc : Arc). FitsSigned w64 arc.cap) net.arcs → IsStart net (start_states net) (start_ready net)
starts net fits = record {
  heights = heights-start net;
  flows = flows-start net;
  excesses = λ node. excesses-start net node fits;
  are_ready = λ item. (is_of_excess net item, ready_if net item);
}

-- ---- sums that don't wrap

-- a capacity of a flow file
abbrev IsSmallArc : Arc → Type 0
IsSmallArc arc = (pos 0 ≤ℤ arc.cap) × (arc.cap ≤ℤ pos most_capacity)

small_cap : (cap : ℕ) → cap ≤ most_capacity → (pos 0 ≤ℤ pos cap) × (pos cap ≤ℤ pos most_capacity)
small_cap cap le = (omega (arith, ints), omega (arith, ints))

small_arcs : (nodes : ℕ) (saids : List Said) → AllByRecursion (IsOf nodes) saids → AllByRecursion IsSmallArc (arcs_of saids)
small_arcs nodes [] each = tt
small_arcs nodes (Nothing ∷ saids) each = small_arcs nodes saids each.1
small_arcs nodes (Problem n m ∷ saids) each = small_arcs nodes saids each.1
small_arcs nodes (Source id ∷ saids) each = small_arcs nodes saids each.1
small_arcs nodes (Sink id ∷ saids) each = small_arcs nodes saids each.1
small_arcs nodes (ArcLine from to cap ∷ saids) each = (small_cap cap each.0.small, small_arcs nodes saids each.1)
small_arcs nodes (Wrong ∷ saids) each = small_arcs nodes saids each.1

file_arcs : (bytes : List ℕ) (net : Net) → IsFlowFile bytes net → AllByRecursion IsSmallArc net.arcs
file_arcs bytes net f = subst (λ (n : Net). AllByRecursion IsSmallArc n.arcs) (sym f.is) (small_arcs f.nodes f.rest f.each)

fits_by : (z : ℤ) (k : ℕ) → k < 2 ^ 63 → neg_ℤ (pos k) ≤ℤ z → z ≤ℤ pos k → FitsSigned w64 z
fits_by z k lt low high = omega (arith, ints)

arc_fits : (arc : Arc) → IsSmallArc arc → FitsSigned w64 arc.cap
arc_fits arc small = let low = small.0 in fits_by arc.cap most_capacity (omega arith) (omega (arith, ints, low)) small.1

arcs_fit : (arcs : List Arc) → AllByRecursion IsSmallArc arcs → AllByRecursion (λ (arc : Arc). FitsSigned w64 arc.cap) arcs
arcs_fit [] small = tt
arcs_fit (arc ∷ arcs) small = (arc_fits arc small.0, arcs_fit arcs small.1)

record IsBetween (k : ℕ) (z : ℤ) : Type 0 where
  pub low : neg_ℤ (pos k) ≤ℤ z
  pub high : z ≤ℤ pos k

carried_small : (arc : Arc) (leaves : Bool) → IsSmallArc arc → (pos 0 ≤ℤ (if leaves then arc.cap else pos 0)) × ((if leaves then arc.cap else pos 0) ≤ℤ pos most_capacity)
carried_small arc true small = small
carried_small arc false small = (omega (arith, ints), omega (arith, ints))

brought_by : (x : ℤ) (to from : Bool) → pos 0 ≤ℤ x → x ≤ℤ pos most_capacity → IsBetween most_capacity ((if to then x else pos 0) -ℤ (if from then x else pos 0))
brought_by x true true low high = record { low = omega (arith, ints); high = omega (arith, ints) }
brought_by x true false low high = record { low = omega (arith, ints); high = omega (arith, ints) }
brought_by x false true low high = record { low = omega (arith, ints); high = omega (arith, ints) }
brought_by x false false low high = record { low = omega (arith, ints); high = omega (arith, ints) }

sum_between : (a b c : ℕ) (x y : ℤ) → c ≡ a + b → IsBetween a x → IsBetween b y → IsBetween c (x +ℤ y)
sum_between a b c x y e p q = let low = p.low in let high = p.high in let lower = q.low in let higher = q.high in record { low = omega (arith, ints); high = omega (arith, ints) }

balance_small : (source : ℤ) (flows : ℤ → ℤ) (q : ℤ) (n : ℕ) (arcs : List Arc) → AreCarried source flows n arcs → AllByRecursion IsSmallArc arcs → IsBetween (length arcs * most_capacity) (balance flows q n arcs)
balance_small source flows q n [] flow small = record { low = omega (arith, ints); high = omega (arith, ints) }
balance_small source flows q n (arc ∷ arcs) flow small =
    let range = carried_small arc (int_eq arc.from source) small.0 in
    let first : IsBetween most_capacity (brought q arc (carried source arc)) = brought_by (carried source arc) (int_eq q arc.to) (int_eq q arc.from) range.0 range.1 in
    let here : IsBetween most_capacity (brought q arc (flows (pos n))) = subst (λ (x : ℤ). IsBetween most_capacity (brought q arc x)) (sym flow.0) first in
    sum_between most_capacity (length arcs * most_capacity) (suc (length arcs) * most_capacity) (brought q arc (flows (pos n))) (balance flows q (suc n) arcs) (omega arith) here (balance_small source flows q (suc n) arcs flow.1 small.1)

pub excesses-read : (bytes : List ℕ) (net : Net) → IsReadable bytes net → (node : ℤ) → excess_in (start_states net) node ≡ balance (flow_in (start_states net)) node 1 net.arcs
excesses-read bytes net r node =
    let small = file_arcs bytes net r.is_file in
    let total = balance (flow_in (start_states net)) node 1 net.arcs in
    let between : IsBetween (length net.arcs * most_capacity) total = balance_small net.source (flow_in (start_states net)) node 1 net.arcs (flows-start net) small in
    let few = r.within.arcs in
    excesses-start net node (arcs_fit net.arcs small) ∙ int_wrap_fits w64 total (fits_by total (length net.arcs * most_capacity) (omega (arith, few)) between.low between.high)
