-- What calls on shards do to the states of rooms.
use Rattle.std.specs.Prelude.{◌≡◌, ℕ, zero, suc, ◌+◌, ◌<◌, ◌%◌, ◌^◌, ℤ, pos, Bool, true, false, nat_eq, if◌then◌else◌, List, [], ◌∷◌, length, map, replicate, slice_index_or, slice_set, FitsSigned, refl}
use Rattle.std.proofs.Common.{sym, ◌∙◌, ap, arith, eqb-true}
use Rattle.std.proofs.lemmas.Int.{to_z-of_z}
use Rattle.std.proofs.Math.Nat.{mod-eq_of_lt}
use Rattle.std.specs.Int.{w64, cast_signed, cast_unsigned, int_wrapping_add}
use Rattle.std.specs.Ordering.{int_eq}
use Rattle.std.specs.FinMap as finite
use Rattle.gx_base.specs.declared.calls.Call.{Call}
use Rattle.gx_base.specs.declared.kinds.Kind.TheVariants.{Flow}
use Rattle.gx_base.specs.Kinds.{kind_number}
use Rattle.gx_base.specs.States.{State, row_cmp, first_or_zero, number_at, with_number}
use Rattle.gx_base.specs.Steps.{next_state, meaning_of}
use Rattle.gx_base.specs.FlowKind.{height_sort, excess_sort, flow_sort, flow_use}
use Rattle.gx_base.specs.RegisterDeeds.{next_by}
use Rattle.gx_base.proofs.CallerLemmas.{below_bits, same_row, same_row-sort, number_at-other}
use Rattle.gx_base.specs.Replays.{in_rooms, put}
use Rattle.flow_graph.specs.declared.shard.FlowShard.{FlowShard}
use Rattle.flow_graph.specs.FlowState.{state_of}
use Rattle.flow_files.specs.declared.network.Arc.{Arc}
use Rattle.preflow_push.specs.FlowCalls.{rooms, relabel_method, gain_method, send_method, room_of, flow_call_of, minus}
use Rattle.preflow_push.specs.FlowStates.{excess_in, flow_in}
use Rattle.preflow_push.specs.Starts.{set_in, with_height, with_gain, with_flow, filled, empty_shard, empty_rooms}
use Rattle.commit_book.proofs.CallerLemmas.{in_rooms-set_object, in_rooms-object}
use Rattle.preflow_push.proofs.moves.DischargeMoves.{room_of-lt}

abbrev pub shard_rooms : List FlowShard → ℕ → State
shard_rooms shards = in_rooms (map state_of shards)

-- a call in one room
pub made_in : (shards : List FlowShard) (room place : ℕ) (d new : FlowShard) (call made : Call) → room ≡ place → call ≡ made → room < length shards → state_of new ≡ next_state (state_of (slice_index_or shards room d)) call
    → shard_rooms (slice_set shards room new) ≡ put (shard_rooms shards) place (next_state (shard_rooms shards place) made)
made_in shards room place d new call made e f lt is =
    in_rooms-set_object state_of shards room new lt
    ∙ ap (put (shard_rooms shards) room) (is ∙ ap (λ (s : State). next_state s call) (sym (in_rooms-object state_of shards room d lt)))
    ∙ (λ i. put (shard_rooms shards) (e i) (next_state (shard_rooms shards (e i)) (f i)))

kind_in : (shards : List FlowShard) (room : ℕ) → room < length shards → (shard_rooms shards room).kind ≡ kind_number Flow
kind_in [] room lt = absurd (omega arith)
kind_in (x ∷ xs) zero lt = refl
kind_in (x ∷ xs) (suc n) lt = kind_in xs n (omega arith)

next_on : (s : State) (c : Call) → s.kind ≡ kind_number Flow → next_state s c ≡ next_by (flow_use c.method) s c
unfolding next_state
next_on s c e = ap (λ (k : ℕ). (meaning_of k).next s c) e

next_in : (shards : List FlowShard) (method : ℕ) (n x : ℤ) → length shards ≡ rooms
    → put (shard_rooms shards) (room_of n) (next_state (shard_rooms shards (room_of n)) (flow_call_of method n x)) ≡ put (shard_rooms shards) (room_of n) (next_by (flow_use method) (shard_rooms shards (room_of n)) (flow_call_of method n x))
next_in shards method n x e =
    let below = room_of-lt n in
    let lt : room_of n < length shards = omega arith in
    ap (put (shard_rooms shards) (room_of n)) (next_on (shard_rooms shards (room_of n)) (flow_call_of method n x) (kind_in shards (room_of n) lt))

pub relabels : (shards : List FlowShard) (n m x y : ℤ) → length shards ≡ rooms → n ≡ m → x ≡ y
    → put (shard_rooms shards) (room_of n) (next_state (shard_rooms shards (room_of n)) (flow_call_of relabel_method n x)) ≡ with_height m y (shard_rooms shards)
relabels shards n m x y len e f = next_in shards relabel_method n x len ∙ (λ i. with_height (e i) (f i) (shard_rooms shards))

pub gains : (shards : List FlowShard) (n m x y : ℤ) → length shards ≡ rooms → n ≡ m → x ≡ y
    → put (shard_rooms shards) (room_of n) (next_state (shard_rooms shards (room_of n)) (flow_call_of gain_method n x)) ≡ with_gain m y (shard_rooms shards)
gains shards n m x y len e f = next_in shards gain_method n x len ∙ (λ i. with_gain (e i) (f i) (shard_rooms shards))

zero_add : (x : ℤ) → FitsSigned w64 x → int_wrapping_add w64 (pos 0) x ≡ x
zero_add x h = ap (cast_signed w64) (ap (λ (k : ℕ). k % 2 ^ 64) (let e : 0 + cast_unsigned w64 x ≡ cast_unsigned w64 x = omega arith in e) ∙ mod-eq_of_lt (below_bits x h)) ∙ to_z-of_z w64 x h

pub sends : (shards : List FlowShard) (n m x y : ℤ) → length shards ≡ rooms → n ≡ m → x ≡ y → FitsSigned w64 y → flow_in (shard_rooms shards) m ≡ pos 0
    → put (shard_rooms shards) (room_of n) (next_state (shard_rooms shards (room_of n)) (flow_call_of send_method n x)) ≡ with_flow m y (shard_rooms shards)
sends shards n m x y len e f fits none =
    next_in shards send_method n x len
    ∙ (λ i. set_in flow_sort (e i) (int_wrapping_add w64 (flow_in (shard_rooms shards) (e i)) (f i)) (shard_rooms shards))
    ∙ ap (λ (z : ℤ). set_in flow_sort m z (shard_rooms shards)) (ap (λ (z : ℤ). int_wrapping_add w64 z y) none ∙ zero_add y fits)

-- a full arc
pub fills : (s a b c : ℕ → State) (arc : Arc) (number n x f y t z : ℤ) → a ≡ with_flow n x s → b ≡ with_gain f y a → c ≡ with_gain t z b
    → n ≡ number → x ≡ arc.cap → f ≡ arc.from → y ≡ minus arc.cap → t ≡ arc.to → z ≡ arc.cap → c ≡ filled number arc s
fills s a b c arc number n x f y t z ea eb ec en ex ef ey et ez =
    let first : a ≡ with_flow number arc.cap s = ea ∙ (λ i. with_flow (en i) (ex i) s) in
    let second : b ≡ with_gain arc.from (minus arc.cap) (with_flow number arc.cap s) = eb ∙ (λ i. with_gain (ef i) (ey i) (first i)) in
    ec ∙ (λ i. with_gain (et i) (ez i) (second i))

-- a write in one row leaves the other rows
set_by : (sort number_sort : ℕ) (number q x : ℤ) (s : ℕ → State) (b : Bool) → nat_eq (room_of number) (room_of q) ≡ b → same_row (sort, q) (number_sort, number) ≡ false
    → number_at (if b then with_number (s (room_of number)) (number_sort, number) x else s (room_of q)) (sort, q) ≡ number_at (s (room_of q)) (sort, q)
set_by sort number_sort number q x s true e apart =
    number_at-other (s (room_of number)) (number_sort, number) (sort, q) x apart ∙ ap (λ (room : ℕ). number_at (s room) (sort, q)) (eqb-true (room_of number) (room_of q) e)
set_by sort number_sort number q x s false e apart = refl

pub set_in-other : (sort number_sort : ℕ) (number q x : ℤ) (s : ℕ → State) → same_row (sort, q) (number_sort, number) ≡ false
    → number_at (set_in number_sort number x s (room_of q)) (sort, q) ≡ number_at (s (room_of q)) (sort, q)
set_in-other sort number_sort number q x s apart = set_by sort number_sort number q x s (nat_eq (room_of number) (room_of q)) refl apart

pub gain-other : (sort : ℕ) (node q x : ℤ) (s : ℕ → State) → same_row (sort, q) (excess_sort, node) ≡ false → number_at (with_gain node x s (room_of q)) (sort, q) ≡ number_at (s (room_of q)) (sort, q)
gain-other sort node q x s apart = set_in-other sort excess_sort node q (int_wrapping_add w64 (excess_in s node) x) s apart

pub flow_in-filled : (s : ℕ → State) (arc : Arc) (number q : ℤ) → int_eq q number ≡ false → flow_in (filled number arc s) q ≡ flow_in s q
flow_in-filled s arc number q apart =
    gain-other flow_sort arc.to q arc.cap (with_gain arc.from (minus arc.cap) (with_flow number arc.cap s)) refl
    ∙ gain-other flow_sort arc.from q (minus arc.cap) (with_flow number arc.cap s) refl
    ∙ set_in-other flow_sort flow_sort number q arc.cap s (same_row-sort flow_sort q number ∙ apart)

pub excess_in-filled : (s : ℕ → State) (arc : Arc) (number q : ℤ) → int_eq q arc.from ≡ false → int_eq q arc.to ≡ false → excess_in (filled number arc s) q ≡ excess_in s q
excess_in-filled s arc number q from to =
    gain-other excess_sort arc.to q arc.cap (with_gain arc.from (minus arc.cap) (with_flow number arc.cap s)) (same_row-sort excess_sort q arc.to ∙ to)
    ∙ gain-other excess_sort arc.from q (minus arc.cap) (with_flow number arc.cap s) (same_row-sort excess_sort q arc.from ∙ from)
    ∙ set_in-other excess_sort flow_sort number q arc.cap s refl

-- at first all is 0
nothing_by : (n room : ℕ) (key : ℕ × ℤ) → number_at (in_rooms (replicate n empty_shard) room) key ≡ pos 0
nothing_by zero room key = ap first_or_zero (finite.get-empty row_cmp key)
nothing_by (suc n) zero key = ap first_or_zero (finite.get-empty row_cmp key)
nothing_by (suc n) (suc room) key = nothing_by n room key

pub nothing_at_first : (node level q : ℤ) (sort : ℕ) → same_row (sort, q) (height_sort, node) ≡ false → number_at (with_height node level empty_rooms (room_of q)) (sort, q) ≡ pos 0
nothing_at_first node level q sort apart = set_in-other sort height_sort node q level empty_rooms apart ∙ nothing_by rooms (room_of q) (sort, q)
