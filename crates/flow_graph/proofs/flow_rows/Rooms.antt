-- Which calls have room after a write.
use Rattle.std.proofs.Common.{◌≡◌, ℕ, zero, suc, ℤ, false, Option, Some, None, IsTrue, is_some, sym, ap, subst}
use Rattle.std.specs.FinMap as map
use Rattle.std.specs.Global.{Box}
use Rattle.std.specs.Ordering.{int_cmp}
use Rattle.gx_base.specs.declared.calls.Made.{Made}
use Rattle.gx_base.specs.RegisterDeeds.{Use, Nothing, On, Reads, Adds, Sets}
use Rattle.gx_base.specs.FlowKind.{flow_use}
use Rattle.number_rows.specs.declared.rows.NumberRows.{NumberRows}
use Rattle.number_rows.proofs.CallerLemmas.{KeepsRows}
use Rattle.flow_graph.specs.declared.numbers.FlowNumbers.{FlowNumbers}
use Rattle.flow_graph.specs.declared.shard.FlowShard.{FlowShard}
use Rattle.flow_graph.specs.FlowNumbers.{has_row_at}
use Rattle.flow_graph.specs.FlowState.{rows_in, has_row_in, room_in_shard, has_room_in}

room-kept : (u : Use) (s t : FlowShard) (k : ℤ) → ((sort : ℕ) (q : ℤ) → IsTrue (has_row_in s sort q) → IsTrue (has_row_in t sort q)) → IsTrue (room_in_shard u s k) → IsTrue (room_in_shard u t k)
room-kept Nothing s t k h r = r
room-kept (On sort Reads) s t k h r = r
room-kept (On sort Adds) s t k h r = h sort k r
room-kept (On sort Sets) s t k h r = h sort k r

-- where the rows stay, each call keeps its room
pub rooms_kept : (s t : FlowShard) → ((sort : ℕ) (q : ℤ) → IsTrue (has_row_in s sort q) → IsTrue (has_row_in t sort q)) → (made : Made) → IsTrue (has_room_in s made) → IsTrue (has_room_in t made)
rooms_kept s t h made r = room-kept (flow_use made.call.method) s t made.call.a h r

-- the rows of a sort stay where another's are changed
pub heights_kept : (s : FlowNumbers) (n : NumberRows) → KeepsRows s.heights n → (sort : ℕ) (q : ℤ) → IsTrue (has_row_at s sort q) → IsTrue (has_row_at (record s { heights = n }) sort q)
heights_kept s n h zero q t = h q t
heights_kept s n h (suc zero) q t = t
heights_kept s n h (suc (suc i)) q t = t

pub excesses_kept : (s : FlowNumbers) (n : NumberRows) → KeepsRows s.excesses n → (sort : ℕ) (q : ℤ) → IsTrue (has_row_at s sort q) → IsTrue (has_row_at (record s { excesses = n }) sort q)
excesses_kept s n h zero q t = t
excesses_kept s n h (suc zero) q t = h q t
excesses_kept s n h (suc (suc i)) q t = t

pub flows_kept : (s : FlowNumbers) (n : NumberRows) → KeepsRows s.flows n → (sort : ℕ) (q : ℤ) → IsTrue (has_row_at s sort q) → IsTrue (has_row_at (record s { flows = n }) sort q)
flows_kept s n h zero q t = t
flows_kept s n h (suc zero) q t = t
flows_kept s n h (suc (suc i)) q t = h q t

-- so where the numbers of a shard are others, which keep the rows
pub numbers_kept : (s t : FlowShard) (before after : Box FlowNumbers) → s.numbers ≡ Some before → t.numbers ≡ Some after → ((sort : ℕ) (q : ℤ) → IsTrue (has_row_at before.value sort q) → IsTrue (has_row_at after.value sort q))
    → (made : Made) → IsTrue (has_room_in s made) → IsTrue (has_room_in t made)
numbers_kept s t before after e f h =
    rooms_kept s t (λ sort q r. subst (λ (numbers : Option (Box FlowNumbers)). IsTrue (map.contains_key (rows_in numbers sort) q)) (sym f) (h sort q (subst (λ (numbers : Option (Box FlowNumbers)). IsTrue (map.contains_key (rows_in numbers sort) q)) e r)))

-- before the first write there is no row
pub no_row : (numbers : Option (Box FlowNumbers)) (sort : ℕ) (k : ℤ) → numbers ≡ None → false ≡ map.contains_key (rows_in numbers sort) k
no_row None sort k e = sym (ap is_some (map.get-empty int_cmp k))
no_row (Some n) sort k e = absurd (cc)

pub none_there : (numbers : Option (Box FlowNumbers)) (sort : ℕ) (k : ℤ) → numbers ≡ None → IsTrue (map.contains_key (rows_in numbers sort) k) → ⊥
none_there numbers sort k e t = let f : false ≡ map.contains_key (rows_in numbers sort) k = no_row numbers sort k e in cc
