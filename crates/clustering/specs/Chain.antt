-- What is done for a point: from it one goes to the nearest point, from there to the nearest one, and so on, until two
-- points are each the other's nearest. These become one.
use Rattle.std.specs.Prelude.{ℕ, zero, suc, ◌+◌, ℤ, pos, negsuc, ◌+ℤ◌, ◌*ℤ◌, ◌&&◌, ◌||◌, Bool, Option, Some, None, if◌then◌else◌, int_le, int_lt}
use Rattle.std.specs.Ordering.{int_eq}
use Rattle.std.specs.Int.{w64, int_wrap, int_div_euclid, int_wrapping_add}
use Rattle.gx_base.specs.declared.calls.Reply.{Reply}
use Rattle.gx_base.specs.declared.calls.Spot.{Spot}
use Rattle.gx_base.specs.declared.items.Item.{Item}
use Rattle.gx_base.specs.Plans.{Plan, Call, Push, Done}
use Rattle.gx_base.specs.Spots.{spot_of_reply}
use Rattle.clustering.specs.declared.stages.Merge.{Merge}
use Rattle.clustering.specs.PointCalls.{points_room, cells_room, at, nearest, remove, add, read, set}

-- the item of a point's number
abbrev pub id_item : ℤ → Item
id_item id = record { k0 = id; k1 = pos 0; k2 = pos 0; k3 = pos 0 }

-- the item is (id, 0, 0, 0)
abbrev pub is_of_id : Item → Bool
is_of_id item = int_eq item.k1 (pos 0) && int_eq item.k2 (pos 0) && int_eq item.k3 (pos 0)

-- ---- two points become one

-- a sum in 64 bits
abbrev pub plus : ℤ → ℤ → ℤ
plus x y = int_wrapping_add w64 x y

-- the mean of x and y by their weights v and w, rounded down, in 64 bits
abbrev pub mean : ℤ → ℤ → ℤ → ℤ → ℤ
mean v x w y = int_wrap w64 (int_div_euclid ((v *ℤ x) +ℤ (w *ℤ y)) (v +ℤ w))

-- the one point has the first one's number, and stands at the mean
abbrev pub merged : Spot → ℤ → Spot → ℤ → Spot
merged u v w x = record { id = u.id; x = mean v u.x x w.x; y = mean v u.y x w.y; z = mean v u.z x w.z }

-- two points of these weights as one
abbrev pub merge_of : ℤ → Spot → ℤ → Spot → ℤ → Merge
merge_of id first weight second other = record { id = id; first = first; second = second; merged = merged first weight second other; weight = plus weight other }

-- for a point that is gone, the cells of these keys hold what it became a part of, and the weight of that
abbrev pub into_key : ℤ → ℤ
into_key id = plus (pos 1000000) id

abbrev pub weight_key : ℤ → ℤ
weight_key id = plus (pos 2000000) id

-- The acts of a merge, from the last one back to the first. The point that the body is for is left to be done again
-- where it is neither of the two.
abbrev pub push_own : Merge → Plan
push_own m = if int_eq m.id m.first.id || int_eq m.id m.second.id then Done else Push (id_item m.id) Done

abbrev pub push_merged : Merge → Plan
push_merged m = Push (id_item m.first.id) (push_own m)

abbrev pub set_merged_weight : Merge → Plan
set_merged_weight m = Call cells_room (set (weight_key m.second.id) m.weight) (λ _. push_merged m)

abbrev pub set_into : Merge → Plan
set_into m = Call cells_room (set (into_key m.second.id) m.first.id) (λ _. set_merged_weight m)

abbrev pub set_weight : Merge → Plan
set_weight m = Call cells_room (set m.first.id m.weight) (λ _. set_into m)

abbrev pub add_merged : Merge → Plan
add_merged m = Call points_room (add m.merged) (λ _. set_weight m)

abbrev pub remove_second : Merge → Plan
remove_second m = Call points_room (remove m.second) (λ _. add_merged m)

abbrev pub merging : Merge → Plan
merging m = Call points_room (remove m.first) (λ _. remove_second m)

module _ (id : ℤ) where
  -- nothing is merged where the weights' sum isn't positive
  abbrev pub with_weights : Spot → ℤ → Spot → ℤ → Plan
  with_weights u v w x = if int_le (v +ℤ x) (pos 0) then Done else merging (merge_of id u v w x)

  abbrev pub with_first_weight : Spot → Spot → ℤ → Plan
  with_first_weight u v w = Call cells_room (read v.id) (λ reply. with_weights u w v reply.p)

  abbrev pub weighing : Spot → Spot → Plan
  weighing u v = Call cells_room (read u.id) (λ reply. with_first_weight u v reply.p)

  -- the first of the two is the one with the smaller number
  abbrev pub merging_both : Spot → Spot → Plan
  merging_both p c = if int_lt c.id p.id then weighing c p else weighing p c

  -- ---- the chain

  -- how the chain goes on, with the previous and the current point
  abbrev pub Onward : Type 0
  Onward = Option Spot → Spot → Plan

  -- the chain goes on to a point, or the point is the previous one
  abbrev pub going_to : Onward → Option Spot → Spot → Spot → Plan
  going_to onward None current next = onward (Some current) next
  going_to onward (Some previous) current next = if int_eq next.id previous.id then merging_both previous current else onward (Some current) next

  -- it is done where there is no other point, whose number is told as -1
  abbrev pub with_nearest : Onward → Option Spot → Spot → Reply → Plan
  with_nearest onward previous current reply = if int_eq reply.p (negsuc 0) then Done else going_to onward previous current (spot_of_reply reply)

  -- with so many calls of `nearest` at most
  abbrev pub chase : ℕ → Onward
  chase zero previous current = Done
  chase (suc calls) previous current = Call points_room (nearest current) (λ reply. with_nearest (chase calls) previous current reply)

  -- where the point isn't there it is done
  abbrev pub with_place : ℕ → Reply → Plan
  with_place calls reply = if int_eq reply.p (pos 1) then chase calls None (record { id = id; x = reply.q; y = reply.r; z = reply.s }) else Done

  abbrev pub chain_body : ℕ → Plan
  chain_body calls = Call points_room (at id) (λ reply. with_place calls reply)

-- what is done for an item among so many points
abbrev pub chain_plan : ℕ → Item → Plan
chain_plan count item = if is_of_id item then chain_body item.k0 (count + 1) else Done
