-- What points stand for.
use Rattle.std.specs.Prelude.{◌≡◌, ℕ, pos, Bool, true, false, IsTrue, if◌then◌else◌, List, refl}
use Rattle.std.proofs.Common.{sym, subst}
use Rattle.std.specs.FinMap as map
use Rattle.std.specs.List.{fold}
use Rattle.std.specs.Ordering.{int_eq}
use Rattle.gx_base.specs.declared.calls.Call.{Call}
use Rattle.gx_base.specs.declared.calls.Made.{Made}
use Rattle.gx_base.specs.declared.calls.Reply.{Reply}
use Rattle.gx_base.specs.declared.calls.Spot.{Spot}
use Rattle.gx_base.specs.declared.kinds.Kind.{Kind}
use Rattle.gx_base.specs.declared.kinds.Kind.TheVariants.{Points}
use Rattle.gx_base.specs.Kinds.{kind_number}
use Rattle.gx_base.specs.Methods.{is_method}
use Rattle.gx_base.specs.PointKind.{PointDeed, Add, Remove, At, Nearest, Nothing, point_deed, point_action, point_first}
use Rattle.gx_base.specs.RowActions.{RowAction}
use Rattle.gx_base.specs.Spots.{spot_of_call}
use Rattle.gx_base.specs.States.{State}
use Rattle.gx_base.specs.Steps.{IsState, next_state}
use Rattle.gx_base.proofs.CallerLemmas.{point_deed-foreign}
use Rattle.kd_points.specs.declared.point_set.KdPoints.{KdPoints}
use Rattle.point_trees.specs.TreeStates.{tree_state, dead_nodes, has_node}
use Rattle.point_trees.specs.Rebuilding.{IsLeanTree, IsBalancedTree}
use Rattle.point_trees.proofs.CallerLemmas.{tree_state-HoldsPlaces}

-- the state of points
abbrev pub points_state : KdPoints → State
points_state points = tree_state points.tree

abbrev pub no_points : State
no_points = record { kind = kind_number Points; rows = map.empty }

-- the call that adds a point
abbrev pub add_call : Spot → Call
add_call r = record { method = point_first; a = r.id; b = r.x; c = r.y; d = r.z }

-- a point more, where it may be added
abbrev pub with_added : State → Spot → State
with_added s r = next_state s (add_call r)

-- these points, added in order
abbrev pub added_points : List Spot → State
added_points spots = fold with_added no_points spots

-- how many distances `nearest` has taken, up to the greatest number of 64 bits
abbrev pub distances_taken : KdPoints → ℕ
distances_taken points = points.looked

-- an add, or a remove, as it acts on the row of its point
abbrev pub change_of : Bool → Call → RowAction
change_of added c = if added then point_action Add c else point_action Remove c

-- a call that replied 1 changed its point's node
abbrev pub changed_room : Bool → Reply → Bool
changed_room there reply = if int_eq reply.p (pos 1) then there else true

abbrev pub room_in_points : PointDeed → Bool → Reply → Bool
room_in_points Add there reply = changed_room there reply
room_in_points Remove there reply = changed_room there reply
room_in_points At there reply = true
room_in_points Nearest there reply = true
room_in_points Nothing there reply = true

-- a call that changed a node has it, so it is undone and done again by a mark
abbrev pub has_points_room : KdPoints → Made → Bool
has_points_room points made = room_in_points (point_deed made.call.method) (has_node points.tree (spot_of_call made.call)) made.reply

-- how many nodes hold no point
abbrev pub dead_nodes_of : KdPoints → ℕ
dead_nodes_of points = dead_nodes points.tree

-- a rebuild would be for little
abbrev pub IsTrim : KdPoints → Type 0
IsTrim points = IsLeanTree points.tree

-- no node stands deeper in the tree than halving the nodes takes
abbrev pub IsBalanced : KdPoints → Type 0
IsBalanced points = IsBalancedTree points.tree

abbrev pub holds_points : Kind → Bool
holds_points Points = true
holds_points _ = false

-- What follows is what the object says of every value. It stands here since that takes nothing from this crate's proofs.

pub foreign-has_points_room : (points : KdPoints) (made : Made) → is_method (points_state points).kind made.call.method ≡ false → IsTrue (has_points_room points made)
foreign-has_points_room points made foreign = subst (λ d. IsTrue (room_in_points d (has_node points.tree (spot_of_call made.call)) made.reply)) (sym (point_deed-foreign made.call.method foreign)) refl

pub points_state-IsState : (points : KdPoints) → IsState (points_state points)
points_state-IsState points key = tree_state-HoldsPlaces points.tree points.sound key
