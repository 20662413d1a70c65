-- What the proofs of other crates may use of this one: which state a tree is in, and what the nearest point is.
pub use Rattle.point_trees.proofs.states.Basics.{some_is, some_none, same_int, int_eq-of, int_eq-comm, false_of, not_both}
pub use Rattle.point_trees.proofs.states.StateRows.{with_rows, other_rows}
pub use Rattle.point_trees.proofs.states.TreePlaces.{tree_state-HoldsPlaces}
pub use Rattle.point_trees.proofs.rebuilds.Gathering.{place_row, row-spot, spot_id, contains_one, one_of, blank_sound, blank_state}
pub use Rattle.point_trees.proofs.rebuilds.Halves.{own_none, own_more}
pub use Rattle.point_trees.proofs.searches.NearestLaws.{key_cmp_total, pk-apart, beyond-back, nearest-is, nearest-when, spot_at-with}
pub use Rattle.point_trees.proofs.searches.Ends.{held_point}
