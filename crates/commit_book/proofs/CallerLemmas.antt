-- What the proofs of other crates cite: how a body moves by each act, for operators, and the states of a list of rooms.
pub use Rattle.commit_book.proofs.acts.MoveSteps.{moves_by_call, moves_to_end, moves_within, moves_if_true, moves_if_false}
pub use Rattle.commit_book.proofs.states.Rooms.{in_rooms-object, in_rooms-set_object}
pub use Rattle.commit_book.proofs.runs.LeastFirst.{determined}
