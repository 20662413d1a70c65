use Rattle.std.proofs.Common.{◌≡◌, ℕ, List, ◌++◌, length}
use Rattle.sessions.specs.Visits.{AreReleased}
use Rattle.sessions.proofs.committing.release_all.Given as goal

-- the rooms that were passed are released
abbrev pub invariant-passing : goal.invariant-passing
invariant-passing g l =
    (front : List ℕ) × (l.fn.left ≡ front ++ l.left) × AreReleased (g.R.Rooms.view l.fn.rooms) (g.R.Rooms.view l.rooms) l.worker l.iter l.number front × (g.R.Rooms.loan l.rooms ≡ g.R.Rooms.loan l.fn.rooms)

abbrev pub decreases-passing : goal.decreases-passing
decreases-passing g l = length l.left
