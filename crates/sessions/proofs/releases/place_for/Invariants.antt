use Rattle.std.proofs.Common.{◌≡◌}
use Rattle.std.specs.Ordering.{nat_cmp}
use Rattle.std.specs.BTreeSet.{insert_key}
use Rattle.sessions.proofs.PlacedRooms.{put_past}
use Rattle.sessions.proofs.releases.place_for.Given as goal

abbrev pub invariant-loop-place : goal.invariant-loop-place
invariant-loop-place l = insert_key nat_cmp l.rooms l.room ≡ put_past l.rooms l.place l.room
