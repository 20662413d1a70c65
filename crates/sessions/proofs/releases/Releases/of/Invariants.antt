use Rattle.std.proofs.Common.{◌≡◌, drop}
use Rattle.sessions.specs.RoomLists.{rooms_of}
use Rattle.sessions.proofs.releases.Releases.of.Given as goal

abbrev pub invariant-loop-place : goal.invariant-loop-place
invariant-loop-place l = l.rooms.items ≡ rooms_of (drop l.place l.log)
