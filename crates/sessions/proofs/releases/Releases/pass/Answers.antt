use Rattle.std.proofs.Common.{◌≡◌, suc, ◌+◌, drop, sym, ◌∙◌, ap, arith}
use Rattle.sessions.specs.RoomLists.{rooms_after_first}
use Rattle.sessions.proofs.PlacedRooms.{rest_left}
use Rattle.sessions.proofs.releases.Releases.pass.Goals as goal

pub returns-then-self-len : goal.returns-then-self-len
returns-then-self-len c =
    let more : c.self.inside.passed + 1 ≡ suc c.self.inside.passed = omega arith in
    ap (λ k. drop k c.self.inside.rooms.items) more ∙ sym (rest_left c.self.inside.rooms.items c.self.inside.passed) ∙ ap rooms_after_first c.self.view_is
