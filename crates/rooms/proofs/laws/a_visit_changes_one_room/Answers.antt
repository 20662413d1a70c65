use Rattle.rooms.proofs.visits.Visiting.{visited_gate, released_gate, visited_book}
use Rattle.rooms.proofs.laws.a_visit_changes_one_room.Goals as goal

pub returns : goal.returns
returns g c = record {
  gate = λ view room was now free e h. visited_gate g.V.Homed.told view room was now free e h;
  released = λ view room was now free e h m. released_gate g.V.Homed.told view room was now free e h m;
  book = λ view was now free. visited_book g.V.Homed.told view was now free;
}
