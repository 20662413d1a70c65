use Rattle.rooms.proofs.visits.Vectors.{vector_acts_for, vector_lost, vector_never_risen}
use Rattle.rooms.proofs.laws.vectors_lose_no_take.Goals as goal

pub returns : goal.returns
returns g c = record {
  everyone = λ visits. vector_acts_for g.V.Homed.told visits;
  lost = λ visits room. vector_lost g.V.Homed.told visits room;
  never = λ before after room h. vector_never_risen g.V.Homed.told before after room h;
}
