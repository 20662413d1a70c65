use Rattle.session_cases.proofs.Beginning.{lossy_begin_if}
use Rattle.session_cases.proofs.busy_cases.lossy_rooms.Goals as goal

pub returns : goal.returns
returns c = lossy_begin_if (λ lossy. lossy.rooms) (λ lossy. lossy.lost.items) c.in_ok-rooms.rooms c.new.result c.in_ok-rooms.ensures c.new.ensures
