use Rattle.loop_runs.proofs.LoopRooms.{gate_taken, book_taken}
use Rattle.loop_runs.proofs.runs.taken_out.Goals as goal

pub loop-value-preserved-in-Continue-1 : goal.loop-value-preserved-in-Continue-1
loop-value-preserved-in-Continue-1 g c =
    gate_taken g.T.SeqType.state c.loop-value.yielded c.in-Some.value c.in-Object.gate c.loop-value.objects.items _ c.into_object.result _ _ c.in-Object.is c.loop-value.invariant c.in_ok-push-in-Object.ensures.items c.into_object.ensures

pub loop-value-preserved : goal.loop-value-preserved
loop-value-preserved g c = book_taken g.T.SeqType.state c.loop-value.yielded c.in-Some.value c.in-Book.book c.loop-value.objects.items _ _ c.in-Book.is c.loop-value.invariant
