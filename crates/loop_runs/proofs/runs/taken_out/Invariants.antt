use Rattle.std.proofs.Common.{◌≡◌, map, [], false}
use Rattle.commit_book.specs.BookViews.{new_book}
use Rattle.loop_runs.specs.LoopRooms.{states_in, last_book}
use Rattle.loop_runs.proofs.runs.taken_out.Given as goal

-- of the values so far the objects are taken out, and the last book
abbrev pub invariant-loop-value : goal.invariant-loop-value
invariant-loop-value g l = (map g.T.SeqType.state l.objects.items ≡ states_in l.yielded) × (l.last ≡ last_book (new_book false []) l.yielded)
