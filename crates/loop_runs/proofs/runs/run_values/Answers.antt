use Rattle.std.proofs.Common.{◌∙◌, ℕ, List, slice_get, sym, subst}
use Rattle.commit_book.specs.SerialRuns.{operator_of}
use Rattle.speculation.specs.ScheduledRuns.{AllBelow}
use Rattle.sessions.specs.EventViews.{turns_of}
use Rattle.iterate.specs.Plays.{IsPlayed, PassesFirst, begun_machine}
use Rattle.loop_runs.proofs.LoopPlays.{rooms_unheld, new_in_rooms, played_of, past_of, all_below, of_answer}
use Rattle.loop_runs.proofs.runs.run_values.Goals as goal

pub play-requires-clause-free : goal.play-requires-clause-free
play-requires-clause-free g c = rooms_unheld c.new-rooms.result c.args.values.items c.new-rooms.ensures

pub play-requires-clause-new : goal.play-requires-clause-new
play-requires-clause-new g c = new_in_rooms c.new-rooms.result c.args.values.items c.new-rooms.ensures (operator_of g.O.Operator c.args.op.now) c.requires.new

pub play-requires-clause-schedule : goal.play-requires-clause-schedule
play-requires-clause-schedule g c = subst (λ turns. AllBelow turns c.args.options.workers) (sym c.deref.ensures.value) (all_below c.in-Ok.turns.items c.args.options.workers c.in-Ok.ensures.within)

pub returns-in-Ok-clause-played : goal.returns-in-Ok-clause-played
returns-in-Ok-clause-played g c =
    of_answer _ _ c.play.result
    (λ played is.
    subst (λ (turns : List ℕ). IsPlayed (operator_of g.O.Operator c.args.op.now) (begun_machine (g.O.Operator.room_count c.args.op.now) (slice_get c.args.values.items)) c.args.options.workers turns (turns_of played.trace.items) (slice_get played.values.items)) (c.deref.ensures.value ∙ c.in-Ok.ensures.turns)
    (played_of c.new-rooms.result c.args.values.items c.new-rooms.ensures (operator_of g.O.Operator c.args.op.now) (g.O.Operator.room_count c.args.op.now) c.args.options.workers c.deref.result.now (turns_of played.trace.items) (slice_get played.values.items) is))
    c.play.ensures.played

pub returns-in-Ok-clause-past : goal.returns-in-Ok-clause-past
returns-in-Ok-clause-past g c = λ limit e.
    subst (λ (turns : List ℕ). PassesFirst (operator_of g.O.Operator c.args.op.now) (begun_machine (g.O.Operator.room_count c.args.op.now) (slice_get c.args.values.items)) c.args.options.workers turns limit) (c.deref.ensures.value ∙ c.in-Ok.ensures.turns)
    (past_of c.new-rooms.result c.args.values.items c.new-rooms.ensures (operator_of g.O.Operator c.args.op.now) (g.O.Operator.room_count c.args.op.now) c.args.options.workers c.deref.result.now limit
    (c.play.ensures.stopped limit e))
