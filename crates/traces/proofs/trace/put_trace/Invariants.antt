use Rattle.std.proofs.Common.{◌≡◌, ◌++◌, take}
use Rattle.sessions.specs.EventViews.{turns_of}
use Rattle.traces.specs.Traces.{trace_text}
use Rattle.traces.proofs.trace.put_trace.Given as goal

-- the lines of the turns so far were added
abbrev pub invariant-loop-turn : goal.invariant-loop-turn
invariant-loop-turn l = l.text.items ≡ l.fn.text.items ++ trace_text (record { turns = l.lines; told = l.told }) (turns_of (take l.turn-index l.trace))
