-- What a turn answers, from the short form of it.
use Rattle.std.specs.Prelude.{ℕ, Option, Some, None, Result, Ok, Err}
use Rattle.gate_core.specs.declared.refusals.Told.{Told}
use Rattle.sessions.specs.declared.answers.Brief.{Brief}
use Rattle.sessions.specs.declared.answers.Brief.TheVariants as brief
use Rattle.sessions.specs.declared.events.Event.{Event as CodeEvent}
use Rattle.sessions.specs.declared.events.Event.TheVariants as code
use Rattle.sessions.specs.declared.events.Stop.{Stop}

-- a conflict is told where it is known
abbrev pub conflict_in : ℕ → Option Told → CodeEvent
conflict_in room (Some told) = code.Conflict room told
conflict_in room None = code.Busy

abbrev pub event_in : Brief → Option Told → CodeEvent
event_in (brief.Take item) told = code.Take item
event_in (brief.Call room call reply) told = code.Call room call reply
event_in (brief.Conflict room) told = conflict_in room told
event_in (brief.Undo room call) told = code.Undo room call
event_in (brief.Commit number) told = code.Commit number
event_in brief.Wait told = code.Wait
event_in brief.Drop told = code.Drop
event_in brief.Idle told = code.Idle
event_in brief.Busy told = code.Busy

abbrev pub answered : Result Brief Stop → Option Told → Result CodeEvent Stop
answered (Ok short) told = Ok (event_in short told)
answered (Err stop) told = Err stop
