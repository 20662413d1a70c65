-- The turns of the code, as the machine has them.
use Rattle.std.specs.Prelude.{List, map}
use Rattle.speculation.specs.Events.{Turn}
use Rattle.sessions.specs.Turns.{event_of}
use Rattle.sessions.specs.declared.events.Turn.{Turn as CodeTurn}

abbrev pub turn_of : CodeTurn → Turn
turn_of turn = record { number = turn.number; worker = turn.worker; event = event_of turn.event }

abbrev pub turns_of : List CodeTurn → List Turn
turns_of turns = map turn_of turns
