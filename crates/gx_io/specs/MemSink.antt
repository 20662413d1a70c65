-- A sink in memory.
use Rattle.std.specs.Prelude.{ℕ, ◌+◌, ◌≤◌, List, ◌++◌, length, take, false}
use Rattle.gx_io.specs.declared.memory_sink.TheConstants.{ROOM}
use Rattle.gx_io.specs.declared.memory_sink.MemSink.{MemSink}
use Rattle.gx_io.specs.Schedules.{Schedule, schedule}
use Rattle.gx_io.specs.Sinks.{Written}

-- what was written
abbrev pub written_to : MemSink → Written
written_to sink = record { bytes = sink.bytes.items; flushed = sink.flushed }

-- how many faults there were
abbrev pub faults_of : MemSink → ℕ
faults_of sink = sink.calls.faults

-- the number of the next call, and the numbers of those that are to fail
abbrev pub schedule_of : MemSink → Schedule
schedule_of sink = schedule sink.calls

-- how many bytes one write takes at most
abbrev pub most_of : MemSink → ℕ
most_of sink = sink.most

-- what one write takes of a piece, as far as there is room
abbrev pub taken_of : MemSink → List ℕ → List ℕ
taken_of sink piece = take sink.most piece

-- there is room for what one write takes of a piece
abbrev pub Fits : MemSink → List ℕ → Type 0
Fits sink piece = length sink.bytes.items + length (taken_of sink piece) ≤ ROOM

-- what was written once one write took what it takes of a piece
abbrev pub written_after : MemSink → List ℕ → Written
written_after sink piece = record { bytes = sink.bytes.items ++ taken_of sink piece; flushed = false }
