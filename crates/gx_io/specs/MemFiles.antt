-- Files in memory.
use Rattle.std.specs.Prelude.{ℕ, List, Option, IsSome}
use Rattle.gx_io.specs.declared.memory_files.MemFiles.{MemFiles}
use Rattle.gx_io.specs.NamedFiles.{bytes_of, rest_of}
use Rattle.gx_io.specs.Schedules.{Schedule, schedule}

-- what a name holds: what the first file of this name does
abbrev pub file_of : MemFiles → List ℕ → Option (List ℕ)
file_of m = bytes_of m.files.items

-- what is left of the started file
abbrev pub left_of : MemFiles → Option (List ℕ)
left_of m = rest_of m.files.items m.started m.at

-- a file was started
abbrev pub IsStarted : MemFiles → Type 0
IsStarted m = IsSome m.started

-- how many faults there were
abbrev pub faults_of : MemFiles → ℕ
faults_of m = m.calls.faults

-- the number of the next call, and the numbers of those that are to fail
abbrev pub schedule_of : MemFiles → Schedule
schedule_of m = schedule m.calls
