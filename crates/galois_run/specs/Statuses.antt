-- Statuses: their numbers, and the lines that tell them.
use Rattle.std.specs.Prelude.{ℕ, List, [], ◌++◌, codes}
use Rattle.std.specs.Fmt.{decimal}
use Rattle.gx_base.specs.declared.inputs.What.{What}
use Rattle.gx_base.specs.declared.inputs.What.TheVariants.{File, Nodes, Arcs, Points, Nets, Horizon, Size}
use Rattle.galois_run.specs.declared.status.Status.{Status}
use Rattle.galois_run.specs.declared.status.Status.TheVariants.{Ok, Usage, BadInput, ReadFault, WriteFault, NoMemory, TooLarge, Spent, Kept, BadTable}
use Rattle.run_commands.specs.declared.run_faults.TableFault.{TableFault}
use Rattle.run_commands.specs.declared.run_faults.TableFault.TheVariants.{Line, Pair}
use Rattle.gx_base.specs.Methods.{word_of}

abbrev pub status_code : Status → ℕ
status_code Ok = 0
status_code Usage = 1
status_code (BadInput line) = 2
status_code ReadFault = 3
status_code WriteFault = 4
status_code NoMemory = 5
status_code (TooLarge what) = 6
status_code Spent = 7
status_code Kept = 8
status_code (BadTable why) = 9

abbrev pub what_text : What → List ℕ
what_text File = codes "file"
what_text Nodes = codes "nodes"
what_text Arcs = codes "arcs"
what_text Points = codes "points"
what_text Nets = codes "nets"
what_text Horizon = codes "horizon"
what_text Size = codes "size"

abbrev pub pair_text : List ℕ → List ℕ → List ℕ
pair_text first second = codes "galois: conditions: " ++ first ++ codes " " ++ second

abbrev pub fault_text : TableFault → List ℕ
fault_text (Line line) = codes "galois: conditions: line " ++ decimal line
fault_text (Pair first second) = pair_text (word_of first) (word_of second)

-- the line on standard error
abbrev pub text_of : Status → List ℕ
text_of Ok = []
text_of Usage = codes "galois: usage: galois COMMAND WORDS [--name value]..."
text_of (BadInput line) = codes "galois: line " ++ decimal line ++ codes ": bad input"
text_of ReadFault = codes "galois: reading failed"
text_of WriteFault = codes "galois: writing failed"
text_of NoMemory = codes "galois: no memory"
text_of (TooLarge what) = codes "galois: too large: " ++ what_text what
text_of Spent = codes "galois: spent"
text_of Kept = codes "galois: kept"
text_of (BadTable why) = fault_text why

-- the status tells nothing but itself
abbrev pub IsBare : Status → Type 0
IsBare (BadInput line) = ⊥
IsBare (TooLarge what) = ⊥
IsBare (BadTable why) = ⊥
IsBare status = Unit {0}
