-- Reading a flow file line by line, one level below what a flow file is: what the lines said so far, and where reading
-- stops.
use Rattle.std.specs.Prelude.{◌≡◌, ℕ, ◌+◌, ◌<◌, ◌^◌, pos, Bool, true, false, not, ◌&&◌, ◌==◌, nat_le, nat_lt, if◌then◌else◌, List, [], ◌∷◌, ◌++◌, length, map, Option, Some, None, is_none, IfSome, Result, Ok, Err, ⊤}
use Rattle.text_lines.specs.Lines.{lines_of}
use Rattle.gx_base.specs.declared.inputs.InputFault.{InputFault}
use Rattle.gx_base.specs.declared.inputs.InputFault.TheVariants as faults
use Rattle.flow_files.specs.declared.network.Arc as arcs
use Rattle.flow_files.specs.declared.network.Network.{Network}
use Rattle.flow_files.specs.declared.flow_lines.Said.{Said}
use Rattle.flow_files.specs.declared.flow_lines.Said.TheVariants.{Nothing, Problem, Source, Sink, Arc, Wrong}
use Rattle.flow_files.specs.declared.reading.LinesRead.{LinesRead}
use Rattle.flow_files.specs.FlowLines.{said_by}
use Rattle.flow_files.specs.FlowFiles.{most_capacity, new_arc}
use Rattle.flow_files.specs.Networks.{Net, view}

-- what the lines said so far: the problem (nodes and arcs), the terminals and the arcs
pub record FileState : Type 0 where
  pub problem : Option (ℕ × ℕ)
  pub source : Option ℕ
  pub sink : Option ℕ
  pub arcs : List arcs.Arc

abbrev pub state : LinesRead → FileState
state seen = record { problem = seen.problem; source = seen.source; sink = seen.sink; arcs = seen.arcs.items }

abbrev pub at_first : FileState
at_first = record { problem = None; source = None; sink = None; arcs = [] }

abbrev pub is_node_number : ℕ → ℕ → Bool
is_node_number nodes id = nat_le 1 id && nat_le id nodes

-- the other terminal isn't this node
abbrev pub is_other_than : ℕ → Option ℕ → Bool
is_other_than id None = true
is_other_than id (Some other) = not (id == other)

-- whether a terminal may be told, where this one and the other may have been told before
abbrev pub may_be_terminal : Option (ℕ × ℕ) → Option ℕ → Option ℕ → ℕ → Bool
may_be_terminal None this other id = false
may_be_terminal (Some p) this other id = is_none this && is_node_number p.0 id && is_other_than id other

-- whether an arc may be told after so many
abbrev pub may_go : Option (ℕ × ℕ) → ℕ → ℕ → ℕ → ℕ → Bool
may_go None before from to cap = false
may_go (Some p) before from to cap = nat_lt before p.1 && is_node_number p.0 from && is_node_number p.0 to && not (from == to) && nat_le cap most_capacity

-- a line more, or nothing where it can't stand there
abbrev pub with_line : Said → FileState → Option FileState
with_line Nothing s = Some s
with_line (Problem nodes arcs) s = if is_none s.problem && nat_le 2 nodes then Some (record s { problem = Some (nodes, arcs) }) else None
with_line (Source id) s = if may_be_terminal s.problem s.source s.sink id then Some (record s { source = Some id }) else None
with_line (Sink id) s = if may_be_terminal s.problem s.sink s.source id then Some (record s { sink = Some id }) else None
with_line (Arc from to cap) s = if may_go s.problem (length s.arcs) from to cap then Some (record s { arcs = s.arcs ++ new_arc from to cap ∷ [] }) else None
with_line Wrong s = None

-- the network, where nothing is missing
abbrev pub whole_of : Option (ℕ × ℕ) → Option ℕ → Option ℕ → List arcs.Arc → Option Net
whole_of (Some p) (Some source) (Some sink) arcs = if length arcs == p.1 then Some (record { nodes = pos p.0; source = pos source; sink = pos sink; arcs = arcs }) else None
whole_of (Some p) (Some source) None arcs = None
whole_of (Some p) None sink arcs = None
whole_of None source sink arcs = None

abbrev pub whole : FileState → Option Net
whole s = whole_of s.problem s.source s.sink s.arcs

-- the network that lines tell from here on, or the line of the first fault; the next line has the number k
abbrev pub read_to_end : Option Net → ℕ → Result Net ℕ
read_to_end None k = Err k
read_to_end (Some net) k = Ok net

abbrev pub then_read : Option FileState → ℕ → (FileState → Result Net ℕ) → Result Net ℕ
then_read None k go_on = Err k
then_read (Some s) k go_on = go_on s

abbrev pub read_from : List Said → ℕ → FileState → Result Net ℕ
read_from [] k s = read_to_end (whole s) k
read_from (said ∷ saids) k s = then_read (with_line said s) k (read_from saids (k + 1))

abbrev pub saids_of : List ℕ → List Said
saids_of bytes = map said_by (lines_of bytes)

abbrev pub flow_of : List ℕ → Result Net ℕ
flow_of bytes = read_from (saids_of bytes) 1 at_first

-- what a reader returned is what reading gives, unless memory ran out
abbrev pub Fails : InputFault → Result Net ℕ → Type 0
Fails (faults.Line k) read = read ≡ Err k
Fails (faults.Large what) read = ⊥
Fails faults.NoMemory read = ⊤

abbrev pub AnswersReading : Result Network InputFault → Result Net ℕ → Type 0
AnswersReading (Ok net) read = read ≡ Ok (view net)
AnswersReading (Err e) read = Fails e read

abbrev pub AreSmall : FileState → Type 0
AreSmall s = IfSome s.problem (λ p. p.0 < 10 ^ 18) × IfSome s.source (λ id. id < 10 ^ 18) × IfSome s.sink (λ id. id < 10 ^ 18)
