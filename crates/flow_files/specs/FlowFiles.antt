-- Which texts are flow files, of which network, and which line of another text is its first fault.
use Rattle.std.specs.Prelude.{◌≡◌, ◌≢◌, ℕ, ◌+◌, ◌-◌, ◌≤◌, pos, List, [], ◌∷◌, ◌++◌, length, map, take}
use Rattle.std.specs.List.{AllByRecursion}
use Rattle.text_lines.specs.Lines.{lines_of}
use Rattle.flow_files.specs.declared.network.Arc as arcs
use Rattle.flow_files.specs.declared.flow_lines.Said.{Said}
use Rattle.flow_files.specs.declared.flow_lines.Said.TheVariants.{Nothing, Problem, Source, Sink, Arc}
use Rattle.flow_files.specs.FlowLines.{said_by}
use Rattle.flow_files.specs.Networks.{Net}

-- what is said, without the lines that are skipped
abbrev pub spoken : List Said → List Said
spoken [] = []
spoken (Nothing ∷ saids) = spoken saids
spoken (said ∷ saids) = said ∷ spoken saids

-- the nodes that are said to be the source, and those that are said to be the sink
abbrev pub sources : List Said → List ℕ
sources [] = []
sources (Source id ∷ saids) = id ∷ sources saids
sources (said ∷ saids) = sources saids

abbrev pub sinks : List Said → List ℕ
sinks [] = []
sinks (Sink id ∷ saids) = id ∷ sinks saids
sinks (said ∷ saids) = sinks saids

abbrev pub new_arc : ℕ → ℕ → ℕ → arcs.Arc
new_arc from to cap = record { from = pos from; to = pos to; cap = pos cap }

abbrev pub arcs_of : List Said → List arcs.Arc
arcs_of [] = []
arcs_of (Arc from to cap ∷ saids) = new_arc from to cap ∷ arcs_of saids
arcs_of (said ∷ saids) = arcs_of saids

-- the nodes are the numbers from 1
pub record IsNode (nodes id : ℕ) : Type 0 where
  pub from_one : 1 ≤ id
  pub within : id ≤ nodes

-- the largest capacity: a thousand million
abbrev pub most_capacity : ℕ
most_capacity = 1000000000

-- an arc joins two different nodes, and its capacity is at most the largest one
pub record Joins (nodes from to cap : ℕ) : Type 0 where
  pub start : IsNode nodes from
  pub end : IsNode nodes to
  pub differ : from ≢ to
  pub small : cap ≤ most_capacity

-- what may stand after the line that says how many nodes there are
abbrev pub IsOf : ℕ → Said → Type 0
IsOf nodes (Source id) = IsNode nodes id
IsOf nodes (Sink id) = IsNode nodes id
IsOf nodes (Arc from to cap) = Joins nodes from to cap
IsOf nodes said = ⊥

-- What lines say is a flow file of this network: first how many nodes and arcs there are, at least two nodes; then,
-- in any order, one source, one sink, which is another node, and so many arcs.
pub record IsFlowOf (saids : List Said) (net : Net) : Type 0 where
  pub nodes : ℕ
  pub count : ℕ
  pub source : ℕ
  pub sink : ℕ
  pub rest : List Said
  pub problem : spoken saids ≡ Problem nodes count ∷ rest
  pub enough : 2 ≤ nodes
  pub each : AllByRecursion (IsOf nodes) rest
  pub one_source : sources rest ≡ source ∷ []
  pub one_sink : sinks rest ≡ sink ∷ []
  pub differ : source ≢ sink
  pub all_arcs : length (arcs_of rest) ≡ count
  pub is : net ≡ record { nodes = pos nodes; source = pos source; sink = pos sink; arcs = arcs_of rest }

abbrev pub AreFlow : List (List ℕ) → Net → Type 0
AreFlow lines net = IsFlowOf (map said_by lines) net

-- the bytes are a flow file of this network
abbrev pub IsFlowFile : List ℕ → Net → Type 0
IsFlowFile bytes net = AreFlow (lines_of bytes) net

-- some flow file begins with these lines
abbrev pub CanGoOn : List (List ℕ) → Type 0
CanGoOn lines = (more : List (List ℕ)) × (net : Net) × AreFlow (lines ++ more) net

-- The first line, from 1, with which the lines up to it are the beginning of no flow file. Where all lines are the
-- beginning of one and yet none themselves, something is missing, and the line after the last is told.
pub record IsFirstBadLine (lines : List (List ℕ)) (k : ℕ) : Type 0 where
  pub from_one : 1 ≤ k
  pub within : k ≤ length lines + 1
  pub before : CanGoOn (take (k - 1) lines)
  pub here : k ≤ length lines → CanGoOn (take k lines) → ⊥
  pub missing : k ≡ length lines + 1 → (net : Net) → AreFlow lines net → ⊥
