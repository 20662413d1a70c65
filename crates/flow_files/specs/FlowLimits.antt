-- How large a network may be that is read, and what a text calls for: a network, or the limit that it passes, or the
-- line of its first fault.
use Rattle.std.specs.Prelude.{◌≡◌, ℕ, ◌≤◌, ◌<◌, pos, ◌≤ℤ◌, ◌<ℤ◌, int_le, nat_le, if◌then◌else◌, List, length, Result, Ok, Err}
use Rattle.text_lines.specs.Lines.{lines_of}
use Rattle.gx_base.specs.declared.inputs.What.{What}
use Rattle.gx_base.specs.declared.inputs.What.TheVariants.{Nodes, Arcs}
use Rattle.gx_base.specs.declared.inputs.InputFault.{InputFault}
use Rattle.gx_base.specs.declared.inputs.InputFault.TheVariants.{Line, Large, NoMemory}
use Rattle.flow_files.specs.declared.network.Network.{Network}
use Rattle.flow_files.specs.Networks.{Net, view}
use Rattle.flow_files.specs.FlowFiles.{IsFlowFile, IsFirstBadLine}

abbrev pub most_nodes : ℕ
most_nodes = 100000

abbrev pub most_arcs : ℕ
most_arcs = 400000

-- the limits, which are no part of the grammar
pub record IsWithinLimits (net : Net) : Type 0 where
  pub nodes : net.nodes ≤ℤ pos most_nodes
  pub arcs : length net.arcs ≤ most_arcs

-- the first limit that a network passes: that on nodes comes before that on arcs
abbrev pub Passes : Net → What → Type 0
Passes net Nodes = pos most_nodes <ℤ net.nodes
Passes net Arcs = (net.nodes ≤ℤ pos most_nodes) × (most_arcs < length net.arcs)
Passes net what = ⊥

-- the bytes are a flow file of this network, which may be read
pub record IsReadable (bytes : List ℕ) (net : Net) : Type 0 where
  pub is_file : IsFlowFile bytes net
  pub within : IsWithinLimits net

-- the bytes are a flow file, and this is the first limit that its network passes
pub record IsTooLarge (bytes : List ℕ) (what : What) : Type 0 where
  pub net : Net
  pub is_file : IsFlowFile bytes net
  pub passes : Passes net what

-- what a text calls for
abbrev pub CallsFor : List ℕ → Result Net InputFault → Type 0
CallsFor bytes (Ok net) = IsReadable bytes net
CallsFor bytes (Err (Line k)) = IsFirstBadLine (lines_of bytes) k
CallsFor bytes (Err (Large what)) = IsTooLarge bytes what
CallsFor bytes (Err NoMemory) = ⊥

-- a text calls for just one of these
pub record CallsForOne (bytes : List ℕ) : Type 0 where
  pub answer : Result Net InputFault
  pub calls : CallsFor bytes answer
  pub only : (other : Result Net InputFault) → CallsFor bytes other → other ≡ answer

-- what was answered, with a network as contracts see it
abbrev pub answer_of : Result Network InputFault → Result Net InputFault
answer_of (Ok net) = Ok (view net)
answer_of (Err fault) = Err fault

-- a network, or the first limit that it passes
abbrev pub sized : Net → Result Net InputFault
sized net =
    if int_le net.nodes (pos most_nodes) then
    (if nat_le (length net.arcs) most_arcs then Ok net else Err (Large Arcs))
    else Err (Large Nodes)
