-- What the reader answers is what the text calls for.
use Rattle.std.proofs.Common.{◌≡◌, ℕ, ◌<◌, ◌⊎◌, ℤ, Bool, true, false, cond, List, length, Result, Ok, Err, refl, sym, ap, subst, ◌∙◌, inl, inr, arith}
use Rattle.std.specs.Prelude.{pos, ◌≤ℤ◌, ◌<ℤ◌, int_le, nat_le}
use Rattle.std.proofs.lemmas.Bool.{leb-true}
use Rattle.std.proofs.lemmas.Bool.Decides.{nat_tests}
use Rattle.std.proofs.lemmas.Int.{ints}
use Rattle.text_lines.specs.Lines.{lines_of}
use Rattle.gx_base.specs.declared.inputs.What.{What}
use Rattle.gx_base.specs.declared.inputs.What.TheVariants.{File, Nodes, Arcs, Points, Nets, Horizon, Size}
use Rattle.gx_base.specs.declared.inputs.InputFault.{InputFault}
use Rattle.gx_base.specs.declared.inputs.InputFault.TheVariants.{Line, Large, NoMemory}
use Rattle.flow_files.specs.declared.network.Network.{Network}
use Rattle.flow_files.specs.Networks.{Net, view}
use Rattle.flow_files.specs.FlowFiles.{IsFlowFile}
use Rattle.flow_files.specs.FlowLimits.{most_nodes, most_arcs, IsWithinLimits, Passes, IsReadable, IsTooLarge, CallsFor, CallsForOne, answer_of, sized}
use Rattle.flow_files.specs.FlowReading.{flow_of, AnswersReading}
use Rattle.flow_files.proofs.files.FirstFaults.{read_flow, flow_is_read, first_fault, one_fault, no_fault}

-- A text is a flow file of at most one network.
pub one_network : (bytes : List ℕ) (m n : Net) → IsFlowFile bytes m → IsFlowFile bytes n → m ≡ n
one_network bytes m n f g =
    let same : Ok m ≡ Ok n = sym (flow_is_read bytes m f) ∙ flow_is_read bytes n g in
    cc

-- ---- limits

nodes_within : (m : ℤ) (n : ℕ) → int_le m (pos n) ≡ true → m ≤ℤ pos n
nodes_within m n h = grind (arith, ints)

nodes_past : (m : ℤ) (n : ℕ) → int_le m (pos n) ≡ false → pos n <ℤ m
nodes_past m n h = grind (arith, ints)

not_past : (m : ℤ) (n : ℕ) → m ≤ℤ pos n → pos n <ℤ m → ⊥
not_past m n le lt = grind (arith, ints)

arcs_past : (m n : ℕ) → nat_le m n ≡ false → n < m
arcs_past m n h = grind (arith, nat_tests)

-- what a flow file of this network calls for
sized_by : (bytes : List ℕ) (net : Net) (few_nodes few_arcs : Bool) → int_le net.nodes (pos most_nodes) ≡ few_nodes → nat_le (length net.arcs) most_arcs ≡ few_arcs → IsFlowFile bytes net
    → CallsFor bytes (cond few_nodes (cond few_arcs (Ok net) (Err (Large Arcs))) (Err (Large Nodes)))
sized_by bytes net true true n a f = record { is_file = f; within = record { nodes = nodes_within net.nodes most_nodes n; arcs = leb-true (length net.arcs) most_arcs a } }
sized_by bytes net true false n a f = record { net = net; is_file = f; passes = (nodes_within net.nodes most_nodes n, arcs_past (length net.arcs) most_arcs a) }
sized_by bytes net false few_arcs n a f = record { net = net; is_file = f; passes = nodes_past net.nodes most_nodes n }

sized_calls : (bytes : List ℕ) (net : Net) → IsFlowFile bytes net → CallsFor bytes (sized net)
sized_calls bytes net f = sized_by bytes net (int_le net.nodes (pos most_nodes)) (nat_le (length net.arcs) most_arcs) refl refl f

within_or_past : (net : Net) (what : What) → IsWithinLimits net → Passes net what → ⊥
within_or_past net Nodes w p = not_past net.nodes most_nodes w.nodes p
within_or_past net Arcs w p = omega (arith, w.arcs, p.1)
within_or_past net File w p = p
within_or_past net Points w p = p
within_or_past net Nets w p = p
within_or_past net Horizon w p = p
within_or_past net Size w p = p

-- what is called for where the nodes pass, and where the arcs do
only_nodes : (net : Net) (what : What) → pos most_nodes <ℤ net.nodes → Passes net what → what ≡ Nodes
only_nodes net Nodes h p = refl
only_nodes net Arcs h p = absurd (not_past net.nodes most_nodes p.0 h)
only_nodes net File h p = absurd p
only_nodes net Points h p = absurd p
only_nodes net Nets h p = absurd p
only_nodes net Horizon h p = absurd p
only_nodes net Size h p = absurd p

only_arcs : (net : Net) (what : What) → net.nodes ≤ℤ pos most_nodes → Passes net what → what ≡ Arcs
only_arcs net Nodes h p = absurd (not_past net.nodes most_nodes h p)
only_arcs net Arcs h p = refl
only_arcs net File h p = absurd p
only_arcs net Points h p = absurd p
only_arcs net Nets h p = absurd p
only_arcs net Horizon h p = absurd p
only_arcs net Size h p = absurd p

one_limit : (net : Net) (a b : What) → Passes net a → Passes net b → a ≡ b
one_limit net Nodes b p q = sym (only_nodes net b p q)
one_limit net Arcs b p q = sym (only_arcs net b p.0 q)
one_limit net File b p q = absurd p
one_limit net Points b p q = absurd p
one_limit net Nets b p q = absurd p
one_limit net Horizon b p q = absurd p
one_limit net Size b p q = absurd p

-- ---- a text calls for just one answer

readable_or_large : (bytes : List ℕ) (net : Net) (what : What) → IsReadable bytes net → IsTooLarge bytes what → ⊥
readable_or_large bytes net what r l = within_or_past l.net what (subst IsWithinLimits (one_network bytes net l.net r.is_file l.is_file) r.within) l.passes

same_limit : (bytes : List ℕ) (a b : What) → IsTooLarge bytes a → IsTooLarge bytes b → a ≡ b
same_limit bytes a b p q = one_limit q.net a b (subst (λ (net : Net). Passes net a) (one_network bytes p.net q.net p.is_file q.is_file) p.passes) q.passes

pub one_answer : (bytes : List ℕ) (a b : Result Net InputFault) → CallsFor bytes a → CallsFor bytes b → a ≡ b
one_answer bytes (Ok m) (Ok n) p q = ap (λ (net : Net). Ok net) (one_network bytes m n p.is_file q.is_file)
one_answer bytes (Ok m) (Err (Line k)) p q = absurd (no_fault (lines_of bytes) m k p.is_file q)
one_answer bytes (Ok m) (Err (Large what)) p q = absurd (readable_or_large bytes m what p q)
one_answer bytes (Ok m) (Err NoMemory) p q = absurd q
one_answer bytes (Err (Line j)) (Ok n) p q = absurd (no_fault (lines_of bytes) n j q.is_file p)
one_answer bytes (Err (Line j)) (Err (Line k)) p q = ap (λ (l : ℕ). Err (Line l)) (one_fault (lines_of bytes) j k p q)
one_answer bytes (Err (Line j)) (Err (Large what)) p q = absurd (no_fault (lines_of bytes) q.net j q.is_file p)
one_answer bytes (Err (Line j)) (Err NoMemory) p q = absurd q
one_answer bytes (Err (Large what)) (Ok n) p q = absurd (readable_or_large bytes n what q p)
one_answer bytes (Err (Large what)) (Err (Line k)) p q = absurd (no_fault (lines_of bytes) p.net k p.is_file q)
one_answer bytes (Err (Large what)) (Err (Large other)) p q = ap (λ (w : What). Err (Large w)) (same_limit bytes what other p q)
one_answer bytes (Err (Large what)) (Err NoMemory) p q = absurd q
one_answer bytes (Err NoMemory) b p q = absurd p

-- what comes of what reading line by line gives
called : Result Net ℕ → Result Net InputFault
called (Ok net) = sized net
called (Err k) = Err (Line k)

called_for : (bytes : List ℕ) (read : Result Net ℕ) → flow_of bytes ≡ read → CallsFor bytes (called read)
unfolding called
called_for bytes (Ok net) h = sized_calls bytes net (read_flow bytes net h)
called_for bytes (Err k) h = first_fault bytes k h

pub calls_for_one : (bytes : List ℕ) → CallsForOne bytes
calls_for_one bytes =
    let calls = called_for bytes (flow_of bytes) refl in
    record { answer = called (flow_of bytes); calls = calls; only = λ other h. one_answer bytes other (called (flow_of bytes)) h calls }

-- ---- the clauses of the reader

abbrev pub Told : List ℕ → Result Network InputFault → Type 0
Told bytes r = (r ≡ Err NoMemory) ⊎ CallsFor bytes (answer_of r)

told_fault : (bytes : List ℕ) (e : InputFault) → AnswersReading (Err e) (flow_of bytes) → Told bytes (Err e)
told_fault bytes (Line k) h = inr (first_fault bytes k h)
told_fault bytes (Large what) h = absurd h
told_fault bytes NoMemory h = inl refl

pub told_refusal : (bytes : List ℕ) (read r : Result Network InputFault) (e : InputFault) → AnswersReading read (flow_of bytes) → read ≡ Err e → r ≡ Err e → Told bytes r
told_refusal bytes read r e gives is same = subst (Told bytes) (sym same) (told_fault bytes e (subst (λ (x : Result Network InputFault). AnswersReading x (flow_of bytes)) is gives))

pub told_network : (bytes : List ℕ) (read r : Result Network InputFault) (net : Network) → AnswersReading read (flow_of bytes) → read ≡ Ok net → answer_of r ≡ sized (view net) → Told bytes r
told_network bytes read r net gives is same =
    let h : flow_of bytes ≡ Ok (view net) = subst (λ (x : Result Network InputFault). AnswersReading x (flow_of bytes)) is gives in
    inr (subst (CallsFor bytes) (sym same) (sized_calls bytes (view net) (read_flow bytes (view net) h)))

pub told_only : (bytes : List ℕ) (r : Result Network InputFault) → Told bytes r → (answer : Result Net InputFault) → CallsFor bytes answer → (r ≡ Err NoMemory) ⊎ (answer_of r ≡ answer)
told_only bytes r (inl e) answer calls = inl e
told_only bytes r (inr told) answer calls = inr (one_answer bytes (answer_of r) answer told calls)
