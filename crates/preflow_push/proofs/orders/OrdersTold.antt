-- Two orders with one report are the same.
use Rattle.std.specs.Prelude.{◌≡◌, ℕ, suc, ◌≤◌, ℤ, pos, ◌≤ℤ◌, List, [], ◌∷◌, ◌++◌, ⊤, Contains, FitsSigned, refl}
use Rattle.std.proofs.Common.{sym, ◌∙◌, ap, subst, append_assoc, arith}
use Rattle.std.proofs.lemmas.Int.{ints}
use Rattle.std.specs.Int.{w64}
use Rattle.std.specs.List.{AllByRecursion, flat_map}
use Rattle.gx_base.specs.declared.items.Item.{Item}
use Rattle.gx_base.specs.States.{State}
use Rattle.gx_base.specs.Worklists.{with_items}
use Rattle.flow_files.specs.declared.flow_lines.Said.{Said}
use Rattle.flow_files.specs.declared.flow_lines.Said.TheVariants.{Nothing, Problem, Source, Sink, Arc as ArcLine, Wrong}
use Rattle.flow_files.specs.Networks.{Net}
use Rattle.flow_files.specs.FlowFiles.{IsOf, arcs_of}
use Rattle.flow_files.specs.FlowLimits.{most_nodes, IsReadable}
use Rattle.preflow_push.specs.FlowStates.{excess_in}
use Rattle.preflow_push.specs.FlowReports.{commit_line, value_line, arc_lines, flow_report}
use Rattle.preflow_push.specs.Discharge.{discharge_operator}
use Rattle.preflow_push.specs.Starts.{start_states, start_ready}
use Rattle.preflow_push.specs.StartLaw.{IsOfExcess}
use Rattle.preflow_push.specs.OrderLaw.{HasNodesOfWords, ReportsOrder}
use Rattle.preflow_push.proofs.start_states.ReadyLaws.{is_of_excess}
use Rattle.told_orders.specs.ItemLines.{BeginsWithLines}
use Rattle.told_orders.proofs.Lines.{IsOfNumber, lines_tell, number_lines}
use Rattle.told_orders.proofs.Orders.{body-pushes, all-with_items, all-serial}
use Rattle.preflow_push.proofs.orders.DischargePushes.{of_node, HasEnds, discharge_pushes}

-- ---- ready at the start

between : (q n : ℤ) → pos 1 ≤ℤ q → q ≤ℤ n → FitsSigned w64 n → FitsSigned w64 q
between q n low high fits = omega (arith, ints, low, high, fits)

each_of : (xs : List Item) → ((item : Item) → Contains xs item → IsOfNumber item) → AllByRecursion IsOfNumber xs
each_of [] each = tt
each_of (x ∷ xs) each = (each x (0, omega arith, refl), each_of xs (λ item c. each item (suc c.0, let h = c.1 in omega arith, c.2)))

start_item : (net : Net) (item : Item) → FitsSigned w64 net.nodes → IsOfExcess net (start_states net) item → IsOfNumber item
start_item net item fits o = subst IsOfNumber (sym o.is) (of_node o.node (between o.node net.nodes o.from_one o.within fits))

start_items : (net : Net) → FitsSigned w64 net.nodes → AllByRecursion IsOfNumber (with_items [] (start_ready net))
start_items net fits = all-with_items IsOfNumber (start_ready net) [] tt (each_of (start_ready net) (λ item c. start_item net item fits (is_of_excess net item c)))

order_items : (net : Net) (bytes : List ℕ) (order : List Item) → HasNodesOfWords net → ReportsOrder net bytes order → AllByRecursion IsOfNumber order
order_items net bytes order words r =
    all-serial IsOfNumber (discharge_operator net) (λ states ready. ⊤) (λ item states ready h. h) (λ item states ready h is. body-pushes IsOfNumber ((discharge_operator net).plan item) states (discharge_pushes net words.ends item is)) order
    (start_states net) (with_items [] (start_ready net)) r.ended tt (start_items net words.nodes) r.in_turn

-- ---- the report

report_parts : (net : Net) (order : List Item) (states : ℕ → State) (more : List ℕ)
    → flow_report net order states ++ more ≡ flat_map commit_line order ++ (value_line (excess_in states net.sink) ++ (arc_lines states 1 net.arcs ++ more))
report_parts net order states more =
    append_assoc (flat_map commit_line order ++ value_line (excess_in states net.sink)) (arc_lines states 1 net.arcs) more
    ∙ append_assoc (flat_map commit_line order) (value_line (excess_in states net.sink)) (arc_lines states 1 net.arcs ++ more)

-- the lines of commits end with the line of the value: c (99) is not s (115)
lines_of_order : (net : Net) (bytes : List ℕ) (order : List Item) → ReportsOrder net bytes order → BeginsWithLines 99 commit_line bytes order
lines_of_order net bytes order r = record {
  more = value_line (excess_in r.ended.states net.sink) ++ (arc_lines r.ended.states 1 net.arcs ++ r.more);
  begins = r.begins ∙ report_parts net order r.ended.states r.more;
  told_apart = refl;
}

pub orders_told : (net : Net) → HasNodesOfWords net → (bytes : List ℕ) (order other : List Item) → ReportsOrder net bytes order → ReportsOrder net bytes other → order ≡ other
orders_told net words bytes order other p q =
    lines_tell IsOfNumber 99 commit_line (number_lines 99 (32 ∷ 105 ∷ 32 ∷ []) refl) bytes order other (order_items net bytes order words p) (order_items net bytes other words q) (lines_of_order net bytes order p)
    (lines_of_order net bytes other q)

-- ---- networks of files

small_ends : (nodes from to : ℕ) → from ≤ nodes → to ≤ nodes → nodes ≤ most_nodes → FitsSigned w64 (pos from) × FitsSigned w64 (pos to)
small_ends nodes from to f t n = (omega (arith, ints), omega (arith, ints))

ends_fit : (nodes : ℕ) (saids : List Said) → nodes ≤ most_nodes → AllByRecursion (IsOf nodes) saids → AllByRecursion HasEnds (arcs_of saids)
ends_fit nodes [] few each = tt
ends_fit nodes (Nothing ∷ saids) few each = absurd each.0
ends_fit nodes (Problem n m ∷ saids) few each = absurd each.0
ends_fit nodes (Source id ∷ saids) few each = ends_fit nodes saids few each.1
ends_fit nodes (Sink id ∷ saids) few each = ends_fit nodes saids few each.1
ends_fit nodes (ArcLine from to cap ∷ saids) few each = (small_ends nodes from to each.0.start.within each.0.end.within few, ends_fit nodes saids few each.1)
ends_fit nodes (Wrong ∷ saids) few each = absurd each.0

nodes_within : (net : Net) (nodes : ℕ) → net.nodes ≡ pos nodes → net.nodes ≤ℤ pos most_nodes → nodes ≤ most_nodes
nodes_within net nodes e w = let le : pos nodes ≤ℤ pos most_nodes = subst (λ (z : ℤ). z ≤ℤ pos most_nodes) e w in omega (arith, ints, le)

small_nodes : (nodes : ℕ) → nodes ≤ most_nodes → FitsSigned w64 (pos nodes)
small_nodes nodes few = omega (arith, ints)

pub words_of_file : (bytes : List ℕ) (net : Net) → IsReadable bytes net → HasNodesOfWords net
words_of_file bytes net r =
    let f = r.is_file in
    let few : f.nodes ≤ most_nodes = nodes_within net f.nodes (ap (λ (n : Net). n.nodes) f.is) r.within.nodes in
    record {
      nodes = subst (λ (n : Net). FitsSigned w64 n.nodes) (sym f.is) (small_nodes f.nodes few);
      ends = subst (λ (n : Net). AllByRecursion HasEnds n.arcs) (sym f.is) (ends_fit f.nodes f.rest few f.each);
    }
