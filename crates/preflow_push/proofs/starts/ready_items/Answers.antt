use Rattle.std.specs.Prelude.{ℕ, ◌&&◌, map}
use Rattle.std.proofs.Common.{ap, ◌∙◌}
use Rattle.std.specs.List.{list_any}
use Rattle.std.specs.Ordering.{int_eq}
use Rattle.gx_base.specs.States.{State}
use Rattle.flow_files.specs.declared.network.Arc.{Arc}
use Rattle.flow_files.specs.Networks.{view}
use Rattle.preflow_push.specs.Discharge.{is_node, node_item}
use Rattle.preflow_push.specs.Starts.{is_active}
use Rattle.preflow_push.proofs.start_states.ReadyNodes.{ready_by}
use Rattle.preflow_push.proofs.starts.ready_items.Goals as goal

pub returns : goal.returns
returns c =
    c.in_ok-items.ensures.items
    ∙ ap (map node_item) (ready_by (view c.args.net.now) c.in_ok-nodes.nodes c.items_of_nodes.ensures.rising
    (λ q. c.in_ok-nodes.ensures q
    ∙ ap (λ (s : ℕ → State). list_any (λ (arc : Arc). int_eq q arc.to) c.args.net.now.arcs.items && (is_node c.args.net.now.nodes q && is_active (view c.args.net.now) s q)) c.requires))
