use Rattle.std.proofs.Common.{◌≡◌, ◌∙◌, ap, sym, refl, false}
use Rattle.gx_base.specs.declared.kinds.Kind.{Kind}
use Rattle.gx_base.specs.declared.kinds.Kind.TheVariants.{Flow}
use Rattle.gx_base.specs.ShippedTables.{rows_shipped}
use Rattle.gx_base.specs.TableRows.{row_of}
use Rattle.gx_base.proofs.CallerLemmas.{row_of-empty}
use Rattle.kind_tables.specs.TablesOfKinds.{tables_of}
use Rattle.flow_graph.specs.FlowState.{holds_flow}
use Rattle.flow_graph.proofs.shard.FlowShardSeqType.shipped.Goals as goal

not_held : (kind : Kind) → (kind ≡ Flow → ⊥) → holds_flow kind ≡ false
not_held Flow n = absurd (n refl)
not_held kind n = refl

pub returns-in_default : goal.returns-in_default
returns-in_default c = λ m n.
    ap (λ t. row_of t m n) c.blank.ensures ∙ row_of-empty m n ∙ sym (ap (λ b. rows_shipped b (tables_of c.args.kind) c.args.choice m n) (not_held c.args.kind c.in_default.not-Flow))
