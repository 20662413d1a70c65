use Rattle.std.proofs.Common.{sym, ◌∙◌}
use Rattle.gx_base.specs.Kinds.{kind_number}
use Rattle.gx_base.specs.TableRows.{row_of}
use Rattle.run_commands.proofs.gate_tables.TableGets.{one_row_more, outside_stays, others_stay, is_method_at}
use Rattle.run_commands.proofs.run_tables.put_rows.Goals as goal

pub seconds-preserved : goal.seconds-preserved
seconds-preserved c =
    let at = sym c.in-Some.ensures in (
      one_row_more (kind_number c.args.kind) (row_of c.args.rows.now) c.args.first c.in-Some.second c.seconds.place _ _ _ at (c.in_ok-copy.ensures ∙ c.row.ensures) c.in_ok-put.ensures.ok c.seconds.invariant.0,
      λ n unknown. outside_stays (kind_number c.args.kind) c.args.first c.in-Some.second n _ _ _ (is_method_at (kind_number c.args.kind) c.seconds.place c.in-Some.second at) unknown c.in_ok-put.ensures.ok ∙ c.seconds.invariant.1 n unknown,
      λ m n other. others_stay m n c.args.first c.in-Some.second _ _ _ other c.in_ok-put.ensures.ok ∙ c.seconds.invariant.2 m n other,
    )
