use Rattle.std.proofs.Common.{sym, ◌∙◌, ap}
use Rattle.std.specs.FinMap as map
use Rattle.gx_base.specs.Kinds.{kind_number}
use Rattle.gx_base.specs.TableRows.{pair_cmp, row_of}
use Rattle.run_commands.proofs.gate_tables.TableGets.{one_first_more, no_others_still, is_method_at, none_before, whole}
use Rattle.run_commands.proofs.run_tables.whole_table.Goals as goal

pub firsts-init : goal.firsts-init
firsts-init c = (
  λ m known less n also. absurd (none_before (kind_number c.args.kind) m known less),
  λ m n other. ap (λ t. map.get t (m, n)) c.blank-table.ensures ∙ map.get-empty pair_cmp (m, n),
)

pub put_rows-requires : goal.put_rows-requires
put_rows-requires c = is_method_at (kind_number c.args.kind) c.firsts.place c.in-Some.first (sym c.in-Some.ensures)

pub firsts-preserved : goal.firsts-preserved
firsts-preserved c =
    let at = sym c.in-Some.ensures in
    let rows = row_of c.args.rows.now in
    let kind = kind_number c.args.kind in (
      one_first_more kind rows c.in-Some.first c.firsts.place _ _ at c.in_ok-put_rows.ensures c.firsts.invariant.0,
      no_others_still kind rows c.in-Some.first _ _ (is_method_at kind c.firsts.place c.in-Some.first at) c.in_ok-put_rows.ensures c.firsts.invariant.1,
    )

pub returns : goal.returns
returns c = whole (kind_number c.args.kind) (row_of c.args.rows.now) c.firsts.place _ (sym c.method_at.ensures ∙ c.in_default.is) c.firsts.invariant.0 c.firsts.invariant.1
