use Rattle.std.proofs.Common.{◌≡◌, ◌∙◌, ap, arith, refl}
use Rattle.gx_base.specs.Methods.{first_method}
use Rattle.gx_base.specs.ShippedTables.{rows_chosen}
use Rattle.gx_base.specs.TableRows.{row_of}
use Rattle.gx_base.specs.declared.kinds.Kind.TheVariants.{Cells}
use Rattle.gx_base.specs.Kinds.{kind_number}
use Rattle.kind_tables.proofs.CallerLemmas.{methods_end, filled_to, filled-none, filled-more, filled-row, filled-all}
use Rattle.shared_sets.specs.CellsTables.{cells_tables}
use Rattle.shared_sets.specs.SuitedTables.{cells_tables-SuitKind}
use Rattle.shared_sets.proofs.cells_shipping.cells_table.Goals as goal

pub loop-first-init : goal.loop-first-init
loop-first-init c = λ m n. ap (λ t. row_of t m n) c.blank-table.ensures ∙ filled-none (kind_number Cells) (rows_chosen cells_tables c.args.choice) m n

pub loop-second-preserved : goal.loop-second-preserved
loop-second-preserved c = λ m n.
    ap (λ t. row_of t m n) c.in_ok-put.ensures.ok
    ∙ filled-more (kind_number Cells) (rows_chosen cells_tables c.args.choice) c.loop-second.table c.loop-first.first c.loop-second.second _ (omega arith) (omega arith) (omega arith) c.in_ok-cond.ensures c.loop-second.invariant m n

pub loop-first-preserved : goal.loop-first-preserved
loop-first-preserved c = λ m n.
    let e : c.loop-second.second ≡ methods_end (kind_number Cells) = omega arith in
    c.loop-second.invariant m n ∙ ap (λ s. filled_to (kind_number Cells) (rows_chosen cells_tables c.args.choice) c.loop-first.first s m n) e ∙ filled-row (kind_number Cells) (rows_chosen cells_tables c.args.choice) c.loop-first.first m n

pub returns : goal.returns
returns c = λ m n.
    let e : c.loop-first.first ≡ methods_end (kind_number Cells) = omega arith in
    c.loop-first.invariant m n ∙ ap (λ f. filled_to (kind_number Cells) (rows_chosen cells_tables c.args.choice) f (first_method (kind_number Cells)) m n) e ∙ filled-all (kind_number Cells) (rows_chosen cells_tables c.args.choice) ((cells_tables-SuitKind Cells refl).keeps_to_kind c.args.choice) m n
