use Rattle.std.proofs.Common.{Err, sym, subst}
use Rattle.gx_base.specs.declared.tables.Table.{Table}
use Rattle.table_choice.specs.declared.refusals.TableRefuse.{TableRefuse}
use Rattle.table_choice.specs.declared.refusals.TableRefuse.TheVariants.{Line}
use Rattle.table_choice.specs.RunTables.{IsFaultyText, RefusesWhere}
use Rattle.table_choice.proofs.accepting.Refusals.{line_told, line_read}
use Rattle.table_choice.proofs.run_tables.read_of_kind.Goals as goal

pub returns-in-Ok-clause-line : goal.returns-in-Ok-clause-line
returns-in-Ok-clause-line c line = line_read c.args.kind c.args.bytes.now line c.in-Ok.table c.in-Ok.ensures.only_fault

pub returns-in-Err-clause-line : goal.returns-in-Err-clause-line
returns-in-Err-clause-line c line =
    subst (λ (refused : TableRefuse). RefusesWhere {A = Table} (IsFaultyText c.args.kind c.args.bytes.now line) (Line line) (Err refused)) (sym c.table_refusal.ensures)
    (line_told c.args.kind c.args.bytes.now c.in-Err.fault line c.in-Err.ensures.fault c.in-Err.ensures.only_fault)
