use Rattle.std.proofs.Common.{Ok, sym, subst}
use Rattle.gx_base.specs.Below.{AreBelow}
use Rattle.gx_base.specs.Kinds.{kind_number}
use Rattle.gx_base.specs.TableRows.{RowMap, row_of}
use Rattle.gx_base.proofs.CallerLemmas.{below-IsValid}
use Rattle.table_choice.specs.declared.refusals.TableRefuse.TheVariants.{Line}
use Rattle.table_choice.specs.RunTables.{IsAccepted, IsFaultyText, RefusesWhere, MayServe}
use Rattle.table_choice.proofs.accepting.Refusals.{line_after, pair_after}
use Rattle.table_choice.proofs.run_tables.accepted_table.Goals as goal

pub returns-in-Ok-clause-accepted : goal.returns-in-Ok-clause-accepted
returns-in-Ok-clause-accepted c =
    subst (λ (table : RowMap). IsAccepted c.args.kind (row_of c.args.upper.now) c.args.bytes.now table) (sym c.in-Ok.ensures.same)
    (record { is_table = c.in_ok-table.ensures.table; below = c.in-Ok.ensures.below })

pub returns-in-Ok-clause-line : goal.returns-in-Ok-clause-line
returns-in-Ok-clause-line c line =
    subst (λ (table : RowMap). RefusesWhere (IsFaultyText c.args.kind c.args.bytes.now line) (Line line) (Ok table)) (sym c.in-Ok.ensures.same) (c.in_ok-table.ensures.line line)

pub returns-in-Ok-clause-below : goal.returns-in-Ok-clause-below
returns-in-Ok-clause-below c =
    subst (λ (table : RowMap). AreBelow (row_of table) (row_of c.args.upper.now)) (sym c.in-Ok.ensures.same) (c.in-Ok.ensures.sound c.in_ok-table.ensures.keeps_to_kind)

pub returns-in-Ok-clause-serves : goal.returns-in-Ok-clause-serves
returns-in-Ok-clause-serves c valid =
    subst (λ (table : RowMap). MayServe (kind_number c.args.kind) (row_of table)) (sym c.in-Ok.ensures.same)
    (record {
      valid = below-IsValid (kind_number c.args.kind) (row_of c.in_ok-table.table) (row_of c.args.upper.now) (c.in-Ok.ensures.sound c.in_ok-table.ensures.keeps_to_kind) valid;
      keeps_to_kind = c.in_ok-table.ensures.keeps_to_kind;
    })

pub returns-in-Err-clause-line : goal.returns-in-Err-clause-line
returns-in-Err-clause-line c line =
    line_after (IsFaultyText c.args.kind c.args.bytes.now line) (kind_number c.args.kind) (row_of c.in_ok-table.table) (row_of c.args.upper.now) line c.in_ok-table.table c.in-Err.refused c.in-Err.ensures.refused
    (c.in_ok-table.ensures.line line)

pub returns-in-Err-clause-pair : goal.returns-in-Err-clause-pair
returns-in-Err-clause-pair c first second =
    pair_after c.args.kind (row_of c.args.upper.now) c.args.bytes.now c.in_ok-table.table first second c.in-Err.refused c.in-Err.ensures.refused c.in_ok-table.ensures.table c.in_ok-table.ensures.only_table
