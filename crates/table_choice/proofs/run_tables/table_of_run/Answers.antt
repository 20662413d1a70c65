use Rattle.std.proofs.Common.{◌≡◌, ◌≢◌, ℕ, List, Ok, Err, Result, IfOk, Bool, true, false, IsTrue, sym, subst, Bor}
use Rattle.std.specs.Prelude.{Option, option_map, IsSomeAnd}
use Rattle.gx_base.specs.declared.kinds.Choice.{Choice}
use Rattle.gx_base.specs.declared.kinds.Choice.TheVariants.{Precise}
use Rattle.gx_base.specs.declared.tables.Table.{Table}
use Rattle.gx_base.specs.Kinds.{kind_number}
use Rattle.gx_base.specs.ShippedTables.{KindTables, SuitKind, rows_chosen, IsShipped}
use Rattle.gx_base.specs.TableRows.{RowMap, row_of}
use Rattle.gx_base.specs.Tables.{Rows}
use Rattle.gx_base.specs.Below.{AreBelow}
use Rattle.cond_lattice.specs.declared.grades.Grade.TheVariants.{General}
use Rattle.cond_lattice.specs.Grades.{table_grade}
use Rattle.gx_base.proofs.CallerLemmas.{Serves, shipped_serves}
use Rattle.table_choice.specs.declared.refusals.TableRefuse.TheVariants.{NotBelow}
use Rattle.table_choice.specs.RunTables.{IsAbove, RefusesWhere, MayServe}
use Rattle.table_choice.proofs.run_tables.table_of_run.Goals as goal

may_serve : (held : Bool) (kind : ℕ) (tables : KindTables) (choice : Choice) (table : RowMap) → (IsTrue held → SuitKind kind tables) → IsShipped held tables choice table → MayServe kind (row_of table)
may_serve held kind tables choice table suit shipped =
    let serves : Serves kind (row_of table) = shipped_serves held kind tables choice table suit shipped in
    record { valid = serves.valid; keeps_to_kind = serves.keeps_to_kind }

chosen : (held : Bool) (tables : KindTables) (choice : Choice) (table : RowMap) → IsTrue held → IsShipped held tables choice table → row_of table ≡ rows_chosen tables choice
chosen true tables choice table holds shipped = λ k first second. shipped first second k
chosen false tables choice table holds shipped = absurd (cc)

pub returns-in_ok-shipped-in-None-clause-serves : goal.returns-in_ok-shipped-in-None-clause-serves
returns-in_ok-shipped-in-None-clause-serves g c =
    may_serve (g.T.SeqType.holds_kind c.args.kind) (kind_number c.args.kind) (g.T.SeqType.tables c.args.kind) c.args.choice c.in_ok-shipped-in-None.field-0 (g.T.SeqType.tables_suit c.args.kind) c.in_ok-shipped-in-None.ensures

pub returns-in_ok-precise-in-Some-clause-serves : goal.returns-in_ok-precise-in-Some-clause-serves
returns-in_ok-precise-in-Some-clause-serves g c =
    let precise : MayServe (kind_number c.args.kind) (row_of c.in_ok-precise-in-Some.precise) =
    may_serve (g.T.SeqType.holds_kind c.args.kind) (kind_number c.args.kind) (g.T.SeqType.tables c.args.kind) Precise c.in_ok-precise-in-Some.precise (g.T.SeqType.tables_suit c.args.kind) c.in_ok-precise-in-Some.ensures in
    c.accepted_table.ensures.serves precise.valid

pub returns-in_ok-precise-in-Some-clause-pair : goal.returns-in_ok-precise-in-Some-clause-pair
returns-in_ok-precise-in-Some-clause-pair g c first second =
    let upper : Rows = (g.T.SeqType.tables c.args.kind).precise in
    subst (λ (o : Option (Bor (List ℕ))). RefusesWhere {A = Table} (IsSomeAnd (option_map (λ (b : Bor (List ℕ)). b.now) o) (λ bytes. IsAbove c.args.kind upper bytes first second)) (NotBelow first second) c.accepted_table.result) (sym c.in-Some.is)
    (subst (λ (rows : Rows). RefusesWhere {A = Table} (IsAbove c.args.kind rows c.in-Some.bytes.now first second) (NotBelow first second) c.accepted_table.result)
    (chosen (g.T.SeqType.holds_kind c.args.kind) (g.T.SeqType.tables c.args.kind) Precise c.in_ok-precise-in-Some.precise c.requires c.in_ok-precise-in-Some.ensures) (c.accepted_table.ensures.pair first second))

if_ok : {A E : Type 0} (r : Result A E) (P Q : A → Type 0) → ((x : A) → P x → Q x) → IfOk r P → IfOk r Q
if_ok (Ok x) P Q f p = f x p
if_ok (Err e) P Q f p = tt

pub returns-in_ok-shipped-in-None-clause-class : goal.returns-in_ok-shipped-in-None-clause-class
returns-in_ok-shipped-in-None-clause-class g c none =
    subst (λ (rows : Rows). table_grade (kind_number c.args.kind) rows ≢ General)
    (sym (chosen (g.T.SeqType.holds_kind c.args.kind) (g.T.SeqType.tables c.args.kind) c.args.choice c.in_ok-shipped-in-None.field-0 c.requires c.in_ok-shipped-in-None.ensures)) (none c.args.choice)

pub returns-in_ok-precise-in-Some-clause-class : goal.returns-in_ok-precise-in-Some-clause-class
returns-in_ok-precise-in-Some-clause-class g c none =
    let precise : Rows = row_of c.in_ok-precise-in-Some.precise in
    let upper : table_grade (kind_number c.args.kind) precise ≢ General =
    subst (λ (rows : Rows). table_grade (kind_number c.args.kind) rows ≢ General)
    (sym (chosen (g.T.SeqType.holds_kind c.args.kind) (g.T.SeqType.tables c.args.kind) Precise c.in_ok-precise-in-Some.precise c.requires c.in_ok-precise-in-Some.ensures)) (none Precise) in
    if_ok c.accepted_table.result (λ (table : RowMap). AreBelow (row_of table) precise) (λ (table : RowMap). table_grade (kind_number c.args.kind) (row_of table) ≢ General)
    (λ table below. c.below_keeps_out_general_rows.ensures.tables c.args.kind (row_of table) precise below upper) c.accepted_table.ensures.below
