-- Which shipped rows, and which shipped tables, are GENERAL.
use Rattle.std.specs.Prelude.{◌≡◌, ◌≢◌, ℕ, refl}
use Rattle.std.proofs.Common.{◌∙◌, ap, sym, true}
use Rattle.gx_base.specs.declared.conditions.Side.TheVariants.{Second}
use Rattle.gx_base.specs.declared.kinds.Choice.{Choice}
use Rattle.gx_base.specs.declared.kinds.Choice.TheVariants.{Precise, Simple, Rw, Global}
use Rattle.gx_base.specs.declared.kinds.Kind.{Kind}
use Rattle.gx_base.specs.declared.kinds.Kind.TheVariants.{Domains}
use Rattle.gx_base.specs.Kinds.{kind_number}
use Rattle.gx_base.specs.Below.{AreBelow}
use Rattle.gx_base.specs.ShippedTables.{KindTables, rows_chosen, IsShipped}
use Rattle.gx_base.specs.TableRows.{RowMap, row_of}
use Rattle.gx_base.specs.Tables.{Rows}
use Rattle.cond_lattice.specs.declared.grades.Grade.TheVariants.{General}
use Rattle.cond_lattice.specs.Grades.{grade_of, is_simple, table_grade, IsGreatestClass}
use Rattle.cond_lattice.specs.Simple.{strengthened}
use Rattle.cond_lattice.proofs.CallerLemmas.{simple_nameless, nameless_grade, row-below-not-general, table_grade-greatest, strengthened-simple}
use Rattle.kind_tables.specs.Classes.{HasNoGeneralRow}
use Rattle.kind_tables.specs.TablesOfKinds.{tables_of, shipped_rows}
use Rattle.kind_tables.proofs.kinds.TableFacts.{TableFacts, IsSilent}
use Rattle.kind_tables.proofs.kinds.AllKinds.{facts_of, precise-silent}

-- the class of a table without GENERAL rows isn't General
pub class-none : (kind : Kind) (rows : Rows) → HasNoGeneralRow rows → table_grade (kind_number kind) rows ≢ General
class-none kind rows none e =
    let g : IsGreatestClass (kind_number kind) rows (table_grade (kind_number kind) rows) = table_grade-greatest kind rows (table_grade (kind_number kind) rows) refl in
    none g.reached.first g.reached.second (g.reached.class ∙ e)

-- where the precise rows name no state function of the later call, no shipped table has a GENERAL row
module _ (kind : ℕ) (tables : KindTables) (facts : TableFacts kind tables) where
  simple-none : HasNoGeneralRow tables.simple
  simple-none first second =
      let e : tables.simple first second ≡ strengthened (tables.precise first second) = facts.strengthened first second in
      nameless_grade (tables.simple first second) (simple_nameless Second (tables.simple first second) (ap is_simple e ∙ strengthened-simple (tables.precise first second)))

  pub chosen-none : (choice : Choice) → (choice ≡ Precise → IsSilent tables.precise) → HasNoGeneralRow (rows_chosen tables choice)
  chosen-none Precise silent = λ first second. nameless_grade (tables.precise first second) (silent refl first second)
  chosen-none Simple silent = simple-none
  chosen-none Rw silent = λ first second. row-below-not-general tables.reader_writer tables.simple facts.readers_below first second (simple-none first second)
  chosen-none Global silent = λ first second e. absurd (cc)

-- of the shipped tables only the precise one of domain books may have a GENERAL row
pub shipped-HasNoGeneralRow : (kind : Kind) (choice : Choice) → (kind ≡ Domains → choice ≢ Precise) → HasNoGeneralRow (shipped_rows kind choice)
shipped-HasNoGeneralRow kind choice n = chosen-none (kind_number kind) (tables_of kind) (facts_of kind) choice (λ precise. precise-silent kind (λ e. n e precise))

-- a table with the rows of a table that has no GENERAL row has none
pub shipped-none : (tables : KindTables) (choice : Choice) (table : RowMap) → HasNoGeneralRow (rows_chosen tables choice) → IsShipped true tables choice table → HasNoGeneralRow (row_of table)
shipped-none tables choice table none is first second e = none first second (ap grade_of (sym (is first second)) ∙ e)

-- a table with the rows of such a shipped table has no GENERAL row
pub shipped-table-none : (kind : Kind) (choice : Choice) (table : RowMap) → (kind ≡ Domains → choice ≢ Precise) → IsShipped true (tables_of kind) choice table → HasNoGeneralRow (row_of table)
shipped-table-none kind choice table n is = shipped-none (tables_of kind) choice table (shipped-HasNoGeneralRow kind choice n) is

-- nor has one with rows below those of a table that has none
pub below-none : (kind : Kind) (upper lower : Rows) → HasNoGeneralRow upper → AreBelow lower upper → table_grade (kind_number kind) lower ≢ General
below-none kind upper lower none below = class-none kind lower (λ first second. row-below-not-general lower upper below first second (none first second))
