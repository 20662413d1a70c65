-- The table of a kind in a run: there is one, or the conditions are refused.
use Rattle.std.proofs.Common.{◌≡◌, ◌≢◌, inl, inr, ℕ, List, [], ◌∷◌, Option, Some, None, IsSomeAnd, Result, Ok, Err, refl, sym, ap, subst, ◌∙◌}
use Rattle.gx_base.specs.declared.kinds.Choice.{Choice}
use Rattle.gx_base.specs.declared.kinds.Kind.{Kind}
use Rattle.gx_base.specs.Kinds.{kind_number}
use Rattle.gx_base.specs.TableRows.{RowMap, row_of}
use Rattle.gx_base.specs.Tables.{Rows}
use Rattle.cond_lattice.specs.Derivations.{IsRowBelow}
use Rattle.cond_lattice.specs.declared.grades.Grade.TheVariants.{General}
use Rattle.cond_lattice.specs.Grades.{table_grade}
use Rattle.cond_syntax.proofs.CallerLemmas.{same_table, no_fault_of_a_table}
use Rattle.gx_base.specs.ShippedTables.{KindTables}
use Rattle.table_choice.specs.RunTables.{IsTableOfRun, IsFaultyText, IsAbove, RefusesWhere, MayServe}
use Rattle.table_choice.specs.declared.refusals.TableRefuse.{TableRefuse}
use Rattle.table_choice.specs.declared.refusals.TableRefuse.TheVariants as refusals
use Rattle.run_commands.specs.declared.run_faults.RunFault.{RunFault}
use Rattle.run_commands.specs.declared.run_faults.RunFault.TheVariants.{BadTable}
use Rattle.run_commands.specs.declared.run_faults.TableFault.{TableFault}
use Rattle.run_commands.specs.declared.run_faults.TableFault.TheVariants.{Line, Pair}
use Rattle.run_commands.specs.RunFaults.{FaultsWhere, fault_of_table}
use Rattle.loop_runs.specs.GateTables.{ServesGates}
use Rattle.run_commands.specs.RunTables.{IsWholeTable, IsRunTable, IsBadTable, IsTableFault}
use Rattle.run_commands.proofs.gate_tables.TableGets.{one_whole, row_of_whole}

module _ (kind : Kind) (tables : KindTables) where
  -- ---- there is one table

  rows_by : (choice : Choice) (conditions : Option (List ℕ)) (rows rows' : RowMap) → IsTableOfRun kind tables choice conditions rows → IsTableOfRun kind tables choice conditions rows'
      → (m n : ℕ) → row_of rows m n ≡ row_of rows' m n
  rows_by choice None rows rows' is is' m n = is m n ∙ sym (is' m n)
  rows_by choice (Some bytes) rows rows' is is' m n = ap (λ (t : RowMap). row_of t m n) (same_table (kind ∷ []) bytes kind kind rows rows' is.is_table is'.is_table).1

  pub one_table : (choice : Choice) (conditions : Option (List ℕ)) (table table' : RowMap) → IsRunTable kind tables choice conditions table → IsRunTable kind tables choice conditions table' → table ≡ table'
  one_table choice conditions table table' is is' =
      one_whole (kind_number kind) (row_of is.rows) (row_of is'.rows) table table' (rows_by choice conditions is.rows is'.rows is.are_rows is'.are_rows) is.is_whole is'.is_whole

  -- ---- and then nothing is wrong with the conditions

  accepted_by : (choice : Choice) (conditions : Option (List ℕ)) (rows : RowMap) (why : TableFault) → IsTableOfRun kind tables choice conditions rows → IsBadTable kind tables conditions why → ⊥
  accepted_by choice None rows why is bad = bad
  accepted_by choice (Some bytes) rows (Line line) is bad = no_fault_of_a_table (kind ∷ []) bytes kind rows line bad.fault is.is_table bad.is_first
  accepted_by choice (Some bytes) rows (Pair first second) is bad =
      let same : bad.table ≡ rows = (same_table (kind ∷ []) bytes kind kind bad.table rows bad.is_table is.is_table).1 in
      bad.pair.not_below
      (subst (λ (t : RowMap). IsRowBelow (row_of t first second) (tables.precise first second)) (sym same) (is.below first second bad.pair.first_method bad.pair.second_method))

  pub accepted : (choice : Choice) (conditions : Option (List ℕ)) (table : RowMap) → IsRunTable kind tables choice conditions table → (why : TableFault) → IsBadTable kind tables conditions why → ⊥
  accepted choice conditions table is why bad = accepted_by choice conditions is.rows why is.are_rows bad

  -- what is told of refused conditions
  pub fault_is_told : (conditions : Option (List ℕ)) (why : TableFault) → IsBadTable kind tables conditions why → IsTableFault kind why
  fault_is_told None why bad = absurd bad
  fault_is_told (Some bytes) (Line line) bad = bad.is_first.from_one
  fault_is_told (Some bytes) (Pair first second) bad = (bad.pair.first_method, bad.pair.second_method)

  -- ---- it serves gates

  pub serves_gates : (rows table : RowMap) → MayServe (kind_number kind) (row_of rows) → table_grade (kind_number kind) (row_of rows) ≢ General → IsWholeTable (kind_number kind) (row_of rows) table → ServesGates kind table
  serves_gates rows table serves class whole =
      let same : row_of table ≡ row_of rows = row_of_whole (kind_number kind) (row_of rows) table serves.keeps_to_kind whole in
      record {
        serves = subst (λ (r : Rows). MayServe (kind_number kind) r) (sym same) serves;
        class = subst (λ (r : Rows). table_grade (kind_number kind) r ≢ General) (sym same) class;
      }

  -- ---- or else they are refused for their cause

  pub none_refused : {A : Type 0} (choice : Choice) (conditions : Option (List ℕ)) (table : RowMap) (why : TableFault) (made : A) → IsRunTable kind tables choice conditions table
      → FaultsWhere (IsBadTable kind tables conditions why) (BadTable why) (Ok made)
  none_refused choice conditions table why made is = record { only = λ e. absurd (cc); always = λ bad. absurd (accepted choice conditions table is why bad) }

  abbrev FaultyAt : Option (List ℕ) → ℕ → Type 0
  FaultyAt conditions line = IsSomeAnd conditions (λ bytes. IsFaultyText kind bytes line)

  abbrev AboveAt : Option (List ℕ) → ℕ → ℕ → Type 0
  AboveAt conditions first second = IsSomeAnd conditions (λ bytes. IsAbove kind tables.precise bytes first second)

  line_is_bad : (conditions : Option (List ℕ)) (line : ℕ) → FaultyAt conditions line → IsBadTable kind tables conditions (Line line)
  line_is_bad None line at = at
  line_is_bad (Some bytes) line at = at

  bad_is_line : (conditions : Option (List ℕ)) (line : ℕ) → IsBadTable kind tables conditions (Line line) → FaultyAt conditions line
  bad_is_line None line bad = bad
  bad_is_line (Some bytes) line bad = bad

  pair_is_bad : (conditions : Option (List ℕ)) (first second : ℕ) → AboveAt conditions first second → IsBadTable kind tables conditions (Pair first second)
  pair_is_bad None first second at = at
  pair_is_bad (Some bytes) first second at = at

  bad_is_pair : (conditions : Option (List ℕ)) (first second : ℕ) → IsBadTable kind tables conditions (Pair first second) → AboveAt conditions first second
  bad_is_pair None first second bad = bad
  bad_is_pair (Some bytes) first second bad = bad

  line_told : (refused : TableRefuse) (line : ℕ) → fault_of_table refused ≡ BadTable (Line line) → refused ≡ refusals.Line line
  line_told (refusals.Line k) line e = ap refusals.Line (let same : k ≡ line = cc in same)
  line_told (refusals.NotBelow f s) line e = absurd (cc)
  line_told refusals.NoMemory line e = absurd (cc)

  pair_told : (refused : TableRefuse) (first second : ℕ) → fault_of_table refused ≡ BadTable (Pair first second) → refused ≡ refusals.NotBelow first second
  pair_told (refusals.Line k) first second e = absurd (cc)
  pair_told (refusals.NotBelow f s) first second e = let same_first : f ≡ first = cc in let same_second : s ≡ second = cc in λ k. refusals.NotBelow (same_first k) (same_second k)
  pair_told refusals.NoMemory first second e = absurd (cc)

  told_of : {A : Type 0} (result : Result A TableRefuse) (refused other : TableRefuse) → result ≡ Err refused → result ≡ Err other → refused ≡ other
  told_of result refused other e f = cc

  -- the fault of a refusal has the refusal's cause
  comes : {A B cause : Type 0} (result : Result A TableRefuse) (refused wanted : TableRefuse) (why : TableFault) → result ≡ Err refused → fault_of_table wanted ≡ BadTable why
      → (fault_of_table refused ≡ BadTable why → refused ≡ wanted) → RefusesWhere cause wanted result → FaultsWhere {A = B} cause (BadTable why) (Err (fault_of_table refused))
  comes result refused wanted why is fault told exact = record {
    only = λ e. let same : fault_of_table refused ≡ BadTable why = cc in exact.only (is ∙ ap (λ (r : TableRefuse). Err r) (told same));
    always = λ h. elim (exact.always h) [
      | inl e ↦ inl (ap (λ (r : TableRefuse). Err (fault_of_table r)) (told_of result refused wanted is e) ∙ ap (λ (f : RunFault). Err f) fault)
      | inr e ↦ inr (ap (λ (r : TableRefuse). Err (fault_of_table r)) (told_of result refused refusals.NoMemory is e))
    ];
  }

  exchanged : {A cause other : Type 0} (fault : RunFault) (result : Result A RunFault) → (cause → other) → (other → cause) → FaultsWhere cause fault result → FaultsWhere other fault result
  exchanged fault result up down exact = record { only = λ e. up (exact.only e); always = λ h. exact.always (down h) }

  pub refused_for : {A B : Type 0} (conditions : Option (List ℕ)) (result : Result A TableRefuse) (refused : TableRefuse) (why : TableFault) → result ≡ Err refused
      → ((line : ℕ) → RefusesWhere (FaultyAt conditions line) (refusals.Line line) result)
      → ((first second : ℕ) → RefusesWhere (AboveAt conditions first second) (refusals.NotBelow first second) result)
      → FaultsWhere {A = B} (IsBadTable kind tables conditions why) (BadTable why) (Err (fault_of_table refused))
  refused_for conditions result refused (Line line) is lines pairs =
      exchanged (BadTable (Line line)) (Err (fault_of_table refused)) (line_is_bad conditions line) (bad_is_line conditions line)
      (comes result refused (refusals.Line line) (Line line) is refl (line_told refused line) (lines line))
  refused_for conditions result refused (Pair first second) is lines pairs =
      exchanged (BadTable (Pair first second)) (Err (fault_of_table refused)) (pair_is_bad conditions first second) (bad_is_pair conditions first second)
      (comes result refused (refusals.NotBelow first second) (Pair first second) is refl (pair_told refused first second) (pairs first second))
