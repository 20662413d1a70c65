-- The tables of a clustering, or why its conditions are refused.
use Rattle.std.proofs.Common.{◌≡◌, ◌⊎◌, inl, inr, ℕ, List, [], ◌∷◌, Option, Some, None, Result, Ok, Err, refl, ap, subst}
use Rattle.gx_base.specs.declared.kinds.Kind.{Kind}
use Rattle.gx_base.specs.declared.kinds.Kind.TheVariants.{Cells, Points}
use Rattle.cond_syntax.specs.TableTexts.{Fault, IsFirstFault}
use Rattle.cond_syntax.specs.TableTexts as syntax
use Rattle.cond_syntax.proofs.CallerLemmas.{no_fault_of_a_table}
use Rattle.cond_text.specs.declared.faults.TextFault.{TextFault}
use Rattle.cond_text.specs.declared.faults.TextFault.TheVariants as texts
use Rattle.cond_text.specs.TextFaults.{IsFaultTold}
use Rattle.kd_points.specs.PointTables.{point_tables}
use Rattle.shared_sets.specs.CellsTables.{cells_tables}
use Rattle.run_commands.specs.declared.run_faults.RunFault.{RunFault}
use Rattle.run_commands.specs.declared.run_faults.RunFault.TheVariants.{BadTable, BadInput, TooLarge, Spent, Kept, NoMemory}
use Rattle.run_commands.specs.declared.run_faults.TableFault.{TableFault}
use Rattle.run_commands.specs.declared.run_faults.TableFault.TheVariants.{Line, Pair}
use Rattle.run_commands.specs.RunFaults.{FaultsWhere, fault_of_conditions}
use Rattle.run_commands.specs.RunTables.{IsBadTable, TellsTable}
use Rattle.run_commands.specs.commands.Cluster.{cloud_kinds, IsTextOf, IsFaultyConditions, IsBadText, AreBadConditions}
use Rattle.run_commands.proofs.meanings.ConditionTexts.{for_others, has_one, has_points, has_cells, not_both}

-- ---- refusals of one result as those of another one

same_fault : {A : Type 0} (fault other : RunFault) → ◌≡◌ {A = Result A RunFault} (Err fault) (Err other) → fault ≡ other
same_fault fault other e = cc

told : {A B : Type 0} (fault wanted : RunFault) → ◌≡◌ {A = Result A RunFault} (Err fault) (Err wanted) → ◌≡◌ {A = Result B RunFault} (Err fault) (Err wanted)
told {A} {B} fault wanted e = ap (λ (f : RunFault). Err f) (same_fault {A = A} fault wanted e)

both_told : {A B : Type 0} (fault wanted : RunFault) → (◌≡◌ {A = Result A RunFault} (Err fault) (Err wanted)) ⊎ (◌≡◌ {A = Result A RunFault} (Err fault) (Err NoMemory))
    → (◌≡◌ {A = Result B RunFault} (Err fault) (Err wanted)) ⊎ (◌≡◌ {A = Result B RunFault} (Err fault) (Err NoMemory))
both_told {A} {B} fault wanted (inl e) = inl (told {A = A} {B = B} fault wanted e)
both_told {A} {B} fault wanted (inr e) = inr (told {A = A} {B = B} fault NoMemory e)

-- a fault of tables that isn't one of a table is want of memory
no_memory_by : {A : Type 0} (fault wanted : RunFault) → TellsTable fault → ((why : TableFault) → fault ≡ BadTable why → ⊥) → (◌≡◌ {A = Result A RunFault} (Err fault) (Err wanted)) ⊎ (◌≡◌ {A = Result A RunFault} (Err fault) (Err NoMemory))
no_memory_by (BadTable why) wanted tells none = absurd (none why refl)
no_memory_by (BadInput line) wanted tells none = absurd tells
no_memory_by (TooLarge what) wanted tells none = absurd tells
no_memory_by Spent wanted tells none = absurd tells
no_memory_by Kept wanted tells none = absurd tells
no_memory_by NoMemory wanted tells none = inr refl

-- ---- the tables of both kinds

abbrev BadPoints : Option (List ℕ) → TableFault → Type 0
BadPoints conditions why = IsBadTable Points point_tables conditions why

abbrev BadCells : Option (List ℕ) → TableFault → Type 0
BadCells conditions why = IsBadTable Cells cells_tables conditions why

no_bad_points : (conditions : Option (List ℕ)) (why : TableFault) → conditions ≡ None → BadPoints conditions why → ⊥
no_bad_points conditions why e bad = subst (λ (o : Option (List ℕ)). BadPoints o why) e bad

no_bad_cells : (conditions : Option (List ℕ)) (why : TableFault) → conditions ≡ None → BadCells conditions why → ⊥
no_bad_cells conditions why e bad = subst (λ (o : Option (List ℕ)). BadCells o why) e bad

pub points_refused : {A B : Type 0} (for_points for_cells : Option (List ℕ)) (fault : RunFault) (why : TableFault) → (for_points ≡ None) ⊎ (for_cells ≡ None) → TellsTable fault
    → ((w : TableFault) → FaultsWhere {A = A} (BadPoints for_points w) (BadTable w) (Err fault)) → FaultsWhere {A = B} (BadPoints for_points why ⊎ BadCells for_cells why) (BadTable why) (Err fault)
points_refused {A} {B} for_points for_cells fault why one tells exact = record {
  only = λ e. inl ((exact why).only (told {A = B} {B = A} fault (BadTable why) e));
  always = always;
}
  where
    by_one : (for_points ≡ None) ⊎ (for_cells ≡ None) → BadCells for_cells why → (◌≡◌ {A = Result B RunFault} (Err fault) (Err (BadTable why))) ⊎ (◌≡◌ {A = Result B RunFault} (Err fault) (Err NoMemory))
    by_one (inl none) bad = no_memory_by {A = B} fault (BadTable why) tells (λ w e. no_bad_points for_points w none ((exact w).only (ap (λ (f : RunFault). Err f) e)))
    by_one (inr none) bad = absurd (no_bad_cells for_cells why none bad)

    always : BadPoints for_points why ⊎ BadCells for_cells why → (◌≡◌ {A = Result B RunFault} (Err fault) (Err (BadTable why))) ⊎ (◌≡◌ {A = Result B RunFault} (Err fault) (Err NoMemory))
    always (inl bad) = both_told {A = A} {B = B} fault (BadTable why) ((exact why).always bad)
    always (inr bad) = by_one one bad

pub none_bad : {A : Type 0} (result : Result A RunFault) (why : TableFault) → FaultsWhere (BadPoints None why ⊎ BadCells None why) (BadTable why) result → FaultsWhere ⊥ (BadTable why) result
none_bad result why exact = record {
  only = λ e. elim (exact.only e) [ inl bad ↦ bad | inr bad ↦ bad ];
  always = λ bad. absurd bad;
}

-- ---- the text of conditions

pub no_fault_in : (bytes : List ℕ) (kind : Kind) (line : ℕ) → IsTextOf bytes kind → IsFaultyConditions bytes line → ⊥
no_fault_in bytes kind line text bad = no_fault_of_a_table cloud_kinds bytes kind text.rows line bad.fault text.is_table bad.is_first

-- a text that is read isn't refused
pub read_text : {A : Type 0} (bytes : List ℕ) (why : TableFault) (value : A) → ((line : ℕ) (fault : Fault) → IsFirstFault cloud_kinds bytes line fault → ⊥) → FaultsWhere (IsBadText bytes why) (BadTable why) (Ok value)
read_text bytes (Line line) value none = record { only = λ e. absurd (cc); always = λ bad. absurd (none line bad.fault bad.is_first) }
read_text bytes (Pair first second) value none = record { only = λ e. absurd (cc); always = λ bad. absurd bad }

line_at : {A : Type 0} (bytes : List ℕ) (told : ℕ) (why : TableFault) (fault : Fault) → IsFirstFault cloud_kinds bytes told fault → ((line : ℕ) → IsFaultyConditions bytes line → told ≡ line)
    → FaultsWhere {A = A} (IsBadText bytes why) (BadTable why) (Err (BadTable (Line told)))
line_at bytes told (Line line) fault first same = record {
  only = λ e. subst (λ (n : ℕ). IsFaultyConditions bytes n) (let here : told ≡ line = cc in here) (record { fault = fault; is_first = first });
  always = λ bad. inl (ap (λ (n : ℕ). Err (BadTable (Line n))) (same line bad));
}
line_at bytes told (Pair f s) fault first same = record { only = λ e. absurd (cc); always = λ bad. absurd bad }

-- a refusal of the reader, told by its line
pub refused_text : {A : Type 0} (bytes : List ℕ) (refused : TextFault) (why : TableFault) → IsFaultTold (IsFirstFault cloud_kinds bytes) refused
    → ((line : ℕ) (fault : Fault) → IsFirstFault cloud_kinds bytes line fault → IsFaultTold (λ k f. (k ≡ line) × (f ≡ fault)) refused) → FaultsWhere {A = A} (IsBadText bytes why) (BadTable why) (Err (fault_of_conditions refused))
refused_text bytes (texts.Syntax k) why told tells = line_at bytes k why syntax.Syntax told (λ line bad. (tells line bad.fault bad.is_first).0)
refused_text bytes (texts.UnknownMethod k) why told tells = line_at bytes k why syntax.UnknownMethod told (λ line bad. (tells line bad.fault bad.is_first).0)
refused_text bytes (texts.UnknownName k) why told tells = line_at bytes k why syntax.UnknownName told (λ line bad. (tells line bad.fault bad.is_first).0)
refused_text bytes (texts.Twice k) why told tells = line_at bytes k why syntax.Twice told (λ line bad. (tells line bad.fault bad.is_first).0)
refused_text bytes (texts.TooDeep k) why told tells = line_at bytes k why syntax.TooDeep told (λ line bad. (tells line bad.fault bad.is_first).0)
refused_text bytes texts.NoMemory (Line line) told tells = record { only = λ e. absurd (cc); always = λ bad. inr refl }
refused_text bytes texts.NoMemory (Pair f s) told tells = record { only = λ e. absurd (cc); always = λ bad. inr refl }

-- ---- a user's conditions

module _ {A : Type 0} (bytes : List ℕ) where
  -- the conditions are for points
  pub of_points : (result : Result A RunFault) (why : TableFault) → IsTextOf bytes Points → FaultsWhere (BadPoints (Some bytes) why ⊎ BadCells None why) (BadTable why) result
      → FaultsWhere (AreBadConditions (Some bytes) why) (BadTable why) result
  of_points result (Line line) text exact = record {
    only = λ e. elim (exact.only e) [
      | inl bad ↦ absurd (no_fault_of_a_table (Points ∷ []) bytes Points text.rows line bad.fault (for_others cloud_kinds (Points ∷ []) bytes Points text.rows (has_one Points) text.is_table) bad.is_first)
      | inr bad ↦ absurd bad
    ];
    always = λ bad. absurd (no_fault_in bytes Points line text bad);
  }
  of_points result (Pair first second) text exact = record {
    only = λ e. elim (exact.only e) [ inl bad ↦ inl bad | inr bad ↦ absurd bad ];
    always = λ bad. elim bad [
      | inl above ↦ exact.always (inl above)
      | inr above ↦ absurd (not_both bytes text.rows above.table (for_others cloud_kinds (Points ∷ []) bytes Points text.rows (has_one Points) text.is_table) above.is_table)
    ];
  }

  -- or for cells
  pub of_cells : (result : Result A RunFault) (why : TableFault) → IsTextOf bytes Cells → FaultsWhere (BadPoints None why ⊎ BadCells (Some bytes) why) (BadTable why) result
      → FaultsWhere (AreBadConditions (Some bytes) why) (BadTable why) result
  of_cells result (Line line) text exact = record {
    only = λ e. elim (exact.only e) [
      | inl bad ↦ absurd bad
      | inr bad ↦ absurd (no_fault_of_a_table (Cells ∷ []) bytes Cells text.rows line bad.fault (for_others cloud_kinds (Cells ∷ []) bytes Cells text.rows (has_one Cells) text.is_table) bad.is_first)
    ];
    always = λ bad. absurd (no_fault_in bytes Cells line text bad);
  }
  of_cells result (Pair first second) text exact = record {
    only = λ e. elim (exact.only e) [ inl bad ↦ absurd bad | inr bad ↦ inr bad ];
    always = λ bad. elim bad [
      | inl above ↦ absurd (not_both bytes above.table text.rows above.is_table (for_others cloud_kinds (Cells ∷ []) bytes Cells text.rows (has_one Cells) text.is_table))
      | inr above ↦ exact.always (inr above)
    ];
  }

-- they are the text of no table
pub not_read : {A B : Type 0} (bytes : List ℕ) (fault : RunFault) (why : TableFault) → TellsTable fault → ((w : TableFault) → FaultsWhere {A = A} (IsBadText bytes w) (BadTable w) (Err fault))
    → FaultsWhere {A = B} (AreBadConditions (Some bytes) why) (BadTable why) (Err fault)
not_read {A} {B} bytes fault (Line line) tells exact = record {
  only = λ e. (exact (Line line)).only (told {A = B} {B = A} fault (BadTable (Line line)) e);
  always = λ bad. both_told {A = A} {B = B} fault (BadTable (Line line)) ((exact (Line line)).always bad);
}
not_read {A} {B} bytes fault (Pair first second) tells exact = record {
  only = λ e. absurd ((exact (Pair first second)).only (told {A = B} {B = A} fault (BadTable (Pair first second)) e));
  always = λ bad. elim bad [ inl above ↦ is_text Points (record { rows = above.table; is_table = for_others (Points ∷ []) cloud_kinds bytes Points above.table has_points above.is_table }) | inr above ↦ is_text Cells (record { rows = above.table; is_table = for_others (Cells ∷ []) cloud_kinds bytes Cells above.table has_cells above.is_table }) ];
}
  where
    no_why : (kind : Kind) → IsTextOf bytes kind → (w : TableFault) → fault ≡ BadTable w → ⊥
    no_why kind text (Line line) e = no_fault_in bytes kind line text ((exact (Line line)).only (ap (λ (f : RunFault). Err f) e))
    no_why kind text (Pair f s) e = (exact (Pair f s)).only (ap (λ (f : RunFault). Err f) e)

    is_text : (kind : Kind) → IsTextOf bytes kind → (◌≡◌ {A = Result B RunFault} (Err fault) (Err (BadTable (Pair first second)))) ⊎ (◌≡◌ {A = Result B RunFault} (Err fault) (Err NoMemory))
    is_text kind text = no_memory_by {A = B} fault (BadTable (Pair first second)) tells (no_why kind text)
