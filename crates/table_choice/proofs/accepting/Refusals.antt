-- When a table that a user wrote is refused.
use Rattle.std.proofs.Common.{◌≡◌, inl, inr, ℕ, ◌<◌, List, [], ◌∷◌, Ok, Err, refl, sym, ap, subst, arith}
use Rattle.gx_base.specs.declared.kinds.Kind.{Kind}
use Rattle.gx_base.specs.Kinds.{kind_number}
use Rattle.gx_base.specs.TableRows.{RowMap, row_of}
use Rattle.gx_base.specs.Tables.{Rows}
use Rattle.cond_lattice.specs.Tables.{IsFirstNotBelow}
use Rattle.cond_syntax.specs.TableTexts.{Fault, IsTableText, IsFirstFault}
use Rattle.cond_syntax.specs.TableTexts as syntax
use Rattle.cond_text.specs.declared.faults.TextFault.{TextFault}
use Rattle.cond_text.specs.declared.faults.TextFault.TheVariants.{Syntax, UnknownMethod, UnknownName, Twice, TooDeep, NoMemory as NoMemoryForText}
use Rattle.cond_text.specs.TextFaults.{IsFaultTold}
use Rattle.table_choice.specs.declared.refusals.TableRefuse.{TableRefuse}
use Rattle.table_choice.specs.declared.refusals.TableRefuse.TheVariants.{Line, NotBelow, NoMemory}
use Rattle.table_choice.specs.RunTables.{IsFaultyText, IsAbove, RefusesWhere, table_refusal, IsPairRefusal}

-- the line that is told, where it is that of the text's first fault
line_at : {A : Type 0} (kind : Kind) (bytes : List ℕ) (told line : ℕ) (fault : Fault) → IsFirstFault (kind ∷ []) bytes told fault → (IsFaultyText kind bytes line → told ≡ line)
    → RefusesWhere {A = A} (IsFaultyText kind bytes line) (Line line) (Err (Line told))
line_at kind bytes told line fault first same = record {
  only = λ e. subst (λ (n : ℕ). IsFaultyText kind bytes n) (let here : told ≡ line = cc in here) (record { fault = fault; is_first = first });
  always = λ m. inl (ap (λ (n : ℕ). Err (Line n)) (same m));
}

abbrev TellsOf : TextFault → ℕ → Fault → Type 0
TellsOf refused line fault = IsFaultTold (λ k f. (k ≡ line) × (f ≡ fault)) refused

-- a refusal of the reader, told by its line
pub line_told : {A : Type 0} (kind : Kind) (bytes : List ℕ) (refused : TextFault) (line : ℕ) → IsFaultTold (IsFirstFault (kind ∷ []) bytes) refused → ((l : ℕ) (f : Fault) → IsFirstFault (kind ∷ []) bytes l f → TellsOf refused l f)
    → RefusesWhere {A = A} (IsFaultyText kind bytes line) (Line line) (Err (table_refusal refused))
line_told kind bytes (Syntax k) line told tells = line_at kind bytes k line syntax.Syntax told (λ m. (tells line m.fault m.is_first).0)
line_told kind bytes (UnknownMethod k) line told tells = line_at kind bytes k line syntax.UnknownMethod told (λ m. (tells line m.fault m.is_first).0)
line_told kind bytes (UnknownName k) line told tells = line_at kind bytes k line syntax.UnknownName told (λ m. (tells line m.fault m.is_first).0)
line_told kind bytes (Twice k) line told tells = line_at kind bytes k line syntax.Twice told (λ m. (tells line m.fault m.is_first).0)
line_told kind bytes (TooDeep k) line told tells = line_at kind bytes k line syntax.TooDeep told (λ m. (tells line m.fault m.is_first).0)
line_told kind bytes NoMemoryForText line told tells = record { only = λ e. absurd (cc); always = λ m. inr refl }

-- a text that is read has no fault
pub line_read : {A : Type 0} (kind : Kind) (bytes : List ℕ) (line : ℕ) (table : A) → ((l : ℕ) (f : Fault) → IsFirstFault (kind ∷ []) bytes l f → ⊥) → RefusesWhere (IsFaultyText kind bytes line) (Line line) (Ok table)
line_read kind bytes line table none = record { only = λ e. absurd (cc); always = λ m. absurd (none line m.fault m.is_first) }

-- what isn't refused for a line when it is read isn't refused for one later
pub line_later : {A : Type 0} (cause : Type 0) (line first second : ℕ) (table : A) → RefusesWhere cause (Line line) (Ok table) → RefusesWhere {A = A} cause (Line line) (Err (NotBelow first second))
line_later cause line first second table read = record {
  only = λ e. absurd (cc);
  always = λ m. elim (read.always m) [ inl e ↦ absurd (cc) | inr e ↦ absurd (cc) ];
}

-- there is one first pair
one_pair : (kind : ℕ) (lower upper : Rows) (f s g t : ℕ) → IsFirstNotBelow kind lower upper f s → IsFirstNotBelow kind lower upper g t → (f < g → ⊥) × (f ≡ g → s < t → ⊥)
one_pair kind lower upper f s g t p q = (
  λ lt. p.not_below (q.earlier_first f s p.first_method p.second_method lt),
  λ same lt.
      let there : IsFirstNotBelow kind lower upper f t = subst (λ (m : ℕ). IsFirstNotBelow kind lower upper m t) (sym same) q in
      p.not_below (there.earlier_second s p.second_method lt),
)

same_pair : (kind : ℕ) (lower upper : Rows) (f s g t : ℕ) → IsFirstNotBelow kind lower upper f s → IsFirstNotBelow kind lower upper g t → (f ≡ g) × (s ≡ t)
same_pair kind lower upper f s g t p q =
    let a = one_pair kind lower upper f s g t p q in
    let b = one_pair kind lower upper g t f s q p in
    let first : f ≡ g = omega (arith, a.0, b.0) in
    let second : s ≡ t = omega (arith, a.1 first, b.1 (sym first)) in
    (first, second)

-- the pair that is told is the first one of the text's table
pub pair_told : {A : Type 0} (kind : Kind) (upper : Rows) (bytes : List ℕ) (table : RowMap) (f s first second : ℕ) → IsTableText (kind ∷ []) bytes kind table → ((other : RowMap) → IsTableText (kind ∷ []) bytes kind other → table ≡ other)
    → IsFirstNotBelow (kind_number kind) (row_of table) upper f s → RefusesWhere {A = A} (IsAbove kind upper bytes first second) (NotBelow first second) (Err (NotBelow f s))
pair_told {A} kind upper bytes table f s first second text one pair = record {
  only = λ e.
      let same_first : f ≡ first = cc in
      let same_second : s ≡ second = cc in
      record {
        table = table;
        is_table = text;
        pair = subst (λ (n : ℕ). IsFirstNotBelow (kind_number kind) (row_of table) upper first n) same_second (subst (λ (m : ℕ). IsFirstNotBelow (kind_number kind) (row_of table) upper m s) same_first pair);
      };
  always = λ m.
      let same = same_pair (kind_number kind) (row_of table) upper f s first second pair (subst (λ (t : RowMap). IsFirstNotBelow (kind_number kind) (row_of t) upper first second) (sym (one m.table m.is_table)) m.pair) in
      inl (λ k. Err (NotBelow (same.0 k) (same.1 k)));
}

-- the same of a refusal that tells a pair
pub line_after : {A : Type 0} (cause : Type 0) (kind : ℕ) (lower upper : Rows) (line : ℕ) (table : A) (refused : TableRefuse) → IsPairRefusal kind lower upper refused → RefusesWhere cause (Line line) (Ok table) → RefusesWhere {A = A} cause (Line line) (Err refused)
line_after cause kind lower upper line table (NotBelow first second) told read = line_later cause line first second table read
line_after cause kind lower upper line table (Line k) told read = absurd told
line_after cause kind lower upper line table NoMemory told read = absurd told

pub pair_after : {A : Type 0} (kind : Kind) (upper : Rows) (bytes : List ℕ) (table : RowMap) (first second : ℕ) (refused : TableRefuse) → IsPairRefusal (kind_number kind) (row_of table) upper refused → IsTableText (kind ∷ []) bytes kind table
    → ((other : RowMap) → IsTableText (kind ∷ []) bytes kind other → table ≡ other) → RefusesWhere {A = A} (IsAbove kind upper bytes first second) (NotBelow first second) (Err refused)
pair_after kind upper bytes table first second (NotBelow f s) told text one = pair_told kind upper bytes table f s first second text one told
pair_after kind upper bytes table first second (Line k) told text one = absurd told
pair_after kind upper bytes table first second NoMemory told text one = absurd told
