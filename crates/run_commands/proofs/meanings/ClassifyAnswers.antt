-- The faults that `classify` finds in a file.
use Rattle.std.proofs.Common.{◌≡◌, inl, inr, ℕ, List, Ok, Err, refl, sym, ap, subst}
use Rattle.gx_base.specs.declared.kinds.Kind.{Kind}
use Rattle.gx_base.specs.TableRows.{RowMap, row_of}
use Rattle.cond_syntax.specs.TableTexts.{Fault, IsTableText, IsFirstFault}
use Rattle.cond_syntax.specs.TableTexts as syntax
use Rattle.cond_text.specs.declared.faults.TextFault.{TextFault}
use Rattle.cond_text.specs.declared.faults.TextFault.TheVariants.{Syntax, UnknownMethod, UnknownName, Twice, TooDeep, NoMemory as NoMemoryForText}
use Rattle.cond_text.specs.TextFaults.{IsFaultTold}
use Rattle.run_commands.specs.declared.run_faults.RunFault.{RunFault}
use Rattle.run_commands.specs.declared.run_faults.RunFault.TheVariants.{BadInput}
use Rattle.run_commands.specs.RunFaults.{fault_of_text, FaultsWhere}
use Rattle.run_commands.specs.commands.Classify.{IsClassText, IsClassReport, IsFaultyTable}

-- the fault that is told, where a text's first fault is on the line that is told
fault_at : {A : Type 0} (wanted : List Kind) (bytes : List ℕ) (told line : ℕ) (fault : Fault) → IsFirstFault wanted bytes told fault → (IsFaultyTable wanted bytes line → told ≡ line)
    → FaultsWhere {A = A} (IsFaultyTable wanted bytes line) (BadInput line) (Err (BadInput told))
fault_at wanted bytes told line fault first same = record {
  only = λ e. subst (λ (n : ℕ). IsFaultyTable wanted bytes n) (let here : told ≡ line = cc in here) (record { fault = fault; is_first = first });
  always = λ m. inl (ap (λ (n : ℕ). Err (BadInput n)) (same m));
}

-- what a refusal tells of the text is what this refusal would have to tell of any first fault
abbrev pub TellsOf : TextFault → ℕ → Fault → Type 0
TellsOf refused line fault = IsFaultTold (λ k f. (k ≡ line) × (f ≡ fault)) refused

text_told : {A : Type 0} (wanted : List Kind) (bytes : List ℕ) (refused : TextFault) (line : ℕ) → IsFaultTold (IsFirstFault wanted bytes) refused
    → ((l : ℕ) (f : Fault) → IsFirstFault wanted bytes l f → TellsOf refused l f) → FaultsWhere {A = A} (IsFaultyTable wanted bytes line) (BadInput line) (Err (fault_of_text refused))
text_told wanted bytes (Syntax k) line told tells = fault_at wanted bytes k line syntax.Syntax told (λ m. (tells line m.fault m.is_first).0)
text_told wanted bytes (UnknownMethod k) line told tells = fault_at wanted bytes k line syntax.UnknownMethod told (λ m. (tells line m.fault m.is_first).0)
text_told wanted bytes (UnknownName k) line told tells = fault_at wanted bytes k line syntax.UnknownName told (λ m. (tells line m.fault m.is_first).0)
text_told wanted bytes (Twice k) line told tells = fault_at wanted bytes k line syntax.Twice told (λ m. (tells line m.fault m.is_first).0)
text_told wanted bytes (TooDeep k) line told tells = fault_at wanted bytes k line syntax.TooDeep told (λ m. (tells line m.fault m.is_first).0)
text_told wanted bytes NoMemoryForText line told tells = record { only = λ e. absurd (cc); always = λ m. inr refl }

-- a refusal of the reader, handed on
pub text_refused : {A : Type 0} (bytes : List ℕ) (wanted kinds : List Kind) (refused : TextFault) (line : ℕ) (fault : RunFault) → wanted ≡ kinds → fault ≡ fault_of_text refused
    → IsFaultTold (IsFirstFault wanted bytes) refused → ((l : ℕ) (f : Fault) → IsFirstFault wanted bytes l f → TellsOf refused l f)
    → FaultsWhere {A = A} (IsFaultyTable kinds bytes line) (BadInput line) (Err fault)
text_refused {A} bytes wanted kinds refused line fault e is told tells =
    subst (λ (these : List Kind). FaultsWhere {A = A} (IsFaultyTable these bytes line) (BadInput line) (Err fault)) e
    (subst (λ (f : RunFault). FaultsWhere {A = A} (IsFaultyTable wanted bytes line) (BadInput line) (Err f)) (sym is) (text_told wanted bytes refused line told tells))

-- a text that is read has no first fault, and its report is that of its rows
pub text_reported : {A : Type 0} (bytes : List ℕ) (wanted kinds : List Kind) (line : ℕ) (text : A) → wanted ≡ kinds → ((l : ℕ) (f : Fault) → IsFirstFault wanted bytes l f → ⊥)
    → FaultsWhere (IsFaultyTable kinds bytes line) (BadInput line) (Ok text)
text_reported bytes wanted kinds line text e none = record {
  only = λ same. absurd (cc);
  always = λ m. absurd (none line m.fault (subst (λ (these : List Kind). IsFirstFault these bytes line m.fault) (sym e) m.is_first));
}

pub class_report : (bytes : List ℕ) (wanted kinds : List Kind) (kind : Kind) (rows : RowMap) (report : List ℕ) → wanted ≡ kinds → IsTableText wanted bytes kind rows → IsClassText kind (row_of rows) report
    → IsClassReport kinds bytes report
class_report bytes wanted kinds kind rows report e table is = record {
  kind = kind;
  rows = rows;
  is_table = subst (λ (these : List Kind). IsTableText these bytes kind rows) e table;
  is_report = is;
}
