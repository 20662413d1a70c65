-- A text has one table or one first fault, so the answer that is given is the only one.
use Rattle.std.proofs.Common.{◌≡◌, ℕ, List, refl}
use Rattle.gx_base.specs.declared.kinds.Kind.{Kind}
use Rattle.gx_base.specs.TableRows.{RowMap}
use Rattle.cond_syntax.specs.TableTexts as table
use Rattle.cond_syntax.specs.TableTexts.{Fault, IsTableText, IsFirstFault}
use Rattle.cond_text.specs.TextFaults.{IsFaultTold}
use Rattle.cond_text.specs.declared.faults.TextFault.{TextFault}
use Rattle.cond_text.specs.declared.faults.TextFault.TheVariants.{Syntax, UnknownMethod, UnknownName, Twice, TooDeep, NoMemory}
use Rattle.cond_syntax.proofs.CallerLemmas.{same_table, no_fault_of_a_table, same_fault}

-- a text with a table is refused for want of memory alone
pub told_of_table : (wanted : List Kind) (bytes : List ℕ) (refused : TextFault) → IsFaultTold (IsFirstFault wanted bytes) refused
    → (kind : Kind) (rows : RowMap) → IsTableText wanted bytes kind rows → refused ≡ NoMemory
told_of_table wanted bytes (Syntax line) told kind rows is = absurd (no_fault_of_a_table wanted bytes kind rows line table.Syntax is told)
told_of_table wanted bytes (UnknownMethod line) told kind rows is = absurd (no_fault_of_a_table wanted bytes kind rows line table.UnknownMethod is told)
told_of_table wanted bytes (UnknownName line) told kind rows is = absurd (no_fault_of_a_table wanted bytes kind rows line table.UnknownName is told)
told_of_table wanted bytes (Twice line) told kind rows is = absurd (no_fault_of_a_table wanted bytes kind rows line table.Twice is told)
told_of_table wanted bytes (TooDeep line) told kind rows is = absurd (no_fault_of_a_table wanted bytes kind rows line table.TooDeep is told)
told_of_table wanted bytes NoMemory told kind rows is = refl

-- a text with a first fault is refused for that one, or for want of memory
pub told_of_fault : (wanted : List Kind) (bytes : List ℕ) (refused : TextFault) → IsFaultTold (IsFirstFault wanted bytes) refused
    → (line : ℕ) (fault : Fault) → IsFirstFault wanted bytes line fault → IsFaultTold (λ k f. (k ≡ line) × (f ≡ fault)) refused
told_of_fault wanted bytes (Syntax k) told line fault is = same_fault wanted bytes k line table.Syntax fault told is
told_of_fault wanted bytes (UnknownMethod k) told line fault is = same_fault wanted bytes k line table.UnknownMethod fault told is
told_of_fault wanted bytes (UnknownName k) told line fault is = same_fault wanted bytes k line table.UnknownName fault told is
told_of_fault wanted bytes (Twice k) told line fault is = same_fault wanted bytes k line table.Twice fault told is
told_of_fault wanted bytes (TooDeep k) told line fault is = same_fault wanted bytes k line table.TooDeep fault told is
told_of_fault wanted bytes NoMemory told line fault is = tt

-- the table that is given is the text's
pub given_table : (wanted : List Kind) (bytes : List ℕ) (given : Kind) (table : RowMap) → IsTableText wanted bytes given table
    → (kind : Kind) (rows : RowMap) → IsTableText wanted bytes kind rows → (given ≡ kind) × (table ≡ rows)
given_table wanted bytes given table read kind rows is = same_table wanted bytes given kind table rows read is

-- a text with a first fault gives no table
pub no_table_given : (wanted : List Kind) (bytes : List ℕ) (given : Kind) (table : RowMap) → IsTableText wanted bytes given table
    → (line : ℕ) (fault : Fault) → IsFirstFault wanted bytes line fault → ⊥
no_table_given wanted bytes given table read line fault is = no_fault_of_a_table wanted bytes given table line fault read is
