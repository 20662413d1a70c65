-- The answers of the reader of tables.
use Rattle.std.specs.Prelude.{◌≡◌, ℕ, Result, Ok, Err}
use Rattle.gx_base.specs.declared.kinds.Kind.{Kind}
use Rattle.gx_base.specs.TableRows.{RowMap}
use Rattle.cond_syntax.specs.TableTexts.{Fault}
use Rattle.cond_syntax.specs.TableTexts as fault
use Rattle.cond_text.specs.declared.faults.TextFault.{TextFault}
use Rattle.cond_text.specs.declared.faults.TextFault.TheVariants.{Syntax, UnknownMethod, UnknownName, Twice, TooDeep, NoMemory}

-- what holds of the line and the fault that are told; want of memory tells none
abbrev pub IsFaultTold : (ℕ → Fault → Type 0) → TextFault → Type 0
IsFaultTold holds (Syntax line) = holds line fault.Syntax
IsFaultTold holds (UnknownMethod line) = holds line fault.UnknownMethod
IsFaultTold holds (UnknownName line) = holds line fault.UnknownName
IsFaultTold holds (Twice line) = holds line fault.Twice
IsFaultTold holds (TooDeep line) = holds line fault.TooDeep
IsFaultTold holds NoMemory = Unit {0}

-- this table is given, but for want of memory
abbrev pub GivesTable : Kind → RowMap → Result (Kind × RowMap) TextFault → Type 0
GivesTable kind rows (Ok read) = (read.0 ≡ kind) × (read.1 ≡ rows)
GivesTable kind rows (Err refused) = refused ≡ NoMemory

-- this fault is told, but for want of memory
abbrev pub GivesFault : ℕ → Fault → Result (Kind × RowMap) TextFault → Type 0
GivesFault line fault (Ok read) = ⊥
GivesFault line fault (Err refused) = IsFaultTold (λ k f. (k ≡ line) × (f ≡ fault)) refused
