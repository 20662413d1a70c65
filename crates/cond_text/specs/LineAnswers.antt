-- The answers of the reader of a line.
use Rattle.std.specs.Prelude.{◌≡◌, ℕ, List, Some}
use Rattle.std.specs.FinMap as map
use Rattle.gx_base.specs.declared.kinds.Kind.{Kind}
use Rattle.gx_base.specs.Conditions.{Condition}
use Rattle.gx_base.specs.TableRows.{RowMap}
use Rattle.cond_syntax.specs.Tokens.{Token}
use Rattle.cond_syntax.specs.TableTexts as table
use Rattle.cond_syntax.specs.TableTexts.{SoFar, HasFault, AreMethods}
use Rattle.cond_text.specs.declared.tables.line_faults.LineFault.{LineFault}
use Rattle.cond_text.specs.declared.tables.line_faults.LineFault.TheVariants.{Syntax, UnknownMethod, UnknownName, Twice, TooDeep, NoMemory}
use Rattle.cond_text.specs.declared.tables.reader.Reader.{Reader}
use Rattle.cond_text.specs.declared.tables.reader.Reader.TheVariants.{Untyped, Typed}
use Rattle.cond_text.specs.declared.faults.TextFault.{TextFault}
use Rattle.cond_text.specs.declared.faults.TextFault.TheVariants as told

-- what has been read
abbrev pub so_far : Reader → SoFar
so_far Untyped = table.Untyped
so_far (Typed rows) = table.Typed rows.kind rows.table

-- the line with these tokens is refused for its fault, or for want of memory
abbrev pub IsRefused : List Kind → SoFar → List Token → LineFault → Type 0
IsRefused wanted before ts Syntax = HasFault wanted before ts table.Syntax
IsRefused wanted before ts UnknownMethod = HasFault wanted before ts table.UnknownMethod
IsRefused wanted before ts UnknownName = HasFault wanted before ts table.UnknownName
IsRefused wanted before ts Twice = HasFault wanted before ts table.Twice
IsRefused wanted before ts TooDeep = HasFault wanted before ts table.TooDeep
IsRefused wanted before ts NoMemory = Unit {0}

-- two words are those of methods that have a row
pub record AreTaken (kind : Kind) (rows : RowMap) (first second : List ℕ) : Type 0 where
  pub i : ℕ
  pub j : ℕ
  pub row : Condition
  pub methods : AreMethods kind first second i j
  pub has : map.get rows (i, j) ≡ Some row

-- why there is no place for the row of two words
abbrev pub IsNoPlace : Kind → RowMap → (first second : List ℕ) → LineFault → Type 0
IsNoPlace kind rows first second Syntax = ⊥
IsNoPlace kind rows first second UnknownMethod = (i j : ℕ) → AreMethods kind first second i j → ⊥
IsNoPlace kind rows first second UnknownName = ⊥
IsNoPlace kind rows first second Twice = AreTaken kind rows first second
IsNoPlace kind rows first second TooDeep = ⊥
IsNoPlace kind rows first second NoMemory = ⊥

-- the fault with the line's number
abbrev pub told_at : ℕ → LineFault → TextFault
told_at line Syntax = told.Syntax line
told_at line UnknownMethod = told.UnknownMethod line
told_at line UnknownName = told.UnknownName line
told_at line Twice = told.Twice line
told_at line TooDeep = told.TooDeep line
told_at line NoMemory = told.NoMemory
