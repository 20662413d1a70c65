-- The faults for which there is no report.
use Rattle.std.specs.Prelude.{◌≡◌, ◌⊎◌, ℕ, Result, Err, Vec, IfOk}
use Rattle.std.specs.Global.{Global}
use Rattle.cond_text.specs.declared.faults.TextFault.{TextFault}
use Rattle.cond_text.specs.declared.faults.TextFault.TheVariants.{Syntax, UnknownMethod, UnknownName, Twice, TooDeep, NoMemory as NoMemoryForText}
use Rattle.gx_base.specs.declared.inputs.What.{What}
use Rattle.gx_base.specs.declared.inputs.InputFault.{InputFault}
use Rattle.gx_base.specs.declared.inputs.InputFault.TheVariants as inputs
use Rattle.run_commands.specs.declared.run_faults.RunFault.{RunFault}
use Rattle.run_commands.specs.declared.run_faults.RunFault.TheVariants.{BadTable, BadInput, TooLarge, Spent, Kept, NoMemory}
use Rattle.run_commands.specs.declared.run_faults.TableFault.{TableFault}
use Rattle.run_commands.specs.declared.run_faults.TableFault.TheVariants.{Line, Pair}
use Rattle.table_choice.specs.declared.refusals.TableRefuse.{TableRefuse}
use Rattle.table_choice.specs.declared.refusals.TableRefuse.TheVariants as tables
use Rattle.sessions.specs.declared.events.Stop.{Stop}
use Rattle.sessions.specs.declared.events.Stop.TheVariants as stops
use Rattle.speculation.specs.Limits.{Limit}
use Rattle.speculation.specs.Limits as limits
use Rattle.run_commands.specs.Inputs.{Inputs}
use Rattle.run_commands.specs.CommandMeaning.{CommandMeaning}

-- whatever is wrong with the text of the file that a command reads, its line is told
abbrev pub fault_of_text : TextFault → RunFault
fault_of_text (Syntax line) = BadInput line
fault_of_text (UnknownMethod line) = BadInput line
fault_of_text (UnknownName line) = BadInput line
fault_of_text (Twice line) = BadInput line
fault_of_text (TooDeep line) = BadInput line
fault_of_text NoMemoryForText = NoMemory

-- the same of the text of a user's conditions
abbrev pub fault_of_conditions : TextFault → RunFault
fault_of_conditions (Syntax line) = BadTable (Line line)
fault_of_conditions (UnknownMethod line) = BadTable (Line line)
fault_of_conditions (UnknownName line) = BadTable (Line line)
fault_of_conditions (Twice line) = BadTable (Line line)
fault_of_conditions (TooDeep line) = BadTable (Line line)
fault_of_conditions NoMemoryForText = NoMemory

-- what a reader of the file refuses it for
abbrev pub fault_of_input : InputFault → RunFault
fault_of_input (inputs.Line line) = BadInput line
fault_of_input (inputs.Large what) = TooLarge what
fault_of_input inputs.NoMemory = NoMemory

-- why a run stopped
abbrev pub fault_of_stop : Stop → RunFault
fault_of_stop stops.Spent = Spent
fault_of_stop stops.Kept = Kept
fault_of_stop stops.NoMemory = NoMemory

-- the limit that a commit would pass
abbrev pub fault_of_limit : Limit → RunFault
fault_of_limit limits.Spent = Spent
fault_of_limit limits.Kept = Kept

-- why a table is refused
abbrev pub fault_of_table : TableRefuse → RunFault
fault_of_table (tables.Line line) = BadTable (Line line)
fault_of_table (tables.NotBelow first second) = BadTable (Pair first second)
fault_of_table tables.NoMemory = NoMemory

-- a fault comes exactly where it has cause to, but for want of memory
pub record FaultsWhere {A : Type 0} (cause : Type 0) (fault : RunFault) (result : Result A RunFault) : Type 0 where
  pub only : result ≡ Err fault → cause
  pub always : cause → (result ≡ Err fault) ⊎ (result ≡ Err NoMemory)

-- what a command answers on its inputs is what it means: each fault comes exactly where the inputs call for it
pub record FaultAnswers (meaning : CommandMeaning) (inputs : Inputs) (result : Result (Vec ℕ Global) RunFault) : Type 0 where
  pub reported : IfOk result (λ text. meaning.reported inputs text.items)
  pub bad_table : (why : TableFault) → FaultsWhere (meaning.bad_table inputs why) (BadTable why) result
  pub malformed : (line : ℕ) → FaultsWhere (meaning.malformed inputs line) (BadInput line) result
  pub too_large : (what : What) → FaultsWhere (meaning.too_large inputs what) (TooLarge what) result
  pub passes : (limit : Limit) → FaultsWhere (meaning.passes inputs limit) (fault_of_limit limit) result
