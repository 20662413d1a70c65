-- What is shown of each command that runs a loop.
use Rattle.std.proofs.Common.{◌≡◌, ℕ, ◌≤◌, List, Option, Result, Ok, Err}
use Rattle.gx_base.specs.declared.inputs.What.{What}
use Rattle.gx_base.specs.declared.inputs.InputFault.{InputFault}
use Rattle.gx_base.specs.declared.inputs.InputFault.TheVariants.{Line, Large}
use Rattle.gx_base.specs.declared.kinds.Choice.{Choice}
use Rattle.run_commands.specs.declared.run_faults.TableFault.{TableFault}
use Rattle.loop_runs.specs.GateTables.{GateTables}
use Rattle.run_commands.specs.LoopCommands.{LoopCommand, AreAccepted}

pub record LoopLaws (command : LoopCommand) : Type 0 where
  -- bytes call for one thing
  pub one_answer : (bytes : List ℕ) (a b : Result command.Input InputFault) → command.calls_for bytes a → command.calls_for bytes b → a ≡ b
  -- there is one set of tables, and then nothing is wrong with the conditions
  pub one_set : (choice : Choice) (conditions : Option (List ℕ)) (a b : GateTables) → command.are_tables choice conditions a → command.are_tables choice conditions b → a ≡ b
  pub accepted : (choice : Choice) (conditions : Option (List ℕ)) (tables : GateTables) → command.are_tables choice conditions tables → AreAccepted command conditions
  -- what is told
  pub fault_is_told : (conditions : Option (List ℕ)) (why : TableFault) → command.is_bad_table conditions why → command.faults why
  pub line_is_told : (bytes : List ℕ) (line : ℕ) → command.calls_for bytes (Err (Line line)) → 1 ≤ line
  pub limit_is_told : (bytes : List ℕ) (what : What) → command.calls_for bytes (Err (Large what)) → command.limits what

module _ (command : LoopCommand) (laws : LoopLaws command) (bytes : List ℕ) where
  pub one_input : (a b : command.Input) → command.calls_for bytes (Ok a) → command.calls_for bytes (Ok b) → a ≡ b
  one_input a b p q = let e : Ok a ≡ Ok b = laws.one_answer bytes (Ok a) (Ok b) p q in cc

  pub read_or_faulty : (input : command.Input) (line : ℕ) → command.calls_for bytes (Ok input) → command.calls_for bytes (Err (Line line)) → ⊥
  read_or_faulty input line r m = let e : Ok input ≡ Err (Line line) = laws.one_answer bytes (Ok input) (Err (Line line)) r m in cc

  pub read_or_large : (input : command.Input) (what : What) → command.calls_for bytes (Ok input) → command.calls_for bytes (Err (Large what)) → ⊥
  read_or_large input what r l = let e : Ok input ≡ Err (Large what) = laws.one_answer bytes (Ok input) (Err (Large what)) r l in cc

  abbrev refusal : InputFault → Result command.Input InputFault
  refusal fault = Err fault

  pub faulty_or_large : (line : ℕ) (what : What) → command.calls_for bytes (Err (Line line)) → command.calls_for bytes (Err (Large what)) → ⊥
  faulty_or_large line what m l = let e : refusal (Line line) ≡ refusal (Large what) = laws.one_answer bytes (Err (Line line)) (Err (Large what)) m l in cc

  pub same_line : (j k : ℕ) → command.calls_for bytes (Err (Line j)) → command.calls_for bytes (Err (Line k)) → j ≡ k
  same_line j k p q = let e : refusal (Line j) ≡ refusal (Line k) = laws.one_answer bytes (Err (Line j)) (Err (Line k)) p q in cc

  pub same_what : (a b : What) → command.calls_for bytes (Err (Large a)) → command.calls_for bytes (Err (Large b)) → a ≡ b
  same_what a b p q = let e : refusal (Large a) ≡ refusal (Large b) = laws.one_answer bytes (Err (Large a)) (Err (Large b)) p q in cc
