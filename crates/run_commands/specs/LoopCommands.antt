-- What a command says that runs a loop on a file.
use Rattle.std.specs.Prelude.{◌≡◌, ℕ, ◌≤◌, Option, None, List, Result, Ok, Err, ⊤}
use Rattle.gx_base.specs.declared.inputs.What.{What}
use Rattle.gx_base.specs.declared.inputs.InputFault.{InputFault}
use Rattle.gx_base.specs.declared.inputs.InputFault.TheVariants.{Line, Large}
use Rattle.gx_base.specs.declared.kinds.Choice.{Choice}
use Rattle.speculation.specs.Limits.{Limit}
use Rattle.run_words.specs.declared.options.RunOptions.{RunOptions}
use Rattle.run_commands.specs.declared.run_faults.TableFault.{TableFault}
use Rattle.run_commands.specs.Inputs.{main_of}
use Rattle.run_commands.specs.CommandMeaning.{CommandMeaning}
use Rattle.loop_runs.specs.GateTables.{GateTables}
use Rattle.loop_runs.specs.LoopRuns.{Loop, IsReportOf, IsRunPast, loop_limit}

pub record LoopCommand : Type 1 where
  -- what a file holds, and what the bytes of one call for: what it holds, a line of it that is told as faulty, or a limit that it
  -- is past
  pub Input : Type 0
  pub calls_for : List ℕ → Result Input InputFault → Type 0
  -- what is run on it
  pub loop : Input → Loop
  -- the tables of the gates: shipped ones that the words name, or with those of a user's conditions; and why conditions are refused
  pub are_tables : Choice → Option (List ℕ) → GateTables → Type 0
  pub is_bad_table : Option (List ℕ) → TableFault → Type 0
  -- whatever the inputs are: the faults of conditions that may be told, and the limits on files that there are
  pub faults : TableFault → Type 0
  pub limits : What → Type 0

module _ (command : LoopCommand) where
  -- nothing is wrong with the conditions
  abbrev pub AreAccepted : Option (List ℕ) → Type 0
  AreAccepted conditions = (why : TableFault) → command.is_bad_table conditions why → ⊥

  -- a fact of the tables of the run
  pub record UnderTables (choice : Choice) (conditions : Option (List ℕ)) (fact : GateTables → Type 0) : Type 0 where
    pub tables : GateTables
    pub are_tables : command.are_tables choice conditions tables
    pub holds : fact tables

  -- the file holds this, and the report is that of its run under the tables
  pub record IsReportOn (options : RunOptions) (tables : GateTables) (bytes report : List ℕ) : Type 0 where
    pub input : command.Input
    pub is_read : command.calls_for bytes (Ok input)
    pub is_report : IsReportOf options tables (command.loop input) report

  -- the file holds what has a run under the tables that passes this limit on commits first
  pub record IsPastOn (options : RunOptions) (tables : GateTables) (bytes : List ℕ) (limit : Limit) : Type 0 where
    pub input : command.Input
    pub is_read : command.calls_for bytes (Ok input)
    pub is_past : IsRunPast options tables (command.loop input) limit

  -- the conditions are accepted, and the file holds what has a run that passes no limit on commits
  pub record IsWithinOn (options : RunOptions) (conditions : Option (List ℕ)) (bytes : List ℕ) : Type 0 where
    pub are_accepted : AreAccepted conditions
    pub input : command.Input
    pub is_read : command.calls_for bytes (Ok input)
    pub is_within : (tables : GateTables) (turns : ℕ) → command.are_tables options.table conditions tables → loop_limit options tables (command.loop input) turns ≡ None

  abbrev pub loop_meaning : RunOptions → CommandMeaning
  loop_meaning options = record {
    reported = λ inputs report. UnderTables options.table inputs.conditions (λ tables. IsReportOn options tables (main_of inputs) report);
    bad_table = λ inputs why. command.is_bad_table inputs.conditions why;
    malformed = λ inputs line. AreAccepted inputs.conditions × command.calls_for (main_of inputs) (Err (Line line));
    too_large = λ inputs what. AreAccepted inputs.conditions × command.calls_for (main_of inputs) (Err (Large what));
    passes = λ inputs limit. UnderTables options.table inputs.conditions (λ tables. IsPastOn options tables (main_of inputs) limit);
    ends = λ inputs. IsWithinOn options inputs.conditions (main_of inputs);
    faults = command.faults;
    lines = λ line. 1 ≤ line;
    limits = command.limits;
    runs_on = ⊤;
  }
