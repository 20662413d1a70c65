-- What a command means.
use Rattle.std.specs.Prelude.{ℕ, List}
use Rattle.gx_base.specs.declared.inputs.What.{What}
use Rattle.speculation.specs.Limits.{Limit}
use Rattle.run_commands.specs.declared.run_faults.TableFault.{TableFault}
use Rattle.run_commands.specs.Inputs.{Inputs}

pub record CommandMeaning : Type 1 where
  -- the inputs are of the form that the command reads, and this is its report on them
  pub reported : Inputs → List ℕ → Type 0
  -- the conditions among them are no table that the command may run under, for this reason
  pub bad_table : Inputs → TableFault → Type 0
  -- nothing is wrong with those, but the inputs are not of that form, and this line is told
  pub malformed : Inputs → ℕ → Type 0
  -- nothing is wrong with those, the inputs are of that form, and past this limit of the command's
  pub too_large : Inputs → What → Type 0
  -- nothing is wrong with those, the inputs are of that form and within the limits, but the first commit that would pass a limit on
  -- commits passes this one
  pub passes : Inputs → Limit → Type 0
  -- nothing is wrong with those, the inputs are of that form and within the limits, and no commit would pass one
  pub ends : Inputs → Type 0
  -- whatever the inputs are: the faults of conditions and the lines that may be told, the limits that there are, and whether it may
  -- run on
  pub faults : TableFault → Type 0
  pub lines : ℕ → Type 0
  pub limits : What → Type 0
  pub runs_on : Type 0
