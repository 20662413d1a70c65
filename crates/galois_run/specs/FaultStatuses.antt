-- The statuses that tell why there is no report.
use Rattle.gx_base.specs.declared.inputs.What.TheVariants.{File}
use Rattle.gx_io.specs.declared.fault.WholeRefuse.{WholeRefuse}
use Rattle.gx_io.specs.declared.fault.WholeRefuse.TheVariants as refusals
use Rattle.run_commands.specs.declared.run_faults.RunFault.{RunFault}
use Rattle.run_commands.specs.declared.run_faults.RunFault.TheVariants.{BadTable, BadInput, TooLarge, Spent, Kept, NoMemory}
use Rattle.galois_run.specs.declared.status.Status.{Status}
use Rattle.galois_run.specs.declared.status.Status.TheVariants as statuses

-- the status of the same name
abbrev pub status_of_fault : RunFault → Status
status_of_fault (BadTable why) = statuses.BadTable why
status_of_fault (BadInput line) = statuses.BadInput line
status_of_fault (TooLarge what) = statuses.TooLarge what
status_of_fault Spent = statuses.Spent
status_of_fault Kept = statuses.Kept
status_of_fault NoMemory = statuses.NoMemory

-- why a file was not read, as a status
abbrev pub status_of_refusal : WholeRefuse → Status
status_of_refusal refusals.Failed = statuses.ReadFault
status_of_refusal refusals.TooLong = statuses.TooLarge File
status_of_refusal refusals.NoMemory = statuses.NoMemory
