-- What a status says of the files that were read and of what was written.
use Rattle.std.specs.Prelude.{◌≡◌, ◌⊎◌, ℕ, Bool, true, false, List, Option, Result, ⊤}
use Rattle.std.specs.Prelude as std
use Rattle.gx_io.specs.Sinks.{Written, AddsWhole, AddsFront}
use Rattle.gx_base.specs.declared.inputs.What.{What}
use Rattle.galois_run.specs.declared.status.Status.{Status}
use Rattle.galois_run.specs.declared.status.Status.TheVariants.{Ok, Usage, BadInput, ReadFault, WriteFault, NoMemory, TooLarge, Spent, Kept, BadTable}
use Rattle.run_commands.specs.declared.run_faults.TableFault.{TableFault}
use Rattle.speculation.specs.Limits.{Limit}
use Rattle.speculation.specs.Limits as limits
use Rattle.run_commands.specs.Inputs.{Inputs, AreWithinLength, PassesFileLimit, IsFileLimit}
use Rattle.run_commands.specs.CommandMeaning.{CommandMeaning}

-- the answers that may come at any place, in place of the one that the input calls for
abbrev pub GivesUp : Status → Type 0
GivesUp status = (status ≡ ReadFault) ⊎ (status ≡ NoMemory)

-- a status comes exactly where it has cause to, but for a fault of reading and for want of memory
pub record ComesWhere (cause : Type 0) (status result : Status) : Type 0 where
  pub only : result ≡ status → cause
  pub always : cause → (result ≡ status) ⊎ GivesUp result

-- a file has too many bytes, or none has and what they hold is past a limit of the command's
abbrev pub PassesLimit : CommandMeaning → Inputs → What → Type 0
PassesLimit meaning inputs what = PassesFileLimit inputs what ⊎ (AreWithinLength inputs × meaning.too_large inputs what)

abbrev pub status_of_limit : Limit → Status
status_of_limit limits.Spent = Spent
status_of_limit limits.Kept = Kept

-- each refusal of the inputs comes exactly where they call for it
pub record IsCaused (meaning : CommandMeaning) (inputs : Inputs) (status : Status) : Type 0 where
  pub too_large : (what : What) → ComesWhere (PassesLimit meaning inputs what) (TooLarge what) status
  pub bad_table : (why : TableFault) → ComesWhere (AreWithinLength inputs × meaning.bad_table inputs why) (BadTable why) status
  pub bad_input : (line : ℕ) → ComesWhere (AreWithinLength inputs × meaning.malformed inputs line) (BadInput line) status
  pub past : (limit : Limit) → ComesWhere (AreWithinLength inputs × meaning.passes inputs limit) (status_of_limit limit) status

-- where nothing is wrong with the inputs, and no commit would pass a limit, only a fault or want of memory keeps the report from being
-- written whole
abbrev pub Completes : CommandMeaning → Inputs → Status → Type 0
Completes meaning inputs status = AreWithinLength inputs → meaning.ends inputs → (status ≡ Ok) ⊎ ((status ≡ WriteFault) ⊎ GivesUp status)

-- the inputs call for this report
pub record IsReported (meaning : CommandMeaning) (inputs : Inputs) (report : List ℕ) : Type 0 where
  pub within : AreWithinLength inputs
  pub is_report : meaning.reported inputs report

-- the whole report was added, and flushed
pub record IsWritten (meaning : CommandMeaning) (inputs : Inputs) (before after : Option Written) : Type 0 where
  pub report : List ℕ
  pub is_reported : IsReported meaning inputs report
  pub added : AddsWhole before after report

-- a prefix of the report was added
pub record IsReportCutShort (meaning : CommandMeaning) (inputs : Inputs) (before after : Option Written) : Type 0 where
  pub report : List ℕ
  pub is_reported : IsReported meaning inputs report
  pub prefix : AddsFront before after report

-- the statuses that a command answers, whatever the files tell
abbrev pub IsAnswer : CommandMeaning → Status → Type 0
IsAnswer meaning (BadInput line) = meaning.lines line
IsAnswer meaning (TooLarge what) = IsFileLimit what ⊎ meaning.limits what
IsAnswer meaning Spent = meaning.runs_on
IsAnswer meaning Kept = meaning.runs_on
IsAnswer meaning (BadTable why) = meaning.faults why
IsAnswer meaning _ = ⊤

-- the statuses before which something may have been written
abbrev pub writes : Status → Bool
writes Ok = true
writes WriteFault = true
writes _ = false

-- ---- one level below: a report is made before it is written

-- the statuses that come where no report is made of what the words name
abbrev pub IsRefusal : Status → Type 0
IsRefusal Ok = ⊥
IsRefusal Usage = ⊥
IsRefusal WriteFault = ⊥
IsRefusal _ = ⊤

-- how the making of a report ended
abbrev pub ending : {A : Type 0} → Result A Status → Status
ending (std.Ok text) = Ok
ending (std.Err status) = status
