-- What the files of a plan hold.
use Rattle.std.specs.Prelude.{◌≡◌, ◌⊎◌, ℕ, ◌<◌, ◌≤◌, List, [], length, Option, Some, None, option_map, IfSome, IsSomeAnd, unwrap_or}
use Rattle.gx_base.specs.declared.inputs.What.{What}
use Rattle.gx_base.specs.declared.inputs.What.TheVariants.{File}
use Rattle.run_commands.specs.declared.inputs.InputFiles.{InputFiles}
use Rattle.run_words.specs.Words.{Planned}

-- the bytes of a plan's files, each where the plan names one
pub record Inputs : Type 0 where
  pub main : Option (List ℕ)
  pub conditions : Option (List ℕ)
  pub second : Option (List ℕ)

-- the bytes of the main file
abbrev pub main_of : Inputs → List ℕ
main_of inputs = unwrap_or inputs.main []

-- what was read
abbrev pub inputs_in : InputFiles → Inputs
inputs_in read = record { main = option_map (λ file. file.items) read.main; conditions = option_map (λ file. file.items) read.conditions; second = None }

-- ---- what files hold

abbrev pub with_bytes : Option (List ℕ) → Option (Option (List ℕ))
with_bytes None = None
with_bytes (Some bytes) = Some (Some bytes)

-- what the file of a name holds, or that there is no name; None where there is one and it isn't told
abbrev pub held_under : (List ℕ → Option (List ℕ)) → Option (List ℕ) → Option (Option (List ℕ))
held_under holds None = Some None
held_under holds (Some name) = with_bytes (holds name)

abbrev pub all_told : Option (Option (List ℕ)) → Option (Option (List ℕ)) → Option (Option (List ℕ)) → Option Inputs
all_told (Some main) (Some conditions) (Some second) = Some (record { main = main; conditions = conditions; second = second })
all_told _ _ _ = None

-- what the files that a plan names hold, where that is told of each
abbrev pub inputs_of : Planned → (List ℕ → Option (List ℕ)) → Option Inputs
inputs_of plan holds = all_told (held_under holds plan.main) (held_under holds plan.conditions) (held_under holds plan.second)

-- what holds of a plan and its inputs, where there is a plan and these are told
abbrev pub OnInputs : Option Planned → (List ℕ → Option (List ℕ)) → (Planned → Inputs → Type 0) → Type 0
OnInputs None holds fact = Unit {0}
OnInputs (Some plan) holds fact = IfSome (inputs_of plan holds) (fact plan)

-- ---- the limit on files

-- the most bytes that a file may have
abbrev pub most_bytes : ℕ
most_bytes = 67108864

abbrev pub IsWithinLength : List ℕ → Type 0
IsWithinLength bytes = length bytes ≤ most_bytes

abbrev pub IsTooLong : List ℕ → Type 0
IsTooLong bytes = most_bytes < length bytes

-- no file has too many bytes
pub record AreWithinLength (inputs : Inputs) : Type 0 where
  pub main : IfSome inputs.main IsWithinLength
  pub conditions : IfSome inputs.conditions IsWithinLength
  pub second : IfSome inputs.second IsWithinLength

-- a file has too many bytes
abbrev pub HasTooLong : Inputs → Type 0
HasTooLong inputs = IsSomeAnd inputs.main IsTooLong ⊎ (IsSomeAnd inputs.conditions IsTooLong ⊎ IsSomeAnd inputs.second IsTooLong)

-- the limit on files is passed
abbrev pub PassesFileLimit : Inputs → What → Type 0
PassesFileLimit inputs what = (what ≡ File) × HasTooLong inputs

abbrev pub IsFileLimit : What → Type 0
IsFileLimit what = what ≡ File
