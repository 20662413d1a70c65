-- The words of a command line.
use Rattle.std.specs.Prelude.{◌≡◌, ℕ, if◌then◌else◌, List, [], ◌∷◌, Option, Some, None, option_map, codes, bytes_eq, string_bytes}
use Rattle.run_words.specs.declared.words.Command.{Command}
use Rattle.run_words.specs.declared.words.Command.TheVariants.{Flow, Cluster, Classify, Help, Version}
use Rattle.run_words.specs.declared.words.Plan.{Plan}
use Rattle.run_words.specs.declared.options.RunOptions.{RunOptions}
use Rattle.run_words.specs.RunOptions.{option_value, is_plain, options_by, options_of}

-- a command, the names of the files that are to be read for it, where the words give them (its main file, a file of
-- conditions, and a second file), and the options of its run
pub record Planned : Type 0 where
  pub command : Command
  pub main : Option (List ℕ)
  pub conditions : Option (List ℕ)
  pub second : Option (List ℕ)
  pub options : RunOptions

-- a command that reads no file
abbrev pub by_itself : Command → Planned
by_itself command = record { command = command; main = None; conditions = None; second = None; options = options_by [] }

-- a command on one file, and on one of conditions where its options name one
abbrev pub on_main : Command → List ℕ → List (List ℕ) → RunOptions → Planned
on_main command file words options = record { command = command; main = Some file; conditions = option_value words (codes "--conditions"); second = None; options = options }

abbrev pub command_of : List ℕ → Option Command
command_of word =
    if bytes_eq word (codes "flow") then Some Flow
    else if bytes_eq word (codes "cluster") then Some Cluster
    else if bytes_eq word (codes "classify") then Some Classify
    else None

-- the command of a word that stands alone
abbrev pub lone_command : List ℕ → Option Command
lone_command word =
    if bytes_eq word (codes "--help") then Some Help
    else if bytes_eq word (codes "--version") then Some Version
    else None

-- the options that words are for a command. One that runs nothing has none
abbrev pub options_for : Command → List (List ℕ) → Option RunOptions
options_for Flow words = options_of words
options_for Cluster words = options_of words
options_for command [] = Some (options_by [])
options_for command (word ∷ words) = None

abbrev pub with_file : Option Command → List ℕ → List (List ℕ) → Option Planned
with_file None file words = None
with_file (Some command) file words = if is_plain file then option_map (on_main command file words) (options_for command words) else None

-- the grammar of the words: one of those that stand alone, or a command, one plain word, and the command's options
abbrev pub plan_of_words : List (List ℕ) → Option Planned
plan_of_words [] = None
plan_of_words (word ∷ []) = option_map by_itself (lone_command word)
plan_of_words (word ∷ file ∷ words) = with_file (command_of word) file words

abbrev pub planned : Plan → Planned
planned plan = record { command = plan.command; main = option_map string_bytes plan.file; conditions = option_map string_bytes plan.conditions; second = None; options = plan.options }

abbrev pub IsPlanned : Option Planned → Plan → Type 0
IsPlanned wanted plan = wanted ≡ Some (planned plan)
