-- The options of a run on a command line: names and values, in turn.
use Rattle.std.specs.Prelude.{ℕ, Bool, true, false, not, ◌&&◌, ◌||◌, ◌==◌, nat_eq, nat_le, length, if◌then◌else◌, List, [], ◌∷◌, Option, Some, None, is_some, unwrap_or, codes, bytes_eq}
use Rattle.std.specs.List.{starts_with}
use Rattle.gx_base.specs.declared.kinds.Choice.{Choice}
use Rattle.gx_base.specs.declared.kinds.Choice.TheVariants.{Precise}
use Rattle.text_lines.specs.Numbers.{number_of}
use Rattle.table_choice.specs.Choices.{choice_of}
use Rattle.run_words.specs.declared.options.RunOptions.{RunOptions}

-- the value that follows a name, where every other word is a name
abbrev pub option_value : List (List ℕ) → List ℕ → Option (List ℕ)
option_value [] name = None
option_value (known ∷ []) name = None
option_value (known ∷ value ∷ words) name = if bytes_eq known name then Some value else option_value words name

-- ---- which words are options

-- a word that isn't empty and doesn't begin with two dashes
abbrev pub is_plain : List ℕ → Bool
is_plain word = not (length word == 0) && not (starts_with nat_eq word (codes "--"))

abbrev pub is_between : ℕ → ℕ → Option ℕ → Bool
is_between least most None = false
is_between least most (Some n) = nat_le least n && nat_le n most

-- an option of this name may have the value
abbrev pub may_have : List ℕ → List ℕ → Bool
may_have name value =
    if bytes_eq name (codes "--virtual") then is_between 1 64 (number_of value)
    else if bytes_eq name (codes "--turns") then is_between 0 1000000 (number_of value)
    else if bytes_eq name (codes "--seed") then is_some (number_of value)
    else if bytes_eq name (codes "--trace") || bytes_eq name (codes "--told") then bytes_eq value (codes "on")
    else if bytes_eq name (codes "--table") then is_some (choice_of value)
    else if bytes_eq name (codes "--conditions") then is_plain value
    else false

-- each name has a value that it may have, and comes once
abbrev pub are_options : List (List ℕ) → Bool
are_options [] = true
are_options (name ∷ []) = false
are_options (name ∷ value ∷ words) = may_have name value && not (is_some (option_value words name)) && are_options words

-- a shipped table is named, and a file of conditions too
abbrev pub names_two_tables : List (List ℕ) → Bool
names_two_tables words = is_some (option_value words (codes "--table")) && is_some (option_value words (codes "--conditions"))

-- ---- what they say

abbrev pub or_default : ℕ → Option ℕ → ℕ
or_default default None = default
or_default default (Some n) = n

-- the number that is given, or that by default
abbrev pub number_or : ℕ → Option (List ℕ) → ℕ
number_or default None = default
number_or default (Some value) = or_default default (number_of value)

-- the shipped table that is named, or that by default
abbrev pub table_or : Choice → Option (List ℕ) → Choice
table_or default None = default
table_or default (Some value) = unwrap_or (choice_of value) default

-- without an option there are one worker, no scheduled turns, the seed 0, no lines of a trace, and the precise table
abbrev pub options_by : List (List ℕ) → RunOptions
options_by words = record {
  workers = number_or 1 (option_value words (codes "--virtual"));
  turns = number_or 0 (option_value words (codes "--turns"));
  seed = number_or 0 (option_value words (codes "--seed"));
  trace = is_some (option_value words (codes "--trace"));
  told = is_some (option_value words (codes "--told"));
  table = table_or Precise (option_value words (codes "--table"));
}

-- the options that words are, where they are options and name one table at most
abbrev pub options_of : List (List ℕ) → Option RunOptions
options_of words = if are_options words && not (names_two_tables words) then Some (options_by words) else None
