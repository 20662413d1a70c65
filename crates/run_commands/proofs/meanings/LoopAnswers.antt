-- What a command answers that runs a loop is what it means.
use Rattle.std.proofs.Common.{◌≡◌, ◌≢◌, ◌⊎◌, inl, inr, ℕ, List, Option, IfOk, Result, Ok, Err, Vec, refl, sym, ap, subst, ◌∙◌}
use Rattle.std.specs.Global.{Global}
use Rattle.gx_base.specs.declared.inputs.What.{What}
use Rattle.gx_base.specs.declared.inputs.InputFault.{InputFault}
use Rattle.gx_base.specs.declared.inputs.InputFault.TheVariants as inputs
use Rattle.gx_base.specs.declared.kinds.Choice.{Choice}
use Rattle.run_commands.specs.declared.run_faults.TableFault.{TableFault}
use Rattle.run_commands.specs.declared.run_faults.RunFault.{RunFault}
use Rattle.run_commands.specs.declared.run_faults.RunFault.TheVariants.{BadTable, BadInput, TooLarge, Spent, Kept, NoMemory}
use Rattle.run_commands.specs.Inputs.{Inputs, main_of}
use Rattle.speculation.specs.Limits.{Limit}
use Rattle.speculation.specs.Limits as limits
use Rattle.sessions.specs.declared.events.Stop.{Stop}
use Rattle.sessions.specs.declared.events.Stop.TheVariants as stops
use Rattle.iterate.specs.Plays.{stop_of}
use Rattle.run_words.specs.declared.options.RunOptions.{RunOptions}
use Rattle.loop_runs.specs.GateTables.{GateTables}
use Rattle.loop_runs.specs.LoopRuns.{IsReportOf}
use Rattle.run_commands.specs.LoopCommands.{LoopCommand, AreAccepted, UnderTables, IsReportOn, IsPastOn, loop_meaning}
use Rattle.run_commands.specs.RunFaults.{fault_of_input, fault_of_limit, fault_of_stop, FaultsWhere, FaultAnswers}
use Rattle.run_commands.proofs.meanings.LoopLaws.{LoopLaws, read_or_faulty, read_or_large, faulty_or_large, same_line, same_what}
use Rattle.run_commands.proofs.meanings.LoopLimits.{RunsPast, one_limit, ends_or_passes}

abbrev Made : Type 0
Made = Result (Vec ℕ Global) RunFault

-- what is known of what is made of a file
record Known (command : LoopCommand) (options : RunOptions) (conditions : Option (List ℕ)) (bytes : List ℕ) (result : Made) : Type 0 where
  pub reported : IfOk result (λ text. UnderTables command options.table conditions (λ tables. IsReportOn command options tables bytes text.items))
  pub bad_table : (why : TableFault) → FaultsWhere (command.is_bad_table conditions why) (BadTable why) result
  pub malformed : (line : ℕ) → result ≡ Err (BadInput line) → AreAccepted command conditions × command.calls_for bytes (Err (inputs.Line line))
  pub too_large : (what : What) → result ≡ Err (TooLarge what) → AreAccepted command conditions × command.calls_for bytes (Err (inputs.Large what))
  pub past : (limit : Limit) → result ≡ Err (fault_of_limit limit) → UnderTables command options.table conditions (λ tables. IsPastOn command options tables bytes limit)

module _ (command : LoopCommand) (laws : LoopLaws command) (options : RunOptions) (conditions : Option (List ℕ)) (bytes : List ℕ) where
  abbrev Is : Made → Type 0
  Is result = Known command options conditions bytes result

  abbrev Faulty : ℕ → Type 0
  Faulty line = command.calls_for bytes (Err (inputs.Line line))

  abbrev Large : What → Type 0
  Large what = command.calls_for bytes (Err (inputs.Large what))

  abbrev Past : Limit → Type 0
  Past limit = RunsPast command laws options conditions bytes limit

  malformed : (result : Made) (line : ℕ) → Is result → FaultsWhere (AreAccepted command conditions × Faulty line) (BadInput line) result
  malformed (Ok text) line known = record { only = λ e. absurd (cc); always = λ m. absurd (read_or_faulty command laws bytes known.reported.holds.input line known.reported.holds.is_read m.1) }
  malformed (Err (BadTable why)) line known = record { only = λ e. absurd (cc); always = λ m. absurd (m.0 why ((known.bad_table why).only refl)) }
  malformed (Err (BadInput told)) line known = record {
    only = known.malformed line;
    always = λ m. inl (ap (λ (n : ℕ). Err (BadInput n)) (same_line command laws bytes told line (known.malformed told refl).1 m.1));
  }
  malformed (Err (TooLarge what)) line known = record { only = λ e. absurd (cc); always = λ m. absurd (faulty_or_large command laws bytes line what m.1 (known.too_large what refl).1) }
  malformed (Err Spent) line known = let past = (known.past limits.Spent refl).holds in record { only = λ e. absurd (cc); always = λ m. absurd (read_or_faulty command laws bytes past.input line past.is_read m.1) }
  malformed (Err Kept) line known = let past = (known.past limits.Kept refl).holds in record { only = λ e. absurd (cc); always = λ m. absurd (read_or_faulty command laws bytes past.input line past.is_read m.1) }
  malformed (Err NoMemory) line known = record { only = λ e. absurd (cc); always = λ m. inr refl }

  too_large : (result : Made) (what : What) → Is result → FaultsWhere (AreAccepted command conditions × Large what) (TooLarge what) result
  too_large (Ok text) what known = record { only = λ e. absurd (cc); always = λ l. absurd (read_or_large command laws bytes known.reported.holds.input what known.reported.holds.is_read l.1) }
  too_large (Err (BadTable why)) what known = record { only = λ e. absurd (cc); always = λ l. absurd (l.0 why ((known.bad_table why).only refl)) }
  too_large (Err (BadInput told)) what known = record { only = λ e. absurd (cc); always = λ l. absurd (faulty_or_large command laws bytes told what (known.malformed told refl).1 l.1) }
  too_large (Err (TooLarge told)) what known = record {
    only = known.too_large what;
    always = λ l. inl (ap (λ (w : What). Err (TooLarge w)) (same_what command laws bytes told what (known.too_large told refl).1 l.1));
  }
  too_large (Err Spent) what known = let past = (known.past limits.Spent refl).holds in record { only = λ e. absurd (cc); always = λ l. absurd (read_or_large command laws bytes past.input what past.is_read l.1) }
  too_large (Err Kept) what known = let past = (known.past limits.Kept refl).holds in record { only = λ e. absurd (cc); always = λ l. absurd (read_or_large command laws bytes past.input what past.is_read l.1) }
  too_large (Err NoMemory) what known = record { only = λ e. absurd (cc); always = λ l. inr refl }

  no_limit : (fault : RunFault) (limit : Limit) → fault ≢ Spent → fault ≢ Kept → ◌≡◌ {A = Made} (Err fault) (Err (fault_of_limit limit)) → ⊥
  no_limit fault limits.Spent s k e = s (cc)
  no_limit fault limits.Kept s k e = k (cc)

  told_past : (fault : RunFault) (told limit : Limit) → fault ≡ fault_of_limit told → Past told → Past limit
      → ◌≡◌ {A = Made} (Err fault) (Err (fault_of_limit limit))
  told_past fault told limit is p q = ap (λ (f : RunFault). Err f) (is ∙ ap fault_of_limit (one_limit command laws options conditions bytes told limit p q))

  -- the run ends, or a commit passes one limit first
  passes : (result : Made) (limit : Limit) → Is result → FaultsWhere (Past limit) (fault_of_limit limit) result
  passes (Ok text) limit known = record { only = λ e. absurd (cc); always = λ p. absurd (ends_or_passes command laws options conditions bytes text.items limit known.reported p) }
  passes (Err (BadTable why)) limit known = record {
    only = λ e. absurd (no_limit (BadTable why) limit (λ f. cc) (λ f. cc) e);
    always = λ p. absurd (laws.accepted options.table conditions p.tables p.are_tables why ((known.bad_table why).only refl));
  }
  passes (Err (BadInput told)) limit known = record {
    only = λ e. absurd (no_limit (BadInput told) limit (λ f. cc) (λ f. cc) e);
    always = λ p. absurd (read_or_faulty command laws bytes p.holds.input told p.holds.is_read (known.malformed told refl).1);
  }
  passes (Err (TooLarge what)) limit known = record {
    only = λ e. absurd (no_limit (TooLarge what) limit (λ f. cc) (λ f. cc) e);
    always = λ p. absurd (read_or_large command laws bytes p.holds.input what p.holds.is_read (known.too_large what refl).1);
  }
  passes (Err Spent) limit known = record { only = known.past limit; always = λ p. inl (told_past Spent limits.Spent limit refl (known.past limits.Spent refl) p) }
  passes (Err Kept) limit known = record { only = known.past limit; always = λ p. inl (told_past Kept limits.Kept limit refl (known.past limits.Kept refl) p) }
  passes (Err NoMemory) limit known = record { only = λ e. absurd (no_limit NoMemory limit (λ f. cc) (λ f. cc) e); always = λ p. inr refl }

answers_of : (command : LoopCommand) (laws : LoopLaws command) (options : RunOptions) (all : Inputs) (result : Made) → Known command options all.conditions (main_of all) result → FaultAnswers (loop_meaning command options) all result
answers_of command laws options all result known = record {
  reported = known.reported;
  bad_table = known.bad_table;
  malformed = λ line. malformed command laws options all.conditions (main_of all) result line known;
  too_large = λ what. too_large command laws options all.conditions (main_of all) result what known;
  passes = λ limit. passes command laws options all.conditions (main_of all) result limit known;
}

pub loop_answers : (command : LoopCommand) (laws : LoopLaws command) (options : RunOptions) (all : Inputs) (conditions : Option (List ℕ)) (bytes : List ℕ) (result : Made) → conditions ≡ all.conditions → bytes ≡ main_of all
    → IfOk result (λ text. UnderTables command options.table conditions (λ tables. IsReportOn command options tables bytes text.items))
    → ((why : TableFault) → FaultsWhere (command.is_bad_table conditions why) (BadTable why) result)
    → ((line : ℕ) → result ≡ Err (BadInput line) → AreAccepted command conditions × command.calls_for bytes (Err (inputs.Line line)))
    → ((what : What) → result ≡ Err (TooLarge what) → AreAccepted command conditions × command.calls_for bytes (Err (inputs.Large what)))
    → ((limit : Limit) → result ≡ Err (fault_of_limit limit) → UnderTables command options.table conditions (λ tables. IsPastOn command options tables bytes limit))
    → FaultAnswers (loop_meaning command options) all result
loop_answers command laws options all conditions bytes result c e reported bad faulty large past =
    answers_of command laws options all result
    (subst (λ (file : List ℕ). Known command options all.conditions file result) e
    (subst (λ (given : Option (List ℕ)). Known command options given bytes result) c (record { reported = reported; bad_table = bad; malformed = faulty; too_large = large; past = past })))

-- ---- under the tables of the run

-- what is made under accepted tables
pub under_tables : (command : LoopCommand) (options : RunOptions) (conditions : Option (List ℕ)) (tables : GateTables) (bytes : List ℕ) (made : Made) → command.are_tables options.table conditions tables
    → IfOk made (λ text. IsReportOn command options tables bytes text.items) → IfOk made (λ text. UnderTables command options.table conditions (λ t. IsReportOn command options t bytes text.items))
under_tables command options conditions tables bytes (Ok text) are report = record { tables = tables; are_tables = are; holds = report }
under_tables command options conditions tables bytes (Err fault) are report = tt

-- no conditions are refused where these tables are accepted
pub not_refused : (command : LoopCommand) (laws : LoopLaws command) (choice : Choice) (conditions : Option (List ℕ)) (tables : GateTables) (made : Made) (why : TableFault) → command.are_tables choice conditions tables
    → (made ≡ Err (BadTable why) → ⊥) → FaultsWhere (command.is_bad_table conditions why) (BadTable why) made
not_refused command laws choice conditions tables made why are never = record { only = λ e. absurd (never e); always = λ bad. absurd (laws.accepted choice conditions tables are why bad) }

-- ---- from the run

-- the fault of a stop tells the limit
pub limit_told : (stop : Stop) (passed : Limit) → fault_of_stop stop ≡ fault_of_limit passed → stop ≡ stop_of passed
limit_told stops.Spent limits.Spent e = refl
limit_told stops.Spent limits.Kept e = absurd (cc)
limit_told stops.Kept limits.Spent e = absurd (cc)
limit_told stops.Kept limits.Kept e = refl
limit_told stops.NoMemory limits.Spent e = absurd (cc)
limit_told stops.NoMemory limits.Kept e = absurd (cc)

-- ---- from the reader

-- what was made of a refusal tells that refusal's fault
err_made : RunFault → Made
err_made fault = Err fault

same_fault : (f g : RunFault) → err_made f ≡ err_made g → f ≡ g
unfolding err_made
same_fault f g e = cc

past_by : (refused : InputFault) (limit : Limit) → fault_of_input refused ≡ fault_of_limit limit → ⊥
past_by (inputs.Line k) limits.Spent e = cc
past_by (inputs.Line k) limits.Kept e = cc
past_by (inputs.Large w) limits.Spent e = cc
past_by (inputs.Large w) limits.Kept e = cc
past_by inputs.NoMemory limits.Spent e = cc
past_by inputs.NoMemory limits.Kept e = cc

pub not_past : (refused : InputFault) (fault : RunFault) (made : Made) (limit : Limit) → fault ≡ fault_of_input refused → made ≡ Err fault → made ≡ Err (fault_of_limit limit) → ⊥
unfolding err_made
not_past refused fault made limit is made_is same = past_by refused limit (sym is ∙ same_fault fault (fault_of_limit limit) (sym made_is ∙ same))

-- a fault of the file is none of a table
pub no_table : (refused : InputFault) (fault : RunFault) (made : Made) (why : TableFault) → fault ≡ fault_of_input refused → made ≡ Err fault → made ≡ Err (BadTable why) → ⊥
unfolding err_made
no_table (inputs.Line k) fault made why is made_is same = let e : BadInput k ≡ BadTable why = sym is ∙ same_fault fault (BadTable why) (sym made_is ∙ same) in cc
no_table (inputs.Large w) fault made why is made_is same = let e : TooLarge w ≡ BadTable why = sym is ∙ same_fault fault (BadTable why) (sym made_is ∙ same) in cc
no_table inputs.NoMemory fault made why is made_is same = let e : NoMemory ≡ BadTable why = sym is ∙ same_fault fault (BadTable why) (sym made_is ∙ same) in cc

module _ (command : LoopCommand) (bytes : List ℕ) where
  -- a refusal is what the bytes call for, or of memory
  abbrev pub IsRefused : InputFault → Type 0
  IsRefused refused = command.calls_for bytes (Err refused) ⊎ (refused ≡ inputs.NoMemory)

  faulty_by : (refused : InputFault) (line : ℕ) → IsRefused refused → fault_of_input refused ≡ BadInput line → command.calls_for bytes (Err (inputs.Line line))
  faulty_by (inputs.Line k) line (inl calls) e = subst (λ (n : ℕ). command.calls_for bytes (Err (inputs.Line n))) (let same : k ≡ line = cc in same) calls
  faulty_by (inputs.Line k) line (inr none) e = absurd (cc)
  faulty_by (inputs.Large what) line calls e = absurd (cc)
  faulty_by inputs.NoMemory line calls e = absurd (cc)

  large_by : (refused : InputFault) (what : What) → IsRefused refused → fault_of_input refused ≡ TooLarge what → command.calls_for bytes (Err (inputs.Large what))
  large_by (inputs.Large w) what (inl calls) e = subst (λ (x : What). command.calls_for bytes (Err (inputs.Large x))) (let same : w ≡ what = cc in same) calls
  large_by (inputs.Large w) what (inr none) e = absurd (cc)
  large_by (inputs.Line k) what calls e = absurd (cc)
  large_by inputs.NoMemory what calls e = absurd (cc)

  pub is_faulty : (refused : InputFault) (fault : RunFault) (made : Made) (line : ℕ) → IsRefused refused → fault ≡ fault_of_input refused → made ≡ Err fault → made ≡ Err (BadInput line) → command.calls_for bytes (Err (inputs.Line line))
  unfolding err_made
  is_faulty refused fault made line told is made_is same = faulty_by refused line told (sym is ∙ same_fault fault (BadInput line) (sym made_is ∙ same))

  pub is_large : (refused : InputFault) (fault : RunFault) (made : Made) (what : What) → IsRefused refused → fault ≡ fault_of_input refused → made ≡ Err fault → made ≡ Err (TooLarge what) → command.calls_for bytes (Err (inputs.Large what))
  unfolding err_made
  is_large refused fault made what told is made_is same = large_by refused what told (sym is ∙ same_fault fault (TooLarge what) (sym made_is ∙ same))

  -- the report on what was read is that of the file
  pub is_reported : (options : RunOptions) (tables : GateTables) (input : command.Input) (made : Made) → command.calls_for bytes (Ok input) → IfOk made (λ text. IsReportOf options tables (command.loop input) text.items)
      → IfOk made (λ text. IsReportOn command options tables bytes text.items)
  is_reported options tables input (Ok text) read report = record { input = input; is_read = read; is_report = report }
  is_reported options tables input (Err fault) read report = tt

  -- from what a reader tells of its answer
  module _ {A : Type 0} (answer_of : Result A InputFault → Result command.Input InputFault) where
    abbrev pub Told : Result A InputFault → Type 0
    Told r = (r ≡ Err inputs.NoMemory) ⊎ command.calls_for bytes (answer_of r)

    pub is_read : (r : Result A InputFault) (a : A) (input : command.Input) → r ≡ Ok a → answer_of (Ok a) ≡ Ok input → Told r → command.calls_for bytes (Ok input)
    is_read r a input e is (inl none) = absurd (let f : Ok a ≡ Err inputs.NoMemory = sym e ∙ none in cc)
    is_read r a input e is (inr calls) = subst (command.calls_for bytes) is (subst (λ (x : Result A InputFault). command.calls_for bytes (answer_of x)) e calls)

    pub is_refused : (r : Result A InputFault) (refused : InputFault) → r ≡ Err refused → answer_of (Err refused) ≡ Err refused → Told r → IsRefused refused
    is_refused r refused e is (inl none) = inr (let f : Err refused ≡ Err inputs.NoMemory = sym e ∙ none in let same : refused ≡ inputs.NoMemory = cc in same)
    is_refused r refused e is (inr calls) = inl (subst (command.calls_for bytes) is (subst (λ (x : Result A InputFault). command.calls_for bytes (answer_of x)) e calls))
