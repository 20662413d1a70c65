-- From the making of a report and its writing to the status.
use Rattle.std.proofs.Common.{◌≡◌, ◌≢◌, inl, inr, ℕ, true, List, Option, Some, None, IfSome, IsSomeAnd, Result, Ok, Err, Vec, refl, ap, subst, arith}
use Rattle.std.specs.Global.{Global}
use Rattle.gx_base.specs.declared.inputs.What.{What}
use Rattle.run_commands.specs.declared.run_faults.RunFault.{RunFault}
use Rattle.run_commands.specs.declared.run_faults.RunFault.TheVariants.{BadTable, BadInput, TooLarge, Spent, Kept, NoMemory}
use Rattle.galois_run.specs.declared.status.Status.{Status}
use Rattle.run_commands.specs.declared.run_faults.TableFault.{TableFault}
use Rattle.galois_run.specs.declared.status.Status.TheVariants as statuses
use Rattle.run_words.specs.declared.words.Command.{Command}
use Rattle.run_commands.specs.CommandMeanings.{meaning_by}
use Rattle.run_commands.specs.Inputs.{Inputs, IsWithinLength, IsTooLong, AreWithinLength, HasTooLong}
use Rattle.run_commands.specs.CommandMeaning.{CommandMeaning}
use Rattle.speculation.specs.Limits.{Limit}
use Rattle.speculation.specs.Limits as limits
use Rattle.run_words.specs.declared.options.RunOptions.{RunOptions}
use Rattle.run_commands.specs.RunFaults.{fault_of_limit, FaultsWhere, FaultAnswers}
use Rattle.galois_run.specs.FaultStatuses.{status_of_fault}
use Rattle.galois_run.specs.RunTurns.{ComesWhere, PassesLimit, status_of_limit, IsCaused, IsAnswer, Completes, writes}
use Rattle.run_commands.proofs.CallerLemmas.{conditions_fault_is_told, line_is_told, limit_is_told, runs_on, no_bad_table, no_line, no_large, no_past}

-- ---- where a report is made, there is no cause for a refusal

short_or_long : (file : Option (List ℕ)) → IfSome file IsWithinLength → IsSomeAnd file IsTooLong → ⊥
short_or_long None within long = long
short_or_long (Some bytes) within long = omega (arith, within, long)

not_too_long : (inputs : Inputs) → AreWithinLength inputs → HasTooLong inputs → ⊥
not_too_long inputs within (inl main) = short_or_long inputs.main within.main main
not_too_long inputs within (inr (inl conditions)) = short_or_long inputs.conditions within.conditions conditions
not_too_long inputs within (inr (inr second)) = short_or_long inputs.second within.second second

never : {cause : Type 0} (is status : Status) → status ≢ is → (cause → ⊥) → ComesWhere cause is status
never is status other none = record { only = λ e. absurd (other e); always = λ h. absurd (none h) }

no_fault : {A cause : Type 0} (fault : RunFault) (text : A) → FaultsWhere cause fault (Ok text) → cause → ⊥
no_fault fault text exact h = elim (exact.always h) [ inl e ↦ absurd (cc) | inr e ↦ absurd (cc) ]

not_too_large : (meaning : CommandMeaning) (inputs : Inputs) (what : What) → AreWithinLength inputs → (meaning.too_large inputs what → ⊥) → PassesLimit meaning inputs what → ⊥
not_too_large meaning inputs what within small (inl passed) = not_too_long inputs within passed.1
not_too_large meaning inputs what within small (inr passed) = small passed.1

not_ok : (limit : Limit) → statuses.Ok ≢ status_of_limit limit
not_ok limits.Spent e = cc
not_ok limits.Kept e = cc

not_write_fault : (limit : Limit) → statuses.WriteFault ≢ status_of_limit limit
not_write_fault limits.Spent e = cc
not_write_fault limits.Kept e = cc

report_caused : (command : Command) (options : RunOptions) (inputs : Inputs) (text : Vec ℕ Global) → AreWithinLength inputs → FaultAnswers (meaning_by command options) inputs (Ok text) → IsCaused (meaning_by command options) inputs statuses.Ok
report_caused command options inputs text within answers = record {
  too_large = λ what. never _ _ (λ e. cc) (not_too_large (meaning_by command options) inputs what within (no_fault _ text (answers.too_large what)));
  bad_table = λ why. never _ _ (λ e. cc) (λ m. no_fault _ text (answers.bad_table why) m.1);
  bad_input = λ line. never _ _ (λ e. cc) (λ m. no_fault _ text (answers.malformed line) m.1);
  past = λ limit. never _ _ (not_ok limit) (λ m. no_fault (fault_of_limit limit) text (answers.passes limit) m.1);
}

-- what holds of the inputs that were read holds of those that the files hold, where that is told
at_inputs : (held : Option Inputs) (read : Inputs) (P : Inputs → Type 0) → IfSome held (λ inputs. read ≡ inputs) → P read → IfSome held P
at_inputs None read P same h = tt
at_inputs (Some inputs) read P same h = subst P same h

pub report_by_held : (command : Command) (options : RunOptions) (held : Option Inputs) (read : Inputs) (text : Vec ℕ Global) → IfSome held (λ inputs. read ≡ inputs) → AreWithinLength read
    → FaultAnswers (meaning_by command options) read (Ok text) → IfSome held (λ inputs. IsCaused (meaning_by command options) inputs statuses.Ok)
report_by_held command options held read text same within answers = at_inputs held read _ same (report_caused command options read text within answers)

-- ---- where none is made, there is a cause for the refusal

same_fault : (told fault : RunFault) → status_of_fault told ≡ status_of_fault fault → told ≡ fault
same_fault (BadTable v) (BadTable why) e = ap BadTable (let same : v ≡ why = cc in same)
same_fault (BadTable v) (BadInput line) e = absurd (cc)
same_fault (BadTable v) (TooLarge what) e = absurd (cc)
same_fault (BadTable v) Spent e = absurd (cc)
same_fault (BadTable v) Kept e = absurd (cc)
same_fault (BadTable v) NoMemory e = absurd (cc)
same_fault (BadInput k) (BadTable why) e = absurd (cc)
same_fault (BadInput k) (BadInput line) e = ap BadInput (let same : k ≡ line = cc in same)
same_fault (BadInput k) (TooLarge what) e = absurd (cc)
same_fault (BadInput k) Spent e = absurd (cc)
same_fault (BadInput k) Kept e = absurd (cc)
same_fault (BadInput k) NoMemory e = absurd (cc)
same_fault (TooLarge w) (BadTable why) e = absurd (cc)
same_fault (TooLarge w) (BadInput line) e = absurd (cc)
same_fault (TooLarge w) (TooLarge what) e = ap TooLarge (let same : w ≡ what = cc in same)
same_fault (TooLarge w) Spent e = absurd (cc)
same_fault (TooLarge w) Kept e = absurd (cc)
same_fault (TooLarge w) NoMemory e = absurd (cc)
same_fault Spent (BadTable why) e = absurd (cc)
same_fault Spent (BadInput line) e = absurd (cc)
same_fault Spent (TooLarge what) e = absurd (cc)
same_fault Spent Spent e = refl
same_fault Spent Kept e = absurd (cc)
same_fault Spent NoMemory e = absurd (cc)
same_fault Kept (BadTable why) e = absurd (cc)
same_fault Kept (BadInput line) e = absurd (cc)
same_fault Kept (TooLarge what) e = absurd (cc)
same_fault Kept Spent e = absurd (cc)
same_fault Kept Kept e = refl
same_fault Kept NoMemory e = absurd (cc)
same_fault NoMemory (BadTable why) e = absurd (cc)
same_fault NoMemory (BadInput line) e = absurd (cc)
same_fault NoMemory (TooLarge what) e = absurd (cc)
same_fault NoMemory Spent e = absurd (cc)
same_fault NoMemory Kept e = absurd (cc)
same_fault NoMemory NoMemory e = refl

status_by : {A : Type 0} (told fault : RunFault) (result : Result A RunFault) → result ≡ Err told → result ≡ Err fault → status_of_fault told ≡ status_of_fault fault
status_by told fault result d e = ap status_of_fault (let same : told ≡ fault = cc in same)

answer_by : {A : Type 0} (told fault : RunFault) (result : Result A RunFault) → result ≡ Err told → told ≡ fault → result ≡ Err fault
answer_by told fault result d e = cc

comes : {A cause wide : Type 0} (told fault : RunFault) (result : Result A RunFault) → result ≡ Err told → (wide → cause) → (cause → wide) → FaultsWhere cause fault result → ComesWhere wide (status_of_fault fault) (status_of_fault told)
comes told fault result is down up exact = record {
  only = λ e. up (exact.only (answer_by told fault result is (same_fault told fault e)));
  always = λ h. elim (exact.always (down h)) [ inl e ↦ inl (status_by told fault result is e) | inr e ↦ inr (inr (status_by told NoMemory result is e)) ];
}

past_limit : (meaning : CommandMeaning) (inputs : Inputs) (what : What) → AreWithinLength inputs → PassesLimit meaning inputs what → meaning.too_large inputs what
past_limit meaning inputs what within (inl passed) = absurd (not_too_long inputs within passed.1)
past_limit meaning inputs what within (inr passed) = passed.1

refusal_past : (meaning : CommandMeaning) (inputs : Inputs) (told : RunFault) (result : Result (Vec ℕ Global) RunFault) (limit : Limit) → result ≡ Err told → AreWithinLength inputs
    → FaultsWhere (meaning.passes inputs limit) (fault_of_limit limit) result → ComesWhere (AreWithinLength inputs × meaning.passes inputs limit) (status_of_limit limit) (status_of_fault told)
refusal_past meaning inputs told result limits.Spent is within exact = comes told Spent result is (λ m. m.1) (λ m. (within, m)) exact
refusal_past meaning inputs told result limits.Kept is within exact = comes told Kept result is (λ m. m.1) (λ m. (within, m)) exact

refusal_caused : (command : Command) (options : RunOptions) (inputs : Inputs) (told : RunFault) (result : Result (Vec ℕ Global) RunFault) → result ≡ Err told → AreWithinLength inputs → FaultAnswers (meaning_by command options) inputs result → IsCaused (meaning_by command options) inputs (status_of_fault told)
refusal_caused command options inputs told result is within answers = record {
  too_large = λ what. comes told (TooLarge what) result is (past_limit (meaning_by command options) inputs what within) (λ l. inr (within, l)) (answers.too_large what);
  bad_table = λ why. comes told (BadTable why) result is (λ m. m.1) (λ m. (within, m)) (answers.bad_table why);
  bad_input = λ line. comes told (BadInput line) result is (λ m. m.1) (λ m. (within, m)) (answers.malformed line);
  past = λ limit. refusal_past (meaning_by command options) inputs told result limit is within (answers.passes limit);
}

pub refusal_by_held : (command : Command) (options : RunOptions) (held : Option Inputs) (read : Inputs) (told : RunFault) → IfSome held (λ inputs. read ≡ inputs) → AreWithinLength read
    → FaultAnswers (meaning_by command options) read (Err told) → IfSome held (λ inputs. IsCaused (meaning_by command options) inputs (status_of_fault told))
refusal_by_held command options held read told same within answers = at_inputs held read _ same (refusal_caused command options read told (Err told) refl within answers)

-- ---- nor is there one where it is written

no_cause : {cause : Type 0} (is : Status) → statuses.Ok ≢ is → ComesWhere cause is statuses.Ok → cause → ⊥
no_cause is other comes h = elim (comes.always h) [ inl e ↦ absurd (other e) | inr up ↦ elim up [ inl e ↦ absurd (cc) | inr e ↦ absurd (cc) ] ]

cut_caused : (meaning : CommandMeaning) (inputs : Inputs) → IsCaused meaning inputs statuses.Ok → IsCaused meaning inputs statuses.WriteFault
cut_caused meaning inputs caused = record {
  too_large = λ what. never _ _ (λ e. cc) (no_cause _ (λ e. cc) (caused.too_large what));
  bad_table = λ why. never _ _ (λ e. cc) (no_cause _ (λ e. cc) (caused.bad_table why));
  bad_input = λ line. never _ _ (λ e. cc) (no_cause _ (λ e. cc) (caused.bad_input line));
  past = λ limit. never _ _ (not_write_fault limit) (no_cause _ (not_ok limit) (caused.past limit));
}

written_caused : (meaning : CommandMeaning) (inputs : Inputs) (status : Status) → writes status ≡ true → IsCaused meaning inputs statuses.Ok → IsCaused meaning inputs status
written_caused meaning inputs statuses.Ok w caused = caused
written_caused meaning inputs statuses.WriteFault w caused = cut_caused meaning inputs caused
written_caused meaning inputs statuses.Usage w caused = absurd (cc)
written_caused meaning inputs (statuses.BadInput line) w caused = absurd (cc)
written_caused meaning inputs statuses.ReadFault w caused = absurd (cc)
written_caused meaning inputs statuses.NoMemory w caused = absurd (cc)
written_caused meaning inputs (statuses.TooLarge what) w caused = absurd (cc)
written_caused meaning inputs statuses.Spent w caused = absurd (cc)
written_caused meaning inputs statuses.Kept w caused = absurd (cc)
written_caused meaning inputs (statuses.BadTable why) w caused = absurd (cc)

pub written_by_held : (meaning : CommandMeaning) (held : Option Inputs) (status : Status) → writes status ≡ true → IfSome held (λ inputs. IsCaused meaning inputs statuses.Ok)
    → IfSome held (λ inputs. IsCaused meaning inputs status)
written_by_held meaning None status w caused = tt
written_by_held meaning (Some inputs) status w caused = written_caused meaning inputs status w caused

-- ---- what is told, whatever the files tell

pub fault_told : (command : Command) (options : RunOptions) (inputs : Inputs) (fault : RunFault) → FaultAnswers (meaning_by command options) inputs (Err fault) → IsAnswer (meaning_by command options) (status_of_fault fault)
fault_told command options inputs (BadTable why) answers = conditions_fault_is_told command options inputs why ((answers.bad_table why).only refl)
fault_told command options inputs (BadInput line) answers = line_is_told command options inputs line ((answers.malformed line).only refl)
fault_told command options inputs (TooLarge what) answers = inr (limit_is_told command options inputs what ((answers.too_large what).only refl))
fault_told command options inputs Spent answers = runs_on command options inputs limits.Spent ((answers.passes limits.Spent).only refl)
fault_told command options inputs Kept answers = runs_on command options inputs limits.Kept ((answers.passes limits.Kept).only refl)
fault_told command options inputs NoMemory answers = tt

-- ---- where nothing is wrong with the inputs, none of these is told

completes : (command : Command) (options : RunOptions) (inputs : Inputs) (status : Status) → status ≢ statuses.Usage → IsCaused (meaning_by command options) inputs status
    → IsAnswer (meaning_by command options) status → Completes (meaning_by command options) inputs status
completes command options inputs statuses.Ok u caused answer w e = inl refl
completes command options inputs statuses.Usage u caused answer w e = absurd (u refl)
completes command options inputs (statuses.BadInput line) u caused answer w e = absurd (no_line command options inputs line e ((caused.bad_input line).only refl).1)
completes command options inputs statuses.ReadFault u caused answer w e = inr (inr (inl refl))
completes command options inputs statuses.WriteFault u caused answer w e = inr (inl refl)
completes command options inputs statuses.NoMemory u caused answer w e = inr (inr (inr refl))
completes command options inputs (statuses.TooLarge what) u caused answer w e =
    absurd (not_too_large (meaning_by command options) inputs what w (λ l. no_large command options inputs what e l) ((caused.too_large what).only refl))
completes command options inputs statuses.Spent u caused answer w e = absurd (no_past command options inputs limits.Spent e ((caused.past limits.Spent).only refl).1)
completes command options inputs statuses.Kept u caused answer w e = absurd (no_past command options inputs limits.Kept e ((caused.past limits.Kept).only refl).1)
completes command options inputs (statuses.BadTable why) u caused answer w e = absurd (no_bad_table command options inputs why e ((caused.bad_table why).only refl).1)

pub completes_by_held : (command : Command) (options : RunOptions) (held : Option Inputs) (status : Status) → status ≢ statuses.Usage → IfSome held (λ inputs. IsCaused (meaning_by command options) inputs status)
    → IsAnswer (meaning_by command options) status → IfSome held (λ inputs. Completes (meaning_by command options) inputs status)
completes_by_held command options None status u caused answer = tt
completes_by_held command options (Some inputs) status u caused answer = completes command options inputs status u caused answer
