-- Lists of entries, as lists of calls with their replies.
use Rattle.std.specs.Prelude.{◌≡◌, ℕ, Bool, List, [], ◌∷◌, ◌++◌, filter, refl}
use Rattle.std.proofs.Common.{sym, ap, subst}
use Rattle.std.proofs.lemmas.List.{map-append}
use Rattle.gx_base.specs.declared.calls.Made.{Made}
use Rattle.gx_base.specs.declared.acts.Entry.{Entry}
use Rattle.gx_base.specs.States.{State}
use Rattle.gx_base.specs.Steps.{IsCall}
use Rattle.gx_base.specs.Replays as replays
use Rattle.gx_base.proofs.CallerLemmas.{Legal-append}
use Rattle.gate_core.specs.Entries.{made_of, mades_of, without_last, done_under, Each}
use Rattle.gate_core.specs.Replays.{LegalEntries, AllCalls}
use Rattle.gate_core.proofs.lists.EntryLists.{each_append, each_filter, each_without}

pub mades_of-append : (xs ys : List Entry) → mades_of (xs ++ ys) ≡ mades_of xs ++ mades_of ys
mades_of-append xs ys = map-append made_of xs ys

-- entries that are done under a number are the same calls
pub mades_of-under : (number : ℕ) (es : List Entry) → mades_of (done_under number es) ≡ mades_of es
mades_of-under number [] = refl
mades_of-under number (e ∷ es) = ap (λ mades. made_of e ∷ mades) (mades_of-under number es)

-- replays join where the first ends
pub legal_join : (s m t : State) (xs ys : List Entry) → LegalEntries s xs m → LegalEntries m ys t → LegalEntries s (xs ++ ys) t
legal_join s m t xs ys p q =
    subst (λ (mades : List Made). replays.Legal s mades t) (sym (mades_of-append xs ys)) (Legal-append s m t (mades_of xs) (mades_of ys) p q)

each_call : (es : List Entry) → AllCalls es → Each (λ e. IsCall e.call) es
each_call [] c = tt
each_call (e ∷ es) c = (c.0, each_call es c.1)

all_calls : (es : List Entry) → Each (λ e. IsCall e.call) es → AllCalls es
all_calls [] c = tt
all_calls (e ∷ es) c = (c.0, all_calls es c.1)

pub calls_append : (xs ys : List Entry) → AllCalls xs → AllCalls ys → AllCalls (xs ++ ys)
calls_append xs ys p q = all_calls (xs ++ ys) (each_append (λ e. IsCall e.call) xs ys (each_call xs p) (each_call ys q))

pub calls_filter : (test : Entry → Bool) (es : List Entry) → AllCalls es → AllCalls (filter test es)
calls_filter test es c = all_calls (filter test es) (each_filter (λ e. IsCall e.call) test es (each_call es c))

pub calls_without : (worker iter : ℕ) (es : List Entry) → AllCalls es → AllCalls (without_last worker iter es)
calls_without worker iter es c = all_calls (without_last worker iter es) (each_without (λ e. IsCall e.call) worker iter es (each_call es c))
