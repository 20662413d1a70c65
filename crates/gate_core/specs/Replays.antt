-- Replays of entries, and which entries may be live together.
use Rattle.std.specs.Prelude.{◌≡◌, ℕ, ◌+◌, Bool, true, ◌||◌, if◌then◌else◌, Option, Some, None, List, [], ◌∷◌, ◌++◌, slice_get, take, ⊤}
use Rattle.gx_base.specs.declared.calls.Seen.{Seen}
use Rattle.gx_base.specs.declared.conditions.Side.TheVariants.{First, Second}
use Rattle.gx_base.specs.Conditions.{Condition, holds}
use Rattle.gx_base.specs.Below.{names_state}
use Rattle.gx_base.specs.States.{State}
use Rattle.gx_base.specs.Steps.{next_state, observed, IsState}
use Rattle.gx_base.specs.Replays as replays
use Rattle.gx_base.specs.Tables.{Rows, LooksBack}
use Rattle.gx_base.specs.declared.acts.Entry.{Entry}
use Rattle.gate_core.specs.Entries.{Each, made_of, mades_of, same_iteration}

-- the state after the calls of entries
abbrev pub after : State → List Entry → State
after s es = replays.after s (mades_of es)

-- the calls of the entries replay from s to t, with their replies
abbrev pub LegalEntries : State → List Entry → State → Type 0
LegalEntries s es t = replays.Legal s (mades_of es) t

-- the state before entries that led to t
abbrev pub start_of : State → List Entry → State
start_of t es = replays.start_of t (mades_of es)

abbrev pub AllCalls : List Entry → Type 0
AllCalls es = replays.AreCalls (mades_of es)

abbrev pub seen_at : State → Entry → Entry → Seen
seen_at s e f = record { first = observed s e.call.a; second = observed s f.call.a }

-- an earlier entry, made in s, and a later one may both be live
abbrev pub pair_ok : Rows → State → Entry → Entry → Bool
pair_ok rows s e f = same_iteration e f || holds (rows e.call.method f.call.method) (made_of e) (made_of f) (seen_at s e f)

-- each two of the entries, of which the first was made in s, may be live together
abbrev pub PairsFit : Rows → State → List Entry → Type 0
PairsFit rows s [] = ⊤
PairsFit rows s (e ∷ es) = Each (λ f. pair_ok rows s e f ≡ true) es × PairsFit rows (next_state s e.call) es

-- what an entry made in s saw is right, where a row with its method first may use it
abbrev pub SawRight : Rows → State → Entry → Type 0
SawRight rows s e = LooksBack rows e.call.method → e.seen ≡ observed s e.call.a

-- so did each of the entries, of which the first was made in s
abbrev pub AllSawRight : Rows → State → List Entry → Type 0
AllSawRight rows s [] = ⊤
AllSawRight rows s (e ∷ es) = SawRight rows s e × AllSawRight rows (next_state s e.call) es

abbrev pub further : Option ℕ → Option ℕ
further None = None
further (Some place) = Some (place + 1)

-- the place of the first entry that may not be live with the asked one; the first of the entries was made in s
abbrev pub first_failing : Rows → State → List Entry → Entry → Option ℕ
first_failing rows s [] asked = None
first_failing rows s (e ∷ es) asked = if pair_ok rows s e asked then further (first_failing rows (next_state s e.call) es asked) else Some 0

-- the state functions are right, in s and at the first values of two calls, where the condition names them
pub record SeesRight (condition : Condition) (s : State) (held asked : Entry) (seen : Seen) : Type 0 where
  pub first : names_state First condition ≡ true → seen.first ≡ observed s held.call.a
  pub second : names_state Second condition ≡ true → seen.second ≡ observed s asked.call.a

-- what a search for the first such entry finds: its place, and what the condition there uses of the state
abbrev pub IsFirstFailing : Rows → State → List Entry → Entry → Option (ℕ × Seen) → Type 0
IsFirstFailing rows s live asked None = first_failing rows s live asked ≡ None
IsFirstFailing rows s live asked (Some found) =
    (first_failing rows s live asked ≡ Some found.0)
    × ((held : Entry) → slice_get live found.0 ≡ Some held → SeesRight (rows held.call.method asked.call.method) (after s (take found.0 live)) held asked found.1)

-- the live entries and then the asked one lead from the state before them to this one, and saw what was right there
pub record LeadTo (rows : Rows) (live : List Entry) (asked : Entry) (state : State) : Type 0 where
  pub stands : IsState (start_of state (live ++ asked ∷ []))
  pub calls : AllCalls (live ++ asked ∷ [])
  pub legal : LegalEntries (start_of state (live ++ asked ∷ [])) (live ++ asked ∷ []) state
  pub saw : AllSawRight rows (start_of state (live ++ asked ∷ [])) (live ++ asked ∷ [])

-- a state that an object of the kind may have
pub record Stands (kind : ℕ) (s : State) : Type 0 where
  pub of_kind : s.kind ≡ kind
  pub is_state : IsState s
