-- What tables of conditions mean, and which are valid.
use Rattle.std.specs.Prelude.{◌≡◌, ℕ, ℤ, Bool, true, false, ◌&&◌, ◌||◌}
use Rattle.gx_base.specs.declared.calls.Call.{Call}
use Rattle.gx_base.specs.declared.calls.Made.{Made}
use Rattle.gx_base.specs.declared.calls.Seen.{Seen}
use Rattle.gx_base.specs.declared.conditions.Term.{Term}
use Rattle.gx_base.specs.declared.conditions.Term.TheVariants.{State as StateTerm}
use Rattle.gx_base.specs.Conditions.{Condition, True, False, Eq, Ne, Lt, Le, And, Or, Not, holds}
use Rattle.gx_base.specs.Methods.{is_method}
use Rattle.gx_base.specs.States.{State}
use Rattle.gx_base.specs.Steps.{next_state, reply_to, inverse, observed, IsState}
use Rattle.gx_base.specs.Meanings.{IsCall}

-- the condition of each pair of methods, of which the first ran first
abbrev pub Rows : Type 0
Rows = ℕ → ℕ → Condition

-- each row of a pair of methods that aren't both the kind's is false
abbrev pub KeepsToKind : ℕ → Rows → Type 0
KeepsToKind kind rows = (first second : ℕ) → (is_method kind first && is_method kind second) ≡ false → rows first second ≡ False

-- the call with the reply that it gets in s
abbrev pub made_in : State → Call → Made
made_in s c = record { call = c; reply = reply_to s c }

-- what the state function has in s at the first value of each call
abbrev pub seen_in : State → Call → Call → Seen
seen_in s a b = record { first = observed s a.a; second = observed s b.a }

-- the row of two calls, the first of them made in s and the second after it
abbrev pub row_holds : Rows → State → Call → Call → Bool
row_holds rows s a b = holds (rows a.method b.method) (made_in s a) (made_in (next_state s a) b) (seen_in s a b)

-- the term is a state function
abbrev pub term_uses_state : Term → Bool
term_uses_state (StateTerm side) = true
term_uses_state _ = false

-- a condition names a state function
abbrev pub uses_state : Condition → Bool
uses_state True = false
uses_state False = false
uses_state (Eq x y) = term_uses_state x || term_uses_state y
uses_state (Ne x y) = term_uses_state x || term_uses_state y
uses_state (Lt x y) = term_uses_state x || term_uses_state y
uses_state (Le x y) = term_uses_state x || term_uses_state y
uses_state (And x y) = uses_state x || uses_state y
uses_state (Or x y) = uses_state x || uses_state y
uses_state (Not x) = uses_state x

-- two calls may be swapped in s: the replies and the end state stay
pub record Swaps (s : State) (a b : Call) : Type 0 where
  pub second : reply_to s b ≡ reply_to (next_state s a) b
  pub first : reply_to (next_state s b) a ≡ reply_to s a
  pub end : next_state (next_state s b) a ≡ next_state (next_state s a) b

-- the state functions are alike in two states
abbrev pub SeesAlike : State → State → Type 0
SeesAlike s t = (x : ℤ) → observed s x ≡ observed t x

-- some row with this method first names a state function
abbrev pub LooksBack : Rows → ℕ → Type 0
LooksBack rows method = (other : ℕ) × (uses_state (rows method other) ≡ true)

-- wherever a row is true, its calls may be swapped, and what rows with these calls first see stays
pub record IsValid (kind : ℕ) (rows : Rows) : Type 0 where
  pub swaps : (s : State) (a b : Call) → s.kind ≡ kind → IsState s → IsCall a → IsCall b → row_holds rows s a b ≡ true → Swaps s a b
  pub sees_first : (s : State) (a b : Call) → s.kind ≡ kind → IsState s → IsCall a → IsCall b → row_holds rows s a b ≡ true → LooksBack rows a.method → SeesAlike s (next_state s b)
  pub sees_second : (s : State) (a b : Call) → s.kind ≡ kind → IsState s → IsCall a → IsCall b → row_holds rows s a b ≡ true → LooksBack rows b.method → SeesAlike s (next_state s a)

-- whatever the rows say, the inverse of a call gives the state before it
pub record IsUndone (s : State) (a : Call) : Type 0 where
  pub undone : inverse (next_state s a) a (reply_to s a) ≡ s
