-- What the laws of whole runs ask: a machine before its first turn, and calls whose numbers have 64 bits, as those of code have.
use Rattle.std.specs.Prelude.{◌≡◌, ℕ, zero, suc, true, false, List, [], ◌∷◌, ⊤}
use Rattle.gx_base.specs.declared.items.Item.{Item}
use Rattle.gx_base.specs.Meanings.{IsCall}
use Rattle.gx_base.specs.Outcomes.{nothing_done}
use Rattle.gx_base.specs.Plans.{Plan, Call, Push, Done, Operator}
use Rattle.gx_base.specs.Worklists.{is_least}
use Rattle.gate_core.specs.Views.{GateView, IsLawfulGate}
use Rattle.speculation.specs.Sessions.{Phase, Idle, Running, Finished, Undoing}
use Rattle.speculation.specs.Machines.{Machine, turn_at, place_of, turn}
use Rattle.speculation.specs.ScheduledRuns.{is_empty, Run, begun, then_turned, drained}

-- a lawful gate without entries, and so with a valid table
pub record IsNewGate (g : GateView) : Type 0 where
  pub lawful : IsLawfulGate g
  pub no_done : g.done ≡ []
  pub no_live : g.live ≡ []

-- no item is before an earlier one
abbrev pub IsInOrder : List Item → Type 0
IsInOrder [] = ⊤
IsInOrder (x ∷ xs) = (is_least xs x ≡ true) × IsInOrder xs

-- new gates, a book in which nothing is held and nothing has committed, and idle workers
pub record IsNew (op : Operator) (m : Machine) : Type 0 where
  pub gates : (room : ℕ) → IsNewGate (m.gates room)
  pub ordered : m.book.ordered ≡ op.ordered
  pub in_order : IsInOrder m.book.ready
  pub no_holds : m.book.holds ≡ []
  pub no_commits : m.book.commits ≡ []
  pub idle : (worker : ℕ) → (m.sessions worker).phase ≡ Idle
  pub nothing_done : (worker : ℕ) → (m.sessions worker).outcome ≡ nothing_done

-- the next call of a plan, where there is one, has numbers of 64 bits
abbrev pub IsNextCall : Plan → Type 0
IsNextCall (Call room call goes_on) = IsCall call
IsNextCall (Push item rest) = IsNextCall rest
IsNextCall Done = ⊤

abbrev pub AsksCall : Phase → Type 0
AsksCall Idle = ⊤
AsksCall (Running plan) = IsNextCall plan
AsksCall Finished = ⊤
AsksCall Undoing = ⊤

-- so has each call that the scheduled turns ask
abbrev pub ScheduledAsk : Operator → Run → List ℕ → Type 0
ScheduledAsk op r [] = ⊤
ScheduledAsk op r (worker ∷ schedule) =
    is_empty r.machine.book.ready ≡ false → AsksCall (r.machine.sessions worker).phase × ScheduledAsk op (then_turned r worker (turn_at op (place_of r.machine worker) worker)) schedule

-- and each one that worker 0 alone asks in so many turns
abbrev pub AloneAsk : Operator → Machine → ℕ → Type 0
AloneAsk op m zero = ⊤
AloneAsk op m (suc n) = is_empty m.book.ready ≡ false → AsksCall (m.sessions 0).phase × AloneAsk op (turn op m 0) n

-- each call that is asked in a whole run has numbers of 64 bits
abbrev pub AsksCalls : Operator → Machine → ℕ → List ℕ → ℕ → Type 0
AsksCalls op m workers schedule turns = ScheduledAsk op (begun m) schedule × AloneAsk op (drained op m workers schedule).machine turns
