-- What holds of the machine between any two turns.
use Rattle.std.specs.Prelude.{◌≡◌, ℕ, ◌≤◌, length, List, [], ⊤}
use Rattle.gx_base.specs.declared.items.Item.{Item}
use Rattle.gx_base.specs.declared.acts.Entry.{Entry}
use Rattle.gx_base.specs.declared.acts.Step.{Step}
use Rattle.gx_base.specs.States.{State}
use Rattle.gx_base.specs.Plans.{Plan, Operator}
use Rattle.gx_base.specs.BodyRuns.{RunsTo}
use Rattle.gx_base.specs.Outcomes.{Outcome, journal}
use Rattle.gx_base.specs.Replays.{part}
use Rattle.gx_base.specs.SerialRuns.{AreInTurn, IsRunOf, AreRunsOf}
use Rattle.gate_core.specs.Entries.{Each, mades_of, entries_of}
use Rattle.gate_core.specs.Views.{GateView, start, IsLawfulGate}
use Rattle.commit_book.specs.BookViews.{BookView}
use Rattle.speculation.specs.Sessions.{Session, Phase, Idle, Running, Finished, Undoing}
use Rattle.speculation.specs.Machines.{Machine}
use Rattle.speculation.proofs.IterationEntries.{IsCurrent}

-- a gate is lawful from its first state, and its committed entries are the steps of the journal in its room
pub record SoundGate (first : State) (room : ℕ) (steps : List Step) (g : GateView) : Type 0 where
  pub lawful : IsLawfulGate g
  pub begun : start g ≡ first
  pub past : mades_of g.done ≡ part room steps

-- a worker's uncommitted entries in a room are those of its present iteration, and are its steps there
pub record SoundLog (room worker iter : ℕ) (item : Item) (steps : List Step) (live : List Entry) : Type 0 where
  pub current : Each (IsCurrent worker iter item) live
  pub entries : mades_of (entries_of worker iter live) ≡ part room steps

-- the plan has done this so far, and another is left of it
pub record IsSoFar (plan : Plan) (o : Outcome) (rest : Plan) : Type 0 where
  pub runs : RunsTo plan o.steps o.pushes rest
  pub withdraws_nothing : o.withdrawn ≡ []

-- what a session did is what its operator does
abbrev pub SoundPhase : Operator → Item → Outcome → Phase → Type 0
SoundPhase op item o Idle = o.steps ≡ []
SoundPhase op item o (Running plan) = IsSoFar (op.plan item) o plan
SoundPhase op item o Finished = IsRunOf (op.plan item) o
SoundPhase op item o Undoing = ⊤

-- each item was in turn when it committed, what is ready now is what the commits left, and each commit is a run
pub record SoundBook (op : Operator) (first : List Item) (b : BookView) : Type 0 where
  pub ordered : b.ordered ≡ op.ordered
  pub in_turn : AreInTurn op.ordered first b.commits b.ready
  pub runs : AreRunsOf op b.commits

abbrev pub SoundLogOf : (room worker : ℕ) → Session → List Entry → Type 0
SoundLogOf room worker s live = SoundLog room worker s.iter s.item s.outcome.steps live

-- what is said of the gates holds by the claim that each call that was asked had numbers of 64 bits
pub record SoundMachine (claim : Type 0) (op : Operator) (starts : ℕ → State) (first : List Item) (m : Machine) : Type 0 where
  pub gates : claim → (room : ℕ) → SoundGate (starts room) room (journal m.book.commits) (m.gates room)
  pub logs : (room worker : ℕ) → SoundLogOf room worker (m.sessions worker) (m.gates room).live
  pub sessions : (worker : ℕ) → SoundPhase op (m.sessions worker).item (m.sessions worker).outcome (m.sessions worker).phase
  pub book : SoundBook op first m.book
  pub marks : (room : ℕ) → (m.gates room).mark ≤ length m.book.commits
