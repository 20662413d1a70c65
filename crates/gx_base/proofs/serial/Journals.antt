-- The journal of a serial run replays, and commits of runs whose journal replays are a serial run.
use Rattle.std.specs.Prelude.{◌≡◌, ℕ, true, if◌then◌else◌, Some, None, List, [], ◌∷◌, ◌++◌, refl}
use Rattle.std.proofs.Common.{sym, ◌∙◌, ap, subst}
use Rattle.gx_base.specs.declared.items.Item.{Item}
use Rattle.gx_base.specs.States.{State}
use Rattle.gx_base.specs.Plans.{Operator}
use Rattle.gx_base.specs.Replays.{Replays}
use Rattle.gx_base.specs.Outcomes.{Outcome, WholeCommit, order_of, outcomes_of, journal}
use Rattle.gx_base.specs.SerialIterations.{Ran, body, Ended, may_commit, ready_after, with_first, serial}
use Rattle.gx_base.specs.SerialRuns.{IsSerialRun, AreInTurn, IsRunOf, AreRunsOf}
use Rattle.gx_base.proofs.replays.RoomReplays.{Replays-split, Replays-append}
use Rattle.gx_base.proofs.bodies.BodyReplays.{body-Replays}
use Rattle.gx_base.proofs.bodies.ReplyRuns.{body-whole}
use Rattle.gx_base.proofs.serial.Prefixes.{FirstTurn, first_turn, some_same}

-- ---- the journal replays

pub IsSerialRun-Replays : (op : Operator) (states : ℕ → State) (ready : List Item) (commits : List WholeCommit) (ended : Ended) → IsSerialRun op states ready commits ended → Replays states (journal commits) ended.states
unfolding serial
IsSerialRun-Replays op states ready [] ended run = ap (λ (x : Ended). x.states) (some_same run.in_turn)
IsSerialRun-Replays op states ready (c ∷ cs) ended run =
    let ran : Ran = body (op.plan c.item) states in
    let f : FirstTurn op states ready c.item (order_of cs) ended = first_turn op states ready c.item (order_of cs) ended run.in_turn in
    let all : c.outcome ∷ outcomes_of cs ≡ ran.outcome ∷ f.rest.outcomes = run.recorded ∙ ap (λ (x : Ended). x.outcomes) f.end in
    let here : c.outcome ≡ ran.outcome = cc in
    let later : outcomes_of cs ≡ f.rest.outcomes = cc in
    let first : Replays states c.outcome.steps ran.states = subst (λ (o : Outcome). Replays states o.steps ran.states) (sym here) (body-Replays (op.plan c.item) states) in
    let rest : Replays ran.states (journal cs) f.rest.states = IsSerialRun-Replays op ran.states (ready_after ready c.item ran.outcome) cs f.rest (record { in_turn = f.goes_on; recorded = later }) in
    subst (λ (e : Ended). Replays states (c.outcome.steps ++ journal cs) e.states) (sym f.end) (Replays-append states ran.states f.rest.states c.outcome.steps (journal cs) first rest)

-- ---- what makes a serial run

-- a run of a body whose steps replay is the body
ran_by : (op : Operator) (item : Item) (o : Outcome) (states between : ℕ → State) → IsRunOf (op.plan item) o → Replays states o.steps between → body (op.plan item) states ≡ record { outcome = o; states = between }
ran_by op item o states between h r =
    body-whole (op.plan item) o.steps o.pushes states between h.whole r ∙ (λ i. record { outcome = record { steps = o.steps; pushes = o.pushes; withdrawn = sym h.withdraws_nothing i }; states = between })

-- an item that may commit commits, and the rest of the order goes on after its body
pub turn_of : (op : Operator) (states : ℕ → State) (ready : List Item) (item : Item) (order : List Item) (ran : Ran) (rest : Ended) → body (op.plan item) states ≡ ran → may_commit op.ordered ready item ≡ true
    → serial op ran.states (ready_after ready item ran.outcome) order ≡ Some rest → serial op states ready (item ∷ order) ≡ Some (record rest { outcomes = ran.outcome ∷ rest.outcomes })
unfolding serial
turn_of op states ready item order ran rest b m s =
    (λ i. if m i then with_first (b i).outcome (serial op (b i).states (ready_after ready item (b i).outcome) order) else None) ∙ ap (with_first ran.outcome) s

in_turn_by : (op : Operator) (states ends : ℕ → State) (ready left : List Item) (commits : List WholeCommit) → AreInTurn op.ordered ready commits left → AreRunsOf op commits → Replays states (journal commits) ends
    → serial op states ready (order_of commits) ≡ Some (record { states = ends; ready = left; outcomes = outcomes_of commits })
unfolding serial
in_turn_by op states ends ready left [] t h r = λ i. Some (record { states = r i; ready = t i; outcomes = [] })
in_turn_by op states ends ready left (c ∷ cs) t h r =
    let s : (between : ℕ → State) × Replays states c.outcome.steps between × Replays between (journal cs) ends = Replays-split states ends c.outcome.steps (journal cs) r in
    turn_of op states ready c.item (order_of cs) (record { outcome = c.outcome; states = s.0 }) _ (ran_by op c.item c.outcome states s.0 h.0 s.1) t.0
    (in_turn_by op s.0 ends (ready_after ready c.item c.outcome) left cs t.1 h.1 s.2)

-- commits in turn, each of a run of its body, whose journal replays, are a serial run
pub IsSerialRun-runs : (op : Operator) (states ends : ℕ → State) (ready left : List Item) (commits : List WholeCommit) → AreInTurn op.ordered ready commits left → AreRunsOf op commits → Replays states (journal commits) ends
    → IsSerialRun op states ready commits (record { states = ends; ready = left; outcomes = outcomes_of commits })
IsSerialRun-runs op states ends ready left commits t h r = record { in_turn = in_turn_by op states ends ready left commits t h r; recorded = refl }
