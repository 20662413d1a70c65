-- What bodies keep, and what serial runs keep.
use Rattle.std.proofs.Common.{◌≡◌, ℕ, Bool, true, false, if◌then◌else◌, Some, List, [], ◌∷◌, refl, sym, ap, subst, ◌∙◌}
use Rattle.std.specs.Prelude.{◌==◌}
use Rattle.gx_base.specs.declared.calls.Call.{Call as CallOf}
use Rattle.gx_base.specs.declared.calls.Reply.{Reply}
use Rattle.gx_base.specs.declared.items.Item.{Item}
use Rattle.gx_base.specs.Plans.{Plan, Call, Push, Done, Operator}
use Rattle.gx_base.specs.Outcomes.{after_step}
use Rattle.gx_base.specs.Replays.{put}
use Rattle.gx_base.specs.SerialIterations.{Ran, body, Ended, ready_after, serial}
use Rattle.gx_base.specs.States.{State}
use Rattle.gx_base.specs.Steps.{next_state, reply_to}
use Rattle.gx_base.proofs.CallerLemmas.{kind-next_state}
use Rattle.gx_base.proofs.serial.Prefixes.{FirstTurn, first_turn, some_same}
use Rattle.cluster_laws.proofs.Counts.{numbers_equal}

-- ---- bodies

kind_put : (states : ℕ → State) (room : ℕ) (s : State) (other : ℕ) (b : Bool) → (room == other) ≡ b → s.kind ≡ (states room).kind → (if b then s else states other).kind ≡ (states other).kind
kind_put states room s other true e k = k ∙ ap (λ (r : ℕ). (states r).kind) (numbers_equal room other e)
kind_put states room s other false e k = refl

-- a room's kind
pub body-kind : (plan : Plan) (states : ℕ → State) (room : ℕ) → ((body plan states).states room).kind ≡ (states room).kind
unfolding body
body-kind (Call at call goes_on) states room =
    body-kind (goes_on (reply_to (states at) call)) (put states at (next_state (states at) call)) room
    ∙ kind_put states at (next_state (states at) call) room (at == room) refl (kind-next_state (states at) call)
body-kind (Push item plan) states room = body-kind plan states room
body-kind Done states room = refl

-- nothing is withdrawn
pub body-withdraws_nothing : (plan : Plan) (states : ℕ → State) → (body plan states).outcome.withdrawn ≡ []
unfolding body
body-withdraws_nothing (Call at call goes_on) states = body-withdraws_nothing (goes_on (reply_to (states at) call)) (put states at (next_state (states at) call))
body-withdraws_nothing (Push item plan) states = body-withdraws_nothing plan states
body-withdraws_nothing Done states = refl

put_by : (states : ℕ → State) (room other : ℕ) (b : Bool) → (room == other) ≡ b → (if b then states room else states other) ≡ states other
put_by states room other true e = ap states (numbers_equal room other e)
put_by states room other false e = refl

pub put_back : (states : ℕ → State) (room : ℕ) → put states room (states room) ≡ states
put_back states room = λ i other. put_by states room other (room == other) refl i

-- two plans push the same items and leave the same states
abbrev pub Same : Plan → Plan → (ℕ → State) → Type 0
Same plan other states = ((body plan states).states ≡ (body other states).states) × ((body plan states).outcome.pushes ≡ (body other states).outcome.pushes)

pub same_then : (one two three : Plan) (states : ℕ → State) → Same one two states → Same two three states → Same one three states
same_then one two three states e f = (e.0 ∙ f.0, e.1 ∙ f.1)

-- a call that leaves its room's state
pub looked : (room : ℕ) (call : CallOf) (goes_on : Reply → Plan) (states : ℕ → State) (reply : Reply) → next_state (states room) call ≡ states room → reply_to (states room) call ≡ reply
    → Same (Call room call goes_on) (goes_on reply) states
unfolding body
looked room call goes_on states reply stays replied =
    let back : put states room (next_state (states room) call) ≡ states = ap (put states room) stays ∙ put_back states room in
    ((λ i. (body (goes_on (replied i)) (back i)).states), (λ i. (body (goes_on (replied i)) (back i)).outcome.pushes))

-- what follows a call decides
pub call_same : (room : ℕ) (call : CallOf) (f g : Reply → Plan) (states : ℕ → State)
    → body (f (reply_to (states room) call)) (put states room (next_state (states room) call)) ≡ body (g (reply_to (states room) call)) (put states room (next_state (states room) call))
    → body (Call room call f) states ≡ body (Call room call g) states
unfolding body
call_same room call f g states h =
    ap (λ (rest : Ran). record { outcome = after_step (record { room = room; call = call; reply = reply_to (states room) call }) rest.outcome; states = rest.states }) h

-- ---- serial runs

-- what each commit keeps holds at the end
pub kept : (op : Operator) (Holds : (ℕ → State) → List Item → Type 0)
    → ((item : Item) (states : ℕ → State) (ready : List Item) → Holds states ready → Holds (body (op.plan item) states).states (ready_after ready item (body (op.plan item) states).outcome))
    → (order : List Item) (states : ℕ → State) (ready : List Item) (ended : Ended) → Holds states ready → serial op states ready order ≡ Some ended → Holds ended.states ended.ready
unfolding serial
kept op Holds step [] states ready ended h e = subst (λ (x : Ended). Holds x.states x.ready) (some_same e) h
kept op Holds step (item ∷ order) states ready ended h e =
    let ran : Ran = body (op.plan item) states in
    let f : FirstTurn op states ready item order ended = first_turn op states ready item order ended e in
    subst (λ (x : Ended). Holds x.states x.ready) (sym f.end) (kept op Holds step order ran.states (ready_after ready item ran.outcome) f.rest (step item states ready h) f.goes_on)
