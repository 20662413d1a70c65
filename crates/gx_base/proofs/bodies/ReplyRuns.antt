-- A body that is run by replies alone is the body on the states from which these replies are right.
use Rattle.std.specs.Prelude.{◌≡◌, ℕ, Option, Some, None, List, [], ◌∷◌, ◌++◌, refl}
use Rattle.std.proofs.Common.{sym, ◌∙◌, ap, subst, append_assoc}
use Rattle.std.proofs.lemmas.List.{append-nil}
use Rattle.gx_base.specs.declared.calls.Call.{Call as CallOf}
use Rattle.gx_base.specs.declared.calls.Reply.{Reply}
use Rattle.gx_base.specs.declared.items.Item.{Item}
use Rattle.gx_base.specs.declared.acts.Step.{Step}
use Rattle.gx_base.specs.declared.acts.Act.TheVariants as acts
use Rattle.gx_base.specs.States.{State}
use Rattle.gx_base.specs.Steps.{next_state, reply_to}
use Rattle.gx_base.specs.Plans.{Plan, Call, Push, Done, Follows}
use Rattle.gx_base.specs.Replays.{put, Replays}
use Rattle.gx_base.specs.SerialIterations.{Ran, body}
use Rattle.gx_base.specs.BodyRuns.{then_step, RunsTo, begun, called, pushed}
use Rattle.gx_base.proofs.replays.RoomReplays.{Replays-split}

-- ---- what is done, before what is left

-- with these steps and pushes before all others
abbrev pub after_all : List Step → List Item → Ran → Ran
after_all steps pushes ran = record {
  outcome = record { steps = steps ++ ran.outcome.steps; pushes = pushes ++ ran.outcome.pushes; withdrawn = ran.outcome.withdrawn };
  states = ran.states;
}

after_all-both : (xs ys : List Step) (ps qs : List Item) (ran : Ran) → after_all xs ps (after_all ys qs ran) ≡ after_all (xs ++ ys) (ps ++ qs) ran
after_all-both xs ys ps qs ran = λ i. record {
  outcome = record {
    steps = sym (append_assoc xs ys ran.outcome.steps) i;
    pushes = sym (append_assoc ps qs ran.outcome.pushes) i;
    withdrawn = ran.outcome.withdrawn;
  };
  states = ran.states;
}

-- a call in the states where its reply is right
body-Call : (room : ℕ) (call : CallOf) (goes_on : Reply → Plan) (reply : Reply) (states ends : ℕ → State) → reply_to (states room) call ≡ reply → put states room (next_state (states room) call) ≡ ends
    → body (Call room call goes_on) states ≡ after_all (then_step [] room call reply) [] (body (goes_on reply) ends)
unfolding body
body-Call room call goes_on reply states ends r e = λ i. after_all (then_step [] room call (r i)) [] (body (goes_on (r i)) (e i))

body-Push : (item : Item) (rest : Plan) (states : ℕ → State) → body (Push item rest) states ≡ after_all [] (item ∷ []) (body rest states)
unfolding body
body-Push item rest states = refl

-- where the steps of a run so far replay, the body has made them, and does what is left from the states where they end
pub body-RunsTo : {plan left : Plan} {steps : List Step} {pushes : List Item} → RunsTo plan steps pushes left → (states ends : ℕ → State) → Replays states steps ends → body plan states ≡ after_all steps pushes (body left ends)
body-RunsTo {plan} begun states ends r = ap (body plan) r
body-RunsTo (called steps pushes room call goes_on reply run) states ends r =
    let s : (between : ℕ → State) × Replays states steps between × Replays between (then_step [] room call reply) ends = Replays-split states ends steps (then_step [] room call reply) r in
    body-RunsTo run states s.0 s.1
    ∙ ap (after_all steps pushes) (body-Call room call goes_on reply s.0 ends s.2.0 s.2.1)
    ∙ after_all-both steps (then_step [] room call reply) pushes [] (body (goes_on reply) ends)
    ∙ ap (λ items. after_all (then_step steps room call reply) items (body (goes_on reply) ends)) (append-nil pushes)
body-RunsTo (pushed steps pushes item rest run) states ends r =
    body-RunsTo run states ends r
    ∙ ap (after_all steps pushes) (body-Push item rest ends)
    ∙ after_all-both steps [] pushes (item ∷ []) (body rest ends)
    ∙ ap (λ made. after_all made (pushes ++ item ∷ []) (body rest ends)) (append-nil steps)

nothing_left : (steps : List Step) (pushes : List Item) (ends : ℕ → State) → after_all steps pushes (body Done ends) ≡ record { outcome = record { steps = steps; pushes = pushes; withdrawn = [] }; states = ends }
unfolding body
nothing_left steps pushes ends = λ i. record { outcome = record { steps = append-nil steps i; pushes = append-nil pushes i; withdrawn = [] }; states = ends }

-- where the steps of a whole run replay, they are those of the body
pub body-whole : (plan : Plan) (steps : List Step) (pushes : List Item) (states ends : ℕ → State) → RunsTo plan steps pushes Done → Replays states steps ends
    → body plan states ≡ record { outcome = record { steps = steps; pushes = pushes; withdrawn = [] }; states = ends }
body-whole plan steps pushes states ends run r = body-RunsTo run states ends r ∙ nothing_left steps pushes ends

-- ---- the body's own run

-- a run so far goes on as the body of the plan that is left
runs_on : (plan left : Plan) (steps : List Step) (pushes : List Item) (states : ℕ → State) → RunsTo plan steps pushes left → RunsTo plan (steps ++ (body left states).outcome.steps) (pushes ++ (body left states).outcome.pushes) Done
unfolding body
runs_on plan (Call room call goes_on) steps pushes states run =
    let reply = reply_to (states room) call in
    let after = put states room (next_state (states room) call) in
    subst (λ (made : List Step). RunsTo plan made (pushes ++ (body (goes_on reply) after).outcome.pushes) Done) (append_assoc steps (then_step [] room call reply) (body (goes_on reply) after).outcome.steps)
    (runs_on plan (goes_on reply) (then_step steps room call reply) pushes after (called steps pushes room call goes_on reply run))
runs_on plan (Push item rest) steps pushes states run =
    subst (λ (items : List Item). RunsTo plan (steps ++ (body rest states).outcome.steps) items Done) (append_assoc pushes (item ∷ []) (body rest states).outcome.pushes)
    (runs_on plan rest steps (pushes ++ item ∷ []) states (pushed steps pushes item rest run))
runs_on plan Done steps pushes states run =
    subst (λ (made : List Step). RunsTo plan made (pushes ++ []) Done) (sym (append-nil steps)) (subst (λ (items : List Item). RunsTo plan steps items Done) (sym (append-nil pushes)) run)

-- the body of a plan is a run of it
pub RunsTo-body : (plan : Plan) (states : ℕ → State) → RunsTo plan (body plan states).outcome.steps (body plan states).outcome.pushes Done
RunsTo-body plan states = runs_on plan plan [] [] states begun

-- ---- one more act

-- a call that follows, with its reply
pub RunsTo-call : (plan rest : Plan) (left : Option Reply → Plan) (steps : List Step) (pushes : List Item) (room : ℕ) (call : CallOf) (reply : Reply)
    → RunsTo plan steps pushes rest → Follows rest (acts.Call room call) left → RunsTo plan (then_step steps room call reply) pushes (left (Some reply))
RunsTo-call plan (Call r c goes_on) left steps pushes room call reply run f =
    let e : acts.Call room call ≡ acts.Call r c = f.0 in
    let p : room ≡ r = cc in
    let q : call ≡ c = cc in
    subst (λ rest. RunsTo plan (then_step steps room call reply) pushes rest) (sym (f.1 reply))
    (subst (λ k. RunsTo plan (then_step steps k call reply) pushes (goes_on reply)) (sym p)
    (subst (λ k. RunsTo plan (then_step steps r k reply) pushes (goes_on reply)) (sym q) (called steps pushes r c goes_on reply run)))
RunsTo-call plan (Push item rest) left steps pushes room call reply run f = let e : acts.Call room call ≡ acts.Push item = f.0 in absurd (cc)
RunsTo-call plan Done left steps pushes room call reply run f = let e : acts.Call room call ≡ acts.Done = f in absurd (cc)

-- a push that follows
pub RunsTo-push : (plan rest : Plan) (left : Option Reply → Plan) (steps : List Step) (pushes : List Item) (item : Item) → RunsTo plan steps pushes rest → Follows rest (acts.Push item) left → RunsTo plan steps (pushes ++ item ∷ []) (left None)
RunsTo-push plan (Call r c goes_on) left steps pushes item run f = let e : acts.Push item ≡ acts.Call r c = f.0 in absurd (cc)
RunsTo-push plan (Push x q) left steps pushes item run f =
    let e : acts.Push item ≡ acts.Push x = f.0 in
    let p : item ≡ x = cc in
    subst (λ rest. RunsTo plan steps (pushes ++ item ∷ []) rest) (sym f.1) (subst (λ k. RunsTo plan steps (pushes ++ k ∷ []) q) (sym p) (pushed steps pushes x q run))
RunsTo-push plan Done left steps pushes item run f = let e : acts.Push item ≡ acts.Done = f in absurd (cc)

-- no act is left where the end follows
pub RunsTo-done : (plan rest : Plan) (left : Option Reply → Plan) (steps : List Step) (pushes : List Item) → RunsTo plan steps pushes rest → Follows rest acts.Done left → RunsTo plan steps pushes Done
RunsTo-done plan (Call r c goes_on) left steps pushes run f = let e : acts.Done ≡ acts.Call r c = f.0 in absurd (cc)
RunsTo-done plan (Push x q) left steps pushes run f = let e : acts.Done ≡ acts.Push x = f.0 in absurd (cc)
RunsTo-done plan Done left steps pushes run f = run
