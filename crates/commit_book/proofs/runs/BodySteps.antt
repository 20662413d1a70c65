-- A body on plain objects, one act at a time: a run of its plan by replies whose steps replay.
use Rattle.std.specs.Prelude.{◌≡◌, ℕ, Option, Some, None, List, [], ◌∷◌, ◌++◌, refl}
use Rattle.std.proofs.Common.{sym, ◌∙◌, ap, subst}
use Rattle.gx_base.specs.declared.calls.Call.{Call as CallOf}
use Rattle.gx_base.specs.declared.calls.Reply.{Reply}
use Rattle.gx_base.specs.declared.items.Item.{Item}
use Rattle.gx_base.specs.declared.acts.Step.{Step}
use Rattle.gx_base.specs.declared.acts.Act.TheVariants as acts
use Rattle.gx_base.specs.States.{State}
use Rattle.gx_base.specs.Steps.{next_state, reply_to}
use Rattle.gx_base.specs.Plans.{Plan, Follows}
use Rattle.gx_base.specs.Replays.{put, Replays}
use Rattle.gx_base.specs.BodyRuns.{RunsTo, begun}
use Rattle.gx_base.specs.SerialIterations.{body}
use Rattle.gx_base.proofs.CallerLemmas.{body-whole, RunsTo-call, RunsTo-push, RunsTo-done, Replays-append}

-- these steps and pushes of a plan are done, which led from some states to others, and the rest is to be done
pub record IsUnderWay (plan rest : Plan) (before now : ℕ → State) (steps : List Step) (pushes : List Item) : Type 0 where
  pub run : RunsTo plan steps pushes rest
  pub replays : Replays before steps now

pub begins : (plan rest : Plan) (before : ℕ → State) (steps : List Step) (pushes : List Item) → rest ≡ plan → steps ≡ [] → pushes ≡ [] → IsUnderWay plan rest before before steps pushes
begins plan rest before steps pushes e s p = record {
  run = subst (λ (xs : List Step). RunsTo plan xs pushes rest) (sym s) (subst (λ (xs : List Item). RunsTo plan [] xs rest) (sym p) (subst (λ (left : Plan). RunsTo plan [] [] left) (sym e) begun));
  replays = subst (λ (xs : List Step). Replays before xs before) (sym s) refl;
}

-- the next act is a call
pub calls : (plan rest : Plan) (left : Option Reply → Plan) (before now next : ℕ → State) (steps more : List Step) (pushes : List Item) (room : ℕ) (call : CallOf) (reply : Reply) (s t : State) → IsUnderWay plan rest before now steps pushes
    → Follows rest (acts.Call room call) left → now room ≡ s → reply ≡ reply_to s call → t ≡ next_state s call → next ≡ put now room t
    → more ≡ steps ++ record { room = room; call = call; reply = reply } ∷ [] → IsUnderWay plan (left (Some reply)) before next more pushes
calls plan rest left before now next steps more pushes room call reply s t u f a r e n m =
    let replied : reply_to (now room) call ≡ reply = ap (λ (x : State). reply_to x call) a ∙ sym r in
    let led : put now room (next_state (now room) call) ≡ next = ap (put now room) (ap (λ (x : State). next_state x call) a ∙ sym e) ∙ sym n in
    record {
      run = subst (λ (xs : List Step). RunsTo plan xs pushes (left (Some reply))) (sym m) (RunsTo-call plan rest left steps pushes room call reply u.run f);
      replays = subst (λ (xs : List Step). Replays before xs next) (sym m) (Replays-append before now next steps (record { room = room; call = call; reply = reply } ∷ []) u.replays (replied, led));
    }

-- the next act is a push
pub push : (plan rest : Plan) (left : Option Reply → Plan) (before now : ℕ → State) (steps : List Step) (pushes more : List Item) (item : Item) → IsUnderWay plan rest before now steps pushes → Follows rest (acts.Push item) left
    → more ≡ pushes ++ item ∷ [] → IsUnderWay plan (left None) before now steps more
push plan rest left before now steps pushes more item u f m = record {
  run = subst (λ (xs : List Item). RunsTo plan steps xs (left None)) (sym m) (RunsTo-push plan rest left steps pushes item u.run f);
  replays = u.replays;
}

-- the body is at its end
pub ends : (plan rest : Plan) (left : Option Reply → Plan) (before now : ℕ → State) (steps : List Step) (pushes : List Item) → IsUnderWay plan rest before now steps pushes → Follows rest acts.Done left
    → body plan before ≡ record { outcome = record { steps = steps; pushes = pushes; withdrawn = [] }; states = now }
ends plan rest left before now steps pushes u f = body-whole plan steps pushes before now (RunsTo-done plan rest left steps pushes u.run f) u.replays
