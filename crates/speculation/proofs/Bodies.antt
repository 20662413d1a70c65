-- Where a body comes to without a call, it is still its operator's.
use Rattle.std.specs.Prelude.{◌≡◌, List, [], ◌∷◌, ◌++◌, ⊤, refl}
use Rattle.gx_base.specs.declared.items.Item.{Item}
use Rattle.gx_base.specs.Meanings.{IsCall}
use Rattle.gx_base.specs.Plans.{Plan, Call, Push, Done}
use Rattle.gx_base.specs.BodyRuns.{pushed}
use Rattle.gx_base.specs.SerialRuns.{IsRunOf}
use Rattle.speculation.specs.Sessions.{Session, Running, Finished, Ahead, Asks, Ends, ahead}
use Rattle.speculation.specs.Premises.{IsNextCall}
use Rattle.speculation.proofs.Sound.{IsSoFar}

-- two sessions are of one iteration, and have made the same calls
pub record Same (s t : Session) : Type 0 where
  pub iter : s.iter ≡ t.iter
  pub item : s.item ≡ t.item
  pub steps : s.outcome.steps ≡ t.outcome.steps

abbrev pub ComesTo : Plan → Session → Ahead → Type 0
ComesTo plan s (Asks t room call goes_on) = IsSoFar plan t.outcome (Call room call goes_on) × (t.phase ≡ Running (Call room call goes_on)) × Same s t
ComesTo plan s (Ends t) = IsRunOf plan t.outcome × (t.phase ≡ Finished) × Same s t

pub comes_to : (whole : Plan) (s : Session) (plan : Plan) (pushes : List Item) → IsSoFar whole (record s.outcome { pushes = pushes }) plan → ComesTo whole s (ahead s plan pushes)
comes_to whole s (Call room call goes_on) pushes h = (h, refl, record { iter = refl; item = refl; steps = refl })
comes_to whole s (Push item rest) pushes h = comes_to whole s rest (pushes ++ item ∷ []) (record { runs = pushed s.outcome.steps pushes item rest h.runs; withdraws_nothing = h.withdraws_nothing })
comes_to whole s Done pushes h = (record { whole = h.runs; withdraws_nothing = h.withdraws_nothing }, refl, record { iter = refl; item = refl; steps = refl })

-- the call that comes next has numbers of 64 bits
abbrev pub IsAskedCall : Ahead → Type 0
IsAskedCall (Asks t room call goes_on) = IsCall call
IsAskedCall (Ends t) = ⊤

pub next_is_asked : (s : Session) (plan : Plan) (pushes : List Item) → IsNextCall plan → IsAskedCall (ahead s plan pushes)
next_is_asked s (Call room call goes_on) pushes h = h
next_is_asked s (Push item rest) pushes h = next_is_asked s rest (pushes ++ item ∷ []) h
next_is_asked s Done pushes h = tt
