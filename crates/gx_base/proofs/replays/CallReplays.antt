-- Replays of the calls of one room.
use Rattle.std.specs.Prelude.{◌≡◌, List, [], ◌∷◌, ◌++◌, refl}
use Rattle.std.proofs.Common.{sym, ◌∙◌, ap, subst}
use Rattle.gx_base.specs.declared.calls.Made.{Made}
use Rattle.gx_base.specs.States.{State}
use Rattle.gx_base.specs.Steps.{next_state, inverse, IsState}
use Rattle.gx_base.proofs.object_kinds.KnownLaws.{undoes, next_state-IsState}
use Rattle.gx_base.specs.Replays.{after, Legal, start_of, AreCalls}

-- a replay determines its end
pub after-Legal : (s t : State) (mades : List Made) → Legal s mades t → after s mades ≡ t
after-Legal s t [] l = l
after-Legal s t (made ∷ mades) l = after-Legal (next_state s made.call) t mades l.1

-- the start of a replay is what the inverses of its calls give
pub start_of-Legal : (s t : State) (mades : List Made) → IsState s → AreCalls mades → Legal s mades t → start_of t mades ≡ s
start_of-Legal s t [] h c l = sym l
start_of-Legal s t (made ∷ mades) h c l =
    ap (λ u. inverse u made.call made.reply) (start_of-Legal (next_state s made.call) t mades (next_state-IsState s made.call h c.0) c.1 l.1)
    ∙ ap (inverse (next_state s made.call) made.call) (sym l.0) ∙ undoes s made.call h c.0

-- the call that was last is taken back first
pub start_of-append : (t : State) (mades : List Made) (made : Made) → start_of t (mades ++ made ∷ []) ≡ start_of (inverse t made.call made.reply) mades
start_of-append t [] made = refl
start_of-append t (x ∷ mades) made = ap (λ u. inverse u x.call x.reply) (start_of-append t mades made)

-- a replay splits at each prefix
pub Legal-split : (s t : State) (xs ys : List Made) → Legal s (xs ++ ys) t → Legal s xs (after s xs) × Legal (after s xs) ys t
Legal-split s t [] ys l = (refl, l)
Legal-split s t (x ∷ xs) ys l =
    let rest : Legal (next_state s x.call) xs (after (next_state s x.call) xs) × Legal (after (next_state s x.call) xs) ys t = Legal-split (next_state s x.call) t xs ys l.1 in
    ((l.0, rest.0), rest.1)

-- replays join where the first ends
pub Legal-append : (s m t : State) (xs ys : List Made) → Legal s xs m → Legal m ys t → Legal s (xs ++ ys) t
Legal-append s m t [] ys k l = subst (λ u. Legal u ys t) (sym k) l
Legal-append s m t (x ∷ xs) ys k l = (k.0, Legal-append (next_state s x.call) m t xs ys k.1 l)
