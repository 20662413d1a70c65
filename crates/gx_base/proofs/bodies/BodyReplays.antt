-- The steps of a body replay.
use Rattle.std.specs.Prelude.{ℕ, refl}
use Rattle.gx_base.specs.States.{State}
use Rattle.gx_base.specs.Steps.{next_state, reply_to}
use Rattle.gx_base.specs.Plans.{Plan, Call, Push, Done}
use Rattle.gx_base.specs.Replays.{put, Replays}
use Rattle.gx_base.specs.SerialIterations.{body}

-- the steps of a body are legal from the states that it begins in, and lead to those that it ends in
pub body-Replays : (plan : Plan) (states : ℕ → State) → Replays states (body plan states).outcome.steps (body plan states).states
unfolding body
body-Replays (Call room call goes_on) states = (refl, body-Replays (goes_on (reply_to (states room) call)) (put states room (next_state (states room) call)))
body-Replays (Push item plan) states = body-Replays plan states
body-Replays Done states = refl
