-- What a method that is none of the kind's does.
use Rattle.std.specs.Prelude.{◌≡◌, pos}
use Rattle.gx_base.specs.declared.calls.Call.{Call}
use Rattle.gx_base.specs.declared.calls.Reply.{Reply}
use Rattle.gx_base.specs.States.{State}
use Rattle.gx_base.specs.Meanings.{number_reply}
use Rattle.gx_base.specs.Steps.{next_state, reply_to, inverse}

-- the call leaves the state, replies four zeros, and has nothing to undo
pub record ChangesNothing (s : State) (c : Call) : Type 0 where
  pub next : next_state s c ≡ s
  pub reply : reply_to s c ≡ number_reply (pos 0)
  pub undone : (r : Reply) → inverse s c r ≡ s
