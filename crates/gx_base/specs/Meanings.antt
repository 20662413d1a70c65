-- What the calls of one kind of object do.
use Rattle.std.specs.Prelude.{ℤ, pos, FitsSigned}
use Rattle.std.specs.Int.{w64}
use Rattle.gx_base.specs.declared.calls.Call.{Call}
use Rattle.gx_base.specs.declared.calls.Reply.{Reply}
use Rattle.gx_base.specs.States.{State}

-- the state after a call, its reply, the state before a call that made this reply, and the state function
pub record Meaning : Type 0 where
  pub next : State → Call → State
  pub reply : State → Call → Reply
  pub inverse : State → Call → Reply → State
  pub observed : State → ℤ → ℤ

-- a reply of one number
abbrev pub number_reply : ℤ → Reply
number_reply x = record { p = x; q = pos 0; r = pos 0; s = pos 0 }

-- the state function of the kinds that have none
abbrev pub nothing_seen : State → ℤ → ℤ
nothing_seen s x = pos 0

-- a call has no effect on anything
abbrev pub no_meaning : Meaning
no_meaning = record { next = λ s c. s; reply = λ s c. number_reply (pos 0); inverse = λ s c r. s; observed = nothing_seen }

-- the numbers of a call fit in 64 bits
abbrev pub IsCall : Call → Type 0
IsCall c = FitsSigned w64 c.a × FitsSigned w64 c.b × FitsSigned w64 c.c × FitsSigned w64 c.d
