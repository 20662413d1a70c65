-- What methods that use one number do, as those of cells and of flow shards.
use Rattle.std.specs.Prelude.{ℕ, pos}
use Rattle.std.specs.Int.{w64, int_wrapping_add, int_wrapping_sub}
use Rattle.gx_base.specs.declared.calls.Call.{Call}
use Rattle.gx_base.specs.declared.calls.Reply.{Reply}
use Rattle.gx_base.specs.States.{State, number_at, with_number}
use Rattle.gx_base.specs.Meanings.{Meaning, number_reply, nothing_seen}

-- what a method does with the number in a row
pub data Deed : Type 0 where
  Reads : Deed
  Adds : Deed
  Sets : Deed

-- which rows a method uses, and how
pub data Use : Type 0 where
  Nothing : Use
  On : (sort : ℕ) (deed : Deed) → Use

-- the state after a call
abbrev pub next_by : Use → State → Call → State
next_by Nothing s c = s
next_by (On sort Reads) s c = s
next_by (On sort Adds) s c = with_number s (sort, c.a) (int_wrapping_add w64 (number_at s (sort, c.a)) c.b)
next_by (On sort Sets) s c = with_number s (sort, c.a) c.b

-- what the call replies: the number before it, or 0 where it adds
abbrev pub reply_by : Use → State → Call → Reply
reply_by Nothing s c = number_reply (pos 0)
reply_by (On sort Reads) s c = number_reply (number_at s (sort, c.a))
reply_by (On sort Adds) s c = number_reply (pos 0)
reply_by (On sort Sets) s c = number_reply (number_at s (sort, c.a))

-- the state before a call that made this reply
abbrev pub inverse_by : Use → State → Call → Reply → State
inverse_by Nothing s c r = s
inverse_by (On sort Reads) s c r = s
inverse_by (On sort Adds) s c r = with_number s (sort, c.a) (int_wrapping_sub w64 (number_at s (sort, c.a)) c.b)
inverse_by (On sort Sets) s c r = with_number s (sort, c.a) r.p

-- the meaning of a kind whose methods use numbers in this way
abbrev pub register_meaning : (ℕ → Use) → Meaning
register_meaning use_of = record {
  next = λ s c. next_by (use_of c.method) s c;
  reply = λ s c. reply_by (use_of c.method) s c;
  inverse = λ s c r. inverse_by (use_of c.method) s c r;
  observed = nothing_seen;
}
