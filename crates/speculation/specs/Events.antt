-- The events of the speculative machine.
use Rattle.std.specs.Prelude.{ℕ, List, [], ◌∷◌, ◌++◌, length}
use Rattle.gx_base.specs.declared.calls.Call.{Call as CallOf}
use Rattle.gx_base.specs.declared.calls.Reply.{Reply}
use Rattle.gx_base.specs.declared.items.Item.{Item}
use Rattle.gx_base.specs.declared.acts.Entry.{Entry}

-- what a worker does in a turn. A conflict tells the first uncommitted entry that is in the way of the call, and the reply that the
-- call would have had; a commit tells the number of commits before it
pub data Event : Type 0 where
  Take : (item : Item) → Event
  Idle : Event
  Call : (room : ℕ) (call : CallOf) (reply : Reply) → Event
  Conflict : (room : ℕ) (held : Entry) (call : CallOf) (would : Reply) → Event
  Commit : (number : ℕ) → Event
  Wait : Event
  Drop : Event
  Undo : (room : ℕ) (call : CallOf) → Event
  Busy : Event

-- a turn of a worker, numbered from 0
pub record Turn : Type 0 where
  pub number : ℕ
  pub worker : ℕ
  pub event : Event

-- the turns with one more
abbrev pub then_turn : List Turn → ℕ → Event → List Turn
then_turn turns worker event = turns ++ record { number = length turns; worker = worker; event = event } ∷ []
