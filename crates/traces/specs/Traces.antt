-- The text of a trace, byte by byte: what each turn of a run of the speculative machine did.
use Rattle.std.specs.Prelude.{ℕ, Bool, if◌then◌else◌, List, [], ◌∷◌, ◌++◌, codes}
use Rattle.std.specs.Fmt.{decimal, signed_decimal}
use Rattle.std.specs.List.{flat_map}
use Rattle.gx_base.specs.declared.calls.Call.{Call as CallOf}
use Rattle.gx_base.specs.declared.calls.Reply.{Reply}
use Rattle.gx_base.specs.declared.items.Item.{Item}
use Rattle.gx_base.specs.declared.acts.Entry.{Entry}
use Rattle.gx_base.specs.Methods.{word_of}
use Rattle.line_writer.specs.Lines.{line}
use Rattle.speculation.specs.Events.{Event, Turn}
use Rattle.speculation.specs.Events as event

-- ---- fields

abbrev pub item_fields : Item → List (List ℕ)
item_fields item = signed_decimal item.k0 ∷ signed_decimal item.k1 ∷ signed_decimal item.k2 ∷ signed_decimal item.k3 ∷ []

abbrev pub argument_fields : CallOf → List (List ℕ)
argument_fields call = signed_decimal call.a ∷ signed_decimal call.b ∷ signed_decimal call.c ∷ signed_decimal call.d ∷ []

-- the method's word, and the arguments
abbrev pub call_fields : CallOf → List (List ℕ)
call_fields call = word_of call.method ∷ argument_fields call

abbrev pub reply_fields : Reply → List (List ℕ)
reply_fields reply = signed_decimal reply.p ∷ signed_decimal reply.q ∷ signed_decimal reply.r ∷ signed_decimal reply.s ∷ []

-- a call, an arrow, and what it replied
abbrev pub answered_fields : CallOf → Reply → List (List ℕ)
answered_fields call reply = call_fields call ++ codes "->" ∷ reply_fields reply

-- what a worker did in a turn: a word, and what the event tells
abbrev pub event_fields : Event → List (List ℕ)
event_fields (event.Take item) = codes "take" ∷ item_fields item
event_fields (event.Call room call reply) = codes "call" ∷ decimal room ∷ answered_fields call reply
event_fields (event.Conflict room held asked would) = codes "conflict" ∷ decimal room ∷ call_fields asked
event_fields (event.Undo room call) = codes "undo" ∷ decimal room ∷ call_fields call
event_fields (event.Commit number) = codes "commit" ∷ decimal number ∷ []
event_fields event.Wait = codes "wait" ∷ []
event_fields event.Drop = codes "drop" ∷ []
event_fields event.Idle = codes "idle" ∷ []
event_fields event.Busy = codes "busy" ∷ []

-- ---- lines

-- the number of a turn, its worker, and what that did
abbrev pub turn_line : Turn → List ℕ
turn_line turn = line (codes "t" ∷ decimal turn.number ∷ decimal turn.worker ∷ event_fields turn.event)

-- the number of a turn with a conflict; the worker, the iteration and the answered call of the entry that was in the way; and the
-- reply that the asked call would have had
abbrev pub told_line : ℕ → Entry → Reply → List ℕ
told_line number held would =
    line (codes "u" ∷ decimal number ∷ decimal held.worker ∷ decimal held.iter ∷ (answered_fields held.call held.reply ++ codes "would" ∷ reply_fields would))

-- a line for a turn with a conflict, and none for any other
abbrev pub told_text : ℕ → Event → List ℕ
told_text number (event.Take item) = []
told_text number (event.Call room call reply) = []
told_text number (event.Conflict room held asked would) = told_line number held would
told_text number (event.Undo room call) = []
told_text number (event.Commit commits) = []
told_text number event.Wait = []
told_text number event.Drop = []
told_text number event.Idle = []
told_text number event.Busy = []

-- ---- the text

-- which lines are wanted: that of each turn, and that which tells the conflict of a turn
pub record Wanted : Type 0 where
  pub turns : Bool
  pub told : Bool

abbrev pub if_wanted : Bool → List ℕ → List ℕ
if_wanted wanted text = if wanted then text else []

-- of each turn its own line, and then that which tells its conflict, as they are wanted
abbrev pub turn_text : Wanted → Turn → List ℕ
turn_text wanted turn = if_wanted wanted.turns (turn_line turn) ++ if_wanted wanted.told (told_text turn.number turn.event)

abbrev pub trace_text : Wanted → List Turn → List ℕ
trace_text wanted turns = flat_map (turn_text wanted) turns
