-- What the calls of a gate answer.
use Rattle.std.specs.Prelude.{◌≡◌, ℕ, ◌+◌, ◌≤◌, Bool, false, IsTrue, Option, Some, None, List, slice_get, length, take}
use Rattle.gx_base.specs.declared.calls.Call.{Call}
use Rattle.gx_base.specs.declared.calls.Reply.{Reply}
use Rattle.gx_base.specs.declared.calls.Made.{Made}
use Rattle.gx_base.specs.declared.items.Item.{Item}
use Rattle.gx_base.specs.declared.acts.Entry.{Entry}
use Rattle.gx_base.specs.TableRows.{RowMap}
use Rattle.gx_base.specs.Conditions.{holds}
use Rattle.gx_base.specs.States.{State}
use Rattle.gx_base.specs.Steps.{reply_to}
use Rattle.gx_base.specs.Tables.{Rows}
use Rattle.gate_core.specs.declared.refusals.Told.{Told}
use Rattle.gate_core.specs.declared.refusals.GateRefuse.{GateRefuse}
use Rattle.gate_core.specs.declared.refusals.GateRefuse.TheVariants.{Conflict, NoMemory}
use Rattle.gate_core.specs.Entries.{Each, made_of}
use Rattle.gate_core.specs.Replays.{after, first_failing, SeesRight}
use Rattle.gate_core.specs.Views.{GateView, IsLawfulGate, gate_rows, live_start, asked_entry, in_way, admit}

-- each of the entries can be undone, and done again, without memory
abbrev pub AllRoomed : (Made → Bool) → List Entry → Type 0
AllRoomed roomed es = Each (λ e. IsTrue (roomed (made_of e))) es

-- what holds of a gate between its calls: besides the law, that live calls can be undone, what its screen stands for and fits, and that there is room for all live entries among the done ones
pub record IsGate (g : GateView) (roomed : Made → Bool) (StandsFor : List Entry → Type 0) (Suits : ℕ → RowMap → Type 0) (capacity : ℕ) : Type 0 where
  pub lawful : IsLawfulGate g
  pub roomed_live : AllRoomed roomed g.live
  pub screened : StandsFor g.live
  pub suited : Suits g.kind g.table
  pub room : length g.done + length g.live ≤ capacity

-- no live entry was in the way of the call, and it was done
pub record IsAdmitted (old new : GateView) (worker iter : ℕ) (item : Item) (call : Call) (reply : Reply) : Type 0 where
  pub free : in_way old (asked_entry worker iter item call old.state) ≡ None
  pub replied : reply ≡ reply_to old.state call
  pub admitted : new ≡ admit old worker iter item call

-- the entry at a place is the first that may not be live with the asked one, and their row is false on what is told
pub record Tells (rows : Rows) (s : State) (live : List Entry) (asked : Entry) (told : Told) (place : ℕ) : Type 0 where
  pub first : first_failing rows s live asked ≡ Some place
  pub held : slice_get live place ≡ Some told.held
  pub asked_is : told.asked ≡ asked.call
  pub would_is : told.would ≡ asked.reply
  pub sees : SeesRight (rows told.held.call.method told.asked.method) (after s (take place live)) told.held asked told.seen
  pub refuses : holds (rows told.held.call.method told.asked.method) (made_of told.held) (record { call = told.asked; reply = told.would }) told.seen ≡ false

-- what is told of a call, if anything is in its way
abbrev pub TellsOf : Rows → State → List Entry → Entry → Option Told → Type 0
TellsOf rows s live asked None = first_failing rows s live asked ≡ None
TellsOf rows s live asked (Some told) = (place : ℕ) × Tells rows s live asked told place

-- nothing changed, and a conflict tells the first live entry that is in the way of the call
abbrev pub GateRefusalFits : GateView → GateView → ℕ → ℕ → Item → Call → GateRefuse → Type 0
GateRefusalFits old new worker iter item call (Conflict told) = TellsOf (gate_rows old) (live_start old) old.live (asked_entry worker iter item call old.state) (Some told) × (new ≡ old)
GateRefusalFits old new worker iter item call NoMemory = new ≡ old

-- the call and the reply of an entry
abbrev pub call_of : Option Entry → Option (Call × Reply)
call_of None = None
call_of (Some e) = Some (e.call, e.reply)
