-- What a set stands for.
use Rattle.std.specs.Prelude.{◌≡◌, ℤ, pos, Bool, true, false, IsTrue, if◌then◌else◌, refl}
use Rattle.std.proofs.Common.{sym, subst}
use Rattle.std.specs.FinMap as map
use Rattle.std.specs.Ordering.{int_eq}
use Rattle.gx_base.specs.declared.calls.Made.{Made}
use Rattle.gx_base.specs.declared.calls.Reply.{Reply}
use Rattle.gx_base.specs.declared.kinds.Kind.{Kind}
use Rattle.gx_base.specs.declared.kinds.Kind.TheVariants.{Set}
use Rattle.gx_base.specs.Kinds.{kind_number}
use Rattle.gx_base.specs.Methods.{is_method}
use Rattle.gx_base.specs.RowActions.{RowAction}
use Rattle.gx_base.specs.SetKind.{SetDeed, Add, Remove, Contains, Nothing, set_deed, set_action}
use Rattle.gx_base.specs.States.{State}
use Rattle.gx_base.specs.Steps.{IsState}
use Rattle.gx_base.proofs.CallerLemmas.{set_deed-foreign}
use Rattle.number_rows.specs.NumberRows.{number_rows_of}
use Rattle.shared_sets.specs.declared.marked_set.SharedSet.{SharedSet}
use Rattle.shared_sets.specs.SetRows.{set_rows, set_rows-IsMark}

-- the state of a set
abbrev pub set_state : SharedSet → State
set_state set = record { kind = kind_number Set; rows = set_rows (number_rows_of set.marks) }

-- the number has its row, be it present or not
abbrev pub has_mark : SharedSet → ℤ → Bool
has_mark set x = map.contains_key (number_rows_of set.marks) x

-- bringing a number in, or taking it out
abbrev pub turn_to : Bool → RowAction
turn_to present = if present then set_action Add else set_action Remove

-- a call that replied 1 changed its number's row
abbrev pub turned_room : Bool → Reply → Bool
turned_room there reply = if int_eq reply.p (pos 1) then there else true

abbrev pub room_in_set : SetDeed → Bool → Reply → Bool
room_in_set Add there reply = turned_room there reply
room_in_set Remove there reply = turned_room there reply
room_in_set Contains there reply = true
room_in_set Nothing there reply = true

-- a call that changed a row has it, so it is undone and done again in that row
abbrev pub has_set_room : SharedSet → Made → Bool
has_set_room set made = room_in_set (set_deed made.call.method) (has_mark set made.call.a) made.reply

abbrev pub holds_sets : Kind → Bool
holds_sets Set = true
holds_sets _ = false

-- What follows is what the object says of every value. It stands here since that takes nothing from this crate's proofs.

pub foreign-has_set_room : (set : SharedSet) (made : Made) → is_method (set_state set).kind made.call.method ≡ false → IsTrue (has_set_room set made)
foreign-has_set_room set made foreign = subst (λ d. IsTrue (room_in_set d (has_mark set made.call.a) made.reply)) (sym (set_deed-foreign made.call.method foreign)) refl

pub set_state-IsState : (set : SharedSet) → IsState (set_state set)
set_state-IsState set key = set_rows-IsMark (number_rows_of set.marks) key
