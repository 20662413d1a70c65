-- What worked cases begin with.
use Rattle.std.specs.Prelude.{◌≡◌, ℕ, false, ◌==◌, List, [], ◌∷◌, ⊤}
use Rattle.gx_base.specs.Plans.{Operator}
use Rattle.gate_core.specs.Entries.{Each}
use Rattle.gate_core.specs.Views.{GateView}
use Rattle.rooms.specs.RoomsViews.{RoomsView, is_room_held}
use Rattle.rooms.specs.declared.values.Value.{Value}
use Rattle.rooms.specs.declared.values.Value.TheVariants.{Object, Book}
use Rattle.sessions.specs.Places.{IsFit}
use Rattle.iterate.specs.Plays.{AreNewFor}
use Rattle.sessions.specs.SessionViews.{begun_view}

-- nothing has committed in the gate, and worker 0 has no entry in it
pub record IsBegunGate (gate : GateView) : Type 0 where
  pub unmarked : gate.mark ≡ 0
  pub others : Each (λ e. (e.worker == 0) ≡ false) gate.live

-- worker 0 may begin in these rooms: two gates and a book that isn't ordered
abbrev pub MayBeginHere : {T S : Type 0} → RoomsView (Value T S) → Type 0
MayBeginHere rooms = (op : Operator) → op.rooms ≡ 2 → op.ordered ≡ false → IsFit op rooms (begun_view 0)

-- ---- whole runs

-- a gate without entries
pub record HasNoEntries (gate : GateView) : Type 0 where
  pub no_done : gate.done ≡ []
  pub no_live : gate.live ≡ []
  pub unmarked : gate.mark ≡ 0

abbrev pub AreNewGates : {T S : Type 0} → List (Value T S) → Type 0
AreNewGates [] = ⊤
AreNewGates (Object gate ∷ values) = HasNoEntries gate × AreNewGates values
AreNewGates (Book book ∷ values) = ⊥

-- a run of an operator with so many rooms may begin in these
pub record AreNewRooms {T S : Type 0} (count : ℕ) (rooms : RoomsView (Value T S)) : Type 0 where
  pub free : (room : ℕ) → is_room_held rooms room ≡ false
  pub new : (op : Operator) → op.rooms ≡ count → op.ordered ≡ false → AreNewFor op rooms.told
