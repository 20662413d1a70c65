-- What rooms that threads share tell of their values, as plain data.
use Rattle.std.specs.Prelude.{◌≡◌, ◌⊎◌, ℕ, Bool, true, false, List, ◌++◌, refl}
use Rattle.std.proofs.Common.{inl, inr}
use Rattle.std.specs.Coded.{Coded, code_by, coded×, coded⊎, coded_ℕ, coded_bool, coded_list}
use Rattle.gx_base.specs.declared.items.Item.{Item}
use Rattle.gx_base.specs.declared.acts.Entry.{Entry}
use Rattle.gx_base.specs.States.{State, state_code}
use Rattle.gx_base.specs.TableRows.{RowMap, row_map_code}
use Rattle.gx_base.specs.Entries.{entry_code, mades_of, entries_by}
use Rattle.gx_base.specs.Outcomes.{item_code, WholeCommit, whole_commit_code}
use Rattle.gx_base.specs.Replays.{no_state, after, Legal}

-- what a value of a room began as: a gate by its start, the number of its kind and its table, a book by its first ready set
-- and whether it is ordered
pub data Origin : Type 0 where
  OfGate : (start : State) (kind : ℕ) (table : RowMap) → Origin
  OfBook : (ready : List Item) (ordered : Bool) → Origin

-- whether that was a book
abbrev pub is_book : Origin → Bool
is_book (OfGate start kind table) = false
is_book (OfBook ready ordered) = true

-- the state that a gate began with. A book has none, and counts as empty
abbrev pub first_state : Origin → State
first_state (OfGate start kind table) = start
first_state (OfBook ready ordered) = no_state

-- a value of a room. The live entries and the mark are a gate's; its past are the done entries with their numbers, and a
-- book's past are its commits
pub record RoomView : Type 0 where
  pub live : List Entry
  pub done : List Entry
  pub commits : List WholeCommit
  pub mark : ℕ
  pub origin : Origin

-- from the start, the past and then the live entries of one worker alone replay
abbrev pub ReplaysAlone : RoomView → ℕ → Type 0
ReplaysAlone view worker =
    let mades = mades_of (view.done ++ entries_by worker view.live) in
    Legal (first_state view.origin) mades (after (first_state view.origin) mades)

-- ---- how these are stored

-- the fields of an origin: of a gate's, or of a book's
abbrev pub OriginFields : Type 0
OriginFields = (State × (ℕ × RowMap)) ⊎ (List Item × Bool)

abbrev pub origin_fields : Origin → OriginFields
origin_fields (OfGate start kind table) = inl (start, (kind, table))
origin_fields (OfBook ready ordered) = inr (ready, ordered)

abbrev pub origin_with : OriginFields → Origin
origin_with (inl p) = OfGate p.0 p.1.0 p.1.1
origin_with (inr p) = OfBook p.0 p.1

pub origin_with-fields : (o : Origin) → origin_with (origin_fields o) ≡ o
origin_with-fields (OfGate start kind table) = refl
origin_with-fields (OfBook ready ordered) = refl

-- an origin is stored as its fields, and so is a view
abbrev pub origin_code : Coded Origin
origin_code = code_by OriginFields (coded⊎ (coded× state_code (coded× coded_ℕ row_map_code)) (coded× (coded_list item_code) coded_bool)) origin_fields origin_with origin_with-fields

abbrev pub room_view_code : Coded RoomView
room_view_code =
    code_by (List Entry × (List Entry × (List WholeCommit × (ℕ × Origin))))
    (coded× (coded_list entry_code) (coded× (coded_list entry_code) (coded× (coded_list whole_commit_code) (coded× coded_ℕ origin_code))))
    (λ v. (v.live, (v.done, (v.commits, (v.mark, v.origin)))))
    (λ p. record { live = p.0; done = p.1.0; commits = p.1.1.0; mark = p.1.1.1.0; origin = p.1.1.1.1 })
    (λ _. refl)
