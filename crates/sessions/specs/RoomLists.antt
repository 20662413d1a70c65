-- Lists of rooms, and the steps that are in them.
use Rattle.std.specs.Prelude.{◌≡◌, ℕ, ◌<◌, ◌≤◌, ⊤, Bool, false, ◌||◌, ◌==◌, if◌then◌else◌, Option, Some, None, List, [], ◌∷◌, length, filter}
use Rattle.std.specs.List.{insert}
use Rattle.std.specs.Ordering.{nat_cmp}
use Rattle.std.specs.BTreeSet.{insert_key}
use Rattle.gx_base.specs.declared.acts.Step.{Step}

abbrev pub is_room_among : List ℕ → ℕ → Bool
is_room_among [] room = false
is_room_among (x ∷ xs) room = (x == room) || is_room_among xs room

-- the rooms of some steps, each once, by rising number
abbrev pub rooms_of : List Step → List ℕ
rooms_of [] = []
rooms_of (step ∷ steps) = insert_key nat_cmp (rooms_of steps) step.room

-- the part of some steps in these rooms
abbrev pub steps_in : List ℕ → List Step → List Step
steps_in rooms steps = filter (λ (step : Step). is_room_among rooms step.room) steps

-- the rooms before this one in a list, and it with those after it
abbrev pub before : List ℕ → ℕ → List ℕ
before [] room = []
before (x ∷ xs) room = if x == room then [] else x ∷ before xs room

abbrev pub on_from : List ℕ → ℕ → List ℕ
on_from [] room = []
on_from (x ∷ xs) room = if x == room then x ∷ xs else on_from xs room

abbrev pub rooms_after_first : List ℕ → List ℕ
rooms_after_first [] = []
rooms_after_first (x ∷ xs) = xs

-- with the room put there, the rooms are those with it. None where they are so already
abbrev pub IsPlaceFor : List ℕ → ℕ → Option ℕ → Type 0
IsPlaceFor rooms room None = insert_key nat_cmp rooms room ≡ rooms
IsPlaceFor rooms room (Some place) = (place ≤ length rooms) × (insert_key nat_cmp rooms room ≡ insert rooms place room)

-- ---- rising numbers

-- each is greater than this one
abbrev pub AreAbove : ℕ → List ℕ → Type 0
AreAbove x [] = ⊤
AreAbove x (y ∷ ys) = (x < y) × AreAbove x ys

abbrev pub AreRoomsRising : List ℕ → Type 0
AreRoomsRising [] = ⊤
AreRoomsRising (x ∷ xs) = AreAbove x xs × AreRoomsRising xs

-- each is below this one
abbrev pub AreRoomsBelow : ℕ → List ℕ → Type 0
AreRoomsBelow n [] = ⊤
AreRoomsBelow n (x ∷ xs) = (x < n) × AreRoomsBelow n xs
