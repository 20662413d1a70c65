-- Steps by the rooms that a commit has left.
use Rattle.std.specs.Prelude.{◌≡◌, ℕ, ◌<◌, ◌≤◌, Bool, true, false, ◌||◌, ◌==◌, if◌then◌else◌, List, [], ◌∷◌, ◌++◌, refl}
use Rattle.std.proofs.Common.{sym, ◌∙◌, ap, arith}
use Rattle.gx_base.specs.declared.acts.Step.{Step}
use Rattle.gx_base.specs.declared.calls.Made.{Made}
use Rattle.gx_base.specs.Replays.{part, made_by}
use Rattle.speculation.proofs.Putting.{no_bool, numbers_equal, same_number}
use Rattle.sessions.specs.Places.{AreStepsWithin}
use Rattle.sessions.specs.RoomLists.{is_room_among, steps_in, before, on_from, AreAbove, AreRoomsRising, AreRoomsBelow}

pub both_false : (p q : Bool) → (p || q) ≡ false → (p ≡ false) × (q ≡ false)
both_false true q e = absurd (cc)
both_false false q e = (refl, e)

pub among_both : (xs ys : List ℕ) (room : ℕ) → is_room_among (xs ++ ys) room ≡ (is_room_among xs room || is_room_among ys room)
among_both [] ys room = refl
among_both (x ∷ xs) ys room = ap (λ (b : Bool). (x == room) || b) (among_both xs ys room) ∙ or_assoc (x == room) (is_room_among xs room) (is_room_among ys room) where
  or_assoc : (p q r : Bool) → (p || (q || r)) ≡ ((p || q) || r)
  or_assoc true q r = refl
  or_assoc false q r = refl

-- ---- below a number

pub below_end : (n : ℕ) (xs ys : List ℕ) → AreRoomsBelow n (xs ++ ys) → AreRoomsBelow n ys
below_end n [] ys h = h
below_end n (x ∷ xs) ys h = below_end n xs ys h.1

pub below_front : (n : ℕ) (xs ys : List ℕ) → AreRoomsBelow n (xs ++ ys) → AreRoomsBelow n xs
below_front n [] ys h = tt
below_front n (x ∷ xs) ys h = (h.0, below_front n xs ys h.1)

not_among_by : (n x room : ℕ) (rest : Bool) → x < n → n ≤ room → rest ≡ false → (b : Bool) → (x == room) ≡ b → ((x == room) || rest) ≡ false
not_among_by n x room rest l m h true e = let same : x ≡ room = numbers_equal x room e in absurd (omega arith)
not_among_by n x room rest l m h false e = ap (λ (b : Bool). b || rest) e ∙ h

pub not_among : (n : ℕ) (xs : List ℕ) (room : ℕ) → AreRoomsBelow n xs → n ≤ room → is_room_among xs room ≡ false
not_among n [] room h l = refl
not_among n (x ∷ xs) room h l = not_among_by n x room (is_room_among xs room) h.0 l (not_among n xs room h.1 l) (x == room) refl

-- ---- rising numbers

above_end : (x : ℕ) (xs ys : List ℕ) → AreAbove x (xs ++ ys) → AreAbove x ys
above_end x [] ys h = h
above_end x (y ∷ xs) ys h = above_end x xs ys h.1

pub rising_end : (xs ys : List ℕ) → AreRoomsRising (xs ++ ys) → AreRoomsRising ys
rising_end [] ys h = h
rising_end (x ∷ xs) ys h = rising_end xs ys h.1

above_by : (x y room : ℕ) (rest : Bool) → x ≡ room → x < y → rest ≡ false → (b : Bool) → (y == room) ≡ b → ((y == room) || rest) ≡ false
above_by x y room rest s l h true e = let same : y ≡ room = numbers_equal y room e in absurd (omega arith)
above_by x y room rest s l h false e = ap (λ (b : Bool). b || rest) e ∙ h

not_above : (x : ℕ) (ys : List ℕ) (room : ℕ) → x ≡ room → AreAbove x ys → is_room_among ys room ≡ false
not_above x [] room s h = refl
not_above x (y ∷ ys) room s h = above_by x y room (is_room_among ys room) s h.0 (not_above x ys room s h.1) (y == room) refl

apart_by : (x : ℕ) (xs ys : List ℕ) (room : ℕ) → AreAbove x ys → (is_room_among xs room ≡ true → is_room_among ys room ≡ false) → (b : Bool) → (x == room) ≡ b → ((x == room) || is_room_among xs room) ≡ true → is_room_among ys room ≡ false
apart_by x xs ys room l h true e m = not_above x ys room (numbers_equal x room e) l
apart_by x xs ys room l h false e m = h (sym (ap (λ (b : Bool). b || is_room_among xs room) e) ∙ m)

-- the two parts of a rising list have no room in common
pub apart : (xs ys : List ℕ) (room : ℕ) → AreRoomsRising (xs ++ ys) → is_room_among xs room ≡ true → is_room_among ys room ≡ false
apart [] ys room h m = absurd (cc)
apart (x ∷ xs) ys room h m = apart_by x xs ys room (above_end x xs ys h.0) (apart xs ys room h.1) (x == room) refl m

-- ---- a rising list cut at a room of it

first_false : (x room : ℕ) (xs : List ℕ) → is_room_among (x ∷ xs) room ≡ false → ((x == room) ≡ false) × (is_room_among xs room ≡ false)
first_false x room xs h = both_false (x == room) (is_room_among xs room) h

pub before_is : (front : List ℕ) (room : ℕ) (rest : List ℕ) → is_room_among front room ≡ false → before (front ++ room ∷ rest) room ≡ front
before_is [] room rest h = ap (λ (b : Bool). if b then [] else room ∷ before rest room) (same_number room)
before_is (x ∷ xs) room rest h =
    ap (λ (b : Bool). if b then [] else x ∷ before (xs ++ room ∷ rest) room) (first_false x room xs h).0 ∙ ap (λ (ys : List ℕ). x ∷ ys) (before_is xs room rest (first_false x room xs h).1)

pub on_from_is : (front : List ℕ) (room : ℕ) (rest : List ℕ) → is_room_among front room ≡ false → on_from (front ++ room ∷ rest) room ≡ room ∷ rest
on_from_is [] room rest h = ap (λ (b : Bool). if b then room ∷ rest else on_from rest room) (same_number room)
on_from_is (x ∷ xs) room rest h = ap (λ (b : Bool). if b then x ∷ xs ++ room ∷ rest else on_from (xs ++ room ∷ rest) room) (first_false x room xs h).0 ∙ on_from_is xs room rest (first_false x room xs h).1

-- ---- steps

either_way : (b : Bool) (ms : List Made) → ms ≡ (if b then ms else ms)
either_way true ms = refl
either_way false ms = refl

module _ (rooms : List ℕ) (room : ℕ) where
  part_by : (x : Step) (xs : List Step) (b c : Bool) → is_room_among rooms x.room ≡ b → (x.room == room) ≡ c → part room (steps_in rooms xs) ≡ (if is_room_among rooms room then part room xs else [])
      → part room (if b then x ∷ steps_in rooms xs else steps_in rooms xs) ≡ (if is_room_among rooms room then (if c then made_by x ∷ part room xs else part room xs) else [])
  part_by x xs true true p q h =
      let m : is_room_among rooms room ≡ true = ap (is_room_among rooms) (sym (numbers_equal x.room room q)) ∙ p in
      let k : part room (steps_in rooms xs) ≡ part room xs = h ∙ ap (λ (b : Bool). if b then part room xs else []) m in
      ap (λ (b : Bool). if b then made_by x ∷ part room (steps_in rooms xs) else part room (steps_in rooms xs)) q ∙ ap (λ (ms : List Made). made_by x ∷ ms) k
      ∙ sym (ap (λ (b : Bool). if b then made_by x ∷ part room xs else []) m)
  part_by x xs true false p q h = ap (λ (b : Bool). if b then made_by x ∷ part room (steps_in rooms xs) else part room (steps_in rooms xs)) q ∙ h
  part_by x xs false true p q h =
      let m : is_room_among rooms room ≡ false = ap (is_room_among rooms) (sym (numbers_equal x.room room q)) ∙ p in
      h ∙ ap (λ (b : Bool). if b then part room xs else []) m ∙ sym (ap (λ (b : Bool). if b then made_by x ∷ part room xs else []) m)
  part_by x xs false false p q h = h

  -- the part in a room of the steps in some rooms
  pub part_in : (steps : List Step) → part room (steps_in rooms steps) ≡ (if is_room_among rooms room then part room steps else [])
  part_in [] = either_way (is_room_among rooms room) []
  part_in (x ∷ xs) = part_by x xs (is_room_among rooms x.room) (x.room == room) refl refl (part_in xs)

module _ (some all : List ℕ) (within : (room : ℕ) → is_room_among some room ≡ true → is_room_among all room ≡ true) where
  twice_by : (x : Step) (xs : List Step) (b c : Bool) → is_room_among all x.room ≡ b → is_room_among some x.room ≡ c → steps_in some (steps_in all xs) ≡ steps_in some xs
      → steps_in some (if b then x ∷ steps_in all xs else steps_in all xs) ≡ (if c then x ∷ steps_in some xs else steps_in some xs)
  twice_by x xs true true p q h = ap (λ (b : Bool). if b then x ∷ steps_in some (steps_in all xs) else steps_in some (steps_in all xs)) q ∙ ap (λ (ys : List Step). x ∷ ys) h
  twice_by x xs true false p q h = ap (λ (b : Bool). if b then x ∷ steps_in some (steps_in all xs) else steps_in some (steps_in all xs)) q ∙ h
  twice_by x xs false true p q h = absurd (no_bool (is_room_among all x.room) (within x.room q) p)
  twice_by x xs false false p q h = h

  -- the steps in fewer rooms of those in some
  pub steps_in_twice : (steps : List Step) → steps_in some (steps_in all steps) ≡ steps_in some steps
  steps_in_twice [] = refl
  steps_in_twice (x ∷ xs) = twice_by x xs (is_room_among all x.room) (is_room_among some x.room) refl refl (steps_in_twice xs)

within_by : (n : ℕ) (x : Step) (ys : List Step) (b : Bool) → x.room < n → AreStepsWithin n ys → AreStepsWithin n (if b then x ∷ ys else ys)
within_by n x ys true l h = (l, h)
within_by n x ys false l h = h

pub steps_within : (n : ℕ) (rooms : List ℕ) (steps : List Step) → AreStepsWithin n steps → AreStepsWithin n (steps_in rooms steps)
steps_within n rooms [] h = tt
steps_within n rooms (x ∷ xs) h = within_by n x (steps_in rooms xs) (is_room_among rooms x.room) h.0 (steps_within n rooms xs h.1)
