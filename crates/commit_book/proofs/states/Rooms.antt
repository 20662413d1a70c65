-- The states of a list of rooms: to set a room's state is to put it at its number.
use Rattle.std.specs.Prelude.{◌≡◌, ℕ, zero, suc, ◌<◌, Bool, true, false, nat_eq, if◌then◌else◌, List, [], ◌∷◌, length, map, slice_index_or, slice_set, refl}
use Rattle.std.proofs.Common.{sym, ◌∙◌, ap, subst, arith, eqb-true, eq-eqb}
use Rattle.std.proofs.lemmas.List.{get_or-set_same, get_or-set_other, map-set, length-map}
use Rattle.gx_base.specs.States.{State}
use Rattle.gx_base.specs.Replays.{in_rooms, no_state, put}

no_bool : (b : Bool) → b ≡ true → b ≡ false → ⊥
no_bool true e f = absurd (cc)
no_bool false e f = absurd (cc)

set_by : (states : List State) (room : ℕ) (s : State) (number : ℕ) (b : Bool) → nat_eq room number ≡ b → room < length states → slice_index_or (slice_set states room s) number no_state ≡ (if b then s else slice_index_or states number no_state)
set_by states room s number true e h = subst (λ n. slice_index_or (slice_set states room s) n no_state ≡ s) (eqb-true room number e) (get_or-set_same states room s no_state h)
set_by states room s number false e h =
    get_or-set_other states room number s no_state (λ k. no_bool (nat_eq room number) (eq-eqb room number (sym k)) e)

in_rooms-set : (states : List State) (room : ℕ) (s : State) → room < length states → in_rooms (slice_set states room s) ≡ put (in_rooms states) room s
in_rooms-set states room s h = λ i number. set_by states room s number (nat_eq room number) refl h i

-- the same where the states are those of objects
pub in_rooms-set_object : {X : Type 0} (state : X → State) (objects : List X) (room : ℕ) (x : X) → room < length objects → in_rooms (map state (slice_set objects room x)) ≡ put (in_rooms (map state objects)) room (state x)
in_rooms-set_object state objects room x h =
    ap in_rooms (map-set state objects room x) ∙ in_rooms-set (map state objects) room (state x) (omega (arith, length-map objects state))

pub in_rooms-object : {X : Type 0} (state : X → State) (objects : List X) (room : ℕ) (d : X) → room < length objects → in_rooms (map state objects) room ≡ state (slice_index_or objects room d)
in_rooms-object state [] room d h = absurd (omega arith)
in_rooms-object state (x ∷ xs) zero d h = refl
in_rooms-object state (x ∷ xs) (suc n) d h = in_rooms-object state xs n d (omega arith)
