-- Calls clash where modes that have members of their methods do.
use Rattle.std.specs.Prelude.{◌≡◌, ℕ, zero, suc, ◌+◌, ◌<◌, ◌==◌, Bool, true, false, cond, Option, Some, None, List, [], ◌∷◌, length, Contains, slice_get, IfSome, refl}
use Rattle.std.proofs.Common.{sym, ap, ◌∙◌, subst, inl, inr, arith, zero-add}
use Rattle.std.proofs.lemmas.Bool.{eqb-true, eq-eqb}
use Rattle.std.proofs.lemmas.List.Elements.{Contains-append_left, Contains-append_right, Contains-append_cases}
use Rattle.std.proofs.lemmas.Option.{slice_get_within, get_or_from_slice_get}
use Rattle.gx_base.specs.declared.calls.Made.{Made}
use Rattle.lock_compiler.specs.declared.modes.Need.{Need}
use Rattle.lock_compiler.specs.LockModes.{Member, LockModes, members_at, incompatible, Want, wants_among, wants_from, wants_of, locked_value, need_of, needs_of, Clash}
use Rattle.lock_compiler.proofs.containing.Members.{none_in, first_in, later_in, in_either, map_in, in_map}

among_by : (number : ℕ) (member : Member) (members : List Member) (method : ℕ) (want : Want) (t : Bool) → (member.0 == method) ≡ t
    → (Contains (wants_among number members method) want → (want.0 ≡ number) × Contains members (method, want.1))
    → Contains (cond t ((number, member.1) ∷ wants_among number members method) (wants_among number members method)) want
    → (want.0 ≡ number) × Contains (member ∷ members) (method, want.1)
among_by number member members method want true e rest h =
    elim (in_either (number, member.1) (wants_among number members method) want h) [
      | inl same ↦
          let P : Member → Type 0 = λ m. Contains (member ∷ members) m in
          let here : member ≡ (method, want.1) = λ k. (eqb-true member.0 method e k, (same k).1) in
          (ap (λ (w : Want). w.0) (sym same), subst P here (first_in member members))
      | inr later ↦ let r = rest later in (r.0, later_in member members (method, want.1) r.1)
    ]
among_by number member members method want false e rest h = let r = rest h in (r.0, later_in member members (method, want.1) r.1)

in_among : (number : ℕ) (members : List Member) (method : ℕ) (want : Want) → Contains (wants_among number members method) want → (want.0 ≡ number) × Contains members (method, want.1)
in_among number [] method want h = absurd (none_in want h)
in_among number (member ∷ members) method want h = among_by number member members method want (member.0 == method) refl (in_among number members method want) h

into_by : (number : ℕ) (member : Member) (members : List Member) (method : ℕ) (place : Option ℕ) (t : Bool) → (member.0 == method) ≡ t
    → (Contains members (method, place) → Contains (wants_among number members method) (number, place))
    → Contains (member ∷ members) (method, place) → Contains (cond t ((number, member.1) ∷ wants_among number members method) (wants_among number members method)) (number, place)
into_by number member members method place true e rest h =
    elim (in_either member members (method, place) h) [
      | inl same ↦
          let P : Option ℕ → Type 0 = λ p. Contains ((number, member.1) ∷ wants_among number members method) (number, p) in
          subst P (ap (λ (m : Member). m.1) same) (first_in (number, member.1) (wants_among number members method))
      | inr later ↦ later_in (number, member.1) (wants_among number members method) (number, place) (rest later)
    ]
into_by number member members method place false e rest h =
    elim (in_either member members (method, place) h) [
      | inl same ↦ absurd (let yes : (member.0 == method) ≡ true = eq-eqb member.0 method (ap (λ (m : Member). m.0) same) in cc)
      | inr later ↦ rest later
    ]

into_among : (number : ℕ) (members : List Member) (method : ℕ) (place : Option ℕ) → Contains members (method, place) → Contains (wants_among number members method) (number, place)
into_among number [] method place h = absurd (none_in (method, place) h)
into_among number (member ∷ members) method place h = into_by number member members method place (member.0 == method) refl (into_among number members method place) h

-- a mode below the count, counted from a number, has this member
pub record IsWanted (number : ℕ) (modes : LockModes) (method : ℕ) (want : Want) : Type 0 where
  pub mode : ℕ
  pub below : mode < length modes
  pub named : want.0 ≡ number + mode
  pub member : Contains (members_at modes mode) (method, want.1)

pub in_from : (number : ℕ) (modes : LockModes) (method : ℕ) (want : Want) → Contains (wants_from number modes method) want → IsWanted number modes method want
in_from number [] method want h = absurd (none_in want h)
in_from number (mode ∷ modes) method want h =
    elim (Contains-append_cases (wants_among number mode.members method) (wants_from (number + 1) modes method) want h) [
      | inl here ↦
          let r : (want.0 ≡ number) × Contains mode.members (method, want.1) = in_among number mode.members method want here in
          let same : want.0 ≡ number = r.0 in
          record { mode = 0; below = omega arith; named = omega arith; member = r.1 }
      | inr later ↦
          let r : IsWanted (number + 1) modes method want = in_from (number + 1) modes method want later in
          let named : want.0 ≡ (number + 1) + r.mode = r.named in
          let below : r.mode < length modes = r.below in
          record { mode = suc r.mode; below = omega arith; named = omega arith; member = r.member }
    ]

into_from : (number : ℕ) (modes : LockModes) (method mode : ℕ) (place : Option ℕ) → mode < length modes → Contains (members_at modes mode) (method, place) → Contains (wants_from number modes method) (number + mode, place)
into_from number [] method mode place h there = absurd (omega arith)
into_from number (m ∷ ms) method zero place h there =
    let same : number ≡ number + 0 = omega arith in
    let P : ℕ → Type 0 = λ n. Contains (wants_from number (m ∷ ms) method) (n, place) in
    subst P same (Contains-append_left (wants_among number m.members method) (wants_from (number + 1) ms method) (number, place) (into_among number m.members method place there))
into_from number (m ∷ ms) method (suc mode) place h there =
    let same : (number + 1) + mode ≡ number + suc mode = omega arith in
    let P : ℕ → Type 0 = λ n. Contains (wants_from number (m ∷ ms) method) (n, place) in
    subst P same (Contains-append_right (wants_among number m.members method) (wants_from (number + 1) ms method) ((number + 1) + mode, place) (into_from (number + 1) ms method mode place (omega arith) there))

-- two modes with members of the methods of two calls, of equal values, are incompatible
pub record ClashAt (modes : LockModes) (first second : Made) : Type 0 where
  pub held : ℕ
  pub asked : ℕ
  pub held_place : Option ℕ
  pub asked_place : Option ℕ
  pub held_below : held < length modes
  pub asked_below : asked < length modes
  pub held_member : Contains (members_at modes held) (first.call.method, held_place)
  pub asked_member : Contains (members_at modes asked) (second.call.method, asked_place)
  pub equal_values : locked_value first held_place ≡ locked_value second asked_place
  pub refused : incompatible modes held asked ≡ true

no_want : Want
no_want = (0, None)

-- a need is of a member of a mode
record IsNeeded (modes : LockModes) (made : Made) (need : Need) : Type 0 where
  mode : ℕ
  place : Option ℕ
  below : mode < length modes
  member : Contains (members_at modes mode) (made.call.method, place)
  named : need.mode ≡ mode
  value : need.value ≡ locked_value made place

needed : (modes : LockModes) (made : Made) (need : Need) → Contains (needs_of modes made) need → IsNeeded modes made need
needed modes made need h =
    let found = in_map (need_of made) (wants_of modes made.call.method) no_want need h in
    let want : Want = found.0 in
    let w : IsWanted 0 modes made.call.method want = in_from 0 modes made.call.method want found.1 in
    record {
      mode = w.mode;
      place = want.1;
      below = w.below;
      member = w.member;
      named = ap (λ (n : Need). n.mode) (sym found.2) ∙ w.named ∙ zero-add w.mode;
      value = ap (λ (n : Need). n.value) (sym found.2);
    }

-- a need's mode is one of the modes
pub need_below : (modes : LockModes) (made : Made) (i : ℕ) (r : Option Need) → r ≡ slice_get (needs_of modes made) i → IfSome r (λ need. need.mode < length modes)
need_below modes made i None e = tt
need_below modes made i (Some need) e =
    let n : IsNeeded modes made need = needed modes made need (i, slice_get_within (needs_of modes made) i need (sym e), get_or_from_slice_get (needs_of modes made) i need need (sym e)) in
    let below : n.mode < length modes = n.below in
    let named : need.mode ≡ n.mode = n.named in
    omega arith

pub clash_parts : (modes : LockModes) (first second : Made) → Clash modes first second → ClashAt modes first second
clash_parts modes first second c =
    let h : IsNeeded modes first c.held = needed modes first c.held c.held_by_first in
    let a : IsNeeded modes second c.asked = needed modes second c.asked c.asked_by_second in
    record {
      held = h.mode;
      asked = a.mode;
      held_place = h.place;
      asked_place = a.place;
      held_below = h.below;
      asked_below = a.below;
      held_member = h.member;
      asked_member = a.member;
      equal_values = sym h.value ∙ c.equal_values ∙ a.value;
      refused = (λ k. incompatible modes (sym h.named k) (sym a.named k)) ∙ c.refused;
    }

need_in : (modes : LockModes) (made : Made) (mode : ℕ) (place : Option ℕ) → mode < length modes → Contains (members_at modes mode) (made.call.method, place) → Contains (needs_of modes made) (need_of made (mode, place))
need_in modes made mode place below member =
    map_in (need_of made) (wants_of modes made.call.method) (mode, place)
    (let P : ℕ → Type 0 = λ n. Contains (wants_of modes made.call.method) (n, place) in subst P (zero-add mode) (into_from 0 modes made.call.method mode place below member))

pub clash_from : (modes : LockModes) (first second : Made) → ClashAt modes first second → Clash modes first second
clash_from modes first second c = record {
  held = need_of first (c.held, c.held_place);
  asked = need_of second (c.asked, c.asked_place);
  held_by_first = need_in modes first c.held c.held_place c.held_below c.held_member;
  asked_by_second = need_in modes second c.asked c.asked_place c.asked_below c.asked_member;
  equal_values = c.equal_values;
  refused = c.refused;
}
