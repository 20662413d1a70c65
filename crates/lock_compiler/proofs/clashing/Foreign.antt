-- A call of another kind's method needs no locks.
use Rattle.std.specs.Prelude.{◌≡◌, ℕ, ◌+◌, ◌<◌, ◌≤◌, false, nat_le, nat_lt, Option, Some, None, List, [], ◌∷◌, map, length, Contains, refl}
use Rattle.std.specs.List.{flat_map}
use Rattle.std.proofs.Common.{sym, ap, ◌∙◌, subst, inl, inr, arith, get_or}
use Rattle.std.proofs.lemmas.Bool.{and_cases, leb-false, ltb-false}
use Rattle.std.proofs.lemmas.List.{length-map}
use Rattle.std.proofs.lemmas.List.FromFn.{length-range_with_len, get_or-range_with_len}
use Rattle.std.proofs.lemmas.List.Elements.{Contains-append_cases}
use Rattle.gx_base.specs.declared.calls.Made.{Made}
use Rattle.gx_base.specs.Methods.{first_method, words_of, methods_of, is_method}
use Rattle.gx_base.specs.Tables.{Rows}
use Rattle.lock_compiler.specs.LockModes.{Member, LockModes, members_at, wants_of, need_of, needs_of}
use Rattle.lock_compiler.specs.Compiled.{locked_numbers, method_members, members_of, single_mode, compiled}
use Rattle.lock_compiler.specs.Reduced.{staying, merged_mode, reduced}
use Rattle.lock_compiler.proofs.containing.Members.{none_in, first_in, later_in, in_either, only_in, in_map}
use Rattle.lock_compiler.proofs.reduction.Alike.{IsLike, in_like}
use Rattle.lock_compiler.proofs.clashing.Needs.{IsWanted, in_from}
use Rattle.lock_compiler.proofs.clashing.Compiled.{single_members}
use Rattle.lock_compiler.proofs.clashing.Reduced.{mode_at, merged_members}

without_any : {A : Type 0} (xs : List A) → ((x : A) → Contains xs x → ⊥) → xs ≡ []
without_any [] none = refl
without_any (x ∷ xs) none = absurd (none x (first_in x xs))

-- the members of a method are of it
of_method : (kind : ℕ) (rows : Rows) (method : ℕ) (m : Member) → Contains (method_members kind rows method) m → method ≡ m.0
of_method kind rows method m h =
    elim (in_either (method, None) (map (λ number. (method, Some number)) (locked_numbers kind rows method)) m h) [
      | inl whole ↦ ap (λ (x : Member). x.0) whole
      | inr value ↦ let found = in_map (λ number. (method, Some number)) (locked_numbers kind rows method) 0 m value in ap (λ (x : Member). x.0) found.2
    ]

of_methods : (kind : ℕ) (rows : Rows) (methods : List ℕ) (m : Member) → Contains (flat_map (method_members kind rows) methods) m → Contains methods m.0
of_methods kind rows [] m h = absurd (none_in m h)
of_methods kind rows (method ∷ methods) m h =
    elim (Contains-append_cases (method_members kind rows method) (flat_map (method_members kind rows) methods) m h) [
      | inl here ↦ let P : ℕ → Type 0 = λ n. Contains (method ∷ methods) n in subst P (of_method kind rows method m here) (first_in method methods)
      | inr later ↦ later_in method methods m.0 (of_methods kind rows methods m later)
    ]

not_listed : (kind method : ℕ) → is_method kind method ≡ false → Contains (methods_of kind) method → ⊥
not_listed kind method foreign (place, h, e) =
    let within : place < length (words_of kind) = omega (arith, length-range_with_len (first_method kind) (length (words_of kind)), h) in
    let number : method ≡ first_method kind + place = sym e ∙ get_or-range_with_len (first_method kind) (length (words_of kind)) place method within in
    elim (and_cases (nat_le (first_method kind) method) (nat_lt method (first_method kind + length (words_of kind))) foreign) [
      | inl low ↦ let before : method < first_method kind = leb-false (first_method kind) method low in omega arith
      | inr high ↦ let past : first_method kind + length (words_of kind) ≤ method = ltb-false method (first_method kind + length (words_of kind)) high in omega arith
    ]

-- no mode has a member of the method
abbrev HasNone : LockModes → ℕ → Type 0
HasNone modes method = (mode : ℕ) (place : Option ℕ) → mode < length modes → Contains (members_at modes mode) (method, place) → ⊥

compiled-HasNone : (kind : ℕ) (rows : Rows) (method : ℕ) → is_method kind method ≡ false → HasNone (compiled kind rows) method
compiled-HasNone kind rows method foreign = λ mode place below h.
    let within : mode < length (members_of kind rows) = omega (arith, length-map (members_of kind rows) (single_mode rows (members_of kind rows)), below) in
    let is : get_or (members_of kind rows) mode (method, place) ≡ (method, place) =
    only_in (get_or (members_of kind rows) mode (method, place)) (method, place)
    (subst (λ (ms : List Member). Contains ms (method, place)) (single_members rows (members_of kind rows) (members_of kind rows) mode (method, place) within) h) in
    not_listed kind method foreign (of_methods kind rows (methods_of kind) (method, place) (mode, within, is))

reduced-HasNone : (modes : LockModes) (method : ℕ) → HasNone modes method → HasNone (reduced modes) method
reduced-HasNone modes method none = λ mode place below h.
    let within : mode < length (staying modes) = omega (arith, length-map (staying modes) (merged_mode modes), below) in
    let like : IsLike modes (mode_at modes mode) (length modes) (method, place) =
    in_like modes (mode_at modes mode) (length modes) (method, place) (subst (λ (ms : List Member). Contains ms (method, place)) (merged_members modes mode within) h) in
    none like.number place like.below like.member

no_needs : (modes : LockModes) (made : Made) → HasNone modes made.call.method → needs_of modes made ≡ []
no_needs modes made none =
    ap (map (need_of made)) (without_any (wants_of modes made.call.method) (λ want h.
    let w : IsWanted 0 modes made.call.method want = in_from 0 modes made.call.method want h in
    none w.mode want.1 w.below w.member))

pub compiled_none : (kind : ℕ) (rows : Rows) (made : Made) → is_method kind made.call.method ≡ false → needs_of (compiled kind rows) made ≡ []
compiled_none kind rows made foreign = no_needs (compiled kind rows) made (compiled-HasNone kind rows made.call.method foreign)

pub reduced_none : (kind : ℕ) (rows : Rows) (made : Made) → is_method kind made.call.method ≡ false → needs_of (reduced (compiled kind rows)) made ≡ []
reduced_none kind rows made foreign =
    no_needs (reduced (compiled kind rows)) made (reduced-HasNone (compiled kind rows) made.call.method (compiled-HasNone kind rows made.call.method foreign))
