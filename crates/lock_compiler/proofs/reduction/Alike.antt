-- Modes that are incompatible with the same ones, and the first of them.
use Rattle.std.specs.Prelude.{◌≡◌, ℕ, zero, suc, ◌+◌, ◌<◌, Bool, true, false, not, cond, ◌&&◌, ◌⊎◌, List, ◌++◌, length, Contains, refl}
use Rattle.std.proofs.Common.{sym, ap, ◌∙◌, subst, inl, inr, arith}
use Rattle.std.proofs.lemmas.Bool.{and_parts, and_from, and_left, and_right, cases_lt, cases_Bool, not-false, not_from_false, cond-true, cond-false}
use Rattle.std.proofs.lemmas.List.Elements.{Contains-append_left, Contains-append_right, Contains-append_cases}
use Rattle.lock_compiler.specs.LockModes.{Member, LockModes, members_at, incompatible}
use Rattle.lock_compiler.specs.Reduced.{all_below, same_answer, are_compatible, is_idle_mode, tells_alike, are_alike, is_unlike, mode_stays, members_like}
use Rattle.lock_compiler.proofs.containing.Members.{none_in}
use Rattle.lock_compiler.proofs.reduction.Below.{all_below-not, all_below-at, all_below-from, one_fails}

same_answer-is : (a b : Bool) → same_answer a b ≡ true → a ≡ b
same_answer-is true b e = sym e
same_answer-is false true e = absurd (cc)
same_answer-is false false e = refl

same_answer-from : (a b : Bool) → a ≡ b → same_answer a b ≡ true
same_answer-from true b e = sym e
same_answer-from false true e = absurd (cc)
same_answer-from false false e = refl

-- two modes tell a third alike
pub record AlikeAt (modes : LockModes) (x y other : ℕ) : Type 0 where
  pub held : incompatible modes x other ≡ incompatible modes y other
  pub asked : incompatible modes other x ≡ incompatible modes other y

pub alike_at : (modes : LockModes) (x y other : ℕ) → are_alike modes x y ≡ true → other < length modes → AlikeAt modes x y other
alike_at modes x y other h lt =
    let p = and_parts (same_answer (incompatible modes x other) (incompatible modes y other)) (same_answer (incompatible modes other x) (incompatible modes other y))
    (all_below-at (tells_alike modes x y) (length modes) other h lt) in
    record { held = same_answer-is (incompatible modes x other) (incompatible modes y other) p.0; asked = same_answer-is (incompatible modes other x) (incompatible modes other y) p.1 }

pub alike_from : (modes : LockModes) (x y : ℕ) → ((other : ℕ) → other < length modes → AlikeAt modes x y other) → are_alike modes x y ≡ true
alike_from modes x y f =
    all_below-from (tells_alike modes x y) (length modes) (λ other lt.
    let a : AlikeAt modes x y other = f other lt in
    and_from (same_answer (incompatible modes x other) (incompatible modes y other)) (same_answer (incompatible modes other x) (incompatible modes other y))
    (same_answer-from (incompatible modes x other) (incompatible modes y other) a.held) (same_answer-from (incompatible modes other x) (incompatible modes other y) a.asked))

pub alike-itself : (modes : LockModes) (x : ℕ) → are_alike modes x x ≡ true
alike-itself modes x = alike_from modes x x (λ other lt. record { held = refl; asked = refl })

alike-alike : (modes : LockModes) (x y z : ℕ) → are_alike modes x y ≡ true → are_alike modes y z ≡ true → are_alike modes x z ≡ true
alike-alike modes x y z h k =
    alike_from modes x z (λ other lt.
    let a : AlikeAt modes x y other = alike_at modes x y other h lt in
    let b : AlikeAt modes y z other = alike_at modes y z other k lt in
    record { held = a.held ∙ b.held; asked = a.asked ∙ b.asked })

-- what is like an idle mode is idle
idle-alike : (modes : LockModes) (x y : ℕ) → are_alike modes x y ≡ true → is_idle_mode modes x ≡ true → is_idle_mode modes y ≡ true
idle-alike modes x y h idle =
    all_below-from (are_compatible modes y) (length modes) (λ other lt.
    let a : AlikeAt modes x y other = alike_at modes x y other h lt in
    (λ k. not (sym a.held k) && not (sym a.asked k)) ∙ all_below-at (are_compatible modes x) (length modes) other idle lt)

pub held_not_idle : (modes : LockModes) (held asked : ℕ) → asked < length modes → incompatible modes held asked ≡ true → is_idle_mode modes held ≡ false
held_not_idle modes held asked lt r =
    all_below-not (are_compatible modes held) (length modes) asked lt (and_left (not (incompatible modes held asked)) (not (incompatible modes asked held)) (ap not r))

pub asked_not_idle : (modes : LockModes) (held asked : ℕ) → held < length modes → incompatible modes held asked ≡ true → is_idle_mode modes asked ≡ false
asked_not_idle modes held asked lt r =
    all_below-not (are_compatible modes asked) (length modes) held lt (and_right (not (incompatible modes asked held)) (not (incompatible modes held asked)) (ap not r))

-- a mode that stays and is like this one
pub record HasStaying (modes : LockModes) (mode : ℕ) : Type 0 where
  pub first : ℕ
  pub below : first < length modes
  pub it_stays : mode_stays modes first ≡ true
  pub alike : are_alike modes first mode ≡ true

earlier_staying : (modes : LockModes) (mode earlier : ℕ) → is_idle_mode modes mode ≡ false → are_alike modes earlier mode ≡ true → (is_idle_mode modes earlier ≡ false → HasStaying modes earlier)
    → (is_idle_mode modes earlier ≡ true) ⊎ (is_idle_mode modes earlier ≡ false) → HasStaying modes mode
earlier_staying modes mode earlier busy alike rest (inl idle) = absurd (let no : is_idle_mode modes mode ≡ true = idle-alike modes earlier mode alike idle in cc)
earlier_staying modes mode earlier busy alike rest (inr awake) =
    let s : HasStaying modes earlier = rest awake in
    record { first = s.first; below = s.below; it_stays = s.it_stays; alike = alike-alike modes s.first earlier mode s.alike alike }

-- each mode that isn't idle has one
staying_within : (modes : LockModes) (n mode : ℕ) → mode < n → mode < length modes → is_idle_mode modes mode ≡ false → HasStaying modes mode
staying_within modes zero mode lt below busy = absurd (omega arith)
staying_within modes (suc n) mode lt below busy =
    elim (cases_Bool (all_below (is_unlike modes mode) mode)) [
      | inl none ↦ record {
        first = mode;
        below = below;
        it_stays = and_from (not (is_idle_mode modes mode)) (all_below (is_unlike modes mode) mode) (not_from_false (is_idle_mode modes mode) busy) none;
        alike = alike-itself modes mode;
      }
      | inr some ↦
          let f = one_fails (is_unlike modes mode) mode some in
          let earlier : f.0 < mode = f.1 in
          earlier_staying modes mode f.0 busy (not-false (are_alike modes f.0 mode) f.2)
          (staying_within modes n f.0 (omega arith) (omega arith)) (cases_Bool (is_idle_mode modes f.0))
    ]

pub has_staying : (modes : LockModes) (mode : ℕ) → mode < length modes → is_idle_mode modes mode ≡ false → HasStaying modes mode
has_staying modes mode below busy = staying_within modes (suc mode) mode (omega arith) below busy

-- the members of modes that are like one

pub one_more_like : (modes : LockModes) (mode n : ℕ) (xs : List Member) → xs ≡ members_like modes mode n
    → (are_alike modes mode n ≡ true → xs ++ members_at modes n ≡ members_like modes mode (n + 1)) × (are_alike modes mode n ≡ false → xs ≡ members_like modes mode (n + 1))
one_more_like modes mode n xs e =
    let next : suc n ≡ n + 1 = omega arith in (
      λ t. ap (λ ys. ys ++ members_at modes n) e ∙ sym (cond-true (are_alike modes mode n) _ _ t) ∙ ap (members_like modes mode) next,
      λ f. e ∙ sym (cond-false (are_alike modes mode n) _ _ f) ∙ ap (members_like modes mode) next,
    )

into_like_by : (modes : LockModes) (mode n k : ℕ) (m : Member) (t : Bool) → are_alike modes mode n ≡ t → k < suc n → are_alike modes mode k ≡ true → Contains (members_at modes k) m
    → (k < n → Contains (members_like modes mode n) m) → Contains (cond t (members_like modes mode n ++ members_at modes n) (members_like modes mode n)) m
into_like_by modes mode n k m true e lt alike there rest =
    elim (cases_lt k n) [
      | inl less ↦ Contains-append_left (members_like modes mode n) (members_at modes n) m (rest less)
      | inr more ↦
          let same : k ≡ n = omega arith in
          let P : ℕ → Type 0 = λ j. Contains (members_at modes j) m in
          Contains-append_right (members_like modes mode n) (members_at modes n) m (subst P same there)
    ]
into_like_by modes mode n k m false e lt alike there rest =
    elim (cases_lt k n) [
      | inl less ↦ rest less
      | inr more ↦ absurd (let same : k ≡ n = omega arith in let f : are_alike modes mode k ≡ false = ap (are_alike modes mode) same ∙ e in cc)
    ]

pub into_like : (modes : LockModes) (mode n k : ℕ) (m : Member) → k < n → are_alike modes mode k ≡ true → Contains (members_at modes k) m → Contains (members_like modes mode n) m
into_like modes mode zero k m lt alike there = absurd (omega arith)
into_like modes mode (suc n) k m lt alike there = into_like_by modes mode n k m (are_alike modes mode n) refl lt alike there (λ less. into_like modes mode n k m less alike there)

-- a member is one of a mode that is like the one
pub record IsLike (modes : LockModes) (mode n : ℕ) (m : Member) : Type 0 where
  pub number : ℕ
  pub below : number < n
  pub alike : are_alike modes mode number ≡ true
  pub member : Contains (members_at modes number) m

in_like_by : (modes : LockModes) (mode n : ℕ) (m : Member) (t : Bool) → are_alike modes mode n ≡ t → (Contains (members_like modes mode n) m → IsLike modes mode n m)
    → Contains (cond t (members_like modes mode n ++ members_at modes n) (members_like modes mode n)) m → IsLike modes mode (suc n) m
in_like_by modes mode n m true e rest h =
    elim (Contains-append_cases (members_like modes mode n) (members_at modes n) m h) [
      | inl before ↦
          let l : IsLike modes mode n m = rest before in
          let lt : l.number < n = l.below in
          record { number = l.number; below = omega arith; alike = l.alike; member = l.member }
      | inr here ↦ record { number = n; below = omega arith; alike = e; member = here }
    ]
in_like_by modes mode n m false e rest h =
    let l : IsLike modes mode n m = rest h in
    let lt : l.number < n = l.below in
    record { number = l.number; below = omega arith; alike = l.alike; member = l.member }

pub in_like : (modes : LockModes) (mode n : ℕ) (m : Member) → Contains (members_like modes mode n) m → IsLike modes mode n m
in_like modes mode zero m h = absurd (none_in m h)
in_like modes mode (suc n) m h = in_like_by modes mode n m (are_alike modes mode n) refl (in_like modes mode n m) h
