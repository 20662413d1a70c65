-- Reduced modes can't be made fewer by the same rules.
use Rattle.std.specs.Prelude.{◌≡◌, ℕ, zero, suc, ◌<◌, Bool, true, false, not, cond, List, [], ◌∷◌, ◌++◌, length, All, refl}
use Rattle.std.specs.List.{AllPairs}
use Rattle.std.proofs.Common.{sym, ap, ◌∙◌, inl, inr, arith}
use Rattle.std.proofs.lemmas.Bool.{and_parts, and_cases, cases_Bool, not-true, not-false}
use Rattle.std.proofs.lemmas.List.{length-map}
use Rattle.std.proofs.lemmas.List.Elements.{All-nil, All-push}
use Rattle.std.proofs.lemmas.List.Quantifiers.{all_pairs_push}
use Rattle.lock_compiler.specs.LockModes.{LockModes, incompatible}
use Rattle.lock_compiler.specs.Reduced.{all_below, numbers_below, are_compatible, is_idle_mode, are_alike, is_unlike, mode_stays, staying, merged_mode, reduced}
use Rattle.lock_compiler.proofs.reduction.Below.{all_below-at, one_fails, passing_in, all_numbers_below}
use Rattle.lock_compiler.proofs.reduction.Alike.{AlikeAt, alike_at, alike_from, alike-itself, held_not_idle, asked_not_idle, HasStaying, has_staying}
use Rattle.lock_compiler.proofs.clashing.Reduced.{mode_at, merged_refuses, alike_refuse, StandsAt, stands_at}

-- the numbers that pass a test do, and rise

pass_by : (test : ℕ → Bool) (n : ℕ) (xs : List ℕ) (t : Bool) → test n ≡ t → All (λ k. test k ≡ true) xs → All (λ k. test k ≡ true) (cond t (xs ++ n ∷ []) xs)
pass_by test n xs true e h = All-push (λ k. test k ≡ true) xs n h e
pass_by test n xs false e h = h

all_pass : (test : ℕ → Bool) (n : ℕ) → All (λ k. test k ≡ true) (numbers_below test n)
all_pass test zero = All-nil (λ k. test k ≡ true)
all_pass test (suc n) = pass_by test n (numbers_below test n) (test n) refl (all_pass test n)

rise_by : (n : ℕ) (xs : List ℕ) (t : Bool) → All (λ k. k < n) xs → AllPairs (λ i j. i < j) xs → AllPairs (λ i j. i < j) (cond t (xs ++ n ∷ []) xs)
rise_by n xs true below rise = all_pairs_push (λ i j. i < j) xs n rise below
rise_by n xs false below rise = rise

all_rise : (test : ℕ → Bool) (n : ℕ) → AllPairs (λ i j. i < j) (numbers_below test n)
all_rise test zero = λ i j d before within. absurd (omega arith)
all_rise test (suc n) = rise_by n (numbers_below test n) (test n) (all_numbers_below test n) (all_rise test n)

-- the mode at a place among those that stay

below_at : (modes : LockModes) (place : ℕ) → place < length (staying modes) → mode_at modes place < length modes
below_at modes place h = all_numbers_below (mode_stays modes) (length modes) place 0 h

stays_at : (modes : LockModes) (place : ℕ) → place < length (staying modes) → (is_idle_mode modes (mode_at modes place) ≡ false) × (all_below (is_unlike modes (mode_at modes place)) (mode_at modes place) ≡ true)
stays_at modes place h =
    let p = and_parts (not (is_idle_mode modes (mode_at modes place))) (all_below (is_unlike modes (mode_at modes place)) (mode_at modes place)) (all_pass (mode_stays modes) (length modes) place 0 h) in
    (not-true (is_idle_mode modes (mode_at modes place)) p.0, p.1)

-- where one stands that is like a mode
record StandsFor (modes : LockModes) (mode : ℕ) : Type 0 where
  place : ℕ
  below : place < length (staying modes)
  alike : are_alike modes (mode_at modes place) mode ≡ true

stands_for : (modes : LockModes) (mode : ℕ) → mode < length modes → is_idle_mode modes mode ≡ false → StandsFor modes mode
stands_for modes mode below busy =
    let h : HasStaying modes mode = has_staying modes mode below busy in
    let at : StandsAt modes h.first = stands_at modes h.first (passing_in (mode_stays modes) (length modes) h.first h.below h.it_stays) in
    record { place = at.place; below = at.below; alike = ap (λ first. are_alike modes first mode) at.is ∙ h.alike }

-- it is as incompatible with others that stay

as_asked : (modes : LockModes) (held mode : ℕ) (s : StandsFor modes mode) → held < length (staying modes) → incompatible (reduced modes) held s.place ≡ incompatible modes (mode_at modes held) mode
as_asked modes held mode s h =
    merged_refuses modes held s.place h s.below
    ∙ alike_refuse modes (mode_at modes held) (mode_at modes s.place) (mode_at modes held) mode (alike-itself modes (mode_at modes held)) s.alike (below_at modes s.place s.below) (below_at modes held h)

as_held : (modes : LockModes) (asked mode : ℕ) (s : StandsFor modes mode) → asked < length (staying modes) → mode < length modes
    → incompatible (reduced modes) s.place asked ≡ incompatible modes mode (mode_at modes asked)
as_held modes asked mode s h below =
    merged_refuses modes s.place asked s.below h
    ∙ alike_refuse modes (mode_at modes s.place) (mode_at modes asked) mode (mode_at modes asked) s.alike (alike-itself modes (mode_at modes asked)) (below_at modes asked h) below

within : (modes : LockModes) (place : ℕ) → place < length (reduced modes) → place < length (staying modes)
within modes place h = omega (arith, length-map (staying modes) (merged_mode modes), h)

again : (modes : LockModes) (place : ℕ) → place < length (staying modes) → place < length (reduced modes)
again modes place h = omega (arith, length-map (staying modes) (merged_mode modes), h)

pub reduced-busy : (modes : LockModes) (mode : ℕ) → mode < length (reduced modes) → is_idle_mode (reduced modes) mode ≡ false
reduced-busy modes mode h =
    let here : mode < length (staying modes) = within modes mode h in
    let found = one_fails (are_compatible modes (mode_at modes mode)) (length modes) (stays_at modes mode here).0 in
    let below : found.0 < length modes = found.1 in
    elim (and_cases (not (incompatible modes (mode_at modes mode) found.0)) (not (incompatible modes found.0 (mode_at modes mode))) found.2) [
      | inl held ↦
          let r : incompatible modes (mode_at modes mode) found.0 ≡ true = not-false (incompatible modes (mode_at modes mode) found.0) held in
          let s : StandsFor modes found.0 = stands_for modes found.0 below (asked_not_idle modes (mode_at modes mode) found.0 (below_at modes mode here) r) in
          held_not_idle (reduced modes) mode s.place (again modes s.place s.below) (as_asked modes mode found.0 s here ∙ r)
      | inr asked ↦
          let r : incompatible modes found.0 (mode_at modes mode) ≡ true = not-false (incompatible modes found.0 (mode_at modes mode)) asked in
          let s : StandsFor modes found.0 = stands_for modes found.0 below (held_not_idle modes found.0 (mode_at modes mode) (below_at modes mode here) r) in
          asked_not_idle (reduced modes) s.place mode (again modes s.place s.below) (as_held modes mode found.0 s here below ∙ r)
    ]

-- an idle mode tells any two alike
idle_alike : (modes : LockModes) (x y other : ℕ) → x < length modes → y < length modes → is_idle_mode modes other ≡ true → AlikeAt modes x y other
idle_alike modes x y other x_below y_below idle =
    let p = and_parts (not (incompatible modes other x)) (not (incompatible modes x other)) (all_below-at (are_compatible modes other) (length modes) x idle x_below) in
    let q = and_parts (not (incompatible modes other y)) (not (incompatible modes y other)) (all_below-at (are_compatible modes other) (length modes) y idle y_below) in
    record {
      held = not-true (incompatible modes x other) p.1 ∙ sym (not-true (incompatible modes y other) q.1);
      asked = not-true (incompatible modes other x) p.0 ∙ sym (not-true (incompatible modes other y) q.0);
    }

-- modes that stay and are alike among these were alike before
were_alike : (modes : LockModes) (x y : ℕ) → x < length (staying modes) → y < length (staying modes) → are_alike (reduced modes) x y ≡ true → are_alike modes (mode_at modes x) (mode_at modes y) ≡ true
were_alike modes x y p q alike =
    alike_from modes (mode_at modes x) (mode_at modes y) (λ other below.
    elim (cases_Bool (is_idle_mode modes other)) [
      | inl idle ↦ idle_alike modes (mode_at modes x) (mode_at modes y) other (below_at modes x p) (below_at modes y q) idle
      | inr busy ↦
          let s : StandsFor modes other = stands_for modes other below busy in
          let a : AlikeAt (reduced modes) x y s.place = alike_at (reduced modes) x y s.place alike (again modes s.place s.below) in
          record {
            held = sym (as_asked modes x other s p) ∙ a.held ∙ as_asked modes y other s q;
            asked = sym (as_held modes x other s p below) ∙ a.asked ∙ as_held modes y other s q below;
          }
    ])

pub reduced-apart : (modes : LockModes) (earlier mode : ℕ) → earlier < mode → mode < length (reduced modes) → are_alike (reduced modes) earlier mode ≡ false
reduced-apart modes earlier mode before h =
    let later : mode < length (staying modes) = within modes mode h in
    let first : earlier < length (staying modes) = omega arith in
    let rises : mode_at modes earlier < mode_at modes mode = all_rise (mode_stays modes) (length modes) earlier mode 0 before later in
    let unlike : not (are_alike modes (mode_at modes earlier) (mode_at modes mode)) ≡ true =
    all_below-at (is_unlike modes (mode_at modes mode)) (mode_at modes mode) (mode_at modes earlier) (stays_at modes mode later).1 rises in
    elim (cases_Bool (are_alike (reduced modes) earlier mode)) [
      | inl alike ↦ absurd (
          let yes : are_alike modes (mode_at modes earlier) (mode_at modes mode) ≡ true = were_alike modes earlier mode first later alike in
          let no : are_alike modes (mode_at modes earlier) (mode_at modes mode) ≡ false = not-true (are_alike modes (mode_at modes earlier) (mode_at modes mode)) unlike in
          cc)
      | inr apart ↦ apart
    ]
