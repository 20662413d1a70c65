-- How many entries are of another iteration than the first of them.
use Rattle.std.specs.Prelude.{◌≡◌, ℕ, ◌+◌, ◌<◌, ◌≤◌, ◌&&◌, ◌||◌, Bool, true, false, not, if◌then◌else◌, Option, Some, None, List, [], ◌∷◌, ◌++◌, length, take, drop, remove, refl}
use Rattle.std.proofs.Common.{zero, suc, sym, ◌∙◌, ap, arith, get_or}
use Rattle.std.proofs.lemmas.List.{take-append-drop}
use Rattle.std.proofs.Math.Seq.{drop-cons}
use Rattle.std.specs.Cmp.{unsigned_Decides}
use Rattle.gx_base.specs.Conditions.{holds}
use Rattle.gx_base.specs.States.{State}
use Rattle.gx_base.specs.Steps.{next_state}
use Rattle.gx_base.specs.Tables.{Rows}
use Rattle.gx_base.specs.declared.acts.Entry.{Entry}
use Rattle.gate_core.specs.Entries.{made_of, is_of, others_than, others_of_first, one_if_other}
use Rattle.gate_core.specs.Replays.{seen_at, further, first_failing}

is_of_own : (x : Entry) → is_of x.worker x.iter x ≡ true
is_of_own x = λ i. (unsigned_Decides x.worker x.worker).1 refl i && (unsigned_Decides x.iter x.iter).1 refl i

module _ (worker iter : ℕ) where
  here : (x : Entry) (os : List Entry) (b : Bool) → length (if not b then x ∷ os else os) ≡ length os + (if b then 0 else 1)
  here x os true = omega arith
  here x os false = omega arith

  further_on : (y : Entry) (os ps : List Entry) (b : Bool) (n : ℕ) → length os ≡ length ps + n → length (if not b then y ∷ os else os) ≡ length (if not b then y ∷ ps else ps) + n
  further_on y os ps true n h = h
  further_on y os ps false n h = omega arith

  -- one more entry counts for itself
  pub others_with : (xs ys : List Entry) (x : Entry) → length (others_than worker iter (xs ++ x ∷ ys)) ≡ length (others_than worker iter (xs ++ ys)) + (if is_of worker iter x then 0 else 1)
  others_with [] ys x = here x (others_than worker iter ys) (is_of worker iter x)
  others_with (y ∷ xs) ys x = further_on y (others_than worker iter (xs ++ x ∷ ys)) (others_than worker iter (xs ++ ys)) (is_of worker iter y) (if is_of worker iter x then 0 else 1) (others_with xs ys x)

  -- no more than all entries
  fewer_by : (y : Entry) (os es : List Entry) (b : Bool) → length os ≤ length es → length (if not b then y ∷ os else os) ≤ length (y ∷ es)
  fewer_by y os es true h = omega arith
  fewer_by y os es false h = omega arith

  pub others_within : (es : List Entry) → length (others_than worker iter es) ≤ length es
  others_within [] = omega arith
  others_within (y ∷ es) = fewer_by y (others_than worker iter es) es (is_of worker iter y) (others_within es)

-- an entry after the first is taken out
pub others_removed : (es : List Entry) (place : ℕ) (x : Entry) → 0 < place → place < length es → x ≡ get_or es place x → others_of_first es ≡ others_of_first (remove es place) + one_if_other (remove es place) x
others_removed [] place x low h g = absurd (omega arith)
others_removed (e ∷ es) zero x low h g = absurd (omega arith)
others_removed (e ∷ es) (suc place) x low h g =
    let at : place < length es = omega arith in
    let whole : take place es ++ x ∷ drop (suc place) es ≡ es = ap (λ y. take place es ++ y ∷ drop (suc place) es) g ∙ ap (λ xs. take place es ++ xs) (sym (drop-cons es place x at)) ∙ take-append-drop place es in
    ap (λ xs. length (others_than e.worker e.iter (e ∷ xs))) (sym whole) ∙ others_with e.worker e.iter (e ∷ take place es) (drop (suc place) es) x

pub first_within : (es : List Entry) (x : Entry) → others_of_first es + one_if_other es x ≤ length es
first_within [] x = omega arith
first_within (e ∷ es) x =
    let own : others_of_first (e ∷ es) ≡ length (others_than e.worker e.iter es) = ap (λ (b : Bool). length (if not b then e ∷ others_than e.worker e.iter es else others_than e.worker e.iter es)) (is_of_own e) in
    let low : length (others_than e.worker e.iter es) ≤ length es = others_within e.worker e.iter es in
    let one : (if is_of e.worker e.iter x then 0 else 1) ≤ 1 = at_most_one (is_of e.worker e.iter x) in
    omega arith
  where
    at_most_one : (b : Bool) → (if b then 0 else 1) ≤ 1
    at_most_one true = omega arith
    at_most_one false = omega arith

-- no entry is in the way of a call of the iteration that is alone
module _ (rows : Rows) (asked : Entry) where
  passes : (e : Entry) (os : List Entry) (b row : Bool) (o : Option ℕ) → (if not b then e ∷ os else os) ≡ [] → (os ≡ [] → o ≡ None) → (if b || row then further o else Some 0) ≡ None
  passes e os true row o n r = ap further (r n)
  passes e os false row o n r = absurd (cc)

  pub none_in_way : (s : State) (es : List Entry) → others_than asked.worker asked.iter es ≡ [] → first_failing rows s es asked ≡ None
  none_in_way s [] n = refl
  none_in_way s (e ∷ es) n =
      passes e (others_than asked.worker asked.iter es) (is_of asked.worker asked.iter e) (holds (rows e.call.method asked.call.method) (made_of e) (made_of asked) (seen_at s e asked)) (first_failing rows (next_state s e.call) es asked) n
      (none_in_way (next_state s e.call) es)
