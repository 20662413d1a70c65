-- Walks along the entries of a gate, one entry after another.
use Rattle.std.specs.Prelude.{◌≡◌, ℕ, ◌+◌, ◌-◌, ◌<◌, ◌≤◌, Bool, true, false, not, ◌||◌, if◌then◌else◌, Some, List, [], ◌∷◌, ◌++◌, length, take, drop, remove, slice_get, refl}
use Rattle.std.proofs.Common.{zero, suc, sym, ◌∙◌, ap, subst, arith, get_or, append_assoc}
use Rattle.std.proofs.lemmas.List.{take_more, take-append-drop, append-nil}
use Rattle.std.proofs.lemmas.List.Elements.{filter-append}
use Rattle.std.proofs.Math.Seq.{drop-cons}
use Rattle.gx_base.specs.declared.acts.Entry.{Entry}
use Rattle.gate_core.specs.Entries.{is_of, entries_of, others_than, has_entry, last_of, without_last, done_under, LosesLast}
use Rattle.gate_core.specs.LastPlaces.{IsLastPlace}
use Rattle.gate_core.proofs.lists.EntryLists.{last_split, without_split, none_equal, has_others}

pub get_at : (es : List Entry) (i : ℕ) (d : Entry) → i < length es → slice_get es i ≡ Some (get_or es i d)
get_at [] i d h = absurd (omega arith)
get_at (e ∷ es) zero d h = refl
get_at (e ∷ es) (suc i) d h = get_at es i d (omega arith)

-- an entry between those before it and those after it
pub drop_at : (es : List Entry) (i : ℕ) (d : Entry) → i < length es → drop i es ≡ get_or es i d ∷ drop (i + 1) es
drop_at es i d h =
    let n : suc i ≡ i + 1 = omega arith in
    drop-cons es i d h ∙ ap (λ k. get_or es i d ∷ drop k es) n

pub parted_at : (es : List Entry) (i : ℕ) (d : Entry) → i < length es → take i es ++ get_or es i d ∷ drop (i + 1) es ≡ es
parted_at es i d h = ap (λ xs. take i es ++ xs) (sym (drop_at es i d h)) ∙ take-append-drop i es

remove_at : (es : List Entry) (i : ℕ) → remove es i ≡ take i es ++ drop (i + 1) es
remove_at es i = let n : suc i ≡ i + 1 = omega arith in ap (λ k. take i es ++ drop k es) n

module _ (worker iter : ℕ) where
  -- a walk from the end finds the last entry of the iteration
  pub found_last : (es : List Entry) (i : ℕ) (d : Entry) → i < length es → has_entry worker iter (drop (i + 1) es) ≡ false → is_of worker iter (get_or es i d) ≡ true → IsLastPlace worker iter es (Some i)
  found_last es i d h n q =
      let x : Entry = get_or es i d in
      let whole : take i es ++ x ∷ drop (i + 1) es ≡ es = parted_at es i d h in (
        h,
        ap (last_of worker iter) (sym whole) ∙ last_split worker iter (take i es) (drop (i + 1) es) x q n ∙ sym (get_at es i d h),
        ap (without_last worker iter) (sym whole) ∙ without_split worker iter (take i es) (drop (i + 1) es) x q n ∙ sym (remove_at es i),
      )

  -- the others from a place on
  others_from : (x : Entry) (es : List Entry) (b : Bool) → is_of worker iter x ≡ b → others_than worker iter (x ∷ es) ≡ (if b then others_than worker iter es else x ∷ others_than worker iter es)
  others_from x es true q = ap (λ (b : Bool). if not b then x ∷ others_than worker iter es else others_than worker iter es) q
  others_from x es false q = ap (λ (b : Bool). if not b then x ∷ others_than worker iter es else others_than worker iter es) q

  taken_more : (es : List Entry) (i : ℕ) (d : Entry) (os : List Entry) → i < length es → take (i + 1) es ++ os ≡ take i es ++ get_or es i d ∷ os
  taken_more es i d os h = ap (λ xs. xs ++ os) (take_more es i d h) ∙ append_assoc (take i es) (get_or es i d ∷ []) os

  -- an entry of the iteration leaves, where those after it have left
  pub leaves : (es : List Entry) (i : ℕ) (d : Entry) → i < length es → is_of worker iter (get_or es i d) ≡ true
      → LosesLast (get_or es i d) (take (i + 1) es ++ others_than worker iter (drop (i + 1) es)) (take i es ++ others_than worker iter (drop i es))
  leaves es i d h q = record {
    front = take i es;
    rear = others_than worker iter (drop (i + 1) es);
    was = taken_more es i d (others_than worker iter (drop (i + 1) es)) h;
    last = none_equal worker iter (get_or es i d) (others_than worker iter (drop (i + 1) es)) q (has_others worker iter (drop (i + 1) es));
    is = ap (λ xs. take i es ++ others_than worker iter xs) (drop_at es i d h) ∙ ap (λ xs. take i es ++ xs) (others_from (get_or es i d) (drop (i + 1) es) true q);
  }

  pub leaves_before : (es : List Entry) (p : ℕ) (d : Entry) → 0 < p → p ≤ length es → is_of worker iter (get_or es (p - 1) d) ≡ true
      → LosesLast (get_or es (p - 1) d) (take p es ++ others_than worker iter (drop p es)) (take (p - 1) es ++ others_than worker iter (drop (p - 1) es))
  leaves_before es p d low high q =
      let n : p - 1 + 1 ≡ p = omega arith in
      subst (λ k. LosesLast (get_or es (p - 1) d) (take k es ++ others_than worker iter (drop k es)) (take (p - 1) es ++ others_than worker iter (drop (p - 1) es))) n (leaves es (p - 1) d (omega arith) q)

  -- a walk from the beginning takes one more entry

  or_none : (b : Bool) → (b || false) ≡ b
  or_none true = refl
  or_none false = refl

  or_more : (b c d : Bool) → (b || (c || d)) ≡ ((b || c) || d)
  or_more true c d = refl
  or_more false c d = refl

  or_yes : (b : Bool) → (b || true) ≡ true
  or_yes true = refl
  or_yes false = refl

  has-push : (es : List Entry) (x : Entry) → has_entry worker iter (es ++ x ∷ []) ≡ (has_entry worker iter es || is_of worker iter x)
  has-push [] x = or_none (is_of worker iter x)
  has-push (e ∷ es) x = ap (λ b. is_of worker iter e || b) (has-push es x) ∙ or_more (is_of worker iter e) (has_entry worker iter es) (is_of worker iter x)

  done-append : (n : ℕ) (xs ys : List Entry) → done_under n (xs ++ ys) ≡ done_under n xs ++ done_under n ys
  done-append n [] ys = refl
  done-append n (x ∷ xs) ys = ap (λ zs. record x { done = Some n } ∷ zs) (done-append n xs ys)

  done_push : (n : ℕ) (es : List Entry) (x : Entry) (b : Bool) → is_of worker iter x ≡ b
      → done_under n (entries_of worker iter (es ++ x ∷ [])) ≡ done_under n (entries_of worker iter es) ++ (if b then record x { done = Some n } ∷ [] else [])
  done_push n es x true q =
      ap (done_under n) (filter-append (is_of worker iter) es (x ∷ []) ∙ ap (λ (b : Bool). entries_of worker iter es ++ (if b then x ∷ [] else [])) q)
      ∙ done-append n (entries_of worker iter es) (x ∷ [])
  done_push n es x false q =
      ap (done_under n) (filter-append (is_of worker iter) es (x ∷ []) ∙ ap (λ (b : Bool). entries_of worker iter es ++ (if b then x ∷ [] else [])) q)
      ∙ done-append n (entries_of worker iter es) []

  -- what a walk that numbers the entries of the iteration has done before a place
  pub record Numbered (n mark : ℕ) (done live : List Entry) (place : ℕ) (done' : List Entry) (mark' : ℕ) : Type 0 where
    pub items : done' ≡ done ++ done_under n (entries_of worker iter (take place live))
    pub left : mark' ≡ (if has_entry worker iter (take place live) then n + 1 else mark)

  pub numbered_one : (n mark : ℕ) (done live : List Entry) (i : ℕ) (d : Entry) (done' done'' : List Entry) (mark' mark'' : ℕ) → i < length live → Numbered n mark done live i done' mark'
      → is_of worker iter (get_or live i d) ≡ true → done'' ≡ done' ++ record (get_or live i d) { done = Some n } ∷ [] → mark'' ≡ n + 1 → Numbered n mark done live (i + 1) done'' mark''
  numbered_one n mark done live i d done' done'' mark' mark'' h r q e f =
      let x : Entry = get_or live i d in
      let more : take (i + 1) live ≡ take i live ++ x ∷ [] = take_more live i d h in
      record {
        items =
            e ∙ ap (λ xs. xs ++ record x { done = Some n } ∷ []) r.items ∙ append_assoc done (done_under n (entries_of worker iter (take i live))) (record x { done = Some n } ∷ [])
            ∙ ap (λ xs. done ++ xs) (sym (done_push n (take i live) x true q)) ∙ ap (λ xs. done ++ done_under n (entries_of worker iter xs)) (sym more);
        left =
            f ∙ sym (ap (λ xs. if has_entry worker iter xs then n + 1 else mark) more ∙ ap (λ (b : Bool). if b then n + 1 else mark) (has-push (take i live) x ∙ ap (λ b. has_entry worker iter (take i live) || b) q ∙ or_yes (has_entry worker iter (take i live))));
      }

  pub numbered_past : (n mark : ℕ) (done live : List Entry) (i : ℕ) (d : Entry) (done' done'' : List Entry) (mark' mark'' : ℕ) → i < length live → Numbered n mark done live i done' mark'
      → is_of worker iter (get_or live i d) ≡ false → done'' ≡ done' → mark'' ≡ mark' → Numbered n mark done live (i + 1) done'' mark''
  numbered_past n mark done live i d done' done'' mark' mark'' h r q e f =
      let x : Entry = get_or live i d in
      let more : take (i + 1) live ≡ take i live ++ x ∷ [] = take_more live i d h in
      let same : done_under n (entries_of worker iter (take i live ++ x ∷ [])) ≡ done_under n (entries_of worker iter (take i live)) = done_push n (take i live) x false q ∙ append-nil (done_under n (entries_of worker iter (take i live))) in
      record {
        items = e ∙ r.items ∙ ap (λ xs. done ++ xs) (sym same) ∙ ap (λ xs. done ++ done_under n (entries_of worker iter xs)) (sym more);
        left =
            f ∙ r.left ∙ sym (ap (λ xs. if has_entry worker iter xs then n + 1 else mark) more ∙ ap (λ (b : Bool). if b then n + 1 else mark) (has-push (take i live) x ∙ ap (λ b. has_entry worker iter (take i live) || b) q ∙ or_none (has_entry worker iter (take i live))));
      }
