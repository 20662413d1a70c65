-- The entries of iterations in a list of entries, as it changes.
use Rattle.std.specs.Prelude.{◌≡◌, ℕ, Bool, true, false, not, ◌&&◌, ◌||◌, ◌==◌, if◌then◌else◌, Option, Some, None, List, [], ◌∷◌, ◌++◌, refl}
use Rattle.std.proofs.Common.{sym, ◌∙◌, ap}
use Rattle.std.proofs.lemmas.List.Elements.{filter-append}
use Rattle.gx_base.specs.declared.items.Item.{Item}
use Rattle.gx_base.specs.declared.acts.Entry.{Entry}
use Rattle.gate_core.specs.Entries.{made_of, mades_of, is_of, entries_of, others_than, has_entry, last_of, without_last, Each}
use Rattle.gate_core.proofs.CallerLemmas.{numbers_of}
use Rattle.speculation.proofs.Putting.{no_bool, same_number}

pub some_same : {A : Type 0} {x y : A} → Some x ≡ Some y → x ≡ y
some_same e = cc

pub of_one : (worker iter : ℕ) (x : Entry) → is_of worker iter x ≡ true → entries_of worker iter (x ∷ []) ≡ x ∷ []
of_one worker iter x e = ap (λ (b : Bool). if b then x ∷ [] else []) e

pub of_none : (worker iter : ℕ) (x : Entry) → is_of worker iter x ≡ false → entries_of worker iter (x ∷ []) ≡ []
of_none worker iter x e = ap (λ (b : Bool). if b then x ∷ [] else []) e

pub of_append : (worker iter : ℕ) (xs ys : List Entry) → entries_of worker iter (xs ++ ys) ≡ entries_of worker iter xs ++ entries_of worker iter ys
of_append worker iter xs ys = filter-append (is_of worker iter) xs ys

take_in : (worker iter : ℕ) (x : Entry) (os : List Entry) → is_of worker iter x ≡ true → entries_of worker iter (x ∷ os) ≡ x ∷ entries_of worker iter os
take_in worker iter x os e = ap (λ (b : Bool). if b then x ∷ entries_of worker iter os else entries_of worker iter os) e

skip : (worker iter : ℕ) (x : Entry) (os : List Entry) → is_of worker iter x ≡ false → entries_of worker iter (x ∷ os) ≡ entries_of worker iter os
skip worker iter x os e = ap (λ (b : Bool). if b then x ∷ entries_of worker iter os else entries_of worker iter os) e

-- ---- the others have none of the iteration

none_by : (worker iter : ℕ) (x : Entry) (os : List Entry) (b : Bool) → is_of worker iter x ≡ b → entries_of worker iter os ≡ [] → entries_of worker iter (if not b then x ∷ os else os) ≡ []
none_by worker iter x os true e h = h
none_by worker iter x os false e h = skip worker iter x os e ∙ h

pub of_others : (worker iter : ℕ) (es : List Entry) → entries_of worker iter (others_than worker iter es) ≡ []
of_others worker iter [] = refl
of_others worker iter (x ∷ es) = none_by worker iter x (others_than worker iter es) (is_of worker iter x) refl (of_others worker iter es)

-- ---- what is released or undone leaves the entries of other workers

other_worker : (worker iter v j : ℕ) (x : Entry) → (worker == v) ≡ false → is_of worker iter x ≡ true → is_of v j x ≡ false
other_worker worker iter v j x n h = ap (λ k. (k == v) && (x.iter == j)) (numbers_of worker iter x h).0 ∙ ap (λ (b : Bool). b && (x.iter == j)) n

cons_same : (v j : ℕ) (x : Entry) (os ps : List Entry) → entries_of v j os ≡ entries_of v j ps → entries_of v j (x ∷ os) ≡ entries_of v j (x ∷ ps)
cons_same v j x os ps h = ap (λ (ms : List Entry). if is_of v j x then x ∷ ms else ms) h

module _ (worker iter v j : ℕ) (apart : (worker == v) ≡ false) where
  others_by : (x : Entry) (es os : List Entry) (b : Bool) → is_of worker iter x ≡ b → entries_of v j os ≡ entries_of v j es → entries_of v j (if not b then x ∷ os else os) ≡ entries_of v j (x ∷ es)
  others_by x es os true e h = h ∙ sym (skip v j x es (other_worker worker iter v j x apart e))
  others_by x es os false e h = cons_same v j x os es h

  pub others_leave : (es : List Entry) → entries_of v j (others_than worker iter es) ≡ entries_of v j es
  others_leave [] = refl
  others_leave (x ∷ es) = others_by x es (others_than worker iter es) (is_of worker iter x) refl (others_leave es)

  last_by : (x : Entry) (es os : List Entry) (b c : Bool) → is_of worker iter x ≡ c → entries_of v j os ≡ entries_of v j es
      → entries_of v j (if b then x ∷ os else (if c then es else x ∷ es)) ≡ entries_of v j (x ∷ es)
  last_by x es os true c e h = cons_same v j x os es h
  last_by x es os false true e h = sym (skip v j x es (other_worker worker iter v j x apart e))
  last_by x es os false false e h = refl

  pub without_leaves : (es : List Entry) → entries_of v j (without_last worker iter es) ≡ entries_of v j es
  without_leaves [] = refl
  without_leaves (x ∷ es) = last_by x es (without_last worker iter es) (has_entry worker iter es) (is_of worker iter x) refl (without_leaves es)

-- ---- the last entry of an iteration stands after its others

absent_by : (worker iter : ℕ) (x : Entry) (es : List Entry) (b : Bool) → (b || has_entry worker iter es) ≡ false → (has_entry worker iter es ≡ false → entries_of worker iter es ≡ [])
    → (if b then x ∷ entries_of worker iter es else entries_of worker iter es) ≡ []
absent_by worker iter x es true n h = absurd (cc)
absent_by worker iter x es false n h = h n

pub absent : (worker iter : ℕ) (es : List Entry) → has_entry worker iter es ≡ false → entries_of worker iter es ≡ []
absent worker iter [] n = refl
absent worker iter (x ∷ es) n = absent_by worker iter x es (is_of worker iter x) n (absent worker iter es)

pub record LastFits (worker iter : ℕ) (es : List Entry) (o : Option Entry) (without : List Entry) : Type 0 where
  pub some : (u : Entry) → o ≡ Some u → mades_of (entries_of worker iter es) ≡ mades_of (entries_of worker iter without) ++ made_of u ∷ []
  pub none : o ≡ None → has_entry worker iter es ≡ false

grow_by : (worker iter : ℕ) (x u : Entry) (es os : List Entry) (b : Bool) → mades_of (entries_of worker iter es) ≡ mades_of (entries_of worker iter os) ++ made_of u ∷ []
    → mades_of (if b then x ∷ entries_of worker iter es else entries_of worker iter es) ≡ mades_of (if b then x ∷ entries_of worker iter os else entries_of worker iter os) ++ made_of u ∷ []
grow_by worker iter x u es os true h = ap (λ ms. made_of x ∷ ms) h
grow_by worker iter x u es os false h = h

last_fits_by : (worker iter : ℕ) (x : Entry) (es : List Entry) (b c : Bool) → has_entry worker iter es ≡ b → is_of worker iter x ≡ c → LastFits worker iter es (last_of worker iter es) (without_last worker iter es)
    → LastFits worker iter (x ∷ es) (if b then last_of worker iter es else (if c then Some x else None)) (if b then x ∷ without_last worker iter es else (if c then es else x ∷ es))
last_fits_by worker iter x es true c e f h = record {
  some = λ u k. grow_by worker iter x u es (without_last worker iter es) (is_of worker iter x) (h.some u k);
  none = λ k. absurd (no_bool (has_entry worker iter es) e (h.none k));
}
last_fits_by worker iter x es false true e f h = record {
  some = λ u k. ap mades_of (take_in worker iter x es f ∙ ap (λ ms. x ∷ ms) (absent worker iter es e)) ∙ ap (λ (y : Entry). made_of y ∷ []) (some_same k) ∙ ap (λ (ms : List Entry). mades_of ms ++ made_of u ∷ []) (sym (absent worker iter es e));
  none = λ k. absurd (cc);
}
last_fits_by worker iter x es false false e f h = record { some = λ u k. absurd (cc); none = λ k. ap (λ (p : Bool). p || has_entry worker iter es) f ∙ e }

pub last_fits : (worker iter : ℕ) (es : List Entry) → LastFits worker iter es (last_of worker iter es) (without_last worker iter es)
last_fits worker iter [] = record { some = λ u k. absurd (cc); none = λ k. refl }
last_fits worker iter (x ∷ es) = last_fits_by worker iter x es (has_entry worker iter es) (is_of worker iter x) refl refl (last_fits worker iter es)

-- ---- entries of present iterations

-- an entry of the worker is of this iteration, on this item
abbrev pub IsCurrent : ℕ → ℕ → Item → Entry → Type 0
IsCurrent worker iter item e = (e.worker == worker) ≡ true → (e.iter ≡ iter) × (e.item ≡ item)

pub current_of : (worker iter : ℕ) (item : Item) (e : Entry) → IsCurrent worker iter item e → (e.worker == worker) ≡ true → is_of worker iter e ≡ true
current_of worker iter item e h w = λ i. w i && ((ap (λ k. k == iter) (h w).0 ∙ same_number iter) i)

no_entry : (x : Entry) (ms : List Entry) (b : Bool) → (if b then x ∷ ms else ms) ≡ [] → (b ≡ false) × (ms ≡ [])
no_entry x ms true e = absurd (cc)
no_entry x ms false e = (refl, e)

-- where the iteration has no entry, the first one isn't its worker's, and the others have none
pub none_first : (worker iter : ℕ) (item : Item) (x : Entry) (es : List Entry) → IsCurrent worker iter item x → entries_of worker iter (x ∷ es) ≡ [] → ((x.worker == worker) ≡ true → ⊥) × (entries_of worker iter es ≡ [])
none_first worker iter item x es c n =
    let p : (is_of worker iter x ≡ false) × (entries_of worker iter es ≡ []) = no_entry x (entries_of worker iter es) (is_of worker iter x) n in
    (λ w. no_bool (is_of worker iter x) (current_of worker iter item x c w) p.0, p.1)

-- a worker without entries may begin any iteration
pub record Fresh (worker iter : ℕ) (item : Item) (es : List Entry) : Type 0 where
  pub current : Each (IsCurrent worker iter item) es
  pub none : entries_of worker iter es ≡ []

not_own_by : (worker iter : ℕ) (x : Entry) (os : List Entry) (b : Bool) → is_of worker iter x ≡ b → ((x.worker == worker) ≡ true → ⊥) → (if b then x ∷ os else os) ≡ os
not_own_by worker iter x os true e n = absurd (n (ap (λ k. k == worker) (numbers_of worker iter x e).0 ∙ same_number worker))
not_own_by worker iter x os false e n = refl

pub fresh : (worker old iter : ℕ) (was item : Item) (es : List Entry) → Each (IsCurrent worker old was) es → entries_of worker old es ≡ [] → Fresh worker iter item es
fresh worker old iter was item [] c n = record { current = tt; none = refl }
fresh worker old iter was item (x ∷ es) c n =
    let p : ((x.worker == worker) ≡ true → ⊥) × (entries_of worker old es ≡ []) = none_first worker old was x es c.0 n in
    let rest : Fresh worker iter item es = fresh worker old iter was item es c.1 p.1 in
    record { current = (λ w. absurd (p.0 w), rest.current); none = not_own_by worker iter x (entries_of worker iter es) (is_of worker iter x) refl p.0 ∙ rest.none }

-- where no worker has an entry, there is none
pub nobody : (iter : ℕ → ℕ) (item : ℕ → Item) (es : List Entry) → ((worker : ℕ) → Each (IsCurrent worker (iter worker) (item worker)) es) → ((worker : ℕ) → entries_of worker (iter worker) es ≡ []) → es ≡ []
nobody iter item [] c n = refl
nobody iter item (x ∷ es) c n = absurd ((none_first x.worker (iter x.worker) (item x.worker) x es (c x.worker).0 (n x.worker)).0 (same_number x.worker))

pub no_mades : (es : List Entry) → mades_of es ≡ [] → es ≡ []
no_mades [] e = refl
no_mades (x ∷ es) e = absurd (cc)
