-- The items of an order are read from their lines, and items of numbers have lines of their own.
use Rattle.std.specs.Prelude.{◌≡◌, ℕ, suc, ℤ, pos, negsuc, true, false, not, ◌&&◌, ◌==◌, List, [], ◌∷◌, ◌++◌, FitsSigned, refl}
use Rattle.std.proofs.Common.{sym, ◌∙◌, ap, ap₂, subst, append_assoc, arith}
use Rattle.std.proofs.lemmas.Bool.{and_parts}
use Rattle.std.proofs.lemmas.Fmt.{signed_decimal_injective}
use Rattle.std.specs.Cmp.{unsigned_Decides}
use Rattle.std.specs.Fmt.{decimal, signed_decimal}
use Rattle.std.specs.Int.{w64}
use Rattle.std.specs.List.{AllByRecursion, flat_map}
use Rattle.gx_base.specs.declared.items.Item.{Item}
use Rattle.text_lines.proofs.CallerLemmas.{is_clean, digits-clean, decimal-AreDigitsOf}
use Rattle.told_orders.specs.ItemLines.{has_no_feed, HaveOwnLines, BeginsOtherwise, BeginsWithLines}

-- ---- bytes up to the first line feed

feed_first : (b : ℕ) (bs us ws : List ℕ) → has_no_feed (b ∷ bs) ≡ true → 10 ∷ us ≡ b ∷ ws → ⊥
feed_first b bs us ws none e =
    let first : b ≡ 10 = cc in
    let unclean : false ≡ true = subst (λ (x : ℕ). has_no_feed (x ∷ bs) ≡ true) first none in
    cc

rest_of : (b : ℕ) (bs : List ℕ) → has_no_feed (b ∷ bs) ≡ true → has_no_feed bs ≡ true
rest_of b bs e = (and_parts (not (b == 10)) (has_no_feed bs) e).1

-- two texts that are the same have the same first line, and the same after it
cut_at_feed : (xs ys us vs : List ℕ) → has_no_feed xs ≡ true → has_no_feed ys ≡ true → xs ++ 10 ∷ us ≡ ys ++ 10 ∷ vs → (xs ≡ ys) × (us ≡ vs)
cut_at_feed [] [] us vs c d e = (refl, let rest : us ≡ vs = cc in rest)
cut_at_feed [] (y ∷ ys) us vs c d e = absurd (feed_first y ys us (ys ++ 10 ∷ vs) d e)
cut_at_feed (x ∷ xs) [] us vs c d e = absurd (feed_first x xs vs (xs ++ 10 ∷ us) c (sym e))
cut_at_feed (x ∷ xs) (y ∷ ys) us vs c d e =
    let first : x ≡ y = cc in
    let rest : xs ++ 10 ∷ us ≡ ys ++ 10 ∷ vs = cc in
    let more : (xs ≡ ys) × (us ≡ vs) = cut_at_feed xs ys us vs (rest_of x xs c) (rest_of y ys d) rest in
    (ap₂ ◌∷◌ first more.0, more.1)

tails : (b c : ℕ) (us vs : List ℕ) → b ∷ us ≡ c ∷ vs → us ≡ vs
tails b c us vs e = cc

-- ---- lines of items

module _ (IsOne : Item → Type 0) (first : ℕ) (line : Item → List ℕ) (own : HaveOwnLines IsOne first line) where
  -- the text in front of the first line feed, and what stands after it
  opened : (x : Item) (us : List ℕ) → line x ++ us ≡ first ∷ (own.text x ++ 10 ∷ us)
  opened x us = ap (λ (l : List ℕ). l ++ us) (own.is_line x) ∙ ap (λ (l : List ℕ). first ∷ l) (append_assoc (own.text x) (10 ∷ []) us)

  no_line : (y : Item) (us vs : List ℕ) → BeginsOtherwise first us → us ≡ line y ++ vs → ⊥
  no_line y us vs other e =
      let differ : (first == first) ≡ false = subst (BeginsOtherwise first) (e ∙ opened y vs) other in
      let both : true ≡ false = sym ((unsigned_Decides first first).1 refl) ∙ differ in
      cc

  one_line : (x y : Item) (us vs : List ℕ) → IsOne x → IsOne y → line x ++ us ≡ line y ++ vs → (x ≡ y) × (us ≡ vs)
  one_line x y us vs p q e =
      let texts : (own.text x ≡ own.text y) × (us ≡ vs) =
      cut_at_feed (own.text x) (own.text y) us vs (own.has_one_feed x p) (own.has_one_feed y q) (tails first first _ _ (sym (opened x us) ∙ e ∙ opened y vs)) in
      (own.is_own x y p q (own.is_line x ∙ ap (λ (l : List ℕ). first ∷ (l ++ 10 ∷ [])) texts.0 ∙ sym (own.is_line y)), texts.1)

  all_lines : (xs ys : List Item) (us vs : List ℕ) → AllByRecursion IsOne xs → AllByRecursion IsOne ys → BeginsOtherwise first us → BeginsOtherwise first vs
      → flat_map line xs ++ us ≡ flat_map line ys ++ vs → xs ≡ ys
  all_lines [] [] us vs p q l m e = refl
  all_lines [] (y ∷ ys) us vs p q l m e = absurd (no_line y us (flat_map line ys ++ vs) l (e ∙ append_assoc (line y) (flat_map line ys) vs))
  all_lines (x ∷ xs) [] us vs p q l m e = absurd (no_line x vs (flat_map line xs ++ us) m (sym e ∙ append_assoc (line x) (flat_map line xs) us))
  all_lines (x ∷ xs) (y ∷ ys) us vs p q l m e =
      let both : (x ≡ y) × (flat_map line xs ++ us ≡ flat_map line ys ++ vs) =
      one_line x y (flat_map line xs ++ us) (flat_map line ys ++ vs) p.0 q.0 (sym (append_assoc (line x) (flat_map line xs) us) ∙ e ∙ append_assoc (line y) (flat_map line ys) vs) in
      ap₂ ◌∷◌ both.0 (all_lines xs ys us vs p.1 q.1 l m both.1)

  pub lines_tell : (bytes : List ℕ) (order other : List Item) → AllByRecursion IsOne order → AllByRecursion IsOne other → BeginsWithLines first line bytes order → BeginsWithLines first line bytes other → order ≡ other
  lines_tell bytes order other p q l m = all_lines order other l.more m.more p q l.told_apart m.told_apart (sym l.begins ∙ m.begins)

-- ---- lines of numbers

no_feed_of : (bs : List ℕ) → is_clean bs ≡ true → has_no_feed bs ≡ true
no_feed_of [] e = refl
no_feed_of (b ∷ bs) e =
    let parts : ((not (b == 10) && not (b == 13)) ≡ true) × (is_clean bs ≡ true) = and_parts (not (b == 10) && not (b == 13)) (is_clean bs) e in
    let feed : not (b == 10) ≡ true = (and_parts (not (b == 10)) (not (b == 13)) parts.0).0 in
    rw (feed, no_feed_of bs parts.1) refl

number_has_no_feed : (z : ℤ) → FitsSigned w64 z → has_no_feed (signed_decimal z) ≡ true
number_has_no_feed (pos n) fits = no_feed_of (decimal n) (digits-clean (decimal n) (decimal-AreDigitsOf n (let h = fits.sfits in omega arith)).digits)
number_has_no_feed (negsuc n) fits = no_feed_of (decimal (suc n)) (digits-clean (decimal (suc n)) (decimal-AreDigitsOf (suc n) (let h = fits.sfits in omega arith)).digits)

after_word : (word bs : List ℕ) → has_no_feed word ≡ true → has_no_feed bs ≡ true → has_no_feed (word ++ bs) ≡ true
after_word [] bs e f = f
after_word (b ∷ word) bs e f =
    let parts : (not (b == 10) ≡ true) × (has_no_feed word ≡ true) = and_parts (not (b == 10)) (has_no_feed word) e in
    rw (parts.0, after_word word bs parts.1 f) refl

past_word : (word us vs : List ℕ) → word ++ us ≡ word ++ vs → us ≡ vs
past_word [] us vs e = e
past_word (b ∷ word) us vs e = past_word word us vs (tails b b _ _ e)

-- the item of one number, which has 64 bits
pub record IsOfNumber (item : Item) : Type 0 where
  pub is : item ≡ record { k0 = item.k0; k1 = pos 0; k2 = pos 0; k3 = pos 0 }
  pub fits : FitsSigned w64 item.k0

same_items : (x y : Item) → IsOfNumber x → IsOfNumber y → x.k0 ≡ y.k0 → x ≡ y
same_items x y p q e = p.is ∙ ap (λ (k : ℤ). record { k0 = k; k1 = pos 0; k2 = pos 0; k3 = pos 0 }) e ∙ sym q.is

-- the number after a word
abbrev pub number_text : List ℕ → Item → List ℕ
number_text word item = word ++ signed_decimal item.k0

pub number_lines : (first : ℕ) (word : List ℕ) → has_no_feed word ≡ true → HaveOwnLines IsOfNumber first (λ item. first ∷ (number_text word item ++ 10 ∷ []))
number_lines first word none = record { text = number_text word; is_line = λ item. refl; has_one_feed = has_one_feed; is_own = is_own }
  where
    has_one_feed : (item : Item) → IsOfNumber item → has_no_feed (number_text word item) ≡ true
    has_one_feed item is = after_word word (signed_decimal item.k0) none (number_has_no_feed item.k0 is.fits)

    is_own : (item other : Item) → IsOfNumber item → IsOfNumber other → first ∷ (number_text word item ++ 10 ∷ []) ≡ first ∷ (number_text word other ++ 10 ∷ []) → item ≡ other
    is_own item other p q e =
        let texts : (number_text word item ≡ number_text word other) × ([] ≡ []) =
        cut_at_feed (number_text word item) (number_text word other) [] [] (has_one_feed item p) (has_one_feed other q) (tails first first _ _ e) in
        same_items item other p q (signed_decimal_injective item.k0 other.k0 p.fits.sfits q.fits.sfits (past_word word _ _ texts.0))
