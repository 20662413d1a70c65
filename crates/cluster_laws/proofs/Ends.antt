-- What a whole run on points ends in.
use Rattle.std.proofs.Common.{◌≡◌, ◌⊎◌, inl, inr, ℕ, zero, suc, ◌+◌, ◌<◌, ◌≤◌, pos, Bool, true, false, if◌then◌else◌, Option, Some, None, List, [], ◌++◌, refl, sym, ap, ◌∙◌, arith}
use Rattle.std.specs.Prelude.{unsigned_abs, ◌==◌}
use Rattle.std.specs.List.{flat_map, range_with_len}
use Rattle.std.proofs.lemmas.Bool.{cases_lt}
use Rattle.std.proofs.lemmas.List.{append-nil}
use Rattle.std.proofs.lemmas.List.Concat.{flat_map-cons}
use Rattle.gx_base.specs.declared.calls.Spot.{Spot}
use Rattle.gx_base.specs.declared.items.Item.{Item}
use Rattle.gx_base.specs.declared.kinds.Kind.TheVariants.{Cells, Points}
use Rattle.gx_base.specs.Kinds.{kind_number}
use Rattle.gx_base.specs.PointKind.{spot_at}
use Rattle.gx_base.specs.States.{State, number_at}
use Rattle.gx_base.specs.Worklists.{has_item}
use Rattle.clustering.specs.Chain.{id_item}
use Rattle.clustering.specs.CloudRooms.{point_in, cell_in}
use Rattle.clustering.specs.ClusterReports.{commit_line, gone_line, there_line, left_line, if_left}
use Rattle.cluster_laws.specs.ClusterRuns.{EndsInOne}
use Rattle.cluster_laws.proofs.Bodies.{HoldsBetween}
use Rattle.cluster_laws.proofs.Clouds.{IsCloud, IsSingle}
use Rattle.cluster_laws.proofs.Counts.{numbers_equal, same_number, no_bool, total, total_some, total_one}
use Rattle.cluster_laws.proofs.Items.{none_of}

-- ---- lines of which one isn't empty

flat_none : (f : ℕ → List ℕ) (a n : ℕ) → ((k : ℕ) → a ≤ k → f k ≡ []) → flat_map f (range_with_len a n) ≡ []
flat_none f a zero h = refl
flat_none f a (suc n) h =
    flat_map-cons f a (range_with_len (a + 1) n) ∙ ap (λ (l : List ℕ). l ++ flat_map f (range_with_len (a + 1) n)) (h a (omega arith)) ∙ flat_none f (a + 1) n (λ k l. h k (omega arith))

below : (a i : ℕ) → a ≤ i → (a ≡ i → ⊥) → a + 1 ≤ i
below a i l apart = by (cases_lt a i)
  where
    by : (a < i) ⊎ (i ≤ a) → a + 1 ≤ i
    by (inl less) = omega arith
    by (inr more) = let same : a ≡ i = omega arith in absurd (apart same)

flat_one : (f : ℕ → List ℕ) (i n a : ℕ) → a ≤ i → i < a + n → ((k : ℕ) → (k ≡ i → ⊥) → f k ≡ []) → flat_map f (range_with_len a n) ≡ f i
flat_one f i zero a l m h = absurd (omega arith)
flat_one f i (suc n) a l m h = flat_map-cons f a (range_with_len (a + 1) n) ∙ by (a == i) refl (λ less. flat_one f i n (a + 1) less (omega arith) h)
  where
    by : (b : Bool) → (a == i) ≡ b → (a + 1 ≤ i → flat_map f (range_with_len (a + 1) n) ≡ f i) → f a ++ flat_map f (range_with_len (a + 1) n) ≡ f i
    by true e rest =
        let is : a ≡ i = numbers_equal a i e in
        ap (λ (l : List ℕ). f a ++ l) (flat_none f (a + 1) n (λ k less. h k (λ same. omega arith))) ∙ append-nil (f a) ∙ ap f is
    by false e rest =
        let apart : a ≡ i → ⊥ = λ same. no_bool (a == i) (ap (λ (x : ℕ). x == i) same ∙ same_number i) e in
        let less : a + 1 ≤ i = below a i l apart in
        ap (λ (l : List ℕ). l ++ flat_map f (range_with_len (a + 1) n)) (h a apart) ∙ rest less

-- ---- one point is left

module _ (n : ℕ) (after : ℕ → State) (cloud : IsCloud n after) (some : 0 < n) where
  -- a point that is left, by its number
  abbrev IsLeft : ℕ → Spot → Type 0
  IsLeft k r = spot_at (after 0) (pos k) ≡ Some r

  weighty : (k : ℕ) × (k < n) × (0 < cloud.weight k)
  weighty = let sum : total cloud.weight n ≡ n = cloud.sum in total_some cloud.weight n (omega arith)

  found_at : (k : ℕ) → 0 < cloud.weight k → (o : Option Spot) → spot_at (after 0) (pos k) ≡ o → (r : Spot) × IsLeft k r
  found_at k l None e = let none : cloud.weight k ≡ 0 = cloud.absent k e in absurd (omega arith)
  found_at k l (Some r) e = (r, e)

  left_one : (r : Spot) × IsLeft weighty.0 r
  left_one = found_at weighty.0 weighty.2 (spot_at (after 0) (pos weighty.0)) refl

  -- the others are gone
  others_gone : IsSingle (after 0) → (k : ℕ) → (k ≡ weighty.0 → ⊥) → (o : Option Spot) → spot_at (after 0) (pos k) ≡ o → spot_at (after 0) (pos k) ≡ None
  others_gone single k apart None e = e
  others_gone single k apart (Some t) e = absurd (apart (ap unsigned_abs (single (pos k) (pos weighty.0) t left_one.0 e left_one.1)))

  its_weight : IsSingle (after 0) → cloud.weight weighty.0 ≡ n
  its_weight single =
      sym (total_one cloud.weight weighty.0 n weighty.1 (λ k l apart. cloud.absent k (others_gone single k apart (spot_at (after 0) (pos k)) refl))) ∙ cloud.sum

  in_points : (k : ℕ) → point_in after (pos k) ≡ spot_at (after 0) (pos k)
  in_points k = ap (λ (kind : ℕ). if kind == kind_number Points then spot_at (after 0) (pos k) else None) cloud.are.are_points

  in_cells : (k : ℕ) → cell_in after (pos k) ≡ number_at (after 1) (0, pos k)
  in_cells k = ap (λ (kind : ℕ). if kind == kind_number Cells then number_at (after 1) (0, pos k) else pos 0) cloud.cells

  its_line : IsSingle (after 0) → there_line after weighty.0 ≡ left_line left_one.0 (pos n)
  its_line single =
      ap (if_left after (pos weighty.0)) (in_points weighty.0 ∙ left_one.1)
      ∙ ap (left_line left_one.0) (in_cells weighty.0 ∙ (cloud.weighs weighty.0 left_one.0 left_one.1).0 ∙ ap pos (its_weight single))

  no_line : IsSingle (after 0) → (k : ℕ) → (k ≡ weighty.0 → ⊥) → there_line after k ≡ []
  no_line single k apart = ap (if_left after (pos k)) (in_points k ∙ others_gone single k apart (spot_at (after 0) (pos k)) refl)

  one_line : IsSingle (after 0) → flat_map (there_line after) (range_with_len 0 n) ≡ left_line left_one.0 (pos n)
  one_line single =
      let below : weighty.0 < n = weighty.1 in
      flat_one (there_line after) weighty.0 n 0 (omega arith) (omega arith) (no_line single) ∙ its_line single

  is_single : HoldsBetween n after [] → IsSingle (after 0)
  is_single (c, inl wait) = absurd (no_bool (has_item [] (id_item (pos weighty.0))) (wait (pos weighty.0) left_one.0 left_one.1) (none_of (id_item (pos weighty.0))))
  is_single (c, inr single) = single

pub ends_in_one : (n : ℕ) (order : List Item) (after : ℕ → State) → HoldsBetween n after [] → 0 < n → EndsInOne n order after
ends_in_one n order after h some = record {
  spot = (left_one n after h.0 some).0;
  is = ap (λ (l : List ℕ). flat_map commit_line order ++ flat_map (gone_line after) (range_with_len 0 n) ++ l) (one_line n after h.0 some (is_single n after h.0 some h));
}
