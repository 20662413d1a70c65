-- The points that a walk over the nodes gathers.
use Rattle.std.specs.Prelude.{◌≡◌, ℕ, zero, ◌+◌, ◌<◌, ◌≤◌, true, false, Option, Some, None, List, [], ◌∷◌, ◌++◌, ◌↔◌, refl, ◌⊎◌}
use Rattle.std.proofs.Common.{sym, ◌∙◌, ap, subst, arith, inl, inr}
use Rattle.std.specs.List.{Contains}
use Rattle.std.specs.Ordering.{int_eq}
use Rattle.std.proofs.lemmas.List.Elements.{Contains-append_left, Contains-append_right, Contains-append_cases}
use Rattle.slab.specs.Slab.{entries, entries_from}
use Rattle.slab.proofs.SlabLemmas.{Contains-cons, Contains-cons_cases, Contains-entries}
use Rattle.gx_base.specs.declared.calls.Spot.{Spot}
use Rattle.point_trees.specs.declared.nodes.Node.{Node}
use Rattle.point_trees.specs.declared.tree.Tree.{Tree}
use Rattle.point_trees.specs.TreeStates.{node_at, key_of, IsSound}
use Rattle.point_trees.specs.Rebuilding.{IsPointOf, HaveOwnIds}
use Rattle.point_trees.proofs.states.Basics.{some_is, same_int, false_of, not_both}
use Rattle.point_trees.proofs.searches.Ends.{live_there, there_live}
use Rattle.point_trees.proofs.trees.LiveNodes.{IsNodeOf, IsLive}
use Rattle.point_trees.proofs.rebuilds.Gathering.{contains_one, one_of}
use Rattle.point_trees.proofs.rebuilds.Halves.{own_none, own_more}

-- the keys rise, from this number on
abbrev pub Rising : ℕ → List (ℕ × Node) → Type 0
Rising low [] = Unit {0}
Rising low (e ∷ rest) = (low ≤ e.0) × Rising (e.0 + 1) rest

rising_lower : (low high : ℕ) (es : List (ℕ × Node)) → low ≤ high → Rising high es → Rising low es
rising_lower low high [] b h = tt
rising_lower low high (e ∷ es) b h = (let c : high ≤ e.0 = h.0 in omega arith, h.1)

entries_rise : (slots : List (Option Node)) (from : ℕ) → Rising from (entries_from from slots)
entries_rise [] from = tt
entries_rise (None ∷ slots) from = rising_lower from (from + 1) (entries_from (from + 1) slots) (omega arith) (entries_rise slots (from + 1))
entries_rise (Some n ∷ slots) from = (omega arith, entries_rise slots (from + 1))

-- where the walk has come to: what it has gathered has nodes before, and an id each
pub record Walked (tree : Tree) (spots : List Spot) (left : List (ℕ × Node)) : Type 0 where
  pub low : ℕ
  pub rising : Rising low left
  pub every : (key : ℕ) (n : Node) → node_at tree key ≡ Some n → n.live ≡ true → Contains spots n.spot ⊎ Contains left (key, n)
  pub there : (key : ℕ) (n : Node) → Contains left (key, n) → node_at tree key ≡ Some n
  pub passed : (r : Spot) → Contains spots r → (i : ℕ) × (i < low) × IsNodeOf (node_at tree i) r
  pub own : HaveOwnIds spots

pub walk_begun : (tree : Tree) (spots : List Spot) (left : List (ℕ × Node)) → spots ≡ [] → left ≡ entries tree.nodes → Walked tree spots left
walk_begun tree spots left e f = record {
  low = 0;
  rising = subst (Rising 0) (sym f) (entries_rise tree.nodes.slots 0);
  every = λ key n g l. inr (subst (λ xs. Contains xs (key, n)) (sym f) ((Contains-entries tree.nodes key n).1 g));
  there = λ key n h. (Contains-entries tree.nodes key n).0 (subst (λ xs. Contains xs (key, n)) f h);
  passed = λ r h. absurd (let h' : Contains [] r = subst (λ xs. Contains xs r) e h in let b : h'.0 < 0 = h'.1 in omega arith);
  own = subst HaveOwnIds (sym e) own_none;
}

node_where : (o : Option Node) (r : Spot) → IsNodeOf o r → (n : Node) × (o ≡ Some n) × (n.live ≡ true) × (n.spot ≡ r)
node_where None r h = absurd h
node_where (Some n) r h = (n, refl, h.0, h.1)

module _ (tree : Tree) (spots : List Spot) (left rest : List (ℕ × Node)) (key : ℕ) (n : Node) (e : left ≡ (key, n) ∷ rest) (w : Walked tree spots left) where
  here_is : node_at tree key ≡ Some n
  here_is = w.there key n (subst (λ xs. Contains xs (key, n)) (sym e) (zero, omega arith, refl))

  rest_there : (k : ℕ) (m : Node) → Contains rest (k, m) → node_at tree k ≡ Some m
  rest_there k m h = w.there k m (subst (λ xs. Contains xs (k, m)) (sym e) (Contains-cons (key, n) (k, m) rest h))

  now_rising : Rising w.low ((key, n) ∷ rest)
  now_rising = subst (Rising w.low) e w.rising

  low_key : w.low ≤ key
  low_key = now_rising.0

  passed_still : (r : Spot) → Contains spots r → (i : ℕ) × (i < key + 1) × IsNodeOf (node_at tree i) r
  passed_still r h = let x = w.passed r h in (x.0, let b : x.0 < w.low = x.1 in let c : w.low ≤ key = low_key in omega arith, x.2)

  -- the ids before are others, since each has the key of its own node
  others : IsSound tree → n.live ≡ true → (r : Spot) → Contains spots r → int_eq n.spot.id r.id ≡ false
  others s l r h = false_of (int_eq n.spot.id r.id) (λ t.
      let x = w.passed r h in
      let m : (m : Node) × (node_at tree x.0 ≡ Some m) × (m.live ≡ true) × (m.spot ≡ r) = node_where (node_at tree x.0) r x.2 in
      let ids : m.0.spot.id ≡ n.spot.id = ap (λ (y : Spot). y.id) m.3 ∙ sym (same_int n.spot.id r.id t) in
      let keys : x.0 ≡ key = some_is x.0 key (sym (s.placed.owned x.0 m.0 m.1 m.2) ∙ ap (key_of tree) ids ∙ s.placed.owned key n here_is l) in
      let b : x.0 < w.low = x.1 in let c : w.low ≤ key = low_key in omega arith)

  pub walk_taken : IsSound tree → (more : List Spot) → n.live ≡ true → more ≡ spots ++ n.spot ∷ [] → Walked tree more rest
  walk_taken s more l f = record {
    low = key + 1;
    rising = now_rising.1;
    every = λ k m g h. by_every k m (w.every k m g h);
    there = rest_there;
    passed = λ r h. by_passed r (Contains-append_cases spots (n.spot ∷ []) r (subst (λ xs. Contains xs r) f h));
    own = subst HaveOwnIds (sym f) (own_more spots n.spot w.own (others s l));
  }
    where
      by_left : (k : ℕ) (m : Node) → (◌≡◌ {A = ℕ × Node} (key, n) (k, m)) ⊎ Contains rest (k, m) → Contains more m.spot ⊎ Contains rest (k, m)
      by_left k m (inl p) =
          inl (subst (λ xs. Contains xs m.spot) (sym f) (Contains-append_right spots (n.spot ∷ []) m.spot (subst (Contains (n.spot ∷ [])) (ap (λ (x : ℕ × Node). x.1.spot) p) (one_of n.spot))))
      by_left k m (inr h) = inr h

      by_every : (k : ℕ) (m : Node) → Contains spots m.spot ⊎ Contains left (k, m) → Contains more m.spot ⊎ Contains rest (k, m)
      by_every k m (inl h) = inl (subst (λ xs. Contains xs m.spot) (sym f) (Contains-append_left spots (n.spot ∷ []) m.spot h))
      by_every k m (inr h) = by_left k m (Contains-cons_cases (key, n) (k, m) rest (subst (λ xs. Contains xs (k, m)) e h))

      by_passed : (r : Spot) → Contains spots r ⊎ Contains (n.spot ∷ []) r → (i : ℕ) × (i < key + 1) × IsNodeOf (node_at tree i) r
      by_passed r (inl h) = passed_still r h
      by_passed r (inr h) = (key, omega arith, subst (λ o. IsNodeOf o r) (sym here_is) (l, contains_one n.spot r h))

  pub walk_passed : n.live ≡ false → Walked tree spots rest
  walk_passed d = record { low = key + 1; rising = now_rising.1; every = λ k m g l. by_every k m l (w.every k m g l); there = rest_there; passed = passed_still; own = w.own }
    where
      by_left : (k : ℕ) (m : Node) → m.live ≡ true → (◌≡◌ {A = ℕ × Node} (key, n) (k, m)) ⊎ Contains rest (k, m) → Contains spots m.spot ⊎ Contains rest (k, m)
      by_left k m l (inl p) = absurd (not_both m.live l (ap (λ (x : ℕ × Node). x.1.live) (sym p) ∙ d))
      by_left k m l (inr h) = inr h

      by_every : (k : ℕ) (m : Node) → m.live ≡ true → Contains spots m.spot ⊎ Contains left (k, m) → Contains spots m.spot ⊎ Contains rest (k, m)
      by_every k m l (inl h) = inl h
      by_every k m l (inr h) = by_left k m l (Contains-cons_cases (key, n) (k, m) rest (subst (λ xs. Contains xs (k, m)) e h))

pub walk_done : (tree : Tree) (spots : List Spot) (left : List (ℕ × Node)) → IsSound tree → left ≡ [] → Walked tree spots left → (r : Spot) → Contains spots r ↔ IsPointOf tree r
walk_done tree spots left s e w r = (λ h. let x = w.passed r h in live_there tree r s (x.0, x.2), λ h. by_live (there_live tree r.id r h))
  where
    by_every : (key : ℕ) (n : Node) → n.spot ≡ r → Contains spots n.spot ⊎ Contains left (key, n) → Contains spots r
    by_every key n same (inl h) = subst (Contains spots) same h
    by_every key n same (inr h) = absurd (let h' : Contains [] (key, n) = subst (λ xs. Contains xs (key, n)) e h in let b : h'.0 < 0 = h'.1 in omega arith)

    by_live : IsLive (node_at tree) r → Contains spots r
    by_live l = let x : (n : Node) × (node_at tree l.0 ≡ Some n) × (n.live ≡ true) × (n.spot ≡ r) = node_where (node_at tree l.0) r l.1 in by_every l.0 x.0 x.3 (w.every l.0 x.0 x.1 x.2)
