-- What a search knows after each step.
use Rattle.std.specs.Prelude.{◌≡◌, ℕ, zero, suc, ◌≤◌, ℤ, Bool, true, false, not, ◌&&◌, if◌then◌else◌, Option, Some, None, List, [], ◌∷◌, ◌++◌, refl, ◌⊎◌}
use Rattle.std.proofs.Common.{sym, ◌∙◌, ap, subst, arith, inl, inr}
use Rattle.std.specs.Ordering.{int_eq}
use Rattle.gx_base.specs.declared.calls.Spot.{Spot}
use Rattle.gx_base.specs.Spots.{beyond, distance, far}
use Rattle.gx_base.specs.PointKind.{nearer}
use Rattle.point_trees.specs.declared.nodes.Node.{Node}
use Rattle.point_trees.specs.declared.search.Pending.{Pending}
use Rattle.point_trees.proofs.searches.NearestLaws.{beyond-upto, beyond-back, beyond-itself}
use Rattle.point_trees.specs.Trees.{Nodes, is_left, child, child_of, way, is_bare, IsTree, IsOpenTo}
use Rattle.point_trees.proofs.trees.LiveNodes.{IsNodeOf, IsLive}
use Rattle.point_trees.specs.Searches.{other_of, to_plane, pending_at, is_past, far_side, sides_of}
use Rattle.point_trees.proofs.searches.Searched.{Leads, Within, IsLiveOther, IsAwaited, IsAwaitedIn, IsSearched}
use Rattle.point_trees.proofs.states.Basics.{some_none, some_is, not_both, and_parts, not_true}
use Rattle.point_trees.proofs.trees.Openings.{moved}
use Rattle.point_trees.proofs.searches.Pruning.{plane_before}
use Rattle.point_trees.proofs.searches.Takings.{past_within}

-- the nearer of two points
kept_if : (q c m r : Spot) (b : Bool) → beyond q c m ≡ b → beyond q m r ≡ false → Within q (Some (if b then m else c)) r
kept_if q c m r true e h = h
kept_if q c m r false e h = beyond-upto q c m r e h

nearer_kept : (q : Spot) (o best : Option Spot) (r : Spot) → Within q best r → Within q (nearer q o best) r
nearer_kept q None best r h = h
nearer_kept q (Some c) None r h = absurd h
nearer_kept q (Some c) (Some m) r h = kept_if q c m r (beyond q c m) refl h

new_if : (q c m : Spot) (b : Bool) → beyond q c m ≡ b → Within q (Some (if b then m else c)) c
new_if q c m true e = beyond-back q c m e
new_if q c m false e = beyond-itself q c

nearer_new : (q c : Spot) (best : Option Spot) → Within q (nearer q (Some c) best) c
nearer_new q c None = beyond-itself q c
nearer_new q c (Some m) = new_if q c m (beyond q c m) refl

source_if : (c m n : Spot) (b : Bool) → Some (if b then m else c) ≡ Some n → (Some m ≡ Some n) ⊎ (Some c ≡ Some n)
source_if c m n true e = inl e
source_if c m n false e = inr e

nearer_source : (q : Spot) (o best : Option Spot) (n : Spot) → nearer q o best ≡ Some n → (best ≡ Some n) ⊎ (o ≡ Some n)
nearer_source q None best n e = inl e
nearer_source q (Some c) None n e = inr e
nearer_source q (Some c) (Some m) n e = source_if c m n (beyond q c m) e

if_some : (b : Bool) (x r : Spot) → (if b then Some x else None) ≡ Some r → (b ≡ true) × (x ≡ r)
if_some true x r e = (refl, some_is x r e)
if_some false x r e = absurd (some_none r e)

other_is : (look : Nodes) (q : Spot) (i : ℕ) (n : Node) (m : Spot) → look i ≡ Some n → other_of q n ≡ Some m → IsLiveOther look q m
other_is look q i n m g e =
    let p : ((n.live && not (int_eq n.spot.id q.id)) ≡ true) × (n.spot ≡ m) = if_some _ n.spot m e in
    let l : (n.live ≡ true) × (not (int_eq n.spot.id q.id) ≡ true) = and_parts _ _ p.0 in
    ((i, subst (λ o. IsNodeOf o m) (sym g) (l.0, p.1)), ap (λ (s : Spot). int_eq s.id q.id) (sym p.1) ∙ not_true _ l.1)

is_other : (q : Spot) (n : Node) (r : Spot) → n.live ≡ true → n.spot ≡ r → int_eq r.id q.id ≡ false → other_of q n ≡ Some r
is_other q n r l s d =
    ap (λ b. if b && not (int_eq n.spot.id q.id) then Some n.spot else None) l
    ∙ ap (λ b. if not b then Some n.spot else None) (ap (λ (t : Spot). int_eq t.id q.id) s ∙ d) ∙ ap Some s

-- the point stands under a node as its point, or under the child on its side
abbrev pub Under : Nodes → Option ℕ → Spot → Type 0
Under look from r = (k : ℕ) × Leads look r k from

here_or_under : (look : Nodes) (i : ℕ) (n : Node) (r : Spot) → look i ≡ Some n → Under look (Some i) r → (IsNodeOf (Some n) r) ⊎ (Under look (child n (is_left n r)) r)
here_or_under look i n r g (zero, l) = inl (subst (λ o. IsNodeOf o r) g l.0)
here_or_under look i n r g (suc k, l) = inr (k, subst (λ o. Leads look r k (child_of o r)) g l.0)

nowhere : (look : Nodes) (r : Spot) (k : ℕ) → Leads look r k None → ⊥
nowhere look r zero l = l
nowhere look r (suc k) l = l

-- nothing is awaited under a bare node
absent : (look : Nodes) (i : ℕ) (r : Spot) → is_bare (look i) ≡ true → Under look (Some i) r → ⊥
absent look i r g (zero, l) = not_both (is_bare (look i)) g l.1
absent look i r g (suc k, l) = not_both (is_bare (look i)) g l.1

same_or_not : (a b : Bool) → (a ≡ b) ⊎ (a ≡ not b)
same_or_not true true = inl refl
same_or_not true false = inr refl
same_or_not false true = inr refl
same_or_not false false = inl refl

-- what waits in two lists
module _ (look : Nodes) (q : Spot) where
  pub split : (front back : List Pending) (r : Spot) → IsAwaitedIn look q (front ++ back) r → IsAwaitedIn look q front r ⊎ IsAwaitedIn look q back r
  split [] back r h = inr h
  split (next ∷ front) back r (inl h) = inl (inl h)
  split (next ∷ front) back r (inr h) = further (split front back r h)
    where
      further : IsAwaitedIn look q front r ⊎ IsAwaitedIn look q back r → IsAwaitedIn look q (next ∷ front) r ⊎ IsAwaitedIn look q back r
      further (inl h) = inl (inr h)
      further (inr h) = inr h

  in_front : (front back : List Pending) (r : Spot) → IsAwaitedIn look q front r → IsAwaitedIn look q (front ++ back) r
  in_front [] back r h = absurd h
  in_front (next ∷ front) back r (inl h) = inl h
  in_front (next ∷ front) back r (inr h) = inr (in_front front back r h)

  in_back : (front back : List Pending) (r : Spot) → IsAwaitedIn look q back r → IsAwaitedIn look q (front ++ back) r
  in_back [] back r h = h
  in_back (next ∷ front) back r h = inr (in_back front back r h)

  awaited_at : (side : Option ℕ) (reach : ℕ) (r : Spot) → Under look side r → reach ≤ distance q r → IsAwaitedIn look q (pending_at side reach) r
  awaited_at None reach r u h = absurd (nowhere look r u.0 u.1)
  awaited_at (Some c) reach r u h = inl (u, h)

  last : (rest : List Pending) (next : Pending) (r : Spot) → IsAwaitedIn look q (rest ++ next ∷ []) r → IsAwaitedIn look q rest r ⊎ IsAwaited look q next r
  last rest next r h = at_last (split rest (next ∷ []) r h)
    where
      at_last : IsAwaitedIn look q rest r ⊎ IsAwaitedIn look q (next ∷ []) r → IsAwaitedIn look q rest r ⊎ IsAwaited look q next r
      at_last (inl h) = inl h
      at_last (inr (inl h)) = inr h
      at_last (inr (inr h)) = absurd h

  -- a part whose points are all farther than the best is left out
  pub skipped : (best : Option Spot) (rest : List Pending) (next : Pending) → is_past q best next.reach ≡ true → IsSearched look q best (rest ++ next ∷ []) → IsSearched look q best rest
  skipped best rest next e s = record { covered = λ r l. by_cover r (s.covered r l); source = s.source }
    where
      by_last : (r : Spot) → IsAwaitedIn look q rest r ⊎ IsAwaited look q next r → Within q best r ⊎ IsAwaitedIn look q rest r
      by_last r (inl a) = inr a
      by_last r (inr a) = inl (past_within q best next.reach r e a.1)

      by_cover : (r : Spot) → Within q best r ⊎ IsAwaitedIn look q (rest ++ next ∷ []) r → Within q best r ⊎ IsAwaitedIn look q rest r
      by_cover r (inl w) = inl w
      by_cover r (inr a) = by_last r (last rest next r a)

  -- under a bare node there is nothing to visit
  pub passed : (best : Option Spot) (rest : List Pending) (next : Pending) → is_bare (look next.from) ≡ true → IsSearched look q best (rest ++ next ∷ []) → IsSearched look q best rest
  passed best rest next g s = record { covered = λ r l. by_cover r (s.covered r l); source = s.source }
    where
      by_last : (r : Spot) → IsAwaitedIn look q rest r ⊎ IsAwaited look q next r → Within q best r ⊎ IsAwaitedIn look q rest r
      by_last r (inl a) = inr a
      by_last r (inr a) = absurd (absent look next.from r g a.0)

      by_cover : (r : Spot) → Within q best r ⊎ IsAwaitedIn look q (rest ++ next ∷ []) r → Within q best r ⊎ IsAwaitedIn look q rest r
      by_cover r (inl w) = inl w
      by_cover r (inr a) = by_last r (last rest next r a)

  -- a node is visited, and both its sides wait
  module _ (best : Option Spot) (rest : List Pending) (next : Pending) (n : Node) (g : look next.from ≡ Some n) (fits : to_plane q n ≤ far) where
    abbrev best_now : Option Spot
    best_now = nearer q (other_of q n) best

    abbrev sides : List Pending
    sides = sides_of q best_now n next.reach

    abbrev IsLeft : Spot → Type 0
    IsLeft r = Within q best_now r ⊎ IsAwaitedIn look q (rest ++ sides) r

    at_far : (r : Spot) → Under look (child n (not (is_left n q))) r → to_plane q n ≤ distance q r → IsLeft r
    at_far r u h = by_past (is_past q best_now (to_plane q n)) refl
      where
        by_past : (b : Bool) → is_past q best_now (to_plane q n) ≡ b → IsLeft r
        by_past true e = inl (past_within q best_now (to_plane q n) r e h)
        by_past false e =
            inr (in_back rest sides r (in_front (far_side q best_now n) (pending_at (child n (is_left n q)) next.reach) r
            (subst (λ b. IsAwaitedIn look q (if b then [] else pending_at (child n (not (is_left n q))) (to_plane q n)) r) (sym e) (awaited_at (child n (not (is_left n q))) (to_plane q n) r u h))))

    on_side : (r : Spot) → next.reach ≤ distance q r → Under look (child n (is_left n r)) r → IsLeft r
    on_side r h u = by_side (same_or_not (is_left n r) (is_left n q))
      where
        by_side : (is_left n r ≡ is_left n q) ⊎ (is_left n r ≡ not (is_left n q)) → IsLeft r
        by_side (inl e) =
            inr (in_back rest sides r (in_back (far_side q best_now n) (pending_at (child n (is_left n q)) next.reach) r
            (awaited_at (child n (is_left n q)) next.reach r (subst (λ b. Under look (child n b) r) e u) h)))
        by_side (inr e) = at_far r (subst (λ b. Under look (child n b) r) e u) (plane_before n q r e fits)

    at_node : (r : Spot) → int_eq r.id q.id ≡ false → next.reach ≤ distance q r → (IsNodeOf (Some n) r) ⊎ (Under look (child n (is_left n r)) r) → IsLeft r
    at_node r d h (inl i) = inl (subst (λ o. Within q (nearer q o best) r) (sym (is_other q n r i.0 i.1 d)) (nearer_new q r best))
    at_node r d h (inr u) = on_side r h u

    by_last : (r : Spot) → int_eq r.id q.id ≡ false → IsAwaitedIn look q rest r ⊎ IsAwaited look q next r → IsLeft r
    by_last r d (inl a) = inr (in_front rest sides r a)
    by_last r d (inr a) = at_node r d a.1 (here_or_under look next.from n r g a.0)

    by_cover : (r : Spot) → int_eq r.id q.id ≡ false → Within q best r ⊎ IsAwaitedIn look q (rest ++ next ∷ []) r → IsLeft r
    by_cover r d (inl w) = inl (nearer_kept q (other_of q n) best r w)
    by_cover r d (inr a) = by_last r d (last rest next r a)

    by_source : ((m : Spot) → best ≡ Some m → IsLiveOther look q m) → (m : Spot) → (best ≡ Some m) ⊎ (other_of q n ≡ Some m) → IsLiveOther look q m
    by_source s m (inl e) = s m e
    by_source s m (inr e) = other_is look q next.from n m g e

    pub visited : IsSearched look q best (rest ++ next ∷ []) → IsSearched look q best_now (rest ++ sides)
    visited s = record {
      covered = λ r l. by_cover r l.1 (s.covered r l);
      source = λ m e. by_source s.source m (nearer_source q (other_of q n) best m e);
    }

-- each live node is under the root
way_leads : (look : Nodes) (r : Spot) (k : ℕ) (from : Option ℕ) (j : ℕ) → way look r k from ≡ Some j → IsNodeOf (look j) r → IsOpenTo look from r k → Leads look r k from
way_leads look r zero None j e h o = absurd (some_none j e)
way_leads look r zero (Some i) j e h o = (subst (λ x. IsNodeOf (look x) r) (sym (some_is i j e)) h, o 0 i (omega arith) refl)
way_leads look r (suc k) None j e h o = absurd (some_none j e)
way_leads look r (suc k) (Some i) j e h o = (way_leads look r k (child_of (look i) r) j e h (λ d x l w. o (suc d) x (omega arith) w), o 0 i (omega arith) refl)

node_of : (o : Option Node) (r : Spot) → IsNodeOf o r → (n : Node) × (o ≡ Some n) × (n.spot ≡ r) × (n.live ≡ true)
node_of None r h = absurd h
node_of (Some n) r h = (n, refl, h.1, h.0)

pub begun : (look : Nodes) (root : Option ℕ) (size : ℕ) (numbers : ℤ → Option ℕ) (q : Spot) → IsTree look root size numbers → IsSearched look q None (pending_at root 0)
begun look root size numbers q t = record { covered = λ r l. inr (at_root r l.0); source = λ m e. absurd (some_none m e) }
  where
    at_root : (r : Spot) → IsLive look r → IsAwaitedIn look q (pending_at root 0) r
    at_root r l =
        let n : (n : Node) × (look l.0 ≡ Some n) × (n.spot ≡ r) × (n.live ≡ true) = node_of (look l.0) r l.1 in
        awaited_at look q root 0 r (n.0.depth, way_leads look r n.0.depth root l.0 (ap (λ (s : Spot). way look s n.0.depth root) (sym n.2) ∙ t.placed l.0 n.0 n.1) l.1 (moved look root n.0.spot r n.0.depth n.0.depth (sym n.2) refl (t.passable l.0 n.0 n.1 n.3))) (omega arith)

-- the same, from what the code computes
module _ (look : Nodes) (q : Spot) (best : Option Spot) (waiting rest : List Pending) (next : Pending) (e : waiting ≡ rest ++ next ∷ []) where
  pub skipped_from : (past : Bool) → past ≡ is_past q best next.reach → past ≡ true → IsSearched look q best waiting → IsSearched look q best rest
  skipped_from past f g s = skipped look q best rest next (sym f ∙ g) (subst (IsSearched look q best) e s)

  pub passed_from : is_bare (look next.from) ≡ true → IsSearched look q best waiting → IsSearched look q best rest
  passed_from g s = passed look q best rest next g (subst (IsSearched look q best) e s)

  pub visited_from : (n : Node) (better : Option Spot) (after : List Pending) → look next.from ≡ Some n → to_plane q n ≤ far → better ≡ nearer q (other_of q n) best → after ≡ rest ++ sides_of q better n next.reach
      → IsSearched look q best waiting → IsSearched look q better after
  visited_from n better after g h b a s =
      subst (IsSearched look q better) (sym a) (subst (λ o. IsSearched look q o (rest ++ sides_of q o n next.reach)) (sym b) (visited look q best rest next n g h (subst (IsSearched look q best) e s)))
