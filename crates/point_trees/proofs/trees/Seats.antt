-- The way of a spot, as it is walked to the seat.
use Rattle.std.specs.Prelude.{◌≡◌, ℕ, suc, ◌<◌, ◌≤◌, ℤ, Bool, true, false, Option, Some, None, List, is_some, slice_index_or, refl}
use Rattle.std.proofs.Common.{sym, ◌∙◌, ap, arith}
use Rattle.gx_base.specs.declared.calls.Spot.{Spot}
use Rattle.point_trees.specs.declared.nodes.Node.{Node}
use Rattle.point_trees.specs.Trees.{Nodes, is_left, child, child_of, way, node_depth, IsTree}
use Rattle.point_trees.specs.TreeStates.{holds_spot}
use Rattle.point_trees.proofs.states.Basics.{false_of, some_none, some_is}
use Rattle.point_trees.proofs.trees.Ways.{ended, way_further, way_over}
use Rattle.point_trees.proofs.trees.Holders.{Holds, holds-where}

abbrev pub depth_or_zero : Option Node → ℕ
depth_or_zero None = 0
depth_or_zero (Some n) = n.depth

-- the walk has come to a node on the spot's way, and has met no node of the spot so far
pub record OnWay (look : Nodes) (root : Option ℕ) (spot : Spot) (at : ℕ) : Type 0 where
  pub there : is_some (look at) ≡ true
  pub on_way : (n : Node) → look at ≡ Some n → way look spot n.depth root ≡ Some at
  pub deeper : (n : Node) (j : ℕ) (m : Node) → look at ≡ Some n → look j ≡ Some m → m.spot ≡ spot → n.depth ≤ m.depth

depth_there : (o : Option Node) (d : ℕ) → node_depth o ≡ Some d → is_some o ≡ true
depth_there None d e = absurd (some_none d e)
depth_there (Some n) d e = refl

depth_is : (o : Option Node) (d : ℕ) (n : Node) → node_depth o ≡ Some d → o ≡ Some n → n.depth ≡ d
depth_is o d n e g = some_is n.depth d (sym (ap node_depth g) ∙ e)

module _ (look : Nodes) (root : Option ℕ) (size : ℕ) (numbers : ℤ → Option ℕ) (t : IsTree look root size numbers) (spot : Spot) where
  -- where this node isn't the spot's, those of the spot stand deeper
  past : (at : ℕ) (n : Node) → OnWay look root spot at → look at ≡ Some n → (n.spot ≡ spot → ⊥) → (j : ℕ) (m : Node) → look j ≡ Some m → m.spot ≡ spot → n.depth < m.depth
  past at n w g other j m h s =
      let low : n.depth ≤ m.depth = w.deeper n j m g h s in
      let apart : n.depth ≡ m.depth → ⊥ = λ e.
      let here : way look spot m.depth root ≡ Some j = ap (λ (r : Spot). way look r m.depth root) (sym s) ∙ t.placed j m h in
      let same : j ≡ at = some_is j at (sym here ∙ ap (λ d. way look spot d root) (sym e) ∙ w.on_way n g) in
      other (ap (λ (x : Node). x.spot) (some_is n m (sym g ∙ ap look (sym same) ∙ h)) ∙ s)
      in omega arith

  pub further : (at next : ℕ) (n : Node) (left : Bool) → OnWay look root spot at → look at ≡ Some n → (n.spot ≡ spot → ⊥) → left ≡ is_left n spot → child n left ≡ Some next → OnWay look root spot next
  further at next n left w g other side e = record {
    there = depth_there (look next) (suc n.depth) (t.nested at next n left g e);
    on_way = λ m h.
        ap (λ d. way look spot d root) (depth_is (look next) (suc n.depth) m (t.nested at next n left g e) h)
        ∙ way_further look spot n.depth root at (w.on_way n g) ∙ ap (λ o. child_of o spot) g ∙ ap (child n) (sym side) ∙ e;
    deeper = λ m j x h k s.
        let d : m.depth ≡ suc n.depth = depth_is (look next) (suc n.depth) m (t.nested at next n left g e) h in
        let b : n.depth < x.depth = past at n w g other j x k s in omega arith;
  }

  -- where the way ends, the spot has no node
  pub nowhere : (slots : List (Option Node)) → ((i : ℕ) (x : Node) → slice_index_or slots i None ≡ Some x → look i ≡ Some x) → (at : ℕ) (n : Node) (left : Bool)
      → OnWay look root spot at → look at ≡ Some n → (n.spot ≡ spot → ⊥) → left ≡ is_left n spot → child n left ≡ None → holds_spot slots spot ≡ false
  nowhere slots f at n left w g other side e = false_of (holds_spot slots spot) (λ held.
      let h : Holds slots spot = holds-where slots spot held in
      let b : n.depth < h.node.depth = past at n w g other h.key h.node (f h.key h.node h.there) h.same in
      let over : way look spot (suc n.depth) root ≡ None = way_further look spot n.depth root at (w.on_way n g) ∙ ap (λ o. child_of o spot) g ∙ ap (child n) (sym side) ∙ e in
      way_over look spot (suc n.depth) h.node.depth root h.key over (omega arith) (ap (λ (r : Spot). way look r h.node.depth root) (sym h.same) ∙ t.placed h.key h.node (f h.key h.node h.there)))

  pub nobody : (slots : List (Option Node)) → ((i : ℕ) (x : Node) → slice_index_or slots i None ≡ Some x → look i ≡ Some x) → root ≡ None → holds_spot slots spot ≡ false
  nobody slots f e = false_of (holds_spot slots spot) (λ held.
      let h : Holds slots spot = holds-where slots spot held in
      ended look spot h.node.depth h.key (ap (λ o. way look spot h.node.depth o) (sym e) ∙ ap (λ (r : Spot). way look r h.node.depth root) (sym h.same) ∙ t.placed h.key h.node (f h.key h.node h.there)))

pub differs : (b : Bool) {P : Type 0} → b ≡ false → (P → b ≡ true) → P → ⊥
differs true f h p = absurd (cc)
differs false f h p = absurd (let e : false ≡ true = h p in cc)
