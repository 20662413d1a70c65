use Rattle.std.proofs.Common.{◌≡◌, ◌++◌, [], ◌-◌, take, vec_len, List, None, Option, ℕ, refl, sym, ◌∙◌, ap, subst}
use Rattle.slab.specs.Slab.{slab_len}
use Rattle.point_trees.specs.declared.search.Pending.{Pending}
use Rattle.point_trees.specs.TreeStates.{node_at, key_of}
use Rattle.point_trees.specs.Searches.{pending_at}
use Rattle.point_trees.proofs.searches.Searched.{IsSearched}
use Rattle.point_trees.proofs.searches.Visits.{begun, skipped_from, passed_from, visited_from}
use Rattle.point_trees.proofs.searches.Work.{less_from, sides_from}
use Rattle.point_trees.proofs.searches.Ends.{found_nearest}
use Rattle.point_trees.proofs.search.nearest.Goals as goal

begun_items : (empty items : List Pending) (root given : Option ℕ) → empty ≡ [] → root ≡ given → items ≡ empty ++ pending_at root 0 → items ≡ pending_at given 0
begun_items empty items root given e f g = g ∙ ap (λ xs. xs ++ pending_at root 0) e ∙ ap (λ o. pending_at o 0) f

pub search-init : goal.search-init
search-init c = (
  refl,
  subst (IsSearched (node_at c.args.tree.now) c.args.q None) (sym (begun_items c.in_ok-waiting.waiting.items c.push_side.new.waiting.items c.root.result c.args.tree.now.root c.in_ok-waiting.ensures.items c.root.ensures c.in_ok-push_side.ensures))
      (begun (node_at c.args.tree.now) c.args.tree.now.root (slab_len c.args.tree.now.nodes) (key_of c.args.tree.now) c.args.q c.requires.placed),
)

emptied : (waiting rest : List Pending) (n : ℕ) → waiting ≡ rest ++ [] → rest ≡ take (n - 1) waiting → n ≡ 0 → waiting ≡ []
emptied waiting rest n e r z = e ∙ ap (λ xs. xs ++ []) (r ∙ ap (λ m. take (m - 1) waiting) z)

pub search-smaller-then-is_past : goal.search-smaller-then-is_past
search-smaller-then-is_past c = less_from (node_at c.args.tree.now) (slab_len c.args.tree.now.nodes) c.search.waiting.items c.pop.new.self.items c.in-Some.next c.in-Some.ensures.items

pub search-preserved-then-is_past : goal.search-preserved-then-is_past
search-preserved-then-is_past c =
    (c.search.invariant.0, skipped_from (node_at c.args.tree.now) c.args.q c.search.best.point c.search.waiting.items c.pop.new.self.items c.in-Some.next c.in-Some.ensures.items c.is_past.result c.is_past.ensures c.if-is_past.true c.search.invariant.1)

pub search-smaller-in-None-node_with_points : goal.search-smaller-in-None-node_with_points
search-smaller-in-None-node_with_points c = less_from (node_at c.args.tree.now) (slab_len c.args.tree.now.nodes) c.search.waiting.items c.pop.new.self.items c.in-Some.next c.in-Some.ensures.items

pub search-preserved-in-None-node_with_points : goal.search-preserved-in-None-node_with_points
search-preserved-in-None-node_with_points c =
    (c.search.invariant.0, passed_from (node_at c.args.tree.now) c.args.q c.search.best.point c.search.waiting.items c.pop.new.self.items c.in-Some.next c.in-Some.ensures.items c.in-None-node_with_points.ensures.none c.search.invariant.1)

pub search-smaller : goal.search-smaller
search-smaller c =
    sides_from (node_at c.args.tree.now) c.args.tree.now.root (slab_len c.args.tree.now.nodes) (key_of c.args.tree.now) c.args.q c.better-best.result.point c.search.waiting.items c.pop.new.self.items c.push_sides.new.waiting.items c.in-Some.next c.in-Some-node_with_points.node
    c.requires.placed c.in-Some.ensures.items c.in-Some-node_with_points.ensures.some c.in_ok-push_sides-in-Some-node_with_points.ensures.sides

pub search-preserved : goal.search-preserved
search-preserved c = (
  c.better-best.ensures.reach,
  visited_from (node_at c.args.tree.now) c.args.q c.search.best.point c.search.waiting.items c.pop.new.self.items c.in-Some.next c.in-Some.ensures.items c.in-Some-node_with_points.node c.better-best.result.point c.push_sides.new.waiting.items
      c.in-Some-node_with_points.ensures.some c.push_sides.ensures.fits c.better-best.ensures.point c.in_ok-push_sides-in-Some-node_with_points.ensures.sides c.search.invariant.1,
)

pub returns-in-None : goal.returns-in-None
returns-in-None c =
    found_nearest c.args.tree.now c.args.q c.search.best.point c.requires (subst (IsSearched (node_at c.args.tree.now) c.args.q c.search.best.point) (emptied c.search.waiting.items c.pop.new.self.items (vec_len c.search.waiting) c.in-None.ensures.items c.pop.ensures.rest c.in-None.ensures.cases.0) c.search.invariant.1)
