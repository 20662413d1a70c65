-- The items of points in a ready set.
use Rattle.std.proofs.Common.{◌≡◌, ℤ, Bool, true, false, refl, ap, ◌∙◌, List, [], ◌∷◌}
use Rattle.std.specs.Prelude.{not, ◌&&◌, ◌||◌}
use Rattle.gx_base.specs.declared.items.Item.{Item}
use Rattle.gx_base.specs.Worklists.{same_item, has_item, with_items, without_item}
use Rattle.commit_book.proofs.ready.ReadySets.{has_item-first}
use Rattle.commit_book.proofs.ready.RisingItems.{same_is, has-without, has-withs}
use Rattle.clustering.specs.Chain.{id_item, is_of_id}
use Rattle.cluster_laws.proofs.Counts.{no}

-- another item stays
pub stays : (ready : List Item) (item x : Item) → has_item ready x ≡ true → (item ≡ x → ⊥) → has_item (without_item ready item) x ≡ true
stays ready item x there apart =
    has-without ready item x ∙ ap (λ (b : Bool). not b && has_item ready x) (no (same_item item x) (λ t. apart (same_is item x t))) ∙ there

or_first : (a b : Bool) → a ≡ true → (a || b) ≡ true
or_first a b e = ap (λ (c : Bool). c || b) e

or_second : (a b : Bool) → b ≡ true → (a || b) ≡ true
or_second true b e = refl
or_second false b e = e

-- what enters is there, and so is what was
pub entered : (ready pushes : List Item) (x : Item) → has_item pushes x ≡ true → has_item (with_items ready pushes) x ≡ true
entered ready pushes x e = has-withs pushes ready x ∙ or_first (has_item pushes x) (has_item ready x) e

pub kept_in : (ready pushes : List Item) (x : Item) → has_item ready x ≡ true → has_item (with_items ready pushes) x ≡ true
kept_in ready pushes x e = has-withs pushes ready x ∙ or_second (has_item pushes x) (has_item ready x) e

pub first_of : (x : Item) (xs : List Item) → has_item (x ∷ xs) x ≡ true
first_of x xs = has_item-first x xs

pub later_of : (y x : Item) (xs : List Item) → has_item xs x ≡ true → has_item (y ∷ xs) x ≡ true
unfolding has_item
later_of y x xs e = or_second (same_item y x) (has_item xs x) e

pub none_of : (x : Item) → has_item [] x ≡ false
unfolding has_item
none_of x = refl

-- items of numbers
pub id_of : (a b : ℤ) → id_item a ≡ id_item b → a ≡ b
id_of a b e = ap (λ (x : Item). x.k0) e

pub of_id : (id : ℤ) → is_of_id (id_item id) ≡ true
of_id id = refl
