-- Sets of work items, as lists in rising order.
use Rattle.std.specs.Prelude.{Bool, true, false, not, ◌&&◌, ◌||◌, if◌then◌else◌, List, [], ◌∷◌}
use Rattle.std.specs.Ordering.{int_cmp, ordering_then, is_eq, is_lt}
use Rattle.std.specs.declared.cmp.Ordering.{Ordering}
use Rattle.gx_base.specs.declared.items.Item.{Item}

-- the order of items, by their numbers from the first
unfoldable pub item_cmp : Item → Item → Ordering
item_cmp x y = ordering_then (int_cmp x.k0 y.k0) (ordering_then (int_cmp x.k1 y.k1) (ordering_then (int_cmp x.k2 y.k2) (int_cmp x.k3 y.k3)))

-- the items have the same numbers
abbrev pub same_item : Item → Item → Bool
same_item x y = is_eq (item_cmp x y)

-- the item comes first in the order of items
abbrev pub is_before : Item → Item → Bool
is_before x y = is_lt (item_cmp x y)

-- the item is in the set
unfoldable pub has_item : List Item → Item → Bool
has_item [] x = false
has_item (y ∷ ys) x = same_item y x || has_item ys x

-- the set without the item
unfoldable pub without_item : List Item → Item → List Item
without_item [] x = []
without_item (y ∷ ys) x = if same_item y x then without_item ys x else y ∷ without_item ys x

-- with the item at its place, where it isn't there already
unfoldable pub with_item : List Item → Item → List Item
with_item [] x = x ∷ []
with_item (y ∷ ys) x = if same_item y x then y ∷ ys else (if is_before x y then x ∷ y ∷ ys else y ∷ with_item ys x)

-- the set without all these items
unfoldable pub without_items : List Item → List Item → List Item
without_items ys [] = ys
without_items ys (x ∷ xs) = without_items (without_item ys x) xs

-- the set with all these items
unfoldable pub with_items : List Item → List Item → List Item
with_items ys [] = ys
with_items ys (x ∷ xs) = with_items (with_item ys x) xs

-- no item of the set is before this one
unfoldable pub is_least : List Item → Item → Bool
is_least [] x = true
is_least (y ∷ ys) x = not (is_before y x) && is_least ys x
