-- A search among a kind's methods finds the one with a word.
use Rattle.std.specs.Prelude.{◌≡◌, ℕ, List, find, bytes_eq, refl}
use Rattle.std.specs.List.{filter_map, range_with_len}
use Rattle.gx_base.specs.declared.kinds.Kind.{Kind}
use Rattle.gx_base.specs.declared.kinds.Kind.TheVariants.{Set}
use Rattle.gx_base.specs.Kinds.{kind_number}
use Rattle.gx_base.specs.Methods.{most_methods, word_of, method_at, method_of}

pub find-methods : (kind : Kind) (word : List ℕ)
    → find (λ method. bytes_eq (word_of method) word) (filter_map (λ place. method_at (kind_number kind) place) (range_with_len 0 most_methods)) ≡ method_of (kind_number kind) word
find-methods Set word = refl
find-methods kind word = refl
