-- A search among the numbers of a kind's methods finds what the table of their words has.
use Rattle.std.specs.Prelude.{◌≡◌, ℕ, ◌+◌, ◌-◌, List, length, find, bytes_eq}
use Rattle.std.specs.List.{range_with_len}
use Rattle.gx_base.specs.declared.kinds.Kind.{Kind}
use Rattle.gx_base.specs.declared.kinds.Kind.TheVariants.{Set}
use Rattle.gx_base.specs.Kinds.{kind_number}
use Rattle.gx_base.specs.Methods.{first_method, words_of, word_of, method_of}

pub find-methods : (kind : Kind) (word : List ℕ) (first count : ℕ) → first ≡ first_method (kind_number kind) → count ≡ length (words_of (kind_number kind))
    → find (λ method. bytes_eq (word_of method) word) (range_with_len first ((first + count) - first)) ≡ method_of (kind_number kind) word
find-methods Set word first count e h = λ i. find (λ method. bytes_eq (word_of method) word) (range_with_len (e i) ((e i + h i) - e i))
find-methods kind word first count e h = λ i. find (λ method. bytes_eq (word_of method) word) (range_with_len (e i) ((e i + h i) - e i))
