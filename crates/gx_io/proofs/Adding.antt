-- What several writes and a flush add.
use Rattle.std.proofs.Common.{ℕ, ◌+◌, List, ◌++◌, take, drop, Option, Some, None, ap, ◌∙◌, append_assoc}
use Rattle.std.proofs.Math.Seq.{take-add}
use Rattle.gx_io.specs.Sinks.{Written, Adds, HasAdded}

pub HasAdded-then : (a b c : Option Written) (xs ys : List ℕ) → HasAdded a b xs → Adds b c ys → HasAdded a c (xs ++ ys)
HasAdded-then None b c xs ys p q = tt
HasAdded-then (Some was) None c xs ys p q = absurd p
HasAdded-then (Some was) (Some is) c xs ys p q = rw q (ap (λ (t : List ℕ). t ++ ys) p ∙ append_assoc was.bytes xs ys)

-- after the first n bytes, m more
pub HasAdded-more : (a b c : Option Written) (xs : List ℕ) (n m : ℕ) → HasAdded a b (take n xs) → Adds b c (take m (drop n xs)) → HasAdded a c (take (n + m) xs)
HasAdded-more a b c xs n m p q = rw take-add (HasAdded-then a b c (take n xs) (take m (drop n xs)) p q)
