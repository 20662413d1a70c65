-- The entries of a gate, and those of one iteration or one worker among them.
use Rattle.std.specs.Prelude.{◌≡◌, ◌≢◌, ℕ, ◌+◌, ◌≤◌, Bool, false, not, ◌&&◌, ◌||◌, ◌==◌, if◌then◌else◌, Option, Some, None, List, [], ◌∷◌, ◌++◌, filter, length, ⊤}
use Rattle.gx_base.specs.declared.acts.Entry.{Entry}
pub use Rattle.gx_base.specs.Entries.{made_of, mades_of, entries_by}

-- an iteration is a worker with one of its numbers
abbrev pub same_iteration : Entry → Entry → Bool
same_iteration e f = (e.worker == f.worker) && (e.iter == f.iter)

abbrev pub is_of : ℕ → ℕ → Entry → Bool
is_of worker iter e = (e.worker == worker) && (e.iter == iter)

-- the entries of an iteration, and the others, each in their order
abbrev pub entries_of : ℕ → ℕ → List Entry → List Entry
entries_of worker iter es = filter (is_of worker iter) es

abbrev pub others_than : ℕ → ℕ → List Entry → List Entry
others_than worker iter es = filter (λ e. not (is_of worker iter e)) es

abbrev pub has_entry : ℕ → ℕ → List Entry → Bool
has_entry worker iter [] = false
has_entry worker iter (e ∷ es) = is_of worker iter e || has_entry worker iter es

-- how many of the entries are of another iteration than the first of them
abbrev pub others_of_first : List Entry → ℕ
others_of_first [] = 0
others_of_first (e ∷ es) = length (others_than e.worker e.iter (e ∷ es))

-- 1 for an entry of another iteration than the first of these
abbrev pub one_if_other : List Entry → Entry → ℕ
one_if_other [] x = 0
one_if_other (e ∷ es) x = if is_of e.worker e.iter x then 0 else 1

-- the last entry of an iteration, and the entries without it
abbrev pub last_of : ℕ → ℕ → List Entry → Option Entry
last_of worker iter [] = None
last_of worker iter (e ∷ es) = if has_entry worker iter es then last_of worker iter es else (if is_of worker iter e then Some e else None)

abbrev pub without_last : ℕ → ℕ → List Entry → List Entry
without_last worker iter [] = []
without_last worker iter (e ∷ es) = if has_entry worker iter es then e ∷ without_last worker iter es else (if is_of worker iter e then es else e ∷ es)

-- these entries, done under a number
abbrev pub done_under : ℕ → List Entry → List Entry
done_under number [] = []
done_under number (e ∷ es) = record e { done = Some number } ∷ done_under number es

-- a fact holds of each of the entries
abbrev pub Each : (Entry → Type 0) → List Entry → Type 0
Each P [] = ⊤
Each P (e ∷ es) = P e × Each P es

-- the entries after are those before but for one, the last that equals it
pub record LosesLast (e : Entry) (before after : List Entry) : Type 0 where
  pub front : List Entry
  pub rear : List Entry
  pub was : before ≡ front ++ e ∷ rear
  pub last : Each (λ f. f ≢ e) rear
  pub is : after ≡ front ++ rear

-- one more than the number that an entry is done under, and 0 for an entry that isn't done
abbrev pub mark_after : Option ℕ → ℕ
mark_after None = 0
mark_after (Some number) = number + 1

-- the mark that entries leave: that of the last of them
abbrev pub mark_of : ℕ → List Entry → ℕ
mark_of mark [] = mark
mark_of mark (e ∷ es) = mark_of (mark_after e.done) es

-- each of the entries is done, and their numbers never fall
abbrev pub NumbersRise : ℕ → List Entry → Type 0
NumbersRise mark [] = ⊤
NumbersRise mark (e ∷ es) = ((number : ℕ) × (e.done ≡ Some number) × (mark ≤ number + 1)) × NumbersRise (mark_after e.done) es
