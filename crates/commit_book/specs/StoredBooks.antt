-- How a book, its holds and its past are kept, as contracts see them.
use Rattle.std.specs.Prelude.{◌≡◌, ℕ, false, Option, Some, None, List, [], ◌∷◌, length, take, drop, ◌≤◌}
use Rattle.std.specs.Global.{Box}
use Rattle.gx_base.specs.declared.acts.Commit.{Commit}
use Rattle.gx_base.specs.declared.acts.Step.{Step}
use Rattle.gx_base.specs.declared.items.Item.{Item}
use Rattle.gx_base.specs.Outcomes.{WholeCommit}
use Rattle.commit_book.specs.declared.holds.Holder.{Holder}
use Rattle.commit_book.specs.BookViews.{Hold, BookView, new_book}

-- a book without items is kept as nothing
abbrev pub book_with : Option (Box BookView) → BookView
book_with None = new_book false []
book_with (Some ledger) = ledger.value

-- holds are kept by their items
abbrev pub hold_at : Item × Holder → Hold
hold_at p = record { worker = p.1.worker; iter = p.1.iter; item = p.0; named = false }

abbrev pub holds_of : List (Item × Holder) → List Hold
holds_of [] = []
holds_of (p ∷ ps) = hold_at p ∷ holds_of ps

-- a commit with the steps and the pushes of its body
abbrev pub whole_commit : Commit → List Step → List Item → WholeCommit
whole_commit c steps pushes = record { worker = c.worker; iter = c.iter; item = c.item; outcome = record { steps = steps; pushes = pushes; withdrawn = [] } }

-- each commit has as many steps as it tells, from the front of those of all commits, and as many pushes as stand beside it
abbrev pub whole_commits : List Commit → List Step → List ℕ → List Item → List WholeCommit
whole_commits [] steps counts pushes = []
whole_commits (c ∷ cs) steps [] pushes = []
whole_commits (c ∷ cs) steps (n ∷ counts) pushes = whole_commit c (take c.steps steps) (take n pushes) ∷ whole_commits cs (drop c.steps steps) counts (drop n pushes)

-- nothing is wanting, and nothing is left over
abbrev pub AddUp : List Commit → List Step → List ℕ → List Item → Type 0
AddUp [] steps [] pushes = (steps ≡ []) × (pushes ≡ [])
AddUp [] steps (n ∷ counts) pushes = ⊥
AddUp (c ∷ cs) steps [] pushes = ⊥
AddUp (c ∷ cs) steps (n ∷ counts) pushes = (c.steps ≤ length steps) × (n ≤ length pushes) × AddUp cs (drop c.steps steps) counts (drop n pushes)
