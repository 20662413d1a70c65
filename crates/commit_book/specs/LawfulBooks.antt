-- When a book is lawful, and when it refuses a commit.
use Rattle.std.specs.Prelude.{◌≡◌, ◌≤◌, ℕ, Bool, true, false, not, if◌then◌else◌, Option, Some, None, List, [], ◌∷◌, length, Result, Err, OnErr, ⊤}
use Rattle.gx_base.specs.declared.items.Item.{Item}
use Rattle.gx_base.specs.Outcomes.{journal}
use Rattle.gx_base.specs.SerialRuns.{AreInTurn}
use Rattle.gx_base.specs.Worklists.{is_before, has_item}
use Rattle.commit_book.specs.declared.refusals.CommitRefuse.{CommitRefuse}
use Rattle.commit_book.specs.declared.refusals.CommitRefuse.TheVariants.{NotReady, NotLeast, Spent, Kept, NoMemory}
use Rattle.commit_book.specs.BookViews.{Hold, is_hold_of, BookView, most_commits, most_steps, is_spent, is_past_journal}

-- ---- lawful

-- each of the items comes after this one
abbrev pub AreAfter : Item → List Item → Type 0
AreAfter x [] = ⊤
AreAfter x (y ∷ ys) = (is_before x y ≡ true) × AreAfter x ys

-- the items stand by rising item, each once
abbrev pub AreRising : List Item → Type 0
AreRising [] = ⊤
AreRising (x ∷ xs) = AreAfter x xs × AreRising xs

-- each of the holds is of an item after this one's, and of another iteration
abbrev pub AreOthers : Hold → List Hold → Type 0
AreOthers h [] = ⊤
AreOthers h (k ∷ ks) = (is_before h.item k.item ≡ true) × (is_hold_of h.worker h.iter k ≡ false) × AreOthers h ks

-- the holds stand by rising item, an item is held by one iteration, and an iteration holds one item
abbrev pub AreHeldApart : List Hold → Type 0
AreHeldApart [] = ⊤
AreHeldApart (h ∷ hs) = AreOthers h hs × AreHeldApart hs

-- taking the commits in order from the first ready set, each item may commit at its turn, and what this leaves ready is
-- ready now; no more items have committed than may, with no more steps than the journal may have. That a held item is
-- ready is not asked
pub record IsLawfulBook (b : BookView) : Type 0 where
  pub in_turn : AreInTurn b.ordered b.first_ready b.commits b.ready
  pub rising : AreRising b.ready
  pub apart : AreHeldApart b.holds
  pub not_more : length b.commits ≤ most_commits
  pub kept : length (journal b.commits) ≤ most_steps

-- ---- refused commits

-- the least of the items, where it comes before this one. They stand by rising item
abbrev pub least_before : List Item → Item → Option Item
least_before [] item = None
least_before (x ∷ xs) item = if is_before x item then Some x else None

-- that is why the item may not commit
abbrev pub not_least : Option Item → Option CommitRefuse
not_least None = None
not_least (Some least) = Some (NotLeast least)

-- the first of two reasons, where there is one
abbrev pub or_else : Option CommitRefuse → Option CommitRefuse → Option CommitRefuse
or_else None later = later
or_else (Some refuse) later = Some refuse

abbrev pub only_if : Bool → CommitRefuse → Option CommitRefuse
only_if holds refuse = if holds then Some refuse else None

-- why an item may not commit with so many steps, where it may not: it isn't ready, or the items are ordered and the least
-- ready one is before it, or as many have committed as may, or the journal would have more steps than it may
abbrev pub refusal : BookView → Item → ℕ → Option CommitRefuse
refusal b item steps =
    or_else (only_if (not (has_item b.ready item)) NotReady)
    (or_else (if b.ordered then not_least (least_before b.ready item) else None)
    (or_else (only_if (is_spent b) Spent)
    (only_if (is_past_journal b steps) Kept)))

-- a refusal that there is is the answer, and where there is none only memory may be wanting
abbrev pub IsRefusedBy : Option CommitRefuse → Result ℕ CommitRefuse → Type 0
IsRefusedBy (Some refuse) r = r ≡ Err refuse
IsRefusedBy None r = OnErr r (r ≡ Err NoMemory)
