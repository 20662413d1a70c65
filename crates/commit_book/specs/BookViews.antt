-- A book as plain data: what is ready, who holds which item, and what has committed; and what each call makes of it.
use Rattle.std.specs.Prelude.{ℕ, ◌+◌, Bool, true, false, not, ◌&&◌, ◌||◌, ◌==◌, nat_lt, if◌then◌else◌, Option, Some, None, List, [], ◌∷◌, ◌++◌, length, refl}
use Rattle.std.specs.Coded.{Coded, code_by, coded×, coded_ℕ, coded_bool, coded_list}
use Rattle.gx_base.specs.declared.items.Item.{Item}
use Rattle.gx_base.specs.Outcomes.{Outcome, WholeCommit, journal, item_code, whole_commit_code}
use Rattle.gx_base.specs.SerialIterations.{may_commit, ready_after}
use Rattle.gx_base.specs.Worklists.{same_item, is_before, has_item, with_items}

-- an iteration, which is a worker with one of its numbers, holds an item. It may be named: it is then to give way to one
-- of a smaller item
pub record Hold : Type 0 where
  pub worker : ℕ
  pub iter : ℕ
  pub item : Item
  pub named : Bool

-- the items that were ready at first and those that are now, both by rising item, the holds by rising item, and the
-- commits in their order
pub record BookView : Type 0 where
  pub ordered : Bool
  pub first_ready : List Item
  pub ready : List Item
  pub holds : List Hold
  pub commits : List WholeCommit

-- ---- holds

abbrev pub is_hold_of : ℕ → ℕ → Hold → Bool
is_hold_of worker iter h = (h.worker == worker) && (h.iter == iter)

-- some iteration holds the item
abbrev pub is_held : List Hold → Item → Bool
is_held [] item = false
is_held (h ∷ hs) item = same_item h.item item || is_held hs item

-- what an iteration holds
abbrev pub held_by : List Hold → ℕ → ℕ → Option Item
held_by [] worker iter = None
held_by (h ∷ hs) worker iter = if is_hold_of worker iter h then Some h.item else held_by hs worker iter

-- with one more, at its place
abbrev pub with_hold : List Hold → Hold → List Hold
with_hold [] h = h ∷ []
with_hold (k ∷ ks) h = if is_before h.item k.item then h ∷ k ∷ ks else k ∷ with_hold ks h

-- without those of an iteration
abbrev pub without_iteration : List Hold → ℕ → ℕ → List Hold
without_iteration [] worker iter = []
without_iteration (h ∷ hs) worker iter = if is_hold_of worker iter h then without_iteration hs worker iter else h ∷ without_iteration hs worker iter

-- without those of an item
abbrev pub without_item_held : List Hold → Item → List Hold
without_item_held [] item = []
without_item_held (h ∷ hs) item = if same_item h.item item then without_item_held hs item else h ∷ without_item_held hs item

-- the iteration holds an item greater than this one
abbrev pub holds_after : List Hold → ℕ → ℕ → Item → Bool
holds_after [] worker iter item = false
holds_after (h ∷ hs) worker iter item = (is_hold_of worker iter h && is_before item h.item) || holds_after hs worker iter item

-- such an iteration is named
abbrev pub with_name : List Hold → ℕ → ℕ → Item → List Hold
with_name [] worker iter item = []
with_name (h ∷ hs) worker iter item = (if is_hold_of worker iter h && is_before item h.item then record h { named = true } else h) ∷ with_name hs worker iter item

abbrev pub is_named_in : List Hold → ℕ → ℕ → Bool
is_named_in [] worker iter = false
is_named_in (h ∷ hs) worker iter = (is_hold_of worker iter h && h.named) || is_named_in hs worker iter

-- ---- taking and giving back

-- a book in which nothing is held and nothing has committed
abbrev pub new_book : Bool → List Item → BookView
new_book ordered ready = record { ordered = ordered; first_ready = with_items [] ready; ready = with_items [] ready; holds = []; commits = [] }

-- the first of the items that no iteration holds
abbrev pub first_free : List Hold → List Item → Option Item
first_free holds [] = None
first_free holds (x ∷ xs) = if is_held holds x then first_free holds xs else Some x

-- the least ready item that no iteration holds
abbrev pub free_item : BookView → Option Item
free_item b = first_free b.holds b.ready

-- the item is ready, and no iteration holds it
abbrev pub is_holdable : BookView → Item → Bool
is_holdable b item = has_item b.ready item && not (is_held b.holds item)

-- the iteration holds this item, unnamed, in place of what it held
abbrev pub give : BookView → ℕ → ℕ → Item → BookView
give b worker iter item = record b { holds = with_hold (without_iteration b.holds worker iter) (record { worker = worker; iter = iter; item = item; named = false }) }

-- an item, where there is one, goes to the iteration
abbrev pub give_found : BookView → ℕ → ℕ → Option Item → BookView
give_found b worker iter None = b
give_found b worker iter (Some item) = give b worker iter item

-- the iteration holds the least ready item that no iteration held, where there is one
abbrev pub next_free : BookView → ℕ → ℕ → BookView
next_free b worker iter = give_found b worker iter (free_item b)

-- the iteration holds the item, where that was free
abbrev pub hold : BookView → ℕ → ℕ → Item → BookView
hold b worker iter item = if is_holdable b item then give b worker iter item else b

-- the iteration holds nothing
abbrev pub put_back : BookView → ℕ → ℕ → BookView
put_back b worker iter = record b { holds = without_iteration b.holds worker iter }

-- ---- names

-- the iteration can be named by one of this item: it holds a greater one
abbrev pub can_name : BookView → ℕ → ℕ → Item → Bool
can_name b worker iter by = holds_after b.holds worker iter by

abbrev pub name_off : BookView → ℕ → ℕ → Item → BookView
name_off b worker iter by = record b { holds = with_name b.holds worker iter by }

abbrev pub is_named : BookView → ℕ → ℕ → Bool
is_named b worker iter = is_named_in b.holds worker iter

-- ---- commits

-- how many items commit at most, and how many steps their bodies make at most
abbrev pub most_commits : ℕ
most_commits = 4194304

abbrev pub most_steps : ℕ
most_steps = 8388608

-- the item is ready, and in an ordered book no ready one is before it
abbrev pub is_in_turn : BookView → Item → Bool
is_in_turn b item = may_commit b.ordered b.ready item

-- as many items have committed as may
abbrev pub is_spent : BookView → Bool
is_spent b = length b.commits == most_commits

-- with so many steps more, the journal would have more than it may
abbrev pub is_past_journal : BookView → ℕ → Bool
is_past_journal b steps = nat_lt most_steps (length (journal b.commits) + steps)

-- the last commit is this one, the ready set is as the outcome makes it, and no iteration holds the item
abbrev pub commit : BookView → ℕ → ℕ → Item → Outcome → BookView
commit b worker iter item o = record b {
  ready = ready_after b.ready item o;
  holds = without_item_held b.holds item;
  commits = b.commits ++ record { worker = worker; iter = iter; item = item; outcome = o } ∷ [];
}

-- ---- how these are stored

-- a hold and a book are stored as their fields
abbrev pub hold_code : Coded Hold
hold_code =
    code_by (ℕ × (ℕ × (Item × Bool))) (coded× coded_ℕ (coded× coded_ℕ (coded× item_code coded_bool)))
    (λ h. (h.worker, (h.iter, (h.item, h.named))))
    (λ p. record { worker = p.0; iter = p.1.0; item = p.1.1.0; named = p.1.1.1 })
    (λ _. refl)

abbrev pub book_code : Coded BookView
book_code =
    code_by (Bool × (List Item × (List Item × (List Hold × List WholeCommit))))
    (coded× coded_bool (coded× (coded_list item_code) (coded× (coded_list item_code) (coded× (coded_list hold_code) (coded_list whole_commit_code)))))
    (λ b. (b.ordered, (b.first_ready, (b.ready, (b.holds, b.commits)))))
    (λ p. record { ordered = p.0; first_ready = p.1.0; ready = p.1.1.0; holds = p.1.1.1.0; commits = p.1.1.1.1 })
    (λ _. refl)
