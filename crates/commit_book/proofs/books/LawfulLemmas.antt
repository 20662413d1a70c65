-- Why each call of a book keeps it lawful.
use Rattle.std.specs.Prelude.{◌≡◌, ℕ, ◌+◌, Bool, true, false, not, ◌&&◌, if◌then◌else◌, Option, Some, None, List, [], ◌∷◌, ◌++◌, length, Result, Err, refl}
use Rattle.std.proofs.Common.{sym, ◌∙◌, ap, subst, arith}
use Rattle.std.proofs.lemmas.Bool.{eqb-false, ltb-false}
use Rattle.std.proofs.lemmas.List.{length-append}
use Rattle.gx_base.specs.declared.acts.Step.{Step}
use Rattle.gx_base.specs.declared.items.Item.{Item}
use Rattle.gx_base.specs.Outcomes.{Outcome, WholeCommit, journal}
use Rattle.gx_base.specs.SerialIterations.{may_commit, ready_after}
use Rattle.gx_base.specs.SerialRuns.{AreInTurn}
use Rattle.gx_base.specs.Worklists.{has_item, is_least, with_items, without_item}
use Rattle.commit_book.specs.declared.refusals.CommitRefuse.{CommitRefuse}
use Rattle.commit_book.specs.declared.refusals.CommitRefuse.TheVariants.{NotReady, Spent, Kept}
use Rattle.commit_book.specs.BookViews.{Hold, BookView, is_held, without_item_held, first_free, new_book, give, give_found, next_free, hold, put_back, name_off, commit, most_commits, most_steps, is_spent, is_past_journal}
use Rattle.commit_book.specs.LawfulBooks.{AreRising, AreHeldApart, IsLawfulBook, least_before, not_least, or_else, only_if, refusal, IsRefusedBy}
use Rattle.commit_book.proofs.books.HoldLists.{apart-without_item, apart-without_iteration, apart-given, apart-with_name}
use Rattle.commit_book.proofs.books.Pasts.{journal-append}
use Rattle.commit_book.proofs.ready.ReadySets.{ready_after-pushes}
use Rattle.commit_book.proofs.ready.RisingItems.{rising-withs, rising-without, rising-withouts, none_before, left_and_pushed, left_after}

-- ---- a new book

pub new_lawful : (ordered : Bool) (ready : List Item) → IsLawfulBook (new_book ordered ready)
new_lawful ordered ready = record { in_turn = refl; rising = rising-withs ready [] tt; apart = tt; not_more = omega arith; kept = omega arith }

-- the same of parts that are these
pub new_same : (ordered : Bool) (items first ready : List Item) (holds : List Hold) (commits : List WholeCommit) → first ≡ with_items [] items → ready ≡ with_items [] items → holds ≡ [] → commits ≡ []
    → record { ordered = ordered; first_ready = first; ready = ready; holds = holds; commits = commits } ≡ new_book ordered items
new_same ordered items first ready holds commits p q r s = λ i. record { ordered = ordered; first_ready = p i; ready = q i; holds = r i; commits = s i }

pub new_as : (ordered : Bool) (items first ready : List Item) (holds : List Hold) (commits : List WholeCommit) → first ≡ with_items [] items → ready ≡ with_items [] items → holds ≡ [] → commits ≡ []
    → IsLawfulBook (record { ordered = ordered; first_ready = first; ready = ready; holds = holds; commits = commits })
new_as ordered items first ready holds commits p q r s = subst IsLawfulBook (sym (new_same ordered items first ready holds commits p q r s)) (new_lawful ordered items)

-- nothing is ready in a book without items, so nothing commits
pub none_ready : (item : Item) → has_item (with_items [] []) item ≡ false
unfolding with_items has_item
none_ready item = refl

pub none_commits : (item : Item) (steps : ℕ) (answer : Result ℕ CommitRefuse) → answer ≡ Err NotReady → IsRefusedBy (refusal (new_book false []) item steps) answer
unfolding with_items has_item
none_commits item steps answer e = e

-- ---- holds

-- with other holds that are apart
pub other_holds : (b : BookView) (holds : List Hold) → IsLawfulBook b → AreHeldApart holds → IsLawfulBook (record b { holds = holds })
other_holds b holds l a = record { in_turn = l.in_turn; rising = l.rising; apart = a; not_more = l.not_more; kept = l.kept }

pub with_holds : (b : BookView) (holds now : List Hold) → IsLawfulBook b → now ≡ holds → AreHeldApart holds → IsLawfulBook (record b { holds = now })
with_holds b holds now l e a = other_holds b now l (subst AreHeldApart (sym e) a)

unheld_by : (holds : List Hold) (x : Item) (xs : List Item) (item : Item) (held : Bool) → is_held holds x ≡ held → (if held then first_free holds xs else Some x) ≡ Some item → (first_free holds xs ≡ Some item → is_held holds item ≡ false) → is_held holds item ≡ false
unheld_by holds x xs item true h e rest = rest e
unheld_by holds x xs item false h e rest = let is : x ≡ item = cc in ap (is_held holds) (sym is) ∙ h

-- the first free item is held by no iteration
pub first_free-unheld : (holds : List Hold) (ready : List Item) (item : Item) → first_free holds ready ≡ Some item → is_held holds item ≡ false
first_free-unheld holds [] item e = absurd (cc)
first_free-unheld holds (x ∷ xs) item e = unheld_by holds x xs item (is_held holds x) refl e (first_free-unheld holds xs item)

pub give_lawful : (b : BookView) (worker iter : ℕ) (item : Item) → IsLawfulBook b → is_held b.holds item ≡ false → IsLawfulBook (give b worker iter item)
give_lawful b worker iter item l n = other_holds b _ l (apart-given b.holds (record { worker = worker; iter = iter; item = item; named = false }) n l.apart)

found_lawful : (b : BookView) (worker iter : ℕ) (found : Option Item) → IsLawfulBook b → first_free b.holds b.ready ≡ found → IsLawfulBook (give_found b worker iter found)
found_lawful b worker iter None l e = l
found_lawful b worker iter (Some item) l e = give_lawful b worker iter item l (first_free-unheld b.holds b.ready item e)

pub next_free_lawful : (b : BookView) (worker iter : ℕ) → IsLawfulBook b → IsLawfulBook (next_free b worker iter)
next_free_lawful b worker iter l = found_lawful b worker iter (first_free b.holds b.ready) l refl

hold_by : (b : BookView) (worker iter : ℕ) (item : Item) (ready held : Bool) → is_held b.holds item ≡ held → IsLawfulBook b → IsLawfulBook (if ready && not held then give b worker iter item else b)
hold_by b worker iter item true true e l = l
hold_by b worker iter item true false e l = give_lawful b worker iter item l e
hold_by b worker iter item false held e l = l

pub hold_lawful : (b : BookView) (worker iter : ℕ) (item : Item) → IsLawfulBook b → IsLawfulBook (hold b worker iter item)
hold_lawful b worker iter item l = hold_by b worker iter item (has_item b.ready item) (is_held b.holds item) refl l

pub put_back_lawful : (b : BookView) (worker iter : ℕ) → IsLawfulBook b → IsLawfulBook (put_back b worker iter)
put_back_lawful b worker iter l = other_holds b _ l (apart-without_iteration b.holds worker iter l.apart)

pub name_off_lawful : (b : BookView) (worker iter : ℕ) (by : Item) → IsLawfulBook b → IsLawfulBook (name_off b worker iter by)
name_off_lawful b worker iter by l = other_holds b _ l (apart-with_name b.holds worker iter by l.apart)

-- ---- what isn't refused

-- an item that isn't refused is ready, comes in its turn, and there is room for its commit and its steps
pub record IsAdmitted (b : BookView) (item : Item) (steps : ℕ) : Type 0 where
  pub ready_now : has_item b.ready item ≡ true
  pub none_before : (if b.ordered then not_least (least_before b.ready item) else None) ≡ None
  pub not_spent : is_spent b ≡ false
  pub not_kept : is_past_journal b steps ≡ false

neither_refuses : (a b : Option CommitRefuse) → or_else a b ≡ None → (a ≡ None) × (b ≡ None)
neither_refuses None b e = (refl, e)
neither_refuses (Some refuse) b e = absurd (cc)

not_refused : (holds : Bool) (refuse : CommitRefuse) → only_if holds refuse ≡ None → holds ≡ false
not_refused true refuse e = absurd (cc)
not_refused false refuse e = refl

ready_if : (ready : Bool) → not ready ≡ false → ready ≡ true
ready_if true e = refl
ready_if false e = absurd (cc)

pub admitted : (b : BookView) (item : Item) (steps : ℕ) → refusal b item steps ≡ None → IsAdmitted b item steps
admitted b item steps e =
    let p = neither_refuses (only_if (not (has_item b.ready item)) NotReady) _ e in
    let q = neither_refuses (if b.ordered then not_least (least_before b.ready item) else None) _ p.1 in
    let r = neither_refuses (only_if (is_spent b) Spent) _ q.1 in
    record {
      ready_now = ready_if (has_item b.ready item) (not_refused (not (has_item b.ready item)) NotReady p.0);
      none_before = q.0;
      not_spent = not_refused (is_spent b) Spent r.0;
      not_kept = not_refused (is_past_journal b steps) Kept r.1;
    }

no_least : (least : Option Item) → not_least least ≡ None → least ≡ None
no_least None e = refl
no_least (Some least) e = absurd (cc)

in_turn_by : (ordered : Bool) (ready : List Item) (item : Item) → AreRising ready → has_item ready item ≡ true → (if ordered then not_least (least_before ready item) else None) ≡ None → may_commit ordered ready item ≡ true
in_turn_by true ready item r h n = ap (λ b. b && is_least ready item) h ∙ none_before ready item r (no_least (least_before ready item) n)
in_turn_by false ready item r h n = ap (λ b. b && true) h

pub may_commit_then : (b : BookView) (item : Item) (steps : ℕ) → IsLawfulBook b → refusal b item steps ≡ None → may_commit b.ordered b.ready item ≡ true
may_commit_then b item steps l e =
    let a = admitted b item steps e in
    in_turn_by b.ordered b.ready item l.rising a.ready_now a.none_before

-- ---- a commit

in_turn-append : (ordered : Bool) (first : List Item) (cs : List WholeCommit) (ready : List Item) (c : WholeCommit) → AreInTurn ordered first cs ready → may_commit ordered ready c.item ≡ true
    → AreInTurn ordered first (cs ++ c ∷ []) (ready_after ready c.item c.outcome)
in_turn-append ordered first [] ready c t m = (ap (λ r. may_commit ordered r c.item) t ∙ m, ap (λ r. ready_after r c.item c.outcome) t)
in_turn-append ordered first (d ∷ ds) ready c t m = (t.0, in_turn-append ordered (ready_after first d.item d.outcome) ds ready c t.1 m)

pub commit_lawful : (b : BookView) (worker iter : ℕ) (item : Item) (o : Outcome) → IsLawfulBook b → refusal b item (length o.steps) ≡ None → IsLawfulBook (commit b worker iter item o)
commit_lawful b worker iter item o l e =
    let a = admitted b item (length o.steps) e in
    let c : WholeCommit = record { worker = worker; iter = iter; item = item; outcome = o } in
    let m = length-append b.commits (c ∷ []) in
    let n : length (journal (b.commits ++ c ∷ [])) ≡ length (journal b.commits) + length o.steps = ap length (journal-append b.commits c) ∙ length-append (journal b.commits) o.steps in
    let spent = eqb-false (length b.commits) most_commits a.not_spent in
    let fits = ltb-false most_steps (length (journal b.commits) + length o.steps) a.not_kept in
    let was = l.not_more in
    record {
      in_turn = in_turn-append b.ordered b.first_ready b.commits b.ready c l.in_turn (may_commit_then b item (length o.steps) l e);
      rising = rising-withs o.pushes _ (rising-withouts o.withdrawn _ (rising-without b.ready item l.rising));
      apart = apart-without_item b.holds item l.apart;
      not_more = grind arith;
      kept = omega arith;
    }

-- ---- a commit as the code makes it: first the pushes enter, then the item leaves, unless it is one of them

left_by : (ready : List Item) (item : Item) (pushes : List Item) (pushed : Bool) → has_item pushes item ≡ pushed → AreRising ready
    → (if pushed then with_items ready pushes else without_item (with_items ready pushes) item) ≡ with_items (without_item ready item) pushes
left_by ready item pushes true h r = left_and_pushed pushes ready item r h
left_by ready item pushes false h r = left_after pushes ready item r h

pub committed : (b : BookView) (worker iter : ℕ) (item : Item) (log : List Step) (pushes entered ready : List Item) (holds : List Hold) (commits : List WholeCommit) → AreRising b.ready
    → entered ≡ with_items b.ready pushes → ready ≡ (if has_item pushes item then entered else without_item entered item) → holds ≡ without_item_held b.holds item
    → commits ≡ b.commits ++ record { worker = worker; iter = iter; item = item; outcome = record { steps = log; pushes = pushes; withdrawn = [] } } ∷ []
    → record b { ready = ready; holds = holds; commits = commits } ≡ commit b worker iter item (record { steps = log; pushes = pushes; withdrawn = [] })
committed b worker iter item log pushes entered ready holds commits r e l h c =
    let is : ready ≡ ready_after b.ready item (record { steps = log; pushes = pushes; withdrawn = [] }) =
    l ∙ ap (λ x. if has_item pushes item then x else without_item x item) e ∙ left_by b.ready item pushes (has_item pushes item) refl r ∙ sym (ready_after-pushes b.ready item log pushes) in
    λ i. record { ordered = b.ordered; first_ready = b.first_ready; ready = is i; holds = h i; commits = c i }

pub committed_lawful : (b : BookView) (worker iter : ℕ) (item : Item) (log : List Step) (pushes entered ready : List Item) (holds : List Hold) (commits : List WholeCommit) → IsLawfulBook b → refusal b item (length log) ≡ None
    → entered ≡ with_items b.ready pushes → ready ≡ (if has_item pushes item then entered else without_item entered item) → holds ≡ without_item_held b.holds item
    → commits ≡ b.commits ++ record { worker = worker; iter = iter; item = item; outcome = record { steps = log; pushes = pushes; withdrawn = [] } } ∷ []
    → IsLawfulBook (record b { ready = ready; holds = holds; commits = commits })
committed_lawful b worker iter item log pushes entered ready holds commits lawful n e l h c =
    subst IsLawfulBook (sym (committed b worker iter item log pushes entered ready holds commits lawful.rising e l h c))
    (commit_lawful b worker iter item (record { steps = log; pushes = pushes; withdrawn = [] }) lawful n)
