-- The past of a book as the code keeps it, in four lists.
use Rattle.std.specs.Prelude.{◌≡◌, ℕ, ◌+◌, ◌≤◌, List, [], ◌∷◌, ◌++◌, length, take, drop, refl}
use Rattle.std.specs.List.{fold, sum_by}
use Rattle.std.proofs.Common.{sym, ◌∙◌, ap, subst, arith}
use Rattle.std.proofs.lemmas.List.{append_assoc, append-nil, length-append, length-take-le, take_all, drop_all, take-append-drop, take-append-le, drop-append-le}
use Rattle.gx_base.specs.declared.acts.Commit.{Commit}
use Rattle.gx_base.specs.declared.acts.Step.{Step}
use Rattle.gx_base.specs.declared.items.Item.{Item}
use Rattle.gx_base.specs.Outcomes.{WholeCommit, journal}
use Rattle.gx_base.specs.SerialRuns.{counted, all_counted}
use Rattle.commit_book.specs.StoredBooks.{whole_commit, whole_commits, AddUp}

-- ---- what the lists tell

counted_whole : (c : Commit) (steps : List Step) (pushes : List Item) → length steps ≡ c.steps → counted (whole_commit c steps pushes) ≡ c
counted_whole c steps pushes e = λ i. record { worker = c.worker; iter = c.iter; item = c.item; steps = e i }

pub all_counted-whole : (cs : List Commit) (steps : List Step) (counts : List ℕ) (pushes : List Item) → AddUp cs steps counts pushes → all_counted (whole_commits cs steps counts pushes) ≡ cs
all_counted-whole [] steps [] pushes a = refl
all_counted-whole [] steps (n ∷ counts) pushes a = refl
all_counted-whole (c ∷ cs) steps [] pushes a = absurd a
all_counted-whole (c ∷ cs) steps (n ∷ counts) pushes a =
    λ i. counted_whole c (take c.steps steps) (take n pushes) (length-take-le c.steps steps a.0) i ∷ all_counted-whole cs (drop c.steps steps) counts (drop n pushes) a.2 i

pub journal-whole : (cs : List Commit) (steps : List Step) (counts : List ℕ) (pushes : List Item) → AddUp cs steps counts pushes → journal (whole_commits cs steps counts pushes) ≡ steps
journal-whole [] steps [] pushes a = sym a.0
journal-whole [] steps (n ∷ counts) pushes a = absurd a
journal-whole (c ∷ cs) steps [] pushes a = absurd a
journal-whole (c ∷ cs) steps (n ∷ counts) pushes a =
    ap (λ l. take c.steps steps ++ l) (journal-whole cs (drop c.steps steps) counts (drop n pushes) a.2) ∙ take-append-drop c.steps steps

-- ---- one commit more

all_of : {A : Type 0} (n : ℕ) (xs : List A) → n ≡ length xs → take n xs ≡ xs
all_of n xs e = take_all n xs (omega arith)

last_whole : (c : Commit) (steps log : List Step) (count : ℕ) (pushes more : List Item) → steps ≡ [] → pushes ≡ [] → c.steps ≡ length log → count ≡ length more
    → whole_commits (c ∷ []) (steps ++ log) (count ∷ []) (pushes ++ more) ≡ whole_commit c log more ∷ []
last_whole c steps log count pushes more s p e f =
    ap (λ l. whole_commits (c ∷ []) (l ++ log) (count ∷ []) (pushes ++ more)) s
    ∙ ap (λ l. whole_commits (c ∷ []) log (count ∷ []) (l ++ more)) p
    ∙ (λ i. whole_commit c (all_of c.steps log e i) (all_of count more f i) ∷ [])

pub whole-append : (cs : List Commit) (c : Commit) (steps log : List Step) (counts : List ℕ) (count : ℕ) (pushes more : List Item) → AddUp cs steps counts pushes → c.steps ≡ length log → count ≡ length more
    → whole_commits (cs ++ c ∷ []) (steps ++ log) (counts ++ count ∷ []) (pushes ++ more) ≡ whole_commits cs steps counts pushes ++ whole_commit c log more ∷ []
whole-append [] c steps log [] count pushes more a e f = last_whole c steps log count pushes more a.0 a.1 e f
whole-append [] c steps log (n ∷ counts) count pushes more a e f = absurd a
whole-append (d ∷ ds) c steps log [] count pushes more a e f = absurd a
whole-append (d ∷ ds) c steps log (n ∷ counts) count pushes more a e f =
    (λ i.
    whole_commit d (take-append-le d.steps steps log a.0 i) (take-append-le n pushes more a.1 i)
    ∷ whole_commits (ds ++ c ∷ []) (drop-append-le d.steps steps log a.0 i) (counts ++ count ∷ []) (drop-append-le n pushes more a.1 i))
    ∙ ap (λ l. whole_commit d (take d.steps steps) (take n pushes) ∷ l) (whole-append ds c (drop d.steps steps) log counts count (drop n pushes) more a.2 e f)

longer : {A : Type 0} (n : ℕ) (xs ys : List A) → n ≤ length xs → n ≤ length (xs ++ ys)
longer n xs ys h = let e = length-append xs ys in omega arith

last_adds_up : (c : Commit) (steps log : List Step) (count : ℕ) (pushes more : List Item) → steps ≡ [] → pushes ≡ [] → c.steps ≡ length log → count ≡ length more → AddUp (c ∷ []) (steps ++ log) (count ∷ []) (pushes ++ more)
last_adds_up c steps log count pushes more s p e f =
    let g = length-append steps log in
    let h = length-append pushes more in
    let m : length steps ≡ 0 = ap length s in
    let n : length pushes ≡ 0 = ap length p in
    (omega arith, omega arith, (drop_all c.steps (steps ++ log) (omega arith), drop_all count (pushes ++ more) (omega arith)))

pub add_up-append : (cs : List Commit) (c : Commit) (steps log : List Step) (counts : List ℕ) (count : ℕ) (pushes more : List Item) → AddUp cs steps counts pushes → c.steps ≡ length log → count ≡ length more
    → AddUp (cs ++ c ∷ []) (steps ++ log) (counts ++ count ∷ []) (pushes ++ more)
add_up-append [] c steps log [] count pushes more a e f = last_adds_up c steps log count pushes more a.0 a.1 e f
add_up-append [] c steps log (n ∷ counts) count pushes more a e f = absurd a
add_up-append (d ∷ ds) c steps log [] count pushes more a e f = absurd a
add_up-append (d ∷ ds) c steps log (n ∷ counts) count pushes more a e f = (
  longer d.steps steps log a.0,
  longer n pushes more a.1,
  subst (λ s. AddUp (ds ++ c ∷ []) s (counts ++ count ∷ []) (drop n (pushes ++ more))) (sym (drop-append-le d.steps steps log a.0))
      (subst (λ p. AddUp (ds ++ c ∷ []) (drop d.steps steps ++ log) (counts ++ count ∷ []) p) (sym (drop-append-le n pushes more a.1))
      (add_up-append ds c (drop d.steps steps) log counts count (drop n pushes) more a.2 e f)),
)

-- the same of lists that are these
pub appended_adds_up : (cs cs2 : List Commit) (c : Commit) (steps steps2 log : List Step) (counts counts2 : List ℕ) (count : ℕ) (pushes pushes2 more : List Item)
    → cs2 ≡ cs ++ c ∷ [] → steps2 ≡ steps ++ log → counts2 ≡ counts ++ count ∷ [] → pushes2 ≡ pushes ++ more → AddUp cs steps counts pushes → c.steps ≡ length log → count ≡ length more → AddUp cs2 steps2 counts2 pushes2
appended_adds_up cs cs2 c steps steps2 log counts counts2 count pushes pushes2 more p q r s a e f =
    subst (λ x. AddUp x steps2 counts2 pushes2) (sym p)
    (subst (λ x. AddUp (cs ++ c ∷ []) x counts2 pushes2) (sym q)
    (subst (λ x. AddUp (cs ++ c ∷ []) (steps ++ log) x pushes2) (sym r)
    (subst (λ x. AddUp (cs ++ c ∷ []) (steps ++ log) (counts ++ count ∷ []) x) (sym s) (add_up-append cs c steps log counts count pushes more a e f))))

pub appended_whole : (cs cs2 : List Commit) (c : Commit) (steps steps2 log : List Step) (counts counts2 : List ℕ) (count : ℕ) (pushes pushes2 more : List Item)
    → cs2 ≡ cs ++ c ∷ [] → steps2 ≡ steps ++ log → counts2 ≡ counts ++ count ∷ [] → pushes2 ≡ pushes ++ more → AddUp cs steps counts pushes → c.steps ≡ length log → count ≡ length more
    → whole_commits cs2 steps2 counts2 pushes2 ≡ whole_commits cs steps counts pushes ++ whole_commit c log more ∷ []
appended_whole cs cs2 c steps steps2 log counts counts2 count pushes pushes2 more p q r s a e f =
    (λ i. whole_commits (p i) (q i) (r i) (s i)) ∙ whole-append cs c steps log counts count pushes more a e f

-- ---- their steps

sum_from : (cs : List WholeCommit) (n : ℕ) → fold (λ (a : ℕ) (c : Commit). a + c.steps) n (all_counted cs) ≡ n + length (journal cs)
sum_from [] n = omega arith
sum_from (c ∷ cs) n =
    let e = length-append c.outcome.steps (journal cs) in
    sum_from cs (n + length c.outcome.steps) ∙ (omega arith)

pub steps-sum : (cs : List WholeCommit) → sum_by (λ (c : Commit). c.steps) (all_counted cs) ≡ length (journal cs)
steps-sum cs = sum_from cs 0 ∙ (omega arith)

pub journal-append : (cs : List WholeCommit) (c : WholeCommit) → journal (cs ++ c ∷ []) ≡ journal cs ++ c.outcome.steps
journal-append [] c = append-nil c.outcome.steps
journal-append (d ∷ ds) c = ap (λ l. d.outcome.steps ++ l) (journal-append ds c) ∙ sym (append_assoc d.outcome.steps (journal ds) c.outcome.steps)
