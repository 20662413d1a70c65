-- A run that takes the least ready item at each turn, one commit at a time.
use Rattle.std.specs.Prelude.{◌≡◌, ℕ, ◌+◌, Bool, true, false, not, ◌&&◌, ◌||◌, if◌then◌else◌, Some, None, List, [], ◌∷◌, ◌++◌, length, refl}
use Rattle.std.proofs.Common.{sym, ◌∙◌, ap, arith}
use Rattle.std.proofs.lemmas.List.{map-append, length-map}
use Rattle.gx_base.specs.declared.acts.Commit.{Commit}
use Rattle.gx_base.specs.declared.items.Item.{Item}
use Rattle.gx_base.specs.States.{State}
use Rattle.gx_base.specs.Plans.{Operator}
use Rattle.gx_base.specs.Outcomes.{Outcome, WholeCommit}
use Rattle.gx_base.specs.Worklists.{has_item, is_least}
use Rattle.gx_base.specs.SerialIterations.{body, may_commit, ready_after, with_first, serial, least_first}
use Rattle.gx_base.specs.SerialRuns.{IsSerialRun, IsSerialRunInTwo, AreNumberedBy, counted}
use Rattle.gx_base.proofs.CallerLemmas.{IsSerialRun-append}
use Rattle.commit_book.specs.SerialRuns.{most_commits, IsLeastFirstRun, IsUnfinished}

-- these commits are a run so far, with these items ready after them and these states
pub record IsRunSoFar (op : Operator) (before : ℕ → State) (ready : List Item) (told : List Commit) (left : List Item) (now : ℕ → State) : Type 0 where
  pub outcomes : List Outcome
  pub run : IsLeastFirstRun op before ready told (record { states = now; ready = left; outcomes = outcomes })

none_by : (op : Operator) (before : ℕ → State) (ready left : List Item) → left ≡ ready → serial op before ready [] ≡ Some (record { states = before; ready = left; outcomes = [] })
unfolding serial
none_by op before ready left e = λ i. Some (record { states = before; ready = sym e i; outcomes = [] })

pub none_yet : (op : Operator) (before : ℕ → State) (ready left : List Item) (told : List Commit) → told ≡ [] → left ≡ ready → IsRunSoFar op before ready told left before
none_yet op before ready left told c e = record {
  outcomes = [];
  run = record {
    commits = [];
    serial_run = record { in_turn = none_by op before ready left e; recorded = refl };
    least = none_by (least_first op) before ready left e;
    one_worker = tt;
    are_told = c;
  };
}

-- one turn
one_turn : (op : Operator) (now after : ℕ → State) (left more : List Item) (item : Item) (o : Outcome) → may_commit op.ordered left item ≡ true → body (op.plan item) now ≡ record { outcome = o; states = after } → more ≡ ready_after left item o
    → serial op now left (item ∷ []) ≡ Some (record { states = after; ready = more; outcomes = o ∷ [] })
unfolding serial
one_turn op now after left more item o m b e =
    (λ i. if m i then with_first (b i).outcome (Some (record { states = (b i).states; ready = ready_after left item (b i).outcome; outcomes = [] })) else None)
    ∙ ap (λ (xs : List Item). Some (record { states = after; ready = xs; outcomes = o ∷ [] })) (sym e)

may_by : (ordered has least : Bool) → has ≡ true → least ≡ true → (has && (not ordered || least)) ≡ true
may_by true has least h l = ap (λ b. b && least) h ∙ l
may_by false has least h l = ap (λ b. b && true) h

-- one more commit
longer_by : (op : Operator) (before now after : ℕ → State) (ready left more : List Item) (commits : List WholeCommit) (outcomes : List Outcome) (c : WholeCommit)
    → IsSerialRun op before ready commits (record { states = now; ready = left; outcomes = outcomes }) → serial op now left (c.item ∷ []) ≡ Some (record { states = after; ready = more; outcomes = c.outcome ∷ [] })
    → IsSerialRun op before ready (commits ++ c ∷ []) (record { states = after; ready = more; outcomes = outcomes ++ c.outcome ∷ [] })
longer_by op before now after ready left more commits outcomes c run turn =
    let two : IsSerialRunInTwo op before ready commits (c ∷ []) (record { states = after; ready = more; outcomes = outcomes ++ c.outcome ∷ [] }) = record {
      between = record { states = now; ready = left; outcomes = outcomes };
      last = record { states = after; ready = more; outcomes = c.outcome ∷ [] };
      first_run = run;
      second_run = record { in_turn = turn; recorded = refl };
      end = refl;
    } in
    IsSerialRun-append op before ready commits (c ∷ []) _ two

numbered-append : (worker iter : ℕ) (commits : List WholeCommit) (c : WholeCommit) → AreNumberedBy worker iter commits → c.worker ≡ worker → c.iter ≡ iter + length commits → AreNumberedBy worker iter (commits ++ c ∷ [])
numbered-append worker iter [] c h w n = (w, omega (arith, n), tt)
numbered-append worker iter (x ∷ xs) c h w n = (h.0, h.1, numbered-append worker (iter + 1) xs c h.2 w (omega (arith, n)))

-- the least ready item commits
pub commits_one : (op : Operator) (before now after : ℕ → State) (ready left more : List Item) (told longer : List Commit) (item : Item) (steps iter : ℕ) (o : Outcome) → IsRunSoFar op before ready told left now
    → has_item left item ≡ true → is_least left item ≡ true → body (op.plan item) now ≡ record { outcome = o; states = after } → more ≡ ready_after left item o
    → iter ≡ length told → steps ≡ length o.steps → longer ≡ told ++ record { worker = 0; iter = iter; item = item; steps = steps } ∷ [] → IsRunSoFar op before ready longer more after
commits_one op before now after ready left more told longer item steps iter o r h l b m n s e =
    let c : WholeCommit = record { worker = 0; iter = iter; item = item; outcome = o } in
    let first : IsSerialRun (least_first op) before ready r.run.commits (record { states = now; ready = left; outcomes = r.outcomes }) = record { in_turn = r.run.least; recorded = r.run.serial_run.recorded } in
    let least : IsSerialRun (least_first op) before ready (r.run.commits ++ c ∷ []) (record { states = after; ready = more; outcomes = r.outcomes ++ o ∷ [] }) =
    longer_by (least_first op) before now after ready left more r.run.commits r.outcomes c first (one_turn (least_first op) now after left more item o (may_by true (has_item left item) (is_least left item) h l) b m) in
    let many : length told ≡ length r.run.commits = ap length r.run.are_told ∙ length-map r.run.commits counted in
    record {
      outcomes = r.outcomes ++ o ∷ [];
      run = record {
        commits = r.run.commits ++ c ∷ [];
        serial_run = longer_by op before now after ready left more r.run.commits r.outcomes c r.run.serial_run (one_turn op now after left more item o (may_by op.ordered (has_item left item) (is_least left item) h l) b m);
        least = least.in_turn;
        one_worker = numbered-append 0 0 r.run.commits c r.run.one_worker refl (omega (arith, n, many));
        are_told = e ∙ (λ i. r.run.are_told i ++ record { worker = 0; iter = iter; item = item; steps = s i } ∷ []) ∙ sym (map-append counted r.run.commits (c ∷ []));
      };
    }

-- where an item is ready, some are
ready_by : (left : List Item) (item : Item) → has_item left item ≡ true → left ≡ [] → ⊥
unfolding has_item
ready_by [] item h e = absurd (cc)
ready_by (x ∷ xs) item h e = absurd (cc)

pub unfinished_of : (op : Operator) (before now : ℕ → State) (ready left : List Item) (told : List Commit) (item : Item) → IsRunSoFar op before ready told left now → length told ≡ most_commits → has_item left item ≡ true → IsUnfinished op before ready now
unfinished_of op before now ready left told item r f h = record {
  told = told;
  ended = record { states = now; ready = left; outcomes = r.outcomes };
  run = r.run;
  full = f;
  states = refl;
  ready_still = ready_by left item h;
}
