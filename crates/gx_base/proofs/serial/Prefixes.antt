-- A serial iteration splits at each prefix of its order, and a serial run at each prefix of its commits.
use Rattle.std.specs.Prelude.{◌≡◌, ℕ, suc, Bool, true, false, if◌then◌else◌, Option, Some, None, List, [], ◌∷◌, ◌++◌, length, refl}
use Rattle.std.proofs.Common.{sym, ◌∙◌, ap, arith}
use Rattle.gx_base.specs.declared.items.Item.{Item}
use Rattle.gx_base.specs.States.{State}
use Rattle.gx_base.specs.Plans.{Operator}
use Rattle.gx_base.specs.Outcomes.{Outcome, WholeCommit, order_of, outcomes_of}
use Rattle.gx_base.specs.SerialIterations.{body, Ended, may_commit, ready_after, with_first, with_before, serial, then_serial}
use Rattle.gx_base.specs.SerialRuns.{IsSerialRun, IsSerialRunInTwo}

-- ---- orders

nothing_before : (t : Option Ended) → t ≡ with_before [] t
nothing_before None = refl
nothing_before (Some ended) = refl

one_before : (o : Outcome) (outcomes : List Outcome) (t : Option Ended) → with_first o (with_before outcomes t) ≡ with_before (o ∷ outcomes) t
one_before o outcomes None = refl
one_before o outcomes (Some ended) = refl

first_then : (op : Operator) (order : List Item) (o : Outcome) (t : Option Ended) → with_first o (then_serial op order t) ≡ then_serial op order (with_first o t)
first_then op order o None = refl
first_then op order o (Some e) = one_before o e.outcomes (serial op e.states e.ready order)

turn_then : (op : Operator) (order : List Item) (o : Outcome) (b : Bool) (t u : Option Ended) → t ≡ then_serial op order u → (if b then with_first o t else None) ≡ then_serial op order (if b then with_first o u else None)
turn_then op order o true t u e = ap (with_first o) e ∙ first_then op order o u
turn_then op order o false t u e = refl

-- a serial iteration of two orders is that of the second from the end of the first
pub serial-append : (op : Operator) (states : ℕ → State) (ready : List Item) (xs ys : List Item) → serial op states ready (xs ++ ys) ≡ then_serial op ys (serial op states ready xs)
unfolding serial
serial-append op states ready [] ys = nothing_before (serial op states ready ys)
serial-append op states ready (x ∷ xs) ys =
    turn_then op ys (body (op.plan x) states).outcome (may_commit op.ordered ready x) _ _ (serial-append op (body (op.plan x) states).states (ready_after ready x (body (op.plan x) states).outcome) xs ys)

-- ---- the first turn

-- the first item may commit, and the rest of the order goes on after its body
pub record FirstTurn (op : Operator) (states : ℕ → State) (ready : List Item) (item : Item) (order : List Item) (ended : Ended) : Type 0 where
  pub may : may_commit op.ordered ready item ≡ true
  pub rest : Ended
  pub goes_on : serial op (body (op.plan item) states).states (ready_after ready item (body (op.plan item) states).outcome) order ≡ Some rest
  pub end : ended ≡ record rest { outcomes = (body (op.plan item) states).outcome ∷ rest.outcomes }

pub some_same : {A : Type 0} {x y : A} → Some x ≡ Some y → x ≡ y
some_same e = cc

turn_by : (op : Operator) (states : ℕ → State) (ready : List Item) (item : Item) (order : List Item) (ended : Ended) (b : Bool) (t : Option Ended) → may_commit op.ordered ready item ≡ b
    → serial op (body (op.plan item) states).states (ready_after ready item (body (op.plan item) states).outcome) order ≡ t
    → (if b then with_first (body (op.plan item) states).outcome t else None) ≡ Some ended → FirstTurn op states ready item order ended
turn_by op states ready item order ended false t m s e = absurd (cc)
turn_by op states ready item order ended true None m s e = absurd (cc)
turn_by op states ready item order ended true (Some rest) m s e = record { may = m; rest = rest; goes_on = s; end = sym (some_same e) }

pub first_turn : (op : Operator) (states : ℕ → State) (ready : List Item) (item : Item) (order : List Item) (ended : Ended) → serial op states ready (item ∷ order) ≡ Some ended → FirstTurn op states ready item order ended
unfolding serial
first_turn op states ready item order ended e = turn_by op states ready item order ended (may_commit op.ordered ready item) _ refl refl e

pub as_many : (op : Operator) (states : ℕ → State) (ready : List Item) (order : List Item) (ended : Ended) → serial op states ready order ≡ Some ended → length ended.outcomes ≡ length order
unfolding serial
as_many op states ready [] ended e = ap (λ (x : Ended). length x.outcomes) (sym (some_same e))
as_many op states ready (x ∷ xs) ended e =
    let f : FirstTurn op states ready x xs ended = first_turn op states ready x xs ended e in
    ap (λ (y : Ended). length y.outcomes) f.end ∙ ap suc (as_many op (body (op.plan x) states).states (ready_after ready x (body (op.plan x) states).outcome) xs f.rest f.goes_on)

-- ---- commits

pub order_of-append : (xs ys : List WholeCommit) → order_of (xs ++ ys) ≡ order_of xs ++ order_of ys
order_of-append [] ys = refl
order_of-append (x ∷ xs) ys = ap (λ items. x.item ∷ items) (order_of-append xs ys)

pub outcomes_of-append : (xs ys : List WholeCommit) → outcomes_of (xs ++ ys) ≡ outcomes_of xs ++ outcomes_of ys
outcomes_of-append [] ys = refl
outcomes_of-append (x ∷ xs) ys = ap (λ outcomes. x.outcome ∷ outcomes) (outcomes_of-append xs ys)

length-outcomes_of : (commits : List WholeCommit) → length (outcomes_of commits) ≡ length (order_of commits)
length-outcomes_of [] = refl
length-outcomes_of (c ∷ cs) = ap suc (length-outcomes_of cs)

same_fronts : (xs ys ps qs : List Outcome) → length xs ≡ length ys → xs ++ ps ≡ ys ++ qs → (xs ≡ ys) × (ps ≡ qs)
same_fronts [] [] ps qs n e = (refl, e)
same_fronts [] (y ∷ ys) ps qs n e = absurd (omega arith)
same_fronts (x ∷ xs) [] ps qs n e = absurd (omega arith)
same_fronts (x ∷ xs) (y ∷ ys) ps qs n e =
    let first : x ≡ y = cc in
    let rest : xs ++ ps ≡ ys ++ qs = cc in
    let both : (xs ≡ ys) × (ps ≡ qs) = same_fronts xs ys ps qs (omega arith) rest in
    ((λ i. first i ∷ both.0 i), both.1)

second_by : (op : Operator) (states : ℕ → State) (ready : List Item) (xs ys : List WholeCommit) (ended between : Ended) (u : Option Ended) → serial op states ready (order_of xs) ≡ Some between
    → serial op between.states between.ready (order_of ys) ≡ u → with_before between.outcomes u ≡ Some ended → outcomes_of (xs ++ ys) ≡ ended.outcomes → IsSerialRunInTwo op states ready xs ys ended
second_by op states ready xs ys ended between None s k e o = absurd (cc)
second_by op states ready xs ys ended between (Some last) s k e o =
    let end : record last { outcomes = between.outcomes ++ last.outcomes } ≡ ended = some_same e in
    let many : length (outcomes_of xs) ≡ length between.outcomes = length-outcomes_of xs ∙ sym (as_many op states ready (order_of xs) between s) in
    let both : (outcomes_of xs ≡ between.outcomes) × (outcomes_of ys ≡ last.outcomes) =
    same_fronts (outcomes_of xs) between.outcomes (outcomes_of ys) last.outcomes many (sym (outcomes_of-append xs ys) ∙ o ∙ ap (λ (x : Ended). x.outcomes) (sym end)) in
    record {
      between = between;
      last = last;
      first_run = record { in_turn = s; recorded = both.0 };
      second_run = record { in_turn = k; recorded = both.1 };
      end = sym end;
    }

first_by : (op : Operator) (states : ℕ → State) (ready : List Item) (xs ys : List WholeCommit) (ended : Ended) (t : Option Ended) → serial op states ready (order_of xs) ≡ t
    → then_serial op (order_of ys) t ≡ Some ended → outcomes_of (xs ++ ys) ≡ ended.outcomes → IsSerialRunInTwo op states ready xs ys ended
first_by op states ready xs ys ended None s e o = absurd (cc)
first_by op states ready xs ys ended (Some between) s e o = second_by op states ready xs ys ended between _ s refl e o

-- a serial run splits at each prefix of its commits
pub IsSerialRun-split : (op : Operator) (states : ℕ → State) (ready : List Item) (xs ys : List WholeCommit) (ended : Ended) → IsSerialRun op states ready (xs ++ ys) ended → IsSerialRunInTwo op states ready xs ys ended
IsSerialRun-split op states ready xs ys ended run =
    first_by op states ready xs ys ended _ refl (sym (ap (serial op states ready) (order_of-append xs ys) ∙ serial-append op states ready (order_of xs) (order_of ys)) ∙ run.in_turn) run.recorded

-- and two of them, of which the second begins where the first ends, are one
pub IsSerialRun-append : (op : Operator) (states : ℕ → State) (ready : List Item) (xs ys : List WholeCommit) (ended : Ended) → IsSerialRunInTwo op states ready xs ys ended → IsSerialRun op states ready (xs ++ ys) ended
IsSerialRun-append op states ready xs ys ended h = record {
  in_turn =
      ap (serial op states ready) (order_of-append xs ys)
      ∙ serial-append op states ready (order_of xs) (order_of ys)
      ∙ ap (then_serial op (order_of ys)) h.first_run.in_turn
      ∙ ap (with_before h.between.outcomes) h.second_run.in_turn
      ∙ ap Some (sym h.end);
  recorded =
      outcomes_of-append xs ys
      ∙ (λ i. h.first_run.recorded i ++ h.second_run.recorded i)
      ∙ ap (λ (x : Ended). x.outcomes) (sym h.end);
}
