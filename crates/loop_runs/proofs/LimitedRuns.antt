-- A run passes one limit first, whatever number of turns is looked at, or none.
use Rattle.std.specs.Prelude.{◌≡◌, ℕ, zero, suc, Bool, true, false, if◌then◌else◌, Option, Some, None, List}
use Rattle.std.proofs.Common.{sym, ◌∙◌, ap}
use Rattle.gx_base.specs.Plans.{Operator}
use Rattle.speculation.specs.Machines.{Machine, turn}
use Rattle.speculation.specs.ScheduledRuns.{Run, is_empty, begun, lone_run, drained, played}
use Rattle.speculation.specs.Limits.{Limit, limit_in, or_later, limit_of_scheduled, limit_of_alone, limit_of_played}
use Rattle.schedules.specs.Draws.{scheduled_turns}
use Rattle.run_words.specs.declared.options.RunOptions.{RunOptions}
use Rattle.loop_runs.specs.GateTables.{GateTables}
use Rattle.loop_runs.specs.LoopRuns.{Loop, loop_machine, IsLoopRun, IsRunPast}

some_is : (a b : Limit) → Some a ≡ Some b → a ≡ b
some_is a b e = cc

no_limit : {A : Type 0} (limit : Limit) → None ≡ Some limit → A
no_limit limit e = absurd (cc)

-- of two answers that begin alike, the later ones decide
once_by : (first later later' : Option Limit) (a b : Limit) → (later ≡ Some a → later' ≡ Some b → a ≡ b) → or_later first later ≡ Some a → or_later first later' ≡ Some b → a ≡ b
once_by None later later' a b more p q = more p q
once_by (Some limit) later later' a b more p q = some_is a b (sym p ∙ q)

never_by : (first later later' : Option Limit) (a : Limit) → (later ≡ None → later' ≡ Some a → ⊥) → or_later first later ≡ None → or_later first later' ≡ Some a → ⊥
never_by None later later' a more p q = more p q
never_by (Some limit) later later' a more p q = no_limit limit (sym p)

module _ (op : Operator) where
  once_alone : (m : Machine) (turns turns' : ℕ) (a b : Limit) → limit_of_alone op m turns ≡ Some a → limit_of_alone op m turns' ≡ Some b → a ≡ b
  unfolding limit_of_alone
  once_alone m zero turns' a b p q = no_limit a p
  once_alone m (suc turns) zero a b p q = no_limit b q
  once_alone m (suc turns) (suc turns') a b p q = by_ready (once_alone (turn op m 0) turns turns' a b) (is_empty m.book.ready) p q
    where
      by_ready : (limit_of_alone op (turn op m 0) turns ≡ Some a → limit_of_alone op (turn op m 0) turns' ≡ Some b → a ≡ b) → (empty : Bool) → (if empty then None else or_later (limit_in op m 0) (limit_of_alone op (turn op m 0) turns)) ≡ Some a
          → (if empty then None else or_later (limit_in op m 0) (limit_of_alone op (turn op m 0) turns')) ≡ Some b → a ≡ b
      by_ready later true p q = no_limit a p
      by_ready later false p q = once_by (limit_in op m 0) _ _ a b later p q

  none_empty : (m : Machine) (turns : ℕ) (a : Limit) → is_empty m.book.ready ≡ true → limit_of_alone op m turns ≡ Some a → ⊥
  unfolding limit_of_alone
  none_empty m zero a e p = no_limit a p
  none_empty m (suc turns) a e p = no_limit a (sym (ap (λ (empty : Bool). if empty then None else or_later (limit_in op m 0) (limit_of_alone op (turn op m 0) turns)) e) ∙ p)

  never_alone : (m : Machine) (turns turns' : ℕ) (a : Limit) → limit_of_alone op m turns ≡ None → is_empty (lone_run op m turns).book.ready ≡ true → limit_of_alone op m turns' ≡ Some a → ⊥
  unfolding limit_of_alone lone_run
  never_alone m zero turns' a n e p = none_empty m turns' a e p
  never_alone m (suc turns) zero a n e p = no_limit a p
  never_alone m (suc turns) (suc turns') a n e p = by_ready (never_alone (turn op m 0) turns turns' a) (is_empty m.book.ready) n e p
    where
      by_ready : (limit_of_alone op (turn op m 0) turns ≡ None → is_empty (lone_run op (turn op m 0) turns).book.ready ≡ true → limit_of_alone op (turn op m 0) turns' ≡ Some a → ⊥) → (empty : Bool) → (if empty then None else or_later (limit_in op m 0) (limit_of_alone op (turn op m 0) turns)) ≡ None
          → is_empty (Machine.book (if empty then m else lone_run op (turn op m 0) turns)).ready ≡ true
          → (if empty then None else or_later (limit_in op m 0) (limit_of_alone op (turn op m 0) turns')) ≡ Some a → ⊥
      by_ready later true n e p = no_limit a p
      by_ready later false n e p = never_by (limit_in op m 0) _ _ a (λ n' p'. later n' e p') n p

  once : (m : Machine) (workers : ℕ) (schedule : List ℕ) (turns turns' : ℕ) (a b : Limit) → limit_of_played op m workers schedule turns ≡ Some a → limit_of_played op m workers schedule turns' ≡ Some b → a ≡ b
  unfolding limit_of_played
  once m workers schedule turns turns' a b p q = once_by (limit_of_scheduled op (begun m) schedule) _ _ a b (once_alone (drained op m workers schedule).machine turns turns' a b) p q

  never : (m : Machine) (workers : ℕ) (schedule : List ℕ) (turns turns' : ℕ) (a : Limit) → limit_of_played op m workers schedule turns ≡ None
      → is_empty (played op m workers schedule turns).machine.book.ready ≡ true → limit_of_played op m workers schedule turns' ≡ Some a → ⊥
  unfolding limit_of_played played
  never m workers schedule turns turns' a n e p =
      never_by (limit_of_scheduled op (begun m) schedule) _ _ a (λ n' p'. never_alone (drained op m workers schedule).machine turns turns' a n' e p') n p

-- ---- of a loop

module _ (options : RunOptions) (tables : GateTables) (loop : Loop) where
  abbrev turns_for : List ℕ
  turns_for = scheduled_turns options.seed options.workers options.turns

  -- two looks at the run
  pub same_limit : (a b : Limit) → IsRunPast options tables loop a → IsRunPast options tables loop b → a ≡ b
  same_limit a b p q = once loop.operator (loop_machine loop tables) options.workers turns_for p.turns q.turns a b p.passes q.passes

  pub ended : (run : Run) (a : Limit) → IsLoopRun options tables loop run → IsRunPast options tables loop a → ⊥
  ended run a r p =
      never loop.operator (loop_machine loop tables) options.workers turns_for r.turns p.turns a r.unlimited
      (ap (λ (x : Run). is_empty x.machine.book.ready) (sym r.is_run) ∙ ap is_empty r.ends) p.passes
