-- The workers of turns, one after another.
use Rattle.std.specs.Prelude.{◌≡◌, ◌≢◌, ℕ, suc, ◌+◌, ◌/◌, ◌%◌, ◌^◌, ◌==◌, Bool, true, false, if◌then◌else◌, List, [], ◌∷◌, ◌++◌, refl}
use Rattle.std.proofs.Common.{sym, ◌∙◌, ap, ap₂, arith}
use Rattle.std.proofs.lemmas.Bool.Decides.{nat_tests}
use Rattle.std.proofs.lemmas.List.FromFn.{map-range_with_len_more}
use Rattle.schedules.specs.Draws.{state_after, next_draw_state, draw, sched, scheduled_turns}

zero_test : (n : ℕ) → n ≡ 0 → (n == 0) ≡ true
zero_test n e = grind (arith, nat_tests)

other_test : (n : ℕ) → n ≢ 0 → (n == 0) ≡ false
other_test n e = grind (arith, nat_tests)

pub sched_zero : (seed k workers : ℕ) → seed ≡ 0 → sched seed k workers ≡ k % workers
unfolding sched
sched_zero seed k workers e = ap (λ (b : Bool). if b then k % workers else draw seed k % workers) (zero_test seed e)

pub sched_drawn : (seed k workers : ℕ) → seed ≢ 0 → sched seed k workers ≡ draw seed k % workers
unfolding sched
sched_drawn seed k workers e = ap (λ (b : Bool). if b then k % workers else draw seed k % workers) (other_test seed e)

pub drawn_next : (seed k before state r : ℕ) → before ≡ state_after seed k → state ≡ next_draw_state before → r ≡ state / 2 ^ 33 → r ≡ draw seed k
unfolding draw state_after
drawn_next seed k before state r b s e = e ∙ ap (λ (n : ℕ). n / 2 ^ 33) (s ∙ ap next_draw_state b)

pub state_next : (seed k before state : ℕ) → before ≡ state_after seed k → state ≡ next_draw_state before → state ≡ state_after seed (k + 1)
unfolding state_after
state_next seed k before state b s = s ∙ ap next_draw_state b ∙ ap (state_after seed) (let e : suc k ≡ k + 1 = omega arith in e)

pub turn_worker : (seed k workers before state r : ℕ) → before ≡ state_after seed k → state ≡ next_draw_state before → r ≡ (if seed == 0 then k % workers else state / 2 ^ 33 % workers) → r ≡ sched seed k workers
unfolding sched
turn_worker seed k workers before state r b s e = e ∙ ap (λ (n : ℕ). if seed == 0 then k % workers else n % workers) (drawn_next seed k before state (state / 2 ^ 33) b s refl)

pub more_turns : (seed workers k r : ℕ) (all more : List ℕ) → all ≡ scheduled_turns seed workers k → r ≡ sched seed k workers → more ≡ all ++ r ∷ [] → more ≡ scheduled_turns seed workers (k + 1)
more_turns seed workers k r all more a w m =
    m ∙ ap₂ (λ (xs : List ℕ) (x : ℕ). xs ++ x ∷ []) a w ∙ sym (map-range_with_len_more (λ (j : ℕ). sched seed j workers) 0 k k (omega arith))
