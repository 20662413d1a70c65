-- How a body moves from stage to stage.
use Rattle.std.proofs.Common.{◌≡◌, ℕ, ◌+◌, ℤ, pos, negsuc, true, false, int_le, Option, Some, None, sym, subst, ap, ◌∙◌, refl, arith}
use Rattle.std.specs.Prelude.{◌+ℤ◌}
use Rattle.std.specs.Ordering.{int_eq}
use Rattle.gx_base.specs.declared.acts.Act.{Act}
use Rattle.gx_base.specs.declared.acts.Act.TheVariants as acts
use Rattle.gx_base.specs.declared.calls.Reply.{Reply}
use Rattle.gx_base.specs.declared.calls.Spot.{Spot}
use Rattle.gx_base.specs.Spots.{spot_of_reply}
use Rattle.commit_book.proofs.CallerLemmas.{moves_by_call, moves_to_end, moves_within, moves_if_true, moves_if_false}
use Rattle.clustering.specs.declared.stages.Merge.{Merge}
use Rattle.clustering.specs.declared.stages.MergeStep.TheVariants as steps
use Rattle.clustering.specs.declared.stages.Stage.{Stage}
use Rattle.clustering.specs.declared.stages.Stage.TheVariants as stages
use Rattle.clustering.specs.PointCalls.{points_room, remove}
use Rattle.clustering.specs.Chain.{chase, going_to, merging_both, with_nearest, with_weights, merge_of, merging, merged, plus}
use Rattle.clustering.specs.ChainStages.{MovesTo, rest_at, acts_left}

-- where the number of the body's point is told twice
along : (id own : ℤ) (calls bound : ℕ) (previous : Option Spot) (current : Spot) (act : Act) (stage : Stage) → own ≡ id → MovesTo (chase own calls previous current) bound act stage → MovesTo (chase id calls previous current) bound act stage
along id own calls bound previous current act stage e moves = subst (λ (i : ℤ). MovesTo (chase i calls previous current) bound act stage) e moves

pub goes_back : (id own : ℤ) (calls : ℕ) (o : Option Spot) (p current next : Spot) (act : Act) (stage : Stage) → own ≡ id → o ≡ Some p → int_eq next.id p.id ≡ true
    → MovesTo (merging_both own p current) 10 act stage → MovesTo (going_to id (chase id calls) o current next) (calls + 10) act stage
goes_back id own calls o p current next act stage e is test moves =
    subst (λ (x : Option Spot). MovesTo (going_to id (chase id calls) x current next) (calls + 10) act stage) (sym is)
    (moves_if_true _ _ _ _ act stage test (moves_within _ 10 (calls + 10) act stage (omega arith) (subst (λ (i : ℤ). MovesTo (merging_both i p current) 10 act stage) e moves)))

pub goes_on : (id own : ℤ) (calls : ℕ) (o : Option Spot) (p current next : Spot) (act : Act) (stage : Stage) → own ≡ id → o ≡ Some p → int_eq next.id p.id ≡ false
    → MovesTo (chase own calls (Some current) next) (calls + 10) act stage → MovesTo (going_to id (chase id calls) o current next) (calls + 10) act stage
goes_on id own calls o p current next act stage e is test moves =
    subst (λ (x : Option Spot). MovesTo (going_to id (chase id calls) x current next) (calls + 10) act stage) (sym is)
    (moves_if_false _ _ _ _ act stage test (along id own calls (calls + 10) (Some current) next act stage e moves))

pub finds : (id own : ℤ) (calls : ℕ) (previous : Option Spot) (current spot : Spot) (reply : Reply) (act : Act) (stage : Stage) → own ≡ id → spot ≡ spot_of_reply reply → int_eq reply.p (negsuc 0) ≡ false
    → MovesTo (going_to own (chase own calls) previous current spot) (calls + 10) act stage → MovesTo (with_nearest id (chase id calls) previous current reply) (calls + 10) act stage
finds id own calls previous current spot reply act stage e is test moves =
    moves_if_false _ _ _ _ act stage test
    (subst (λ (s : Spot). MovesTo (going_to id (chase id calls) previous current s) (calls + 10) act stage) is
    (subst (λ (i : ℤ). MovesTo (going_to i (chase i calls) previous current spot) (calls + 10) act stage) e moves))

pub no_weight : (id w x : ℤ) (u v : Spot) → int_le (w +ℤ x) (pos 0) ≡ true → MovesTo (with_weights id u w v x) 8 acts.Done stages.End
no_weight id w x u v test = moves_if_true _ _ _ _ acts.Done stages.End test (moves_to_end _ _)

pub weighs : (id w x : ℤ) (u v : Spot) (m : Merge) (act : Act) → int_le (w +ℤ x) (pos 0) ≡ false → m ≡ merge_of id u w v x → act ≡ acts.Call points_room (remove m.first)
    → MovesTo (with_weights id u w v x) 8 act (stages.Merging m steps.RemoveSecond)
weighs id w x u v m act test is called =
    moves_if_false _ _ _ _ act _ test
    (subst (λ (k : Merge). MovesTo (merging k) 8 act (stages.Merging m steps.RemoveSecond)) is (moves_by_call points_room (remove m.first) _ 8 act _ called (omega arith) (λ reply. refl) (omega arith)))

pub merge_is : (id own w x : ℤ) (u v point : Spot) → own ≡ id → point ≡ merged u w v x
    → record { id = own; first = u; second = v; merged = point; weight = plus w x } ≡ merge_of id u w v x
merge_is id own w x u v point e is = ap (λ (i : ℤ). as_one i point) e ∙ ap (λ (p : Spot). as_one id p) is
  where
    as_one : ℤ → Spot → Merge
    as_one i p = record { id = i; first = u; second = v; merged = p; weight = plus w x }

-- the same merge, where the numbers are told twice
pub merge_along : (id id' w w' x x' : ℤ) (u v : Spot) (m : Merge) → id' ≡ id → w' ≡ w → x' ≡ x → m ≡ merge_of id' u w' v x' → m ≡ merge_of id u w v x
merge_along id id' w w' x x' u v m e f g is =
    is ∙ ap (λ (i : ℤ). merge_of i u w' v x') e ∙ ap (λ (y : ℤ). merge_of id u y v x') f ∙ ap (λ (y : ℤ). merge_of id u w v y) g

pub moves_weighed : (stage : Stage) (reply : Reply) (id id' w w' x : ℤ) (u v : Spot) (act : Act) (to : Stage) → stage ≡ stages.AfterSecondWeight id u v w → id' ≡ id → w' ≡ w → x ≡ reply.p
    → MovesTo (with_weights id' u w' v x) 8 act to → MovesTo (rest_at stage reply) (acts_left stage) act to
moves_weighed stage reply id id' w w' x u v act to is e f g moves =
    subst (λ (s : Stage). MovesTo (rest_at s reply) (acts_left s) act to) (sym is)
    (subst (λ (i : ℤ). MovesTo (with_weights i u w v reply.p) 8 act to) e
    (subst (λ (y : ℤ). MovesTo (with_weights id' u y v reply.p) 8 act to) f
    (subst (λ (y : ℤ). MovesTo (with_weights id' u w' v y) 8 act to) g moves)))
