-- A run that takes the least ready item at each turn is one of the loop, ordered or not.
use Rattle.std.specs.Prelude.{◌≡◌, ℕ, Bool, true, false, not, ◌&&◌, ◌||◌, Some, List, [], ◌∷◌, refl}
use Rattle.std.proofs.Common.{sym, ◌∙◌, ap}
use Rattle.gx_base.specs.declared.items.Item.{Item}
use Rattle.gx_base.specs.States.{State}
use Rattle.gx_base.specs.Plans.{Operator}
use Rattle.gx_base.specs.Outcomes.{WholeCommit, order_of, outcomes_of}
use Rattle.gx_base.specs.Worklists.{has_item, is_least}
use Rattle.gx_base.specs.SerialIterations.{body, Ended, ready_after, serial, least_first}
use Rattle.gx_base.specs.SerialRuns.{IsSerialRun, IsLeastFirst}
use Rattle.gx_base.proofs.serial.Prefixes.{FirstTurn, first_turn}
use Rattle.gx_base.proofs.serial.Journals.{turn_of}

-- what may commit where the loop is ordered may commit in any loop
may_by : (ordered has least : Bool) → (has && (not true || least)) ≡ true → (has && (not ordered || least)) ≡ true
may_by true has least h = h
may_by false true least h = refl
may_by false false least h = h

pub serial-least_first : (op : Operator) (states : ℕ → State) (ready order : List Item) (ended : Ended) → serial (least_first op) states ready order ≡ Some ended → serial op states ready order ≡ Some ended
unfolding serial
serial-least_first op states ready [] ended e = e
serial-least_first op states ready (x ∷ xs) ended e =
    let f : FirstTurn (least_first op) states ready x xs ended = first_turn (least_first op) states ready x xs ended e in
    turn_of op states ready x xs (body (op.plan x) states) f.rest refl (may_by op.ordered (has_item ready x) (is_least ready x) f.may)
    (serial-least_first op (body (op.plan x) states).states (ready_after ready x (body (op.plan x) states).outcome) xs f.rest f.goes_on)
    ∙ ap Some (sym f.end)

pub IsSerialRun-least_first : (op : Operator) (states : ℕ → State) (ready : List Item) (commits : List WholeCommit) (ended : Ended) → IsLeastFirst op states ready commits ended → outcomes_of commits ≡ ended.outcomes → IsSerialRun op states ready commits ended
IsSerialRun-least_first op states ready commits ended l o = record { in_turn = serial-least_first op states ready (order_of commits) ended l; recorded = o }
