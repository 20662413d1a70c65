-- What holds of each ready item and of each push of a body holds of each item of an order.
use Rattle.std.specs.Prelude.{◌≡◌, ℕ, Bool, true, false, ◌||◌, not, if◌then◌else◌, Some, List, [], ◌∷◌, ⊤, refl}
use Rattle.std.proofs.Common.{subst}
use Rattle.std.proofs.lemmas.Bool.{and_parts}
use Rattle.std.specs.List.{AllByRecursion}
use Rattle.gx_base.specs.declared.calls.Reply.{Reply}
use Rattle.gx_base.specs.declared.items.Item.{Item}
use Rattle.gx_base.specs.States.{State}
use Rattle.gx_base.specs.Steps.{next_state, reply_to}
use Rattle.gx_base.specs.Plans.{Plan, Call, Push, Done, Operator}
use Rattle.gx_base.specs.Replays.{put}
use Rattle.gx_base.specs.Outcomes.{Outcome}
use Rattle.gx_base.specs.Worklists.{same_item, is_before, has_item, is_least, without_item, without_items, with_item, with_items}
use Rattle.gx_base.specs.SerialIterations.{body, Ended, ready_after, serial}
use Rattle.gx_base.proofs.serial.Prefixes.{FirstTurn, first_turn}
use Rattle.commit_book.proofs.ready.RisingItems.{same_is}

-- whatever the replies, a plan pushes only such items
abbrev pub PushesOnly : (Item → Type 0) → Plan → Type 0
PushesOnly P (Call room call goes_on) = (reply : Reply) → PushesOnly P (goes_on reply)
PushesOnly P (Push item rest) = P item × PushesOnly P rest
PushesOnly P Done = ⊤

module _ (P : Item → Type 0) where
  -- ---- bodies

  pub body-pushes : (plan : Plan) (states : ℕ → State) → PushesOnly P plan → AllByRecursion P (body plan states).outcome.pushes
  unfolding body
  body-pushes (Call room call goes_on) states h = body-pushes (goes_on (reply_to (states room) call)) (put states room (next_state (states room) call)) (h (reply_to (states room) call))
  body-pushes (Push item rest) states h = (h.0, body-pushes rest states h.1)
  body-pushes Done states h = tt

  -- ---- ready sets

  with_by : (b c : Bool) (x y : Item) (ys ws : List Item) → P x → AllByRecursion P (y ∷ ys) → AllByRecursion P ws → AllByRecursion P (if b then y ∷ ys else (if c then x ∷ y ∷ ys else y ∷ ws))
  with_by true c x y ys ws p all more = all
  with_by false true x y ys ws p all more = (p, all)
  with_by false false x y ys ws p all more = (all.0, more)

  all-with_item : (ys : List Item) (x : Item) → AllByRecursion P ys → P x → AllByRecursion P (with_item ys x)
  unfolding with_item
  all-with_item [] x all p = (p, tt)
  all-with_item (y ∷ ys) x all p = with_by (same_item y x) (is_before x y) x y ys (with_item ys x) p all (all-with_item ys x all.1 p)

  pub all-with_items : (xs ys : List Item) → AllByRecursion P ys → AllByRecursion P xs → AllByRecursion P (with_items ys xs)
  unfolding with_items
  all-with_items [] ys all more = all
  all-with_items (x ∷ xs) ys all more = all-with_items xs (with_item ys x) (all-with_item ys x all more.0) more.1

  without_by : (b : Bool) (y : Item) (ws : List Item) → P y → AllByRecursion P ws → AllByRecursion P (if b then ws else y ∷ ws)
  without_by true y ws p all = all
  without_by false y ws p all = (p, all)

  all-without_item : (ys : List Item) (x : Item) → AllByRecursion P ys → AllByRecursion P (without_item ys x)
  unfolding without_item
  all-without_item [] x all = tt
  all-without_item (y ∷ ys) x all = without_by (same_item y x) y (without_item ys x) all.0 (all-without_item ys x all.1)

  all-without_items : (xs ys : List Item) → AllByRecursion P ys → AllByRecursion P (without_items ys xs)
  unfolding without_items
  all-without_items [] ys all = all
  all-without_items (x ∷ xs) ys all = all-without_items xs (without_item ys x) (all-without_item ys x all)

  found_by : (b : Bool) (y x : Item) (ys : List Item) → same_item y x ≡ b → (b || has_item ys x) ≡ true → P y → (has_item ys x ≡ true → P x) → P x
  found_by true y x ys s e p later = subst P (same_is y x s) p
  found_by false y x ys s e p later = later e

  all-has_item : (ys : List Item) (x : Item) → AllByRecursion P ys → has_item ys x ≡ true → P x
  unfolding has_item
  all-has_item [] x all e = absurd (cc)
  all-has_item (y ∷ ys) x all e = found_by (same_item y x) y x ys refl e all.0 (all-has_item ys x all.1)

  all-ready_after : (ready : List Item) (x : Item) (o : Outcome) → AllByRecursion P ready → AllByRecursion P o.pushes → AllByRecursion P (ready_after ready x o)
  all-ready_after ready x o all pushes = all-with_items o.pushes (without_items (without_item ready x) o.withdrawn) (all-without_items o.withdrawn (without_item ready x) (all-without_item ready x all)) pushes

  -- ---- orders

  -- where bodies keep what holds between them, and push such items then
  pub all-serial : (op : Operator) (Holds : (ℕ → State) → List Item → Type 0)
      → ((item : Item) (states : ℕ → State) (ready : List Item) → Holds states ready → Holds (body (op.plan item) states).states (ready_after ready item (body (op.plan item) states).outcome))
      → ((item : Item) (states : ℕ → State) (ready : List Item) → Holds states ready → P item → AllByRecursion P (body (op.plan item) states).outcome.pushes)
      → (order : List Item) (states : ℕ → State) (ready : List Item) (ended : Ended) → Holds states ready → AllByRecursion P ready → serial op states ready order ≡ Some ended → AllByRecursion P order
  all-serial op Holds keeps pushes [] states ready ended h all e = tt
  all-serial op Holds keeps pushes (x ∷ xs) states ready ended h all e =
      let turn : FirstTurn op states ready x xs ended = first_turn op states ready x xs ended e in
      let here : P x = all-has_item ready x all (and_parts (has_item ready x) (not op.ordered || is_least ready x) turn.may).0 in
      let next : AllByRecursion P (ready_after ready x (body (op.plan x) states).outcome) = all-ready_after ready x (body (op.plan x) states).outcome all (pushes x states ready h here) in
      (here, all-serial op Holds keeps pushes xs (body (op.plan x) states).states (ready_after ready x (body (op.plan x) states).outcome) turn.rest (keeps x states ready h) next turn.goes_on)
