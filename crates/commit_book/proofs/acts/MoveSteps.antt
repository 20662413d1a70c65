-- How a body moves by each act.
use Rattle.std.proofs.Common.{◌≡◌, ℕ, ◌<◌, ◌≤◌, Bool, true, false, if◌then◌else◌, Option, Some, refl, sym, subst, arith}
use Rattle.gx_base.specs.declared.calls.Call.{Call as CallOf}
use Rattle.gx_base.specs.declared.calls.Reply.{Reply}
use Rattle.gx_base.specs.declared.acts.Act.{Act}
use Rattle.gx_base.specs.declared.acts.Act.TheVariants as acts
use Rattle.gx_base.specs.Plans.{Plan, Call, Done, IsInRoom, FallsUnlessDone}
use Rattle.commit_book.specs.Moves.{Moves}

falls_more : (act : Act) (m n k : ℕ) → m ≤ n → FallsUnlessDone act m k → FallsUnlessDone act n k
falls_more (acts.Call room call) m n k le falls = omega arith
falls_more (acts.Push item) m n k le falls = omega arith
falls_more acts.Done m n k le falls = tt

module _ {St : Type 0} {rooms : ℕ} {rest : St → Option Reply → Plan} {to_go : St → ℕ} where
  -- ---- the acts

  pub moves_by_call : (room : ℕ) (call : CallOf) (goes_on : Reply → Plan) (bound : ℕ) (act : Act) (now : St)
      → act ≡ acts.Call room call → room < rooms → ((reply : Reply) → rest now (Some reply) ≡ goes_on reply) → to_go now < bound
      → Moves rooms rest to_go (Call room call goes_on) bound act now
  moves_by_call room call goes_on bound act now e within left falls = record {
    follows = (e, left);
    room = subst (IsInRoom rooms) (sym e) within;
    falls = subst (λ (a : Act). FallsUnlessDone a bound (to_go now)) (sym e) falls;
  }

  pub moves_to_end : (bound : ℕ) (now : St) → Moves rooms rest to_go Done bound acts.Done now
  moves_to_end bound now = record { follows = refl; room = tt; falls = tt }

  -- ---- the bound and the plan

  -- a greater bound is one too
  pub moves_within : (plan : Plan) (m n : ℕ) (act : Act) (now : St) → m ≤ n → Moves rooms rest to_go plan m act now → Moves rooms rest to_go plan n act now
  moves_within plan m n act now le moves = record { follows = moves.follows; room = moves.room; falls = falls_more act m n _ le moves.falls }

  -- the two sides of a choice
  pub moves_if_true : (test : Bool) (then_plan else_plan : Plan) (bound : ℕ) (act : Act) (now : St) → test ≡ true → Moves rooms rest to_go then_plan bound act now
      → Moves rooms rest to_go (if test then then_plan else else_plan) bound act now
  moves_if_true test then_plan else_plan bound act now e moves = subst (λ (t : Bool). Moves rooms rest to_go (if t then then_plan else else_plan) bound act now) (sym e) moves

  pub moves_if_false : (test : Bool) (then_plan else_plan : Plan) (bound : ℕ) (act : Act) (now : St) → test ≡ false → Moves rooms rest to_go else_plan bound act now
      → Moves rooms rest to_go (if test then then_plan else else_plan) bound act now
  moves_if_false test then_plan else_plan bound act now e moves = subst (λ (t : Bool). Moves rooms rest to_go (if t then then_plan else else_plan) bound act now) (sym e) moves
