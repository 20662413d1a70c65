-- One act of an operator's body.
use Rattle.std.specs.Prelude.{ℕ, Option}
use Rattle.gx_base.specs.declared.calls.Reply.{Reply}
use Rattle.gx_base.specs.declared.acts.Act.{Act}
use Rattle.gx_base.specs.Plans.{Plan, Follows, IsInRoom, FallsUnlessDone}

-- What is left of a plan where the body stands is told by `rest`, given the reply to the last call, and a bound on the
-- acts that are left by `to_go`: the act begins the plan and is in one of the rooms, the body stands then where the rest
-- of the plan is left, and the bound falls.
pub record Moves {St : Type 0} (rooms : ℕ) (rest : St → Option Reply → Plan) (to_go : St → ℕ) (plan : Plan) (bound : ℕ) (act : Act) (now : St) : Type 0 where
  pub follows : Follows plan act (rest now)
  pub room : IsInRoom rooms act
  pub falls : FallsUnlessDone act bound (to_go now)
