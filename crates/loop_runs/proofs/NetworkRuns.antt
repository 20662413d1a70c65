-- What is shown of the runs of networks.
use Rattle.std.proofs.Common.{◌≡◌, false, ℕ, ◌+◌, ◌^◌, ◌<◌, refl, ap, arith}
use Rattle.gx_base.specs.declared.items.Item.{Item}
use Rattle.gx_base.specs.Plans.{Plan, Operator}
use Rattle.preflow_push.specs.Discharge.{discharge_operator, discharge_plan}
use Rattle.preflow_push.specs.FlowCalls.{rooms}
use Rattle.preflow_push.specs.Networks.{Net}

-- the operator in code is the network's
pub same_operator : (net : Net) (plan : Item → Plan) → plan ≡ discharge_plan net → ◌≡◌ {A = Operator} (record { ordered = false; rooms = rooms; plan = plan }) (discharge_operator net)
same_operator net plan e = ap (λ (p : Item → Plan). record { ordered = false; rooms = rooms; plan = p }) e

few_by : (n : ℕ) → n ≡ rooms → n + 1 < 2 ^ 32
few_by n e = omega arith

pub few_rooms : rooms + 1 < 2 ^ 32
few_rooms = few_by rooms refl
