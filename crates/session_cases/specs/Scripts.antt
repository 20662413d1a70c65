-- Bodies that are written down: each is a part of one list of acts, from a place on to the next end.
use Rattle.std.specs.Prelude.{ℕ, ℤ, pos, negsuc, ◌-◌, nat_lt, if◌then◌else◌, Option, List, [], ◌∷◌, length, drop}
use Rattle.gx_base.specs.declared.acts.Act.{Act}
use Rattle.gx_base.specs.declared.acts.Act.TheVariants as acts
use Rattle.gx_base.specs.declared.calls.Reply.{Reply}
use Rattle.gx_base.specs.Plans.{Plan, Call, Push, Done}

-- the acts, up to their end, as a plan. A call past the rooms is an end
abbrev pub script_plan : ℕ → List Act → Plan
script_plan rooms [] = Done
script_plan rooms (acts.Call room call ∷ rest) = if nat_lt room rooms then Call room call (λ reply. script_plan rooms rest) else Done
script_plan rooms (acts.Push item ∷ rest) = Push item (script_plan rooms rest)
script_plan rooms (acts.Done ∷ rest) = Done

abbrev pub act_within : ℕ → Act → Act
act_within rooms (acts.Call room call) = if nat_lt room rooms then acts.Call room call else acts.Done
act_within rooms (acts.Push item) = acts.Push item
act_within rooms acts.Done = acts.Done

-- the first of them
abbrev pub act_of : ℕ → List Act → Act
act_of rooms [] = acts.Done
act_of rooms (act ∷ rest) = act_within rooms act

-- where an item's acts begin: at the place that its first number says
abbrev pub script_start : List Act → ℤ → ℕ
script_start acts (pos place) = place
script_start acts (negsuc place) = length acts

abbrev pub script_rest : ℕ → List Act → ℕ → Option Reply → Plan
script_rest rooms acts at last = script_plan rooms (drop at acts)

abbrev pub script_acts_left : List Act → ℕ → ℕ
script_acts_left acts at = length acts - at
