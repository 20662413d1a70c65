-- What a body that stands at a stage has still to do.
use Rattle.std.specs.Prelude.{ℕ, ◌+◌, pos, Option, Some, None}
use Rattle.gx_base.specs.declared.acts.Act.{Act}
use Rattle.gx_base.specs.declared.calls.Reply.{Reply}
use Rattle.gx_base.specs.Meanings.{number_reply}
use Rattle.gx_base.specs.Plans.{Plan, Done}
use Rattle.commit_book.specs.Moves.{Moves}
use Rattle.clustering.specs.declared.stages.Stage.{Stage}
use Rattle.clustering.specs.declared.stages.Stage.TheVariants as stages
use Rattle.clustering.specs.declared.stages.MergeStep.{MergeStep}
use Rattle.clustering.specs.declared.stages.MergeStep.TheVariants as steps
use Rattle.clustering.specs.declared.stages.Merge.{Merge}
use Rattle.clustering.specs.PointCalls.{rooms}
use Rattle.clustering.specs.Chain.{chain_body, with_place, with_nearest, chase, with_first_weight, with_weights, remove_second, add_merged, set_weight, set_into, set_merged_weight, push_merged, push_own}

-- a reply that was due and didn't come counts as four zeros
abbrev pub reply_or_zeros : Option Reply → Reply
reply_or_zeros None = number_reply (pos 0)
reply_or_zeros (Some reply) = reply

-- from this step on
abbrev pub merging_from : Merge → MergeStep → Plan
merging_from m steps.RemoveSecond = remove_second m
merging_from m steps.AddMerged = add_merged m
merging_from m steps.SetWeight = set_weight m
merging_from m steps.SetInto = set_into m
merging_from m steps.SetMergedWeight = set_merged_weight m
merging_from m steps.PushMerged = push_merged m
merging_from m steps.PushOwn = push_own m

-- given the reply to the last call
abbrev pub rest_at : Stage → Reply → Plan
rest_at (stages.Begin id calls) reply = chain_body id calls
rest_at (stages.AfterAt id calls) reply = with_place id calls reply
rest_at (stages.AfterNearest id calls previous current) reply = with_nearest id (chase id calls) previous current reply
rest_at (stages.AfterFirstWeight id first second) reply = with_first_weight id first second reply.p
rest_at (stages.AfterSecondWeight id first second weight) reply = with_weights id first weight second reply.p
rest_at (stages.Merging merge step) reply = merging_from merge step
rest_at stages.End reply = Done

abbrev pub body_rest : Stage → Option Reply → Plan
body_rest stage reply = rest_at stage (reply_or_zeros reply)

-- at most so many acts are left
abbrev pub acts_from : MergeStep → ℕ
acts_from steps.RemoveSecond = 7
acts_from steps.AddMerged = 6
acts_from steps.SetWeight = 5
acts_from steps.SetInto = 4
acts_from steps.SetMergedWeight = 3
acts_from steps.PushMerged = 2
acts_from steps.PushOwn = 1

abbrev pub acts_left : Stage → ℕ
acts_left (stages.Begin id calls) = calls + 12
acts_left (stages.AfterAt id calls) = calls + 11
acts_left (stages.AfterNearest id calls previous current) = calls + 10
acts_left (stages.AfterFirstWeight id first second) = 9
acts_left (stages.AfterSecondWeight id first second weight) = 8
acts_left (stages.Merging merge step) = acts_from step
acts_left stages.End = 0

-- the act begins the plan, the stage is where the rest of it is done, and the bound on the acts falls
abbrev pub MovesTo : Plan → ℕ → Act → Stage → Type 0
MovesTo plan bound act stage = Moves rooms body_rest acts_left plan bound act stage
