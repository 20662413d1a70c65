-- What bodies did and the commits of a run, as the code keeps them.
use Rattle.std.specs.Prelude.{List, [], map}
use Rattle.gx_base.specs.declared.acts.Commit.{Commit}
use Rattle.gx_base.specs.declared.items.Item.{Item}
use Rattle.gx_base.specs.Outcomes.{Outcome}
use Rattle.commit_book.specs.declared.body_log.BodyLog.{BodyLog}

-- no body withdraws an item
abbrev pub outcome_of : BodyLog → Outcome
outcome_of kept = record { steps = kept.steps.items; pushes = kept.pushes.items; withdrawn = [] }

-- the items of commits, in their order
abbrev pub items_of : List Commit → List Item
items_of commits = map (λ (commit : Commit). commit.item) commits
