-- What a `Chain` does.
use Rattle.std.specs.Prelude.{ℕ}
use Rattle.gx_base.specs.declared.items.Item.{Item}
use Rattle.gx_base.specs.Plans.{Plan}
use Rattle.clustering.specs.declared.chain.Chain.{Chain}
use Rattle.clustering.specs.Chain.{chain_plan}

-- what is done for an item
abbrev pub plan_of : Chain → Item → Plan
plan_of chain item = chain_plan chain.count item
