use Rattle.std.specs.Prelude.{Contains}
use Rattle.told_orders.proofs.Lines.{lines_tell}
use Rattle.told_orders.proofs.laws.lines_tell_their_items.Goals as goal

pub returns : goal.returns
returns c items = lines_tell (Contains items)
