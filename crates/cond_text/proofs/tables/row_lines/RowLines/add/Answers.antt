use Rattle.std.proofs.Common.{◌≡◌, [], ◌∷◌, ◌++◌, arith}
use Rattle.std.proofs.lemmas.Grind.{common_steps}
use Rattle.cond_text.proofs.texts.PairLemmas.{one_placed}
use Rattle.cond_text.proofs.tables.row_lines.RowLines.add.Goals as goal

pub invariant_of-self-2 : goal.invariant_of-self-2
invariant_of-self-2 c =
    let items : c.push.new.self.items ≡ c.args.self.now.placed.items ++ (c.args.first, c.args.second) ∷ [] = grind (arith, common_steps) in
    record { tied = one_placed _ _ _ _ _ _ _ c.args.self.now.tied items c.in_ok-put.ensures.ok }
