use Rattle.std.proofs.Common.{◌≡◌, inl, arith, add-one}
use Rattle.cond_text.proofs.reading.DraftLemmas.{depth_of-negated_by}
use Rattle.cond_text.proofs.drafts.negated_by.Goals as goal

pub returns-then-nots-gt-MOST_DEEP : goal.returns-then-nots-gt-MOST_DEEP
returns-then-nots-gt-MOST_DEEP c kind count written is kept =
    let deep = depth_of-negated_by count written in
    inl (omega arith)

pub loop-init : goal.loop-init
loop-init c kind written kept = kept

pub loop-preserved : goal.loop-preserved
loop-preserved c kind written kept = rw add-one (c.in_ok-draft.ensures kind _ (c.loop.invariant kind written kept))

pub returns : goal.returns
returns c kind count written is kept =
    let same : count ≡ c.loop.counter = omega arith in
    rw same (c.loop.invariant kind written kept)
