use Rattle.std.proofs.Common.{◌<◌, length, sym, arith}
use Rattle.gx_base.proofs.table_lemmas.InBucket.{found_at, IsRowPut-set, IsRowPut-push}
use Rattle.gx_base.proofs.tables.put_row.Goals as goal

pub index_mut-requires : goal.index_mut-requires
index_mut-requires c =
    let below : c.in-Some.place < length c.deref.result.now = (found_at c.args.row.first c.args.row.second _ _ (sym c.in-Some.ensures)).inside in
    omega arith

pub returns-in-Some-clause-ok : goal.returns-in-Some-clause-ok
returns-in-Some-clause-ok c = IsRowPut-set _ _ _ (rw c.deref.ensures.value at (sym c.in-Some.ensures))

pub returns-in_ok-push-in-None-clause-ok : goal.returns-in_ok-push-in-None-clause-ok
returns-in_ok-push-in-None-clause-ok c = rw c.in_ok-push-in-None.ensures.items (IsRowPut-push _ _ (rw c.deref.ensures.value at (sym c.in-None.ensures)))
