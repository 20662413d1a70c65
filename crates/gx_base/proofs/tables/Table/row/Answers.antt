use Rattle.std.proofs.Common.{◌≡◌, ◌<◌, ◌≤◌, length, Some, None, sym, ◌∙◌, ap, arith}
use Rattle.std.specs.List.{position_from}
use Rattle.gx_base.specs.declared.tables.Row.{Row}
use Rattle.gx_base.specs.Conditions.{condition_of}
use Rattle.gx_base.specs.TableRows.{RowMap, row_of}
use Rattle.gx_base.specs.RowLists.{is_row_of}
use Rattle.gx_base.proofs.table_lemmas.InBucket.{found_at, is_false-is}
use Rattle.gx_base.proofs.table_lemmas.Buckets.{row_of-found, row_of-missed, row_of-past}
use Rattle.gx_base.proofs.tables.Table.row.Goals as goal
use Rattle.gx_base.proofs.tables.Table.row.Goals.{then-number-len+in_default, else-number-len}

pub index-requires : goal.index-requires
index-requires c =
    let below : c.in-Some.place < length c.deref.result.now = (found_at c.args.first c.args.second _ _ (sym c.in-Some.ensures)).inside in
    omega (arith, c.deref.ensures.len)

pub returns-in-Some : goal.returns-in-Some
returns-in-Some c =
    let below : c.bucket_at-number.result < length c.self.inside.buckets.items = omega (arith, c.if-number-len.true, c.len.ensures) in
    let found : position_from (is_row_of c.args.first c.args.second) 0 c.index-rows.result.now.items ≡ Some c.in-Some.place = rw c.deref.ensures.value at (sym c.in-Some.ensures) in
    ap (λ (row : Row). condition_of row.cond) c.index.ensures
    ∙ sym (row_of-found c.self.inside.buckets.items c.args.first c.args.second c.bucket_at-number.result c.index-rows.result.now c.in-Some.place c.index.result.now c.self.invariant.0 c.bucket_at-number.ensures below c.index-rows.ensures found)
    ∙ ap (λ (rows : RowMap). row_of rows c.args.first c.args.second) c.self.view_is

pub returns : goal.returns
returns c =
    is_false-is (condition_of c.self.inside.blank) c.self.invariant.1
    ∙ elim c.if-number-len.branch [
      | then-number-len+in_default w ↦
          let below : c.bucket_at-number.result < length c.self.inside.buckets.items = omega (arith, w.if-number-len.true, c.len.ensures) in
          let missed : position_from (is_row_of c.args.first c.args.second) 0 w.index-rows.result.now.items ≡ None = rw w.deref.ensures.value at (sym w.pair_index.ensures ∙ w.in_default.is) in
          sym (row_of-missed c.self.inside.buckets.items c.args.first c.args.second c.bucket_at-number.result w.index-rows.result.now c.self.invariant.0 c.bucket_at-number.ensures below w.index-rows.ensures missed)
      | else-number-len w ↦
          let past : length c.self.inside.buckets.items ≤ c.bucket_at-number.result = omega (arith, w.if-number-len.false, c.len.ensures) in
          sym (row_of-past c.self.inside.buckets.items c.args.first c.args.second c.bucket_at-number.result c.self.invariant.0 c.bucket_at-number.ensures past)
    ]
    ∙ ap (λ (rows : RowMap). row_of rows c.args.first c.args.second) c.self.view_is
