use Rattle.std.proofs.Common.{◌≡◌, ℕ, subst}
use Rattle.gx_base.specs.TableRows.{RowMap, row_of}
use Rattle.gx_base.specs.RowLists.{buckets_of, table_rows_in, row_map_of, AgreeOn}
use Rattle.gx_base.proofs.table_lemmas.Agreeing.{AgreeOn-all, agree_by_rows}
use Rattle.gx_base.proofs.tables.Table.equals.Goals as goal

pub returns-else-agree_on_all : goal.returns-else-agree_on_all
returns-else-agree_on_all c =
    (λ t. let f = c.if-agree_on_all.false in absurd (cc), λ same. c.agree_on_all.ensures.1 (AgreeOn-all c.args.self.now c.args.other.now same _))

pub returns-then-agree_on_all : goal.returns-then-agree_on_all
returns-then-agree_on_all c = (
  λ t.
      let one : AgreeOn c.args.self.now c.args.other.now (table_rows_in (buckets_of c.self.inside.buckets.items)) = rw c.deref.ensures.value at (c.agree_on_all.ensures.0 c.if-agree_on_all.true) in
      let two : AgreeOn c.args.self.now c.args.other.now (table_rows_in (buckets_of c.other.inside.buckets.items)) = rw c.deref-then-agree_on_all.ensures.value at (c.agree_on_all-then-agree_on_all.ensures.0 t) in
      let P : RowMap → RowMap → Type 0 = λ xs ys. AgreeOn xs ys (table_rows_in (buckets_of c.self.inside.buckets.items)) → AgreeOn xs ys (table_rows_in (buckets_of c.other.inside.buckets.items)) → (first second : ℕ) → row_of xs first second ≡ row_of ys first second in
      let Q : RowMap → Type 0 = λ xs. P xs c.args.other.now in
      let R : RowMap → Type 0 = λ ys. P (row_map_of (buckets_of c.self.inside.buckets.items)) ys in
      subst Q c.self.view_is (subst R c.other.view_is (agree_by_rows (buckets_of c.self.inside.buckets.items) (buckets_of c.other.inside.buckets.items))) one two,
  λ same. c.agree_on_all-then-agree_on_all.ensures.1 (AgreeOn-all c.args.self.now c.args.other.now same _),
)
