use Rattle.std.proofs.Common.{Bor, List, ℕ, ◌≡◌, ◌+◌, ◌<◌, ◌≤◌, ◌∙◌, sym, ap, refl, subst, rules, inl, inr, true, false, length, Some, ◌∷◌, [], ◌++◌, arith}
use Rattle.csv.specs.Reading.{Reached, default_config, strip_bom}
use Rattle.csv.specs.Records.{fields_of}
use Rattle.csv.specs.declared.parser.State.TheVariants as st
use Rattle.csv.proofs.ReadFacts.{rows-end, rows-more}
use Rattle.point_files.proofs.files.TextRows.{rests, strip_bom-shorter}
use Rattle.point_files.proofs.files.RowRuns.{stops_at}
use Rattle.point_files.proofs.reading.read_rows.Goals as goal

pub loop-row-init : goal.loop-row-init
unfolding Reached
loop-row-init c =
    let fr = c.from_reader-reader.ensures in
    let e = c.has_headers.ensures in
    let f = c.flexible.ensures in
    let start = c.into_iter-row-iterator.ensures.into_iter_gives ∙ refl in
    let rdr = c.into_byte_records-row-items.ensures.rdr in
    let left = c.into_byte_records-row-items.ensures.left in
    rw (start, rdr) (
      rw (f, e) at fr.trim ∙ c.new.ensures.trim,
      inr (inr (rw (f, e) at fr.has_headers, fr.headers)),
      left,
      rw (f, e) at fr.config ∙ c.new.ensures.config,
      strip_bom c.args.bytes.now,
      fr.source,
      [],
      (sym fr.state, refl),
      c.new-seen.ensures,
    )

pub take-requires : goal.take-requires
take-requires c =
    let inv = c.loop-row.invariant in
    let few = (rests st.StartRecord c.loop-row.row-iterator.rdr.state (strip_bom c.args.bytes.now) inv.4 inv.6 refl inv.7).1 in
    let count = inv.8.count in
    omega (arith, few, count, strip_bom-shorter c.args.bytes.now)

pub overflow_add-result : goal.overflow_add-result
overflow_add-result c =
    let inv = c.loop-row.invariant in
    let few = (rests st.StartRecord c.loop-row.row-iterator.rdr.state (strip_bom c.args.bytes.now) inv.4 inv.6 refl inv.7).1 in
    omega (arith, few, inv.8.count, strip_bom-shorter c.args.bytes.now, c.in-Ok-false.ensures.unchanged c.in-Ok-false.field-0-test)

pub returns-in-Ok-false-clause-stopped : goal.returns-in-Ok-false-clause-stopped
returns-in-Ok-false-clause-stopped c =
    let inv = c.loop-row.invariant in
    let s = rw (c.in-Some.is, c.in-Ok.is) at ((c.next.ensures.steps inv.2 inv.0).0 inv.1) in
    let m = rows-more (λ (s : Bor (List ℕ)). Some s.now) c.loop-row.row-iterator.rdr c.next.new.self.rdr (fields_of c.in-Ok.row) default_config st.StartRecord (strip_bom c.args.bytes.now) inv.4 inv.6 inv.3 inv.5 inv.7 s.0 in
    stops_at c.args.bytes.now inv.6 (fields_of c.in-Ok.row) c.loop-row.seen c.next.new.self.rdr.state m.0 m.2 inv.8 (c.in-Ok-false.ensures.faulty c.in-Ok-false.field-0-test) (c.take.new.self.rows + 1) (ap (λ (n : ℕ). n + 1) (c.in-Ok-false.ensures.unchanged c.in-Ok-false.field-0-test))

pub loop-row-preserved : goal.loop-row-preserved
loop-row-preserved c =
    let inv = c.loop-row.invariant in
    let s = rw (c.in-Some.is, c.in-Ok.is) at ((c.next.ensures.steps inv.2 inv.0).0 inv.1) in
    let m = rows-more (λ (s : Bor (List ℕ)). Some s.now) c.loop-row.row-iterator.rdr c.next.new.self.rdr (fields_of c.in-Ok.row) default_config st.StartRecord (strip_bom c.args.bytes.now) inv.4 inv.6 inv.3 inv.5 inv.7 s.0 in
    (s.0.3 ∙ inv.0, inl s.1, s.2, s.0.2 ∙ inv.3, m.0, m.1, inv.6 ++ fields_of c.in-Ok.row ∷ [], m.2, c.in-Ok-true.ensures.good c.in-Ok-true.field-0-test inv.6 inv.8)

pub returns-clause-read : goal.returns-clause-read
returns-clause-read c =
    let inv = c.loop-row.invariant in
    let s = rw c.in-None.is at ((c.next.ensures.steps inv.2 inv.0).0 inv.1) in
    record {
      rows = inv.6;
      are_rows = (c.loop-row.row-iterator.rdr.state, inv.4, inv.7, rows-end (λ (s : Bor (List ℕ)). Some s.now) c.loop-row.row-iterator.rdr c.next.new.self.rdr [] default_config inv.4 inv.3 inv.5 s);
      has_read = inv.8;
    }
