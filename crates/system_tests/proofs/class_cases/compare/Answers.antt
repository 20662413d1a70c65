use Rattle.std.specs.Prelude.{◌≡◌, ℕ, zero, suc, ◌<◌, Result, Ok, Err, OnOk, List, [], ◌∷◌, Contains, slice_index_or}
use Rattle.std.proofs.Common.{subst, sym, arith}
use Rattle.gx_base.specs.declared.kinds.Kind.{Kind}
use Rattle.gx_base.specs.Below.{AreBelow}
use Rattle.gx_base.specs.Kinds.{kind_number}
use Rattle.gx_base.specs.TableRows.{RowMap, row_of}
use Rattle.gx_base.specs.Tables.{KeepsToKind, IsValid}
use Rattle.cond_syntax.specs.Printable.{IsPrintableTable}
use Rattle.cond_syntax.specs.TableTexts.{IsTableText}
use Rattle.system_tests.proofs.class_cases.compare.Goals as goal

on_ok : {X E : Type 0} (r : Result X E) (P Q : Type 0) → (P → Q) → OnOk r P → OnOk r Q
on_ok (Ok x) P Q f h = f h
on_ok (Err e) P Q f h = tt

only_one : (kind read : Kind) (k : ℕ) → k < 1 → slice_index_or (kind ∷ []) k read ≡ read → read ≡ kind
only_one kind read zero within same = sym same
only_one kind read (suc k) within same = absurd (omega arith)

pub returns : goal.returns
returns c =
    let wanted : List Kind = c.args.kind ∷ [] in
    let rows : RowMap = c.in_ok-read.table in
    let text : IsTableText wanted c.args.bytes.now c.in_ok-read.read rows = c.in_ok-read.ensures.table in
    let printable : IsPrintableTable c.in_ok-read.read (row_of rows) = c.read_tables_are_printable.ensures wanted c.args.bytes.now c.in_ok-read.read rows text in
    let one : Contains wanted c.in_ok-read.read = c.read_tables_are_of_wanted_kinds.ensures wanted c.args.bytes.now c.in_ok-read.read rows text in
    let same : c.in_ok-read.read ≡ c.args.kind = only_one c.args.kind c.in_ok-read.read one.0 one.1 one.2 in
    on_ok c.below-answer.result (KeepsToKind (kind_number c.in_ok-read.read) (row_of rows) → AreBelow (row_of rows) (row_of c.args.valid.now))
    ((r : RowMap) × IsTableText wanted c.args.bytes.now c.args.kind r × IsValid (kind_number c.args.kind) (row_of r))
    (λ sound. (rows, subst (λ (k : Kind). IsTableText wanted c.args.bytes.now k rows) same text, c.below_valid_is_valid.ensures (kind_number c.args.kind) (row_of rows) (row_of c.args.valid.now) (sound printable.keeps_to_kind) c.requires)) c.below-answer.ensures.sound
