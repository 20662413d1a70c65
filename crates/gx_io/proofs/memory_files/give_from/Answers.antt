use Rattle.std.proofs.Common.{◌≡◌, ℕ, List, [], drop, refl, arith}
use Rattle.gx_io.proofs.Reading.{bytes_at-is, bytes_at-past, gives_bytes, ends_bytes}
use Rattle.std.proofs.lemmas.List.{drop_all}
use Rattle.gx_io.proofs.memory_files.give_from.Goals as goal

pub returns-then-place-files-clause-gives : goal.returns-then-place-files-clause-gives
returns-then-place-files-clause-gives c =
    let e = bytes_at-is c.args.files.now c.in-Some.place c.index-files-place.result c.if-place-files.true c.index-files-place.is in
    rw (c.in-Some.is, e) (gives_bytes c.index-files-place.result.1.items c.copy_from.new.piece c.args.at c.copy_from.result
    (cc (c.copy_from.ensures.count, c.copy_from.auto.piece, c.deref.ensures.value))
    (cc (c.copy_from.ensures.front, c.deref.ensures.value)))

pub returns-then-place-files-clause-end : goal.returns-then-place-files-clause-end
returns-then-place-files-clause-end c =
    let e = bytes_at-is c.args.files.now c.in-Some.place c.index-files-place.result c.if-place-files.true c.index-files-place.is in
    rw (c.in-Some.is, e) (ends_bytes c.index-files-place.result.1.items c.copy_from.new.piece c.args.at c.copy_from.result
    (cc (c.copy_from.ensures.count, c.copy_from.auto.piece, c.deref.ensures.value)))

pub returns-else-place-files-clause-end : goal.returns-else-place-files-clause-end
returns-else-place-files-clause-end c =
    let e = bytes_at-past c.args.files.now c.in-Some.place c.if-place-files.false in
    rw (c.in-Some.is, e) (λ some. (λ none. drop_all c.args.at [] (omega arith), λ ended. refl))

pub returns-then-place-files-clause-whole : goal.returns-then-place-files-clause-whole
returns-then-place-files-clause-whole c =
    let e = bytes_at-is c.args.files.now c.in-Some.place c.index-files-place.result c.if-place-files.true c.index-files-place.is in
    rw (c.in-Some.is, e) (cc (c.copy_from.ensures.count, c.copy_from.auto.piece, c.deref.ensures.value))

pub returns-else-place-files-clause-whole : goal.returns-else-place-files-clause-whole
returns-else-place-files-clause-whole c =
    let e = bytes_at-past c.args.files.now c.in-Some.place c.if-place-files.false in
    let none : ◌≡◌ {A = List ℕ} (drop c.args.at []) [] = drop_all c.args.at [] (omega arith) in
    rw (c.in-Some.is, e, none) (omega arith)
