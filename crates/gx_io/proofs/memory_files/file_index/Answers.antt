use Rattle.gx_io.proofs.Reading.{found_at}
use Rattle.gx_io.proofs.memory_files.file_index.Goals as goal

pub returns-then-eq : goal.returns-then-eq
returns-then-eq c = found_at c.args.files.now c.args.name.now c.loop-place.place c.index-files-place.result c.loop-place-test.true c.index-files-place.is (cc (c.if-eq.ensures, c.as_str.ensures.value)) c.loop-place.invariant
