use Rattle.std.proofs.Common.{◌≡◌, drop}
use Rattle.gx_io.specs.NamedFiles.{bytes_of}
use Rattle.gx_io.proofs.memory_files.file_index.Given as goal

abbrev pub invariant-loop-place : goal.invariant-loop-place
invariant-loop-place l = bytes_of l.files l.name ≡ bytes_of (drop l.place l.files) l.name
