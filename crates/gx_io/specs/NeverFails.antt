-- Files and a sink that never fail.
use Rattle.std.specs.Prelude.{◌≡◌, ℕ, List, [], length, Option, Some, unwrap_or}
use Rattle.gx_io.specs.declared.memory_files.MemFiles.{MemFiles}
use Rattle.gx_io.specs.declared.memory_sink.MemSink.{MemSink}
use Rattle.gx_io.specs.declared.never.NeverFails.{NeverFails}
use Rattle.gx_io.specs.MemFiles.{file_of}
use Rattle.gx_io.specs.MemSink.{Fits, taken_of, written_to, written_after}

-- the one that is wrapped
abbrev pub within_of : {X : Type 0} → NeverFails X → X
within_of f = f.within

-- what a name holds, and nothing where it is absent
abbrev pub or_nothing : (List ℕ → Option (List ℕ)) → List ℕ → Option (List ℕ)
or_nothing holds name = Some (unwrap_or (holds name) [])

-- what a name holds, over files that never fail
abbrev pub file_or_nothing : NeverFails MemFiles → List ℕ → Option (List ℕ)
file_or_nothing f = or_nothing (file_of f.within)

-- what a write took of a piece was kept where it fits; else the whole piece was taken and none of it kept
pub record KeepsWhatFits (before now : MemSink) (piece : List ℕ) (n : ℕ) : Type 0 where
  pub kept : Fits before piece → (n ≡ length (taken_of before piece)) × (written_to now ≡ written_after before piece)
  pub dropped : (Fits before piece → ⊥) → (n ≡ length piece) × (written_to now ≡ written_to before)
