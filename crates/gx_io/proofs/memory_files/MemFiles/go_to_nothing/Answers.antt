use Rattle.std.proofs.Common.{ℕ, List, Some, ap, arith}
use Rattle.gx_io.proofs.Reading.{bytes_at-past}
use Rattle.gx_io.proofs.memory_files.MemFiles.go_to_nothing.Goals as goal

pub returns-clause-left : goal.returns-clause-left
returns-clause-left c =
    let files = c.args.self.now.files in
    ap (λ (r : List ℕ). Some r) (bytes_at-past files.items c.len.result (omega (arith, files.ok.0, c.len.ensures)))
