-- What other crates' proofs cite of clashes.
pub use Rattle.lock_compiler.proofs.clashing.Reduced.{reduced_compiled_clash}
