-- What other crates' proofs cite of classes and of strengthened conditions.
pub use Rattle.cond_lattice.proofs.tables.GradeLemmas.{simple_nameless, nameless_grade}
pub use Rattle.cond_lattice.proofs.tables.Greatest.{row_nameless, row-below-not-general, table_grade-greatest}
pub use Rattle.cond_lattice.proofs.bounds.Implied.{stands_true}
pub use Rattle.cond_lattice.proofs.bounds.Bounds.{is_strengthened, strengthened-simple}
