-- What the proofs of other crates may use of this one.
pub use Rattle.kind_tables.proofs.swapping.Effects.{SwapsBy, effect_in, first_still, second_still, both_still, same_int, int_eq-comm, false_of, either, both, not_true}
pub use Rattle.kind_tables.proofs.swapping.ActSwaps.{IsNear, Pair, two_apart_rows, two_turns, turn_first, turn_second, turn_still, pair_swaps, action_effect}
pub use Rattle.kind_tables.proofs.swapping.Validity.{TableLaws, valid_from}
pub use Rattle.kind_tables.proofs.kinds.TableFacts.{TableFacts, NoneIsFalse, keeps, IsSilent, simple-below, tables-SuitKind}
pub use Rattle.kind_tables.proofs.kinds.RegisterLaws.{register_table, register_facts, register_silent}
pub use Rattle.kind_tables.proofs.kinds.Fills.{methods_end, filled_to, filled-none, filled-more, filled-row, filled-all}
pub use Rattle.kind_tables.proofs.kinds.AllKinds.{tables_of-SuitKind}
pub use Rattle.kind_tables.proofs.classes.GradeLaws.{shipped-table-none, chosen-none, shipped-none, class-none, below-none}
