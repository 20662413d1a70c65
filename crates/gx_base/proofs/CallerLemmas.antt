-- What other crates' proofs cite of this one.
pub use Rattle.gx_base.proofs.states.Registers.{row_cmp_total, both_equal, row_cmp-IsAntisymmetric, same_row, same_row-is, row_for, get-rows_with, number_at-same, number_at-other, with-with, with-comm, with-number_at, number_at-fits, with_number-HoldsNumbers, same_int, same_row-sort, row_for-IsNumberRow}
pub use Rattle.gx_base.proofs.states.StateRows.{row_at-with, row_at-same, row_at-other, with_row-row_at, with_row-comm, written_back}
pub use Rattle.gx_base.proofs.states.Wrapping.{add-swap, below_bits, add-zero_of, add-fits}
pub use Rattle.gx_base.proofs.states.RowActionLaws.{same_content-is}
pub use Rattle.gx_base.proofs.methods.MethodPlaces.{within_of, one_more, all_methods, methods_from, methods_end, place_below}
pub use Rattle.gx_base.proofs.object_kinds.SetLaws.{set_deed-foreign}
pub use Rattle.gx_base.proofs.object_kinds.CellsLaws.{cells_use-foreign}
pub use Rattle.gx_base.proofs.object_kinds.FlowLaws.{flow_use-foreign}
pub use Rattle.gx_base.proofs.object_kinds.PointLaws.{point_deed-foreign}
pub use Rattle.gx_base.proofs.object_kinds.DomainLaws.{domain_deed-foreign, IsSum, dom_stays, aimed-same, aimed-IsCall, domain_next-HoldsNumbers}
pub use Rattle.gx_base.proofs.object_kinds.KnownLaws.{laws_of, kind-next_state, next_state-IsState, undoes}
pub use Rattle.gx_base.proofs.table_lemmas.BelowLaws.{IsBelow-itself, False-IsBelow, IsBelow-True, below-IsValid}
pub use Rattle.gx_base.proofs.table_lemmas.TableRowLaws.{put_row, pair_cmp_total, same_pair, same_pair-is, same_pair-sym, same_pair-parts, row_of-empty, row_of-insert}
pub use Rattle.gx_base.proofs.table_lemmas.ShippedRows.{Serves, shipped_serves}
pub use Rattle.gx_base.proofs.replays.CallReplays.{after-Legal, start_of-Legal, start_of-append, Legal-split, Legal-append}
pub use Rattle.gx_base.proofs.replays.RoomReplays.{Replays-apart, Replays-merged, Replays-ends, Replays-split, Replays-append, part-append}
pub use Rattle.gx_base.proofs.bodies.BodyReplays.{body-Replays}
pub use Rattle.gx_base.proofs.bodies.ReplyRuns.{body-whole, RunsTo-body, RunsTo-call, RunsTo-push, RunsTo-done}
pub use Rattle.gx_base.proofs.serial.Prefixes.{serial-append, IsSerialRun-split, IsSerialRun-append, order_of-append, outcomes_of-append}
pub use Rattle.gx_base.proofs.serial.Journals.{IsSerialRun-Replays, IsSerialRun-runs}
pub use Rattle.gx_base.proofs.serial.LeastFirst.{serial-least_first, IsSerialRun-least_first}
