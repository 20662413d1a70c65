-- What proofs of other crates may use: facts on lists of entries, on replays, and on the first entry that is in the way.
pub use Rattle.gate_core.proofs.lists.EntryLists.{numbers_of, of_same, same_turn, each_append, each_filter, each_without, each_at, each_same, last_split, without_split, has_others, loses_last}
pub use Rattle.gate_core.proofs.lists.Walking.{get_at, drop_at, parted_at}
pub use Rattle.gate_core.proofs.lists.Others.{none_in_way}
pub use Rattle.gate_core.proofs.replays.StateTerms.{named_same, named_used, blind}
pub use Rattle.gate_core.proofs.replays.Swapping.{stands_next, swapped}
pub use Rattle.gate_core.proofs.replays.Failing.{FailsAt, fails_at}
pub use Rattle.gate_core.proofs.lawful.KeptLawful.{stands_after, saw_append, live_stands, state_stands}
pub use Rattle.gate_core.proofs.lawful.GateLaws.{replays_alone}
pub use Rattle.gate_core.proofs.replays.EntryReplays.{mades_of-append, mades_of-under, legal_join, calls_append, calls_filter, calls_without}
pub use Rattle.gate_core.proofs.scans.ScanLemmas.{saw_front}
pub use Rattle.gate_core.proofs.scans.FirstPlaces.{first_found, none_found}
pub use Rattle.gate_core.proofs.scans.PlainTables.{sees_first_alone}
