-- What the crates above use.
pub use Rattle.core_worker.proofs.HandKeys.{none_for}
pub use Rattle.core_worker.proofs.Aside.{stands_aside}
pub use Rattle.core_worker.proofs.Given.{adds_none}
pub use Rattle.core_worker.proofs.NamesStood.{names_kept}
pub use Rattle.core_worker.proofs.UnderWay.{room_wound}
pub use Rattle.core_worker.proofs.SentTurns.{passes_is}
pub use Rattle.core_worker.proofs.LeftFair.{starts_nothing}
pub use Rattle.core_worker.proofs.StartBlocks.{own_of}
pub use Rattle.core_worker.proofs.Starting.{free_busy}
pub use Rattle.core_worker.proofs.OpeningLaws.{certain_at, core_is, new_idle, new_room, start_at}
