-- What the crates above use.
pub use Rattle.headline.proofs.Lists.{behind-append, behind_end, behind_same, each_behind, each_number, enumerate-append, filter_same, find_same, get_front}
pub use Rattle.headline.proofs.Run.{prefix_grows, recorded, recorded_stopped, requests-append}
pub use Rattle.headline.proofs.Images.{at_attach, certain_may_be, sound_blocks}
pub use Rattle.headline.proofs.Counted.{are_more, stopped_to}
