-- What the crates above use.
pub use Rattle.pm_region.proofs.Cells.{certain_may_be, fence_here, fence_last, flush_here, flush_last, flush_other, has_end, kept_then, may_be_last, store_other}
pub use Rattle.pm_region.proofs.Moments.{at_exit, both, goes_on, over_started, over_weaken, started, then_on, told_at_entry, weaken}
pub use Rattle.pm_region.proofs.Narrow.{fence_narrows, flush_narrows, has_split, kept_narrows, patch, patch_in, patch_out, surely_certain, surely_kept, surely_last, surely_narrows, surely_own, was_image}
pub use Rattle.pm_region.proofs.Results.{err_so, on_err, on_ok, same_err}
pub use Rattle.pm_region.proofs.Runs.{all_kept, fence_on, kept_on, set_run, wider}
pub use Rattle.pm_region.proofs.Wording.{word_part, word_same}
