-- What the crates above use.
pub use Rattle.group_laws.proofs.Facts.{posted_unnamed}
pub use Rattle.group_laws.proofs.Puts.{In-append, In-append_left, In-append_right, In-push, cond_cases, if2_into, if_into}
pub use Rattle.group_laws.proofs.Times.{same_entry-true, times-other, times-same}
pub use Rattle.group_laws.proofs.Names.{In_has, has_In}
pub use Rattle.group_laws.proofs.Runs.{run_keeps, step_keeps}
pub use Rattle.group_laws.proofs.Finishes.{run_cell}
pub use Rattle.group_laws.proofs.Safe.{distinct}
pub use Rattle.group_laws.proofs.Images.{any_in, held_there, images_safe, in_any, in_flat, in_map, of_flat, of_map, part_core}
pub use Rattle.group_laws.proofs.Opened.{opened}
pub use Rattle.group_laws.proofs.GroupEntries.{back, core_back, core_low, core_once, home, own_core, owner_of, some_group, wins, won}
pub use Rattle.group_laws.proofs.BlankRegions.{no_block, no_cell, no_death, no_home, no_last, no_log}
pub use Rattle.group_laws.proofs.OpeningFound.{finds_one, found_is, has_home, home_has, is_found, own_true}
pub use Rattle.group_laws.proofs.OpeningTidied.{all_from, all_true, lawful, licensed}
pub use Rattle.group_laws.proofs.Posted.{run_posted}
pub use Rattle.group_laws.proofs.Others.{frame, run_frame, run_place, step_place}
pub use Rattle.group_laws.proofs.Doubts.{run_doubt}
pub use Rattle.group_laws.proofs.PartWords.{licensed_words}
pub use Rattle.group_laws.proofs.SafeRegions.{region_cells, region_sound}
