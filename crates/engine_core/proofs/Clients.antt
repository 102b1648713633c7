-- What the crates above use.
pub use Rattle.engine_core.proofs.Kept.{at_is, err_then, get_more, get_there, index_set, ok_of, ok_then, on_err, one_more, places_of, set_length, set_other, set_same, set_twice, shows_less, some_there, stored_length, stored_shows}
pub use Rattle.engine_core.proofs.Opens.{are_seated, begins, layout_is, origin_at, sound}
pub use Rattle.engine_core.proofs.Outcomes.{reports_by, reports_on}
pub use Rattle.engine_core.proofs.Ranged.{found_agrees, words_in}
pub use Rattle.engine_core.proofs.Reporting.{blank_report}
pub use Rattle.engine_core.proofs.Stepping.{turned_as}
