-- What the crates above use.
pub use Rattle.fs_text.proofs.FirstBytes.{IsFirstAt, IsMissing, lines_at, lines_missing}
pub use Rattle.fs_text.proofs.Limits.{first_append, first_below, first_or_missing, gt_false, guarded, le_true, long_line}
pub use Rattle.fs_text.proofs.ReadBytes.{read_out, read_same}
pub use Rattle.fs_text.proofs.Streaming.{on_err_any, prefix_longer, prefix_none, prefix_of, prefix_then, takes_more, takes_none, up_to_all, up_to_end, up_to_stay}
pub use Rattle.fs_text.proofs.Texts.{prefix_more, sent_more}
