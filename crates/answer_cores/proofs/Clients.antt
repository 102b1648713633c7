-- What the crates above use.
pub use Rattle.answer_cores.proofs.Together.{dealt_snoc, deals_snoc, first_among, rest_among, all_of, Dealt, deals_all, Joined, joins_all, whole}
