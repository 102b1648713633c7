-- What the crates above use.
pub use Rattle.engine_laws.proofs.Cores.{core_is, group_low, key_group_low, member_core, member_low, of_core, of_member, owner_low, some_group}
pub use Rattle.engine_laws.proofs.CauseLaws.{at_least_same, causes_append, causes_up, full_less, lacks_less, quiet_refuses, raised_append, raised_by_low, raised_by_up, raised_low}
pub use Rattle.engine_laws.proofs.Others.{apart, last_in, pending_in}
pub use Rattle.engine_laws.proofs.Licences.{outside_part, shows_groups}
pub use Rattle.engine_laws.proofs.Opens.{opens_last, opens_own}
pub use Rattle.engine_laws.proofs.Numbers.{IsUp, all_append, all_in, filter_in, in_all, in_filter, in_requests, numbered, one_key, up, up_apart, up_tail}
pub use Rattle.engine_laws.proofs.Stands.{shows_key, stands_on}
pub use Rattle.engine_laws.proofs.Begins.{gives, opens}
pub use Rattle.engine_laws.proofs.WhyRefused.{Changes, asked_in, cause_served, given_front, lawful_changes}
pub use Rattle.engine_laws.proofs.Ran.{Delivers, goes, pass, ran_given, ran_seen, ran_stands, until}
pub use Rattle.engine_laws.proofs.Sits.{loads_only}
pub use Rattle.engine_laws.proofs.SpendingMoves.{core_spends}
pub use Rattle.engine_laws.proofs.Calls.{call_asked, call_given, call_move, call_once, call_others, call_sits, call_stands}
pub use Rattle.engine_laws.proofs.Ceasing.{ceased, stays_resting, takes_stands}
pub use Rattle.engine_laws.proofs.RoomSums.{sum_cons}
pub use Rattle.engine_laws.proofs.GroupLines.{out_within, own_lines, taken_within}
pub use Rattle.engine_laws.proofs.Ampleness.{chunk_big}
pub use Rattle.engine_laws.proofs.RoomMoves.{OwnLines, OwnMoves, fresh, own_posted, own_room}
pub use Rattle.engine_laws.proofs.RoomNeeds.{not_ample, not_scarce}
pub use Rattle.engine_laws.proofs.Kept.{done, promised}
pub use Rattle.engine_laws.proofs.KeyLaw.{key_grows, key_shows}
pub use Rattle.engine_laws.proofs.Promises.{changes_told}
