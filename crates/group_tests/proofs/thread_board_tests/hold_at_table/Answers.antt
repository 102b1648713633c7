use Rattle.std.proofs.Common.{ap, sym, ◌∙◌}
use lib.ListN.{get_elem?}
use Rattle.group_board.specs.Seats.{SeatAt}
use Rattle.group_tests.proofs.BoardTrialLaws.{small_sound}
use Rattle.atomic_board.specs.GroupTables.{id_of, origin_of}
use Rattle.group_tests.proofs.ThreadTrialLaws.{at_three}
use Rattle.group_tests.proofs.thread_board_tests.hold_at_table.Goals as goal

pub open-requires-clause-sound : goal.open-requires-clause-sound
open-requires-clause-sound c = small_sound

pub attend-a-requires : goal.attend-a-requires
attend-a-requires c = let s = c.in_ok-tokens.ensures in ap (λ (x : SeatAt). x.table) (s.tokens 0 c.in-Some.a (ap (λ l. get_elem? l 0) c.in-Some.ensures)) ∙ sym (ap id_of (c.seats-2.ensures.same ∙ s.same))

pub attend-b-requires : goal.attend-b-requires
attend-b-requires c = let s = c.in_ok-tokens.ensures in ap (λ (x : SeatAt). x.table) (s.tokens 1 c.in-Some.b (ap (λ l. get_elem? l 1) c.in-Some.ensures)) ∙ sym (ap id_of (c.seats-2.ensures.same ∙ s.same))

pub attend-c-requires : goal.attend-c-requires
attend-c-requires c = let s = c.in_ok-tokens.ensures in ap (λ (x : SeatAt). x.table) (s.tokens 2 c.in-Some.c (ap (λ l. get_elem? l 2) c.in-Some.ensures)) ∙ sym (ap id_of (c.seats-2.ensures.same ∙ s.same))

pub hold_all-requires-clause-members : goal.hold_all-requires-clause-members
hold_all-requires-clause-members c = let s = c.in_ok-tokens.ensures in let t = c.in_ok-table.table in (
  (at_three (id_of t) (origin_of t) 0 c.in-Some.a c.attend-a.result.own c.in_ok-table.ensures.opened (s.tokens 0 c.in-Some.a (ap (λ l. get_elem? l 0) c.in-Some.ensures)) c.attend-a.ensures).0,
  (at_three (id_of t) (origin_of t) 1 c.in-Some.b c.attend-b.result.own c.in_ok-table.ensures.opened (s.tokens 1 c.in-Some.b (ap (λ l. get_elem? l 1) c.in-Some.ensures)) c.attend-b.ensures).0,
  (at_three (id_of t) (origin_of t) 2 c.in-Some.c c.attend-c.result.own c.in_ok-table.ensures.opened (s.tokens 2 c.in-Some.c (ap (λ l. get_elem? l 2) c.in-Some.ensures)) c.attend-c.ensures).0,
)

pub hold_all-requires-clause-numbers : goal.hold_all-requires-clause-numbers
hold_all-requires-clause-numbers c = let s = c.in_ok-tokens.ensures in let t = c.in_ok-table.table in (
  (at_three (id_of t) (origin_of t) 0 c.in-Some.a c.attend-a.result.own c.in_ok-table.ensures.opened (s.tokens 0 c.in-Some.a (ap (λ l. get_elem? l 0) c.in-Some.ensures)) c.attend-a.ensures).1,
  (at_three (id_of t) (origin_of t) 1 c.in-Some.b c.attend-b.result.own c.in_ok-table.ensures.opened (s.tokens 1 c.in-Some.b (ap (λ l. get_elem? l 1) c.in-Some.ensures)) c.attend-b.ensures).1,
  (at_three (id_of t) (origin_of t) 2 c.in-Some.c c.attend-c.result.own c.in_ok-table.ensures.opened (s.tokens 2 c.in-Some.c (ap (λ l. get_elem? l 2) c.in-Some.ensures)) c.attend-c.ensures).1,
)
