use Rattle.std.proofs.Common.{ap, sym, ◌∙◌, subst}
use lib.ListN.{get_elem?}
use Rattle.atomic_board.specs.declared.group_table.GroupTable.{GroupTable}
use Rattle.atomic_board.specs.GroupTables.{id_of, origin_of, group_place}
use Rattle.atomic_board.specs.Tokens.{AreTokens}
use Rattle.group_tests.specs.BoardTrials.{small_words}
use Rattle.group_tests.proofs.BoardTrialLaws.{small_sound}
use Rattle.group_tests.specs.ThreadTrials.{IsStart}
use Rattle.group_tests.proofs.ThreadTrialLaws.{starts, are_three}
use Rattle.group_tests.proofs.thread_board_tests.seen_of_three.Goals as goal

pub open-requires-clause-sound : goal.open-requires-clause-sound
open-requires-clause-sound g c = small_sound

pub work_three-a-requires-clause-a : goal.work_three-a-requires-clause-a
work_three-a-requires-clause-a g c = let s = c.in_ok-tokens.ensures in let t = c.in_ok-table.table in
    λ _ _. subst (λ (x : GroupTable). IsStart small_words (id_of x) 0 c.in-Some.tokens.0) (sym s.same) (starts small_words (origin_of t) (id_of t) c.in_ok-tokens.tokens.items 0 c.in-Some.tokens.0 c.in_ok-table.ensures.opened s.tokens s.fresh (ap (λ l. get_elem? l 0) c.in-Some.ensures))

pub work_three-a-requires-clause-b : goal.work_three-a-requires-clause-b
work_three-a-requires-clause-b g c = let s = c.in_ok-tokens.ensures in let t = c.in_ok-table.table in
    λ _ _. subst (λ (x : GroupTable). IsStart small_words (id_of x) 1 c.in-Some.tokens.1) (sym s.same) (starts small_words (origin_of t) (id_of t) c.in_ok-tokens.tokens.items 1 c.in-Some.tokens.1 c.in_ok-table.ensures.opened s.tokens s.fresh (ap (λ l. get_elem? l 1) c.in-Some.ensures))

pub work_three-a-requires-clause-c : goal.work_three-a-requires-clause-c
work_three-a-requires-clause-c g c = let s = c.in_ok-tokens.ensures in let t = c.in_ok-table.table in
    λ _ _. subst (λ (x : GroupTable). IsStart small_words (id_of x) 2 c.in-Some.tokens.2) (sym s.same) (starts small_words (origin_of t) (id_of t) c.in_ok-tokens.tokens.items 2 c.in-Some.tokens.2 c.in_ok-table.ensures.opened s.tokens s.fresh (ap (λ l. get_elem? l 2) c.in-Some.ensures))

pub close-words-requires-clause-tokens : goal.close-words-requires-clause-tokens
close-words-requires-clause-tokens g c = let s = c.in_ok-tokens.ensures in let t = c.in_ok-table.table in
    subst (λ (x : GroupTable). AreTokens (id_of x) (group_place x) c.in_ok-tokens-2.tokens.items) (sym s.same)
    (subst (AreTokens (id_of t) (group_place t)) (sym c.in_ok-tokens-2.ensures.items)
    (are_three (id_of t) (group_place t) c.work_three-a.result.0 c.work_three-a.result.1 c.work_three-a.result.2
    (c.work_three-a.ensures.a ∙ s.tokens 0 c.in-Some.tokens.0 (ap (λ l. get_elem? l 0) c.in-Some.ensures))
    (c.work_three-a.ensures.b ∙ s.tokens 1 c.in-Some.tokens.1 (ap (λ l. get_elem? l 1) c.in-Some.ensures))
    (c.work_three-a.ensures.c ∙ s.tokens 2 c.in-Some.tokens.2 (ap (λ l. get_elem? l 2) c.in-Some.ensures))))
