use Rattle.std.proofs.Common.{ap, sym, ◌∙◌, subst}
use lib.ListN.{get_elem?}
use Rattle.atomic_board.specs.declared.group_table.GroupTable.{GroupTable}
use Rattle.atomic_board.specs.GroupTables.{id_of, origin_of, group_place}
use Rattle.atomic_board.specs.Tokens.{AreTokens}
use Rattle.group_tests.specs.ThreadTrials.{pair_words, IsStart}
use Rattle.group_tests.proofs.ThreadTrialLaws.{pair_sound, starts, are_two}
use Rattle.group_tests.proofs.thread_board_tests.seen_of_two.Goals as goal

pub open-requires-clause-sound : goal.open-requires-clause-sound
open-requires-clause-sound g c = pair_sound

pub both-a-requires-clause-a : goal.both-a-requires-clause-a
both-a-requires-clause-a g c = let s = c.in_ok-tokens.ensures in let t = c.in_ok-table.table in
    λ _ _. subst (λ (x : GroupTable). IsStart pair_words (id_of x) 0 c.in-Some.tokens.0) (sym s.same) (starts pair_words (origin_of t) (id_of t) c.in_ok-tokens.tokens.items 0 c.in-Some.tokens.0 c.in_ok-table.ensures.opened s.tokens s.fresh (ap (λ l. get_elem? l 0) c.in-Some.ensures))

pub both-a-requires-clause-b : goal.both-a-requires-clause-b
both-a-requires-clause-b g c = let s = c.in_ok-tokens.ensures in let t = c.in_ok-table.table in
    λ _ _. subst (λ (x : GroupTable). IsStart pair_words (id_of x) 1 c.in-Some.tokens.1) (sym s.same) (starts pair_words (origin_of t) (id_of t) c.in_ok-tokens.tokens.items 1 c.in-Some.tokens.1 c.in_ok-table.ensures.opened s.tokens s.fresh (ap (λ l. get_elem? l 1) c.in-Some.ensures))

pub close-words-requires-clause-tokens : goal.close-words-requires-clause-tokens
close-words-requires-clause-tokens g c = let s = c.in_ok-tokens.ensures in let t = c.in_ok-table.table in
    subst (λ (x : GroupTable). AreTokens (id_of x) (group_place x) c.in_ok-tokens-2.tokens.items) (sym s.same)
    (subst (AreTokens (id_of t) (group_place t)) (sym c.in_ok-tokens-2.ensures.items)
    (are_two (id_of t) (group_place t) c.both-a.result.0 c.both-a.result.1
    (c.both-a.ensures.a ∙ s.tokens 0 c.in-Some.tokens.0 (ap (λ l. get_elem? l 0) c.in-Some.ensures))
    (c.both-a.ensures.b ∙ s.tokens 1 c.in-Some.tokens.1 (ap (λ l. get_elem? l 1) c.in-Some.ensures))))
