use Rattle.std.proofs.Common.{sym, ◌∙◌}
use Rattle.region_memory.specs.Steady.{steady_state}
use Rattle.pm_region.specs.Words.{lasts}
use Rattle.group_board.specs.Journals.{state}
use Rattle.engine_tests.proofs.GateTrials.{words_sound, words_group, second_group, opened_second, at_board}
use Rattle.engine_tests.proofs.ReachedWords.{words, same}
use Rattle.engine_tests.proofs.gate_tests.seated.Goals as goal

pub open_board-requires-clause-sound : goal.open_board-requires-clause-sound
open_board-requires-clause-sound c =
    words_sound (lasts (steady_state c.args.region.now)) c.in_ok-found.found (c.in_ok-found.ensures.told c.requires.tells)
    (sym c.cores.ensures ∙ c.if-cores-ne8.false) (sym c.group.ensures ∙ c.if-group-ne4.false) (words c.args.region.now) (same c.args.region.now)

pub open_board-requires-clause-group : goal.open_board-requires-clause-group
open_board-requires-clause-group c =
    second_group (lasts (steady_state c.args.region.now)) c.in_ok-found.found (c.in_ok-found.ensures.told c.requires.tells)
    (sym c.cores.ensures ∙ c.if-cores-ne8.false) (sym c.group.ensures ∙ c.if-group-ne4.false) (words c.args.region.now) (same c.args.region.now)

pub open_board-requires-clause-members : goal.open_board-requires-clause-members
open_board-requires-clause-members c =
    words_group (lasts (steady_state c.args.region.now)) c.in_ok-found.found (c.in_ok-found.ensures.told c.requires.tells)
    (sym c.cores.ensures ∙ c.if-cores-ne8.false) (sym c.group.ensures ∙ c.if-group-ne4.false) (words c.args.region.now) (same c.args.region.now)

pub returns : goal.returns
returns c =
    let s = steady_state c.args.region.now in
    let found = c.in_ok-found.ensures.told c.requires.tells in
    let eight = sym c.cores.ensures ∙ c.if-cores-ne8.false in
    let four = sym c.group.ensures ∙ c.if-group-ne4.false in
    let g = state c.in_ok-board.board.keeper.me.0 in
    at_board s c.in_ok-found.found c.swap_remove-start.result c.swap_remove-start.result c.in_ok-worker.worker
    c.requires.first (sym c.words.ensures ∙ c.if-words-ne16896.false) c.requires.certain
    c.in_ok-found.ensures.made found (c.in_ok-found.ensures.stands c.requires.certain) eight four c.swap_remove-start.ensures.value
    c.in_ok-worker.ensures.new c.in_ok-worker.ensures.holds c.in_ok-worker.ensures.stands c.in_ok-worker.ensures.order
    c.in_ok-worker.ensures.rule g (opened_second (lasts s) c.in_ok-found.found found eight four (words c.args.region.now) (same c.args.region.now) g c.in_ok-board.ensures)
