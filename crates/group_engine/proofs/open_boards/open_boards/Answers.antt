use Rattle.std.proofs.Common.{◌+◌, sym, ◌∙◌, ap, subst, length, arith}
use Rattle.group_laws.specs.OpeningImages.{opened}
use Rattle.group_board.specs.Journals.{image_of, place_in}
use Rattle.group_engine.specs.Shows.{AreOpened}
use Rattle.engine_core.proofs.Clients.{one_more}
use Rattle.group_engine.proofs.Opened.{boards_more}
use Rattle.group_engine.proofs.open_boards.open_boards.Goals as goal

pub loop-group-preserved : goal.loop-group-preserved
loop-group-preserved g c =
    let I = c.loop-group.invariant in
    let words = g.O.Opening.words in
    record {
      count = ap length c.in_ok-push.ensures.items ∙ one_more c.loop-group.boards.items c.in_ok-board.board ∙ ap (λ n. n + 1) I.count;
      within = (let t = c.loop-group-test.true in omega (arith, t));
      opened = subst (AreOpened words) (sym c.in_ok-push.ensures.items) (boards_more words c.loop-group.boards.items c.in_ok-board.board I.opened (c.in_ok-board.ensures.opened ∙ ap (λ n. opened (place_in n words) (image_of words)) (sym I.count)));
    }
