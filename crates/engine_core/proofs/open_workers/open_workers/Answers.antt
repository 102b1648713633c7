use Rattle.std.proofs.Common.{◌+◌, ◌∷◌, ◌++◌, [], length, length-append, sym, ◌∙◌, ap, subst, append_assoc, append-nil}
use Rattle.std.proofs.lemmas.List.{nil_from_length}
use Rattle.engine_core.specs.Working.{SeatFirst}
use Rattle.engine_core.specs.RunStarts.{AreNew}
use Rattle.engine_core.proofs.Opens.{no_seats, none_new, new_more, seat_more}
use Rattle.engine_core.proofs.open_workers.open_workers.Goals as goal

pub loop-start-init : goal.loop-start-init
loop-start-init c = record {
  count = ap length c.new-workers.ensures.items;
  split = sym c.into_iter-start-iterator.ensures.into_iter_gives.0;
  new = none_new c.args.layout c.new-workers.result.items c.new-workers.ensures.items;
  seat = no_seats [] c.args.layout c.new-workers.result.items c.new-workers.ensures.items;
}

pub loop-start-preserved : goal.loop-start-preserved
loop-start-preserved c =
    let I = c.loop-start.invariant in
    let old = c.loop-start.workers.items in
    let w = c.in_ok-worker.worker in
    record {
      count = ap length c.in_ok-push.ensures.items ∙ length-append old (w ∷ []) ∙ ap (λ n. n + 1) I.count ∙ sym (length-append c.loop-start.yielded (c.in-Some.start ∷ []));
      split = I.split ∙ ap (λ xs. c.loop-start.yielded ++ xs) c.in-Some.ensures.steps.0 ∙ sym (append_assoc c.loop-start.yielded (c.in-Some.start ∷ []) c.next.new.self.rest.items);
      new = subst (λ ws. AreNew (c.loop-start.yielded ++ c.in-Some.start ∷ []) c.args.layout ws) (sym c.in_ok-push.ensures.items) (new_more c.loop-start.yielded c.in-Some.start c.args.layout old w I.new c.in_ok-worker.ensures.new);
      seat = subst (λ ws. SeatFirst (c.loop-start.yielded ++ c.in-Some.start ∷ []) c.args.layout ws) (sym c.in_ok-push.ensures.items) (seat_more c.loop-start.yielded c.in-Some.start c.args.layout old w I.count I.seat c.in_ok-worker.ensures.seated);
    }

pub returns-clause-seat : goal.returns-clause-seat
returns-clause-seat c =
    let I = c.loop-start.invariant in
    let over = nil_from_length c.loop-start.start-iterator.rest.items (sym c.loop-start.start-iterator.rest.ok.0 ∙ c.in-None.ensures.steps.0) in
    let all = I.split ∙ ap (λ xs. c.loop-start.yielded ++ xs) over ∙ append-nil c.loop-start.yielded in
    subst (λ xs. SeatFirst xs c.args.layout c.loop-start.workers.items) (sym all) I.seat

pub returns-clause-new : goal.returns-clause-new
returns-clause-new c =
    let I = c.loop-start.invariant in
    let over = nil_from_length c.loop-start.start-iterator.rest.items (sym c.loop-start.start-iterator.rest.ok.0 ∙ c.in-None.ensures.steps.0) in
    let all = I.split ∙ ap (λ xs. c.loop-start.yielded ++ xs) over ∙ append-nil c.loop-start.yielded in
    subst (λ xs. AreNew xs c.args.layout c.loop-start.workers.items) (sym all) I.new
