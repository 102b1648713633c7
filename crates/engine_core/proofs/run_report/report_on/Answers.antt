use Rattle.std.proofs.Common.{◌∷◌, [], ◌++◌, length, length-append, sym, ◌∙◌, ap, append_assoc, arith}
use Rattle.engine_core.proofs.Reporting.{report_more, room_more, has_room, blank_report, blank_within}
use Rattle.engine_core.proofs.run_report.report_on.Goals as goal

pub loop-answer-init : goal.loop-answer-init
loop-answer-init c = record {
  made = blank_report c.args.report c.requires.blank;
  split = sym c.into_iter-answer-iterator.ensures.into_iter_gives.0;
  room = c.requires.room;
  within = blank_within c.args.report c.requires.blank;
}

pub add-requires : goal.add-requires
add-requires c =
    let I = c.loop-answer.invariant in
    let split = ap length I.split ∙ ap (λ xs. length (c.loop-answer.yielded ++ xs)) c.in-Some.ensures.steps.0 ∙ length-append c.loop-answer.yielded (c.in-Some.answer ∷ c.next.new.self.rest.items) in
    record { room = has_room (length c.loop-answer.yielded) (length c.args.answers.items) c.loop-answer.report (omega (arith, split)) I.within I.room }

pub loop-answer-preserved : goal.loop-answer-preserved
loop-answer-preserved c =
    let I = c.loop-answer.invariant in
    record {
      made = report_more c.loop-answer.yielded c.in-Some.answer c.loop-answer.report c.add.new.self I.made c.add.ensures.adds;
      split = I.split ∙ ap (λ xs. c.loop-answer.yielded ++ xs) c.in-Some.ensures.steps.0 ∙ sym (append_assoc c.loop-answer.yielded (c.in-Some.answer ∷ []) c.next.new.self.rest.items);
      room = (room_more c.loop-answer.yielded c.in-Some.answer (length c.args.answers.items) c.loop-answer.report c.add.new.self I.within I.room c.add.ensures.fills).0;
      within = (room_more c.loop-answer.yielded c.in-Some.answer (length c.args.answers.items) c.loop-answer.report c.add.new.self I.within I.room c.add.ensures.fills).1;
    }
