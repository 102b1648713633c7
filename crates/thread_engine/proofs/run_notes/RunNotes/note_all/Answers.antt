use Rattle.std.proofs.Common.{◌+◌, ◌-◌, ◌++◌, [], ◌∷◌, length, suc, take, sym, ◌∙◌, ap, subst, append-nil, append_assoc, arith}
use Rattle.std.proofs.lemmas.List.{take_more, take_all}
use Rattle.thread_engine.specs.Noted.{IsNoted}
use Rattle.thread_engine.proofs.NotedAnswers.{noted_more, fewer_room, room_left}
use Rattle.thread_engine.proofs.run_notes.RunNotes.note_all.Goals as goal

pub loop-answer-init : goal.loop-answer-init
loop-answer-init c = record {
  notes = λ ks I. subst (λ l. IsNoted l c.args.self.now) (sym (append-nil ks)) I;
  room = λ n m e H. fewer_room (m + n) (length c.args.answers.now + n) c.args.self.now (omega (arith, e)) H;
}

pub note-requires : goal.note-requires
note-requires c =
    let low = c.loop-answer-test.true in
    let i = c.loop-answer.answer-index in
    let m = length c.args.answers.now - i in
    record {
      room = fewer_room 1 (m + 0) c.loop-answer.self (omega (arith, low))
          (c.loop-answer.invariant.room 0 m (omega (arith, low)) (fewer_room (length c.args.answers.now + 0) (length c.args.answers.now) c.args.self.now (omega arith) c.requires.room));
    }

pub loop-answer-preserved : goal.loop-answer-preserved
loop-answer-preserved c =
    let xs = c.args.answers.now in
    let i = c.loop-answer.answer-index in
    let x = c.answer-item.result in
    let more = take_more xs i x c.loop-answer-test.true ∙ ap (λ y. take i xs ++ y ∷ []) (sym c.answer-item.is) in
    record {
      notes = λ ks I. subst (λ l. IsNoted l c.note.new.self) (append_assoc ks (take i xs) (x ∷ []) ∙ ap (λ l. ks ++ l) (sym more))
          (noted_more (ks ++ take i xs) x c.loop-answer.self c.note.new.self (c.loop-answer.invariant.notes ks I) c.note.ensures.notes);
      room = λ n m e H. room_left (m + n) x c.loop-answer.self c.note.new.self c.note.ensures.notes
          (fewer_room (suc (m + n)) (suc m + n) c.loop-answer.self (omega arith) (c.loop-answer.invariant.room n (suc m) (omega (arith, e)) H));
    }

pub returns-clause-notes : goal.returns-clause-notes
returns-clause-notes c ks I =
    subst (λ l. IsNoted (ks ++ l) c.loop-answer.self) (take_all c.loop-answer.answer-index c.args.answers.now c.loop-answer-test.false) (c.loop-answer.invariant.notes ks I)

pub returns-clause-room : goal.returns-clause-room
returns-clause-room c n H =
    let past = c.loop-answer-test.false in
    let m = length c.args.answers.now - c.loop-answer.answer-index in
    fewer_room n (m + n) c.loop-answer.self (omega arith) (c.loop-answer.invariant.room n m (omega (arith, past)) H)
