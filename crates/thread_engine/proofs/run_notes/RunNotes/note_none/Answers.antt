use Rattle.std.proofs.Common.{◌≡◌, ◌-◌, ◌++◌, [], ◌∷◌, suc, None, sym, ◌∙◌, ap, subst, append-nil, append_assoc, arith}
use Rattle.thread_engine.specs.Collected.{blanks}
use Rattle.thread_engine.specs.Noted.{IsNoted}
use Rattle.thread_engine.proofs.NotedAnswers.{noted_more, fewer_room, room_left, blanks_more}
use Rattle.thread_engine.proofs.run_notes.RunNotes.note_none.Goals as goal

pub loop-init : goal.loop-init
loop-init c = record {
  notes = λ ks I. subst (λ l. IsNoted l c.args.self.now) (sym (append-nil ks)) I;
  within = omega arith;
  room = λ m e. fewer_room m c.args.count c.args.self.now (omega (arith, e)) c.requires.room;
}

pub note-requires : goal.note-requires
note-requires c =
    let low = c.loop-test.true in
    let m = c.args.count - c.loop.counter in
    record { room = fewer_room 1 m c.loop.self (omega (arith, low)) (c.loop.invariant.room m (omega (arith, low))) }

pub loop-preserved : goal.loop-preserved
loop-preserved c =
    let low = c.loop-test.true in
    let n = c.loop.counter in
    record {
      notes = λ ks I. subst (λ l. IsNoted l c.note.new.self) (append_assoc ks (blanks n) (None ∷ []) ∙ ap (λ l. ks ++ l) (blanks_more n))
          (noted_more (ks ++ blanks n) None c.loop.self c.note.new.self (c.loop.invariant.notes ks I) c.note.ensures.notes);
      within = omega (arith, low);
      room = λ m e. room_left m None c.loop.self c.note.new.self c.note.ensures.notes (c.loop.invariant.room (suc m) (omega (arith, e)));
    }

pub returns : goal.returns
returns c =
    let past = c.loop-test.false in
    let within = c.loop.invariant.within in
    let same : c.loop.counter ≡ c.args.count = omega (arith, past, within) in
    record { notes = λ ks I. subst (λ n. IsNoted (ks ++ blanks n) c.loop.self) same (c.loop.invariant.notes ks I) }
