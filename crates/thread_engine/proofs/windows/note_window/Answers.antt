use Rattle.std.proofs.Common.{◌≡◌, ◌+◌, length, take, ap, arith}
use Rattle.std.proofs.lemmas.List.{length-take-le}
use Rattle.thread_engine.proofs.NotedAnswers.{fewer_room}
use Rattle.thread_engine.proofs.windows.note_window.Goals as goal

pub returns-clause-room : goal.returns-clause-room
returns-clause-room c = λ n H.
    let window = c.deref.result.now in
    let count = c.args.count in
    let value = ap length c.deref.ensures.value in
    let places = c.requires.places in
    let long : length (take count window) ≡ count = length-take-le count window (omega (arith, value, places)) in
    c.note_all.ensures.room n (fewer_room (length (take count window) + n) (count + n) c.args.answers.now.notes (omega (arith, long)) H)
