use Rattle.std.proofs.Common.{rules, ◌≡◌, [], ◌∷◌, ◌++◌, map, length, length-append, refl, sym, ◌∙◌, ap, append_assoc, append-nil, arith}
use Rattle.std.specs.Prelude.{vec_len}
use Rattle.std.proofs.lemmas.List.{nil_from_length}
use Rattle.atomic_board.specs.declared.token.SeatToken.{SeatToken}
use Rattle.thread_engine.proofs.Places.{map_long}
use Rattle.thread_engine.proofs.JobsMade.{more_filled, more_alike}
use Rattle.thread_engine.proofs.work_apart.take_apart.Goals as goal

pub loop-job-init : goal.loop-job-init
loop-job-init g c =
    let long = ap length c.into_iter-job-iterator.ensures.into_iter_gives.0 in record {
      split = refl;
      pieces = c.requires.pieces.0;
      workers = c.requires.workers.0;
      seats = ap (map (λ (t : SeatToken). t.own)) c.requires.tokens.0;
      pieces_room = (let r = c.requires.pieces.1 in omega (arith, long, r));
      tokens_room = (let r = c.requires.tokens.1 in omega (arith, long, r));
      workers_room = (let r = c.requires.workers.1 in omega (arith, long, r));
    }

pub push_reserved-requires : goal.push_reserved-requires
push_reserved-requires g c =
    let I = c.loop-job.invariant in
    let a = ap length I.split in let b = length-append c.loop-job.yielded c.loop-job.job-iterator.rest.items in let s = ap length c.in-Some.ensures.steps.0 in
    let d = ap length I.pieces in let e = map_long (λ j. j.piece) c.loop-job.yielded in let r = I.pieces_room in
    let len : vec_len c.loop-job.room.pieces ≡ length c.loop-job.room.pieces.items = search rules in
    omega (arith, a, b, s, d, e, r, len)

pub push_reserved-requires-in-loop-job : goal.push_reserved-requires-in-loop-job
push_reserved-requires-in-loop-job g c =
    let I = c.loop-job.invariant in
    let a = ap length I.split in let b = length-append c.loop-job.yielded c.loop-job.job-iterator.rest.items in let s = ap length c.in-Some.ensures.steps.0 in
    let d = ap length I.seats in let e = map_long (λ j. j.seat.own) c.loop-job.yielded in let f = map_long (λ (t : SeatToken). t.own) c.loop-job.room.tokens.items in let r = I.tokens_room in
    let len : vec_len c.loop-job.room.tokens ≡ length c.loop-job.room.tokens.items = search rules in
    omega (arith, a, b, s, d, e, f, r, len)

pub push_reserved-requires-in-loop-job-2 : goal.push_reserved-requires-in-loop-job-2
push_reserved-requires-in-loop-job-2 g c =
    let I = c.loop-job.invariant in
    let a = ap length I.split in let b = length-append c.loop-job.yielded c.loop-job.job-iterator.rest.items in let s = ap length c.in-Some.ensures.steps.0 in
    let d = ap length I.workers in let e = map_long (λ j. j.worker) c.loop-job.yielded in let r = I.workers_room in
    let len : vec_len c.loop-job.room.workers ≡ length c.loop-job.room.workers.items = search rules in
    omega (arith, a, b, s, d, e, r, len)

pub loop-job-preserved : goal.loop-job-preserved
loop-job-preserved g c =
    let I = c.loop-job.invariant in
    let ys = c.loop-job.yielded in
    let j = c.in-Some.job in record {
      split = I.split ∙ ap (λ xs. ys ++ xs) c.in-Some.ensures.steps.0 ∙ sym (append_assoc ys (j ∷ []) c.next.new.self.rest.items);
      pieces = more_filled (λ j. j.piece) ys j c.loop-job.room.pieces.items c.push_reserved.new.self.items I.pieces c.push_reserved.ensures.items;
      workers = more_filled (λ j. j.worker) ys j c.loop-job.room.workers.items c.push_reserved-in-loop-job-2.new.self.items I.workers c.push_reserved-in-loop-job-2.ensures.items;
      seats = ap (map (λ (t : SeatToken). t.own)) c.push_reserved-in-loop-job.ensures.items ∙ more_alike (λ (t : SeatToken). t.own) (λ j. j.seat.own) c.loop-job.room.tokens.items ys c.leave.result j I.seats c.leave.ensures;
      pieces_room = (let cap = c.push_reserved.ensures.capacity in let r = I.pieces_room in omega (arith, cap, r));
      tokens_room = (let cap = c.push_reserved-in-loop-job.ensures.capacity in let r = I.tokens_room in omega (arith, cap, r));
      workers_room = (let cap = c.push_reserved-in-loop-job-2.ensures.capacity in let r = I.workers_room in omega (arith, cap, r));
    }

pub returns : goal.returns
returns g c =
    let I = c.loop-job.invariant in
    let ys = c.loop-job.yielded in
    let over = nil_from_length c.loop-job.job-iterator.rest.items (sym c.loop-job.job-iterator.rest.ok.0 ∙ c.in-None.ensures.steps.0) in
    let all = sym c.into_iter-job-iterator.ensures.into_iter_gives.0 ∙ I.split ∙ ap (λ xs. ys ++ xs) over ∙ append-nil ys in record {
      pieces = I.pieces ∙ ap (map (λ j. j.piece)) (sym all);
      workers = I.workers ∙ ap (map (λ j. j.worker)) (sym all);
      seats = I.seats ∙ ap (map (λ j. j.seat.own)) (sym all);
    }
