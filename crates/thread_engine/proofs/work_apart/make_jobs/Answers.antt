use Rattle.std.proofs.Common.{rules, ◌≡◌, ◌/◌, [], ◌∷◌, ◌++◌, map, length, Some, sym, ◌∙◌, ap, subst, append_assoc, append-nil, arith}
use Rattle.std.specs.Prelude.{vec_len}
use Rattle.std.specs.List.{slice_get, AllByRecursion}
use Rattle.std.proofs.lemmas.List.{nil_from_length}
use Rattle.atomic_board.specs.declared.token.SeatToken.{SeatToken}
use Rattle.atomic_board.specs.declared.token.CoreSeat.{CoreSeat}
use Rattle.engine_laws.proofs.Clients.{all_append}
use Rattle.thread_engine.specs.declared.core_job.CoreJob.{CoreJob}
use Rattle.thread_engine.proofs.Places.{get_there}
use Rattle.thread_engine.proofs.JobsMade.{more_taken, more_made, more_alike, moved_on, less_left, none_left, next_item, below_all}
use Rattle.thread_engine.proofs.work_apart.make_jobs.Goals as goal

pub loop-piece-init : goal.loop-piece-init
loop-piece-init g c =
    let none = c.requires.room.0 in record {
      split = sym c.into_iter-piece-iterator.ensures.into_iter_gives.0;
      pieces = ap (map (λ j. j.piece)) none;
      workers = sym c.from_vec-workers.ensures.items ∙ ap (λ js. map (λ j. j.worker) js ++ c.from_vec-workers.result.items) (sym none);
      fresh = subst (AllByRecursion (λ (j : CoreJob CoreSeat g.row.P.Denot). j.queue.items ≡ [])) (sym none) tt;
      done = [];
      tokens = sym c.from_vec-tokens.ensures.items;
      seats = ap (map (λ j. j.seat.own)) none;
      tokens_left = ap length c.from_vec-tokens.ensures.items ∙ c.requires.crew.tokens ∙ ap length (sym c.into_iter-piece-iterator.ensures.into_iter_gives.0);
      workers_left = ap length c.from_vec-workers.ensures.items ∙ c.requires.crew.workers ∙ ap length (sym c.into_iter-piece-iterator.ensures.into_iter_gives.0);
      room = c.requires.room.1;
    }

pub unreachable-requires : goal.unreachable-requires
unreachable-requires g c = none_left c.loop-piece.tokens.items c.loop-piece.piece-iterator.rest.items c.next.new.self.rest.items c.in-Some.piece c.loop-piece.invariant.tokens_left c.in-Some.ensures.steps.0 (let z = c.in_default.ensures.cases in search rules)

pub unreachable-requires-in_default-pop_front : goal.unreachable-requires-in_default-pop_front
unreachable-requires-in_default-pop_front g c = none_left c.loop-piece.workers.items c.loop-piece.piece-iterator.rest.items c.next.new.self.rest.items c.in-Some.piece c.loop-piece.invariant.workers_left c.in-Some.ensures.steps.0 (let z = c.in_default-pop_front.ensures.cases in search rules)

pub attend-seat-requires : goal.attend-seat-requires
attend-seat-requires g c =
    let I = c.loop-piece.invariant in
    let js = c.loop-piece.jobs.items in
    let b = c.index.result.now in
    let at = c.len-core.result / c.args.group in
    let low = below_all (λ j. j.piece) c.args.pieces.items c.loop-piece.yielded c.loop-piece.piece-iterator.rest.items c.next.new.self.rest.items c.in-Some.piece js I.split c.in-Some.ensures.steps.0 I.pieces in
    let core = c.len-core.ensures in
    let len : vec_len c.loop-piece.jobs ≡ length js = search rules in
    let same : c.len-core.result ≡ length js = omega (arith, core, len) in
    let within = c.requires.crew.within c.len-core.result (omega (arith, low, same)) in
    let table = get_there c.args.tables.now.items at b within ∙ ap Some (sym c.index.ensures) in
    let token = ap (slice_get c.args.crew.tokens.items) same ∙ next_item (λ j. j.seat.own) (λ (t : SeatToken). t.own) c.args.crew.tokens.items I.done c.loop-piece.tokens.items c.pop_front.new.self.items js c.in-Some-pop_front.token I.tokens c.in-Some-pop_front.ensures.items I.seats in
    c.requires.crew.seats c.len-core.result c.in-Some-pop_front.token b token table

pub index-requires : goal.index-requires
index-requires g c =
    let I = c.loop-piece.invariant in
    let js = c.loop-piece.jobs.items in
    let low = below_all (λ j. j.piece) c.args.pieces.items c.loop-piece.yielded c.loop-piece.piece-iterator.rest.items c.next.new.self.rest.items c.in-Some.piece js I.split c.in-Some.ensures.steps.0 I.pieces in
    let core = c.len-core.ensures in
    let len : vec_len c.loop-piece.jobs ≡ length js = search rules in
    let within = c.requires.crew.within c.len-core.result (omega (arith, low, core, len)) in
    let long : vec_len c.args.tables.now ≡ length c.args.tables.now.items = search rules in
    omega (arith, within, long)

pub push_reserved-requires : goal.push_reserved-requires
push_reserved-requires g c =
    let I = c.loop-piece.invariant in
    let low = below_all (λ j. j.piece) c.args.pieces.items c.loop-piece.yielded c.loop-piece.piece-iterator.rest.items c.next.new.self.rest.items c.in-Some.piece c.loop-piece.jobs.items I.split c.in-Some.ensures.steps.0 I.pieces in
    let len : vec_len c.loop-piece.jobs ≡ length c.loop-piece.jobs.items = search rules in
    let room = I.room in
    omega (arith, low, len, room)

pub loop-piece-preserved : goal.loop-piece-preserved
loop-piece-preserved g c =
    let I = c.loop-piece.invariant in
    let old = c.loop-piece.jobs.items in
    let pushed = c.push_reserved.ensures.items in record {
      split = I.split ∙ ap (λ xs. c.loop-piece.yielded ++ xs) c.in-Some.ensures.steps.0 ∙ sym (append_assoc c.loop-piece.yielded (c.in-Some.piece ∷ []) c.next.new.self.rest.items);
      pieces = ap (map (λ j. j.piece)) pushed ∙ more_made (λ j. j.piece) old _ c.loop-piece.yielded I.pieces;
      workers = more_taken (λ j. j.worker) c.args.crew.workers.items old _ c.loop-piece.workers.items c.pop_front-in-loop-piece.new.self.items I.workers c.in-Some-pop_front-2.ensures.items ∙ ap (λ js. map (λ j. j.worker) js ++ c.pop_front-in-loop-piece.new.self.items) (sym pushed);
      fresh = subst (AllByRecursion (λ (j : CoreJob CoreSeat g.row.P.Denot). j.queue.items ≡ [])) (sym pushed) (all_append (λ (j : CoreJob CoreSeat g.row.P.Denot). j.queue.items ≡ []) old _ I.fresh (c.new.ensures.items, tt));
      done = I.done ++ c.in-Some-pop_front.token ∷ [];
      tokens = moved_on c.args.crew.tokens.items I.done c.loop-piece.tokens.items c.pop_front.new.self.items c.in-Some-pop_front.token I.tokens c.in-Some-pop_front.ensures.items;
      seats = ap (map (λ j. j.seat.own)) pushed ∙ more_alike (λ j. j.seat.own) (λ (t : SeatToken). t.own) old I.done _ c.in-Some-pop_front.token I.seats c.attend-seat.ensures;
      tokens_left = less_left c.loop-piece.tokens.items c.pop_front.new.self.items c.in-Some-pop_front.token c.loop-piece.piece-iterator.rest.items c.next.new.self.rest.items c.in-Some.piece I.tokens_left c.in-Some-pop_front.ensures.items c.in-Some.ensures.steps.0;
      workers_left = less_left c.loop-piece.workers.items c.pop_front-in-loop-piece.new.self.items c.in-Some-pop_front-2.worker c.loop-piece.piece-iterator.rest.items c.next.new.self.rest.items c.in-Some.piece I.workers_left c.in-Some-pop_front-2.ensures.items c.in-Some.ensures.steps.0;
      room = (let cap = c.push_reserved.ensures.capacity in let room = I.room in omega (arith, cap, room));
    }

pub returns : goal.returns
returns g c =
    let I = c.loop-piece.invariant in
    let js = c.loop-piece.jobs.items in
    let over = nil_from_length c.loop-piece.piece-iterator.rest.items (sym c.loop-piece.piece-iterator.rest.ok.0 ∙ c.in-None.ensures.steps.0) in
    let gone = ap length over in
    let no_tokens = nil_from_length c.loop-piece.tokens.items (I.tokens_left ∙ gone) in
    let no_workers = nil_from_length c.loop-piece.workers.items (I.workers_left ∙ gone) in record {
      pieces_are = I.pieces ∙ sym (append-nil c.loop-piece.yielded) ∙ ap (λ l. c.loop-piece.yielded ++ l) (sym over) ∙ sym I.split;
      workers = sym (I.workers ∙ ap (λ l. map (λ j. j.worker) js ++ l) no_workers ∙ append-nil (map (λ j. j.worker) js));
      fresh = I.fresh;
      seats = I.seats ∙ ap (map (λ (t : SeatToken). t.own)) (sym (I.tokens ∙ ap (λ l. I.done ++ l) no_tokens ∙ append-nil I.done));
    }
