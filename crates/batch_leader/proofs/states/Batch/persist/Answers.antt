use Rattle.std.proofs.Common.{◌≡◌, ℕ, ◌+◌, ◌≤◌, List, ◌++◌, Option, Some, sym, ◌∙◌, ap, subst, arith}
use Rattle.std.specs.Prelude.{unwrap_or}
use Rattle.std.proofs.lemmas.Result.{on_ok_weaker}
use Rattle.pm_region.specs.State.{State, During, cell_now}
use Rattle.pm_region.specs.Words.{KeepsOutside}
use Rattle.pm_region.proofs.Clients.{then_on, at_exit, kept_on, wider}
use Rattle.store_image.proofs.Clients.{layout_numbers}
use Rattle.chunk_map.specs.Layouts.{chunk_words}
use Rattle.core_log.specs.Chunk.{padded, words_now, FreeOrEmpty}
use Rattle.core_log.specs.Opening.{EachInChunk}
use Rattle.core_log.specs.Log.{LogState, StandsIn, open_first, open_tail, first_of}
use Rattle.core_log.specs.Entries.{AppendedBatch}
use Rattle.core_log.proofs.Clients.{tail_set}
use Rattle.licence.specs.Licence.{Licensed, IsLogOf, part_at, part_end}
use Rattle.licence.specs.Writes.{Opens}
use Rattle.licence.proofs.Clients.{open_licensed, open_outside}
use Rattle.batch_leader.specs.Leading.{IsLost}
use Rattle.batch_leader.specs.Persisting.{HasRoom, opened_for, WritesOpenChunk}
use Rattle.batch_leader.specs.Rounds.{words_taken}
use Rattle.batch_leader.specs.TakenChanges.{spelled}
use Rattle.batch_leader.proofs.TakenLaws.{all_flying}
use Rattle.batch_leader.proofs.states.Batch.persist.Goals as goal

-- a batch after a chunk was opened is a batch in that chunk
appended_fresh : (s mid t : State) (log after : LogState) (j : ℕ) (ws : List ℕ) → AppendedBatch mid t (opened_for log (Some j)) after ws → AppendedBatch s t (opened_for log (Some j)) after ws
appended_fresh s mid t log after j ws a =
    let fresh = opened_for log (Some j) in
    let none : open_tail fresh ≡ 0 = ap (λ (o : Option ℕ). unwrap_or o 0) (tail_set log.chunks j 0) in
    let same : words_now mid (open_first fresh) (open_tail fresh) ≡ words_now s (open_first fresh) (open_tail fresh) = ap (words_now mid (open_first fresh)) none ∙ ap (words_now s (open_first fresh)) (sym none) in
    record {
      stands = a.stands;
      log_is = a.log_is;
      has = λ telling image may. let h = a.has telling image may in (h.0, h.1, h.2 ∙ ap (λ xs. xs ++ ws) same);
    }

eight_words : (s : State) (log : LogState) → StandsIn s log → 8 ≤ chunk_words log.layout
eight_words s log stands = let big = (layout_numbers log.layout stands.own.layout).size in omega (arith, big)

-- the opening of the chunk, as the licence asks for it
opening : (s mid : State) (log : LogState) (n : ℕ) (o : Option ℕ) (j : ℕ) → o ≡ Some j → HasRoom s log n o
    → During s mid (EachInChunk log j (FreeOrEmpty (first_of log j))) → During s mid (KeepsOutside (cell_now s) (first_of log j) (first_of log j + 8)) → Opens s mid log j
opening s mid log n o j is room moments outside =
    let r : HasRoom s log n (Some j) = subst (HasRoom s log n) is room in
    record { part = r.1; free = r.2; moments = moments; outside = outside }

pub append-requires-in-Ok-clause-begins : goal.append-requires-in-Ok-clause-begins
append-requires-in-Ok-clause-begins g c =
    let seat = g.B.Board.seat c.args.board.now in
    let v = g.B.Board.view c.args.board.now in
    let s = g.R.Region.state c.args.region.now in
    let mid = g.R.Region.state c.open_chunk.new.region in
    let b = c.requires.begins in
    let after : IsLogOf seat.place seat.number c.open_chunk.new.self = subst (IsLogOf seat.place seat.number) (sym c.in-Ok.ensures.ok.log_is) (record { layout = b.own.layout; part = b.own.part }) in
    record {
      own = after;
      stands = c.in-Ok.ensures.ok.stands;
      licensed = λ telling. at_exit s mid (Licensed seat.place seat.number v)
          (open_licensed s mid seat.place seat.number v c.args.log.now b c.in-Some.chunk
          (opening s mid c.args.log.now (words_taken c.args.self.changes.taken.items) c.args.fresh c.in-Some.chunk c.in-Some.is c.requires.room c.open_chunk.ensures.moments c.open_chunk.ensures.outside)) telling;
    }

pub append-requires-in-Ok-clause-room : goal.append-requires-in-Ok-clause-room
append-requires-in-Ok-clause-room g c =
    let s = g.R.Region.state c.args.region.now in
    let r : HasRoom s c.args.log.now (words_taken c.args.self.changes.taken.items) (Some c.in-Some.chunk) = subst (HasRoom s c.args.log.now (words_taken c.args.self.changes.taken.items)) c.in-Some.is c.requires.room in
    rw c.in-Ok.ensures.ok.room r.0

pub returns-in-Ok-clause-moments : goal.returns-in-Ok-clause-moments
returns-in-Ok-clause-moments g c =
    let seat = g.B.Board.seat c.args.board.now in
    let v = g.B.Board.view c.args.board.now in
    let s = g.R.Region.state c.args.region.now in
    let mid = g.R.Region.state c.open_chunk.new.region in
    then_on s mid (g.R.Region.state c.append-in-Ok.new.region) (Licensed seat.place seat.number v)
    (open_licensed s mid seat.place seat.number v c.args.log.now c.requires.begins c.in-Some.chunk
    (opening s mid c.args.log.now (words_taken c.args.self.changes.taken.items) c.args.fresh c.in-Some.chunk c.in-Some.is c.requires.room c.open_chunk.ensures.moments c.open_chunk.ensures.outside))
    c.append-in-Ok.ensures.moments

pub returns-in-Ok-clause-outside : goal.returns-in-Ok-clause-outside
returns-in-Ok-clause-outside g c =
    let seat = g.B.Board.seat c.args.board.now in
    let v = g.B.Board.view c.args.board.now in
    let s = g.R.Region.state c.args.region.now in
    let mid = g.R.Region.state c.open_chunk.new.region in
    kept_on s mid (g.R.Region.state c.append-in-Ok.new.region) (part_at seat.place seat.number) (part_end seat.place seat.number)
    (open_outside s mid seat.place seat.number v c.args.log.now c.requires.begins c.in-Some.chunk
    (opening s mid c.args.log.now (words_taken c.args.self.changes.taken.items) c.args.fresh c.in-Some.chunk c.in-Some.is c.requires.room c.open_chunk.ensures.moments c.open_chunk.ensures.outside))
    c.append-in-Ok.ensures.outside

pub returns-in-Ok-clause-chunk : goal.returns-in-Ok-clause-chunk
returns-in-Ok-clause-chunk g c =
    let log = c.args.log.now in
    let s = g.R.Region.state c.args.region.now in
    let mid = g.R.Region.state c.open_chunk.new.region in
    let t = g.R.Region.state c.append-in-Ok.new.region in
    let j = c.in-Some.chunk in
    let room = eight_words s log c.requires.begins.stands in
    subst (λ (o : Option ℕ). WritesOpenChunk s t (opened_for log o)) (sym c.in-Some.is)
    (kept_on s mid t (first_of log j) (first_of log j + chunk_words log.layout)
    (wider s mid (first_of log j) (first_of log j + 8) (first_of log j) (first_of log j + chunk_words log.layout) (omega arith) (omega (arith, room)) c.open_chunk.ensures.outside)
    (subst (λ (l : LogState). WritesOpenChunk mid t l) c.in-Ok.ensures.ok.log_is c.append-in-Ok.ensures.chunk))

pub returns-in-Ok-clause-wrote : goal.returns-in-Ok-clause-wrote
returns-in-Ok-clause-wrote g c =
    let s = g.R.Region.state c.args.region.now in
    let mid = g.R.Region.state c.open_chunk.new.region in
    let t = g.R.Region.state c.append-in-Ok.new.region in
    let ws = padded (spelled c.args.self.changes.taken.items) in
    on_ok_weaker c.append-in-Ok.result
    (λ a. subst (λ (o : Option ℕ). AppendedBatch s t (opened_for c.args.log.now o) c.append-in-Ok.new.log ws) (sym c.in-Some.is)
    (appended_fresh s mid t c.args.log.now c.append-in-Ok.new.log c.in-Some.chunk ws (subst (λ (l : LogState). AppendedBatch mid t l c.append-in-Ok.new.log ws) c.in-Ok.ensures.ok.log_is a)))
    c.append-in-Ok.ensures.wrote

pub returns-in-Err-clause-moments : goal.returns-in-Err-clause-moments
returns-in-Err-clause-moments g c =
    let seat = g.B.Board.seat c.args.board.now in
    let v = g.B.Board.view c.args.board.now in
    let s = g.R.Region.state c.args.region.now in
    let mid = g.R.Region.state c.open_chunk.new.region in
    open_licensed s mid seat.place seat.number v c.args.log.now c.requires.begins c.in-Some.chunk
    (opening s mid c.args.log.now (words_taken c.args.self.changes.taken.items) c.args.fresh c.in-Some.chunk c.in-Some.is c.requires.room c.open_chunk.ensures.moments c.open_chunk.ensures.outside)

pub returns-in-Err-clause-exit : goal.returns-in-Err-clause-exit
returns-in-Err-clause-exit g c telling =
    let seat = g.B.Board.seat c.args.board.now in
    let v = g.B.Board.view c.args.board.now in
    let s = g.R.Region.state c.args.region.now in
    let mid = g.R.Region.state c.open_chunk.new.region in
    at_exit s mid (Licensed seat.place seat.number v) (returns-in-Err-clause-moments g c) telling

pub returns-in-Err-clause-outside : goal.returns-in-Err-clause-outside
returns-in-Err-clause-outside g c =
    let seat = g.B.Board.seat c.args.board.now in
    let v = g.B.Board.view c.args.board.now in
    let s = g.R.Region.state c.args.region.now in
    let mid = g.R.Region.state c.open_chunk.new.region in
    open_outside s mid seat.place seat.number v c.args.log.now c.requires.begins c.in-Some.chunk
    (opening s mid c.args.log.now (words_taken c.args.self.changes.taken.items) c.args.fresh c.in-Some.chunk c.in-Some.is c.requires.room c.open_chunk.ensures.moments c.open_chunk.ensures.outside)

pub returns-in-Err-clause-chunk : goal.returns-in-Err-clause-chunk
returns-in-Err-clause-chunk g c =
    let log = c.args.log.now in
    let s = g.R.Region.state c.args.region.now in
    let mid = g.R.Region.state c.open_chunk.new.region in
    let j = c.in-Some.chunk in
    let room = eight_words s log c.requires.begins.stands in
    subst (λ (o : Option ℕ). WritesOpenChunk s mid (opened_for log o)) (sym c.in-Some.is)
    (wider s mid (first_of log j) (first_of log j + 8) (first_of log j) (first_of log j + chunk_words log.layout) (omega arith) (omega (arith, room)) c.open_chunk.ensures.outside)

pub returns-in-Err-clause-gives : goal.returns-in-Err-clause-gives
returns-in-Err-clause-gives g c =
    let b = c.requires.batch in
    let seat = g.B.Board.seat c.args.board.now in
    let v = g.B.Board.view c.args.board.now in
    let ts = c.args.self.changes.taken.items in
    (c.lost.ensures, subst (IsLost seat v) (sym c.lost.ensures) (record { member = b.member; out = b.out; flying = all_flying ts v.flying b.flying }))
