use Rattle.std.proofs.Common.{◌≡◌, ◌≤◌, ℕ, List, length, refl, sym, ◌∙◌, ap, subst}
use Rattle.std.specs.List.{flat_map}
use Rattle.pm_region.specs.Words.{lines_for}
use Rattle.log_entry.specs.Spelling.{words_of}
use Rattle.core_log.specs.Log.{HoldsEntries}
use Rattle.pm_region.proofs.Clients.{at_exit}
use Rattle.log_entry.specs.Batches.{IsBatch}
use Rattle.core_log.specs.Chunk.{padded}
use Rattle.core_log.specs.Log.{LogState, room_of}
use Rattle.core_log.specs.Entries.{AppendedBatch}
use Rattle.core_log.proofs.Clients.{holds_some}
use Rattle.group_laws.specs.MemberViews.{View}
use Rattle.group_board.specs.Seats.{SeatAt}
use Rattle.group_board.specs.Views.{after_commit}
use Rattle.licence.specs.Licence.{Licensed}
use Rattle.licence.specs.ViewChanges.{Commits}
use Rattle.licence.specs.Writes.{IsSpelled}
use Rattle.licence.proofs.Clients.{batch_licensed, batch_committed, append_outside}
use Rattle.batch_leader.specs.declared.states.Batch.{Batch}
use Rattle.batch_leader.specs.declared.taken.Taken.{Taken}
use Rattle.batch_leader.specs.TakenChanges.{entries_taken}
use Rattle.batch_leader.specs.Rounds.{words_taken}
use Rattle.batch_leader.specs.Leading.{IsBatchOf, IsCertain, IsLost}
use Rattle.batch_leader.proofs.TakenLaws.{batch_of, all_flying, all_committed}
use Rattle.batch_leader.proofs.states.Batch.append.Goals as goal

-- the words of a batch spell what is in flight
spells : (seat : SeatAt) (v : View) (b : Batch) (log : LogState) → IsBatchOf seat v b → lines_for (words_taken b.changes.taken.items) ≤ room_of log → IsSpelled log v.flying b.changes.words.words
spells seat v b log is room = record {
  words = b.changes.written ∙ ap (λ es. flat_map words_of es) (sym is.flying);
  batch = subst IsBatch (sym is.flying) (batch_of seat.place b.changes.taken.items is.out.each b.some);
  room = subst (λ (ws : List ℕ). lines_for (length ws) ≤ room_of log) (sym b.changes.written) room;
}

commits : (v u : View) → u ≡ after_commit v → Commits v u
commits v u is = subst (λ (x : View). Commits v x) (sym is) (record { kept = refl; flying = refl; doomed = λ k n e. e; blocks = λ q b e. e })

holds : (seat : SeatAt) (v : View) (b : Batch) → IsBatchOf seat v b → HoldsEntries b.changes.words.words
holds seat v b is = record { entries = entries_taken b.changes.taken.items; words = b.changes.written; batch = batch_of seat.place b.changes.taken.items is.out.each b.some }

pub append_batch-requires-clause-some : goal.append_batch-requires-clause-some
append_batch-requires-clause-some g c = holds_some c.args.self.changes.words.words (holds (g.B.Board.seat c.args.board.now) (g.B.Board.view c.args.board.now) c.args.self c.requires.batch)

pub append_batch-requires-clause-entries : goal.append_batch-requires-clause-entries
append_batch-requires-clause-entries g c telling = holds (g.B.Board.seat c.args.board.now) (g.B.Board.view c.args.board.now) c.args.self c.requires.batch

pub append_batch-requires-clause-room : goal.append_batch-requires-clause-room
append_batch-requires-clause-room g c = (spells (g.B.Board.seat c.args.board.now) (g.B.Board.view c.args.board.now) c.args.self c.args.log.now c.requires.batch c.requires.room).room

pub returns-in-Ok-clause-moments : goal.returns-in-Ok-clause-moments
returns-in-Ok-clause-moments g c =
    let seat = g.B.Board.seat c.args.board.now in
    let v = g.B.Board.view c.args.board.now in
    batch_licensed (g.R.Region.state c.args.region.now) (g.R.Region.state c.append_batch.new.region) seat.place seat.number v c.args.log.now c.requires.begins c.args.self.changes.words.words
    (spells seat v c.args.self c.args.log.now c.requires.batch c.requires.room) (record { moments = c.append_batch.ensures.moments; outside = c.append_batch.ensures.outside })

pub returns-in-Err-clause-moments : goal.returns-in-Err-clause-moments
returns-in-Err-clause-moments g c =
    let seat = g.B.Board.seat c.args.board.now in
    let v = g.B.Board.view c.args.board.now in
    batch_licensed (g.R.Region.state c.args.region.now) (g.R.Region.state c.append_batch.new.region) seat.place seat.number v c.args.log.now c.requires.begins c.args.self.changes.words.words
    (spells seat v c.args.self c.args.log.now c.requires.batch c.requires.room) (record { moments = c.append_batch.ensures.moments; outside = c.append_batch.ensures.outside })

pub returns-in-Ok-clause-outside : goal.returns-in-Ok-clause-outside
returns-in-Ok-clause-outside g c =
    let seat = g.B.Board.seat c.args.board.now in
    let v = g.B.Board.view c.args.board.now in
    append_outside (g.R.Region.state c.args.region.now) (g.R.Region.state c.append_batch.new.region) seat.place seat.number v c.args.log.now c.requires.begins c.args.self.changes.words.words v.flying
    (spells seat v c.args.self c.args.log.now c.requires.batch c.requires.room) (record { moments = c.append_batch.ensures.moments; outside = c.append_batch.ensures.outside })

pub returns-in-Err-clause-outside : goal.returns-in-Err-clause-outside
returns-in-Err-clause-outside g c =
    let seat = g.B.Board.seat c.args.board.now in
    let v = g.B.Board.view c.args.board.now in
    append_outside (g.R.Region.state c.args.region.now) (g.R.Region.state c.append_batch.new.region) seat.place seat.number v c.args.log.now c.requires.begins c.args.self.changes.words.words v.flying
    (spells seat v c.args.self c.args.log.now c.requires.batch c.requires.room) (record { moments = c.append_batch.ensures.moments; outside = c.append_batch.ensures.outside })

pub returns-in-Ok-clause-exit : goal.returns-in-Ok-clause-exit
returns-in-Ok-clause-exit g c telling =
    let seat = g.B.Board.seat c.args.board.now in
    let v = g.B.Board.view c.args.board.now in
    batch_committed (g.R.Region.state c.args.region.now) (g.R.Region.state c.append_batch.new.region) seat.place seat.number v c.args.log.now c.requires.begins c.args.self.changes.words.words
    (spells seat v c.args.self c.args.log.now c.requires.batch c.requires.room) (record { moments = c.append_batch.ensures.moments; outside = c.append_batch.ensures.outside })
    c.append_batch.new.self c.in-Ok.ensures.ok (g.B.Board.view c.commit.new.self) (commits v (g.B.Board.view c.commit.new.self) c.commit.ensures.view) telling

pub returns-in-Err-clause-exit : goal.returns-in-Err-clause-exit
returns-in-Err-clause-exit g c telling =
    let seat = g.B.Board.seat c.args.board.now in
    let v = g.B.Board.view c.args.board.now in
    let s = g.R.Region.state c.args.region.now in
    let t = g.R.Region.state c.append_batch.new.region in
    at_exit s t (Licensed seat.place seat.number v)
    (batch_licensed s t seat.place seat.number v c.args.log.now c.requires.begins c.args.self.changes.words.words
    (spells seat v c.args.self c.args.log.now c.requires.batch c.requires.room) (record { moments = c.append_batch.ensures.moments; outside = c.append_batch.ensures.outside })) telling

pub returns-in-Ok-clause-wrote : goal.returns-in-Ok-clause-wrote
returns-in-Ok-clause-wrote g c =
    subst (λ (ws : List ℕ). AppendedBatch (g.R.Region.state c.args.region.now) (g.R.Region.state c.append_batch.new.region) c.args.log.now c.append_batch.new.self (padded ws)) c.args.self.changes.written c.in-Ok.ensures.ok

-- of the same changes
certain_as : (seat : SeatAt) (v : View) (ts rs : List Taken) → rs ≡ ts → IsCertain seat v ts → IsCertain seat v rs
certain_as seat v ts rs same is = subst (IsCertain seat v) (sym same) is

lost_as : (seat : SeatAt) (v : View) (ts rs : List Taken) → rs ≡ ts → IsLost seat v ts → IsLost seat v rs
lost_as seat v ts rs same is = subst (IsLost seat v) (sym same) is

pub returns-in-Ok-clause-gives : goal.returns-in-Ok-clause-gives
returns-in-Ok-clause-gives g c =
    let b = c.requires.batch in
    let seat = g.B.Board.seat c.args.board.now in
    let ts = c.args.self.changes.taken.items in (
      c.certain.ensures,
      certain_as seat (g.B.Board.view c.commit.new.self) ts c.certain.result.left.taken.items c.certain.ensures
          (subst (λ (u : View). IsCertain seat u ts) (sym c.commit.ensures.view)
          (record { member = b.member; out = record { each = b.out.each; taken = b.out.taken; apart = b.out.apart }; kept = all_committed ts (g.B.Board.view c.args.board.now) b.flying })),
    )

pub returns-in-Err-clause-gives : goal.returns-in-Err-clause-gives
returns-in-Err-clause-gives g c =
    let b = c.requires.batch in
    let seat = g.B.Board.seat c.args.board.now in
    let v = g.B.Board.view c.args.board.now in
    let ts = c.args.self.changes.taken.items in
    (c.lost.ensures, lost_as seat v ts c.lost.result.left.taken.items c.lost.ensures (record { member = b.member; out = b.out; flying = all_flying ts v.flying b.flying }))
