use Rattle.std.proofs.Common.{◌≡◌, ◌≢◌, ℕ, ◌+◌, ◌≤◌, true, List, length, Option, Some, None, sym, ◌∙◌, ap, subst, arith}
use Rattle.std.specs.Prelude.{is_some, Result, Ok, Err, IfOk}
use Rattle.std.specs.List.{flat_map}
use Rattle.pm_region.specs.State.{State, During, IsTelling, cell_now}
use Rattle.pm_region.specs.Words.{KeepsOutside}
use Rattle.pm_region.proofs.Clients.{then_on, at_exit, kept_on, wider, told_at_entry}
use Rattle.chunk_map.specs.Layouts.{chunk_words}
use Rattle.chunk_map.proofs.Clients.{numbers_of, chunk_words_whole}
use Rattle.log_entry.specs.declared.entry.Entry.{Entry}
use Rattle.log_entry.specs.Spelling.{words_of}
use Rattle.core_log.specs.Chunk.{FreeOrEmpty}
use Rattle.core_log.specs.Opening.{EachInChunk}
use Rattle.core_log.specs.Log.{LogState, StandsIn, tail_of, first_of, open_first}
use Rattle.core_log.specs.Walking.{entries_in}
use Rattle.core_log.proofs.Clients.{tail_other}
use Rattle.log_standing.specs.declared.types.Settled.{Settled}
use Rattle.log_standing.specs.NameCounts.{StandingState}
use Rattle.log_cleaner.specs.CopyBatch.{copied_in}
use Rattle.log_cleaner.specs.Additions.{OpensNew, with_open}
use Rattle.log_cleaner.specs.Copying.{IsUpToDate, left_to_copy}
use Rattle.log_cleaner.specs.CopyBatch.{Bounds, IsCopyBatch, IsLess, next_batch, entries_of}
use Rattle.log_cleaner.proofs.Opened.{open_up, open_else}
use Rattle.licence.specs.Licence.{Licensed, IsLogOf, part_at, part_end}
use Rattle.licence.specs.Writes.{Opens}
use Rattle.licence.proofs.Clients.{open_licensed, open_outside}
use Rattle.batch_leader.specs.Persisting.{HasRoom, opened_for, WritesOpenChunk}
use Rattle.core_worker.specs.CopyTurns.{CopiesInRegion}
use Rattle.core_worker.proofs.copy_turn.copy_into.Goals as goal

-- the opening of the chunk, as the licence asks for it
opening : (s mid : State) (log : LogState) (n : ℕ) (o : Option ℕ) (j : ℕ) → o ≡ Some j → HasRoom s log n o
    → During s mid (EachInChunk log j (FreeOrEmpty (first_of log j))) → During s mid (KeepsOutside (cell_now s) (first_of log j) (first_of log j + 8)) → Opens s mid log j
opening s mid log n o j is room moments outside =
    let r : HasRoom s log n (Some j) = subst (HasRoom s log n) is room in
    record { part = r.1; free = r.2; moments = moments; outside = outside }

-- and as the names that stand ask for it
opens_new : (s mid : State) (log : LogState) (st : StandingState) (n : ℕ) (o : Option ℕ) (j : ℕ) → o ≡ Some j → StandsIn s log → HasRoom s log n o → ((i : ℕ) → o ≡ Some i → tail_of log.chunks i ≡ None)
    → During s mid (KeepsOutside (cell_now s) (first_of log j) (first_of log j + 8)) → ((h : Settled) → st.settled ≡ Some h → is_some (tail_of log.chunks h.chunk) ≡ true) → OpensNew s mid log st j
opens_new s mid log st n o j is stands room new outside read =
    let r : HasRoom s log n (Some j) = subst (HasRoom s log n) is room in
    record { own = stands.own; within = r.1; new = new j is; outside = outside; settled = read }

eight_words : (s : State) (log : LogState) → StandsIn s log → 8 ≤ chunk_words log.layout
eight_words s log stands = let big = (chunk_words_whole log.layout (numbers_of log.layout stands.own.layout).size).2 in omega (arith, big)

-- a chunk of the log is another one than the one that is opened, and stays
has_still : (log log' : LogState) (j i : ℕ) → log' ≡ with_open log j → tail_of log.chunks j ≡ None → is_some (tail_of log.chunks i) ≡ true → is_some (tail_of log'.chunks i) ≡ true
has_still log log' j i is none has =
    let ne : i ≢ j = λ same. (let both : true ≡ _ = sym has ∙ ap (λ (x : ℕ). is_some (tail_of log.chunks x)) same ∙ ap is_some none in cc both) in
    ap (λ (l : LogState). is_some (tail_of l.chunks i)) is ∙ ap is_some (tail_other log.chunks j 0 i ne) ∙ has

told_mid : (s mid : State) (a b : ℕ) → During s mid (KeepsOutside (cell_now s) a b) → IsTelling mid → IsTelling s
told_mid s mid a b outside = told_at_entry s mid (KeepsOutside (cell_now s) a b) outside

if_ok_on : {A E : Type 0} (r : Result A E) (P Q : A → Type 0) → ((n : A) → P n → Q n) → IfOk r P → IfOk r Q
if_ok_on (Ok n) P Q on is = on n is
if_ok_on (Err e) P Q on is = tt

-- What a batch says of the entries, by the chunk before it was opened.
batch_moved : (s mid : State) (log log' : LogState) (st : StandingState) (j n : ℕ) (ws : List ℕ) → entries_in mid log' j ≡ entries_in s log j → IsCopyBatch mid log' st j n ws → IsCopyBatch s log st j n ws
batch_moved s mid log log' st j n ws same B = record {
  count = B.count ∙ ap (λ (es : List (ℕ × Entry)). length (next_batch st es)) same;
  words = B.words ∙ ap (λ (es : List (ℕ × Entry)). flat_map words_of (entries_of (next_batch st es))) same;
  none = λ z. ap (left_to_copy st) (sym same) ∙ B.none z;
}

pub copy_on-requires-in-Ok-clause-begins : goal.copy_on-requires-in-Ok-clause-begins
copy_on-requires-in-Ok-clause-begins g c =
    let seat = g.B.Board.seat c.args.board.now in
    let v = g.B.Board.view c.args.board.now in
    let s = g.R.Region.state c.args.region.now in
    let mid = g.R.Region.state c.open_chunk.new.region in
    let b = c.requires.begins in
    let after : IsLogOf seat.place seat.number c.open_chunk.new.self = subst (IsLogOf seat.place seat.number) (sym c.in-Ok.ensures.ok.log_is) (record { layout = b.own.layout; part = b.own.part }) in
    record {
      own = after;
      stands = c.in-Ok.ensures.ok.stands;
      licensed = λ telling. at_exit s mid (Licensed seat.place seat.number v)
          (open_licensed s mid seat.place seat.number v c.args.log.now b c.in-Some.chunk
          (opening s mid c.args.log.now c.args.victim.now.words c.args.fresh c.in-Some.chunk c.in-Some.is c.requires.room c.open_chunk.ensures.moments c.open_chunk.ensures.outside)) telling;
    }

pub copy_on-requires-in-Ok-clause-has : goal.copy_on-requires-in-Ok-clause-has
copy_on-requires-in-Ok-clause-has g c = has_still c.args.log.now c.open_chunk.new.self c.in-Some.chunk c.args.victim.now.chunk c.in-Ok.ensures.ok.log_is (c.requires.new c.in-Some.chunk c.in-Some.is) c.requires.has

pub copy_on-requires-in-Ok-clause-closed : goal.copy_on-requires-in-Ok-clause-closed
copy_on-requires-in-Ok-clause-closed g c same =
    let opened : Some c.in-Some.chunk ≡ Some c.args.victim.now.chunk = sym (ap (λ (l : LogState). l.opened) c.in-Ok.ensures.ok.log_is) ∙ same in
    let here : c.in-Some.chunk ≡ c.args.victim.now.chunk = cc opened in
    (let both : true ≡ _ = sym c.requires.has ∙ ap (λ (x : ℕ). is_some (tail_of c.args.log.now.chunks x)) (sym here) ∙ ap is_some (c.requires.new c.in-Some.chunk c.in-Some.is) in cc both)

pub copy_on-requires-in-Ok-clause-standing : goal.copy_on-requires-in-Ok-clause-standing
copy_on-requires-in-Ok-clause-standing g c telling =
    let s = g.R.Region.state c.args.region.now in
    let mid = g.R.Region.state c.open_chunk.new.region in
    let log = c.args.log.now in
    let st = c.args.standing.now in
    let was = told_mid s mid (first_of log c.in-Some.chunk) (first_of log c.in-Some.chunk + 8) c.open_chunk.ensures.outside telling in
    let new = opens_new s mid log st c.args.victim.now.words c.args.fresh c.in-Some.chunk c.in-Some.is c.requires.begins.stands c.requires.room c.requires.new c.open_chunk.ensures.outside (c.requires.read was) in
    subst (λ (l : LogState). IsUpToDate mid l st) (sym c.in-Ok.ensures.ok.log_is) (open_up s mid log st c.in-Some.chunk new telling (c.requires.standing was))

pub copy_on-requires-in-Ok-clause-bounds : goal.copy_on-requires-in-Ok-clause-bounds
copy_on-requires-in-Ok-clause-bounds g c telling =
    let s = g.R.Region.state c.args.region.now in
    let mid = g.R.Region.state c.open_chunk.new.region in
    let log = c.args.log.now in
    let st = c.args.standing.now in
    let j = c.args.victim.now.chunk in
    let was = told_mid s mid (first_of log c.in-Some.chunk) (first_of log c.in-Some.chunk + 8) c.open_chunk.ensures.outside telling in
    let new = opens_new s mid log st c.args.victim.now.words c.args.fresh c.in-Some.chunk c.in-Some.is c.requires.begins.stands c.requires.room c.requires.new c.open_chunk.ensures.outside (c.requires.read was) in
    subst (λ (l : LogState). Bounds c.args.victim.now st (entries_in mid l j)) (sym c.in-Ok.ensures.ok.log_is)
    (subst (λ (es : List (ℕ × Entry)). Bounds c.args.victim.now st es) (sym (open_else s mid log st c.in-Some.chunk new telling j c.requires.has)) (c.requires.bounds was))

pub returns-in-Ok-clause-moments : goal.returns-in-Ok-clause-moments
returns-in-Ok-clause-moments g c =
    let seat = g.B.Board.seat c.args.board.now in
    let v = g.B.Board.view c.args.board.now in
    let s = g.R.Region.state c.args.region.now in
    let mid = g.R.Region.state c.open_chunk.new.region in
    then_on s mid (g.R.Region.state c.copy_on-in-Ok.new.region) (Licensed seat.place seat.number v)
    (open_licensed s mid seat.place seat.number v c.args.log.now c.requires.begins c.in-Some.chunk
    (opening s mid c.args.log.now c.args.victim.now.words c.args.fresh c.in-Some.chunk c.in-Some.is c.requires.room c.open_chunk.ensures.moments c.open_chunk.ensures.outside))
    c.copy_on-in-Ok.ensures.moments

pub returns-in-Ok-clause-outside : goal.returns-in-Ok-clause-outside
returns-in-Ok-clause-outside g c =
    let seat = g.B.Board.seat c.args.board.now in
    let v = g.B.Board.view c.args.board.now in
    let s = g.R.Region.state c.args.region.now in
    let mid = g.R.Region.state c.open_chunk.new.region in
    kept_on s mid (g.R.Region.state c.copy_on-in-Ok.new.region) (part_at seat.place seat.number) (part_end seat.place seat.number)
    (open_outside s mid seat.place seat.number v c.args.log.now c.requires.begins c.in-Some.chunk
    (opening s mid c.args.log.now c.args.victim.now.words c.args.fresh c.in-Some.chunk c.in-Some.is c.requires.room c.open_chunk.ensures.moments c.open_chunk.ensures.outside))
    c.copy_on-in-Ok.ensures.outside

pub returns-in-Ok-clause-chunk : goal.returns-in-Ok-clause-chunk
returns-in-Ok-clause-chunk g c =
    let log = c.args.log.now in
    let s = g.R.Region.state c.args.region.now in
    let mid = g.R.Region.state c.open_chunk.new.region in
    let t = g.R.Region.state c.copy_on-in-Ok.new.region in
    let j = c.in-Some.chunk in
    let room = eight_words s log c.requires.begins.stands in
    subst (λ (o : Option ℕ). WritesOpenChunk s t (opened_for log o)) (sym c.in-Some.is)
    (kept_on s mid t (first_of log j) (first_of log j + chunk_words log.layout)
    (wider s mid (first_of log j) (first_of log j + 8) (first_of log j) (first_of log j + chunk_words log.layout) (omega arith) (omega (arith, room)) c.open_chunk.ensures.outside)
    (subst (λ (l : LogState). WritesOpenChunk mid t l) c.in-Ok.ensures.ok.log_is c.copy_on-in-Ok.ensures.chunk))

pub returns-in-Ok-clause-tells : goal.returns-in-Ok-clause-tells
returns-in-Ok-clause-tells g c =
    let s = g.R.Region.state c.args.region.now in
    let mid = g.R.Region.state c.open_chunk.new.region in
    let t = g.R.Region.state c.copy_on-in-Ok.new.region in
    let log = c.args.log.now in
    let log' = c.copy_on-in-Ok.new.log in
    let st = c.args.standing.now in
    let v = c.args.victim.now in
    let opened = c.open_chunk.new.self in
    let told : IsTelling t → IsTelling mid = told_mid mid t (open_first opened) (open_first opened + chunk_words opened.layout) c.copy_on-in-Ok.ensures.chunk in
    let same : IsTelling mid → entries_in mid opened v.chunk ≡ entries_in s log v.chunk = λ telling.
    (let was = told_mid s mid (first_of log c.in-Some.chunk) (first_of log c.in-Some.chunk + 8) c.open_chunk.ensures.outside telling in
    let new = opens_new s mid log st v.words c.args.fresh c.in-Some.chunk c.in-Some.is c.requires.begins.stands c.requires.room c.requires.new c.open_chunk.ensures.outside (c.requires.read was) in
    ap (λ (l : LogState). entries_in mid l v.chunk) c.in-Ok.ensures.ok.log_is ∙ open_else s mid log st c.in-Some.chunk new telling v.chunk c.requires.has) in
    if_ok_on c.copy_on-in-Ok.result
    (λ n. CopiesInRegion mid t v opened log' st c.copy_on-in-Ok.new.standing (copied_in n) c.copy_on-in-Ok.new.buffer.words.words)
    (λ n. CopiesInRegion s t v log log' st c.copy_on-in-Ok.new.standing (copied_in n) c.copy_on-in-Ok.new.buffer.words.words)
    (λ n T. record {
      stands = T.stands;
      counted = T.counted;
      chunk = λ telling. T.chunk telling ∙ same (told telling);
      batch = λ telling. batch_moved s mid log opened st v.chunk (copied_in n) c.copy_on-in-Ok.new.buffer.words.words (same (told telling)) (T.batch telling);
      less = λ telling. subst (IsLess st c.copy_on-in-Ok.new.standing) (same (told telling)) (T.less telling);
    })
    c.copy_on-in-Ok.ensures.tells

pub returns-in-Err-clause-moments : goal.returns-in-Err-clause-moments
returns-in-Err-clause-moments g c =
    let seat = g.B.Board.seat c.args.board.now in
    let v = g.B.Board.view c.args.board.now in
    let s = g.R.Region.state c.args.region.now in
    let mid = g.R.Region.state c.open_chunk.new.region in
    open_licensed s mid seat.place seat.number v c.args.log.now c.requires.begins c.in-Some.chunk
    (opening s mid c.args.log.now c.args.victim.now.words c.args.fresh c.in-Some.chunk c.in-Some.is c.requires.room c.open_chunk.ensures.moments c.open_chunk.ensures.outside)

pub returns-in-Err-clause-exit : goal.returns-in-Err-clause-exit
returns-in-Err-clause-exit g c telling =
    let seat = g.B.Board.seat c.args.board.now in
    let v = g.B.Board.view c.args.board.now in
    let s = g.R.Region.state c.args.region.now in
    let mid = g.R.Region.state c.open_chunk.new.region in
    at_exit s mid (Licensed seat.place seat.number v) (returns-in-Err-clause-moments g c) telling

pub returns-in-Err-clause-outside : goal.returns-in-Err-clause-outside
returns-in-Err-clause-outside g c =
    let seat = g.B.Board.seat c.args.board.now in
    let v = g.B.Board.view c.args.board.now in
    let s = g.R.Region.state c.args.region.now in
    let mid = g.R.Region.state c.open_chunk.new.region in
    open_outside s mid seat.place seat.number v c.args.log.now c.requires.begins c.in-Some.chunk
    (opening s mid c.args.log.now c.args.victim.now.words c.args.fresh c.in-Some.chunk c.in-Some.is c.requires.room c.open_chunk.ensures.moments c.open_chunk.ensures.outside)

pub returns-in-Err-clause-chunk : goal.returns-in-Err-clause-chunk
returns-in-Err-clause-chunk g c =
    let log = c.args.log.now in
    let s = g.R.Region.state c.args.region.now in
    let mid = g.R.Region.state c.open_chunk.new.region in
    let j = c.in-Some.chunk in
    let room = eight_words s log c.requires.begins.stands in
    subst (λ (o : Option ℕ). WritesOpenChunk s mid (opened_for log o)) (sym c.in-Some.is)
    (wider s mid (first_of log j) (first_of log j + 8) (first_of log j) (first_of log j + chunk_words log.layout) (omega arith) (omega (arith, room)) c.open_chunk.ensures.outside)
