use Rattle.std.proofs.Common.{◌≡◌, ℕ, zero, suc, ◌+◌, ◌<◌, List, ◌++◌, Option, Some, None, refl, sym, ◌∙◌, ap, arith, append-nil}
use Rattle.std.specs.Prelude.{IfSome}
use Rattle.pm_region.specs.State.{IsTelling, cell_now}
use Rattle.pm_region.specs.Words.{KeepsOutside}
use Rattle.pm_region.proofs.Clients.{at_exit, told_at_entry}
use Rattle.chunk_map.specs.Layouts.{chunk_words}
use Rattle.log_entry.specs.declared.entry.Entry.{Entry}
use Rattle.group_laws.specs.MemberViews.{View}
use Rattle.licence.specs.Licence.{Licensed}
use Rattle.licence.specs.ViewChanges.{AllowsAll}
use Rattle.licence.proofs.Clients.{allowed}
use Rattle.log_cleaner.specs.CopyBatch.{batch_in, copies_in}
use Rattle.log_cleaner.proofs.Licences.{copies_licensed, copies_outside}
use Rattle.log_cleaner.proofs.Tallies.{words_long, batch_within}
use Rattle.core_log.specs.Chunk.{padded}
use Rattle.core_log.specs.Log.{LogState, open_first}
use Rattle.log_standing.specs.declared.types.Settled.{Settled}
use Rattle.core_log.specs.Walking.{entries_in}
use Rattle.core_worker.specs.TakenChunks.{appended_to}
use Rattle.log_cleaner.specs.CopyBatch.{copied_in}
use Rattle.core_worker.specs.CopyTurns.{copied_to}
use Rattle.core_worker.proofs.copy_turn.copy_on.Goals as goal

-- the log by what the call says of none, and of some
copied_by : (n : ℕ) (log log' : LogState) (ws : List ℕ) → (n ≡ 0 → log' ≡ log) → (0 < n → log' ≡ appended_to log (padded ws)) → log' ≡ copied_to n log ws
copied_by zero log log' ws none some = none refl
copied_by (suc n) log log' ws none some = some (omega arith)

read_at : (j : ℕ) (o : Option Settled) → IfSome o (λ h. h.chunk ≡ j) → (h : Settled) → o ≡ Some h → h.chunk ≡ j
read_at j None is h at = absurd (cc at)
read_at j (Some x) is h at = let same : x ≡ h = cc at in ap (λ (y : Settled). y.chunk) (sym same) ∙ is

pub copy_live-requires-clause-room : goal.copy_live-requires-clause-room
copy_live-requires-clause-room g c telling =
    let s = g.R.Region.state c.args.region.now in
    let es = entries_in s c.args.log.now c.args.victim.now.chunk in
    let long = words_long (batch_in s c.args.log.now c.args.standing.now c.args.victim.now.chunk) in
    let few = batch_within c.args.standing.now es in
    let bound = (c.requires.bounds telling).words in
    let fits = c.requires.fits in
    omega (arith, long, few, bound, fits)

pub returns-in-Ok-clause-moments : goal.returns-in-Ok-clause-moments
returns-in-Ok-clause-moments g c = let s = g.R.Region.state c.args.region.now in copies_licensed s (g.R.Region.state c.copy_live.new.region) (g.B.Board.seat c.args.board.now).place (g.B.Board.seat c.args.board.now).number (g.B.Board.view c.args.board.now) c.args.log.now
    c.requires.begins (copies_in s c.args.log.now c.args.standing.now c.args.victim.now.chunk) c.copy_live.ensures.moments

pub returns-in-Ok-clause-outside : goal.returns-in-Ok-clause-outside
returns-in-Ok-clause-outside g c = let s = g.R.Region.state c.args.region.now in copies_outside s (g.R.Region.state c.copy_live.new.region) (g.B.Board.seat c.args.board.now).place (g.B.Board.seat c.args.board.now).number (g.B.Board.view c.args.board.now) c.args.log.now
    c.requires.begins (copies_in s c.args.log.now c.args.standing.now c.args.victim.now.chunk) c.copy_live.ensures.moments

pub returns-in-Ok-clause-exit : goal.returns-in-Ok-clause-exit
returns-in-Ok-clause-exit g c telling image may =
    let s = g.R.Region.state c.args.region.now in
    let t = g.R.Region.state c.copy_live.new.region in
    let p = (g.B.Board.seat c.args.board.now).place in
    let m = (g.B.Board.seat c.args.board.now).number in
    let v = g.B.Board.view c.args.board.now in
    let u = g.B.Board.view c.commit.new.self in
    let view = c.commit.ensures.view in
    let allows : AllowsAll v u = record {
      kept = ap (λ (x : View). x.kept) view ∙ ap (λ (es : List Entry). v.kept ++ es) c.requires.idle ∙ append-nil v.kept;
      flying = ap (λ (x : View). x.flying) view ∙ sym c.requires.idle;
      doomed = λ k n d. ap (λ (x : View). x.doomed k n) view ∙ d;
      blocks = λ q b is. sym (ap (λ (x : View). x.blocks q) view) ∙ is;
    } in
    allowed p m v u image allows (at_exit s t (Licensed p m v) (returns-in-Ok-clause-moments g c) telling image may)

pub returns-in-Ok-clause-chunk : goal.returns-in-Ok-clause-chunk
returns-in-Ok-clause-chunk g c = c.copy_live.ensures.moments.outside

pub returns-in-Ok-clause-copies : goal.returns-in-Ok-clause-copies
returns-in-Ok-clause-copies g c = record {
  few = c.in-Ok.ensures.within.1;
  within = c.in-Ok.ensures.within.0;
  short = c.in-Ok.ensures.within.2;
  some = c.in-Ok.ensures.some;
  log_is = copied_by (copied_in c.in-Ok.count) c.args.log.now c.copy_live.new.log c.copy_live.new.buffer.words (λ none. (c.in-Ok.ensures.nothing none).1) c.in-Ok.ensures.log;
  names = c.copy_live.ensures.names;
  tally = c.copy_live.ensures.tally;
  read = λ h at. read_at c.args.victim.now.chunk c.copy_live.new.standing.settled c.copy_live.ensures.read h at;
}

pub returns-in-Ok-clause-tells : goal.returns-in-Ok-clause-tells
returns-in-Ok-clause-tells g c =
    let s = g.R.Region.state c.args.region.now in
    let t = g.R.Region.state c.copy_live.new.region in
    let log = c.args.log.now in
    let told : IsTelling t → IsTelling s = told_at_entry s t (KeepsOutside (cell_now s) (open_first log) (open_first log + chunk_words log.layout)) c.copy_live.ensures.moments.outside in
    record {
      stands = c.in-Ok.ensures.ok.stands;
      counted = c.in-Ok.ensures.ok.standing;
      chunk = c.in-Ok.ensures.ok.chunk;
      batch = λ telling. c.in-Ok.ensures.batch (told telling);
      less = λ telling. c.in-Ok.ensures.ok.less (told telling);
    }

pub returns-in-Err-clause-moments : goal.returns-in-Err-clause-moments
returns-in-Err-clause-moments g c = let s = g.R.Region.state c.args.region.now in copies_licensed s (g.R.Region.state c.copy_live.new.region) (g.B.Board.seat c.args.board.now).place (g.B.Board.seat c.args.board.now).number (g.B.Board.view c.args.board.now) c.args.log.now
    c.requires.begins (copies_in s c.args.log.now c.args.standing.now c.args.victim.now.chunk) c.copy_live.ensures.moments

pub returns-in-Err-clause-chunk : goal.returns-in-Err-clause-chunk
returns-in-Err-clause-chunk g c = c.copy_live.ensures.moments.outside

pub returns-in-Err-clause-outside : goal.returns-in-Err-clause-outside
returns-in-Err-clause-outside g c = let s = g.R.Region.state c.args.region.now in copies_outside s (g.R.Region.state c.copy_live.new.region) (g.B.Board.seat c.args.board.now).place (g.B.Board.seat c.args.board.now).number (g.B.Board.view c.args.board.now) c.args.log.now
    c.requires.begins (copies_in s c.args.log.now c.args.standing.now c.args.victim.now.chunk) c.copy_live.ensures.moments

pub returns-in-Err-clause-exit : goal.returns-in-Err-clause-exit
returns-in-Err-clause-exit g c telling = at_exit (g.R.Region.state c.args.region.now) (g.R.Region.state c.copy_live.new.region) (Licensed (g.B.Board.seat c.args.board.now).place (g.B.Board.seat c.args.board.now).number (g.B.Board.view c.args.board.now)) (returns-in-Err-clause-moments g c) telling

pub returns-in-Ok-clause-told : goal.returns-in-Ok-clause-told
returns-in-Ok-clause-told g c telling =
    let s = g.R.Region.state c.args.region.now in
    let t = g.R.Region.state c.copy_live.new.region in
    let log = c.args.log.now in
    c.in-Ok.ensures.told (told_at_entry s t (KeepsOutside (cell_now s) (open_first log) (open_first log + chunk_words log.layout)) c.copy_live.ensures.moments.outside telling)
