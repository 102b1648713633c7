use Rattle.std.proofs.Common.{◌≡◌, ◌⊎◌, ◌+◌, ◌<◌, ◌≤◌, ⊎_elim, ℕ, List, [], ◌∷◌, length, refl, sym, ◌∙◌, ap, arith}
use Rattle.pm_region.specs.State.{State, IsTelling, cell_now}
use Rattle.pm_region.specs.Words.{KeepsOutside, lines_for}
use Rattle.pm_region.proofs.Clients.{told_at_entry, all_kept}
use Rattle.chunk_map.specs.Layouts.{chunk_words}
use Rattle.log_entry.specs.declared.entry.Entry.{Entry}
use Rattle.core_log.specs.Log.{LogState, open_first}
use Rattle.core_log.specs.Walking.{entries_in}
use Rattle.core_log.proofs.Clients.{some_opens}
use Rattle.log_standing.specs.NameCounts.{StandingState, count_in}
use Rattle.log_standing.specs.ChunkCounts.{IsStandingOf}
use Rattle.std.specs.List.{flat_map}
use Rattle.log_entry.specs.Spelling.{words_of}
use Rattle.core_log.specs.Log.{room_of}
use Rattle.log_cleaner.specs.declared.types.Victim.{Victim}
use Rattle.log_cleaner.proofs.Tallies.{words_long}
use Rattle.log_cleaner.specs.CopyBatch.{Adds, Bounds, Collected, batch_in, copies_in, SameElse}
use Rattle.log_cleaner.proofs.CopyLaws.{same_parts, same_log, copy_parts, copy_standing, still_has, not_open, is_batch, long_entries}
use Rattle.log_cleaner.proofs.LessLaws.{is_less, none_awaits}
use Rattle.log_cleaner.proofs.SettledLaws.{settled_moved}
use Rattle.log_cleaner.proofs.copying.copy_live.Goals as goal

same_tails : (log : LogState) (j : ℕ) → SameElse log log j
same_tails log j = record { layout = refl; part = refl; opened = refl; tails = λ i ne. refl }

pub returns-in_err-append_batch-clause-moments : goal.returns-in_err-append_batch-clause-moments
returns-in_err-append_batch-clause-moments g c =
    let s = g.R.Region.state c.args.region.now in
    let t = g.R.Region.state c.append_batch.new.region in
    let log = c.args.log.now in
    let st = c.args.standing.now in
    let st' = c.collect-taken.new.standing in
    let j = c.args.victim.now.chunk in
    let ws = c.collect-taken.new.buffer.words in
    let ready = c.is_ready.ensures.ready c.if-not-is_ready.false in
    let opens = some_opens log ws (c.collect-taken.ensures.some ready.0) ready.1 in
    let counts = λ (telling : IsTelling (g.R.Region.state c.args.region.now)). (c.requires.standing telling).counts in
    record {
      entries = λ telling some. c.append_batch.ensures.entries (copies_in s log st j) (c.collect-taken.ensures.told telling).words_are (is_batch s log st st' j c.collect-taken.result ws c.requires.stands c.requires.has c.requires.closed counts c.collect-taken.ensures.told ready.0 opens ready.1 telling);
      outside = c.append_batch.ensures.outside;
      parts = copy_parts s log st st' j c.collect-taken.result ws c.requires.stands c.requires.has c.requires.closed counts c.collect-taken.ensures.told ready.0 opens ready.1 t c.append_batch.ensures.moments c.append_batch.ensures.outside;
    }

pub returns-clause-moments : goal.returns-clause-moments
returns-clause-moments g c =
    let s = g.R.Region.state c.args.region.now in
    let t = g.R.Region.state c.append_batch.new.region in
    let log = c.args.log.now in
    let st = c.args.standing.now in
    let st' = c.collect-taken.new.standing in
    let j = c.args.victim.now.chunk in
    let ws = c.collect-taken.new.buffer.words in
    let ready = c.is_ready.ensures.ready c.if-not-is_ready.false in
    let opens = some_opens log ws (c.collect-taken.ensures.some ready.0) ready.1 in
    let counts = λ (telling : IsTelling (g.R.Region.state c.args.region.now)). (c.requires.standing telling).counts in
    record {
      entries = λ telling some. c.append_batch.ensures.entries (copies_in s log st j) (c.collect-taken.ensures.told telling).words_are (is_batch s log st st' j c.collect-taken.result ws c.requires.stands c.requires.has c.requires.closed counts c.collect-taken.ensures.told ready.0 opens ready.1 telling);
      outside = c.append_batch.ensures.outside;
      parts = copy_parts s log st st' j c.collect-taken.result ws c.requires.stands c.requires.has c.requires.closed counts c.collect-taken.ensures.told ready.0 opens ready.1 t c.append_batch.ensures.moments c.append_batch.ensures.outside;
    }

-- where the region tells, a batch that isn't ready is none
nothing_left : (s : State) (log : LogState) (st st' : StandingState) (v : Victim) (taken : ℕ) (ws : List ℕ) → Collected st st' (batch_in s log st v.chunk) taken ws → lines_for (length (flat_map words_of (copies_in s log st v.chunk))) ≤ room_of log → Bounds v st (entries_in s log v.chunk)
    → (taken ≡ 0) ⊎ ((room_of log < lines_for (length ws)) ⊎ ((v.entries < taken) ⊎ (v.words < length ws))) → taken ≡ 0
nothing_left s log st st' v taken ws told fits bounds which = ⊎_elim (λ e. e) (λ more. absurd (⊎_elim
    (λ lt. (let same = ap (λ (xs : List ℕ). lines_for (length xs)) told.words_are in omega (arith, lt, fits, same)))
    (λ late. (let less = is_less st st' (entries_in s log v.chunk) told.adds in let a = bounds.entries in let b = bounds.words in let d = less.entries in let e = less.words in let count = told.count_is in
    let long = ap (λ (xs : List ℕ). length xs) told.words_are ∙ words_long (batch_in s log st v.chunk) in
    ⊎_elim (λ x. omega (arith, x, a, d, count)) (λ x. omega (arith, x, b, e, long)) late))
    more)) which

pub returns-then-not-is_ready-clause-moments : goal.returns-then-not-is_ready-clause-moments
returns-then-not-is_ready-clause-moments g c =
    let s = g.R.Region.state c.args.region.now in
    let log = c.args.log.now in
    record {
      entries = λ telling some.
          let told = c.collect-taken.ensures.told telling in
          let long = long_entries (batch_in s log c.args.standing.now c.args.victim.now.chunk) in
          let count = told.count_is in
          let none = nothing_left s log c.args.standing.now c.collect-taken.new.standing c.args.victim.now c.collect-taken.result c.collect-taken.new.buffer.words told (c.requires.room telling) (c.requires.bounds telling) (c.is_ready.ensures.unready c.if-not-is_ready.true) in
          absurd (omega (arith, none, some, long, count));
      outside = all_kept s (open_first log) (open_first log + chunk_words log.layout);
      parts = same_parts s log _;
    }

pub returns-clause-ok : goal.returns-clause-ok
returns-clause-ok g c =
    let s = g.R.Region.state c.args.region.now in
    let t = g.R.Region.state c.append_batch.new.region in
    let log = c.args.log.now in
    let log' = c.append_batch.new.self in
    let st = c.args.standing.now in
    let st' = c.collect-taken.new.standing in
    let j = c.args.victim.now.chunk in
    let ws = c.collect-taken.new.buffer.words in
    let ready = c.is_ready.ensures.ready c.if-not-is_ready.false in
    let opens = some_opens log ws (c.collect-taken.ensures.some ready.0) ready.1 in
    let counts = λ (telling : IsTelling (g.R.Region.state c.args.region.now)). (c.requires.standing telling).counts in
    let chunk : IsTelling (g.R.Region.state c.append_batch.new.region) → entries_in (g.R.Region.state c.append_batch.new.region) c.append_batch.new.self c.args.victim.now.chunk ≡ entries_in (g.R.Region.state c.args.region.now) c.args.log.now c.args.victim.now.chunk = λ telling.
    still_has s log st st' j c.collect-taken.result ws c.requires.stands c.requires.has c.requires.closed counts c.collect-taken.ensures.told ready.0 opens ready.1
    t log' c.in_ok-append_batch.ensures.ok c.append_batch.ensures.outside telling j
    (not_open s log st st' j c.collect-taken.result ws c.requires.stands c.requires.has c.requires.closed counts c.collect-taken.ensures.told ready.0 opens ready.1) c.requires.has in
    record {
      stands = c.in_ok-append_batch.ensures.ok.stands;
      tails = same_log log log' _ c.in_ok-append_batch.ensures.ok.log_is;
      adds = λ telling. (c.collect-taken.ensures.told telling).adds;
      standing = λ telling. record {
        counts = copy_standing s log st st' j c.collect-taken.result ws c.requires.stands c.requires.has c.requires.closed counts c.collect-taken.ensures.told ready.0 opens ready.1
            t log' c.in_ok-append_batch.ensures.ok c.append_batch.ensures.outside telling;
        settled = settled_moved s t log log' st' j (chunk telling) c.collect-taken.ensures.chunk
            (c.collect-taken.ensures.settled (told_at_entry s t (KeepsOutside (cell_now s) (open_first log) (open_first log + chunk_words log.layout)) c.append_batch.ensures.outside telling));
      };
      chunk = chunk;
      less = λ telling. is_less st st' (entries_in s log j) (c.collect-taken.ensures.told telling).adds;
    }

same_counts : (s : State) (log : LogState) (old new : StandingState) (xs : List (ℕ × Entry)) → Adds old new xs → length xs ≡ 0 → IsStandingOf s log old → IsStandingOf s log new
same_counts s log old new [] adds none counts k v = ap count_in (adds k v) ∙ counts k v
same_counts s log old new (x ∷ xs) adds none counts k v = absurd (omega (arith, none))

pub returns-then-not-is_ready-clause-ok : goal.returns-then-not-is_ready-clause-ok
returns-then-not-is_ready-clause-ok g c =
    let s = g.R.Region.state c.args.region.now in
    let log = c.args.log.now in
    let st = c.args.standing.now in
    let st' = c.collect-taken.new.standing in
    let j = c.args.victim.now.chunk in
    record {
      stands = c.requires.stands;
      tails = same_tails log _;
      adds = λ telling. (c.collect-taken.ensures.told telling).adds;
      standing = λ telling.
          let told = c.collect-taken.ensures.told telling in
          let nothing : c.collect-taken.result ≡ 0 = nothing_left s log st st' c.args.victim.now c.collect-taken.result c.collect-taken.new.buffer.words told (c.requires.room telling) (c.requires.bounds telling) (c.is_ready.ensures.unready c.if-not-is_ready.true) in
          record {
            counts = same_counts s log st st' (batch_in s log st j) told.adds (sym told.count_is ∙ nothing) (c.requires.standing telling).counts;
            settled = c.collect-taken.ensures.settled telling;
          };
      chunk = λ telling. refl;
      less = λ telling. is_less st st' (entries_in s log j) (c.collect-taken.ensures.told telling).adds;
    }

pub returns-then-not-is_ready-clause-batch : goal.returns-then-not-is_ready-clause-batch
returns-then-not-is_ready-clause-batch g c = λ telling.
    let told = c.collect-taken.ensures.told telling in
    let nothing : c.collect-taken.result ≡ 0 = nothing_left (g.R.Region.state c.args.region.now) c.args.log.now c.args.standing.now c.collect-taken.new.standing c.args.victim.now c.collect-taken.result c.collect-taken.new.buffer.words told (c.requires.room telling) (c.requires.bounds telling) (c.is_ready.ensures.unready c.if-not-is_ready.true) in
    record {
      count = c.none_copied.ensures.none ∙ sym nothing ∙ told.count_is;
      words = told.words_are;
      none = λ zero_is. none_awaits c.args.standing.now (entries_in (g.R.Region.state c.args.region.now) c.args.log.now c.args.victim.now.chunk) 0 (sym nothing ∙ told.count_is) refl;
    }

pub returns-then-not-is_ready-clause-told : goal.returns-then-not-is_ready-clause-told
returns-then-not-is_ready-clause-told g c = λ telling.
    let told = c.collect-taken.ensures.told telling in
    c.none_copied.ensures.some (nothing_left (g.R.Region.state c.args.region.now) c.args.log.now c.args.standing.now c.collect-taken.new.standing c.args.victim.now c.collect-taken.result c.collect-taken.new.buffer.words told (c.requires.room telling) (c.requires.bounds telling) (c.is_ready.ensures.unready c.if-not-is_ready.true))
