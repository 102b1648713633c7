use Rattle.std.proofs.Common.{◌≡◌, ℕ, ◌==◌, ◌&&◌, not, refl, ◌∙◌, ap}
use Rattle.std.specs.Prelude.{slice_get, is_none}
use Rattle.std.specs.List.{list_any}
use Rattle.pm_region.specs.Words.{lasts}
use Rattle.lazy_alloc.specs.Heads.{is_free_there, class_there}
use Rattle.lazy_alloc.specs.Sets.{chunk_is_free, chunk_class, block_is_used, class_at}
use Rattle.recover.specs.Heads.{tail_there}
use Rattle.recover.specs.Heads.{Starts}
use Rattle.recover.proofs.CauseLaws.{handed_on}
use Rattle.recover.proofs.HeadLaws.{heads_kept, logs_of}
use Rattle.recover.proofs.StartLaws.{index_of, allocator_of}
use Rattle.recover.proofs.LogNameLaws.{names_of_log}
use Rattle.recover.proofs.starts.start.Goals as goal

pub returns-in_err-heads-clause-told : goal.returns-in_err-heads-clause-told
returns-in_err-heads-clause-told g c = λ telling kept share names.
    let image = lasts (g.R.Region.state c.args.region.now) in
    let l = c.args.layout.now in
    let e = c.in_err-heads.field-0.0 in
    handed_on (Starts l image c.args.core) c.from_residual.result e c.from_residual.ensures.1 (heads_kept l image c.args.core kept c.requires.core e (c.in_err-heads.ensures.told telling))

pub returns-clause-made : goal.returns-clause-made
returns-clause-made g c =
    let log = c.in_ok-log.ensures in
    let allocator = c.in_ok-allocator.ensures in
    record {
      core_is = refl;
      layout_is = log.layout;
      part_is = log.part;
      own = log.own;
      sets = allocator.sets;
      allocator_layout = allocator.layout;
      allocator_part = allocator.part;
      spelled = c.requires.index;
      opened = log.opened;
      told = c.own_standing-standing.ensures.told;
      settled = c.own_standing-standing.ensures.settled;
      floors = c.own_standing-standing.ensures.floors;
    }

pub returns-clause-told : goal.returns-clause-told
returns-clause-told g c = λ telling kept share names.
    let image = lasts (g.R.Region.state c.args.region.now) in
    let l = c.args.layout.now in
    let heads = c.in_ok-heads.heads.items in
    let count = c.in_ok-heads.ensures.count in
    let are = c.in_ok-heads.ensures.told telling in
    let allocator = c.in_ok-allocator.ensures in
    let free : (j : ℕ) → chunk_is_free c.in_ok-allocator.allocator j ≡ is_free_there (slice_get heads j) = λ j. allocator.free j ∙ ap (λ hs. is_free_there (slice_get hs j)) c.deref-2.ensures.value in
    let class : (j : ℕ) → chunk_class c.in_ok-allocator.allocator j ≡ class_there (slice_get heads j) = λ j. allocator.class j ∙ ap (λ hs. class_there (slice_get hs j)) c.deref-2.ensures.value in
    let used : (p : ℕ) → block_is_used c.in_ok-allocator.allocator p ≡ (list_any (λ q. q == p) c.args.share.pointers.items && not (is_none (class_at c.in_ok-allocator.allocator p))) =
    λ p. allocator.used p ∙ ap (λ ps. list_any (λ q. q == p) ps && not (is_none (class_at c.in_ok-allocator.allocator p))) c.deref-3.ensures.value in
    let logs = logs_of l image c.args.core heads count are c.in_ok-log.log.chunks (λ j. c.in_ok-log.ensures.chunks j ∙ c.in_ok-chunks.ensures.tails j ∙ ap (λ hs. tail_there (slice_get hs j)) c.deref.ensures.value) in
    record {
      logs = logs;
      allocator = allocator_of l image c.args.core c.args.share share c.requires.covers.layout kept heads count are c.in_ok-allocator.allocator allocator.layout allocator.part free class allocator.due used;
      standing = c.own_standing-standing.ensures.counts image c.in_ok-log.log c.in_ok-log.ensures.own
          (names_of_log l image c.args.core c.in_ok-log.log c.args.names c.in_ok-log.ensures.layout c.in_ok-log.ensures.part logs names);
      index = index_of l image c.args.core c.args.share share;
    }
