use Rattle.std.proofs.Common.{◌≡◌, ◌≤◌, ◌<◌, get_or, length, Ok, arith}
use Rattle.std.specs.Prelude.{slice_get}
use Rattle.chunk_map.specs.declared.heads.Head.TheVariants.{Free}
use Rattle.chunk_map.specs.Checked.{FitsHead}
use Rattle.recover.specs.Logs.{tail_behind}
use Rattle.recover.specs.Heads.{tail_there}
use Rattle.recover.proofs.ListLaws.{all_at}
use Rattle.recover.proofs.LogLaws.{collects_more, has_more}
use Rattle.recover.proofs.HeadLaws.{tail_at, fits_chunk, all_tails}
use Rattle.recover.proofs.logs.log_chunks.Goals as goal

pub loop-chunk-preserved : goal.loop-chunk-preserved
loop-chunk-preserved c =
    let l = c.args.layout.now in
    let heads = c.args.heads.now in
    let n = c.loop-chunk.chunk in
    let t = c.tail_in-tail.result in
    let inv = c.loop-chunk.invariant in
    let lt : n < l.chunks = omega (arith, c.loop-chunk-test.true, c.chunks-chunk-end.ensures) in
    let low : n < length heads = omega (arith, lt, c.requires.count) in
    let head : t ≡ tail_behind (Ok (get_or heads n Free)) = c.tail_in-tail.ensures in
    record {
      so_far = collects_more l n c.loop-chunk.logs.items c.push_log.new.logs.items t c.in_ok-push_log.ensures (fits_chunk l n (get_or heads n Free) t lt (all_at (FitsHead l) heads n Free c.requires.fits low) head) inv.so_far;
      below = has_more (λ j. tail_there (slice_get heads j)) n c.loop-chunk.logs.items c.push_log.new.logs.items t c.in_ok-push_log.ensures (tail_at heads n Free t low head) inv.so_far.ends inv.below;
    }

pub returns-clause-tails : goal.returns-clause-tails
returns-clause-tails c =
    let le : length c.args.heads.now ≤ c.loop-chunk.chunk = omega (arith, c.loop-chunk-test.false, c.chunks-chunk-end.ensures, c.requires.count) in
    all_tails c.args.heads.now c.loop-chunk.chunk c.loop-chunk.logs.items le c.loop-chunk.invariant.below c.loop-chunk.invariant.so_far.ends
