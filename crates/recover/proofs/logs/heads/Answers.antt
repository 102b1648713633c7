use Rattle.std.proofs.Common.{◌≡◌, ◌+◌, [], ◌∷◌, length, length-append, Ok, sym, ◌∙◌, ap, subst}
use Rattle.std.specs.List.{AllByRecursion}
use Rattle.pm_region.specs.Words.{lasts}
use Rattle.chunk_map.specs.declared.heads.Head.{Head}
use Rattle.chunk_map.specs.Checked.{FitsHead, checked_head}
use Rattle.chunk_map.specs.Layouts.{chunk_first, head_at}
use Rattle.recover.proofs.ListLaws.{all_push}
use Rattle.recover.proofs.LogLaws.{each_more}
use Rattle.recover.proofs.RegionLaws.{head_read}
use Rattle.recover.proofs.logs.heads.Goals as goal

pub loop-chunk-preserved : goal.loop-chunk-preserved
loop-chunk-preserved g c =
    let l = c.args.layout.now in
    let old = c.loop-chunk.heads.items in
    let new = c.push.new.self.items in
    let head = c.in-Ok.head in
    let n = c.loop-chunk.chunk in
    let inv = c.loop-chunk.invariant in
    record {
      count = ap length c.in_ok-push-in-Ok.ensures.items ∙ length-append old (head ∷ []) ∙ ap (λ k. k + 1) inv.count;
      fits = subst (AllByRecursion (FitsHead l)) (sym c.in_ok-push-in-Ok.ensures.items) (all_push (FitsHead l) old head inv.fits c.in-Ok.ensures.fits);
      told = λ telling. (let image = lasts (g.R.Region.state c.args.region.now) in
          each_more Head (λ j h. head_at l image (chunk_first l c.args.part j) ≡ Ok h) old new head n inv.count c.in_ok-push-in-Ok.ensures.items (inv.told telling)
          (head_read (head_at l image (chunk_first l c.args.part n)) head (sym c.in-Ok.is ∙ c.read_head.ensures.told telling ∙ ap (λ at. checked_head (head_at l image at)) c.chunk_first.ensures)));
    }
