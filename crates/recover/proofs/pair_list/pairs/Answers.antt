use Rattle.std.proofs.Common.{◌≡◌, ℕ, ◌<◌, ◌++◌, Some, length, sym, ◌∙◌, ap, subst, append-nil, arith}
use Rattle.std.specs.Prelude.{slice_index_or}
use Rattle.pm_region.specs.Words.{lasts}
use Rattle.chunk_map.specs.declared.layouts.Geometry.{Geometry}
use Rattle.store_image.specs.Winners.{recovered}
use Rattle.store_image.specs.Listing.{ListsCells}
use Rattle.store_image.specs.Facts.{In}
use Rattle.store_image.proofs.Clients.{layout_numbers, pairs_of, lists_cells}
use Rattle.core_index.specs.Records.{live_version}
use Rattle.core_index.specs.Index.{known_at}
use Rattle.recover.specs.declared.types.CoreStart.{CoreStart}
use Rattle.recover.specs.Recovering.{IsOf}
use Rattle.recover.proofs.PairLaws.{pair_more, no_cell, set_rises, set_has}
use Rattle.recover.proofs.pair_list.pairs.Goals as goal

pub loop-key-preserved : goal.loop-key-preserved
loop-key-preserved g c = λ telling.
    let image = lasts (g.R.Region.state c.args.region.now) in
    let r = c.args.recovered.now in
    let found = (c.requires.found telling).is_of in
    let of = subst (λ (k : Geometry). IsOf k image r) (sym found.layout_is) found in
    let cells = recovered r.layout image in
    pair_more cells c.loop-key.pairs.items c.push_pair.new.pairs.items c.in-Some.key c.next.new.self c.in_ok-value.value c.in_ok-push_pair.ensures (c.in_ok-value.ensures telling of)
    ∙ ap (λ ks. c.loop-key.pairs.items ++ pairs_of cells ks) (sym c.in-Some.ensures.steps) ∙ c.loop-key.invariant telling

pub returns : goal.returns
returns g c = λ telling.
    let image = lasts (g.R.Region.state c.args.region.now) in
    let r = c.args.recovered.now in
    let found = (c.requires.found telling).is_of in
    let of = subst (λ (k : Geometry). IsOf k image r) (sym found.layout_is) found in
    let cells = recovered r.layout image in
    let keys = c.in_ok-keys.keys.keys in
    let gives = c.into_iter-key-iterator.ensures.into_iter_gives in
    let many = (layout_numbers r.layout c.requires.covers.layout).cores in
    let long = ap length c.deref.ensures.value in
    let live : (j k v : ℕ) (d : CoreStart) → j < length r.starts.items → live_version (known_at (slice_index_or r.starts.items j d).index k) ≡ Some v → In k keys =
    λ j k v d lt is. set_has k keys (c.in_ok-keys.ensures j k v d (omega (arith, lt, long)) (ap (λ xs. live_version (known_at (slice_index_or xs j d).index k)) c.deref.ensures.value ∙ is)) in
    let all : c.loop-key.pairs.items ≡ pairs_of cells keys =
    sym (append-nil c.loop-key.pairs.items) ∙ ap (λ ks. c.loop-key.pairs.items ++ pairs_of cells ks) (sym c.in-None.ensures.steps.0) ∙ c.loop-key.invariant telling ∙ ap (pairs_of cells) gives.0 in
    let lists = lists_cells cells keys (set_rises keys gives.4) (λ k none. no_cell r.layout image r of keys live k (omega (arith, many)) none) in
    subst (λ (k : Geometry). ListsCells (recovered k image) c.loop-key.pairs.items) found.layout_is (subst (ListsCells cells) (sym all) lists)
