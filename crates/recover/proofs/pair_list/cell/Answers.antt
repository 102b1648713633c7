use Rattle.std.proofs.Common.{◌≡◌, ◌<◌, length, sym, ◌∙◌, ap, subst, arith}
use Rattle.std.specs.Prelude.{slice_index_or}
use Rattle.std.proofs.lemmas.Bool.{lt-ltb}
use Rattle.pm_region.specs.Words.{lasts}
use Rattle.chunk_map.specs.declared.layouts.Geometry.{Geometry}
use Rattle.chunk_map.specs.Layouts.{owner}
use Rattle.store_image.specs.Parts.{value_in_block}
use Rattle.core_index.specs.Index.{known_at}
use Rattle.recover.specs.declared.types.CoreStart.{CoreStart}
use Rattle.recover.specs.Listing.{cell_known}
use Rattle.recover.proofs.PairLaws.{has_start, cell_is}
use Rattle.recover.proofs.pair_list.cell.Goals as goal

pub returns-in-None : goal.returns-in-None
returns-in-None g c = λ telling is.
    let image = lasts (g.R.Region.state c.args.region.now) in
    let l = c.args.found.now.layout in
    let low = c.owner-owner.ensures.low in
    let cores = ap (λ (l : Geometry). l.cores) c.geometry.ensures.value in
    let lt : c.owner-owner.result < l.cores = omega (arith, low, cores) in
    let there : c.owner-owner.result < length c.deref.result.now = subst (λ (xs : _). c.owner-owner.result < length xs) (sym c.deref.ensures.value) (has_start l image c.args.found.now is c.owner-owner.result lt) in
    absurd (cc (c.in-None.ensures.lookup.0 ∙ lt-ltb c.owner-owner.result (length c.deref.result.now) there))

pub returns-in_ok-value-in-Some : goal.returns-in_ok-value-in-Some
returns-in_ok-value-in-Some g c = λ telling is.
    let image = lasts (g.R.Region.state c.args.region.now) in
    let l = c.args.found.now.layout in
    let k = c.args.key in
    let s = c.in-Some.start.now in
    let own : c.owner-owner.result ≡ owner l k = c.owner-owner.ensures.value ∙ ap (λ (l : Geometry). owner l k) c.geometry.ensures.value in
    let low = c.owner-owner.ensures.low in
    let cores = ap (λ (l : Geometry). l.cores) c.geometry.ensures.value in
    let lt : owner l k < l.cores = omega (arith, low, cores, own) in
    let at : s ≡ slice_index_or c.args.found.now.starts.items (owner l k) s = c.in-Some.ensures.lookup.1 ∙ ap (λ xs. slice_index_or xs c.owner-owner.result s) c.deref.ensures.value ∙ ap (λ n. slice_index_or c.args.found.now.starts.items n s) own in
    c.in_ok-value-in-Some.ensures telling ∙ ap (λ (d : CoreStart). cell_known (value_in_block l image (owner l k)) (known_at d.index k)) at ∙ cell_is l image c.args.found.now is k s lt
