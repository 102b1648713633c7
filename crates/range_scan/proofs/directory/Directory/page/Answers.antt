use Rattle.std.proofs.Common.{ℕ, List, ◌∙◌, ap}
use Rattle.std.specs.Prelude.{slice_get}
use Rattle.std.specs.List.{filter}
use Rattle.pm_region.specs.Words.{lasts}
use Rattle.recover.specs.Recovering.{cells_found}
use Rattle.range_scan.specs.Ranges.{is_within}
use Rattle.range_scan.proofs.PairLaws.{keys_listed, listed_cells, page_is, pairs_with}
use Rattle.range_scan.proofs.StartLaws.{starts_of, live_in_cells}
use Rattle.range_scan.proofs.directory.Directory.page.Goals as goal

pub returns : goal.returns
returns g c = λ telling pairs lists.
    let s = g.R.Region.state c.args.region.now in
    let cells = cells_found (lasts s) in
    let keys = c.args.self.now in
    let live = live_in_cells (lasts s) c.args.starts.now keys (starts_of s c.args.starts.now c.requires.starts telling) c.requires.keys in
    page_is cells keys pairs c.args.lo c.args.hi c.args.limit c.at_most-count.result c.keys_within-within.result.now c.in_ok-pairs.pairs.items c.copied.result
    (keys_listed cells keys pairs c.requires.keys.rising live lists)
    (listed_cells cells pairs lists)
    (c.keys_within-within.ensures ∙ ap (filter (is_within c.args.lo c.args.hi)) (c.deref.ensures.value ∙ c.self.view_is))
    c.at_most-count.ensures
    (c.in_ok-pairs.ensures telling ∙ ap (pairs_with cells) c.split_at.ensures.front)
    (c.copied.ensures ∙ c.first.ensures.value ∙ ap (λ (zs : List ℕ). slice_get zs 0) c.split_at.ensures.back)
