use Rattle.std.proofs.Common.{List, ℕ, sym, subst}
use Rattle.pm_region.specs.Cell.{HasValue}
use Rattle.region_memory.specs.CellLists.{AreOpen}
use Rattle.pm_region.proofs.Clients.{has_end}
use Rattle.region_memory.proofs.Stepping.{pushed_open}
use Rattle.region_memory.proofs.word_cells.open_place.Goals as goal

pub returns-in_ok-push-clause-places : goal.returns-in_ok-push-clause-places
returns-in_ok-push-clause-places c =
    subst (λ (l : List ℕ). AreOpen c.args.cells.now l) (sym c.in_ok-push.ensures.items)
    (pushed_open c.args.cells.now c.args.open_places.now.items c.args.k c.requires.within c.requires.places)

pub returns-in_ok-push-clause-one : goal.returns-in_ok-push-clause-one
returns-in_ok-push-clause-one c = subst (λ (l : List ℕ). HasValue l c.args.k) (sym c.in_ok-push.ensures.items) (has_end c.args.open_places.now.items c.args.k)
