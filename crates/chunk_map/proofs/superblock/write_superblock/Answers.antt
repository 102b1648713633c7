use Rattle.std.proofs.Common.{◌≡◌, ◌+◌, ◌<◌, ℕ, get_or, ◌∙◌, ap, rules}
use Rattle.pm_region.specs.Cell.{certain}
use Rattle.pm_region.specs.State.{State, During, IsTelling, cell_now}
use Rattle.pm_region.specs.Words.{EachIn}
use Rattle.chunk_map.specs.declared.layouts.Geometry.{Geometry}
use Rattle.chunk_map.specs.Superblock.{MayHaveSuperblock}
use Rattle.chunk_map.proofs.SuperLaws.{on_ok, numbers_of, superblock_turns, superblock_stands, refused_or_whole}
use Rattle.chunk_map.proofs.superblock.write_superblock.Goals as goal

-- the numbers that are certain, in the words of the layout
numbers : (t : State) (l g : Geometry) → g ≡ l → (IsTelling t → (j : ℕ) → j < 5 → cell_now t (1 + j) ≡ certain (get_or (numbers_of g) j 0)) → IsTelling t → (j : ℕ) → j < 5 → cell_now t (1 + j) ≡ certain (get_or (numbers_of l) j 0)
numbers t l g same holds telling j lt = holds telling j lt ∙ ap (λ (x : Geometry). certain (get_or (numbers_of x) j 0)) same

pub returns-in_err-write_in_line-clause-fresh : goal.returns-in_err-write_in_line-clause-fresh
returns-in_err-write_in_line-clause-fresh g c =
    let s = g.R.Region.state c.args.region.now in
    let t = g.R.Region.state c.write_in_line.new.region in
    let l = c.args.layout.now in
    let run : During s t (EachIn 0 6 (MayHaveSuperblock (cell_now s) l)) = search rules in
    refused_or_whole s t l c.geometry-geometry.ensures.rules run

pub returns-clause-moments : goal.returns-clause-moments
returns-clause-moments g c =
    let st = g.R.Region.state in
    superblock_turns (st c.args.region.now) (st c.write_in_line.new.region) (st c.set_word.new.region) c.args.layout.now c.write_in_line.ensures.others
    (numbers (st c.write_in_line.new.region) c.args.layout.now c.geometry-geometry.result c.geometry-geometry.ensures.value c.in_ok-write_in_line.ensures.ok) c.set_word.ensures.run

pub returns-clause-fresh : goal.returns-clause-fresh
returns-clause-fresh g c =
    let st = g.R.Region.state in
    let l = c.args.layout.now in
    refused_or_whole (st c.args.region.now) (st c.set_word.new.region) l c.geometry-geometry.ensures.rules
    (superblock_turns (st c.args.region.now) (st c.write_in_line.new.region) (st c.set_word.new.region) l c.write_in_line.ensures.others
    (numbers (st c.write_in_line.new.region) l c.geometry-geometry.result c.geometry-geometry.ensures.value c.in_ok-write_in_line.ensures.ok) c.set_word.ensures.run)

pub returns-clause-ok : goal.returns-clause-ok
returns-clause-ok g c =
    let st = g.R.Region.state in
    on_ok c.set_word.result _ _ (superblock_stands (st c.args.region.now) (st c.write_in_line.new.region) (st c.set_word.new.region) c.args.layout.now c.write_in_line.ensures.others
    (numbers (st c.write_in_line.new.region) c.args.layout.now c.geometry-geometry.result c.geometry-geometry.ensures.value c.in_ok-write_in_line.ensures.ok) c.set_word.ensures.run) c.set_word.ensures.ok
