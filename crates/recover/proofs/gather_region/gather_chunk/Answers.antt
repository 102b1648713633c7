use Rattle.std.proofs.Common.{◌≡◌, ◌+◌, ◌-◌, ◌^◌, ◌++◌, map, sym, ◌∙◌, ap, subst, arith}
use Rattle.pm_region.specs.Words.{lasts}
use Rattle.chunk_map.specs.Layouts.{payload_words, chunk_first}
use Rattle.store_image.specs.Parts.{scan_at}
use Rattle.recover.specs.FoundEntries.{found_in, LieBelow}
use Rattle.recover.proofs.RegionLaws.{payload_lies}
use Rattle.recover.proofs.SpellLaws.{lie_lower}
use Rattle.recover.proofs.GatherLaws.{placed_found}
use Rattle.recover.proofs.gather_region.gather_chunk.Goals as goal

pub note_entries-requires : goal.note_entries-requires
note_entries-requires g c =
    let f = (g.R.Region.state c.args.region.now).frame in
    let l = c.args.layout.now in
    let small = (payload_lies f l c.requires.covers c.args.part c.args.chunk (payload_words l) c.requires.part c.requires.chunk (omega arith)).1 in
    lie_lower (payload_words l) (2 ^ 32 - (c.chunk_first.result + 32)) c.deref.result.now (omega (arith, small, c.chunk_first.ensures))
    (subst (LieBelow (payload_words l)) (sym c.deref.ensures.value) c.in_ok-rule.ensures.places)

pub returns-clause-entries : goal.returns-clause-entries
returns-clause-entries g c = λ telling.
    let image = lasts (g.R.Region.state c.args.region.now) in
    let l = c.args.layout.now in
    let first : c.chunk_first.result + 32 ≡ chunk_first l c.args.part c.args.chunk + 32 = ap (λ n. n + 32) c.chunk_first.ensures in
    c.in_ok-note_entries.ensures
    ∙ ap (λ xs. c.args.found.now.items ++ map (found_in (c.chunk_first.result + 32)) xs) (c.deref.ensures.value ∙ (c.in_ok-rule.ensures.told telling).1.0)
    ∙ ap (λ fs. c.args.found.now.items ++ fs) (placed_found l c.args.part c.args.chunk (c.chunk_first.result + 32) (scan_at l image (chunk_first l c.args.part c.args.chunk)).entries first)
