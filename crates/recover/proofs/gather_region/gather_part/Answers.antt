use Rattle.std.proofs.Common.{below_more, Option, None, ◌<◌, ◌≤◌, refl, sym, ◌∙◌, subst, arith}
use Rattle.std.specs.Prelude.{option_map}
use Rattle.pm_region.specs.Words.{lasts}
use Rattle.store_image.specs.declared.types.Fault.{Fault}
use Rattle.store_image.specs.Parts.{chunk_entries}
use Rattle.store_image.specs.Soundness.{damaged, chunk_rule}
use Rattle.recover.specs.Causes.{HasCause}
use Rattle.recover.specs.Gathering.{GathersPart}
use Rattle.recover.specs.Logs.{SpellsLog}
use Rattle.recover.specs.FoundEntries.{found_of}
use Rattle.recover.proofs.CauseLaws.{handed_on}
use Rattle.recover.proofs.GatherLaws.{goes_on, stops_by, ends, found_next, found_end}
use Rattle.recover.proofs.gather_region.gather_part.Goals as goal

pub loop-chunk-preserved : goal.loop-chunk-preserved
loop-chunk-preserved g c =
    let image = lasts (g.R.Region.state c.args.region.now) in
    let l = c.args.layout.now in
    let lt : c.loop-chunk.chunk < l.chunks = omega (arith, c.loop-chunk-test.true, c.chunks-chunk-end.ensures) in
    record {
      fault = λ telling. goes_on (λ j. option_map (damaged c.args.part j) (chunk_rule l image c.args.part j)) c.loop-chunk.chunk l.chunks None lt (sym (c.in_ok-gather_chunk.ensures.fault telling)) refl ∙ c.loop-chunk.invariant.fault telling;
      entries = λ telling. found_next (found_of l) (chunk_entries l image c.args.part) c.loop-chunk.chunk l.chunks c.loop-chunk.found.items c.gather_chunk.new.found.items lt (c.in_ok-gather_chunk.ensures.entries telling) ∙ c.loop-chunk.invariant.entries telling;
      spells = λ telling. below_more (λ j. SpellsLog l image c.args.part j) c.loop-chunk.chunk (c.loop-chunk.invariant.spells telling) (c.in_ok-gather_chunk.ensures.batches telling);
    }

pub returns-in_err-gather_chunk : goal.returns-in_err-gather_chunk
returns-in_err-gather_chunk g c = λ telling.
    let image = lasts (g.R.Region.state c.args.region.now) in
    let l = c.args.layout.now in
    let lt : c.loop-chunk.chunk < l.chunks = omega (arith, c.loop-chunk-test.true, c.chunks-chunk-end.ensures) in
    let e = c.in_err-gather_chunk.field-0.0 in
    handed_on (GathersPart l image c.args.part c.args.found.now.items c.gather_chunk.new.found.items) c.from_residual.result e c.from_residual.ensures.1
    (subst (λ (first : Option Fault). HasCause first e) (c.loop-chunk.invariant.fault telling)
    (stops_by (λ j. option_map (damaged c.args.part j) (chunk_rule l image c.args.part j)) c.loop-chunk.chunk l.chunks e lt (c.in_err-gather_chunk.ensures.fault telling)))

pub returns : goal.returns
returns g c = λ telling.
    let image = lasts (g.R.Region.state c.args.region.now) in
    let l = c.args.layout.now in
    let le : l.chunks ≤ c.loop-chunk.chunk = omega (arith, c.loop-chunk-test.false, c.chunks-chunk-end.ensures) in (
      sym (ends (λ j. option_map (damaged c.args.part j) (chunk_rule l image c.args.part j)) c.loop-chunk.chunk l.chunks le ∙ c.loop-chunk.invariant.fault telling),
      found_end (found_of l) (chunk_entries l image c.args.part) c.loop-chunk.chunk l.chunks c.loop-chunk.found.items le ∙ c.loop-chunk.invariant.entries telling,
      λ j lt. c.loop-chunk.invariant.spells telling j (omega (arith, lt, le)),
    )
