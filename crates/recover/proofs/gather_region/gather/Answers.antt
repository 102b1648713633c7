use Rattle.std.proofs.Common.{below_more, ℕ, Option, None, ◌<◌, ◌≤◌, refl, sym, ◌∙◌, subst, arith}
use Rattle.pm_region.specs.Words.{lasts}
use Rattle.store_image.specs.declared.types.Fault.{Fault}
use Rattle.store_image.specs.Parts.{part_entries}
use Rattle.store_image.specs.Soundness.{part_fault}
use Rattle.recover.specs.Causes.{HasCause}
use Rattle.recover.specs.Gathering.{Gathers}
use Rattle.recover.specs.Logs.{SpellsLog}
use Rattle.recover.specs.FoundEntries.{found_of}
use Rattle.recover.proofs.CauseLaws.{handed_on}
use Rattle.recover.proofs.GatherLaws.{goes_on, stops_by, ends, found_next, found_end}
use Rattle.recover.proofs.gather_region.gather.Goals as goal

pub loop-part-preserved : goal.loop-part-preserved
loop-part-preserved g c =
    let image = lasts (g.R.Region.state c.args.region.now) in
    let l = c.args.layout.now in
    let lt : c.loop-part.part < l.cores = omega (arith, c.loop-part-test.true, c.cores-part-end.ensures) in
    record {
      fault = λ telling. goes_on (part_fault l image) c.loop-part.part l.cores None lt (sym (c.in_ok-gather_part.ensures telling).0) refl ∙ c.loop-part.invariant.fault telling;
      entries = λ telling. found_next (found_of l) (part_entries l image) c.loop-part.part l.cores c.loop-part.found.items c.gather_part.new.found.items lt (c.in_ok-gather_part.ensures telling).1 ∙ c.loop-part.invariant.entries telling;
      spells = λ telling. below_more (λ k. (j : ℕ) → j < l.chunks → SpellsLog l image k j) c.loop-part.part (c.loop-part.invariant.spells telling) (c.in_ok-gather_part.ensures telling).2;
    }

pub returns-in_err-gather_part : goal.returns-in_err-gather_part
returns-in_err-gather_part g c = λ telling.
    let image = lasts (g.R.Region.state c.args.region.now) in
    let l = c.args.layout.now in
    let lt : c.loop-part.part < l.cores = omega (arith, c.loop-part-test.true, c.cores-part-end.ensures) in
    let e = c.in_err-gather_part.field-0.0 in
    handed_on (Gathers l image) c.from_residual.result e c.from_residual.ensures.1
    (subst (λ (first : Option Fault). HasCause first e) (c.loop-part.invariant.fault telling)
    (stops_by (part_fault l image) c.loop-part.part l.cores e lt (c.in_err-gather_part.ensures telling)))

pub returns : goal.returns
returns g c = λ telling.
    let image = lasts (g.R.Region.state c.args.region.now) in
    let l = c.args.layout.now in
    let le : l.cores ≤ c.loop-part.part = omega (arith, c.loop-part-test.false, c.cores-part-end.ensures) in (
      sym (ends (part_fault l image) c.loop-part.part l.cores le ∙ c.loop-part.invariant.fault telling),
      found_end (found_of l) (part_entries l image) c.loop-part.part l.cores c.loop-part.found.items le ∙ c.loop-part.invariant.entries telling,
      λ k j lt. c.loop-part.invariant.spells telling k (omega (arith, lt, le)) j,
    )
