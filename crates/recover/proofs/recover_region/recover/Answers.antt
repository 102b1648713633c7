use Rattle.std.proofs.Common.{ℕ, subst}
use Rattle.std.specs.Prelude.{IfOk}
use Rattle.pm_region.specs.Words.{lasts}
use Rattle.store_image.specs.declared.types.Fault.TheVariants.{NotARegion}
use Rattle.recover.specs.declared.types.RecoverError.TheVariants as errors
use Rattle.recover.specs.Recovering.{IsMade, Recovers}
use Rattle.recover.proofs.FoundLaws.{superblock_kept, covers_all, rules_kept}
use Rattle.recover.proofs.CauseLaws.{handed_on, superblock_cause, restored}
use Rattle.recover.proofs.ReadLaws.{stands_read}
use Rattle.recover.proofs.recover_region.recover.Goals as goal

pub recovered-requires : goal.recovered-requires
recovered-requires g c = record { covers = covers_all (g.R.Region.state c.args.region.now).frame c.in_ok-layout.layout c.args.bytes c.requires.first c.requires.words c.in_ok-layout.ensures.bytes.0 c.in_ok-layout.ensures.bytes.1 }

pub returns-in_err-layout-clause-told : goal.returns-in_err-layout-clause-told
returns-in_err-layout-clause-told g c = λ telling.
    let image = lasts (g.R.Region.state c.args.region.now) in
    let bad = c.in_err-layout.field-0.0 in
    handed_on (Recovers c.args.bytes image) c.from_residual.result (errors.Fault (NotARegion bad.rule)) c.from_residual.ensures.1
    (superblock_cause c.args.bytes image bad (c.in_err-layout.ensures.told telling))

pub returns-clause-made : goal.returns-clause-made
returns-clause-made g c = subst (λ (bytes : ℕ). IfOk c.recovered.result (IsMade bytes)) c.in_ok-layout.ensures.bytes.1 c.recovered.ensures.made

pub returns-clause-told : goal.returns-clause-told
returns-clause-told g c = λ telling.
    let image = lasts (g.R.Region.state c.args.region.now) in
    let l = c.in_ok-layout.layout in
    let kept = superblock_kept c.args.bytes image l (c.in_ok-layout.ensures.told telling) in
    restored c.args.bytes image l kept.0 kept.1 c.recovered.result (c.recovered.ensures.told telling (rules_kept c.args.bytes image l kept.0 kept.1))

-- by what was recovered
pub returns-clause-stands : goal.returns-clause-stands
returns-clause-stands g c =
    stands_read (g.R.Region.state c.args.region.now) c.args.bytes c.requires.first c.requires.words c.recovered.result (returns-clause-made g c) (returns-clause-told g c)
