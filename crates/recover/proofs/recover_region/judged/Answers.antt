use Rattle.pm_region.specs.Words.{lasts}
use Rattle.store_image.specs.declared.types.Fault.TheVariants.{NotARegion}
use Rattle.store_image.specs.Soundness.{first_fault}
use Rattle.recover.specs.declared.types.RecoverError.TheVariants as errors
use Rattle.recover.specs.Causes.{AnswersFault}
use Rattle.recover.proofs.FoundLaws.{superblock_kept, covers_all}
use Rattle.recover.proofs.CauseLaws.{handed_on, superblock_cause, region_cause, region_whole}
use Rattle.recover.proofs.recover_region.judged.Goals as goal

pub sound_entries-requires : goal.sound_entries-requires
sound_entries-requires g c = record { covers = covers_all (g.R.Region.state c.args.region.now).frame c.in_ok-layout.layout c.args.bytes c.requires.first c.requires.words c.in_ok-layout.ensures.bytes.0 c.in_ok-layout.ensures.bytes.1 }

pub returns-in_err-layout : goal.returns-in_err-layout
returns-in_err-layout g c = λ telling.
    let image = lasts (g.R.Region.state c.args.region.now) in
    let bad = c.in_err-layout.field-0.0 in
    handed_on (AnswersFault (first_fault c.args.bytes image)) c.from_residual.result (errors.Fault (NotARegion bad.rule)) c.from_residual.ensures.1
    (superblock_cause c.args.bytes image bad (c.in_err-layout.ensures.told telling))

pub returns-in_err-sound_entries : goal.returns-in_err-sound_entries
returns-in_err-sound_entries g c = λ telling.
    let image = lasts (g.R.Region.state c.args.region.now) in
    let l = c.in_ok-layout.layout in
    let kept = superblock_kept c.args.bytes image l (c.in_ok-layout.ensures.told telling) in
    let e = c.in_err-sound_entries.field-0.0 in
    handed_on (AnswersFault (first_fault c.args.bytes image)) c.from_residual-in_err-sound_entries.result e c.from_residual-in_err-sound_entries.ensures.1
    (region_cause c.args.bytes image l kept.0 kept.1 e (c.in_err-sound_entries.ensures.told telling))

pub returns : goal.returns
returns g c = λ telling.
    let image = lasts (g.R.Region.state c.args.region.now) in
    let l = c.in_ok-layout.layout in
    let kept = superblock_kept c.args.bytes image l (c.in_ok-layout.ensures.told telling) in
    region_whole c.args.bytes image l kept.0 kept.1 (c.in_ok-sound_entries.ensures.told telling).0
