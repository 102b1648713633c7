use Rattle.pm_region.specs.Words.{lasts}
use Rattle.store_image.specs.declared.types.Fault.TheVariants.{NotARegion}
use Rattle.recover.specs.declared.types.RecoverError.TheVariants as errors
use Rattle.recover.specs.Logged.{ListsLogs}
use Rattle.recover.proofs.FoundLaws.{superblock_kept, covers_all}
use Rattle.recover.proofs.CauseLaws.{handed_on, superblock_cause, logged}
use Rattle.recover.proofs.logged_entries.log_entries.Goals as goal

pub logged-requires : goal.logged-requires
logged-requires g c = record { covers = covers_all (g.R.Region.state c.args.region.now).frame c.in_ok-layout.layout c.args.bytes c.requires.first c.requires.words c.in_ok-layout.ensures.bytes.0 c.in_ok-layout.ensures.bytes.1 }

pub returns-in_err-layout : goal.returns-in_err-layout
returns-in_err-layout g c = λ telling.
    let image = lasts (g.R.Region.state c.args.region.now) in
    let bad = c.in_err-layout.field-0.0 in
    handed_on (ListsLogs c.args.bytes image) c.from_residual.result (errors.Fault (NotARegion bad.rule)) c.from_residual.ensures.1
    (superblock_cause c.args.bytes image bad (c.in_err-layout.ensures.told telling))

pub returns : goal.returns
returns g c = λ telling.
    let image = lasts (g.R.Region.state c.args.region.now) in
    let l = c.in_ok-layout.layout in
    let kept = superblock_kept c.args.bytes image l (c.in_ok-layout.ensures.told telling) in
    logged c.args.bytes image l kept.0 kept.1 c.logged.result (c.logged.ensures telling)
