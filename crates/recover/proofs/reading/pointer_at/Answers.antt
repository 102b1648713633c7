use Rattle.std.proofs.Common.{◌∙◌, ap, arith}
use Rattle.pm_region.specs.Words.{lasts}
use Rattle.log_entry.specs.Reading.{size_of}
use Rattle.recover.proofs.StandsLaws.{two_read}
use Rattle.recover.proofs.reading.pointer_at.Goals as goal

pub returns-in_default : goal.returns-in_default
returns-in_default g c = λ telling stands.
    let image = lasts (g.R.Region.state c.args.region.now) in
    let l = c.args.layout.now in
    let f = c.args.found.now in
    let first = c.load-first.ensures telling in
    let size = c.size_of.ensures.value ∙ ap size_of first in
    let low = c.size_of.ensures.low in
    let high = c.if-size_of-gt-SHORTEST_ENTRY.false in
    absurd (c.in_default.not-Entry _ _ (c.in_ok-entry.ensures.value ∙ two_read l image f stands c.load-first.result c.load.result first (c.load.ensures telling) (omega (arith, size, low, high))))
