use Rattle.std.proofs.Common.{sym, ◌∙◌}
use Rattle.core_index.specs.Records.{opened_with}
use Rattle.core_index.specs.Index.{place_at}
use Rattle.core_index.proofs.OverLaws.{none_of}
use Rattle.core_index.proofs.PlaceLaws.{all_fit}
use Rattle.core_index.proofs.compact.compact.Goals as goal

pub returns : goal.returns
returns c =
    let es = c.args.slots.now.entries in
    let a = c.args.start.now in
    let k = c.args.key in
    let known = opened_with c.args.version c.args.body.now c.args.standing.now in
    let made = c.tombstone_of-tombstone.ensures in
    all_fit c.tombstone_of-tombstone.result es a k c.args.version known (none_of (place_at es k) (sym c.has.ensures ∙ c.if-has.false)) (c.is_below.ensures c.if-not-is_below.false) (c.is_below-else-not-is_below.ensures c.if-not-is_below-2.false) (c.is_below-2.ensures c.if-not-is_below-3.false) made.key made.home made.left made.name
