use Rattle.std.proofs.Common.{arith}
use Rattle.range_scan.proofs.KeyLaws.{least_left, least_right, least_front, least_back}
use Rattle.range_scan.proofs.key_union.first_of.Goals as goal

pub returns-then-x-y : goal.returns-then-x-y
returns-then-x-y c = least_left c.args.front.now c.args.back.now c.in-Some-Some.x.now c.in-Some-Some.y.now c.in-Some-Some.ensures.value c.in-Some-Some.ensures'.value c.requires.front c.requires.back c.if-x-y.true

pub returns-else-x-y : goal.returns-else-x-y
returns-else-x-y c = least_right c.args.front.now c.args.back.now c.in-Some-Some.x.now c.in-Some-Some.y.now c.in-Some-Some.ensures.value c.in-Some-Some.ensures'.value c.requires.front c.requires.back (omega (arith, c.if-x-y.false))

pub returns-in-Some-None : goal.returns-in-Some-None
returns-in-Some-None c = least_front c.args.front.now c.args.back.now c.in-Some-None.x.now c.in-Some-None.ensures.value c.in-Some-None.ensures'.value c.requires.front

pub returns-in-None-Some : goal.returns-in-None-Some
returns-in-None-Some c = least_back c.args.front.now c.args.back.now c.in-None-Some.y.now c.in-None-Some.ensures.value c.in-None-Some.ensures'.value c.requires.back
