use Rattle.range_scan.proofs.KeyLaws.{behind_none, behind_other}
use Rattle.range_scan.proofs.key_union.behind.Goals as goal

pub returns-in-None : goal.returns-in-None
returns-in-None c = behind_none c.args.keys.now c.args.key c.in-None.ensures.value

pub returns-else-first-key : goal.returns-else-first-key
returns-else-first-key c = behind_other c.args.keys.now c.in-Some.first.now c.args.key c.in-Some.ensures.value c.if-first-key.false c.requires.rising c.requires.low
