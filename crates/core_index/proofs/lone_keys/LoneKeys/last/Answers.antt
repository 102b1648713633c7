use Rattle.std.proofs.Common.{sym, ◌∙◌, ap}
use Rattle.core_index.specs.Records.{last_of}
use Rattle.core_index.proofs.LoneLaws.{known_live, known_deleted}
use Rattle.core_index.proofs.lone_keys.LoneKeys.last.Goals as goal

pub returns-in-None : goal.returns-in-None
returns-in-None c = c.last.ensures ∙ sym (ap last_of (known_deleted c.args.self.now c.args.key c.in-None.ensures.found))

pub returns-in-Some : goal.returns-in-Some
returns-in-Some c = c.last_of.ensures c.args.self.now.live.bytes ∙ sym (ap last_of (known_live c.args.self.now c.args.key c.in-Some.live c.in-Some.ensures.found))
