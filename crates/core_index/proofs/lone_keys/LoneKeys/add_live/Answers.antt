use Rattle.std.proofs.Common.{◌++◌}
use Rattle.core_index.specs.Lives.{bytes_in, live_key, live_place}
use Rattle.core_index.proofs.StepLaws.{on_ok}
use Rattle.core_index.proofs.LoneLaws.{added_live}
use Rattle.core_index.proofs.lone_keys.LoneKeys.add_live.Goals as goal

pub returns-clause-ok : goal.returns-clause-ok
returns-clause-ok c =
    let a = c.args.self.now in
    on_ok c.push.result (λ turns. added_live a c.push.new.self (live_key c.args.live) (live_place (a.live.bytes ++ bytes_in c.args.body.now) c.args.live) turns) c.push.ensures.ok
