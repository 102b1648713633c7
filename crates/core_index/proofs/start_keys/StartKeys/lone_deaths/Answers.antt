use Rattle.std.proofs.Common.{arith}
use Rattle.core_index.specs.Index.{known_at}
use Rattle.core_index.specs.Starts.{started}
use Rattle.core_index.proofs.StartLaws.{start_calm, start_look, value_calm}
use Rattle.core_index.proofs.start_keys.StartKeys.lone_deaths.Goals as goal

pub returns-in_default-clause-deaths : goal.returns-in_default-clause-deaths
returns-in_default-clause-deaths c =
    let none = start_calm c.args.self.now c.args.key c.in_default.ensures.rising c.in_default.ensures.lone in
    omega (arith, none)

pub returns-in_default-look-clause-deaths : goal.returns-in_default-look-clause-deaths
returns-in_default-look-clause-deaths c =
    let a = c.args.self.now in
    let k = c.args.key in
    let none = value_calm (known_at (started a) k) c.look.result c.in_default-look.not-Deleted (start_look a k c.look.result c.look.ensures) in
    omega (arith, none)
