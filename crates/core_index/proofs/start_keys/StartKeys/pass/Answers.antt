use Rattle.std.proofs.Common.{sym, subst}
use Rattle.core_index.specs.Tombs.{Tombs}
use Rattle.core_index.proofs.LoneLaws.{with_tombs}
use Rattle.core_index.proofs.StartLaws.{map_none, map_some, none_ahead, passes_older, PassesOne}
use Rattle.core_index.proofs.start_keys.StartKeys.pass.Goals as goal

pub returns-in-None-pass-clause-none : goal.returns-in-None-pass-clause-none
returns-in-None-pass-clause-none c = map_none c.pass-in-None-pass.result (λ none n. none_ahead c.args.self.now c.args.home n (c.in-None.ensures.none n) (c.in-None-pass.ensures.none n) (none n)) c.pass-in-None-pass.ensures.none

pub returns-in-None-pass-clause-others : goal.returns-in-None-pass-clause-others
returns-in-None-pass-clause-others c =
    let a = c.args.self.now in
    let d = c.pass-in-None-pass.new.self in
    map_some c.pass-in-None-pass.result (λ t passes. subst (λ (l : Tombs). PassesOne a (record { lone = with_tombs a.lone l; older = d; late = c.pass-in-None.new.self }) c.args.home t) (sym c.in-None.ensures.unchanged) (subst (λ (e : Tombs). PassesOne a (record { lone = a.lone; older = d; late = e }) c.args.home t) (sym c.in-None-pass.ensures.unchanged) (passes_older a d c.args.home t passes))) c.pass-in-None-pass.ensures.others
