use Rattle.std.proofs.Common.{sym, subst}
use Rattle.core_index.specs.Tombs.{Tombs, tomb_home}
use Rattle.core_index.specs.Index.{OlderAdded}
use Rattle.core_index.proofs.StepLaws.{on_ok}
use Rattle.core_index.proofs.StartLaws.{older_added}
use Rattle.core_index.proofs.start_keys.StartKeys.add_older.Goals as goal

pub returns-clause-ok : goal.returns-clause-ok
returns-clause-ok c =
    let a = c.args.self.now in
    let t = c.args.older in
    on_ok c.push.result (λ is. subst (λ (d : Tombs). OlderAdded a (record { lone = a.lone; older = c.push.new.self; late = d }) t) (sym c.in_ok-reserve.ensures) (subst (λ (d : Tombs). OlderAdded a (record { lone = a.lone; older = d; late = a.late }) t) (sym is) (older_added a t c.requires.above c.requires.stands (c.push.ensures.room (tomb_home t))))) c.push.ensures.ok
