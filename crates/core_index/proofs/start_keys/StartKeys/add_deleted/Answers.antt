use Rattle.std.proofs.Common.{sym, subst}
use Rattle.core_index.specs.Tombs.{Tombs, key_of, place_of, tomb_home}
use Rattle.core_index.specs.Index.{LoneAdded}
use Rattle.core_index.proofs.StepLaws.{on_ok}
use Rattle.core_index.proofs.LoneLaws.{with_tombs}
use Rattle.core_index.proofs.StartLaws.{with_lone, deleted_added}
use Rattle.core_index.proofs.start_keys.StartKeys.add_deleted.Goals as goal

pub returns-clause-ok : goal.returns-clause-ok
returns-clause-ok c =
    let a = c.args.self.now in
    let t = c.args.tombstone in
    on_ok c.push.result (λ is. subst (λ (d : Tombs). LoneAdded a (with_lone a (with_tombs a.lone d)) (key_of t) (place_of t)) (sym is) (deleted_added a t c.requires.apart c.requires.above (c.push.ensures.room (tomb_home t)))) c.push.ensures.ok
