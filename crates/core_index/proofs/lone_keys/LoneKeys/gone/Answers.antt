use Rattle.std.proofs.Common.{Option, option_map, refl, sym, subst, arith}
use Rattle.core_index.specs.declared.lone_keys.LoneKeys.{LoneKeys}
use Rattle.core_index.specs.Records.{KeyRecord, Awaits, without}
use Rattle.core_index.specs.Tombs.{tomb_places}
use Rattle.core_index.specs.Index.{known_at, LoneTurns}
use Rattle.core_index.proofs.LoneLaws.{gone_live, gone_live_waits, gone_deleted, known_deleted, lone_less}
use Rattle.core_index.proofs.lone_keys.LoneKeys.gone.Goals as goal

pub returns-in-None-clause-gone : goal.returns-in-None-clause-gone
returns-in-None-clause-gone c =
    let a = c.args.self.now in
    let b : LoneKeys = record { live = a.live; deleted = c.gone.new.self } in
    let n = c.args.name in
    subst (λ (o : Option KeyRecord). LoneTurns a b n.key (option_map (without n.version) o)) (sym (known_deleted a n.key c.in-None.ensures.found)) (gone_deleted a b n.key (option_map (without n.version) (known_at (tomb_places a.deleted.items) n.key)) c.in-None.ensures.found refl c.gone.ensures.gone)

pub returns-in-None-clause-none : goal.returns-in-None-clause-none
returns-in-None-clause-none c = λ home v waits.
    let a = c.args.self.now in
    let b : LoneKeys = record { live = a.live; deleted = c.gone.new.self } in
    let n = c.args.name in
    subst (λ (o : Option KeyRecord). Awaits o home v) (sym (known_deleted a n.key c.in-None.ensures.found)) (c.gone.ensures.none home v (subst (λ (o : Option KeyRecord). Awaits o home v) (known_deleted b n.key c.in-None.ensures.found) waits))

pub returns-in-Some-clause-gone : goal.returns-in-Some-clause-gone
returns-in-Some-clause-gone c =
    let a = c.args.self.now in
    gone_live a (record { live = c.gone-in-Some.new.self; deleted = a.deleted }) c.args.name.key c.args.name.version c.in-Some.field-0 c.in-Some.ensures.found c.gone-in-Some.ensures.gone refl

pub returns-in-Some-clause-none : goal.returns-in-Some-clause-none
returns-in-Some-clause-none c = λ home v waits.
    let a = c.args.self.now in
    absurd (gone_live_waits a (record { live = c.gone-in-Some.new.self; deleted = a.deleted }) c.args.name.key c.args.name.version home v c.in-Some.field-0 c.in-Some.ensures.found c.gone-in-Some.ensures.gone waits)

pub returns-in-None-clause-untold : goal.returns-in-None-clause-untold
returns-in-None-clause-untold c = let a = c.args.self.now in lone_less a (record { live = a.live; deleted = c.gone.new.self }) (omega arith) c.gone.ensures.untold

pub returns-in-Some-clause-untold : goal.returns-in-Some-clause-untold
returns-in-Some-clause-untold c = let a = c.args.self.now in lone_less a (record { live = c.gone-in-Some.new.self; deleted = a.deleted }) c.gone-in-Some.ensures.untold (omega arith)
