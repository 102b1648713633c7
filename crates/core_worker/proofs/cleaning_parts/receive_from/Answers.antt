use Rattle.std.proofs.Common.{ℕ, false, sym, subst}
use Rattle.group_laws.specs.declared.types.Seen.TheVariants.{Mail}
use Rattle.group_laws.specs.MemberViews.{View}
use Rattle.group_board.specs.Mailing.{notices_of}
use Rattle.core_worker.specs.GoneNames.{KnowsAll}
use Rattle.core_worker.specs.LogNames.{KnowsBy, HearsNotices}
use Rattle.core_worker.proofs.LogNames.{received}
use Rattle.core_worker.proofs.RetiredKeys.{receives_keys}
use Rattle.group_laws.specs.Places.{core_of}
use Rattle.core_worker.proofs.Receiving.{knows_find, names_find}
use Rattle.core_worker.proofs.cleaning_parts.receive_from.Goals as goal

pub returns-in-None-clause-knows : goal.returns-in-None-clause-knows
returns-in-None-clause-knows g c = subst (λ (x : View). KnowsAll (g.B.Board.seat c.args.board.now).place (g.B.Board.seat c.args.board.now).number x c.args.places.now.items c.args.index.now) (sym c.in-None.ensures.view)
    (knows_find (g.B.Board.seat c.args.board.now).place (g.B.Board.seat c.args.board.now).number (Mail c.args.from (g.B.Board.seat c.args.board.now).number false) (g.B.Board.view c.args.board.now) c.args.places.now.items c.args.index.now c.requires.knows)

pub returns-in-None-clause-names : goal.returns-in-None-clause-names
returns-in-None-clause-names g c names = subst (λ (x : View). KnowsBy (g.B.Board.seat c.args.board.now).number x c.args.standing.now) (sym c.in-None.ensures.view)
    (names_find (g.B.Board.seat c.args.board.now).number (Mail c.args.from (g.B.Board.seat c.args.board.now).number false) (g.B.Board.view c.args.board.now) c.args.standing.now names)

pub returns-in-Some-clause-knows : goal.returns-in-Some-clause-knows
returns-in-Some-clause-knows g c =
    let p = (g.B.Board.seat c.args.board.now).place in
    let m = (g.B.Board.seat c.args.board.now).number in
    let X : HearsNotices (core_of p m) (notices_of c.in-Some.notices) c.args.places.now.items c.hear_notices.new.places.items c.args.index.now c.hear_notices.new.index c.args.standing.now c.hear_notices.new.standing =
    subst (λ (x : ℕ). HearsNotices x (notices_of c.in-Some.notices) c.args.places.now.items c.hear_notices.new.places.items c.args.index.now c.hear_notices.new.index c.args.standing.now c.hear_notices.new.standing) c.requires.core c.hear_notices.ensures.hears in
    receives_keys p m c.args.from (notices_of c.in-Some.notices) (g.B.Board.view c.args.board.now) (g.B.Board.view c.receive.new.self) c.args.places.now.items c.hear_notices.new.places.items c.args.index.now X.mid c.hear_notices.new.index
    c.requires.knows c.in-Some.ensures.heard c.in-Some.ensures.view X.loses X.heard

pub returns-in-Some-clause-names : goal.returns-in-Some-clause-names
returns-in-Some-clause-names g c names =
    let p = (g.B.Board.seat c.args.board.now).place in
    let m = (g.B.Board.seat c.args.board.now).number in
    (received p m c.args.from (notices_of c.in-Some.notices) (g.B.Board.view c.args.board.now) (g.B.Board.view c.receive.new.self) c.args.places.now.items c.hear_notices.new.places.items c.args.index.now c.hear_notices.new.index c.args.standing.now c.hear_notices.new.standing
    c.requires.knows names c.in-Some.ensures.heard c.in-Some.ensures.view
    (subst (λ (x : ℕ). HearsNotices x (notices_of c.in-Some.notices) c.args.places.now.items c.hear_notices.new.places.items c.args.index.now c.hear_notices.new.index c.args.standing.now c.hear_notices.new.standing) c.requires.core c.hear_notices.ensures.hears)).1
