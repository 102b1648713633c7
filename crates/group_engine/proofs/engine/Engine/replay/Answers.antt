use Rattle.std.proofs.Common.{◌<◌, ◌∙◌, refl, sym, subst}
use Rattle.chunk_map.specs.declared.layouts.Geometry.{Geometry}
use Rattle.chunk_map.specs.Layouts.{layout_of}
use Rattle.engine_laws.specs.Stands.{opening, given_to}
use Rattle.engine_laws.specs.Promises.{AnyTurn}
use Rattle.engine_laws.specs.Ran.{Ran}
use Rattle.engine_laws.proofs.Clients.{opens, ceased, done, promised, ran_seen}
use Rattle.group_engine.specs.Runs.{RunMoves, first_state, with_request}
use Rattle.engine_core.proofs.Clients.{ok_then, err_then}
use Rattle.group_engine.proofs.Running.{shows_first}
use Rattle.group_engine.proofs.engine.Engine.replay.Goals as goal

pub replay-requires-clause-shows : goal.replay-requires-clause-shows
replay-requires-clause-shows g c =
    let W = g.W.CoreWorker in
    let en = c.args.self.now in
    let o = c.requires.opened.0 in
    let is = c.requires.opened.1 in
    let k = c.requires.opened.2 in (
      first_state o en.workers.items,
      (
        o,
        opens o is.sound is.first is.words is.certain,
        shows_first W.hands W.answers W.stands W.fair W.room W.leads (λ q. q.items) o _ en.layout en.workers.items en.boards.items en.backlogs.items en.answers.items k,
        λ d w at. g.met.W.CoreWorker.wakes w (sym (k.seats d w at).takes),
      ),
    )

pub returns : goal.returns
returns g c =
    let W = g.W.CoreWorker in
    let en = c.args.self.now in
    let moves = RunMoves W.hands W.answers W.stands W.fair W.room W.leads W.begins W.turned W.alike in
    record {
      failed = err_then c.replay.result (λ h o is k.
          let S = opens o is.sound is.first is.words is.certain in
          let first = shows_first W.hands W.answers W.stands W.fair W.room W.leads (λ q. q.items) o _ en.layout en.workers.items en.boards.items en.backlogs.items en.answers.items k in
          let r = h (first_state o en.workers.items) (o, S, first, λ d w at. g.met.W.CoreWorker.wakes w (sym (k.seats d w at).takes)) in
          let T = r.2.ends.stands o S in
          (r.0, r.1.2, r.2.ends, promised o r.0 T, ceased o r.0 T (λ d low. r.2.rest d (subst (λ (l : Geometry). d < l.cores) (T.layout ∙ k.layout) low)))) c.replay.ensures.failed;
      ran = ok_then c.replay.result (λ h o is k.
          let first = shows_first W.hands W.answers W.stands W.fair W.room W.leads (λ q. q.items) o _ en.layout en.workers.items en.boards.items en.backlogs.items en.answers.items k in
          let r = h (first_state o en.workers.items) (o, opens o is.sound is.first is.words is.certain, first, λ d w at. g.met.W.CoreWorker.wakes w (sym (k.seats d w at).takes)) in
          let run : Ran moves with_request (layout_of o.found).cores c.args.lines.items (first_state o en.workers.items) r.0 = subst (λ (l : Geometry). Ran moves with_request l.cores c.args.lines.items (first_state o en.workers.items) r.0) (sym k.layout) r.2 in
          let seen : Ran AnyTurn given_to (layout_of o.found).cores c.args.lines.items (opening o) r.0.engine = ran_seen (λ e. e.engine) moves AnyTurn (λ e d b f m. m.turn) with_request given_to (λ e q. refl) (layout_of o.found).cores c.args.lines.items (first_state o en.workers.items) r.0 run in
          (r.0, r.1.2, run, done o c.args.lines.items r.0.engine is seen)) c.replay.ensures.ran;
    }
