use Rattle.std.proofs.Common.{rules, Some, sym, subst, ⊎_elim}
use Rattle.group_board.specs.Journals.{state}
use Rattle.group_laws.specs.MemberViews.{view_of}
use Rattle.engine_core.specs.Calls.{Turns, is_idle}
use Rattle.engine_core.proofs.Stepping.{turned, taken_in, turned_as, Stepped}
use Rattle.engine_core.proofs.engine_step.step.Goals as goal

pub returns-clause-steps : goal.returns-clause-steps
returns-clause-steps g c =
    let W = g.W.CoreWorker in
    let a = state c.args.board.now.keeper.me.0 in
    ⊎_elim
    (λ handed. let H = handed.1 in
    subst (λ d. Stepped W.hands W.answers W.stands W.fair W.room W.leads a.place c.args.member (g.R.Region.state c.args.region.now) (g.R.Region.state c.step_core.new.region) a (state d.keeper.me.0) (view_of a c.args.member) (view_of (state d.keeper.me.0) c.args.member) c.args.worker.now c.step_core.new.worker c.args.backlog.now.items c.step_core.new.backlog.items (W.winds c.args.worker.now) c.step_core.result) (sym handed.2)
    (subst (λ t. Stepped W.hands W.answers W.stands W.fair W.room W.leads a.place c.args.member (g.R.Region.state c.args.region.now) (g.R.Region.state t) a a (view_of a c.args.member) (view_of a c.args.member) c.args.worker.now c.step_core.new.worker c.args.backlog.now.items c.step_core.new.backlog.items (W.winds c.args.worker.now) c.step_core.result) (sym handed.3)
    (taken_in W.hands W.answers W.stands W.fair W.room W.leads a.place c.args.member _ a _ _ _ c.args.backlog.now.items H.rest c.step_core.new.backlog.items H.next _ c.step_core.result H.first handed.0 c.requires.fair c.requires.stands c.requires.own H.moved H.failed H.taken H.back)))
    (λ gave. let T = turned_as gave.2 (λ w b r x d t. Turns W.hands W.answers W.stands W.fair W.room W.leads (state b.keeper.me.0).place c.args.member (g.R.Region.state r) (g.R.Region.state t) (Some (state b.keeper.me.0)) (Some (state d.keeper.me.0)) (view_of (state b.keeper.me.0) c.args.member) (view_of (state d.keeper.me.0) c.args.member) w x (is_idle c.step_core.result) (W.winds w)) (λ i j k l m n made. search rules) in
    turned W.hands W.answers W.stands W.fair W.room W.leads a.place c.args.member _ _ a _ _ _ c.args.worker.now c.step_core.new.worker c.args.backlog.now.items c.step_core.new.backlog.items _ c.step_core.result gave.1 gave.0 T)
    c.step_core.ensures
