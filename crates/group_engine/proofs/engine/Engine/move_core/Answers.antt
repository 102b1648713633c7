use Rattle.std.proofs.Common.{rules, ◌≡◌, ◌/◌, ◌<◌, Some, sym, ◌∙◌, ap, subst, length, arith}
use Rattle.group_board.specs.Journals.{state}
use Rattle.engine_laws.proofs.Clients.{some_group}
use Rattle.engine_core.specs.Answers.{HavePlaces, stored}
use Rattle.engine_core.specs.Seated.{Seat}
use Rattle.engine_core.specs.Reports.{HasRoomFor}
use Rattle.engine_core.proofs.Clients.{get_there, index_set, at_is, stored_length}
use Rattle.group_engine.proofs.Winding.{goes_on, winds_on, sure_of}
use Rattle.group_engine.proofs.Advancing as advancing
use Rattle.group_engine.proofs.engine.Engine.move_core.Goals as goal

pub nonzero_div-group : goal.nonzero_div-group
nonzero_div-group g c =
    let W = g.W.CoreWorker in
    let en = c.args.self.now in
    some_group en.layout (advancing.is_layout W.hands W.answers W.stands W.fair W.room W.leads (λ q. q.items) c.requires.stays.1 c.requires.stays.0 c.requires.stays.2 (g.R.Region.state c.args.region.now) en.layout en.workers.items en.boards.items en.backlogs.items en.answers.items c.requires.stays.3 c.args.core c.requires.core)

pub nonzero_rem-member : goal.nonzero_rem-member
nonzero_rem-member g c =
    let W = g.W.CoreWorker in
    let en = c.args.self.now in
    some_group en.layout (advancing.is_layout W.hands W.answers W.stands W.fair W.room W.leads (λ q. q.items) c.requires.stays.1 c.requires.stays.0 c.requires.stays.2 (g.R.Region.state c.args.region.now) en.layout en.workers.items en.boards.items en.backlogs.items en.answers.items c.requires.stays.3 c.args.core c.requires.core)

pub index_mut-requires-2 : goal.index_mut-requires-2
index_mut-requires-2 g c =
    let W = g.W.CoreWorker in
    let en = c.args.self.now in
    let low : c.args.core / en.layout.group < length en.boards.items = (let n = c.requires.stays.3.board_count in let k = advancing.group_there W.hands W.answers W.stands W.fair W.room W.leads (λ q. q.items) c.requires.stays.1 c.requires.stays.0 c.requires.stays.2 (g.R.Region.state c.args.region.now) en.layout en.workers.items en.boards.items en.backlogs.items en.answers.items c.requires.stays.3 c.args.core c.requires.core in omega (arith, n, k)) in
    search rules

pub step-result-requires-clause-stands : goal.step-result-requires-clause-stands
step-result-requires-clause-stands g c =
    let W = g.W.CoreWorker in
    let en = c.args.self.now in
    let s = g.R.Region.state c.args.region.now in
    let e = c.requires.stays.0 in
    let board = advancing.board_there W.hands W.answers W.stands W.fair W.room W.leads (λ q. q.items) c.requires.stays.1 e c.requires.stays.2 s en.layout en.workers.items en.boards.items en.backlogs.items en.answers.items c.requires.stays.3 c.args.core c.requires.core c.index_mut-2.result.now ∙ ap (λ b. state b.keeper.me.0) (sym c.index_mut-2.ensures.value) in
    let seat = subst (λ u. Seat W.hands W.answers W.stands W.fair W.room W.leads e c.args.core u) (sym c.index_mut.ensures.value) (advancing.worker_there W.hands W.answers W.stands W.fair W.room W.leads (λ q. q.items) c.requires.stays.1 e c.requires.stays.2 s en.layout en.workers.items en.boards.items en.backlogs.items en.answers.items c.requires.stays.3 c.args.core c.requires.core c.index_mut.result.now) in
    let waits = advancing.queue_there W.hands W.answers W.stands W.fair W.room W.leads (λ q. q.items) c.requires.stays.1 e c.requires.stays.2 s en.layout en.workers.items en.boards.items en.backlogs.items en.answers.items c.requires.stays.3 c.args.core c.requires.core c.index_mut-3.result.now ∙ ap (λ q. q.items) (sym c.index_mut-3.ensures.value) in
    advancing.asks_stands W.hands W.answers W.stands W.fair W.room W.leads (λ q. q.items) c.requires.stays.1 e c.requires.stays.2 s en.layout en.workers.items en.boards.items en.backlogs.items en.answers.items c.requires.stays.3 c.args.core c.requires.core c.index_mut-2.result.now c.index_mut.result.now c.index_mut-3.result.now board seat waits

pub step-result-requires-clause-own : goal.step-result-requires-clause-own
step-result-requires-clause-own g c =
    let W = g.W.CoreWorker in
    let en = c.args.self.now in
    let s = g.R.Region.state c.args.region.now in
    let e = c.requires.stays.0 in
    let board = advancing.board_there W.hands W.answers W.stands W.fair W.room W.leads (λ q. q.items) c.requires.stays.1 e c.requires.stays.2 s en.layout en.workers.items en.boards.items en.backlogs.items en.answers.items c.requires.stays.3 c.args.core c.requires.core c.index_mut-2.result.now ∙ ap (λ b. state b.keeper.me.0) (sym c.index_mut-2.ensures.value) in
    let seat = subst (λ u. Seat W.hands W.answers W.stands W.fair W.room W.leads e c.args.core u) (sym c.index_mut.ensures.value) (advancing.worker_there W.hands W.answers W.stands W.fair W.room W.leads (λ q. q.items) c.requires.stays.1 e c.requires.stays.2 s en.layout en.workers.items en.boards.items en.backlogs.items en.answers.items c.requires.stays.3 c.args.core c.requires.core c.index_mut.result.now) in
    let waits = advancing.queue_there W.hands W.answers W.stands W.fair W.room W.leads (λ q. q.items) c.requires.stays.1 e c.requires.stays.2 s en.layout en.workers.items en.boards.items en.backlogs.items en.answers.items c.requires.stays.3 c.args.core c.requires.core c.index_mut-3.result.now ∙ ap (λ q. q.items) (sym c.index_mut-3.ensures.value) in
    advancing.asks_own W.hands W.answers W.stands W.fair W.room W.leads (λ q. q.items) c.requires.stays.1 e c.requires.stays.2 s en.layout en.workers.items en.boards.items en.backlogs.items en.answers.items c.requires.stays.3 c.args.core c.requires.core c.index_mut-2.result.now c.index_mut.result.now c.index_mut-3.result.now board seat waits

pub step-result-requires-clause-fair : goal.step-result-requires-clause-fair
step-result-requires-clause-fair g c =
    let W = g.W.CoreWorker in
    let en = c.args.self.now in
    let s = g.R.Region.state c.args.region.now in
    let e = c.requires.stays.0 in
    let board = advancing.board_there W.hands W.answers W.stands W.fair W.room W.leads (λ q. q.items) c.requires.stays.1 e c.requires.stays.2 s en.layout en.workers.items en.boards.items en.backlogs.items en.answers.items c.requires.stays.3 c.args.core c.requires.core c.index_mut-2.result.now ∙ ap (λ b. state b.keeper.me.0) (sym c.index_mut-2.ensures.value) in
    let seat = subst (λ u. Seat W.hands W.answers W.stands W.fair W.room W.leads e c.args.core u) (sym c.index_mut.ensures.value) (advancing.worker_there W.hands W.answers W.stands W.fair W.room W.leads (λ q. q.items) c.requires.stays.1 e c.requires.stays.2 s en.layout en.workers.items en.boards.items en.backlogs.items en.answers.items c.requires.stays.3 c.args.core c.requires.core c.index_mut.result.now) in
    let waits = advancing.queue_there W.hands W.answers W.stands W.fair W.room W.leads (λ q. q.items) c.requires.stays.1 e c.requires.stays.2 s en.layout en.workers.items en.boards.items en.backlogs.items en.answers.items c.requires.stays.3 c.args.core c.requires.core c.index_mut-3.result.now ∙ ap (λ q. q.items) (sym c.index_mut-3.ensures.value) in
    advancing.asks_fair W.hands W.answers W.stands W.fair W.room W.leads (λ q. q.items) c.requires.stays.1 e c.requires.stays.2 s en.layout en.workers.items en.boards.items en.backlogs.items en.answers.items c.requires.stays.3 c.args.core c.requires.core c.index_mut-2.result.now c.index_mut.result.now c.index_mut-3.result.now board seat waits

pub collect-requires : goal.collect-requires
collect-requires g c =
    let W = g.W.CoreWorker in
    let en = c.args.self.now in
    let s = g.R.Region.state c.args.region.now in
    let t = g.R.Region.state c.step-result.new.region in
    let e = c.requires.stays.0 in
    let board = advancing.board_there W.hands W.answers W.stands W.fair W.room W.leads (λ q. q.items) c.requires.stays.1 e c.requires.stays.2 s en.layout en.workers.items en.boards.items en.backlogs.items en.answers.items c.requires.stays.3 c.args.core c.requires.core c.index_mut-2.result.now ∙ ap (λ b. state b.keeper.me.0) (sym c.index_mut-2.ensures.value) in
    let seat = subst (λ u. Seat W.hands W.answers W.stands W.fair W.room W.leads e c.args.core u) (sym c.index_mut.ensures.value) (advancing.worker_there W.hands W.answers W.stands W.fair W.room W.leads (λ q. q.items) c.requires.stays.1 e c.requires.stays.2 s en.layout en.workers.items en.boards.items en.backlogs.items en.answers.items c.requires.stays.3 c.args.core c.requires.core c.index_mut.result.now) in
    let waits = advancing.queue_there W.hands W.answers W.stands W.fair W.room W.leads (λ q. q.items) c.requires.stays.1 e c.requires.stays.2 s en.layout en.workers.items en.boards.items en.backlogs.items en.answers.items c.requires.stays.3 c.args.core c.requires.core c.index_mut-3.result.now ∙ ap (λ q. q.items) (sym c.index_mut-3.ensures.value) in
    let u_is = c.index_mut-4.ensures.value ∙ index_set en.workers.items c.args.core c.step-result.new.worker c.index_mut-4.result.now (let n = c.requires.stays.3.worker_count in let l = c.requires.core in omega (arith, n, l)) in
    let T = c.step-result.ensures.steps in
    subst (λ u. HavePlaces (length en.answers.items) (W.answers u)) (sym u_is) (advancing.have_places W.hands W.answers W.stands W.fair W.room W.leads (λ q. q.items) c.requires.stays.1 e c.requires.stays.2 s en.layout en.workers.items en.boards.items en.backlogs.items en.answers.items c.requires.stays.3 c.args.core c.requires.core c.index_mut-2.result.now c.index_mut.result.now c.index_mut-3.result.now board seat waits t c.step-result.new.board c.step-result.new.worker T.0 T.1 _ _ T.2)

pub returns-clause-advances : goal.returns-clause-advances
returns-clause-advances g c = λ w w_is o e S H.
    let W = g.W.CoreWorker in
    let en = c.args.self.now in
    let s = g.R.Region.state c.args.region.now in
    let t = g.R.Region.state c.step-result.new.region in
    let board = advancing.board_there W.hands W.answers W.stands W.fair W.room W.leads (λ q. q.items) o e S s en.layout en.workers.items en.boards.items en.backlogs.items en.answers.items H c.args.core c.requires.core c.index_mut-2.result.now ∙ ap (λ b. state b.keeper.me.0) (sym c.index_mut-2.ensures.value) in
    let seat = subst (λ u. Seat W.hands W.answers W.stands W.fair W.room W.leads e c.args.core u) (sym c.index_mut.ensures.value) (advancing.worker_there W.hands W.answers W.stands W.fair W.room W.leads (λ q. q.items) o e S s en.layout en.workers.items en.boards.items en.backlogs.items en.answers.items H c.args.core c.requires.core c.index_mut.result.now) in
    let waits = advancing.queue_there W.hands W.answers W.stands W.fair W.room W.leads (λ q. q.items) o e S s en.layout en.workers.items en.boards.items en.backlogs.items en.answers.items H c.args.core c.requires.core c.index_mut-3.result.now ∙ ap (λ q. q.items) (sym c.index_mut-3.ensures.value) in
    let u_is = c.index_mut-4.ensures.value ∙ index_set en.workers.items c.args.core c.step-result.new.worker c.index_mut-4.result.now (let n = H.worker_count in let l = c.requires.core in omega (arith, n, l)) in
    let r =
    advancing.advanced W.hands W.answers W.stands W.fair W.room W.leads (λ q. q.items) o e S s en.layout en.workers.items en.boards.items en.backlogs.items en.answers.items H c.args.core c.requires.core c.index_mut-2.result.now c.index_mut.result.now c.index_mut-3.result.now board seat waits t c.step-result.new.board c.step-result.new.worker g.met.W.CoreWorker.apart g.met.W.CoreWorker.beside c.collect.new.worker c.index_mut-4.result.now u_is c.collect.ensures.hands c.collect.ensures.stands c.collect.ensures.fair c.collect.ensures.open c.collect.ensures.answers c.step-result.new.backlog c.collect.new.kept.items (c.collect.ensures.kept ∙ ap (λ n. stored (W.answers c.index_mut-4.result.now) n en.answers.items) c.stamp.ensures)
    W.begins W.turned W.alike (get_there en.workers.items c.args.core c.index_mut.result.now (let n = H.worker_count in let l = c.requires.core in omega (arith, n, l)) ∙ ap Some (sym c.index_mut.ensures.value)) c.collect.ensures.alike (W.winds c.index_mut.result.now) c.step-result.result c.step-result.ensures.steps c.step-result.ensures.does in
    let same : c.index_mut.result.now ≡ w = at_is en.workers.items c.args.core c.index_mut.result.now w w_is c.index_mut.ensures.value in
    (r.0, r.1.0, r.1.1, r.1.2, r.2, λ off. r.3 (ap W.winds same ∙ off))

pub returns-clause-less : goal.returns-clause-less
returns-clause-less g c =
    let W = g.W.CoreWorker in
    let en = c.args.self.now in
    let s = g.R.Region.state c.args.region.now in
    let e = c.requires.stays.0 in
    let cores = c.requires.core in
    let group = advancing.group_there W.hands W.answers W.stands W.fair W.room W.leads (λ q. q.items) c.requires.stays.1 e c.requires.stays.2 s en.layout en.workers.items en.boards.items en.backlogs.items en.answers.items c.requires.stays.3 c.args.core c.requires.core in
    let u_is = c.index_mut-4.ensures.value ∙ index_set en.workers.items c.args.core c.step-result.new.worker c.index_mut-4.result.now (let n = c.requires.stays.3.worker_count in let l = c.requires.core in omega (arith, n, l)) in
    advancing.falls W.left W.under_way W.most (λ q. q.items) en.workers.items en.boards.items en.backlogs.items c.args.core (c.args.core / en.layout.group) c.index_mut.result.now c.step-result.new.worker c.collect.new.worker c.index_mut-2.result.now c.step-result.new.board c.index_mut-3.result.now c.step-result.new.backlog
    (let n = c.requires.stays.3.worker_count in omega (arith, n, cores)) (let n = c.requires.stays.3.board_count in omega (arith, n, group)) (let n = c.requires.stays.3.backlog_count in omega (arith, n, cores)) c.index_mut.ensures.value c.index_mut-2.ensures.value c.index_mut-3.ensures.value (c.collect.ensures.left ∙ ap W.left u_is) c.step-result.result c.step-result.ensures.less

pub returns-clause-idle : goal.returns-clause-idle
returns-clause-idle g c =
    let W = g.W.CoreWorker in
    let en = c.args.self.now in
    let s = g.R.Region.state c.args.region.now in
    let e = c.requires.stays.0 in
    let cores = c.requires.core in
    let group = advancing.group_there W.hands W.answers W.stands W.fair W.room W.leads (λ q. q.items) c.requires.stays.1 e c.requires.stays.2 s en.layout en.workers.items en.boards.items en.backlogs.items en.answers.items c.requires.stays.3 c.args.core c.requires.core in
    let u_is = c.index_mut-4.ensures.value ∙ index_set en.workers.items c.args.core c.step-result.new.worker c.index_mut-4.result.now (let n = c.requires.stays.3.worker_count in let l = c.requires.core in omega (arith, n, l)) in
    advancing.stays W.left W.under_way W.most (λ q. q.items) en.workers.items en.boards.items en.backlogs.items c.args.core (c.args.core / en.layout.group) c.index_mut.result.now c.step-result.new.worker c.collect.new.worker c.index_mut-2.result.now c.step-result.new.board c.index_mut-3.result.now c.step-result.new.backlog
    (let n = c.requires.stays.3.worker_count in omega (arith, n, cores)) (let n = c.requires.stays.3.board_count in omega (arith, n, group)) (let n = c.requires.stays.3.backlog_count in omega (arith, n, cores)) c.index_mut.ensures.value c.index_mut-2.ensures.value c.index_mut-3.ensures.value (c.collect.ensures.left ∙ ap W.left u_is) c.step-result.result c.step-result.ensures.idle

pub returns-clause-goes : goal.returns-clause-goes
returns-clause-goes g c = λ none.
    let W = g.W.CoreWorker in
    let en = c.args.self.now in
    let low = c.requires.core in
    let n = c.requires.stays.3.worker_count in
    let there : c.args.core < length en.workers.items = omega (arith, low, n) in
    let u_is = c.index_mut-4.ensures.value ∙ index_set en.workers.items c.args.core c.step-result.new.worker c.index_mut-4.result.now there in
    goes_on W.winds en.workers.items c.args.core there c.index_mut.result.now c.step-result.new.worker c.collect.new.worker c.index_mut.ensures.value c.step-result.result c.step-result.ensures.winds (c.collect.ensures.winds ∙ ap W.winds u_is) none

pub returns-clause-winds : goal.returns-clause-winds
returns-clause-winds g c = λ all.
    let W = g.W.CoreWorker in
    let en = c.args.self.now in
    let low = c.requires.core in
    let n = c.requires.stays.3.worker_count in
    let there : c.args.core < length en.workers.items = omega (arith, low, n) in
    let u_is = c.index_mut-4.ensures.value ∙ index_set en.workers.items c.args.core c.step-result.new.worker c.index_mut-4.result.now there in
    winds_on W.winds en.workers.items c.args.core there c.index_mut.result.now c.step-result.new.worker c.collect.new.worker c.index_mut.ensures.value c.step-result.result c.step-result.ensures.winds c.step-result.ensures.awake (c.collect.ensures.winds ∙ ap W.winds u_is) all

pub returns-clause-sure : goal.returns-clause-sure
returns-clause-sure g c =
    let W = g.W.CoreWorker in
    sure_of W.winds c.args.self.now.workers.items c.args.core c.index_mut.result.now c.index_mut.ensures.value c.step-result.result c.step-result.ensures.awake

-- the answers are as many as before
pub invariant_of-self : goal.invariant_of-self
invariant_of-self g c =
    let en = c.args.self.now in
    let same : length c.collect.new.kept.items ≡ length en.answers.items = ap length c.collect.ensures.kept ∙ stored_length (g.W.CoreWorker.answers c.index_mut-4.result.now) c.stamp.result en.answers.items in
    record { blank = en.blank; room = subst (λ n. HasRoomFor n en.report) (sym same) en.room }
