use Rattle.std.proofs.Common.{rules, ◌≡◌, ◌%◌, ◌<◌, [], ◌∷◌, ◌++◌, None, sym, ◌∙◌, ap, subst, length, slice_set, arith}
use Rattle.chunk_map.specs.Layouts.{owner}
use Rattle.chunk_map.proofs.Clients.{numbers_of}
use Rattle.group_engine.specs.Runs.{ShowsRun}
use Rattle.engine_core.proofs.Clients.{on_err}
use Rattle.group_engine.proofs.Giving.{layout_is, gave_at, still_at}
use Rattle.group_engine.proofs.engine.EngineCores.give.Goals as goal

pub nonzero_rem-owner : goal.nonzero_rem-owner
nonzero_rem-owner g c =
    let W = g.W.CoreWorker in
    let en = c.args.self.now in
    let h = c.requires.2 in
    let n = (numbers_of en.layout (layout_is W.hands W.answers W.stands W.fair W.room W.leads (λ q. q.items) h.0 c.requires.1.engine h.1 c.requires.0 en.layout en.workers.items en.boards.items en.backlogs.items en.answers.items h.2.shows)).cores_low in
    omega (arith, n)

pub index_mut-requires : goal.index_mut-requires
index_mut-requires g c =
    let W = g.W.CoreWorker in
    let en = c.args.self.now in
    let h = c.requires.2 in
    let n = (numbers_of en.layout (layout_is W.hands W.answers W.stands W.fair W.room W.leads (λ q. q.items) h.0 c.requires.1.engine h.1 c.requires.0 en.layout en.workers.items en.boards.items en.backlogs.items en.answers.items h.2.shows)).cores_low in
    let k = h.2.shows.backlog_count in
    let low : c.key.result % en.layout.cores < length en.backlogs.items = omega (arith, n, k) in
    search rules

pub returns-clause-gave : goal.returns-clause-gave
returns-clause-gave g c = λ s e h.
    let W = g.W.CoreWorker in
    let en = c.args.self.now in
    let number_is : c.len-count.result ≡ length en.answers.items = (let z = c.len-count.ensures in search rules) in
    let was = c.requires.2 in
    let n = (numbers_of en.layout (layout_is W.hands W.answers W.stands W.fair W.room W.leads (λ q. q.items) was.0 c.requires.1.engine was.1 c.requires.0 en.layout en.workers.items en.boards.items en.backlogs.items en.answers.items was.2.shows)).cores_low in
    let k = was.2.shows.backlog_count in
    let low : c.key.result % en.layout.cores < length en.backlogs.items = omega (arith, n, k) in
    let r = gave_at W.hands W.answers W.stands W.fair W.room W.leads (λ q. q.items) h.0 e.engine h.1 s en.layout en.workers.items en.boards.items en.backlogs.items en.answers.items h.2.shows c.args.request c.index_mut.result.now c.append.new.backlog c.len-count.result (c.key.result % en.layout.cores)
    (ap (λ m. owner en.layout m) c.key.ensures) low number_is c.index_mut.ensures.value c.in_ok-append.ensures.appended c.push.new.self.items (c.in_ok-push.ensures.items ∙ ap (λ xs. xs ++ None ∷ []) c.in_ok-reserve-2.ensures.items) in
    let more : c.push.new.self.items ≡ en.answers.items ++ None ∷ [] = c.in_ok-push.ensures.items ∙ ap (λ xs. xs ++ None ∷ []) c.in_ok-reserve-2.ensures.items in
    (r.0, r.1, record { shows = r.2; workers_are = h.2.workers_are; answers_are = ap (λ xs. xs ++ None ∷ []) h.2.answers_are ∙ sym more }, h.3)

pub returns-in_err-append-clause-kept : goal.returns-in_err-append-clause-kept
returns-in_err-append-clause-kept g c =
    let W = g.W.CoreWorker in
    let en = c.args.self.now in
    let r = c.requires.2 in
    let n = (numbers_of en.layout (layout_is W.hands W.answers W.stands W.fair W.room W.leads (λ q. q.items) r.0 c.requires.1.engine r.1 c.requires.0 en.layout en.workers.items en.boards.items en.backlogs.items en.answers.items r.2.shows)).cores_low in
    let k = r.2.shows.backlog_count in
    let low : c.key.result % en.layout.cores < length en.backlogs.items = omega (arith, n, k) in
    on_err c.from_residual-in_err-append.result (λ s e h. (
      h.0,
      h.1,
      subst (λ ks. ShowsRun W.hands W.answers W.stands W.fair W.room W.leads (λ q. q.items) s en.layout en.workers.items en.boards.items (slice_set en.backlogs.items (c.key.result % en.layout.cores) c.append.new.backlog) ks e) (sym c.in_ok-reserve-2.ensures.items)
          (record { shows = still_at W.hands W.answers W.stands W.fair W.room W.leads (λ q. q.items) h.0 e.engine h.1 s en.layout en.workers.items en.boards.items en.backlogs.items en.answers.items h.2.shows c.index_mut.result.now c.append.new.backlog (c.key.result % en.layout.cores) c.index_mut.ensures.value c.in_err-append.ensures.kept low; workers_are = h.2.workers_are; answers_are = h.2.answers_are }),
      h.3,
    ))
