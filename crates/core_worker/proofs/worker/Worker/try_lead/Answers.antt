use Rattle.std.proofs.Common.{inl, true, [], subst, ◌∷◌, ◌++◌, refl, sym, ◌∙◌, ap}
use Rattle.group_laws.specs.declared.types.Seen.TheVariants as loads
use Rattle.group_laws.specs.MemberViews.{View}
use Rattle.core_worker.specs.declared.types.Leading.TheVariants as leads
use Rattle.core_worker.specs.Ties.{KeepsFlight, in_flight, is_lost}
use Rattle.batch_leader.specs.TakenChanges.{entries_taken}
use Rattle.core_worker.proofs.Flight.{led_on}
use Rattle.core_worker.proofs.LeadTies.{led_here, leads_of}
use Rattle.core_worker.proofs.Led.{holds_by, stands_by}
use Rattle.group_laws.specs.Runs as runs
use Rattle.batch_leader.proofs.Clients.{one_only}
use Rattle.core_worker.proofs.worker.Worker.try_lead.Goals as goal

pub returns-in-Ok-clause-holds : goal.returns-in-Ok-clause-holds
returns-in-Ok-clause-holds g c =
    let p = (g.B.Board.seat c.args.board.now).place in
    let m = (g.B.Board.seat c.args.board.now).number in
    let v = g.B.Board.view c.args.board.now in
    let w = c.args.self.now in
    let seat = g.B.Board.seat c.args.board.now in
    let had = led_here seat v c.args.self.now.leading (leads.Nothing c.in-Nothing.buffer) c.requires.holds.leads (sym c.in-Nothing.ensures.value) in
    holds_by p m v (g.B.Board.view c.lead.new.board) c.args.self.now v.flying v.taken true [] v.took (leads.Collecting c.in-Ok.collecting) c.in-Ok.ensures.view c.requires.holds (leads_of seat (g.B.Board.view c.lead.new.board) (leads.Collecting c.in-Ok.collecting) c.in-Ok.ensures.collects)
    (inl c.requires.clean) (λ runs some. absurd (some c.in-Ok.ensures.starts.0)) (λ e. absurd (cc e))
    (subst (λ (x : View). KeepsFlight x.flying x.broken (leads.Collecting c.in-Ok.collecting) w.lost_batch w.stopped) (sym c.in-Ok.ensures.view) (led_on v.flying v.broken w.leading w.lost_batch w.stopped c.requires.holds.flight (leads.Collecting c.in-Ok.collecting) (ap entries_taken c.in-Ok.ensures.starts.0 ∙ ap in_flight c.in-Nothing.ensures.value) (ap is_lost (sym c.in-Nothing.ensures.value))))

pub returns-in-Ok-clause-stands : goal.returns-in-Ok-clause-stands
returns-in-Ok-clause-stands g c s S =
    let p = (g.B.Board.seat c.args.board.now).place in
    let m = (g.B.Board.seat c.args.board.now).number in
    let v = g.B.Board.view c.args.board.now in
    stands_by s p m v (g.B.Board.view c.lead.new.board) c.args.self.now v.taken true [] v.took (leads.Collecting c.in-Ok.collecting) c.in-Ok.ensures.view S

pub returns-in-Err-clause-holds : goal.returns-in-Err-clause-holds
returns-in-Err-clause-holds g c =
    let p = (g.B.Board.seat c.args.board.now).place in
    let m = (g.B.Board.seat c.args.board.now).number in
    let v = g.B.Board.view c.args.board.now in
    let w = c.args.self.now in
    let seat = g.B.Board.seat c.args.board.now in
    let had = led_here seat v c.args.self.now.leading (leads.Nothing c.in-Nothing.buffer) c.requires.holds.leads (sym c.in-Nothing.ensures.value) in
    let view = c.in-Err.ensures.view in
    holds_by p m v (g.B.Board.view c.lead.new.board) c.args.self.now v.flying v.taken v.holds (v.looked ++ loads.Holder c.in-Err.busy.holder ∷ []) v.took (leads.Nothing c.in-Err.busy.buffer) view c.requires.holds
    (leads_of seat (g.B.Board.view c.lead.new.board) (leads.Nothing c.in-Err.busy.buffer) (ap (λ (x : View). x.holds) view ∙ had.0, (λ a t. ap (λ (x : View). x.taken a t) view ∙ had.1 a t), (λ b. ap (λ (x : View). x.flying) view ∙ had.2 (sym (ap (λ (x : View). x.broken) view) ∙ b))))
    (inl c.requires.clean) (λ runs. tt) (λ e. absurd (cc e))
    (subst (λ (x : View). KeepsFlight x.flying x.broken (leads.Nothing c.in-Err.busy.buffer) w.lost_batch w.stopped) (sym view) (led_on v.flying v.broken w.leading w.lost_batch w.stopped c.requires.holds.flight (leads.Nothing c.in-Err.busy.buffer) (ap in_flight c.in-Nothing.ensures.value) (ap is_lost (sym c.in-Nothing.ensures.value))))

pub returns-in-Err-clause-stands : goal.returns-in-Err-clause-stands
returns-in-Err-clause-stands g c s S =
    let p = (g.B.Board.seat c.args.board.now).place in
    let m = (g.B.Board.seat c.args.board.now).number in
    let v = g.B.Board.view c.args.board.now in
    stands_by s p m v (g.B.Board.view c.lead.new.board) c.args.self.now v.taken v.holds (v.looked ++ loads.Holder c.in-Err.busy.holder ∷ []) v.took (leads.Nothing c.in-Err.busy.buffer) c.in-Err.ensures.view S

pub returns-in-Err-clause-tried : goal.returns-in-Err-clause-tried
returns-in-Err-clause-tried g c = ((c.in-Err.busy.holder, c.in-Err.ensures.other, c.in-Err.ensures.view), (c.in-Err.busy.buffer, refl), refl)

pub returns-in-Ok-clause-steps : goal.returns-in-Ok-clause-steps
returns-in-Ok-clause-steps g c = one_only _ _ _ _ runs.Kind.Lock c.lead.ensures.step refl

pub returns-in-Err-clause-steps : goal.returns-in-Err-clause-steps
returns-in-Err-clause-steps g c = one_only _ _ _ _ runs.Kind.Lock c.lead.ensures.step refl
