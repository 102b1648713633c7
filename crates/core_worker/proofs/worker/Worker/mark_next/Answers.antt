use Rattle.std.proofs.Common.{◌≡◌, inl, true, false, [], ◌∷◌, None, refl, sym, ◌∙◌, ap, subst}
use Rattle.group_laws.specs.Updates.{put2}
use Rattle.group_laws.specs.Runs as runs
use Rattle.group_laws.specs.MemberViews.{View}
use Rattle.batch_leader.specs.GivingBack.{marked}
use Rattle.core_worker.specs.declared.types.Leading.TheVariants as leads
use Rattle.core_worker.specs.Ties.{KeepsFlight, in_flight, is_lost}
use Rattle.core_worker.proofs.Flight.{led_on}
use Rattle.core_worker.specs.Status.{is_leading}
use Rattle.core_worker.proofs.CleaningKept.{leads_none}
use Rattle.core_worker.proofs.LeadTies.{led_here, leads_of}
use Rattle.core_worker.proofs.Led.{holds_by, stands_by}
use Rattle.core_worker.proofs.Giving.{gives_some, leads_certain, certain_space, certain_not_lost, certain_flies}
use Rattle.core_worker.proofs.Made.{one_step}
use Rattle.core_worker.proofs.LeftItems.{marks_lower}
use Rattle.batch_leader.proofs.Clients.{turn_of_few}
use Rattle.core_worker.proofs.worker.Worker.mark_next.Goals as goal

pub returns-clause-holds : goal.returns-clause-holds
returns-clause-holds g c =
    let p = (g.B.Board.seat c.args.board.now).place in
    let m = (g.B.Board.seat c.args.board.now).number in
    let v = g.B.Board.view c.args.board.now in
    let w = c.args.self.now in
    let u = g.B.Board.view c.mark_one-marked.new.board in
    let seat = g.B.Board.seat c.args.board.now in
    let had = led_here seat v c.args.self.now.leading (leads.Persisted c.in-Persisted.done) c.requires.holds.leads (sym c.in-Persisted.ensures.value) in
    let gave = gives_some c.mark_one-marked.result marked (λ a s. runs.Kind.Mark a s) m (g.B.Board.whole c.args.board.now) (g.B.Board.whole c.mark_one-marked.new.board) v u c.in-Persisted.done.left.taken.items c.mark_one-marked.new.self.left.taken.items c.mark_one-marked.ensures.gave had.3 in
    let left = c.still_certain.ensures in
    holds_by p m v u c.args.self.now v.flying (put2 v.taken gave.first.member gave.first.slot None) v.holds [] v.took c.still_certain.result gave.view c.requires.holds
    (leads_of seat u c.still_certain.result (leads_certain seat u c.mark_one-marked.new.self.left.taken.items c.still_certain.result left c.mark_one-marked.ensures.certain (ap (λ (x : View). x.holds) gave.view ∙ had.1) (λ b. ap (λ (x : View). x.flying) gave.view ∙ had.2 (sym (ap (λ (x : View). x.broken) gave.view) ∙ b))))
    (inl (leads_none p m v c.args.self.now c.requires.holds.cleaning (ap is_leading (sym c.in-Persisted.ensures.value))))
    (λ runs. certain_space c.args.self.now c.mark_one-marked.new.self.left.taken.items c.still_certain.result left)
    (λ e. absurd (let both : true ≡ false = sym e ∙ certain_not_lost c.mark_one-marked.new.self.left.taken.items c.still_certain.result left in cc both))
    (subst (λ (x : View). KeepsFlight x.flying x.broken c.still_certain.result w.lost_batch w.stopped) (sym gave.view) (led_on v.flying v.broken w.leading w.lost_batch w.stopped c.requires.holds.flight c.still_certain.result (certain_flies c.mark_one-marked.new.self.left.taken.items c.still_certain.result left ∙ ap in_flight c.in-Persisted.ensures.value) (ap is_lost (sym c.in-Persisted.ensures.value))))

pub returns-clause-stands : goal.returns-clause-stands
returns-clause-stands g c s S =
    let p = (g.B.Board.seat c.args.board.now).place in
    let m = (g.B.Board.seat c.args.board.now).number in
    let v = g.B.Board.view c.args.board.now in
    let u = g.B.Board.view c.mark_one-marked.new.board in
    let seat = g.B.Board.seat c.args.board.now in
    let had = led_here seat v c.args.self.now.leading (leads.Persisted c.in-Persisted.done) c.requires.holds.leads (sym c.in-Persisted.ensures.value) in
    let gave = gives_some c.mark_one-marked.result marked (λ a s. runs.Kind.Mark a s) m (g.B.Board.whole c.args.board.now) (g.B.Board.whole c.mark_one-marked.new.board) v u c.in-Persisted.done.left.taken.items c.mark_one-marked.new.self.left.taken.items c.mark_one-marked.ensures.gave had.3 in
    stands_by s p m v u c.args.self.now (put2 v.taken gave.first.member gave.first.slot None) v.holds [] v.took c.still_certain.result gave.view S

pub returns-clause-made : goal.returns-clause-made
returns-clause-made g c =
    let p = (g.B.Board.seat c.args.board.now).place in
    let m = (g.B.Board.seat c.args.board.now).number in
    let v = g.B.Board.view c.args.board.now in
    let u = g.B.Board.view c.mark_one-marked.new.board in
    let seat = g.B.Board.seat c.args.board.now in
    let had = led_here seat v c.args.self.now.leading (leads.Persisted c.in-Persisted.done) c.requires.holds.leads (sym c.in-Persisted.ensures.value) in
    let gave = gives_some c.mark_one-marked.result marked (λ a s. runs.Kind.Mark a s) m (g.B.Board.whole c.args.board.now) (g.B.Board.whole c.mark_one-marked.new.board) v u c.in-Persisted.done.left.taken.items c.mark_one-marked.new.self.left.taken.items c.mark_one-marked.ensures.gave had.3 in
    (runs.Kind.Mark gave.first.member gave.first.slot ∷ [], one_step (g.B.Board.whole c.args.board.now) (g.B.Board.whole c.mark_one-marked.new.board) m (runs.Kind.Mark gave.first.member gave.first.slot) u gave.whole)

pub returns-clause-marks : goal.returns-clause-marks
returns-clause-marks g c =
    let p = (g.B.Board.seat c.args.board.now).place in
    let m = (g.B.Board.seat c.args.board.now).number in
    let v = g.B.Board.view c.args.board.now in
    let u = g.B.Board.view c.mark_one-marked.new.board in
    let seat = g.B.Board.seat c.args.board.now in
    let had = led_here seat v c.args.self.now.leading (leads.Persisted c.in-Persisted.done) c.requires.holds.leads (sym c.in-Persisted.ensures.value) in
    let gave = gives_some c.mark_one-marked.result marked (λ a s. runs.Kind.Mark a s) m (g.B.Board.whole c.args.board.now) (g.B.Board.whole c.mark_one-marked.new.board) v u c.in-Persisted.done.left.taken.items c.mark_one-marked.new.self.left.taken.items c.mark_one-marked.ensures.gave had.3 in
    record {
      done = c.in-Persisted.done;
      first = gave.first;
      rest = c.mark_one-marked.new.self.left.taken.items;
      led = sym c.in-Persisted.ensures.value;
      order = gave.rest;
      leads_now = c.still_certain.ensures;
      view = gave.view;
      same = refl;
    }

pub returns-clause-less : goal.returns-clause-less
returns-clause-less g c =
    let m = (g.B.Board.seat c.args.board.now).number in
    let v = g.B.Board.view c.args.board.now in
    let u = g.B.Board.view c.mark_one-marked.new.board in
    let seat = g.B.Board.seat c.args.board.now in
    let had = led_here seat v c.args.self.now.leading (leads.Persisted c.in-Persisted.done) c.requires.holds.leads (sym c.in-Persisted.ensures.value) in
    let gave = gives_some c.mark_one-marked.result marked (λ a s. runs.Kind.Mark a s) m (g.B.Board.whole c.args.board.now) (g.B.Board.whole c.mark_one-marked.new.board) v u c.in-Persisted.done.left.taken.items c.mark_one-marked.new.self.left.taken.items c.mark_one-marked.ensures.gave had.3 in
    marks_lower (g.B.Board.whole c.args.board.now) (g.B.Board.whole c.mark_one-marked.new.board) m gave.first c.mark_one-marked.new.self.left.taken.items u c.args.self.now (record c.args.self.now { leading = c.still_certain.result }) c.still_certain.ensures refl (g.met.B.Board.lawful c.args.board.now) gave.whole

pub returns-clause-steps : goal.returns-clause-steps
returns-clause-steps g c passes s = turn_of_few c.mark_one-marked.result passes s _ _ _ _ _ _ c.mark_one-marked.ensures.steps
