use Rattle.std.proofs.Common.{[], ◌∷◌, None, refl, sym, ◌∙◌, ap}
use Rattle.group_laws.specs.Updates.{put2}
use Rattle.group_laws.specs.Runs as runs
use Rattle.group_laws.specs.MemberViews.{View}
use Rattle.batch_leader.specs.GivingBack.{failed}
use Rattle.core_worker.specs.declared.types.Leading.TheVariants as leads
use Rattle.core_worker.specs.Ties.{in_flight, is_lost}
use Rattle.core_worker.proofs.LeadTies.{led_here, leads_of}
use Rattle.core_worker.proofs.Led.{failed_by, failed_stands}
use Rattle.core_worker.proofs.Giving.{gives_some, leads_lost, lost_space, lost_flies}
use Rattle.core_worker.proofs.Made.{one_step}
use Rattle.core_worker.proofs.LeftItems.{fails_lower}
use Rattle.batch_leader.proofs.Clients.{turn_of_few}
use Rattle.core_worker.proofs.worker.Worker.fail_next.Goals as goal

pub returns-clause-holds : goal.returns-clause-holds
returns-clause-holds g c =
    let p = (g.B.Board.seat c.args.board.now).place in
    let m = (g.B.Board.seat c.args.board.now).number in
    let v = g.B.Board.view c.args.board.now in
    let u = g.B.Board.view c.fail_one-failed.new.board in
    let seat = g.B.Board.seat c.args.board.now in
    let had = led_here seat v c.args.self.now.leading (leads.Failed c.in-Failed.lost) c.requires.holds.leads (sym c.in-Failed.ensures.value) in
    let gave = gives_some c.fail_one-failed.result failed (λ a s. runs.Kind.Fail a s) m (g.B.Board.whole c.args.board.now) (g.B.Board.whole c.fail_one-failed.new.board) v u c.in-Failed.lost.left.taken.items c.fail_one-failed.new.self.left.taken.items c.fail_one-failed.ensures.gave had.2 in
    let left = c.still_lost.ensures in
    failed_by p m v u c.args.self.now (put2 v.taken gave.first.member gave.first.slot None) c.still_lost.result gave.view c.requires.holds
    (leads_of seat u c.still_lost.result (leads_lost seat u c.fail_one-failed.new.self.left.taken.items c.still_lost.result left c.fail_one-failed.ensures.lost (ap (λ (x : View). x.holds) gave.view ∙ had.1) (ap (λ (x : View). x.broken) gave.view)))
    (lost_space c.args.self.now c.fail_one-failed.new.self.left.taken.items c.still_lost.result left)
    (c.requires.holds.lost (ap is_lost (sym c.in-Failed.ensures.value)))
    (lost_flies c.fail_one-failed.new.self.left.taken.items c.still_lost.result left ∙ ap in_flight c.in-Failed.ensures.value)

pub returns-clause-stands : goal.returns-clause-stands
returns-clause-stands g c s S =
    let p = (g.B.Board.seat c.args.board.now).place in
    let m = (g.B.Board.seat c.args.board.now).number in
    let v = g.B.Board.view c.args.board.now in
    let u = g.B.Board.view c.fail_one-failed.new.board in
    let seat = g.B.Board.seat c.args.board.now in
    let had = led_here seat v c.args.self.now.leading (leads.Failed c.in-Failed.lost) c.requires.holds.leads (sym c.in-Failed.ensures.value) in
    let gave = gives_some c.fail_one-failed.result failed (λ a s. runs.Kind.Fail a s) m (g.B.Board.whole c.args.board.now) (g.B.Board.whole c.fail_one-failed.new.board) v u c.in-Failed.lost.left.taken.items c.fail_one-failed.new.self.left.taken.items c.fail_one-failed.ensures.gave had.2 in
    failed_stands s p m v u c.args.self.now (put2 v.taken gave.first.member gave.first.slot None) c.still_lost.result gave.view S

pub returns-clause-made : goal.returns-clause-made
returns-clause-made g c =
    let p = (g.B.Board.seat c.args.board.now).place in
    let m = (g.B.Board.seat c.args.board.now).number in
    let v = g.B.Board.view c.args.board.now in
    let u = g.B.Board.view c.fail_one-failed.new.board in
    let seat = g.B.Board.seat c.args.board.now in
    let had = led_here seat v c.args.self.now.leading (leads.Failed c.in-Failed.lost) c.requires.holds.leads (sym c.in-Failed.ensures.value) in
    let gave = gives_some c.fail_one-failed.result failed (λ a s. runs.Kind.Fail a s) m (g.B.Board.whole c.args.board.now) (g.B.Board.whole c.fail_one-failed.new.board) v u c.in-Failed.lost.left.taken.items c.fail_one-failed.new.self.left.taken.items c.fail_one-failed.ensures.gave had.2 in
    (runs.Kind.Fail gave.first.member gave.first.slot ∷ [], one_step (g.B.Board.whole c.args.board.now) (g.B.Board.whole c.fail_one-failed.new.board) m (runs.Kind.Fail gave.first.member gave.first.slot) u gave.whole)

pub returns-clause-fails : goal.returns-clause-fails
returns-clause-fails g c =
    let p = (g.B.Board.seat c.args.board.now).place in
    let m = (g.B.Board.seat c.args.board.now).number in
    let v = g.B.Board.view c.args.board.now in
    let u = g.B.Board.view c.fail_one-failed.new.board in
    let seat = g.B.Board.seat c.args.board.now in
    let had = led_here seat v c.args.self.now.leading (leads.Failed c.in-Failed.lost) c.requires.holds.leads (sym c.in-Failed.ensures.value) in
    let gave = gives_some c.fail_one-failed.result failed (λ a s. runs.Kind.Fail a s) m (g.B.Board.whole c.args.board.now) (g.B.Board.whole c.fail_one-failed.new.board) v u c.in-Failed.lost.left.taken.items c.fail_one-failed.new.self.left.taken.items c.fail_one-failed.ensures.gave had.2 in
    record {
      lost = c.in-Failed.lost;
      first = gave.first;
      rest = c.fail_one-failed.new.self.left.taken.items;
      led = sym c.in-Failed.ensures.value;
      order = gave.rest;
      leads_now = c.still_lost.ensures;
      view = gave.view;
      same = refl;
    }

pub returns-clause-less : goal.returns-clause-less
returns-clause-less g c =
    let m = (g.B.Board.seat c.args.board.now).number in
    let v = g.B.Board.view c.args.board.now in
    let u = g.B.Board.view c.fail_one-failed.new.board in
    let seat = g.B.Board.seat c.args.board.now in
    let had = led_here seat v c.args.self.now.leading (leads.Failed c.in-Failed.lost) c.requires.holds.leads (sym c.in-Failed.ensures.value) in
    let gave = gives_some c.fail_one-failed.result failed (λ a s. runs.Kind.Fail a s) m (g.B.Board.whole c.args.board.now) (g.B.Board.whole c.fail_one-failed.new.board) v u c.in-Failed.lost.left.taken.items c.fail_one-failed.new.self.left.taken.items c.fail_one-failed.ensures.gave had.2 in
    fails_lower (g.B.Board.whole c.args.board.now) (g.B.Board.whole c.fail_one-failed.new.board) m gave.first c.fail_one-failed.new.self.left.taken.items u c.args.self.now (record c.args.self.now { leading = c.still_lost.result }) c.still_lost.ensures refl (g.met.B.Board.lawful c.args.board.now) gave.whole

pub returns-clause-steps : goal.returns-clause-steps
returns-clause-steps g c passes s = turn_of_few c.fail_one-failed.result passes s _ _ _ _ _ _ c.fail_one-failed.ensures.steps
