use Rattle.std.proofs.Common.{◌+◌, ◌-◌, [], length, map, refl, sym, ◌∙◌, ap, subst, arith}
use Rattle.answer_queue.specs.Accounts.{AreAmong}
use Rattle.answer_queue.specs.Queues.{account_of}
use Rattle.answer_cores.specs.Passes.{all_numbers}
use Rattle.thread_engine.specs.WorkStates.{sight_by}
use Rattle.thread_engine.specs.WindowJobs.{waiting_for}
use Rattle.thread_engine.specs.Takings.{numbered_from}
use Rattle.thread_engine.proofs.KeptAnswers.{stored_long}
use Rattle.thread_engine.proofs.WindowNumbers.{row_among}
use Rattle.thread_engine.proofs.WindowWork.{none_any, ok_then, not_so}
use Rattle.thread_engine.proofs.WindowSteps.{all_awaits, all_waiting, all_went, all_ended, all_given, all_rest, all_taken}
use Rattle.thread_engine.proofs.windows.work_window.Goals as goal

pub work_at_desk-requires-clause-awaits : goal.work_at_desk-requires-clause-awaits
work_at_desk-requires-clause-awaits g c κs within =
    let D = c.deal_window.ensures.some_ in
    all_awaits g.B.Board.seat (sight_by g.B.Board.view g.B.Board.trail g.B.Board.at) g.P.Region.state (g.G.Gate.may_refuse c.args.gate.now) c.begin.new.self.queue c.args.from D.dealt c.args.jobs.now c.deal_window.new.jobs c.requires.rest D.deals

pub work_at_desk-requires-clause-parts : goal.work_at_desk-requires-clause-parts
work_at_desk-requires-clause-parts g c =
    let same = c.deal_window.ensures.some_.deals.count in
    let few = c.requires.parts in
    omega (arith, same, few)

pub work_at_desk-requires-clause-may : goal.work_at_desk-requires-clause-may
work_at_desk-requires-clause-may g c κs within =
    let D = c.deal_window.ensures.some_ in
    subst (AreAmong (all_numbers (waiting_for c.deal_window.new.jobs))) (sym c.begin.ensures.may) (λ n.
    let waits = all_waiting g.B.Board.seat (sight_by g.B.Board.view g.B.Board.trail g.B.Board.at) g.P.Region.state (g.G.Gate.may_refuse c.args.gate.now) c.begin.new.self.queue c.args.from D.dealt c.args.jobs.now c.deal_window.new.jobs c.requires.rest D.deals n in
    let less = D.within in
    let row = row_among c.args.from (length D.dealt) (c.args.to - c.args.from) (omega (arith, less)) n in
    omega (arith, waits, row))

pub returns-then-dealt-clause-some_ : goal.returns-then-dealt-clause-some_
returns-then-dealt-clause-some_ g c =
    let seat = g.B.Board.seat in
    let sight = sight_by g.B.Board.view g.B.Board.trail g.B.Board.at in
    let state = g.P.Region.state in
    let refused = g.G.Gate.may_refuse c.args.gate.now in
    let q = c.begin.new.self.queue in
    let D = c.deal_window.ensures.some_ in
    let a = c.args.jobs.now in
    let b = c.deal_window.new.jobs in
    let e = c.work_at_desk.new.jobs in
    let taken = (account_of c.work_at_desk.new.desk.pass).took in
    let W = c.work_at_desk.ensures.worked in
    record {
      dealt = D.dealt;
      rest = D.rest;
      split = D.split;
      outs = W.outs;
      went = all_went seat sight state refused q c.args.from D.dealt a b c.requires.rest D.deals e taken W;
      ended = all_ended seat sight state refused q c.args.from D.dealt a b c.requires.rest D.deals e taken W;
      none = all_given seat sight state refused q c.args.from D.dealt a b c.requires.rest D.deals e taken W;
      taken = all_taken seat sight state refused q c.args.from D.dealt a b c.requires.rest D.deals e taken W c.args.to D.within c.args.window.now.items c.work_at_desk.new.window.items c.requires.places c.requires.few c.work_at_desk.ensures.kept;
    }

pub returns-then-dealt-clause-all : goal.returns-then-dealt-clause-all
returns-then-dealt-clause-all g c calm =
    let seat = g.B.Board.seat in
    let sight = sight_by g.B.Board.view g.B.Board.trail g.B.Board.at in
    let state = g.P.Region.state in
    let refused = g.G.Gate.may_refuse c.args.gate.now in
    let q = c.begin.new.self.queue in
    let D = ok_then c.deal_window.result _ (sym c.if-dealt.true ∙ c.is_ok-dealt.ensures.value) c.deal_window.ensures.all in
    let a = c.args.jobs.now in
    let b = c.deal_window.new.jobs in
    let e = c.work_at_desk.new.jobs in
    let taken = (account_of c.work_at_desk.new.desk.pass).took in
    let W = c.work_at_desk.ensures.worked in
    let end = D.end in
    record {
      dealt = D.dealt;
      split = D.split;
      end = D.end;
      outs = W.outs;
      went = all_went seat sight state refused q c.args.from D.dealt a b c.requires.rest D.deals e taken W;
      rest = all_rest seat sight state refused q c.args.from D.dealt a b c.requires.rest D.deals e taken W
          (λ i d low. none_any _ e (sym c.is_short.ensures ∙ not_so c.is_short.result calm) i d low);
      taken = all_taken seat sight state refused q c.args.from D.dealt a b c.requires.rest D.deals e taken W c.args.to (omega (arith, end)) c.args.window.now.items c.work_at_desk.new.window.items c.requires.places c.requires.few c.work_at_desk.ensures.kept;
    }

pub returns-else-dealt-clause-some_ : goal.returns-else-dealt-clause-some_
returns-else-dealt-clause-some_ g c =
    let seat = g.B.Board.seat in
    let sight = sight_by g.B.Board.view g.B.Board.trail g.B.Board.at in
    let state = g.P.Region.state in
    let refused = g.G.Gate.may_refuse c.args.gate.now in
    let q = c.begin.new.self.queue in
    let D = c.deal_window.ensures.some_ in
    let a = c.args.jobs.now in
    let b = c.deal_window.new.jobs in
    let e = c.work_at_desk.new.jobs in
    let taken = (account_of c.work_at_desk.new.desk.pass).took in
    let W = c.work_at_desk.ensures.worked in
    record {
      dealt = D.dealt;
      rest = D.rest;
      split = D.split;
      outs = W.outs;
      went = all_went seat sight state refused q c.args.from D.dealt a b c.requires.rest D.deals e taken W;
      ended = all_ended seat sight state refused q c.args.from D.dealt a b c.requires.rest D.deals e taken W;
      none = all_given seat sight state refused q c.args.from D.dealt a b c.requires.rest D.deals e taken W;
      taken = all_taken seat sight state refused q c.args.from D.dealt a b c.requires.rest D.deals e taken W c.args.to D.within c.args.window.now.items c.work_at_desk.new.window.items c.requires.places c.requires.few c.work_at_desk.ensures.kept;
    }

pub returns-then-dealt-clause-count : goal.returns-then-dealt-clause-count
returns-then-dealt-clause-count g c =
    ap length c.work_at_desk.ensures.kept ∙ stored_long (map (numbered_from c.args.from) (account_of c.work_at_desk.new.desk.pass).took) 0 c.args.window.now.items ∙ c.requires.places.count

pub returns-else-dealt-clause-count : goal.returns-else-dealt-clause-count
returns-else-dealt-clause-count g c =
    ap length c.work_at_desk.ensures.kept ∙ stored_long (map (numbered_from c.args.from) (account_of c.work_at_desk.new.desk.pass).took) 0 c.args.window.now.items ∙ c.requires.places.count
