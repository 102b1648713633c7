use Rattle.std.proofs.Common.{◌∙◌, ap}
use Rattle.group_laws.specs.Places.{members}
use Rattle.group_board.proofs.Calls.{doom_step, doom_view, doom_kept}
use Rattle.group_board.proofs.local_board.LocalBoard.doom.Goals as goal
use Rattle.group_board.specs.declared.board_journal.Act.TheVariants as acts
use Rattle.group_board.proofs.Journals as journals

pub invariant_of-self : goal.invariant_of-self
invariant_of-self g c =
    let me = c.args.self.now in
    let step = doom_step c.args.self.now.keeper.me.0 c.note.new.seat.me.0 c.args.member c.args.names.now (g.R.Region.state c.args.region.now).stamp c.note.ensures.1 c.requires in
    record {
      sized = (me.sized.0, me.sized.1, me.sized.2, me.sized.3, ap (λ p. members p) step.0 ∙ me.sized.4);
      here = c.note.ensures.0 ∙ me.here;
      kept = doom_kept c.args.self.now.keeper.me.0 c.note.new.seat.me.0 c.args.member me.member_count me.holder me.slots.items me.mail.items me.kept c.args.names.now (g.R.Region.state c.args.region.now).stamp c.note.ensures.1 step;
    }

pub returns-clause-step : goal.returns-clause-step
returns-clause-step g c = let me = c.args.self.now in doom_step c.args.self.now.keeper.me.0 c.note.new.seat.me.0 c.args.member c.args.names.now (g.R.Region.state c.args.region.now).stamp c.note.ensures.1 c.requires

pub returns-clause-view : goal.returns-clause-view
returns-clause-view g c = let me = c.args.self.now in doom_view c.args.self.now.keeper.me.0 c.note.new.seat.me.0 c.args.member c.args.names.now (g.R.Region.state c.args.region.now).stamp c.note.ensures.1

pub returns-clause-made : goal.returns-clause-made
returns-clause-made g c = journals.trail_is c.note.new.seat.me.0 c.args.self.now.keeper.me.0 c.args.member (acts.Doom c.args.names.now (g.R.Region.state c.args.region.now).stamp) c.note.ensures.1

pub returns-clause-at : goal.returns-clause-at
returns-clause-at g c = journals.at_is c.note.new.seat.me.0 c.args.self.now.keeper.me.0 c.args.member (acts.Doom c.args.names.now (g.R.Region.state c.args.region.now).stamp) c.note.ensures.1
