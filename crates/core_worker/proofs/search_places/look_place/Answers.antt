use Rattle.std.proofs.Common.{refl}
use Rattle.group_laws.specs.Runs.{Kind}
use Rattle.group_laws.specs.declared.types.Seen.TheVariants.{Slot}
use Rattle.batch_leader.proofs.Clients.{no_loads, load_more}
use Rattle.core_worker.proofs.search_places.look_place.Goals as goal

pub returns-in-Posted-clause-steps : goal.returns-in-Posted-clause-steps
returns-in-Posted-clause-steps g c =
    load_more _ _ _ _ _ _ (Kind.Look c.member-own.result c.args.slot) (Slot c.member-own.result c.args.slot c.look.ensures.view.0) (no_loads (g.B.Board.view c.args.board.now) (g.B.Board.trail c.args.board.now)) refl c.look.ensures.view.2 c.look.ensures.made
