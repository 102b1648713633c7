use Rattle.std.proofs.Common.{Some, ◌∙◌, ap, subst}
use Rattle.log_cleaner.specs.Choosing.{IsVictim}
use Rattle.log_cleaner.specs.declared.types.Victim.{Victim}
use Rattle.core_worker.proofs.begin_cleaning.begin_cleaning.Goals as goal

pub returns-in-Some-clause-tells : goal.returns-in-Some-clause-tells
returns-in-Some-clause-tells g c telling = subst (IsVictim (g.R.Region.state c.args.region.now) c.args.log.now c.args.standing.now c.args.after c.args.room.now) c.in-Some.is (c.in_ok-victim.ensures.tells telling)

pub returns-in-Some-clause-counts : goal.returns-in-Some-clause-counts
returns-in-Some-clause-counts g c telling =
    let found : IsVictim (g.R.Region.state c.args.region.now) c.args.log.now c.args.standing.now c.args.after c.args.room.now (Some c.in-Some.victim) = subst (IsVictim (g.R.Region.state c.args.region.now) c.args.log.now c.args.standing.now c.args.after c.args.room.now) c.in-Some.is (c.in_ok-victim.ensures.tells telling) in
    record {
      entries = c.in_ok-tally-in-Some.ensures.entries ∙ ap (λ (v : Victim). v.entries) found.0;
      words = c.in_ok-tally-in-Some.ensures.words ∙ ap (λ (v : Victim). v.words) found.0;
      each = c.in_ok-tally-in-Some.ensures.each telling;
    }
