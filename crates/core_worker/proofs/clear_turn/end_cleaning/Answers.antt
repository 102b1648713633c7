use Rattle.std.proofs.Common.{refl, sym, ◌∙◌, ap, arith}
use Rattle.core_log.specs.Log.{LogState, tail_of}
use Rattle.core_log.proofs.Clients.{without_self}
use Rattle.log_cleaner.proofs.TallyLaws.{floors_kept}
use Rattle.core_worker.proofs.clear_turn.end_cleaning.Goals as goal

pub returns-in-Ok-clause-ended : goal.returns-in-Ok-clause-ended
returns-in-Ok-clause-ended g c = record {
  log_is = c.in-Ok.ensures.ok.cleared.retired.log_is;
  gone = ap (λ (l : LogState). tail_of l.chunks c.args.clearing.chunk) c.in-Ok.ensures.ok.cleared.retired.log_is
      ∙ without_self c.args.log.now.chunks 0 c.args.clearing.chunk c.requires.ready.begins.stands.own.rising;
  gives = c.in-Ok.ensures.ok.gives;
  sets = c.in-Ok.ensures.sets;
  dropped = c.give_up.new.standing;
  drops = c.in-Ok.ensures.ok.cleared.dropped;
  mid = c.lose_names.new.index;
  loses = c.lose_names.ensures.loses;
  heard = c.hear_own.ensures.hears;
  tells = c.hear_own.ensures.own;
  room = (let same = c.in-Ok.ensures.room in let more = c.hear_own.ensures.own.room in omega (arith, same, more));
  names = (let less = c.in-Ok.ensures.count in let same = c.hear_own.ensures.count in omega (arith, less, same));
}

pub returns-in-Ok-clause-counted : goal.returns-in-Ok-clause-counted
returns-in-Ok-clause-counted g c telling =
    let up = c.in-Ok.ensures.ok.cleared.standing telling in
    let read = c.hear_own.ensures.own.settled ∙ c.in-Ok.ensures.read in
    record {
      counts = λ k n. c.hear_own.ensures.own.counts k n ∙ up.counts k n;
      settled = λ h at. absurd (cc (sym read ∙ at));
    }

pub returns-in-Ok-clause-read : goal.returns-in-Ok-clause-read
returns-in-Ok-clause-read g c = c.hear_own.ensures.own.settled ∙ c.in-Ok.ensures.read

pub returns-in-Ok-clause-untold : goal.returns-in-Ok-clause-untold
returns-in-Ok-clause-untold g c = (let less = c.lose_names.ensures.untold in let more = c.hear_own.ensures.untold in omega (arith, less, more))

pub returns-in-Err-clause-kept : goal.returns-in-Err-clause-kept
returns-in-Err-clause-kept g c = let e = c.in-Err.ensures.err in (e.0, e.2, e.1, e.3, refl, refl)

pub returns-in-Ok-clause-floors : goal.returns-in-Ok-clause-floors
returns-in-Ok-clause-floors g c = λ telling had. floors_kept (g.R.Region.state c.give_up.new.region) c.give_up.new.log c.give_up.new.standing c.hear_own.new.standing c.hear_own.ensures.own.tally (c.in-Ok.ensures.floors telling had)
