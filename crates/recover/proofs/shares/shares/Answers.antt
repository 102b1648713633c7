use Rattle.std.proofs.Common.{rules, ◌≡◌, List, [], get_or, map, take, take_all, refl, sym, subst, arith}
use Rattle.pm_region.specs.Words.{lasts}
use Rattle.store_image.specs.declared.types.PlacedEntry.{PlacedEntry}
use Rattle.recover.specs.declared.found_entries.Found.{Found}
use Rattle.recover.specs.FoundEntries.{placed_at, entries_at, Stands}
use Rattle.recover.specs.Standing.{standee_at}
use Rattle.recover.specs.Shares.{AreShares, GivesShares}
use Rattle.recover.proofs.CauseLaws.{handed_on, memory_cause}
use Rattle.recover.proofs.ListLaws.{all_at}
use Rattle.recover.specs.Winning.{winners_of}
use Rattle.recover.specs.Judging.{winners_fault}
use Rattle.recover.proofs.NameLaws.{any_default}
use Rattle.recover.proofs.FoundEntryLaws.{no_found}
use Rattle.recover.proofs.RunLaws.{run_begins}
use Rattle.recover.proofs.FaultLaws.{none_more, fault_found, none_at_all}
use Rattle.recover.proofs.KeyLaws.{run_of, first_key, new_key, run_keys, run_below, run_wins, have_key, lacks_key, split_run, stand_all}
use Rattle.recover.proofs.ShareLaws.{shares_none, spelled_none, shares_more}
use Rattle.recover.proofs.shares.shares.Goals as goal

abbrev nothing : Found
nothing = record { key = 0; version = 0; at = 0 }

pub give_key-requires-clause-below : goal.give_key-requires-clause-below
give_key-requires-clause-below g c =
    let fs = c.args.sorted.now in
    let r = c.key_run-run.result in
    let run = c.key_run-run.ensures in
    let high = run.high in
    let end = run.end in
    let x = get_or fs r.winner nothing in
    run_below fs c.loop-at.at r run x (any_default fs r.winner nothing x (omega (arith, high, end)))

pub loop-at-init : goal.loop-at-init
loop-at-init g c =
    let l = c.args.layout.now in
    let shares = c.in_ok-shares.shares.items in
    let count = c.in_ok-shares.ensures.count in
    let empty = c.in_ok-shares.ensures.empty in
    record {
      count = count;
      within = omega arith;
      fresh = first_key c.args.sorted.now c.requires.order;
      spelled = spelled_none l shares count empty;
      told = λ telling found. shares_none l shares count empty;
      begins = λ d some lt p. omega (arith, some);
      judged = λ telling found. record { pointers = λ p. search rules; none = refl };
    }

pub loop-at-preserved : goal.loop-at-preserved
loop-at-preserved g c =
    let l = c.args.layout.now in
    let image = lasts (g.R.Region.state c.args.region.now) in
    let inv = c.loop-at.invariant in
    let fs = c.args.sorted.now in
    let at = c.loop-at.at in
    let r = c.key_run-run.result in
    let run = c.key_run-run.ensures in
    let high = run.high in
    let end = run.end in
    let x = get_or fs r.winner nothing in
    let here : x ≡ get_or fs r.winner x = any_default fs r.winner nothing x (omega (arith, high, end)) in
    record {
      count = c.in_ok-give_key.ensures.count;
      within = run.end;
      fresh = new_key fs c.requires.order at r run;
      spelled = c.in_ok-give_key.ensures.spelled inv.spelled;
      told = λ telling found.
          let stands : Stands l image x = all_at (Stands l image) fs r.winner nothing found (omega (arith, high, end)) in
          let given = c.in_ok-give_key.ensures.gives telling stands in
          subst (λ (es : List PlacedEntry). AreShares l es c.give_key.new.shares.items) (sym (split_run fs at r run x here l image))
          (shares_more l (entries_at l image (take at fs)) (entries_at l image (run_of fs at r)) (placed_at l image x) (map (standee_at l) (run_of fs at r))
          (lacks_key fs at r run x here l image inv.fresh) (have_key fs at r run x here l image) (run_wins fs at r run x here l image)
          (λ v. stand_all l image x.key v (run_of fs at r) (run_keys fs at r run x here))
          c.loop-at.shares.items c.give_key.new.shares.items x refl refl given (inv.told telling found));
      begins = run_begins l image fs c.requires.order at inv.begins r run;
      judged = λ telling all.
          let so_far = inv.judged telling all in
          let stands = all_at (Stands l image) fs r.winner no_found all (omega (arith, high, end)) in
          let ws = winners_of (entries_at l image (take at fs)) in
          none_more l image fs c.requires.order at inv.begins r run no_found c.loop-at.taken c.judge_winner.new.taken so_far
          (c.in_ok-judge_winner.ensures.fault ws so_far.pointers telling stands) (c.in_ok-judge_winner.ensures.taken ws so_far.pointers telling stands);
    }

pub returns-clause-told : goal.returns-clause-told
returns-clause-told g c = λ telling found.
    let image = lasts (g.R.Region.state c.args.region.now) in
    let fs = c.args.sorted.now in
    let l = c.args.layout.now in
    let all : take c.loop-at.at fs ≡ fs = take_all c.loop-at.at fs c.loop-at-test.false in (
      none_at_all l image fs c.loop-at.at c.loop-at.taken c.loop-at-test.false (c.loop-at.invariant.judged telling found),
      subst (λ (xs : List Found). AreShares l (entries_at l image xs) c.loop-at.shares.items) all (c.loop-at.invariant.told telling found),
    )

pub returns-in_err-judge_winner-clause-told : goal.returns-in_err-judge_winner-clause-told
returns-in_err-judge_winner-clause-told g c = λ telling all.
    let image = lasts (g.R.Region.state c.args.region.now) in
    let l = c.args.layout.now in
    let fs = c.args.sorted.now in
    let at = c.loop-at.at in
    let r = c.key_run-run.result in
    let run = c.key_run-run.ensures in
    let high = run.high in
    let end = run.end in
    let inv = c.loop-at.invariant in
    let so_far = inv.judged telling all in
    let stands = all_at (Stands l image) fs r.winner no_found all (omega (arith, high, end)) in
    let e = c.in_err-judge_winner.field-0.0 in
    handed_on (GivesShares l image (entries_at l image fs)) c.from_residual-in_err-judge_winner.result e c.from_residual-in_err-judge_winner.ensures.1
    (fault_found l image fs c.requires.order at inv.begins r run no_found c.loop-at.taken so_far e
    (c.in_err-judge_winner.ensures.fault (winners_of (entries_at l image (take at fs))) so_far.pointers telling stands))

pub returns-in_err-give_key-clause-told : goal.returns-in_err-give_key-clause-told
returns-in_err-give_key-clause-told g c = λ telling found.
    let l = c.args.layout.now in
    let image = lasts (g.R.Region.state c.args.region.now) in
    let fs = c.args.sorted.now in
    let r = c.key_run-run.result in
    let high = c.key_run-run.ensures.high in
    let end = c.key_run-run.ensures.end in
    let first = winners_fault l image [] (winners_of (entries_at l image fs)) in
    let e = c.in_err-give_key.field-0.0 in
    let stands : Stands l image (get_or fs r.winner nothing) = all_at (Stands l image) fs r.winner nothing found (omega (arith, high, end)) in
    handed_on (GivesShares l image (entries_at l image fs)) c.from_residual-in_err-give_key.result e c.from_residual-in_err-give_key.ensures.1 (memory_cause first e (c.in_err-give_key.ensures.stands telling stands))
