use Rattle.std.proofs.Common.{◌≡◌, ◌≤◌, ◌<◌, ⊎_elim, ℕ, Some, None, sym, ◌∙◌, ap, arith, rules, subst}
use Rattle.std.proofs.lemmas.Bool.{cases_lt}
use Rattle.log_cleaner.specs.Choosing.{IsEligible}
use Rattle.log_cleaner.specs.Copying.{to_copy}
use Rattle.log_cleaner.proofs.FloorLaws.{searches_both, searches_itself}
use Rattle.log_cleaner.proofs.ChoiceLaws.{candidate_was, standing_searched}
use Rattle.log_cleaner.proofs.choosing.first_in.Goals as goal

pub loop-chunk-init : goal.loop-chunk-init
loop-chunk-init g c = record { same = searches_itself c.args.standing.now; floors = c.requires.floors; none = λ telling i low high. absurd (omega (arith, low, high)) }

pub candidate-requires-clause-standing : goal.candidate-requires-clause-standing
candidate-requires-clause-standing g c = λ telling. standing_searched (g.R.Region.state c.args.region.now) c.args.log.now c.args.standing.now c.loop-chunk.standing c.loop-chunk.invariant.same (c.requires.standing telling)

pub loop-chunk-preserved : goal.loop-chunk-preserved
loop-chunk-preserved g c =
    let s = g.R.Region.state c.args.region.now in
    let was = c.loop-chunk.invariant in
    record {
      same = searches_both c.args.standing.now c.loop-chunk.standing c.candidate.new.standing was.same c.candidate.ensures.same;
      floors = c.candidate.ensures.floors;
      none = λ telling i low high. ⊎_elim
          (λ (lt : i < c.loop-chunk.chunk). was.none telling i low lt)
          (λ (ge : c.loop-chunk.chunk ≤ i). let here : c.loop-chunk.chunk ≡ i = omega (arith, ge, high) in
          subst (λ (n : ℕ). IsEligible s c.args.log.now c.args.standing.now c.args.room.now n → ⊥) here
          (candidate_was s c.args.log.now c.args.standing.now c.loop-chunk.standing c.args.room.now c.loop-chunk.chunk None was.same (c.in_default.ensures.tells telling)))
          (cases_lt i c.loop-chunk.chunk);
    }

pub returns-in-Some-clause-tells : goal.returns-in-Some-clause-tells
returns-in-Some-clause-tells g c = λ telling.
    let s = g.R.Region.state c.args.region.now in
    let was = c.loop-chunk.invariant in
    let v = c.in-Some.victim in
    let at : v.chunk ≡ c.loop-chunk.chunk = c.in-Some.ensures.chosen.0 in
    let found = candidate_was s c.args.log.now c.args.standing.now c.loop-chunk.standing c.args.room.now c.loop-chunk.chunk (Some v) was.same (c.in-Some.ensures.tells telling) in
    let low : c.args.low ≤ c.loop-chunk.chunk = search rules in
    let high : c.loop-chunk.chunk < c.args.high = c.loop-chunk-test.true in (
      found.0 ∙ ap (to_copy s c.args.log.now c.args.standing.now) (sym at),
      subst (IsEligible s c.args.log.now c.args.standing.now c.args.room.now) (sym at) found.1,
      (omega (arith, at, low), omega (arith, at, high)),
      λ i le lt eligible. ⊎_elim
          (λ (below : i < c.loop-chunk.chunk). absurd (was.none telling i le below eligible))
          (λ (ge : c.loop-chunk.chunk ≤ i). omega (arith, ge, at))
          (cases_lt i c.loop-chunk.chunk),
    )

pub returns-in-Some-clause-same : goal.returns-in-Some-clause-same
returns-in-Some-clause-same g c = searches_both c.args.standing.now c.loop-chunk.standing c.candidate.new.standing c.loop-chunk.invariant.same c.candidate.ensures.same
