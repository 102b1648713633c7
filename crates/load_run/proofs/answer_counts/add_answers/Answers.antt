use Rattle.std.proofs.Common.{◌+◌, ◌∷◌, [], ◌++◌, map, take, sym, ap, ◌∙◌, append_assoc, arith}
use Rattle.std.proofs.lemmas.List.{take_more, take_all}
use Rattle.engine_core.specs.Reports.{reply_in}
use Rattle.load_tally.specs.Tallied.{tally_of}
use Rattle.load_run.proofs.Loaded.{map_both}
use Rattle.load_run.proofs.answer_counts.add_answers.Goals as goal

pub loop-answer-preserved : goal.loop-answer-preserved
loop-answer-preserved c =
    let xs = c.args.answers.now in
    let i = c.loop-answer.answer-index in
    let x = c.answer-item.result in
    let more = take_more xs i x c.loop-answer-test.true ∙ ap (λ y. take i xs ++ y ∷ []) (sym c.answer-item.is) in
    record {
      counts = λ rs was. c.add_answer.ensures.counts (rs ++ map reply_in (take i xs)) (c.loop-answer.invariant.counts rs was)
          ∙ ap (λ l. tally_of l []) (append_assoc rs (map reply_in (take i xs)) (reply_in x ∷ []) ∙ ap (λ l. rs ++ l) (sym (ap (map reply_in) more ∙ map_both reply_in (take i xs) (x ∷ []))));
      within = c.add_answer.ensures.within;
      requests = (let one = c.add_answer.ensures.requests in let so_far = c.loop-answer.invariant.requests in omega (arith, one, so_far));
    }

pub returns-clause-counts : goal.returns-clause-counts
returns-clause-counts c rs was =
    let xs = c.args.answers.now in
    c.loop-answer.invariant.counts rs was ∙ ap (λ l. tally_of (rs ++ map reply_in l) []) (take_all c.loop-answer.answer-index xs c.loop-answer-test.false)
