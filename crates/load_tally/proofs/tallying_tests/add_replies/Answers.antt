use Rattle.std.proofs.Common.{◌+◌, ◌∷◌, [], ◌++◌, take, sym, ap, ◌∙◌, append_assoc, arith}
use Rattle.std.proofs.lemmas.List.{take_more, take_all}
use Rattle.load_tally.specs.Tallied.{tally_of}
use Rattle.load_tally.proofs.tallying_tests.add_replies.Goals as goal

pub loop-reply-preserved : goal.loop-reply-preserved
loop-reply-preserved c =
    let xs = c.args.replies.now in
    let i = c.loop-reply.reply-index in
    let x = c.reply-item.result in
    let more = take_more xs i x c.loop-reply-test.true ∙ ap (λ y. take i xs ++ y ∷ []) (sym c.reply-item.is) in
    record {
      counts = λ rs was. c.add_reply.ensures.counts (rs ++ take i xs) (c.loop-reply.invariant.counts rs was)
          ∙ ap (λ l. tally_of l []) (append_assoc rs (take i xs) (x ∷ []) ∙ ap (λ l. rs ++ l) (sym more));
      within = c.add_reply.ensures.within;
      requests = (let one = c.add_reply.ensures.requests in let so_far = c.loop-reply.invariant.requests in omega (arith, one, so_far));
    }

pub returns-clause-counts : goal.returns-clause-counts
returns-clause-counts c rs was =
    let xs = c.args.replies.now in
    c.loop-reply.invariant.counts rs was ∙ ap (λ l. tally_of (rs ++ l) []) (take_all c.loop-reply.reply-index xs c.loop-reply-test.false)
