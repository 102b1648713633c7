use Rattle.std.proofs.Common.{◌+◌, ℕ, List, [], ◌∷◌, ◌++◌, length, sym, ◌∙◌, ap, arith, length-append, append_assoc}
use Rattle.pm_region.specs.Words.{lasts}
use Rattle.log_entry.specs.Words.{words_from}
use Rattle.core_log.proofs.Clients.{words_more}
use Rattle.log_cleaner.proofs.collect_copies.copy_words.Goals as goal

pub loop-i-preserved : goal.loop-i-preserved
loop-i-preserved g c =
    let s = g.R.Region.state c.args.region.now in
    let old = c.args.buffer.now.words in
    let was = c.loop-i.invariant in
    let added = c.push.ensures.words in
    let long = ap (λ (l : List ℕ). length l) added ∙ length-append c.loop-i.buffer.words (c.load.result ∷ []) in
    let before = was.long in
    record {
      words = λ telling. added ∙ (λ i. was.words telling i ++ c.load.ensures telling i ∷ []) ∙ append_assoc old (words_from (lasts s) c.args.first c.loop-i.i) (lasts s (c.args.first + c.loop-i.i) ∷ [])
          ∙ ap (λ (l : List ℕ). old ++ l) (sym (words_more (lasts s) c.args.first c.loop-i.i));
      long = omega (arith, long, before);
      room = c.push.ensures.room ∙ was.room;
    }
