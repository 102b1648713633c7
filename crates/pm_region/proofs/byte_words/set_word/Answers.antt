use Rattle.std.proofs.Common.{inl, inr, ⊎_elim, ◌+◌, ◌*◌, ◌-◌, ◌∙◌, arith}
use Rattle.std.proofs.lemmas.Bool.{cases_lt}
use Rattle.pm_region.proofs.Wording.{word_set, word_outer, length_mid}
use Rattle.pm_region.proofs.byte_words.set_word.Goals as goal

pub returns : goal.returns
returns c =
    let low = 8 * c.args.place in
    let xs = c.args.bytes.now in
    let fits = c.requires in
    let small = c.ranges.value in
    let mid = length_mid low (low + 8 - low) xs (omega arith) in
    let len = c.write_u64.auto.buf ∙ mid in
    record {
      this = word_set c.args.place (low + 8 - low) c.args.value xs c.write_u64.new.buf _ fits (omega arith) (omega (arith, len)) c.write_u64.ensures;
      others = λ k ne. word_outer c.args.place (low + 8 - low) k xs c.write_u64.new.buf (omega arith) len (⊎_elim (λ lt. inl lt) (λ ge. inr (omega arith)) (cases_lt k c.args.place));
    }
