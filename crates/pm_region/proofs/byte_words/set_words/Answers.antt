use Rattle.std.proofs.Common.{inl, inr, ⊎_elim, ◌+◌, ◌*◌, ◌-◌, ◌∙◌, length, ap, arith}
use Rattle.pm_region.specs.Bytes.{word_at}
use Rattle.pm_region.proofs.Wording.{word_inner, word_outer}
use Rattle.pm_region.proofs.byte_words.set_words.Goals as goal

pub returns : goal.returns
returns c =
    let low = 8 * c.args.first in
    let n = length c.args.words.now in
    let xs = c.args.bytes.now in
    let ys = c.copy_from_slice.new.self in
    let whole = c.requires.whole in
    let fits = c.requires.within in
    let same = c.copy_from_slice.ensures.after in
    let len = ap length same in
    record {
      inner = λ k lt. word_inner c.args.first (low + n - low) k xs ys (omega arith) (omega (arith, len)) ∙ ap (λ l. word_at l k) same;
      outer = λ k out. word_outer c.args.first (low + n - low) k xs ys (omega arith) (omega (arith, len)) (⊎_elim (λ lt. inl lt) (λ ge. inr (omega arith)) out);
    }
