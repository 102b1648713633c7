use Rattle.std.proofs.Common.{◌≡◌, ◌+◌, ◌*◌, ◌∙◌, ap, arith}
use Rattle.pm_region.specs.Bytes.{word_at}
use Rattle.pm_region.proofs.Clients.{word_same}
use Rattle.region_file.specs.Pages.{shared_byte}
use Rattle.region_file.proofs.file_words.FileWords.part.Goals as goal

pub returns : goal.returns
returns c =
    let from = c.args.from in
    let s = c.args.self.now in
    let part = c.in_ok-bytes.bytes.items in
    let whole = s.whole in
    record {
      size = c.in_ok-part.ensures.size;
      words = λ k lt. ap (λ v. word_at v.items k) c.in_ok-part.ensures.bytes ∙ word_same part s.bytes.items k (from + k) (λ j lt'.
          let i = 8 * k + j in
          let at : 8 * from + i ≡ 8 * (from + k) + j = omega arith in
          c.in_ok-bytes.ensures.bytes i (omega (arith, lt, lt')) ∙ c.in_ok-base.ensures i ∙ ap (shared_byte c.args.shared.now) at
          ∙ c.requires.shares.bytes (8 * (from + k) + j) (omega (arith, lt, lt', whole, c.requires.high)));
      none = c.in_ok-part.ensures.none;
    }
