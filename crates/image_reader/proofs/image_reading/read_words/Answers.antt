use Rattle.std.proofs.Common.{ℕ, slice_index}
use Rattle.image_reader.proofs.Fits.{not_a_region}
use Rattle.image_reader.proofs.image_reading.read_words.Goals as goal

pub returns-in-Err : goal.returns-in-Err
returns-in-Err c =
    let image : ℕ → ℕ = λ w. slice_index c.args.words.now w in
    not_a_region c.args.bytes image c.in-Err.rule c.in-Err.ensures.rule
