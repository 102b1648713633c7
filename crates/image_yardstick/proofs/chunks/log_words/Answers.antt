use Rattle.std.proofs.Common.{◌≡◌, ◌+◌, ◌-◌, ◌∙◌, ap, arith, take, drop}
use Rattle.log_entry.proofs.Clients.{slice_words}
use Rattle.image_yardstick.proofs.chunks.log_words.Goals as goal

pub returns : goal.returns
returns c =
    let n : c.args.at + 32 + c.args.tail - (c.args.at + 32) ≡ c.args.tail = omega arith in
    let within = c.requires.within in
    let tail = c.requires.tail in
    let size = c.requires.size in
    ap (λ n. take n (drop (c.args.at + 32) c.args.words.now)) n ∙ slice_words c.args.words.now (c.args.at + 32) c.args.tail (omega (arith, within, tail, size))
