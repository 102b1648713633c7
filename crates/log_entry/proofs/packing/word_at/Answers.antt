use Rattle.std.proofs.Common.{◌≡◌, ◌+◌, get_or, ◌∙◌, ap, arith}
use Rattle.log_entry.proofs.WordAt.{byte_there}
use Rattle.log_entry.proofs.packing.word_at.Goals as goal

pub returns : goal.returns
returns c =
    let xs = c.args.bytes.now in
    let at = c.args.at in
    let z : at + 0 ≡ at = omega arith in
    let e0 = byte_there xs at 0 (omega arith) ∙ ap (λ k. get_or xs k 0) z in
    let e1 = byte_there xs at 1 (omega arith) in
    let e2 = byte_there xs at 2 (omega arith) in
    let e3 = byte_there xs at 3 (omega arith) in
    let e4 = byte_there xs at 4 (omega arith) in
    let e5 = byte_there xs at 5 (omega arith) in
    let e6 = byte_there xs at 6 (omega arith) in
    let e7 = byte_there xs at 7 (omega arith) in
    omega arith
