use Rattle.std.proofs.Common.{ℕ, List, ◌∷◌, length, sym, ◌∙◌, ap, arith}
use Rattle.region_file.specs.Calls.{gave}
use Rattle.region_file.proofs.Storing.{same_part}
use Rattle.region_file.proofs.read_pages.read_page.Goals as goal

pub returns-then-are_zeros-clause-ok : goal.returns-then-are_zeros-clause-ok
returns-then-are_zeros-clause-ok c =
    let count = c.in_ok-read.ensures.count in
    let zeros = c.are_zeros.ensures c.if-are_zeros.true in
    c.in_ok-read.ensures.ok
    ∙ ap (λ (l : List ℕ). gave c.args.low l ∷ c.args.device.now.calls.made)
    (same_part c.read.new.room c.args.bytes.now.items c.args.low (length c.args.room.now) count c.requires.within
    (λ j lt. zeros j (omega (arith, lt, count)) ∙ sym (c.blank.ensures.zeros j (omega (arith, lt, count, c.if-blank-room.true)))))

pub returns-clause-ok : goal.returns-clause-ok
returns-clause-ok c =
    let count = c.in_ok-read.ensures.count in
    c.in_ok-read.ensures.ok
    ∙ ap (λ (l : List ℕ). gave c.args.low l ∷ c.args.device.now.calls.made)
    (same_part c.read.new.room c.put.new.self.items c.args.low (length c.args.room.now) count (omega (arith, c.put.ensures.count, c.requires.within)) (λ j lt. sym (c.put.ensures.inner j (omega (arith, lt, count)))))
