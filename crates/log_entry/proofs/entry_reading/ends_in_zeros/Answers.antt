use Rattle.std.proofs.Common.{◌≡◌, ◌+◌, ◌-◌, ◌*◌, ◌==◌, drop, ◌∙◌, ap, arith}
use Rattle.std.specs.Prelude.{slice_index}
use Rattle.std.specs.List.{list_all}
use Rattle.std.specs.Int.{w64, to_le_bytes}
use Rattle.log_entry.specs.Reading.{length_of}
use Rattle.log_entry.proofs.Tails.{fills, last_holds}
use Rattle.log_entry.proofs.entry_reading.ends_in_zeros.Goals as goal

pub returns : goal.returns
returns c =
    let ws = c.args.words.now in
    let w = slice_index ws 0 in
    let value = c.size_of-size.ensures.value in
    let f = fills w (λ e. c.if-size-eq-SHORTEST_ENTRY.false (value ∙ e)) in
    let some = f.0 in
    let long = f.1 in
    let n = c.size_of-size.result - 1 - 2 in
    let last : c.size_of-size.result - 1 ≡ n + 2 = omega (arith, value, some) in
    c.all_zero_from.ensures
    ∙ (λ i. list_all (λ b. b == 0) (drop (c.length_of.ensures.value i - 8 * n) (c.to_le_bytes.ensures i)))
    ∙ ap (λ k. list_all (λ b. b == 0) (drop (length_of w - 8 * n) (to_le_bytes w64 (slice_index ws k)))) last
    ∙ last_holds ws n (omega (arith, value, some)) c.requires.whole (omega (arith, value, long))
