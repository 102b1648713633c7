-- What the code reads of a block.
use Rattle.std.proofs.Common.{◌≡◌, ℕ, ◌+◌, ◌-◌, ◌*◌, ◌^◌, ◌≤◌, List, length, take, drop, get_or, sym, ◌∙◌, ap, arith, true, cond, Some, None}
use Rattle.log_entry.specs.Words.{words_for, unpacked, words_from}
use Rattle.log_entry.proofs.Clients.{slice_words}
use Rattle.chunk_map.specs.Layouts.{has_class}
use Rattle.store_image.specs.Parts.{block_bytes, value_by_class}
use Rattle.store_image.proofs.Clients.{class_room}

-- the words behind the length, as a part of the list, are the block's
pub block_read : (ws : List ℕ) (p class to : ℕ) (bytes value : List ℕ) → has_class (get_or ws (32 * p) 0) class ≡ true → 32 * p + 32 * 2 ^ class ≤ length ws
    → to ≡ 32 * p + 1 + words_for (get_or ws (32 * p) 0)
    → bytes ≡ unpacked (take (to - (32 * p + 1)) (drop (32 * p + 1) ws)) → value ≡ take (get_or ws (32 * p) 0) bytes
    → Some value ≡ value_by_class (λ w. get_or ws w 0) p (Some class)
block_read ws p class to bytes value has within end read is =
    let n = get_or ws (32 * p) 0 in
    let room = class_room n class has in
    let count : to - (32 * p + 1) ≡ words_for n = omega (arith, end) in
    let words : take (to - (32 * p + 1)) (drop (32 * p + 1) ws) ≡ words_from (λ w. get_or ws w 0) (32 * p + 1) (words_for n) =
    ap (λ k. take k (drop (32 * p + 1) ws)) count ∙ slice_words ws (32 * p + 1) (words_for n) (omega (arith, room, within)) in
    let same : value ≡ block_bytes (λ w. get_or ws w 0) p = is ∙ ap (take n) (read ∙ ap unpacked words) in
    ap Some same ∙ ap (λ b. cond b (Some (block_bytes (λ w. get_or ws w 0) p)) None) (sym has)
