-- What the words behind a log chunk's head say of the chunk.
use Rattle.std.proofs.Common.{◌≡◌, ℕ, List, sym, ◌∙◌, ap, subst, Ok}
use Rattle.log_entry.specs.Batches.{scan_of}
use Rattle.chunk_map.specs.declared.layouts.Geometry.{Geometry}
use Rattle.chunk_map.specs.declared.heads.Head.TheVariants.{Log}
use Rattle.chunk_map.specs.Layouts.{chunk_first, head_at}
use Rattle.store_image.specs.Parts.{payload, scan_behind, scan_at}
use Rattle.store_image.specs.Soundness.{rule_of, rule_behind, chunk_rule}

pub log_read : (l : Geometry) (image : ℕ → ℕ) (c j at tail : ℕ) (ws : List ℕ) → at ≡ chunk_first l c j → head_at l image at ≡ Ok (Log tail) → ws ≡ payload image at tail
    → (rule_of l c (scan_of ws) ≡ chunk_rule l image c j) × (scan_of ws ≡ scan_at l image (chunk_first l c j))
log_read l image c j at tail ws at_is head words =
    let scans : scan_of ws ≡ scan_at l image at = ap scan_of words ∙ ap (scan_behind image at) (sym head) in
    let P : ℕ → Type 0 = λ a. (rule_of l c (scan_of ws) ≡ rule_behind l c (head_at l image a) (scan_at l image a)) × (scan_of ws ≡ scan_at l image a) in
    subst P at_is (ap (rule_of l c) scans ∙ ap (λ h. rule_behind l c h (scan_at l image at)) (sym head), scans)
