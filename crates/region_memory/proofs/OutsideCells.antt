-- What a call leaves of the cell of a word outside of the range that it names.
use Rattle.std.proofs.Common.{inl, inr, ⊎_elim, ◌≡◌, ℕ, ◌+◌, ◌*◌, ◌≤◌, ◌<◌, ◌&&◌, nat_le, nat_lt, arith}
use Rattle.std.proofs.lemmas.Bool.{cond-false}
use Rattle.std.proofs.lemmas.Bool.Decides.{nat_tests}
use Rattle.pm_region.specs.Cell.{Cell, fenced, store_at, flush_line, fence_range}
use Rattle.pm_region.proofs.Clients.{store_other, flush_other, flush_last, fence_last}
use Rattle.region_memory.specs.Histories.{Outside}

pub store_outside : (first words at v w : ℕ) (c : Cell) → first ≤ at → at < first + words → Outside first words w → store_at at v w c ≡ c
store_outside first words at v w c low high out = store_other at v w c (λ same. ⊎_elim (λ lt. omega arith) (λ ge. omega arith) out)

pub flush_outside : (first words line w : ℕ) (c : Cell) → first ≤ 8 * line → 8 * line + 8 ≤ first + words → Outside first words w → flush_line line w c ≡ c
flush_outside first words line w c low high out = flush_other line w c (⊎_elim (λ lt. inl (omega arith)) (λ ge. inr (omega arith)) out)

pub fence_outside : (first words f n w : ℕ) (c : Cell) → first ≤ f → f + n ≤ first + words → Outside first words w → fence_range f n w c ≡ c
fence_outside first words f n w c low high out = cond-false (nat_le f w && nat_lt w (f + n)) (fenced c) c (⊎_elim (λ lt. grind (arith, nat_tests)) (λ ge. grind (arith, nat_tests)) out)

pub ruleset last_steps = (flush_last, fence_last)

pub ruleset outside_steps = (store_outside, flush_outside, fence_outside)
