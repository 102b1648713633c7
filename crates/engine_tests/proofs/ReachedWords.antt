-- All words of a steady region but finitely many are 0, so a list has all of them.
use Rattle.std.proofs.Common.{◌≡◌, ℕ, zero, suc, ◌+◌, ◌-◌, ◌/◌, ◌<◌, ◌≤◌, ◌==◌, ◌&&◌, nat_le, nat_lt, List, [], ◌∷◌, map, length, inl, inr, refl, sym, ◌∙◌, ap, arith, ⊎_elim}
use Rattle.std.specs.Prelude.{get_or, slice_index}
use Rattle.std.proofs.lemmas.Bool.{cases_lt, cond_both}
use Rattle.std.proofs.lemmas.Bool.Decides.{nat_tests}
use Rattle.std.proofs.Math.ListN.{get_or-eq_default}
use Rattle.pm_region.specs.Cell.{Cell, certain, stored, flushed, fenced}
use Rattle.region_memory.specs.Journals.{act, cell_after, steps_to}
use Rattle.region_memory.specs.Steady.{steady_state}
use Rattle.pm_region.specs.Words.{lasts}
use Rattle.region_memory.specs.declared.history.History.{History}
use Rattle.region_memory.specs.declared.memory_region.MemoryRegion.{MemoryRegion}
use Rattle.region_memory.specs.declared.no_faults.NoFaults.{NoFaults}
use Rattle.region_memory.specs.declared.step.Step.{Step}
use Rattle.region_memory.specs.declared.step.Step.TheVariants.{Store, Flush, Fence, Nothing}
use Rattle.chunk_map.specs.Layouts.{numbers}
use Rattle.group_board.specs.Journals.{image_of}

-- from here on a step stores nothing
abbrev reach_of : Step → ℕ
reach_of (Store at value) = suc at
reach_of (Flush line) = 0
reach_of (Fence first words) = 0
reach_of Nothing = 0

abbrev reach_in : List Step → ℕ
reach_in [] = 0
reach_in (s ∷ ss) = reach_of s + reach_in ss

act_last : (s : Step) (w : ℕ) (c : Cell) → reach_of s ≤ w → (act s w c).last ≡ c.last
act_last (Store at value) w c far = cond_both (w == at) (stored c value) c (λ (d : Cell). d.last ≡ c.last) (λ yes. absurd (let e : w ≡ at = grind (arith, nat_tests) in omega (arith, e, far))) (λ no. refl)
act_last (Flush line) w c far = cond_both (w / 8 == line) (flushed c) c (λ (d : Cell). d.last ≡ c.last) (λ yes. refl) (λ no. refl)
act_last (Fence first words) w c far = cond_both (nat_le first w && nat_lt w (first + words)) (fenced c) c (λ (d : Cell). d.last ≡ c.last) (λ yes. refl) (λ no. refl)
act_last Nothing w c far = refl

after_last : (ss : List Step) (w : ℕ) (c : Cell) → reach_in ss ≤ w → (cell_after ss w c).last ≡ c.last
after_last [] w c far = refl
after_last (s ∷ ss) w c far = after_last ss w (act s w c) (omega (arith, far)) ∙ act_last s w c (omega (arith, far))

in_list : (word : ℕ → ℕ) (from n w : ℕ) → w < n → get_or (map word (numbers from n)) w 0 ≡ word (from + w)
in_list word from zero w low = absurd (omega (arith, low))
in_list word from (suc n) zero low = let z : from ≡ from + 0 = omega arith in ap word z
in_list word from (suc n) (suc w) low = let z : suc from + w ≡ from + suc w = omega arith in in_list word (suc from) n w (omega (arith, low)) ∙ ap word z

list_end : (word : ℕ → ℕ) (from n : ℕ) → length (map word (numbers from n)) ≡ n
list_end word from zero = refl
list_end word from (suc n) = ap suc (list_end word (suc from) n)

module _ (r : MemoryRegion NoFaults) where
  abbrev h : History
  h = r.volume.history

  abbrev steps : List Step
  steps = steps_to h.journal h.journal.stamp

  abbrev reach : ℕ
  reach = h.first + length h.start.items + reach_in steps

  pub words : List ℕ
  words = map (lasts (steady_state r)) (numbers 0 reach)

  beyond : (w : ℕ) → reach ≤ w → lasts (steady_state r) w ≡ 0
  beyond w far =
      let past : length h.start.items ≤ w - h.first = omega (arith, far) in
      after_last steps w (certain (slice_index h.start.items (w - h.first))) (omega (arith, far)) ∙ get_or-eq_default h.start.items 0 past

  near : (w : ℕ) → w < reach → image_of words w ≡ lasts (steady_state r) w
  unfolding words
  near w low = let z : 0 + w ≡ w = omega arith in in_list (lasts (steady_state r)) 0 reach w low ∙ ap (lasts (steady_state r)) z

  past : (w : ℕ) → reach ≤ w → image_of words w ≡ lasts (steady_state r) w
  unfolding words
  past w far =
      let n = list_end (lasts (steady_state r)) 0 reach in
      get_or-eq_default (map (lasts (steady_state r)) (numbers 0 reach)) 0 {n = w} (omega (arith, n, far)) ∙ sym (beyond w far)

  each : (w : ℕ) → image_of words w ≡ lasts (steady_state r) w
  each w = ⊎_elim (λ low. near w low) (λ far. past w far) (cases_lt w reach)

  pub same : image_of words ≡ lasts (steady_state r)
  same i w = each w i
