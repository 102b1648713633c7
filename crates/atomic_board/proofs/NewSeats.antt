-- A member's seat as it is split from the store, with its slots out.
use Rattle.std.proofs.Common.{◌≡◌, ℕ, zero, suc, ◌+◌, ◌*◌, ◌/◌, ◌<◌, ◌≤◌, Bool, true, false, ◌||◌, ◌&&◌, not, eqb, List, [], length, sym, refl, ap, ap₂, ◌∙◌, subst, inl, inr, ◌⊎◌, eq-eqb, ne_eqb, arith, mul-le-mul_right, replicate, get_or, None}
use mathlib.Core.Logic.{dite}
use native.Mathlib.Decide.{ℕ_discrete, dec_le}
use Rattle.group_laws.specs.OpeningImages.{opened}
use Rattle.group_board.specs.Journals.{image_of, place_in, names_in, begun, names}
use Rattle.group_board.specs.Tidies.{Covers}
use Rattle.group_board.proofs.Clients.{opened_kept, state_begun, names_begun}
use Rattle.chunk_map.specs.Layouts.{layout_of}
use Rattle.chunk_map.proofs.Clients.{numbers_of}
use Rattle.store_image.proofs.Clients.{superblock_facts, sound_store}
use Rattle.store_image.specs.Soundness as images
use Rattle.atomic_board.specs.declared.seat_data.Origin.{Origin}
use Rattle.atomic_board.specs.TableWords.{pool_place}
use Rattle.atomic_board.specs.Deeds.{began, names_of, place_of, size, view_by}
use Rattle.atomic_board.specs.SlotsOut.{has, distinct, numbers, all_empty, Holds}
use Rattle.atomic_board.specs.StepTells.{row_out}
use Rattle.atomic_board.proofs.RuleOpened.{fresh_free}

pub began_is : (b : Origin) → began b ≡ opened (place_in b.group b.words) (image_of b.words)
unfolding began
began_is b = refl

names_are : (b : Origin) → names_of b ≡ names_in b.group b.words
unfolding names_of
names_are b = refl

-- the names with which a group opens cover what stands then
pub begun_covers : (bytes : ℕ) (b : Origin) → images.IsSound bytes (image_of b.words) → b.group < (layout_of (image_of b.words)).cores / (layout_of (image_of b.words)).group → Covers (names_of b) (began b)
begun_covers bytes b sound low =
    let kept = opened_kept bytes b.group b.words sound low (layout_of (image_of b.words)).group [] [] (begun b.group b.words) refl refl (λ i. refl) (λ i. refl) in
    subst (λ ns. Covers ns (began b)) (names_begun b.group b.words ∙ sym (names_are b)) (subst (Covers (names (begun b.group b.words))) (state_begun b.group b.words ∙ sym (began_is b)) kept.covers)

idle_taken : (b : Origin) (m a t : ℕ) → (view_by b m []).taken a t ≡ None
unfolding began
idle_taken b m a t = refl

pub square_low : (n : ℕ) → n ≤ 8 → n * n ≤ 64
square_low n h = let a : n * n ≤ 8 * n = mul-le-mul_right n h in let s : ℕ = n * n in let a' : s ≤ 8 * n = a in let r : s ≤ 64 = omega arith in r

row_more : (at k j : ℕ) → has j (numbers (row_out at (suc k) [])) ≡ (eqb j (at + k) || has j (numbers (row_out at k [])))
row_more at k j = refl

row_has : (at k j : ℕ) → at ≤ j → j < at + k → has j (numbers (row_out at k [])) ≡ true
row_has at zero j low high = absurd (omega arith)
row_has at (suc k) j low high = dite (ℕ_discrete j (at + k)) (λ e. ap (λ b. b || has j (numbers (row_out at k []))) (eq-eqb j (at + k) e)) (λ ne. ends (eqb j (at + k)) (row_has at k j low (omega arith))) where
  ends : (b : Bool) → has j (numbers (row_out at k [])) ≡ true → (b || has j (numbers (row_out at k []))) ≡ true
  ends true e = refl
  ends false e = e

row_out_of : (at k j : ℕ) → (j < at) ⊎ (at + k ≤ j) → has j (numbers (row_out at k [])) ≡ false
row_out_of at zero j out = refl
row_out_of at (suc k) j (inl low) = ap₂ (λ b c. b || c) (ne_eqb j (at + k) (λ e. omega arith)) (row_out_of at k j (inl low))
row_out_of at (suc k) j (inr high) = ap₂ (λ b c. b || c) (ne_eqb j (at + k) (λ e. omega arith)) (row_out_of at k j (inr (omega arith)))

row_in : (at k j : ℕ) → has j (numbers (row_out at k [])) ≡ true → (at ≤ j) × (j < at + k)
row_in at k j h = dite (dec_le at j) (λ low. dite (dec_le (suc j) (at + k)) (λ high. (low, high)) (λ no. absurd (let f = row_out_of at k j (inr (omega arith)) in cc (f, h)))) (λ no. absurd (let f = row_out_of at k j (inl (omega arith)) in cc (f, h)))

pub row_distinct : (at k : ℕ) → distinct (numbers (row_out at k [])) ≡ true
row_distinct at zero = refl
row_distinct at (suc k) = ap₂ (λ b c. not b && c) (row_out_of at k (at + k) (inr (omega arith))) (row_distinct at k)

pub row_empty : (at k : ℕ) → all_empty (row_out at k []) ≡ true
row_empty at zero = refl
row_empty at (suc k) = row_empty at k

pub row_length : (at k : ℕ) → length (numbers (row_out at k [])) ≡ k
row_length at zero = refl
row_length at (suc k) = ap suc (row_length at k)

pub fresh_holds : (b : Origin) (m : ℕ) → m < size b → Holds (place_of b) m (size b) (view_by b m []).pending (view_by b m []).taken (numbers (row_out (pool_place m 0) 8 []))
fresh_holds b m near = record {
  mine = λ t l f. row_has (pool_place m 0) 8 (pool_place m t) (omega arith) (omega arith);
  hands = λ a t e l r is. absurd (let n = idle_taken b m a t in cc (n, is));
  others = λ a t l r named none. dite (ℕ_discrete a m)
      (λ e. absurd (fresh_free b m t (named e).0 (named e).1 (named e).3))
      (λ ne. row_out_of (pool_place m 0) 8 (pool_place a t) (dite (dec_le (suc a) m) (λ d. inl (omega arith)) (λ d. inr (omega arith))));
  below = λ k h. let r = row_in (pool_place m 0) 8 k h in let x = r.0 in let y = r.1 in omega arith;
}

module _ {A : Type 0} (x : A) where
  pub zeros : (i n : ℕ) → get_or (replicate n x) i x ≡ x
  zeros i zero = refl
  zeros zero (suc n) = refl
  zeros (suc i) (suc n) = zeros i n

  pub many : (n : ℕ) → length (replicate n x) ≡ n
  many zero = refl
  many (suc n) = ap suc (many n)

-- a group has some member
pub opened_some : (bytes : ℕ) (ws : List ℕ) → images.IsSound bytes (image_of ws) → 0 < (layout_of (image_of ws)).group
opened_some bytes ws sound = (numbers_of (layout_of (image_of ws)) (superblock_facts bytes (image_of ws) (sound_store bytes (image_of ws) sound).superblock).1).group_low
