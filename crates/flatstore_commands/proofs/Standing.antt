-- What was recovered of a region that was just attached, and how many cores it has.
use Rattle.std.proofs.Common.{◌≡◌, ℕ, ◌/◌, ◌≤◌, ◌<◌, sym, ◌∙◌, ap, subst, arith, cond}
use Rattle.std.proofs.lemmas.Bool.{le-leb}
use Rattle.pm_region.specs.Cell.{certain, MayBe}
use Rattle.pm_region.specs.State.{State, IsTelling, InRange, cell_now}
use Rattle.pm_region.specs.Words.{lasts}
use Rattle.pm_region.specs.Split.{words_in}
use Rattle.chunk_map.specs.declared.layouts.Geometry.{Geometry}
use Rattle.chunk_map.specs.Layouts.{layout_of}
use Rattle.chunk_map.proofs.Clients.{numbers_of}
use Rattle.store_image.specs.Soundness.{first_fault}
use Rattle.store_image.proofs.Clients.{store_sound}
use Rattle.headline.proofs.Clients.{certain_may_be}
use Rattle.recover.specs.declared.types.Recovered.{Recovered}
use Rattle.recover.specs.Regions.{IsCertain}
use Rattle.recover.specs.Recovering.{IsMade, IsFound, AllStand}
use Rattle.engine_laws.specs.Stands.{Origin}
use Rattle.engine_core.specs.RunStarts.{StandsAsFound}
use Rattle.flatstore_commands.specs.Played.{IsCounted}

module _ (s : State) (word : ℕ → ℕ) (first : s.frame.first ≡ 0) (words : s.frame.words ≡ words_in s.frame.bytes) (sure : IsTelling s → (w : ℕ) → InRange s.frame w → cell_now s w ≡ certain (lasts s w)) where
  pub is_certain : IsCertain s
  is_certain telling w inside x may = certain_may_be (lasts s w) x (subst (λ k. MayBe k x) (sure telling w inside) may)

  pub stands_as_found : (r : Recovered) → IsMade s.frame.bytes r → IsFound s.frame.bytes word r → AllStand s r → StandsAsFound s word r
  stands_as_found r made found stand = record {
    first = first;
    words =
        let total = made.total in
        let most = (numbers_of r.layout made.layout).total in
        words ∙ ap (λ b. cond b (s.frame.bytes / 8) 0) (le-leb s.frame.bytes 268439552 (omega (arith, total, most)));
    certain = is_certain;
    made = made;
    found = found;
    stand = stand;
  }

-- the number of cores is that of the words, which are those told
pub counted_by : (s : State) (word : ℕ → ℕ) (tells : (w : ℕ) → IsTelling s → lasts s w ≡ word w) (r : Recovered) → StandsAsFound s word r → (cores : ℕ) → cores ≡ r.layout.cores → IsCounted s cores
counted_by s word tells r S cores is telling =
    let same : lasts s ≡ word = (λ i w. tells w telling i) in (
      ap (first_fault s.frame.bytes) same ∙ store_sound s.frame.bytes word S.found.sound,
      tells 2 telling ∙ sym (is ∙ ap (λ (l : Geometry). l.cores) S.found.is_of.layout_is),
    )

pub some_cores : (s : State) (word : ℕ → ℕ) (r : Recovered) → StandsAsFound s word r → 1 ≤ r.layout.cores
some_cores s word r S = let n = (numbers_of r.layout S.made.layout).cores_low in omega (arith, n)

-- a run that begins on those words has as many cores
pub origin_cores : (s : State) (word : ℕ → ℕ) (r : Recovered) → StandsAsFound s word r → (o : Origin) → ((w : ℕ) → w < s.frame.bytes / 8 → o.found w ≡ word w) → (layout_of o.found).cores ≡ r.layout.cores
origin_cores s word r S o reads =
    let total = S.made.total in
    let high : 2 < s.frame.bytes / 8 = omega (arith, total) in
    reads 2 high ∙ sym (ap (λ (l : Geometry). l.cores) S.found.is_of.layout_is)
