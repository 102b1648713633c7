-- What is recovered by the words that a region reads.
use Rattle.std.proofs.Common.{◌≡◌, ℕ, ◌+◌, ◌/◌, ◌<◌, sym, subst, arith}
use Rattle.std.specs.Prelude.{Result, Ok, Err, IfOk, slice_index_or}
use Rattle.pm_region.specs.State.{State, Frame, IsTelling}
use Rattle.pm_region.specs.Words.{lasts}
use Rattle.pm_region.specs.Snapshots.{IsSnapshot}
use Rattle.chunk_map.specs.declared.layouts.Geometry.{Geometry}
use Rattle.chunk_map.specs.Layouts.{layout_of, part_first}
use Rattle.chunk_map.specs.Checked.{IsLength}
use Rattle.chunk_map.proofs.Clients.{part_within}
use Rattle.store_image.proofs.Clients.{layout_numbers}
use Rattle.lazy_alloc.specs.Sets.{Sets}
use Rattle.lazy_alloc.specs.Written.{PartLies}
use Rattle.recover.specs.declared.types.Recovered.{Recovered}
use Rattle.recover.specs.declared.types.RecoverError.{RecoverError}
use Rattle.recover.specs.Regions.{Covers, IsCertain}
use Rattle.recover.specs.Recovering.{IsMade, Recovers, AllStand}
use Rattle.recover.specs.Reading.{AllLie}
use Rattle.recover.proofs.FoundLaws.{covers_all}
use Rattle.recover.proofs.StandLaws.{all_stand}

-- by the words of a snapshot
pub read_found : (s read : State) (word : ℕ → ℕ) → IsSnapshot s word read → (bytes : ℕ) (o : Result Recovered RecoverError) → (IsTelling read → Recovers bytes (lasts read) o) → Recovers bytes word o
read_found s read word snap bytes o told = subst (λ (image : ℕ → ℕ). Recovers bytes image o) (λ i w. snap.lasts_are w i) (told snap.telling)

-- by other words that are the same
pub found_by : (word image : ℕ → ℕ) → ((w : ℕ) → image w ≡ word w) → (bytes : ℕ) (o : Result Recovered RecoverError) → Recovers bytes word o → Recovers bytes image o
found_by word image same bytes o found = subst (λ (x : ℕ → ℕ). Recovers bytes x o) (λ i w. sym (same w) i) found

-- the part of an allocator
pub lies_part : (f : Frame) (l : Geometry) (c : ℕ) (a : Sets) → Covers f l → c < l.cores → a.layout ≡ l → a.part ≡ c → PartLies f a
lies_part f l c a covers lt layout_is part_is =
    let first = covers.first in
    let words = covers.words in
    let within = part_within l c covers.layout lt in
    let most = (layout_numbers l covers.layout).total in
    let same : part_first a.layout (a.part + 1) ≡ part_first l (c + 1) = λ i. part_first (layout_is i) (part_is i + 1) in
    let zero : f.first ≡ 0 = first in
    record {
      low = omega (arith, zero);
      high = omega (arith, zero, words, within, same);
      fits = omega (arith, zero, words, most);
    }

module _ (s : State) (bytes : ℕ) (first : s.frame.first ≡ 0) (words : IsLength bytes → s.frame.words ≡ bytes / 8) where
  covers_read : (r : Recovered) → IsMade bytes r → Covers s.frame r.layout
  covers_read r made = covers_all s.frame r.layout bytes first words made.layout made.total

  pub stands_read : (o : Result Recovered RecoverError) → IfOk o (IsMade bytes) → (IsTelling s → Recovers bytes (lasts s) o) → IsCertain s → IfOk o (AllStand s)
  stands_read (Ok r) made told certain = all_stand s (layout_of (lasts s)) bytes r (covers_read r made) made (λ telling. (told telling).is_of) certain
  stands_read (Err e) made told certain = tt

  pub lies_read : (o : Result Recovered RecoverError) → IfOk o (IsMade bytes) → IfOk o (AllLie s.frame)
  lies_read (Ok r) made = λ c d lt. (let start = made.starts c d lt in lies_part s.frame r.layout c (slice_index_or r.starts.items c d).allocator (covers_read r made) lt start.allocator_layout start.allocator_part)
  lies_read (Err e) made = tt
