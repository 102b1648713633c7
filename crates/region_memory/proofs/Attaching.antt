-- What an attach says of the region over a volume.
use Rattle.std.proofs.Common.{ℕ, refl, sym, ◌∙◌, ap}
use Rattle.pm_region.specs.Cell.{MayBe}
use Rattle.pm_region.specs.State.{State, IsTelling, InRange, cell_now}
use Rattle.pm_region.specs.Split.{words_in, Attached}
use Rattle.region_memory.specs.Volumes.{volume_state, found_in}
use Rattle.region_memory.specs.declared.volume.Volume.{Volume}
use Rattle.region_memory.proofs.Now.{may_find}

-- whatever it was before
pub attached_from : (old mid new : State) (bytes : ℕ) (image : ℕ → ℕ) → Attached mid new bytes image → Attached old new bytes image
attached_from old mid new bytes image is = record {
  first = is.first;
  words = is.words;
  bytes_are = is.bytes_are;
  parted = is.parted;
  stamp = is.stamp;
  since = is.since;
  certainly = is.certainly;
}

-- by the bytes that it has then
pub attached_own : (old mid new : State) (bytes : ℕ) (image : ℕ → ℕ) → Attached mid new bytes image → Attached old new new.frame.bytes image
attached_own old mid new bytes image is = record {
  first = is.first;
  words = is.words ∙ ap (λ (n : ℕ). words_in n) (sym is.bytes_are);
  bytes_are = refl;
  parted = is.parted;
  stamp = is.stamp;
  since = is.since;
  certainly = is.certainly;
}

pub volume_finds : (v : Volume) (r n w : ℕ) → IsTelling (volume_state v r n) → InRange (volume_state v r n).frame w → MayBe (cell_now (volume_state v r n) w) (found_in v w)
volume_finds v r n w telling within = may_find v.history v.attached v.parted v.cuts.items v.bytes v.opens v.validations r n v.at_zero w telling within
