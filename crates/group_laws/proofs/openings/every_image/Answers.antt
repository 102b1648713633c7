use Rattle.std.proofs.Common.{◌<◌, ◌/◌, ℕ}
use Rattle.chunk_map.specs.Layouts.{layout_of}
use Rattle.store_image.specs.Facts.{IsStore}
use Rattle.store_image.proofs.Clients.{superblock_facts, sound_store}
use Rattle.group_laws.specs.Places.{Place, IsPlace}
use Rattle.group_laws.proofs.OpeningTidied as laws
use Rattle.group_laws.proofs.openings.every_image.Goals as goal

abbrev at : (ℕ → ℕ) → ℕ → Place
at image g = record { layout = layout_of image; group = g }

is_place : (bytes : ℕ) (image : ℕ → ℕ) (g : ℕ) → IsStore bytes image → g < (layout_of image).cores / (layout_of image).group → IsPlace (at image g)
is_place bytes image g store low = record { layout = (superblock_facts bytes image store.superblock).1; group = low }

pub returns : goal.returns
returns c = record {
  lawful = λ bytes g image sound low. (let store = sound_store bytes image sound in laws.lawful (at image g) image (is_place bytes image g store low) store.rules);
  rules = λ bytes g image sound low. (let store = sound_store bytes image sound in laws.all_tidied (at image g) image (is_place bytes image g store low) store.rules);
  licensed = λ bytes g h image sound low member. (let store = sound_store bytes image sound in laws.licensed (at image g) image (is_place bytes image g store low) store.rules h member);
}
