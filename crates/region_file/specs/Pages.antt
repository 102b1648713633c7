-- Bytes by pages, of which some are stored.
use Rattle.std.specs.Prelude.{◌≡◌, ℕ, ◌+◌, ◌*◌, ◌≤◌, ◌<◌, ◌==◌, if◌then◌else◌, List, length, map, slice_index, Option, Some, None}
use Rattle.std.specs.List.{range_with_len}
use Rattle.std.specs.Arc.{arc_value}
use Rattle.pm_region.specs.declared.region_sizes.TheConstants.{MOST_BYTES}
use Rattle.region_file.specs.declared.page_size.TheConstants.{PAGE}
use Rattle.region_file.specs.Slots.{slot_at, page_byte}
use Rattle.region_file.specs.declared.pages.Pages.{Pages}
use Rattle.region_file.specs.declared.shared_bytes.SharedBytes.{SharedBytes}

-- the byte at a place of pages: 0 in one that isn't stored
abbrev pub stored_byte : Pages → ℕ → ℕ
stored_byte p k = if slot_at p.slots.items k == 0 then 0 else page_byte p.slots.items p.bytes.items k

-- the byte at a place of shared bytes
abbrev pub shared_byte : SharedBytes → ℕ → ℕ
shared_byte s k = stored_byte (arc_value s.whole) (s.from + k)

-- what stands under the bytes that are one's own: zeros, where nothing is shared
abbrev pub byte_under : Option SharedBytes → ℕ → ℕ
byte_under None k = 0
byte_under (Some s) k = shared_byte s k

-- the byte at a place: an own one, where its page is stored
abbrev pub byte_in : Pages → Option SharedBytes → ℕ → ℕ
byte_in own base k = if slot_at own.slots.items k == 0 then byte_under base k else page_byte own.slots.items own.bytes.items k

-- bytes as clauses see them
pub record FileItems : Type 0 where
  pub items : List ℕ

-- so many bytes from the first one on
abbrev pub items_in : Pages → Option SharedBytes → ℕ → List ℕ
items_in own base len = map (byte_in own base) (range_with_len 0 len)

-- these bytes are shared from the first one on
pub record Shares (items : List ℕ) (s : SharedBytes) : Type 0 where
  pub first : s.from ≡ 0
  pub bytes : (k : ℕ) → k < length items → shared_byte s k ≡ slice_index items k

-- there are just as many pages as so many bytes begin
pub record HasPages (own : Pages) (len : ℕ) : Type 0 where
  pub all : len ≤ PAGE * length own.slots.items
  pub last : PAGE * length own.slots.items < len + PAGE
  pub most : len ≤ MOST_BYTES
