-- Where a group stands in a region: which cores it has, whose a key is, and where blocks lie.
use Rattle.std.specs.Prelude.{ℕ, ◌+◌, ◌*◌, ◌/◌, ◌%◌, ◌^◌, ◌<◌, ◌≤◌, ◌==◌, nat_le, find, unwrap_or, if◌then◌else◌, ◌⊎◌}
use Rattle.pm_region.specs.declared.region_sizes.TheConstants.{WORD_BYTES}
use Rattle.chunk_map.specs.declared.layout_sizes.TheConstants.{FIRST_UNIT, GREATEST_CLASS, LONGEST_VALUE, SHORTEST_IN_BLOCK, UNIT_BYTES}
use Rattle.chunk_map.specs.declared.layouts.Geometry.{Geometry}
use Rattle.chunk_map.specs.Layouts.{IsLayout, numbers, is_of_group}
use Rattle.chunk_map.specs.Layouts as layouts
use Rattle.store_image.specs.Parts.{chunk_units}

-- a layout, and the number of one of its groups
pub record Place : Type 0 where
  pub layout : Geometry
  pub group : ℕ

pub record IsPlace (p : Place) : Type 0 where
  pub layout : IsLayout p.layout
  pub group : p.group < p.layout.cores / p.layout.group

-- members are numbered from 0 in each group
abbrev pub members : Place → ℕ
members p = p.layout.group

-- the core that a member is
unfoldable pub core_of : Place → ℕ → ℕ
core_of p m = p.group * p.layout.group + m

-- The member that owns a key. Where another group has the key, it is a number that no member has.
unfoldable pub owner : Place → ℕ → ℕ
owner p k = if layouts.owner p.layout k / p.layout.group == p.group then layouts.owner p.layout k %
    p.layout.group else p.layout.group

-- The first unit of a member's part, and of the number of members the one behind the last part. Pointers count units from the region's start.
unfoldable pub first_unit : Place → ℕ → ℕ
first_unit p m = FIRST_UNIT + (p.group * p.layout.group + m) *
    (p.layout.chunks * chunk_units p.layout)

-- the units of a value's block: those of the least class that has room for the length word and the bytes
unfoldable pub units : ℕ → ℕ
units n = 2 ^ unwrap_or (find (λ class. nat_le (n + WORD_BYTES) (UNIT_BYTES * 2 ^ class))
    (numbers 1 GREATEST_CLASS)) (GREATEST_CLASS + 1)

-- a run of units lies in a member's part
abbrev pub LiesIn : Place → ℕ → ℕ → ℕ → Type 0
LiesIn p m at n = (first_unit p m ≤ at) × (at + n ≤ first_unit p (m + 1))

-- two runs share no unit
abbrev pub Apart : ℕ → ℕ → ℕ → ℕ → Type 0
Apart p a q b = (p + a ≤ q) ⊎ (q + b ≤ p)

-- a value of this length has a block of its own
abbrev pub GetsBlock : ℕ → Type 0
GetsBlock n = (SHORTEST_IN_BLOCK ≤ n) × (n ≤ LONGEST_VALUE)
