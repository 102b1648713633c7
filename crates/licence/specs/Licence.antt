-- What a member's view allows of its part: each image that a crash may leave there.
use Rattle.std.specs.Prelude.{◌≡◌, ℕ, ◌+◌, []}
use Rattle.pm_region.specs.Cell.{Cell}
use Rattle.pm_region.specs.Words.{EachIn}
use Rattle.chunk_map.specs.Layouts.{part_first}
use Rattle.core_log.specs.Log.{LogState}
use Rattle.group_laws.specs.Places.{Place, core_of}
use Rattle.group_laws.specs.MemberViews.{View}
use Rattle.group_laws.specs.Images.{IsLicensedBy}

-- the first word of a member's part, and the one behind its last
abbrev pub part_at : Place → ℕ → ℕ
part_at p m = part_first p.layout (core_of p m)

abbrev pub part_end : Place → ℕ → ℕ
part_end p m = part_first p.layout (core_of p m + 1)

-- each image that the cells allow in the member's part is licensed by the view
abbrev pub Licensed : Place → ℕ → View → (ℕ → Cell) → Type 0
Licensed p m v cells = EachIn (part_at p m) (part_end p m) (IsLicensedBy p m v) cells

-- The view with nothing in flight. Until a batch is appended, no image has any of it, so what was certain licenses each image.
abbrev pub grounded : View → View
grounded v = record v { flying = [] }

-- the log is that of member m's core
pub record IsLogOf (p : Place) (m : ℕ) (log : LogState) : Type 0 where
  pub layout : log.layout ≡ p.layout
  pub part : log.part ≡ core_of p m
