-- What is written elsewhere, or made certain, keeps a licence.
use Rattle.std.proofs.Common.{◌⊎◌, inl, inr, ⊎_elim, ℕ, ◌≤◌, ◌<◌, arith}
use Rattle.pm_region.specs.Cell.{Cell}
use Rattle.pm_region.specs.State.{State, IsTelling, cell_now, During}
use Rattle.pm_region.specs.Words.{KeepsOutside, Narrows}
use Rattle.pm_region.proofs.Clients.{weaken, kept_narrows}
use Rattle.group_laws.specs.Places.{Place}
use Rattle.group_laws.specs.MemberViews.{View}
use Rattle.licence.specs.Licence.{Licensed, part_at, part_end}

pub narrowed : (p : Place) (m : ℕ) (v : View) (old new : ℕ → Cell) → ((w : ℕ) → part_at p m ≤ w → w < part_end p m → Narrows (old w) (new w)) → Licensed p m v old → Licensed p m v new
narrowed p m v old new narrows licensed image may = licensed image (λ w low high. narrows w low high (image w) (may w low high))

pub beside : (s t : State) (p : Place) (m : ℕ) (v : View) (from end : ℕ) → (IsTelling s → Licensed p m v (cell_now s)) → (end ≤ part_at p m) ⊎ (part_end p m ≤ from)
    → During s t (KeepsOutside (cell_now s) from end) → During s t (Licensed p m v)
beside s t p m v from end licensed apart run = weaken s t (KeepsOutside (cell_now s) from end) (Licensed p m v)
    (λ telling cells kept. narrowed p m v (cell_now s) cells (λ w low high. kept_narrows (cell_now s w) (cells w) (kept w (⊎_elim (λ before. inr (omega (arith, before, low))) (λ behind. inl (omega (arith, behind, high))) apart))) (licensed telling)) run
