-- What recovery gives is what a worker's opening asks for.
use Rattle.std.proofs.Common.{◌≡◌, ℕ, ◌+◌, ◌/◌, ◌%◌, ◌^◌, ◌<◌, ◌&&◌, nat_lt, Bool, true, false, List, [], ◌∷◌, length, div-lt_iff_lt-mul, refl, sym, ◌∙◌, ap, subst, arith}
use Rattle.std.specs.Prelude.{slice_index_or}
use Rattle.std.proofs.lemmas.Nat.{div-add-mod'}
use Rattle.pm_region.specs.State.{State, IsTelling, InRange, cell_now}
use Rattle.pm_region.specs.Words.{Surely}
use Rattle.chunk_map.specs.declared.layouts.Geometry.{Geometry}
use Rattle.chunk_map.specs.Layouts.{IsLayout, part_first}
use Rattle.chunk_map.proofs.Clients.{numbers_of}
use Rattle.store_image.specs.Facts.{KeepsRules}
use Rattle.store_image.proofs.Clients.{layout_numbers}
use Rattle.core_log.specs.Log.{StandsIn}
use Rattle.recover.specs.declared.types.CoreStart.{CoreStart}
use Rattle.recover.specs.declared.types.Recovered.{Recovered}
use Rattle.recover.specs.Logs.{IsStart}
use Rattle.recover.specs.Heads.{IsStartOf}
use Rattle.recover.specs.Recovering.{IsMade, IsOf, IsFound}
use Rattle.group_laws.specs.Places.{Place, IsPlace, core_of}
use Rattle.group_laws.specs.Regions as regions
use Rattle.licence.specs.Licence.{part_at, part_end}
use Rattle.core_worker.specs.declared.types.Place as places
use Rattle.core_worker.specs.declared.types.Place.TheVariants.{Free}
use Rattle.core_worker.specs.declared.worker.Worker.{Worker}
use Rattle.core_worker.specs.OwnPlaces.{place_at}
use Rattle.core_worker.specs.Status.{any_free, has_room, is_leading}
use Rattle.core_worker.specs.Openings.{IsNew, IsStartAt, IsCertainAt}

pub core_is : (l : Geometry) (c : ℕ) → core_of (regions.place_at l (c / l.group)) (c % l.group) ≡ c
unfolding core_of
core_is l c = div-add-mod' c l.group

place_is : (l : Geometry) (c : ℕ) → IsLayout l → c < l.cores → IsPlace (regions.place_at l (c / l.group))
place_is l c is low =
    let some : 0 < l.group = let one = (layout_numbers l is).group in omega (arith, one) in
    let split = div-add-mod' l.cores l.group in
    let none = (numbers_of l is).divides in
    record { layout = is; group = (div-lt_iff_lt-mul {k = l.group} some).1 (omega (arith, low, split, none)) }

-- each start of a sound image, at the place of its core
module _ (bytes : ℕ) (image : ℕ → ℕ) (r : Recovered) (made : IsMade bytes r) (found : IsFound bytes image r) (c : ℕ) (d : CoreStart) (low : c < r.layout.cores) where
  abbrev l : Geometry
  l = r.layout

  abbrev found_start : CoreStart
  found_start = slice_index_or r.starts.items c d

  of_layout : IsOf l image r × KeepsRules l image
  of_layout = subst (λ (g : Geometry). IsOf g image r × KeepsRules g image) (sym found.is_of.layout_is) (found.is_of, found.sound.rules)

  found_is : IsStartOf l image c found_start
  found_is = let is = of_layout.0 in record { logs = is.logs c d low; allocator = is.allocators c d low; index = is.indexes c d low; standing = is.standings c d low }

  pub start_at : IsStartAt (regions.place_at l (c / l.group)) (c % l.group) image found_start
  start_at = record {
    place = place_is l c made.layout low;
    member = let one = (layout_numbers l made.layout).group in omega (arith, one);
    rules = of_layout.1;
    made = subst (λ (n : ℕ). IsStart l n found_start) (sym (core_is l c)) (made.starts c d low);
    found = subst (λ (n : ℕ). IsStartOf l image n found_start) (sym (core_is l c)) found_is;
  }

-- and by a region of small numbers, whose words are certainly the image's
pub certain_at : (s : State) (p : Place) (m : ℕ) (image : ℕ → ℕ) (start : CoreStart) → IsStartAt p m image start → StandsIn s start.log → s.frame.first + s.frame.words < 2 ^ 64
    → (IsTelling s → (w : ℕ) → InRange s.frame w → Surely (cell_now s w) (image w)) → IsCertainAt s p m image start
certain_at s p m image start at log fits certain =
    let low : part_first start.log.layout start.log.part ≡ part_at p m = λ i. part_first (at.made.layout_is i) (at.made.part_is i) in
    let high : part_first start.log.layout (start.log.part + 1) ≡ part_end p m = λ i. part_first (at.made.layout_is i) (at.made.part_is i + 1) in
    let own_low : part_first start.allocator.layout start.allocator.part ≡ part_at p m = λ i. part_first (at.made.allocator_layout i) (at.made.allocator_part i) in
    let own_high : part_first start.allocator.layout (start.allocator.part + 1) ≡ part_end p m = λ i. part_first (at.made.allocator_layout i) (at.made.allocator_part i + 1) in
    let from = log.low in
    let end = log.high in
    record {
      lies = record { low = omega (arith, own_low, low, from); high = omega (arith, own_high, high, end); fits = fits };
      words = λ telling w a b. certain telling w (record { low = omega (arith, a, low, from); high = omega (arith, b, high, end) });
      log = log;
    }

-- a worker that has accepted nothing has room for a request

first_free : (ps : List places.Place) → length ps ≡ 8 → place_at ps 0 ≡ Free → any_free ps ≡ true
first_free [] eight free = let bad : 0 ≡ 8 = eight in absurd (omega (arith, bad))
first_free (x ∷ ps) eight free = subst (λ (y : places.Place). any_free (y ∷ ps) ≡ true) (sym free) refl

pub new_room : (start : CoreStart) (layout : Geometry) (w : Worker) → IsNew start layout w → has_room w ≡ true
new_room start layout w N =
    (λ i. any_free w.places.items && nat_lt (length (N.queue i)) 64) ∙ ap (λ (b : Bool). b && nat_lt 0 64) (first_free w.places.items N.eight (N.free 0))

pub new_idle : (start : CoreStart) (layout : Geometry) (w : Worker) → IsNew start layout w → is_leading w.leading ≡ false
new_idle start layout w N = ap is_leading N.leading.1
