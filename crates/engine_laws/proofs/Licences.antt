-- What licenses each part of a region licenses the whole, and a move of one core leaves the licences of the others.
use Rattle.std.proofs.Common.{◌≡◌, ◌≢◌, ℕ, ◌+◌, ◌*◌, ◌/◌, ◌%◌, ◌<◌, ◌≤◌, ◌==◌, ◌&&◌, cond, leb, is_none, List, map, Some, None, ◌⊎◌, inl, inr, arith, sym, ◌∙◌, subst}
use Rattle.std.proofs.lemmas.Bool.{cases_lt, cases_eq}
use Rattle.std.proofs.lemmas.Nat.{div-mul-add, mod-mul-add}
use Rattle.pm_region.specs.Cell.{Cell}
use Rattle.pm_region.specs.State.{Frame, InRange, MayLeave}
use Rattle.pm_region.specs.Words.{EachIn, KeepsOutside}
use Rattle.pm_region.proofs.Clients.{kept_narrows, surely_kept}
use Rattle.chunk_map.specs.declared.layouts.Geometry.{Geometry}
use Rattle.chunk_map.specs.Layouts.{part_first, layout_of, superblock_rule, IsLayout, layout_rule, magic, total_bytes}
use Rattle.chunk_map.proofs.Clients.{part_below, part_within}
use Rattle.store_image.proofs.Clients.{superblock_facts}
use Rattle.group_laws.specs.Places.{Place, members}
use Rattle.group_laws.specs.State.{Group}
use Rattle.group_laws.specs.MemberViews.{View, view_of}
use Rattle.group_laws.specs.Images.{IsLicensedBy, IsSafe}
use Rattle.group_laws.specs.Regions.{groups_in, place_at, AreSafe, ShowsCell}
use Rattle.group_laws.specs.Runs.{Kind, Runs}
use Rattle.group_laws.proofs.Clients.{images_safe, region_sound, region_cells}
use Rattle.licence.specs.Licence.{Licensed}
use Rattle.engine_laws.specs.Parts.{group_of, member_of, LicensedPart, HasSuperblock, AllLicensed, Groups, ShowsGroups}
use Rattle.engine_laws.proofs.Cores.{core_is, member_core}
use Rattle.engine_laws.proofs.Others.{other_view}

-- another core's words
pub outside_part : (l : Geometry) (c d w : ℕ) → d ≢ c → part_first l d ≤ w → w < part_first l (d + 1) → (w < part_first l c) ⊎ (part_first l (c + 1) ≤ w)
outside_part l c d w ne low high = elim (cases_lt d c) [
  | inl lt ↦ inl (let end = part_below l (d + 1) c (omega (arith, lt)) in omega (arith, end, high))
  | inr ge ↦ inr (let begin = part_below l (c + 1) d (omega (arith, ge, ne)) in omega (arith, begin, low))
]

-- What is said of each image of another part stays.
pub others_kept : (l : Geometry) (c d : ℕ) (P : (ℕ → ℕ) → Type 0) (old new : ℕ → Cell) → d ≢ c → KeepsOutside old (part_first l c) (part_first l (c + 1)) new
    → EachIn (part_first l d) (part_first l (d + 1)) P old → EachIn (part_first l d) (part_first l (d + 1)) P new
others_kept l c d P old new ne outside each image may = each image (λ w low high. kept_narrows (old w) (new w) (outside w (outside_part l c d w ne low high)) (image w) (may w low high))

pub superblock_kept : (l : Geometry) (c : ℕ) (found : ℕ → ℕ) (old new : ℕ → Cell) → KeepsOutside old (part_first l c) (part_first l (c + 1)) new → HasSuperblock found old → HasSuperblock found new
superblock_kept l c found old new outside sure w low = surely_kept (old w) (new w) (found w) (sure w low) (outside w (inl (omega (arith, low))))

module _ (l : Geometry) (is : IsLayout l) where
  -- a licence is one of the words of the core's part
  by_words : (c : ℕ) (v : View) (cells : ℕ → Cell) → Licensed (place_at l (group_of l c)) (member_of l c) v cells → EachIn (part_first l c) (part_first l (c + 1)) (IsLicensedBy (place_at l (group_of l c)) (member_of l c) v) cells
  by_words c v cells L = subst (λ (d : ℕ). EachIn (part_first l d) (part_first l (d + 1)) (IsLicensedBy (place_at l (group_of l c)) (member_of l c) v) cells) (core_is l is c) L

  pub by_view : (c : ℕ) (v : View) (cells : ℕ → Cell) → EachIn (part_first l c) (part_first l (c + 1)) (IsLicensedBy (place_at l (group_of l c)) (member_of l c) v) cells → Licensed (place_at l (group_of l c)) (member_of l c) v cells
  by_view c v cells L = subst (λ (d : ℕ). EachIn (part_first l d) (part_first l (d + 1)) (IsLicensedBy (place_at l (group_of l c)) (member_of l c) v) cells) (sym (core_is l is c)) L

  -- After steps of core c, with words of its part alone changed, each other part is licensed still.
  pub all_licensed : (c : ℕ) (w u : ℕ → Group) (steps : List Kind) (old new : ℕ → Cell)
      → ((g : ℕ) → g ≢ group_of l c → u g ≡ w g) → Runs (w (group_of l c)) (map (λ x. (member_of l c, x)) steps) (u (group_of l c))
      → KeepsOutside old (part_first l c) (part_first l (c + 1)) new
      → LicensedPart l c (u (group_of l c)) new → AllLicensed l w old → AllLicensed l u new
  all_licensed c w u steps old new others runs outside own all d low = elim (cases_eq d c) [
    | inl same ↦ subst (λ (d : ℕ). LicensedPart l d (u (group_of l d)) new) (sym same) own
    | inr ne ↦ subst (λ (v : View). Licensed (place_at l (group_of l d)) (member_of l d) v new) (sym (other_view l c w u steps others runs d ne))
        (by_view d (view_of (w (group_of l d)) (member_of l d)) new
        (others_kept l c d (IsLicensedBy (place_at l (group_of l d)) (member_of l d) (view_of (w (group_of l d)) (member_of l d))) old new ne outside (by_words d (view_of (w (group_of l d)) (member_of l d)) old (all d low))))
  ]

-- images with the same superblock
same_layout : (i j : ℕ → ℕ) → ((w : ℕ) → w < 512 → i w ≡ j w) → layout_of i ≡ layout_of j
same_layout i j same =
    let a = same 2 (omega arith) in
    let b = same 3 (omega arith) in
    let c = same 4 (omega arith) in
    let d = same 5 (omega arith) in
    (λ t. record { cores = a t; group = b t; chunks = c t; chunk_bytes = d t })

same_rule : (bytes : ℕ) (i j : ℕ → ℕ) → ((w : ℕ) → w < 512 → i w ≡ j w) → superblock_rule bytes i ≡ superblock_rule bytes j
same_rule bytes i j same =
    let a = same 0 (omega arith) in
    let b = same 1 (omega arith) in
    let l = same_layout i j same in
    (λ t. cond (bytes % 8 == 0 && leb 4096 bytes && leb bytes 268439552) (cond (a t == magic && b t == 1) (cond (is_none (layout_rule (l t)) && bytes == total_bytes (l t)) None (Some 3)) (Some 2)) (Some 1))

-- Whatever a crash leaves of a region whose parts are licensed shows the groups' cells.
pub shows_groups : (bytes : ℕ) (found : ℕ → ℕ) (f : Frame) (w : ℕ → Group) (cells : ℕ → Cell) (image : ℕ → ℕ) → superblock_rule bytes found ≡ None → f.first ≡ 0 → f.words ≡ bytes / 8
    → Groups (layout_of found) w → HasSuperblock found cells → AllLicensed (layout_of found) w cells → MayLeave f cells image → ShowsGroups bytes (layout_of found) w image
shows_groups bytes found f w cells image super first words G sure all may = record {
  sound = region_sound image w safe bytes rule;
  layout = layout;
  cells = λ k. subst (λ (m : Geometry). ShowsCell m w image k) layout (region_cells image w safe bytes rule k);
} where
  size : bytes ≡ total_bytes (layout_of found)
  size = (superblock_facts bytes found super).2

  within : (w : ℕ) → w < bytes / 8 → InRange f w
  within w lt = record { low = omega (arith, first); high = omega (arith, first, words, lt) }

  same : (w : ℕ) → w < 512 → image w ≡ found w
  same w lt = sure w lt (image w) (may w (within w (let s = size in omega (arith, s, lt))))

  layout : layout_of image ≡ layout_of found
  layout = same_layout image found same

  rule : superblock_rule bytes image ≡ None
  rule = same_rule bytes image found same ∙ super

  is_layout : IsLayout (layout_of found)
  is_layout = (superblock_facts bytes found super).1

  licensed : (g h : ℕ) → g < groups_in (layout_of found) → h < (layout_of found).group → IsLicensedBy (place_at (layout_of found) g) h (view_of (w g) h) image
  licensed g h low member =
      let l = layout_of found in
      let c : ℕ = g * l.group + h in
      let core = member_core l is_layout g h low member in
      let end = part_within l c is_layout core in
      let s = size in
      let here = by_words l is_layout c (view_of (w (group_of l c)) (member_of l c)) cells (all c core) image (λ w from to. may w (within w (omega (arith, end, s, to)))) in
      subst (λ (n : ℕ). IsLicensedBy (place_at l g) n (view_of (w g) n) image) (mod-mul-add g l.group h member)
      (subst (λ (n : ℕ). IsLicensedBy (place_at l n) (c % l.group) (view_of (w n) (c % l.group)) image) (div-mul-add g l.group h member) here)

  safe_there : (g : ℕ) → g < groups_in (layout_of found) → IsSafe (w g) (λ h. image)
  safe_there g low = images_safe (w g) (G.lawful g low) (λ h. image) (λ h member.
      subst (λ (p : Place). IsLicensedBy p h (view_of (w g) h) image) (sym (G.place g low)) (licensed g h low (subst (λ (p : Place). h < members p) (G.place g low) member)))

  safe : AreSafe (layout_of image) w image
  safe = subst (λ (m : Geometry). AreSafe m w image) (sym layout) (record { place = G.place; safe = safe_there })
