-- Cores as members of groups: which core a member is, and whose a key is.
use Rattle.std.proofs.Common.{◌≡◌, ℕ, ◌+◌, ◌*◌, ◌<◌, arith, refl, sym, ap, ◌∙◌, subst}
use Rattle.std.proofs.Math.Nat.{div-lt_iff_lt-mul}
use Rattle.std.proofs.lemmas.Nat.{div-add-mod'}
use Rattle.chunk_map.specs.declared.layouts.Geometry.{Geometry}
use Rattle.chunk_map.specs.Layouts.{IsLayout, owner}
use Rattle.chunk_map.proofs.Clients.{numbers_of}
use Rattle.group_laws.specs.Places.{IsPlace, core_of}
use Rattle.group_laws.specs.Places as places
use Rattle.group_laws.specs.Regions.{groups_in, place_at, key_group}
use Rattle.group_laws.proofs.Clients.{own_core, owner_of, core_low, core_once}
use Rattle.engine_laws.specs.Parts.{group_of, member_of}

pub core_number : (l : Geometry) (g h : ℕ) → core_of (place_at l g) h ≡ g * l.group + h
unfolding core_of
core_number l g h = refl

module _ (l : Geometry) (is : IsLayout l) where
  pub some_group : 0 < l.group
  some_group = let one = (numbers_of l is).group_low in omega (arith, one)

  pub group_low : (c : ℕ) → c < l.cores → group_of l c < groups_in l
  group_low c low =
      let split = div-add-mod' l.cores l.group in
      let none = (numbers_of l is).divides in
      (div-lt_iff_lt-mul {k = l.group} some_group).1 (omega (arith, low, split, none))

  pub member_low : (c : ℕ) → member_of l c < l.group
  member_low c = let some = some_group in omega (arith, some)

  pub core_is : (c : ℕ) → core_of (place_at l (group_of l c)) (member_of l c) ≡ c
  unfolding core_of
  core_is c = div-add-mod' c l.group

  pub place_is : (g : ℕ) → g < groups_in l → IsPlace (place_at l g)
  place_is g low = record { layout = is; group = low }

  -- member h of group g is a core
  pub member_core : (g h : ℕ) → g < groups_in l → h < l.group → g * l.group + h < l.cores
  member_core g h low member = subst (λ (n : ℕ). n < l.cores) (core_number l g h) (core_low (place_at l g) (place_is g low) h member)

  -- the owner of a key is a core, and a member of the key's group
  pub owner_low : (k : ℕ) → owner l k < l.cores
  owner_low k = let some = (numbers_of l is).cores_low in omega (arith, some)

  pub key_group_low : (k : ℕ) → key_group l k < groups_in l
  key_group_low k = group_low (owner l k) (owner_low k)

  pub owner_member : (k : ℕ) → places.owner (place_at l (key_group l k)) k < l.group
  owner_member k = owner_of (place_at l (key_group l k)) k some_group refl

  pub owner_core : (k : ℕ) → core_of (place_at l (key_group l k)) (places.owner (place_at l (key_group l k)) k) ≡ owner l k
  owner_core k = (own_core (place_at l (key_group l k)) k some_group (owner_member k)).0

  -- a key is the core's where it is its member's, and the other way round
  pub of_member : (c k : ℕ) → owner l k ≡ c → places.owner (place_at l (group_of l c)) k ≡ member_of l c
  of_member c k own =
      let p = place_at l (group_of l c) in
      core_once p (places.owner p k) (member_of l c)
      (ap (λ (d : ℕ). core_of (place_at l (group_of l d)) (places.owner (place_at l (group_of l d)) k)) (sym own) ∙ owner_core k ∙ own ∙ sym (core_is c))

  pub of_core : (c k : ℕ) → places.owner (place_at l (group_of l c)) k ≡ member_of l c → owner l k ≡ c
  of_core c k own =
      let p = place_at l (group_of l c) in
      sym (own_core p k some_group (subst (λ (n : ℕ). n < l.group) (sym own) (member_low c))).0 ∙ ap (core_of p) own ∙ core_is c
