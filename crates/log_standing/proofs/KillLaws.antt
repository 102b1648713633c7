-- Names that are told dead where they stand.
use Rattle.std.proofs.Common.{◌≡◌, ℕ, ◌<◌, ◌≤◌, ◌==◌, ◌&&◌, ◌||◌, Bool, true, false, cond, List, [], ◌∷◌, map, Option, Some, None, refl, sym, ◌∙◌, ap, subst}
use Rattle.std.specs.Prelude.{option_map, is_some}
use Rattle.log_standing.specs.declared.name_item.NameItem.{NameItem}
use Rattle.log_standing.specs.declared.types.Copies.{Copies}
use Rattle.log_standing.specs.declared.types.Spot.{Spot}
use Rattle.log_standing.specs.NameCounts.{name_eq, copies_with, killed, count_in, told_in}
use Rattle.log_standing.specs.NameItems.{item_spot, live, copies_among, AreSmall}
use Rattle.log_standing.specs.Killing.{dead_by, all_dead, KillsAmong, SameCounts}
use Rattle.log_standing.proofs.StandingLaws.{same_name}
use Rattle.log_standing.proofs.ItemLaws.{copies_first}

told_more : (n : ℕ) (told b : Bool) (spot : Spot) → Some (copies_with n (told || b) spot) ≡ cond b (option_map killed (Some (copies_with n told spot))) (Some (copies_with n told spot))
told_more n true true spot = refl
told_more n true false spot = refl
told_more n false true spot = refl
told_more n false false spot = refl

module _ (f : ℕ → ℕ → Bool) where
  spread : (b c e : Bool) (x y : Option Copies) → cond c (cond b (option_map killed x) x) (cond e (cond b (option_map killed y) y) (cond b (option_map killed x) x)) ≡ cond b (option_map killed (cond c x (cond e y x))) (cond c x (cond e y x))
  spread true true e x y = refl
  spread true false true x y = refl
  spread true false false x y = refl
  spread false true e x y = refl
  spread false false true x y = refl
  spread false false false x y = refl

  pub kills_all : (xs : List NameItem) → KillsAmong (live xs) (live (map (dead_by f) xs)) f
  kills_all [] k v = none (f k v) where
    none : (b : Bool) → None ≡ cond b (option_map killed None) None
    none true = refl
    none false = refl
  kills_all (x ∷ xs) k v =
      let rest = copies_among (live xs) k v in
      let killed_rest : copies_among (live (map (dead_by f) xs)) k v ≡ cond (f k v) (option_map killed rest) rest = kills_all xs k v in
      copies_first (dead_by f x) (map (dead_by f) xs) k v
      ∙ (λ i. cond (x.count == 0) (killed_rest i) (cond (name_eq (k, v) (x.key, x.version)) (Some (copies_with x.count (x.dead || f x.key x.version) (item_spot x))) (killed_rest i)))
      ∙ ap (λ o. cond (x.count == 0) (cond (f k v) (option_map killed rest) rest) o) (named (name_eq (k, v) (x.key, x.version)) refl)
      ∙ spread (f k v) (x.count == 0) (name_eq (k, v) (x.key, x.version)) rest (Some (copies_with x.count x.dead (item_spot x)))
      ∙ ap (λ o. cond (f k v) (option_map killed o) o) (sym (copies_first x xs k v)) where
        named : (e : Bool) → name_eq (k, v) (x.key, x.version) ≡ e → cond e (Some (copies_with x.count (x.dead || f x.key x.version) (item_spot x))) (cond (f k v) (option_map killed (copies_among (live xs) k v)) (copies_among (live xs) k v))
            ≡ cond e (cond (f k v) (option_map killed (Some (copies_with x.count x.dead (item_spot x)))) (Some (copies_with x.count x.dead (item_spot x)))) (cond (f k v) (option_map killed (copies_among (live xs) k v)) (copies_among (live xs) k v))
        named true is = let e = same_name k v x.key x.version is in
            ap (λ b. Some (copies_with x.count (x.dead || b) (item_spot x))) (sym (λ i. f (e.0 i) (e.1 i))) ∙ told_more x.count x.dead (f k v) (item_spot x)
        named false is = refl

pub kills_every : (xs : List NameItem) (k v : ℕ) → copies_among (live (map all_dead xs)) k v ≡ option_map killed (copies_among (live xs) k v)
kills_every [] k v = refl
kills_every (x ∷ xs) k v =
    let rest = copies_among (live xs) k v in
    copies_first (all_dead x) (map all_dead xs) k v
    ∙ ap (λ (o : Option Copies). cond (x.count == 0) o (cond (name_eq (k, v) (x.key, x.version)) (Some (copies_with x.count true (item_spot x))) o)) (kills_every xs k v)
    ∙ elim (x.count == 0) as (λ b. cond b (option_map killed rest) (cond (name_eq (k, v) (x.key, x.version)) (Some (copies_with x.count true (item_spot x))) (option_map killed rest)) ≡ option_map killed (cond b rest (cond (name_eq (k, v) (x.key, x.version)) (Some (copies_with x.count x.dead (item_spot x))) rest))) [
      | true ↦ refl
      | false ↦ elim (name_eq (k, v) (x.key, x.version)) as (λ b. cond b (Some (copies_with x.count true (item_spot x))) (option_map killed rest) ≡ option_map killed (cond b (Some (copies_with x.count x.dead (item_spot x))) rest)) [ true ↦ refl | false ↦ refl ]
    ]
    ∙ ap (option_map killed) (sym (copies_first x xs k v))

pub same_counts : (xs ys : List NameItem) → map all_dead ys ≡ map all_dead xs → SameCounts (live xs) (live ys)
same_counts xs ys same k v = sym (kills_every ys k v) ∙ ap (λ (l : List NameItem). copies_among (live l) k v) same ∙ kills_every xs k v

-- What stays where names are told dead.

pub count_killed : (o p : Option Copies) → option_map killed o ≡ option_map killed p → count_in o ≡ count_in p
count_killed o p same = sym (alike o) ∙ ap count_in same ∙ alike p where
  alike : (o : Option Copies) → count_in (option_map killed o) ≡ count_in o
  alike None = refl
  alike (Some c) = refl

small_one : (o p : Option Copies) → option_map killed o ≡ option_map killed p → ((c : Copies) → p ≡ Some c → (0 < c.count) × (c.count ≤ 255)) → (c : Copies) → o ≡ Some c → (0 < c.count) × (c.count ≤ 255)
small_one None p same small c at = absurd (cc at)
small_one (Some b) None same small c at = absurd (cc same)
small_one (Some b) (Some d) same small c at =
    let e : d.count ≡ c.count = sym (ap count_in same) ∙ ap count_in at in
    subst (λ (n : ℕ). (0 < n) × (n ≤ 255)) e (small d refl)

pub small_killed : (old new : List ((ℕ × ℕ) × Copies)) → SameCounts old new → AreSmall old → AreSmall new
small_killed old new same small k v = small_one (copies_among new k v) (copies_among old k v) (same k v) (small k v)

pub told_by : (o n : Option Copies) (b : Bool) → told_in o ≡ false → n ≡ cond b (option_map killed o) o → told_in n ≡ (is_some n && b)
told_by o n b untold is = ap told_in is ∙ one o b untold ∙ sym (ap (λ (p : Option Copies). is_some p && b) is) where
  one : (o : Option Copies) (b : Bool) → told_in o ≡ false → told_in (cond b (option_map killed o) o) ≡ (is_some (cond b (option_map killed o) o) && b)
  one None true untold = refl
  one None false untold = refl
  one (Some c) true untold = refl
  one (Some c) false untold = untold
