-- Notices with more room, of which the same names wait.
use Rattle.std.proofs.Common.{◌≡◌, ℕ, zero, suc, ◌+◌, ◌≤◌, ◌<◌, List, [], ◌∷◌, ◌++◌, length, map, take, get_or, refl, sym, ◌∙◌, ap, subst, arith}
use Rattle.std.specs.List.{AllByRecursion}
use Rattle.std.proofs.Math.Seq.{take-suc}
use Rattle.std.proofs.lemmas.List.{map-append}
use Rattle.log_entry.specs.declared.entry.EntryName.{EntryName}
use Rattle.group_board.specs.declared.names.Notices.{Notices}
use Rattle.core_worker.specs.BeginsCleaning.{waiting_of, MakesPlaces}
use Rattle.core_worker.specs.GoneMail.{HasPlacesFor}
use Rattle.core_worker.specs.Outbox.{HasSpare}

abbrev pub HasPlaces : ℕ → Notices → Type 0
HasPlaces most n = length n.gone.names + most ≤ n.gone.room

-- the notices for the first members
pub record WidenedSoFar (most : ℕ) (old new : List Notices) : Type 0 where
  pub waits : map waiting_of new ≡ map waiting_of old
  pub spare : AllByRecursion HasSpare new
  pub places : AllByRecursion (HasPlaces most) new

pub widened_none : (most : ℕ) (new : List Notices) → new ≡ [] → WidenedSoFar most [] new
widened_none most new none = subst (WidenedSoFar most []) (sym none) (record { waits = refl; spare = tt; places = tt })

more : (P : Notices → Type 0) (ns : List Notices) (n : Notices) → AllByRecursion P ns → P n → AllByRecursion P (ns ++ n ∷ [])
more P [] n all one = (one, tt)
more P (x ∷ ns) n all one = (all.0, more P ns n all.1 one)

pub nothing : Notices
nothing = record { dead = record { names = []; room = 0 }; gone = record { names = []; room = 0 } }

-- one member's more
pub widened_more : (most : ℕ) (boxes new now : List Notices) (i : ℕ) (x : Notices) → i < length boxes → WidenedSoFar most (take i boxes) new → now ≡ new ++ x ∷ [] → x.dead.names ≡ (get_or boxes i nothing).dead.names → x.dead.room ≡ length (get_or boxes i nothing).dead.names + 1
    → x.gone.names ≡ (get_or boxes i nothing).gone.names → x.gone.room ≡ length (get_or boxes i nothing).gone.names + most → WidenedSoFar most (take (i + 1) boxes) now
widened_more most boxes new now i x lt S is dead dead_room gone gone_room =
    let at : suc i ≡ i + 1 = omega arith in
    let taken = ap (λ (j : ℕ). take j boxes) (sym at) ∙ take-suc boxes i nothing lt in
    let long = ap (λ (ns : List EntryName). length ns) dead in
    let many = ap (λ (ns : List EntryName). length ns) gone in
    record {
      waits = ap (map waiting_of) is ∙ map-append waiting_of new (x ∷ []) ∙ (λ j. S.waits j ++ (dead j, gone j) ∷ []) ∙ sym (map-append waiting_of (take i boxes) (get_or boxes i nothing ∷ [])) ∙ sym (ap (map waiting_of) taken);
      spare = subst (AllByRecursion HasSpare) (sym is) (more HasSpare new x S.spare (omega (arith, long, dead_room)));
      places = subst (AllByRecursion (HasPlaces most)) (sym is) (more (HasPlaces most) new x S.places (omega (arith, many, gone_room)));
    }

has_places : (most : ℕ) (boxes : List Notices) → AllByRecursion (HasPlaces most) boxes → HasPlacesFor most boxes
has_places most [] all h n is = absurd (cc is)
has_places most (x ∷ xs) all zero n is = let same : x ≡ n = cc is in subst (HasPlaces most) same all.0
has_places most (x ∷ xs) all (suc h) n is = has_places most xs all.1 h n is

pub widened_all : (most : ℕ) (boxes new : List Notices) (i : ℕ) → take i boxes ≡ boxes → WidenedSoFar most (take i boxes) new → MakesPlaces most boxes new
widened_all most boxes new i all S = record {
  waits = S.waits ∙ ap (map waiting_of) all;
  spare = S.spare;
  places = has_places most new S.places;
}
