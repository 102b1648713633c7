-- Which of some names are of a member's own keys.
use Rattle.std.proofs.Common.{◌≡◌, ℕ, ◌<◌, ◌==◌, ◌||◌, ◌&&◌, Bool, true, false, cond, List, [], ◌∷◌, refl, sym, ◌∙◌, ap, arith}
use Rattle.std.specs.List.{filter}
use Rattle.std.proofs.lemmas.Bool.{eq-eqb, eqb-true, and_parts}
use Rattle.log_entry.specs.declared.entry.EntryName.{EntryName}
use Rattle.log_standing.specs.NameCounts.{name_eq}
use Rattle.log_standing.proofs.Clients.{same_name}
use Rattle.chunk_map.specs.Layouts as layouts
use Rattle.chunk_map.proofs.Clients.{numbers_of}
use Rattle.group_laws.specs.Places.{Place, IsPlace, members, core_of, owner}
use Rattle.group_laws.specs.Updates.{has}
use Rattle.group_laws.proofs.Clients.{own_core}
use Rattle.core_worker.specs.LogNames.{AreOwnOf}
use Rattle.core_worker.proofs.StartBlocks.{own_of}

-- names that a test of their keys chooses
pub has_chosen : (test : ℕ → Bool) (ns : List EntryName) (k n : ℕ) → has (filter (λ (x : EntryName). test x.key) ns) k n ≡ (test k && has ns k n)
has_chosen test [] k n = by (test k) where
  by : (b : Bool) → false ≡ (b && false)
  by true = refl
  by false = refl
has_chosen test (x ∷ xs) k n = by (test x.key) refl (name_eq (x.key, x.version) (k, n)) refl (has_chosen test xs k n) where
  by : (a : Bool) → test x.key ≡ a → (b : Bool) → name_eq (x.key, x.version) (k, n) ≡ b → has (filter (λ (y : EntryName). test y.key) xs) k n ≡ (test k && has xs k n)
      → has (cond a (x ∷ filter (λ (y : EntryName). test y.key) xs) (filter (λ (y : EntryName). test y.key) xs)) k n ≡ (test k && (name_eq (x.key, x.version) (k, n) || has xs k n))
  by true A true B rest = let tk : test k ≡ true = ap test (sym (same_name x.key x.version k n B).0) ∙ A in ap (λ (t : Bool). t || has (filter (λ (y : EntryName). test y.key) xs) k n) B ∙ sym (λ i. tk i && (B i || has xs k n))
  by true A false B rest = ap (λ (t : Bool). t || has (filter (λ (y : EntryName). test y.key) xs) k n) B ∙ rest ∙ sym (ap (λ (t : Bool). test k && (t || has xs k n)) B)
  by false A true B rest = let tk : test k ≡ false = ap test (sym (same_name x.key x.version k n B).0) ∙ A in rest ∙ ap (λ (t : Bool). t && has xs k n) tk ∙ sym (λ i. tk i && (B i || has xs k n))
  by false A false B rest = rest ∙ sym (ap (λ (t : Bool). test k && (t || has xs k n)) B)

-- those of the core's keys are the member's own
pub owned_names : (p : Place) (m : ℕ) (all ns : List EntryName) → IsPlace p → m < members p → ns ≡ filter (λ (x : EntryName). layouts.owner p.layout x.key == core_of p m) all → AreOwnOf p m all ns
owned_names p m all ns place member is = record {
  own = λ k n t. own_of p m k some member (eqb-true (layouts.owner p.layout k) (core_of p m) (and_parts (layouts.owner p.layout k == core_of p m) (has all k n) (sym (chosen k n) ∙ t)).0);
  same = λ k n own. chosen k n ∙ ap (λ (b : Bool). b && has all k n) (eq-eqb (layouts.owner p.layout k) (core_of p m) (here k own));
} where
  some : 0 < p.layout.group
  some = let low = (numbers_of p.layout place.layout).group_low in omega (arith, low)

  chosen : (k n : ℕ) → has ns k n ≡ ((layouts.owner p.layout k == core_of p m) && has all k n)
  chosen k n = ap (λ (l : List EntryName). has l k n) is ∙ has_chosen (λ (j : ℕ). layouts.owner p.layout j == core_of p m) all k n

  here : (k : ℕ) → owner p k ≡ m → layouts.owner p.layout k ≡ core_of p m
  here k own = sym (own_core p k some (let low = member in omega (arith, own, low))).0 ∙ ap (core_of p) own
