-- The opened state of an image is what was found there, after the two rules.
use Rattle.std.proofs.Common.{◌≡◌, ℕ, zero, suc, ◌<◌, Bool, true, false, cond, ◌&&◌, ◌||◌, not, ◌==◌, List, [], ◌∷◌, map, Option, Some, None, unwrap_or, ◌⊎◌, inl, inr, arith, refl, sym, ap, ◌∙◌, subst, ltb}
use Rattle.std.specs.Prelude.{is_none, option_map}
use Rattle.std.specs.List.{list_all}
use Rattle.std.proofs.lemmas.Bool.{and_parts, and_from, or_cases, or_left, or_right, eqb-true, eq-eqb, ltb-true, lt-ltb, cases_eq}
use Rattle.chunk_map.specs.Layouts.{numbers, chunk_first}
use Rattle.store_image.specs.declared.types.PlacedEntry.{PlacedEntry}
use Rattle.store_image.specs.Parts.{all_entries, chunk_reads}
use Rattle.store_image.specs.Winners.{winner}
use Rattle.store_image.specs.Facts.{In, KeepsRules}
use Rattle.store_image.proofs.Clients.{chosen, winner_is, number_in}
use Rattle.group_laws.specs.Places.{Place, IsPlace, members, core_of, owner}
use Rattle.group_laws.specs.State.{Group}
use Rattle.group_laws.specs.Invariant.{Lawful, IsDead}
use Rattle.group_laws.specs.Tidying.{IsSpent, TellsItself, Tidied}
use Rattle.group_laws.specs.Images.{log_of, IsLicensedImage}
use Rattle.group_laws.specs.Opening.{AllTidied}
use Rattle.group_laws.specs.OpeningImages.{is_own, kept_in, winner_of, last_of, cell_of, home_of, found, alone, is_dead, is_at, is_own_dead, opened}
use Rattle.group_laws.proofs.Images.{contents, held_there}
use Rattle.group_laws.proofs.GroupEntries as entries
use Rattle.group_laws.proofs.GroupEntries.{core_low}
use Rattle.group_laws.proofs.OpeningFound as founds
use Rattle.group_laws.proofs.Opened as laws

pub all_true : {X : Type 0} (f : X → Bool) (xs : List X) (y : X) → list_all f xs ≡ true → In y xs → f y ≡ true
all_true f [] y t i = absurd i
all_true f (x ∷ xs) y t (inl q) = ap f q ∙ (and_parts (f x) (list_all f xs) t).0
all_true f (x ∷ xs) y t (inr i) = all_true f xs y (and_parts (f x) (list_all f xs) t).1 i

pub all_from : {X : Type 0} (f : X → Bool) (xs : List X) → ((y : X) → In y xs → f y ≡ true) → list_all f xs ≡ true
all_from f [] h = refl
all_from f (x ∷ xs) h = and_from (f x) (list_all f xs) (h x (inl refl)) (all_from f xs (λ y i. h y (inr i)))

none_is : {X : Type 0} (o : Option X) → is_none o ≡ true → o ≡ None
none_is None t = refl
none_is (Some x) t = cc t

at_is : (h : ℕ) (o : Option ℕ) → is_at h o ≡ true → o ≡ Some h
at_is h None t = cc t
at_is h (Some i) t = ap Some (eqb-true i h t)

is_named : (k v : ℕ) (y : PlacedEntry) → (not (y.entry.key == k) || y.entry.version == v) ≡ true → y.entry.key ≡ k → y.entry.version ≡ v
is_named k v y t key = elim (or_cases (not (y.entry.key == k)) (y.entry.version == v) t) [
  | inl other ↦ absurd (let same = eq-eqb y.entry.key k key in cc (other, same))
  | inr is ↦ eqb-true y.entry.version v is
]

module _ (p : Place) (image : ℕ → ℕ) (place : IsPlace p) (rules : KeepsRules p.layout image) where
  abbrev es : List PlacedEntry
  es = all_entries p.layout image

  -- an entry of a key of the group has a home
  homed : (y : PlacedEntry) (k : ℕ) → In y es → y.entry.key ≡ k → owner p k < members p → (h : ℕ) × (home_of p image k y.entry.version ≡ Some h)
  homed y k i key own =
      let mine : owner p y.entry.key < members p = subst (λ (j : ℕ). owner p j < members p) (sym key) own in
      let at = entries.home p image place rules y i mine in
      (at.0, subst (λ (j : ℕ). home_of p image j y.entry.version ≡ Some at.0) key (founds.has_home p image place rules y i at.0 at.1 at.3 mine))

  dead_is : (k v : ℕ) → is_dead p image k v ≡ true → IsDead (found p image) k v
  dead_is k v t = elim (or_cases (ltb v (last_of p image k)) (v == last_of p image k && (is_none (cell_of p image k) && alone p image k v)) t) [
    | inl less ↦ inl (ltb-true v (last_of p image k) less)
    | inr rest ↦
        let a = and_parts (v == last_of p image k) (is_none (cell_of p image k) && alone p image k v) rest in
        let b = and_parts (is_none (cell_of p image k)) (alone p image k v) a.1 in
        inr (
          eqb-true v (last_of p image k) a.0,
          none_is (cell_of p image k) b.0,
          λ u h q. (
              let y = founds.home_has p image place rules k u h q in
              sym y.6 ∙ is_named k v y.0 (all_true (λ (z : PlacedEntry). not (z.entry.key == k) || z.entry.version == v) es y.0 b.1 y.1) y.5
              ),
        )
  ]

  is_dead_so : (k v : ℕ) → owner p k < members p → IsDead (found p image) k v → is_dead p image k v ≡ true
  is_dead_so k v own (inl less) = or_left (ltb v (last_of p image k)) (v == last_of p image k && (is_none (cell_of p image k) && alone p image k v)) (lt-ltb v (last_of p image k) less)
  is_dead_so k v own (inr d) =
      or_right (ltb v (last_of p image k)) (v == last_of p image k && (is_none (cell_of p image k) && alone p image k v))
      (and_from (v == last_of p image k) (is_none (cell_of p image k) && alone p image k v) (eq-eqb v (last_of p image k) d.0)
      (and_from (is_none (cell_of p image k)) (alone p image k v) (ap (λ (o : Option (List ℕ)). is_none o) d.1)
      (all_from (λ (z : PlacedEntry). not (z.entry.key == k) || z.entry.version == v) es (λ y i. each y i))))
    where
      each : (y : PlacedEntry) → In y es → (not (y.entry.key == k) || y.entry.version == v) ≡ true
      each y i = elim (y.entry.key == k) as (λ b. (y.entry.key == k) ≡ b → (not b || y.entry.version == v) ≡ true) [
        | true ↦ λ e. (let at = homed y k i (eqb-true y.entry.key k e) own in eq-eqb y.entry.version v (d.2 y.entry.version at.0 at.1))
        | false ↦ λ e. refl
      ] refl

  tells_is : (k v : ℕ) → is_own_dead p image k v ≡ true → (home_of p image k v ≡ Some (owner p k)) × IsDead (found p image) k v
  tells_is k v t = let both = and_parts (is_at (owner p k) (home_of p image k v)) (is_dead p image k v) t in (at_is (owner p k) (home_of p image k v) both.0, dead_is k v both.1)

  tells_so : (k v : ℕ) → home_of p image k v ≡ Some (owner p k) → IsDead (found p image) k v → is_own_dead p image k v ≡ true
  tells_so k v at d =
      let y = founds.home_has p image place rules k v (owner p k) at in
      and_from (is_at (owner p k) (home_of p image k v)) (is_dead p image k v) (ap (is_at (owner p k)) at ∙ eq-eqb (owner p k) (owner p k) refl) (is_dead_so k v y.4 d)

  -- after the rules on the keys of the members below n
  abbrev told_below : ℕ → ℕ → ℕ → Bool
  told_below n k v = ltb (owner p k) n && is_own_dead p image k v

  abbrev below : ℕ → Group
  below n = record (found p image) { told = told_below n; dead = λ h k v. h == owner p k && told_below n k v }

  one_more : (n k v : ℕ) → told_below (suc n) k v ≡ true → (told_below n k v ≡ true) ⊎ TellsItself (below n) n k v
  one_more n k v t =
      let both = and_parts (ltb (owner p k) (suc n)) (is_own_dead p image k v) t in
      let low = ltb-true (owner p k) (suc n) both.0 in
      let is = tells_is k v both.1 in
      elim (cases_eq (owner p k) n) [
        | inl same ↦ inr (same, is.0 ∙ ap Some same, is.1)
        | inr other ↦ inl (and_from (ltb (owner p k) n) (is_own_dead p image k v) (lt-ltb (owner p k) n (omega (arith, low, other))) both.1)
      ]

  still : (n k v : ℕ) → told_below n k v ≡ true → told_below (suc n) k v ≡ true
  still n k v t =
      let both = and_parts (ltb (owner p k) n) (is_own_dead p image k v) t in
      let low = ltb-true (owner p k) n both.0 in
      and_from (ltb (owner p k) (suc n)) (is_own_dead p image k v) (lt-ltb (owner p k) (suc n) (omega (arith, low))) both.1

  itself : (n k v : ℕ) → TellsItself (below n) n k v → told_below (suc n) k v ≡ true
  itself n k v t =
      let same = t.0 in
      and_from (ltb (owner p k) (suc n)) (is_own_dead p image k v) (lt-ltb (owner p k) (suc n) (omega (arith, same))) (tells_so k v (t.1 ∙ ap Some (sym t.0)) t.2)

  -- a spent key has no entry
  spent : (n k : ℕ) → IsSpent (below n) n k → last_of p image k ≡ 0
  spent n k s = by (winner_of p image k) refl where
    by : (o : Option PlacedEntry) → winner_of p image k ≡ o → last_of p image k ≡ 0
    by None q = ap (λ (o : Option PlacedEntry). unwrap_or (option_map (λ (x : PlacedEntry). x.entry.version) o) 0) q
    by (Some y) q = elim (chosen (is_own p k) (winner p.layout image k) None (Some y) q) [
      | inr a ↦ absurd (let n = a.1 in cc n)
      | inl a ↦
          let is = winner_is k es y a.1 in
          let at = homed y k is.0 is.1 (ltb-true (owner p k) (members p) a.0) in
          absurd (let none = s.2 y.entry.version in let some = at.1 in cc (none, some))
    ]

  tidied : (n : ℕ) → Tidied (below n) n (below (suc n))
  tidied n = (
    last_of p image,
    told_below (suc n),
    λ h k v. h == owner p k && told_below (suc n) k v,
    record {
      forgets = spent n;
      keeps = λ k. inr refl;
      tells = λ k v. (one_more n k v, λ q. elim q [ inl t ↦ still n k v t | inr t ↦ itself n k v t ]);
      learns = λ h k v. (
        λ t. (
            let both = and_parts (h == owner p k) (told_below (suc n) k v) t in
            elim (one_more n k v both.1) [
              | inl old ↦ inl (and_from (h == owner p k) (told_below n k v) both.0 old)
              | inr new ↦ inr (eqb-true h (owner p k) both.0 ∙ new.0, new)
            ]
            ),
        λ q. elim q [
          | inl old ↦ (let both = and_parts (h == owner p k) (told_below n k v) old in and_from (h == owner p k) (told_below (suc n) k v) both.0 (still n k v both.1))
          | inr new ↦ and_from (h == owner p k) (told_below (suc n) k v) (eq-eqb h (owner p k) (new.0 ∙ sym new.1.0)) (itself n k v new.1)
        ],
      );
    },
    refl,
  )

  none_below : (k v : ℕ) → told_below 0 k v ≡ false
  none_below k v = elim (told_below 0 k v) as (λ b. told_below 0 k v ≡ b → b ≡ false) [
    | true ↦ λ e. absurd (let low = ltb-true (owner p k) 0 (and_parts (ltb (owner p k) 0) (is_own_dead p image k v) e).0 in omega (arith, low))
    | false ↦ λ e. refl
  ] refl

  first : below 0 ≡ found p image
  first = λ t. record (found p image) { told = λ k v. none_below k v t; dead = λ h k v. nowhere h k v t } where
    nowhere : (h k v : ℕ) → (h == owner p k && told_below 0 k v) ≡ false
    nowhere h k v = ap (λ (b : Bool). h == owner p k && b) (none_below k v) ∙ and_none (h == owner p k) where
      and_none : (b : Bool) → (b && false) ≡ false
      and_none true = refl
      and_none false = refl

  all_below : (k v : ℕ) → told_below (members p) k v ≡ is_own_dead p image k v
  all_below k v = elim (is_own_dead p image k v) as (λ b. is_own_dead p image k v ≡ b → (ltb (owner p k) (members p) && b) ≡ b) [
    | true ↦ λ e. (let y = founds.home_has p image place rules k v (owner p k) (tells_is k v e).0 in and_from (ltb (owner p k) (members p)) true (lt-ltb (owner p k) (members p) y.4) refl)
    | false ↦ λ e. none (ltb (owner p k) (members p))
  ] refl where
    none : (b : Bool) → (b && false) ≡ false
    none true = refl
    none false = refl

  last : below (members p) ≡ opened p image
  last = λ t. record (found p image) { told = λ k v. all_below k v t; dead = λ h k v. h == owner p k && all_below k v t }

  each_below : (n : ℕ) → AllTidied n (found p image) (below n)
  each_below zero = first
  each_below (suc n) = (below n, each_below n, tidied n)

  pub all_tidied : AllTidied (members p) (found p image) (opened p image)
  all_tidied = subst (AllTidied (members p) (found p image)) last (each_below (members p))

  pub lawful : Lawful (opened p image)
  lawful = laws.opened (opened p image) (contents p (λ h. image)) (founds.sound p image place rules) (found p image, founds.is_found p image place rules, all_tidied)

  pub licensed : (h : ℕ) → h < members p → IsLicensedImage (opened p image) h image
  licensed h low =
      let is = founds.is_found p image place rules in
      let log : kept_in p image h ≡ map (λ (x : PlacedEntry). x.entry) (log_of p image h) = ap (λ (b : Bool). cond b (map (λ (x : PlacedEntry). x.entry) (log_of p image h)) []) (lt-ltb h (members p) low) in
      record {
        well = all_from (λ j. chunk_reads p.layout image (chunk_first p.layout (core_of p h) j)) (numbers 0 p.layout.chunks) (λ j i. rules.reads (core_of p h) j (core_low p place h low) (let r = number_in 0 p.layout.chunks j i in omega (arith, r.1)));
        has = λ e i spared. subst (In e) log i;
        only = λ e s. inl (subst (In e) (sym log) s);
        whole = inl (λ e i. absurd i);
        blocks = λ q b t. (let b = (is.blocks h q b).0 t in sym (held_there p (λ h. image) h q) ∙ b.4);
      }
