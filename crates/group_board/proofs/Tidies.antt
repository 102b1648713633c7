-- The function of the two rules is what they say, where the list has all names that stand.
use Rattle.std.proofs.Common.{◌≡◌, ℕ, Bool, true, false, cond, ◌&&◌, ◌||◌, not, ◌==◌, List, [], ◌∷◌, Option, Some, None, ◌⊎◌, inl, inr, refl, ap, ◌∙◌, subst, ltb}
use Rattle.std.specs.Prelude.{is_none}
use Rattle.std.specs.List.{list_all}
use Rattle.std.proofs.lemmas.Bool.{and_parts, and_from, or_cases, or_left, or_right, eqb-true, eq-eqb, ltb-true, lt-ltb}
use Rattle.log_entry.specs.declared.entry.EntryName.{EntryName}
use Rattle.group_laws.specs.Places.{owner}
use Rattle.group_laws.specs.Updates.{has}
use Rattle.group_laws.specs.State.{Group}
use Rattle.group_laws.specs.Invariant.{IsDead}
use Rattle.group_laws.specs.Tidying.{IsSpent, TellsItself, Tidied}
use Rattle.group_laws.specs.OpeningImages.{is_at}
use Rattle.group_board.specs.Tidies.{Covers, is_spent, stands_alone, is_dead, tells_itself, tidied}

none_is : {X : Type 0} (o : Option X) → is_none o ≡ true → o ≡ None
none_is None t = refl
none_is (Some x) t = cc t

is_none_of : {X : Type 0} (o : Option X) → o ≡ None → is_none o ≡ true
is_none_of o q = ap (λ p. is_none p) q

at_is : (h : ℕ) (o : Option ℕ) → is_at h o ≡ true → o ≡ Some h
at_is h None t = cc t
at_is h (Some i) t = ap Some (eqb-true i h t)

is_at_of : (h : ℕ) (o : Option ℕ) → o ≡ Some h → is_at h o ≡ true
is_at_of h o q = ap (is_at h) q ∙ eq-eqb h h refl

-- what holds of each name of a key in the list
each_of : (f : ℕ → Bool) (ns : List EntryName) (k v : ℕ) → list_all (λ (n : EntryName). not (n.key == k) || f n.version) ns ≡ true → has ns k v ≡ true → f v ≡ true
each_of f [] k v t h = absurd (cc h)
each_of f (n ∷ ns) k v t h =
    let both = and_parts (not (n.key == k) || f n.version) (list_all (λ (n : EntryName). not (n.key == k) || f n.version) ns) t in
    elim (or_cases (n.key == k && n.version == v) (has ns k v) h) [
      | inl here ↦ (
          let named = and_parts (n.key == k) (n.version == v) here in
          elim (or_cases (not (n.key == k)) (f n.version) both.0) [
            | inl other ↦ absurd (let is = named.0 in cc (other, is))
            | inr holds ↦ subst (λ u. f u ≡ true) (eqb-true n.version v named.1) holds
          ]
          )
      | inr later ↦ each_of f ns k v both.1 later
    ]

all_of : (f : ℕ → Bool) (ns : List EntryName) (k : ℕ) → ((v : ℕ) → f v ≡ true) → list_all (λ (n : EntryName). not (n.key == k) || f n.version) ns ≡ true
all_of f [] k h = refl
all_of f (n ∷ ns) k h = and_from (not (n.key == k) || f n.version) (list_all (λ (n : EntryName). not (n.key == k) || f n.version) ns) (or_right (not (n.key == k)) (f n.version) (h n.version)) (all_of f ns k h)

module _ (w : Group) (ns : List EntryName) (covers : Covers ns w) where
  -- a name that is present is in the list, so the list decides for all names
  absent : (k v : ℕ) (o : Option ℕ) → w.present k v ≡ o → (has ns k v ≡ true → is_none (w.present k v) ≡ true) → o ≡ None
  absent k v None q h = refl
  absent k v (Some i) q h = absurd (let n = h (covers k v i q) in cc (q, n))

  only : (k v u h : ℕ) → stands_alone w ns k v ≡ true → w.present k u ≡ Some h → u ≡ v
  only k v u h t q = elim (or_cases (u == v) (is_none (w.present k u)) (each_of (λ x. x == v || is_none (w.present k x)) ns k u t (covers k u h q))) [
    | inl same ↦ eqb-true u v same
    | inr none ↦ absurd (cc (q, none))
  ]

  alone_of : (k v : ℕ) → ((u h : ℕ) → w.present k u ≡ Some h → u ≡ v) → stands_alone w ns k v ≡ true
  alone_of k v each = all_of (λ x. x == v || is_none (w.present k x)) ns k (λ u. by u (w.present k u) refl) where
    by : (u : ℕ) (o : Option ℕ) → w.present k u ≡ o → (u == v || is_none (w.present k u)) ≡ true
    by u None q = or_right (u == v) (is_none (w.present k u)) (is_none_of (w.present k u) q)
    by u (Some h) q = or_left (u == v) (is_none (w.present k u)) (eq-eqb u v (each u h q))

  dead_is : (k v : ℕ) → is_dead w ns k v ≡ true → IsDead w k v
  dead_is k v t = elim (or_cases (ltb v (w.last k)) (v == w.last k && (is_none (w.cell k) && stands_alone w ns k v)) t) [
    | inl less ↦ inl (ltb-true v (w.last k) less)
    | inr rest ↦ (
        let a = and_parts (v == w.last k) (is_none (w.cell k) && stands_alone w ns k v) rest in
        let b = and_parts (is_none (w.cell k)) (stands_alone w ns k v) a.1 in
        inr (eqb-true v (w.last k) a.0, none_is (w.cell k) b.0, λ u h q. only k v u h b.1 q)
        )
  ]

  is_dead_of : (k v : ℕ) → IsDead w k v → is_dead w ns k v ≡ true
  is_dead_of k v (inl less) = or_left (ltb v (w.last k)) (v == w.last k && (is_none (w.cell k) && stands_alone w ns k v)) (lt-ltb v (w.last k) less)
  is_dead_of k v (inr d) =
      or_right (ltb v (w.last k)) (v == w.last k && (is_none (w.cell k) && stands_alone w ns k v))
      (and_from (v == w.last k) (is_none (w.cell k) && stands_alone w ns k v) (eq-eqb v (w.last k) d.0)
      (and_from (is_none (w.cell k)) (stands_alone w ns k v) (is_none_of (w.cell k) d.1) (alone_of k v d.2)))

  tells_is : (m k v : ℕ) → tells_itself w ns m k v ≡ true → TellsItself w m k v
  tells_is m k v t =
      let a = and_parts (owner w.place k == m) (is_at m (w.present k v) && is_dead w ns k v) t in
      let b = and_parts (is_at m (w.present k v)) (is_dead w ns k v) a.1 in
      (eqb-true (owner w.place k) m a.0, at_is m (w.present k v) b.0, dead_is k v b.1)

  tells_of : (m k v : ℕ) → TellsItself w m k v → tells_itself w ns m k v ≡ true
  tells_of m k v t =
      and_from (owner w.place k == m) (is_at m (w.present k v) && is_dead w ns k v) (eq-eqb (owner w.place k) m t.0)
      (and_from (is_at m (w.present k v)) (is_dead w ns k v) (is_at_of m (w.present k v) t.1) (is_dead_of k v t.2))

  spent_is : (m k : ℕ) → is_spent w ns m k ≡ true → IsSpent w m k
  spent_is m k t =
      let none : Bool = list_all (λ (n : EntryName). not (n.key == k) || is_none (w.present k n.version)) ns in
      let a = and_parts (owner w.place k == m) (is_none (w.cell k) && (none && is_none (w.pending k))) t in
      let b = and_parts (is_none (w.cell k)) (none && is_none (w.pending k)) a.1 in
      let c = and_parts none (is_none (w.pending k)) b.1 in (
        eqb-true (owner w.place k) m a.0,
        none_is (w.cell k) b.0,
        λ v. absent k v (w.present k v) refl (each_of (λ u. is_none (w.present k u)) ns k v c.0),
        none_is (w.pending k) c.1,
      )

  spent_of : (m k : ℕ) → IsSpent w m k → is_spent w ns m k ≡ true
  spent_of m k s =
      let none : Bool = list_all (λ (n : EntryName). not (n.key == k) || is_none (w.present k n.version)) ns in
      and_from (owner w.place k == m) (is_none (w.cell k) && (none && is_none (w.pending k))) (eq-eqb (owner w.place k) m s.0)
      (and_from (is_none (w.cell k)) (none && is_none (w.pending k)) (is_none_of (w.cell k) s.1)
      (and_from none (is_none (w.pending k)) (all_of (λ u. is_none (w.present k u)) ns k (λ v. is_none_of (w.present k v) (s.2 v))) (is_none_of (w.pending k) s.3)))

  pub tidied_is : (m : ℕ) → Tidied w m (tidied w ns m)
  tidied_is m = (
    λ k. cond (is_spent w ns m k) 0 (w.last k),
    λ k v. w.told k v || tells_itself w ns m k v,
    λ h k v. w.dead h k v || (h == m && tells_itself w ns m k v),
    record {
      forgets = λ k s. ap (λ b. cond b 0 (w.last k)) (spent_of m k s);
      keeps = λ k. kept k (is_spent w ns m k) refl;
      tells = λ k v. (
        λ t. elim (or_cases (w.told k v) (tells_itself w ns m k v) t) [ inl old ↦ inl old | inr new ↦ inr (tells_is m k v new) ],
        λ q. elim q [ inl old ↦ or_left (w.told k v) (tells_itself w ns m k v) old | inr new ↦ or_right (w.told k v) (tells_itself w ns m k v) (tells_of m k v new) ],
      );
      learns = λ h k v. (
        λ t. elim (or_cases (w.dead h k v) (h == m && tells_itself w ns m k v) t) [
          | inl old ↦ inl old
          | inr new ↦ (let both = and_parts (h == m) (tells_itself w ns m k v) new in inr (eqb-true h m both.0, tells_is m k v both.1))
        ],
        λ q. elim q [
          | inl old ↦ or_left (w.dead h k v) (h == m && tells_itself w ns m k v) old
          | inr new ↦ or_right (w.dead h k v) (h == m && tells_itself w ns m k v) (and_from (h == m) (tells_itself w ns m k v) (eq-eqb h m new.0) (tells_of m k v new.1))
        ],
      );
    },
    refl,
  ) where
    kept : (k : ℕ) (b : Bool) → is_spent w ns m k ≡ b → (IsSpent w m k × (cond (is_spent w ns m k) 0 (w.last k) ≡ 0)) ⊎ (cond (is_spent w ns m k) 0 (w.last k) ≡ w.last k)
    kept k true q = inl (spent_is m k q, ap (λ b. cond b 0 (w.last k)) q)
    kept k false q = inr (ap (λ b. cond b 0 (w.last k)) q)
