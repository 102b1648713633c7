-- The invariant implies Safe and Distinct.
use Rattle.std.proofs.Common.{◌≡◌, ℕ, true, List, length, Option, Some, None, ◌⊎◌, inl, inr, arith, refl, sym, ap, ◌∙◌, subst}
use Rattle.std.proofs.lemmas.Bool.{cases_eq}
use Rattle.log_entry.specs.declared.entry.Body.{Body}
use Rattle.log_entry.specs.declared.entry.Entry.{Entry}
use Rattle.group_laws.proofs.Places.{units_some}
use Rattle.group_laws.specs.declared.types.Block.{Block}
use Rattle.group_laws.specs.Places.{owner}
use Rattle.group_laws.specs.State.{Group}
use Rattle.group_laws.specs.Invariant.{Gives, IsLast, IsLogged, Lawful, PendsAt}
use Rattle.group_laws.specs.Steps.{bytes_of}
use Rattle.group_laws.specs.Crashes.{Distinct, Contents, IsLicensed, IsNext, IsWinner, Leaves, Recovers, Safe}
use Rattle.log_entry.specs.declared.entry.Body.TheVariants.{Pointer, Embedded, Tombstone}
use Rattle.group_laws.proofs.Facts.{live_block, gives_pointer}

cell_cases : (c : Option (List ℕ)) → (c ≡ None) ⊎ ((v : List ℕ) × (c ≡ Some v))
cell_cases None = inl refl
cell_cases (Some v) = inr (v, refl)

pub distinct : (w : Group) → Lawful w → Distinct w
distinct w L = record { apart = L.blocks.distinct; used = L.blocks.used; live = live_block w L; awaited = L.blocks.awaited }

leaves_same : (holds : ℕ → Option (List ℕ)) (b d : Body) (c : Option (List ℕ)) → b ≡ d → Leaves holds b c → Leaves holds d c
leaves_same holds b d c e l = subst (λ (b : Body). Leaves holds b c) e l

same_block : {o : Option Block} {b c : Block} → o ≡ Some b → o ≡ Some c → b ≡ c
same_block p q = cc (p, q)

module _ (w : Group) (L : Lawful w) (x : Contents) (ok : (c : ℕ) → IsLicensed w x c) where
  logged : (c : ℕ) (e : Entry) → x.entries c e ≡ true → IsLogged w c e
  logged c e q = (ok c).only e q

  one : (c d : ℕ) (e f : Entry) → x.entries c e ≡ true → x.entries d f ≡ true → e.key ≡ f.key → e.version ≡ f.version → (c ≡ d) × (e ≡ f)
  one c d e f p q = L.logs.one_log c d e f (logged c e p) (logged d f q)

  -- the entry of the last version stands in the image
  last_stands : (k : ℕ) (e : Entry) (q : IsLast w k e) → x.entries q.0 e ≡ true
  last_stands k e q = (ok q.0).has e q.2 (rw (q.3, q.4) q.5)

  -- a winner is the pending entry, or the last finished one, or the key's tombstone
  pub data Wins (k : ℕ) (e : Entry) : Type 0 where
    Pends : (at : Option ℕ) → PendsAt w e at → Wins k e
    Lives : (v : List ℕ) → w.cell k ≡ Some v → IsLast w k e → Gives w e v e.body → Wins k e
    Buried : w.cell k ≡ None → e.body ≡ Tombstone → Wins k e

  -- a finished winner is the entry of the last version, where that one is certain
  is_last : (k : ℕ) (e y : Entry) (W : IsWinner x k e) → w.present e.key e.version ≡ Some W.home → IsLast w k y → y ≡ e
  is_last k e y W p q =
      let top = W.greatest q.0 y (last_stands k y q) q.3 in
      let low = L.keys.not_above e.key e.version W.home p in
      let same = ap w.last W.key in
      let versions : y.version ≡ e.version = let h = q.4 in omega (arith, top, low, same, h) in
      (one q.0 W.home y e (last_stands k y q) W.stands (q.3 ∙ sym W.key) versions).1

  wins : (k : ℕ) (e : Entry) → IsWinner x k e → Wins k e
  wins k e W = elim (L.logs.known W.home e (logged W.home e W.stands)) [
    | inr held ↦ Pends held.0 held.1
    | inl p ↦ elim (cell_cases (w.cell k)) [
      | inr c ↦ let old = L.cells.value k c.0 c.1 in let same = is_last k e old.0 W p old.1 in
          Lives c.0 c.1 (subst (λ (y : Entry). IsLast w k y) same old.1) (subst (λ (y : Entry). Gives w y c.0 y.body) same old.2)
      | inl c ↦ Buried c (elim (L.cells.grave k c (λ z. absurd (let none = L.keys.no_names e.key e.version (ap w.last W.key ∙ z) in cc (none, p)))) [
        | inl y ↦ let same = is_last k e y.0 W p y.1 in L.cells.tombs k W.home e c (logged W.home e W.stands) W.key (ap (λ (y : Entry). y.version) (sym same) ∙ y.1.4)
        | inr alone ↦ L.cells.tombs k W.home e c (logged W.home e W.stands) W.key (alone e.version W.home (rw W.key at p))
      ])
    ]
  ]

  held_block : (k p : ℕ) (v : List ℕ) → w.blocks (owner w.place k) p ≡ Some (record { key = k; bytes = v }) → x.holds (owner w.place k) p ≡ Some v
  held_block k p v b = (ok (owner w.place k)).blocks p _ b

  winner_block : (k p : ℕ) (e : Entry) → IsWinner x k e → e.body ≡ Pointer p → (v : List ℕ) × (w.blocks (owner w.place k) p ≡ Some (record { key = k; bytes = v }))
  winner_block k p e W b = elim (wins k e W) [
    | Pends at q ↦ L.blocks.awaited k p (record { entry = e; slot = at }, ap w.pending (sym W.key) ∙ q, b)
    | Lives v c q g ↦ (v, rw W.key at (gives_pointer w e v e.body p b g))
    | Buried c t ↦ absurd (cc (b, t))
  ]

  next_leaves : (k : ℕ) (e : Entry) (body : Body) (c : Option (List ℕ)) → IsWinner x k e → e.body ≡ body → Leaves (x.holds (owner w.place k)) body c → Leaves (λ q. bytes_of (w.blocks (owner w.place k) q)) body c
  next_leaves k e (Embedded v) c W b l = l
  next_leaves k e Tombstone c W b l = l
  next_leaves k e (Pointer p) c W b l = let own = winner_block k p e W b in let at = held_block k p own.0 own.1 in (own.0, ap bytes_of own.1, let held = l.1 in l.2 ∙ cc (held, at))

  live_leaves : (k : ℕ) (e : Entry) (body : Body) (c : Option (List ℕ)) (v : List ℕ) → e.key ≡ k → Gives w e v body → Leaves (x.holds (owner w.place k)) body c → c ≡ Some v
  live_leaves k e (Embedded u) c v i g l = l ∙ ap Some g
  live_leaves k e Tombstone c v i g l = absurd g
  live_leaves k e (Pointer p) c v i g l = let at = held_block k p v (rw i at g) in let held = l.1 in l.2 ∙ cc (held, at)

  safe_cells : (k : ℕ) (c : Option (List ℕ)) → Recovers w x k c → (c ≡ w.cell k) ⊎ IsNext w k c
  safe_cells k c (inl none) = elim (cell_cases (w.cell k)) [
    | inl n ↦ inl (none.1 ∙ sym n)
    | inr v ↦ let old = L.cells.value k v.0 v.1 in absurd (none.0 old.1.0 old.0 (last_stands k old.0 old.1) old.1.3)
  ]
  safe_cells k c (inr found) = elim (wins k found.0 found.1) [
    | Pends at q ↦ inr (record { entry = found.0; slot = at }, ap w.pending (sym found.1.key) ∙ q, next_leaves k found.0 found.0.body c found.1 refl found.2)
    | Lives v is q g ↦ inl (live_leaves k found.0 found.0.body c v (found.1.key) g found.2 ∙ sym is)
    | Buried n t ↦ inl (leaves_same _ _ _ c t found.2 ∙ sym n)
  ]

  pub safe : Safe w x
  safe = record {
    group = λ c e q. (L.logs.group c e (logged c e q)).1;
    one_body = one;
    block = λ k p e W b. let own = winner_block k p e W b in (own.0, held_block k p own.0 own.1, (L.blocks.lies (owner w.place k) p _ own.1).0);
    own = λ k l p e f W V b c. let mine = winner_block k p e W b in let other = winner_block l p f V c in elim (cases_eq (owner w.place k) (owner w.place l)) [
      | inl i ↦ ap (λ (b : Block). b.key) (same_block (rw i at mine.1) other.1)
      | inr ne ↦ absurd (let far = L.blocks.distinct (owner w.place k) (owner w.place l) p p _ _ mine.1 other.1 (λ i _. ne i) in grind (arith, far, units_some (length mine.0), units_some (length other.0)))
    ];
    cells = safe_cells;
  }
