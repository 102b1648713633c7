-- What the invariant says of one state.
use Rattle.std.proofs.Common.{◌≡◌, ℕ, true, false, List, Option, Some, None, inl, inr, arith, refl, sym, ap, ◌∙◌, subst}
use Rattle.log_entry.specs.declared.entry.Body.{Body}
use Rattle.log_entry.specs.declared.entry.Entry.{Entry}
use Rattle.store_image.specs.Facts.{In}
use Rattle.group_laws.specs.Places.{owner}
use Rattle.group_laws.specs.declared.types.Pending.{Pending}
use Rattle.group_laws.specs.declared.types.Slot.TheVariants.{Posted}
use Rattle.group_laws.specs.State.{Group}
use Rattle.group_laws.specs.Invariant.{Gives, IsLast, IsLive, IsLogged, Lawful, Logs, PendsAt}
use Rattle.log_entry.specs.declared.entry.Body.TheVariants.{Pointer, Embedded, Tombstone}
use Rattle.std.proofs.lemmas.Bool.{false_from_ne_true}

-- there is one entry of a key's last version
pub last_one : (w : Group) → Logs w → (k : ℕ) (x y : Entry) → IsLast w k x → IsLast w k y → x ≡ y
last_one w L k x y p q = (L.one_log p.0 q.0 x y (inl p.2) (inl q.2) (p.3 ∙ sym q.3) (p.4 ∙ sym q.4)).1

pub gives_pointer : (w : Group) (x : Entry) (v : List ℕ) (body : Body) (p : ℕ) → body ≡ Pointer p → Gives w x v body → w.blocks (owner w.place x.key) p ≡ Some (record { key = x.key; bytes = v })
gives_pointer w x v (Pointer q) p e g = rw (← pointer_is) g
  where
    pointer_is : q ≡ p
    pointer_is = cc e
gives_pointer w x v (Embedded u) p e g = absurd (cc e)
gives_pointer w x v Tombstone p e g = absurd (cc e)

-- the block of a live value
pub live_block : (w : Group) → Lawful w → (k p : ℕ) (v : List ℕ) → IsLive w k p v → w.blocks (owner w.place k) p ≡ Some (record { key = k; bytes = v })
live_block w L k p v live =
    let old = L.cells.value k v live.0 in
    let same = last_one w L.logs k old.0 live.1.0 old.1 live.1.1 in
    let block = gives_pointer w old.0 v old.0.body p (ap (λ (x : Entry). x.body) same ∙ live.1.2) old.2 in
    subst (λ (j : ℕ). w.blocks (owner w.place j) p ≡ Some (record { key = j; bytes = v })) old.1.3 block

-- a finished entry that stands in its home's log is certain there
pub certain : (w : Group) → Lawful w → (h : ℕ) (x : Entry) → w.present x.key x.version ≡ Some h → IsLogged w h x → In x (w.kept h)
certain w L h x p l =
    elim (L.standing.stands x.key x.version h p) [
      | inl k ↦ let same = (L.logs.one_log h h k.0 x (inl k.1) l k.2 k.3).1 in subst (λ (y : Entry). In y (w.kept h)) same k.1
      | inr away ↦ absurd ((L.standing.away h x.key x.version away).2 x l refl refl)
    ]

-- a pending entry isn't doomed
pub not_doomed : (w : Group) → Lawful w → (h : ℕ) (x : Entry) (at : Option ℕ) → PendsAt w x at → w.doomed h x.key x.version ≡ false
not_doomed w L h x at p = false_from_ne_true _ (λ d.
    let dead = L.deaths.dead_is h x.key x.version (L.deaths.doomed_dead h x.key x.version d) in
    let low = L.keys.not_above x.key x.version h dead.1 in
    let high = L.keys.next_version x.key _ p in
    grind (arith, low, high))

-- nor dead
pub not_dead : (w : Group) → Lawful w → (h : ℕ) (x : Entry) (at : Option ℕ) → PendsAt w x at → w.dead h x.key x.version ≡ true → ⊥
not_dead w L h x at p d =
    let low = L.keys.not_above x.key x.version h (L.deaths.dead_is h x.key x.version d).1 in
    let high = L.keys.next_version x.key _ p in
    grind (arith, low, high)

abbrev entry_or : Entry → Option Pending → Entry
entry_or d None = d
entry_or d (Some p) = p.entry

-- no log has the name of a posted entry: what a log has is finished, and then below it, or pending, and then the entry itself
pub posted_unnamed : (w : Group) → Lawful w → (m s : ℕ) (e : Entry) → w.slot m s ≡ Posted e → (h : ℕ) (f : Entry) → IsLogged w h f → f.key ≡ e.key → f.version ≡ e.version → ⊥
posted_unnamed w L m s e is h f logged key version =
    let pends : PendsAt w e (Some s) = (L.slots.posted_named m s e is).0 in
    elim (L.logs.known h f logged) [
      | inl there ↦
          let low = L.keys.not_above f.key f.version h there in
          let same = ap w.last key in
          let high = L.keys.next_version e.key _ pends in
          omega (arith, low, same, high, version)
      | inr held ↦
          let both : Some (record { entry = f; slot = held.0 }) ≡ Some (record { entry = e; slot = Some s }) = sym held.1 ∙ (ap w.pending key ∙ pends) in
          let one : f ≡ e = ap (λ (o : Option Pending). entry_or e o) both in
          L.logs.not_posted h m s e is (subst (IsLogged w h) one logged)
    ]
