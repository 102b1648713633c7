-- What a worker holds of a key, by the place in which the key's change stands.
use Rattle.std.proofs.Common.{◌≡◌, ◌≢◌, ℕ, ◌<◌, Bool, true, false, List, length, Some, refl, sym, ◌∙◌, ap}
use Rattle.group_laws.specs.MemberViews.{View}
use Rattle.core_worker.specs.declared.types.Place.{Place}
use Rattle.core_worker.specs.OwnPlaces.{place_at, key_in, is_busy, AreApart, Replaces}
use Rattle.core_worker.specs.WorkerMoves.{placed_in, placed_for}
use Rattle.core_worker.proofs.HandKeys.{first_has, none_for}
use Rattle.core_worker.proofs.Posts.{busy_by, busy_has}

-- of the key of a place it holds what the place has
pub held_at : (v : View) (ps : List Place) (s k : ℕ) → AreApart ps → key_in (place_at ps s) ≡ Some k → placed_for v ps k ≡ placed_in v (place_at ps s)
held_at v ps s k apart is =
    let f = first_has v k ps s is in
    f.2 ∙ ap (λ t. placed_in v (place_at ps t)) (apart f.0 s k f.1 is)

-- one place is another one, which has the key neither before nor after
module _ (v u : View) (old new : List Place) (slot : ℕ) (x : Place) (R : Replaces old new slot x) (before : AreApart old) (after : AreApart new) (k : ℕ) (was : key_in (place_at old slot) ≢ Some k) (now : key_in x ≢ Some k) (same : (s : ℕ) → s < length old → key_in (place_at old s) ≡ Some k → placed_in u (place_at old s) ≡ placed_in v (place_at old s)) where
  not_slot : (s : ℕ) → key_in (place_at old s) ≡ Some k → s ≢ slot
  not_slot s is at = was (ap (λ n. key_in (place_at old n)) (sym at) ∙ is)

  not_here : (s : ℕ) → key_in (place_at new s) ≡ Some k → s ≢ slot
  not_here s is at = now (ap key_in (sym R.here) ∙ ap (λ n. key_in (place_at new n)) (sym at) ∙ is)

  idle : is_busy old k ≡ false → (b : Bool) → is_busy new k ≡ b → is_busy new k ≡ false
  idle free false e = e
  idle free true e =
      let at = busy_has new k e in
      let had = ap key_in (sym (R.others at.0 (not_here at.0 at.2))) ∙ at.2 in
      absurd (let both : true ≡ false = sym (busy_by old k at.0 had) ∙ free in cc both)

  by : (b : Bool) → is_busy old k ≡ b → placed_for u new k ≡ placed_for v old k
  by true e =
      let at = busy_has old k e in
      let others = R.others at.0 (not_slot at.0 at.2) in
      held_at u new at.0 k after (ap key_in others ∙ at.2) ∙ ap (placed_in u) others ∙ same at.0 at.1 at.2 ∙ sym (held_at v old at.0 k before at.2)
  by false e = none_for u k new (idle e (is_busy new k) refl) ∙ sym (none_for v k old e)

  pub held_beside : placed_for u new k ≡ placed_for v old k
  held_beside = by (is_busy old k) refl
