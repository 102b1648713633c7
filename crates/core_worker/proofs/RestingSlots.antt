-- Where a turn was idle, each own change that is out is in a leader's hands, or waits for the lock that another has.
use Rattle.std.proofs.Common.{◌≡◌, ◌⊎◌, inl, inr, ⊎_elim, ℕ, ◌<◌, true, false, cond, List, length, Some, refl, sym, ◌∙◌, ap, subst}
use Rattle.std.proofs.lemmas.Bool.{eq-eqb}
use mathlib.Core.Logic.{∥∥₁_elim}
use Rattle.log_entry.specs.declared.entry.Entry.{Entry}
use Rattle.log_entry.specs.Spelling.{words_of}
use Rattle.group_laws.specs.declared.types.Slot.{Slot}
use Rattle.group_laws.specs.declared.types.Slot.TheVariants as slots
use Rattle.group_laws.specs.Places.{owner}
use Rattle.group_laws.specs.State.{Group, word_shown}
use Rattle.group_laws.specs.Invariant.{Lawful}
use Rattle.group_laws.specs.MemberViews.{View, view_of}
use Rattle.group_laws.specs.Runs.{Kind, IsStep, Runs}
use Rattle.core_worker.specs.OwnPlaces.{place_at, is_posted}
use Rattle.core_worker.specs.Turns.{Moment, PassesItems, FindsPosted, IsBack}
use Rattle.core_worker.specs.Loads.{Load, looks_at}
use Rattle.core_worker.proofs.LeftLooks.{at_looked}
use Rattle.core_worker.proofs.LeftLocks.{found_is}

-- What a try of the lock that found a holder leaves.
pub busy_slot : (h e : Group) (m : ℕ) → IsStep h m Kind.Lock e → e.holds m ≡ false → (e.slot ≡ h.slot) × ((n : ℕ) × (e.holder ≡ Some n))
busy_slot h e m step free = ⊎_elim
    (λ had. absurd (let both : true ≡ false = sym (ap (λ b. cond b true (h.holds m)) (eq-eqb m m refl)) ∙ sym (ap (λ (y : Group). y.holds m) had.1) ∙ free in cc both))
    (λ found. (ap (λ (y : Group). y.slot) found.2, (found.0, ap (λ (y : Group). y.holder) found.2 ∙ found.1)))
    step.1

-- From g the loads led to h, and then to e, with no other slots.
module _ (g h e : Group) (m : ℕ) (ss : List Load) (run : Runs g (looks_at m ss) h) (a : Moment) (v : View) (P : PassesItems m a 8 v) (before : a.view ≡ view_of g m) (now : v ≡ view_of h m) (same : e.slot ≡ h.slot)
    (held : FindsPosted a.worker.places.items P.looked.found 8 → (n : ℕ) × (e.holder ≡ Some n)) (lawful : ∥ Lawful e ∥₁) where
  shows : (s : ℕ) → s < 8 → is_posted (place_at a.worker.places.items s) ≡ true → P.looked.found s ≡ word_shown (e.slot m s)
  shows s lt is =
      found_is g h m ss run a 8 v before now P.looked s (P.looked.found s) (P.looked.seen s lt is)
      ∙ ap (λ (f : ℕ → ℕ → Slot). word_shown (f m s)) (sym (same ∙ ap (λ (y : Group). y.slot) (at_looked g h m ss run).1))

  pub with_others : (k s : ℕ) (d : Entry) → owner e.place k ≡ m → e.pending k ≡ Some (record { entry = d; slot = Some s }) → s < 8 → is_posted (place_at a.worker.places.items s) ≡ true
      → (e.slot m s ≡ slots.Taken) ⊎ ((x : Entry) × (n : ℕ) × (e.slot m s ≡ slots.Posted x) × (e.holder ≡ Some n))
  with_others k s d own pends lt is = by (e.slot m s) refl where
    by : (x : Slot) → e.slot m s ≡ x → (e.slot m s ≡ slots.Taken) ⊎ ((x : Entry) × (n : ℕ) × (e.slot m s ≡ slots.Posted x) × (e.holder ≡ Some n))
    by slots.Empty q = absurd (∥∥₁_elim lawful (λ x y. absurd x) (λ L. L.slots.in_slot k s d pends (ap (λ n. e.slot n s) own ∙ q)))
    by (slots.Posted x) q = (let n = held (s, length (words_of x), lt, is, shows s lt is ∙ ap word_shown q) in inr (x, n.0, q, n.1))
    by slots.Taken q = inl q
    by (slots.Done x n) q = absurd (P.none s lt is (subst IsBack (sym (shows s lt is ∙ ap word_shown q)) tt))
    by (slots.Failed x) q = absurd (P.none s lt is (subst IsBack (sym (shows s lt is ∙ ap word_shown q)) tt))
