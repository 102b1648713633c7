-- A worker of which nothing is pending has what its view has, and no more.
use Rattle.std.proofs.Common.{◌≡◌, inl, ⊎_elim, ℕ, zero, suc, not, ◌||◌, nat_lt, Bool, true, false, List, [], ◌∷◌, length, is_some, refl, sym, ◌∙◌, ap}
use Rattle.group_laws.specs.Places.{Place}
use Rattle.group_laws.specs.MemberViews.{View}
use Rattle.core_worker.specs.declared.types.Place as places
use Rattle.core_worker.specs.declared.types.Place.TheVariants.{Free, Staged, Posted}
use Rattle.core_worker.specs.declared.worker.Worker.{Worker}
use Rattle.core_worker.specs.OwnPlaces.{place_at}
use Rattle.core_worker.specs.KeyTies.{IsStagedBlock}
use Rattle.core_worker.specs.Ties.{Holds}
use Rattle.core_worker.specs.Order.{InOrder}
use Rattle.core_worker.specs.Status.{all_free, is_pending}
use Rattle.core_worker.specs.GivenBack.{IsGivenBack}
use Rattle.core_worker.specs.StandingTies.{KnowsDead}
use Rattle.core_worker.specs.Outbox.{as_told}
use Rattle.core_worker.proofs.MailKept.{own_told}

free_at : (ps : List places.Place) → all_free ps ≡ true → (s : ℕ) → place_at ps s ≡ Free
free_at [] all zero = refl
free_at [] all (suc s) = refl
free_at (Free ∷ ps) all zero = refl
free_at (Free ∷ ps) all (suc s) = free_at ps all s
free_at (Staged n e u ∷ ps) all s = absurd (cc all)
free_at (Posted n k l ∷ ps) all s = absurd (cc all)

pub given_back : (p : Place) (m : ℕ) (v : View) (w : Worker) → is_pending w ≡ false → Holds p m v w → InOrder p m v w → w.stopped ≡ false → w.winds_down ≡ false
    → IsGivenBack p m (as_told w v) (record { core = w.core; log = w.log; allocator = w.allocator; index = w.index; standing = w.standing })
given_back p m v w idle H O runs works = record {
  core = H.core;
  log_layout = H.log_layout;
  log_part = H.log_part;
  sets = H.sets;
  allocator_layout = H.allocator_layout;
  allocator_part = H.allocator_part;
  spelled = H.spelled;
  held = H.blocks.held;
  only = λ q used. ⊎_elim (λ b. b) (λ x. absurd (unstaged q x)) (H.blocks.only q used);
  chunks = H.chunks runs;
  keys = λ k own. H.keys k own (inl runs);
  heard = O.heard;
  names = record { deaths = L.deaths; buried = L.buried; own = L.own; heard = λ k n here t. L.heard k n here (own_told p m v w.winds_down w.notices.items H.mail k n here t) };
} where
  L : KnowsDead m v.kept v.present v.told v.dead w.standing
  L = O.log runs works

  free : all_free w.places.items ≡ true
  free = by (all_free w.places.items) refl where
    by : (b : Bool) → all_free w.places.items ≡ b → all_free w.places.items ≡ true
    by true e = e
    by false e = absurd (let both : true ≡ false = sym (ap (λ (b : Bool). not b || is_some w.in_hand || nat_lt 0 (length w.queue)) e) ∙ idle in cc both)

  unstaged : (q : ℕ) → IsStagedBlock v w.places.items q → ⊥
  unstaged q x = (let two : Free ≡ Staged x.number x.entry x.value = sym (free_at w.places.items free x.slot) ∙ x.place in cc two)
