-- A staged change is put away, and what waits of its key is begun.
use Rattle.std.proofs.Common.{◌≡◌, ℕ, true, false, Result, Ok, Err, OnOk, OnErr, Option, Some, sym, ◌∙◌, ap, subst}
use Rattle.std.specs.Prelude.{is_ok}
use Rattle.pm_region.specs.State.{State, IsTelling}
use Rattle.core_worker.specs.declared.worker.Worker.{Worker}
use Rattle.core_worker.specs.OwnPlaces.{place_at, key_in, is_staged}
use Rattle.core_worker.specs.Ties.{Tie}
use Rattle.core_worker.specs.Serving.{OnlyServes}
use Rattle.core_worker.specs.Finishing.{IsToServe, IsServed, Serves, ServesByEachView, ServesShort, ShortOf}
use Rattle.core_worker.specs.Stopping.{FreesBySight, PutsAway, DropsStaged, staged_block}
use Rattle.core_worker.proofs.Dropping.{StagedAt, staged_at}

module _ (s : State) (w x : Worker) (k : ℕ) (F : FreesBySight w x k) where
  pub sight_serves : (t : Tie) → IsServed s w t → IsToServe s x k t
  sight_serves t T = let f = F t T.holds T.order in record { holds = f.holds; stands = f.stands s T.stands; order = f.order; own = f.own }

module _ (s : State) (w x y : Worker) (k : ℕ) (F : FreesBySight w x k) (slot : ℕ) (staged : is_staged (place_at w.places.items slot) ≡ true) (key : key_in (place_at w.places.items slot) ≡ Some k) (P : PutsAway w x slot (staged_block (place_at w.places.items slot))) where
  pub drops_slot : {X Y : Type 0} (r : Result X Y) → OnlyServes x y → OnOk r (ServesByEachView s x y k) → OnErr r (ServesShort s x y k) → DropsStaged s slot w y (is_ok r)
  drops_slot r rest begins short = record {
    number = st.number;
    entry = st.entry;
    value = st.value;
    place = st.place;
    freed = x;
    puts = subst (λ (o : Option ℕ). PutsAway w x slot o) (ap staged_block st.place) P;
    rest = rest;
    begins = by r begins;
    short = by_short r short;
  } where
    st : StagedAt w slot
    st = staged_at w slot staged

    same : st.entry.key ≡ k
    same = let both : Some st.entry.key ≡ Some k = sym (ap key_in st.place) ∙ key in cc both

    by : {X Y : Type 0} (r : Result X Y) → OnOk r (ServesByEachView s x y k) → is_ok r ≡ true → (t : Tie) → IsServed s w t → Serves (IsTelling s) x y (t.view.cell st.entry.key) st.entry.key
    by (Ok z) all e t T = subst (λ (n : ℕ). Serves (IsTelling s) x y (t.view.cell n) n) (sym same) (all t (sight_serves s w x k F t T))
    by (Err z) all e t T = absurd (cc e)

    by_short : {X Y : Type 0} (r : Result X Y) → OnErr r (ServesShort s x y k) → is_ok r ≡ false → (t : Tie) → IsServed s w t → ShortOf (IsTelling s) x y (t.view.cell st.entry.key) st.entry.key
    by_short (Ok z) short e t T = absurd (cc e)
    by_short (Err z) short e t T = subst (λ (n : ℕ). ShortOf (IsTelling s) x y (t.view.cell n) n) (sym same) (short t (sight_serves s w x k F t T))
