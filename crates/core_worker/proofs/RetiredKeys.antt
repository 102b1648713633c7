-- Names that vanish with a chunk are gone from what a core knows of its keys, whatever the region tells.
use Rattle.std.proofs.Common.{◌≡◌, ℕ, ◌&&◌, eqb, Bool, true, false, cond, List, Option, Some, None, refl, sym, ap}
use Rattle.std.proofs.lemmas.Bool.{eq-eqb}
use Rattle.log_entry.specs.declared.entry.EntryName.{EntryName}
use Rattle.core_index.specs.Slots as slots
use Rattle.group_laws.specs.Places.{Place, core_of, owner}
use Rattle.group_laws.specs.Updates.{has}
use Rattle.group_laws.specs.MemberViews.{View}
use Rattle.group_board.specs.Views.{after_receive, after_retire, TidiedIn}
use Rattle.group_board.specs.Assurances.{IsHeard}
use Rattle.group_laws.specs.State.{Notices}
use Rattle.core_worker.specs.declared.types.Place as places
use Rattle.core_worker.specs.GoneNames.{LosesIn, LosesNames, KnowsAll, LetsNamesGo}
use Rattle.core_worker.specs.Hearing.{HearsAll}
use Rattle.core_worker.specs.LogNames.{AreOwnOf}
use Rattle.core_worker.proofs.GoneKeys.{knows_after}

pub was_some : (b : Bool) (o : Option ℕ) (h : ℕ) → cond b None o ≡ Some h → o ≡ Some h
was_some true o h e = absurd (cc e)
was_some false o h e = e

abbrev pub lets_retired : (p : Place) (m : ℕ) (doomed own : List EntryName) (v u : View) (ps qs : List places.Place) (es mid ix : List (ℕ × slots.Place)) → AreOwnOf p m doomed own
    → TidiedIn p m (after_retire p m doomed v) u → LosesNames own ps qs es mid → HearsAll (core_of p m) mid ix → LetsNamesGo p m own v (after_retire p m doomed v) u ps qs es ix
lets_retired p m doomed own v u ps qs es mid ix A T X H =
    let left = after_retire p m doomed v in
    let loses : LosesIn p m own v left = record {
      last = λ k. refl;
      cell = λ k. refl;
      pending = λ k. refl;
      blocks = refl;
      present = λ k n is. (λ i. cond (eq-eqb (owner p k) m is i && sym (A.same k n is) i) None (v.present k n));
      told = λ k n is. (λ i. cond (eq-eqb (owner p k) m is i && sym (A.same k n is) i) false (v.told k n));
      was = λ k n h is. was_some (eqb (owner p k) m && has doomed k n) (v.present k n) h is;
      own = A.own;
    } in
    record { loses = loses; tidied = T; mid = mid; names = X; heard = H }

pub retires_keys : (p : Place) (m : ℕ) (doomed own : List EntryName) (v u : View) (ps qs : List places.Place) (es mid ix : List (ℕ × slots.Place)) → KnowsAll p m v ps es → AreOwnOf p m doomed own
    → TidiedIn p m (after_retire p m doomed v) u → LosesNames own ps qs es mid → HearsAll (core_of p m) mid ix → KnowsAll p m u qs ix
retires_keys p m doomed own v u ps qs es mid ix Q A T X H =
    knows_after p m own v (after_retire p m doomed v) u ps qs es ix Q (lets_retired p m doomed own v u ps qs es mid ix A T X H)

-- what a core was told to be gone leaves its view, and what it knows
abbrev pub receives_go : (p : Place) (m from : ℕ) (n : Notices) (v u : View) (ps qs : List places.Place) (es mid ix : List (ℕ × slots.Place)) → IsHeard p m from v n
    → TidiedIn p m (after_receive p m n v) u → LosesNames n.gone ps qs es mid → HearsAll (core_of p m) mid ix → LetsNamesGo p m n.gone v (after_receive p m n v) u ps qs es ix
receives_go p m from n v u ps qs es mid ix A T X H =
    let left = after_receive p m n v in
    let loses : LosesIn p m n.gone v left = record {
      last = λ k. refl;
      cell = λ k. refl;
      pending = λ k. refl;
      blocks = refl;
      present = λ k i own. ap (λ (b : Bool). cond (b && has n.gone k i) None (v.present k i)) (eq-eqb (owner p k) m own);
      told = λ k i own. ap (λ (b : Bool). cond (b && has n.gone k i) false (v.told k i)) (eq-eqb (owner p k) m own);
      was = λ k i h is. was_some (eqb (owner p k) m && has n.gone k i) (v.present k i) h is;
      own = A.own;
    } in
    record { loses = loses; tidied = T; mid = mid; names = X; heard = H }

pub receives_keys : (p : Place) (m from : ℕ) (n : Notices) (v u : View) (ps qs : List places.Place) (es mid ix : List (ℕ × slots.Place)) → KnowsAll p m v ps es → IsHeard p m from v n
    → TidiedIn p m (after_receive p m n v) u → LosesNames n.gone ps qs es mid → HearsAll (core_of p m) mid ix → KnowsAll p m u qs ix
receives_keys p m from n v u ps qs es mid ix Q A T X H = knows_after p m n.gone v (after_receive p m n v) u ps qs es ix Q (receives_go p m from n v u ps qs es mid ix A T X H)
