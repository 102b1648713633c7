-- The places of own entries that were committed pledge nothing any more: what this leaves of the ties, and what it takes off the lines that are pledged.
use Rattle.std.proofs.Common.{◌≡◌, ◌≢◌, ◌⊎◌, inl, inr, ⊎_elim, ℕ, zero, suc, ◌+◌, ◌<◌, ◌≤◌, ◌==◌, ◌&&◌, Bool, true, false, cond, List, [], ◌∷◌, length, Option, Some, None, refl, sym, ◌∙◌, ap, subst, arith}
use Rattle.std.specs.Prelude.{is_some, if◌then◌else◌}
use Rattle.std.specs.List.{AllByRecursion}
use Rattle.std.proofs.lemmas.Bool.{eqb-true, eq-eqb, ne_eqb, cases_eq, cases_lt, and_parts}
use Rattle.std.specs.declared.vec.Vec.{Vec}
use Rattle.std.specs.Global.{Global}
use Rattle.pm_region.specs.Words.{lines_for}
use Rattle.pm_region.specs.State.{State}
use Rattle.store_image.specs.Facts.{In}
use Rattle.log_entry.specs.declared.entry.Entry.{Entry}
use Rattle.log_entry.specs.Spelling.{words_of}
use Rattle.group_laws.specs.declared.types.Pending.{Pending}
use Rattle.group_laws.specs.Places as group
use Rattle.group_laws.specs.MemberViews.{View}
use Rattle.batch_leader.specs.declared.taken.Taken.{Taken}
use Rattle.batch_leader.specs.TakenChanges.{taken_in, AreApart}
use Rattle.batch_leader.specs.Rounds.{own_lines}
use Rattle.batch_leader.specs.Leading.{AreUnlogged}
use Rattle.core_worker.specs.declared.types.Place.{Place}
use Rattle.core_worker.specs.declared.types.Place.TheVariants.{Free, Staged, Posted}
use Rattle.core_worker.specs.declared.worker.Worker.{Worker}
use Rattle.core_worker.specs.OwnPlaces.{place_at, key_in, lines_in, own, is_free, is_of, is_busy, Replaces}
use Rattle.core_worker.specs.KeyTies.{IsPlaced, IsStagedBlock}
use Rattle.core_worker.specs.Ties.{Holds, HasSpaceFor, Stands}
use Rattle.core_worker.specs.Order.{count_changes}
use Rattle.core_worker.specs.WorkerMoves.{placed_in, placed_for}
use Rattle.core_worker.specs.Turns.{unpledged, unpledged_if, UnpledgedAt, Unpledges}
use Rattle.core_worker.proofs.RoomKept.{own_same, own_with}

abbrev lines_of : Entry → ℕ
lines_of e = lines_for (length (words_of e))

-- beyond the last place there is none
pub beyond : (xs : List Place) (s : ℕ) → length xs ≤ s → place_at xs s ≡ Free
beyond [] s le = refl
beyond (x ∷ xs) zero le = absurd (omega (arith, le))
beyond (x ∷ xs) (suc s) le = beyond xs s (omega (arith, le))

-- another place in a list
put_at : List Place → ℕ → Place → List Place
put_at [] s x = []
put_at (y ∷ ys) zero x = x ∷ ys
put_at (y ∷ ys) (suc s) x = y ∷ put_at ys s x

put_count : (xs : List Place) (s : ℕ) (x : Place) → length (put_at xs s x) ≡ length xs
unfolding put_at
put_count [] s x = refl
put_count (y ∷ ys) zero x = refl
put_count (y ∷ ys) (suc s) x = let rest = put_count ys s x in omega (arith, rest)

put_here : (xs : List Place) (s : ℕ) (x : Place) → s < length xs → place_at (put_at xs s x) s ≡ x
unfolding put_at
put_here [] s x lt = absurd (omega (arith, lt))
put_here (y ∷ ys) zero x lt = refl
put_here (y ∷ ys) (suc s) x lt = put_here ys s x (omega (arith, lt))

put_other : (xs : List Place) (s : ℕ) (x : Place) (t : ℕ) → t ≢ s → place_at (put_at xs s x) t ≡ place_at xs t
unfolding put_at
put_other [] s x t ne = refl
put_other (y ∷ ys) zero x zero ne = absurd (ne refl)
put_other (y ∷ ys) zero x (suc t) ne = refl
put_other (y ∷ ys) (suc s) x zero ne = refl
put_other (y ∷ ys) (suc s) x (suc t) ne = put_other ys s x t (λ e. ne (ap (λ n. suc n) e))

put_replaces : (xs : List Place) (s : ℕ) (x : Place) → s < length xs → Replaces xs (put_at xs s x) s x
put_replaces xs s x lt = record { count = put_count xs s x; here = put_here xs s x lt; others = λ t ne. put_other xs s x t ne }

-- the place of an own entry that was taken
abbrev pub Pledges : List Place → ℕ → Entry → Type 0
Pledges xs s e = (s < length xs) × ((n : ℕ) × (place_at xs s ≡ Posted n e.key (lines_of e)))

-- What the places pledge falls by the lines of the own entries.
abbrev pub Less : ℕ → List Taken → List Place → List Place → Type 0
Less m ts ys xs = length ys ≡ length xs → AreApart ts → ((s : ℕ) (e : Entry) → taken_in ts m s ≡ Some e → Pledges xs s e)
    → ((s : ℕ) → place_at ys s ≡ unpledged_if (is_some (taken_in ts m s)) (place_at xs s)) → own ys + own_lines m ts ≡ own xs

-- of one entry more, of another member
less_skip : (m : ℕ) (t : Taken) (ts : List Taken) (ys xs : List Place) → (t.member == m) ≡ false → Less m ts ys xs → Less m (t ∷ ts) ys xs
unfolding own_lines
less_skip m t ts ys xs e more count apart pledges each =
    let skip : (s : ℕ) → taken_in (t ∷ ts) m s ≡ taken_in ts m s = λ s i. cond (e i && t.slot == s) (Some t.change.entry) (taken_in ts m s) in
    let rest = more count apart.1 (λ s x is. pledges s x (skip s ∙ is)) (λ s. each s ∙ ap (λ o. unpledged_if (is_some o) (place_at xs s)) (skip s)) in
    let none : cond (t.member == m) (lines_of t.change.entry) 0 ≡ 0 = ap (λ b. cond b (lines_of t.change.entry) 0) e in
    omega (arith, rest, none)

-- of an own one more
module _ (m : ℕ) (t : Taken) (ts : List Taken) (ys xs : List Place) (e : (t.member == m) ≡ true) (count : length ys ≡ length xs) (apart : AreApart (t ∷ ts)) (pledges : (s : ℕ) (x : Entry) → taken_in (t ∷ ts) m s ≡ Some x → Pledges xs s x)
    (each : (s : ℕ) → place_at ys s ≡ unpledged_if (is_some (taken_in (t ∷ ts) m s)) (place_at xs s)) where
  hit : (s : ℕ) → taken_in (t ∷ ts) m s ≡ cond (t.slot == s) (Some t.change.entry) (taken_in ts m s)
  hit s = λ i. cond (e i && t.slot == s) (Some t.change.entry) (taken_in ts m s)

  here : taken_in (t ∷ ts) m t.slot ≡ Some t.change.entry
  here = hit t.slot ∙ ap (λ b. cond b (Some t.change.entry) (taken_in ts m t.slot)) (eq-eqb t.slot t.slot refl)

  miss : (s : ℕ) → s ≢ t.slot → taken_in (t ∷ ts) m s ≡ taken_in ts m s
  miss s ne = hit s ∙ ap (λ b. cond b (Some t.change.entry) (taken_in ts m s)) (ne_eqb t.slot s (λ e. ne (sym e)))

  had : Pledges xs t.slot t.change.entry
  had = pledges t.slot t.change.entry here

  abbrev after : Place
  after = Posted had.1.0 t.change.entry.key 0

  abbrev mid : List Place
  mid = put_at xs t.slot after

  moved : Replaces xs mid t.slot after
  moved = put_replaces xs t.slot after had.0

  none : taken_in ts m t.slot ≡ None
  none = subst (λ (n : ℕ). taken_in ts n t.slot ≡ None) (eqb-true t.member m e) apart.0

  still : (s : ℕ) (y : Entry) → taken_in ts m s ≡ Some y → (s ≡ t.slot) ⊎ (s ≢ t.slot) → Pledges mid s y
  still s y is (inl same) = absurd (let both : Some y ≡ None = sym is ∙ ap (taken_in ts m) same ∙ none in cc both)
  still s y is (inr ne) =
      let old = pledges s y (miss s ne ∙ is) in
      let long = moved.count in
      let lt = old.0 in
      (omega (arith, lt, long), (old.1.0, moved.others s ne ∙ old.1.1))

  each_mid : (s : ℕ) → (s ≡ t.slot) ⊎ (s ≢ t.slot) → place_at ys s ≡ unpledged_if (is_some (taken_in ts m s)) (place_at mid s)
  each_mid s (inl same) =
      let now : place_at ys t.slot ≡ after = each t.slot ∙ (λ i. unpledged_if (is_some (here i)) (had.1.1 i)) in
      let end : unpledged_if (is_some (taken_in ts m t.slot)) (place_at mid t.slot) ≡ after = (λ i. unpledged_if (is_some (none i)) (moved.here i)) in
      subst (λ (n : ℕ). place_at ys n ≡ unpledged_if (is_some (taken_in ts m n)) (place_at mid n)) (sym same) (now ∙ sym end)
  each_mid s (inr ne) = each s ∙ (λ i. unpledged_if (is_some (miss s ne i)) (sym (moved.others s ne) i))

  less_hit : Less m ts ys mid → own ys + own_lines m (t ∷ ts) ≡ own xs
  unfolding own_lines
  less_hit more =
      let long = moved.count in
      let rest = more (omega (arith, count, long)) apart.1 (λ s y is. still s y is (cases_eq s t.slot)) (λ s. each_mid s (cases_eq s t.slot)) in
      let all = own_with xs mid t.slot after moved had.0 in
      let was = ap lines_in had.1.1 in
      let some : cond (t.member == m) (lines_of t.change.entry) 0 ≡ lines_of t.change.entry = ap (λ b. cond b (lines_of t.change.entry) 0) e in
      omega (arith, rest, all, was, some)

by_member : (m : ℕ) (t : Taken) (ts : List Taken) (ys xs : List Place) → ((zs : List Place) → Less m ts ys zs) → (b : Bool) → (t.member == m) ≡ b → Less m (t ∷ ts) ys xs
by_member m t ts ys xs more false e count apart pledges each = less_skip m t ts ys xs e (more xs) count apart pledges each
by_member m t ts ys xs more true e count apart pledges each = less_hit m t ts ys xs e count apart pledges each (more _)

pub less_own : (m : ℕ) (ts : List Taken) (ys xs : List Place) → Less m ts ys xs
unfolding own_lines
less_own m [] ys xs count apart pledges each = let same = own_same xs ys count each in omega (arith, same)
less_own m (t ∷ ts) ys xs count apart pledges each = by_member m t ts ys xs (λ zs. less_own m ts ys zs) (t.member == m) refl count apart pledges each

-- What is known of each own entry that was taken, where it stands.
own_in : (P : Taken → Type 0) (m : ℕ) (ts : List Taken) (s : ℕ) (e : Entry) → AllByRecursion P ts → taken_in ts m s ≡ Some e → (t : Taken) × P t × (t.member ≡ m) × (t.slot ≡ s) × (t.change.entry ≡ e)
own_in P m [] s e each is = absurd (cc is)
own_in P m (t ∷ ts) s e each is = by_test (own_in P m ts s e each.1) (t.member == m && t.slot == s) refl is where
  by_test : (taken_in ts m s ≡ Some e → (x : Taken) × P x × (x.member ≡ m) × (x.slot ≡ s) × (x.change.entry ≡ e)) → (b : Bool) → (t.member == m && t.slot == s) ≡ b → cond b (Some t.change.entry) (taken_in ts m s) ≡ Some e
      → (x : Taken) × P x × (x.member ≡ m) × (x.slot ≡ s) × (x.change.entry ≡ e)
  by_test rest false q is = rest is
  by_test rest true q is =
      let both = and_parts (t.member == m) (t.slot == s) q in
      (t, each.0, eqb-true t.member m both.0, eqb-true t.slot s both.1, (let same : t.change.entry ≡ e = cc is in same))

same_pending : (a b : Entry) (s t : ℕ) → Path (Option Pending) (Some (record { entry = a; slot = Some s })) (Some (record { entry = b; slot = Some t })) → (a ≡ b) × (s ≡ t)
same_pending a b s t e =
    let r : Path Pending (record { entry = a; slot = Some s }) (record { entry = b; slot = Some t }) = cc e in
    let q : Some s ≡ Some t = ap (λ (x : Pending). x.slot) r in
    (ap (λ (x : Pending). x.entry) r, cc q)

-- An own entry that was taken and isn't certain yet stands in its place, which pledges all of its lines.
module _ (p : group.Place) (m : ℕ) (v : View) (w : Worker) (H : Holds p m v w) where
  pledged_place : (s : ℕ) (e : Entry) → (In e v.kept → ⊥) → v.pending e.key ≡ Some (record { entry = e; slot = Some s }) → (at number lines : ℕ) → at < 8 → place_at w.places.items at ≡ Posted number e.key lines → Pledges w.places.items s e
  pledged_place s e new pends at number lines lt is =
      let placed = subst (IsPlaced p m v at) is (H.placed at lt) in
      let one : Some (record { entry = placed.0; slot = Some at }) ≡ Some (record { entry = e; slot = Some s }) = sym placed.1 ∙ pends in
      let both = same_pending placed.0 e at s one in
      let same : placed.0 ≡ e = both.0 in
      let slot : at ≡ s = both.1 in
      let eight = H.eight in
      let full : lines ≡ lines_of e = ⊎_elim (λ full. full ∙ ap lines_of same) (λ none. absurd (new (subst (λ (x : Entry). In x v.kept) same none.1))) placed.5 in
      (omega (arith, lt, slot, eight), (number, ap (place_at w.places.items) (sym slot) ∙ is ∙ ap (Posted number e.key) full))

  pub pledged_by : (ts : List Taken) → AreUnlogged m v ts → (s : ℕ) (e : Entry) → taken_in ts m s ≡ Some e → Pledges w.places.items s e
  pledged_by ts unlogged s e is =
      let t = own_in _ m ts s e unlogged is in
      let pends : v.pending e.key ≡ Some (record { entry = e; slot = Some s }) = subst (λ (n : ℕ). v.pending e.key ≡ Some (record { entry = e; slot = Some n })) t.3 (subst (λ (x : Entry). v.pending x.key ≡ Some (record { entry = x; slot = Some t.0.slot })) t.4 (t.1.own t.2)) in
      let new : In e v.kept → ⊥ = λ i. t.1.new e i (ap (λ (x : Entry). x.key) (sym t.4)) (ap (λ (x : Entry). x.version) (sym t.4)) in
      ⊎_elim (λ z. pledged_place s e new pends z.0 z.1 z.2 z.3 z.4) (λ y. absurd (let none : Some s ≡ None = y.0 in cc none)) (H.pending e.key (record { entry = e; slot = Some s }) pends)

some_of : {X : Type 0} → (o : Option X) → is_some o ≡ true → (x : X) × (o ≡ Some x)
some_of None e = absurd (cc e)
some_of (Some x) e = (x, refl)

-- Once they are certain, the entry in the place of a taken one is.
pub certain_own : (p : group.Place) (m : ℕ) (v u : View) (w : Worker) → Holds p m v w → (ts : List Taken) → AreUnlogged m v ts → AllByRecursion (λ t. In t.change.entry u.kept) ts → u.pending ≡ v.pending
    → (s : ℕ) (e : Entry) (n k lines : ℕ) → is_some (taken_in ts m s) ≡ true → place_at w.places.items s ≡ Posted n k lines → u.pending k ≡ Some (record { entry = e; slot = Some s }) → In e u.kept
certain_own p m v u w H ts unlogged each same s e n k lines has place pends =
    let o = some_of (taken_in ts m s) has in
    let x = o.0 in
    let pledged = pledged_by p m v w H ts unlogged s x o.1 in
    let both : Posted n k lines ≡ Posted pledged.1.0 x.key (lines_of x) = sym place ∙ pledged.1.1 in
    let key : k ≡ x.key = cc both in
    let t = own_in _ m ts s x unlogged o.1 in
    let was : v.pending x.key ≡ Some (record { entry = x; slot = Some s }) = subst (λ (n : ℕ). v.pending x.key ≡ Some (record { entry = x; slot = Some n })) t.3 (subst (λ (y : Entry). v.pending y.key ≡ Some (record { entry = y; slot = Some t.0.slot })) t.4 (t.1.own t.2)) in
    let two : Some (record { entry = x; slot = Some s }) ≡ Some (record { entry = e; slot = Some s }) = sym was ∙ sym (λ i. same i (key i)) ∙ pends in
    let entry : x ≡ e = (same_pending x e s s two).0 in
    let c = own_in (λ t. In t.change.entry u.kept) m ts s x each o.1 in
    subst (λ (y : Entry). In y u.kept) (c.4 ∙ entry) c.1

-- what becomes of a place, by what was taken
pub unpledged_at : (ts : List Taken) (m : ℕ) (xs : List Place) (y : Place) (s : ℕ) → ((e : Entry) → taken_in ts m s ≡ Some e → Pledges xs s e) → y ≡ unpledged_if (is_some (taken_in ts m s)) (place_at xs s) → UnpledgedAt (taken_in ts m s) (place_at xs s) y
unpledged_at ts m xs y s pledges is = by_taken (taken_in ts m s) refl is where
  by_taken : (o : Option Entry) → taken_in ts m s ≡ o → y ≡ unpledged_if (is_some o) (place_at xs s) → UnpledgedAt o (place_at xs s) y
  by_taken None t is = is
  by_taken (Some e) t is = let had = pledges e t in (had.1.0, had.1.1, is ∙ ap unpledged had.1.1)

-- A place as it was, or posted with nothing pledged.
abbrev IsLowered : Place → Place → Type 0
IsLowered x y = (y ≡ x) ⊎ ((n k lines : ℕ) × (x ≡ Posted n k lines) × (y ≡ Posted n k 0))

lowered_by : (b : Bool) (x y : Place) → y ≡ unpledged_if b x → IsLowered x y
lowered_by false x y e = inl e
lowered_by true Free y e = inl e
lowered_by true (Staged n en u) y e = inl e
lowered_by true (Posted n k lines) y e = inr (n, k, lines, refl, e)

key_lowered : (x y : Place) → IsLowered x y → key_in y ≡ key_in x
key_lowered x y (inl e) = ap key_in e
key_lowered x y (inr z) = ap key_in z.4 ∙ sym (ap key_in z.3)

staged_lowered : (x y : Place) (n : ℕ) (e : Entry) (u : List ℕ) → IsLowered x y → y ≡ Staged n e u → x ≡ Staged n e u
staged_lowered x y n e u (inl same) is = sym same ∙ is
staged_lowered x y n e u (inr z) is = absurd (let both : Posted z.0 z.1 0 ≡ Staged n e u = sym z.4 ∙ is in cc both)

staged_still : (x y : Place) (n : ℕ) (e : Entry) (u : List ℕ) → IsLowered x y → x ≡ Staged n e u → y ≡ Staged n e u
staged_still x y n e u (inl same) is = same ∙ is
staged_still x y n e u (inr z) is = absurd (let both : Posted z.0 z.1 z.2 ≡ Staged n e u = sym z.3 ∙ is in cc both)

posted_lowered : (x y : Place) (n k lines : ℕ) → IsLowered x y → x ≡ Posted n k lines → (less : ℕ) × (y ≡ Posted n k less)
posted_lowered x y n k lines (inl same) is = (lines, same ∙ is)
posted_lowered x y n k lines (inr z) is =
    let both : Posted z.0 z.1 z.2 ≡ Posted n k lines = sym z.3 ∙ is in
    let number : z.0 ≡ n = cc both in
    let key : z.1 ≡ k = cc both in
    (0, z.4 ∙ (λ i. Posted (number i) (key i) 0))

busy_same : (xs ys : List Place) → length ys ≡ length xs → ((t : ℕ) → key_in (place_at ys t) ≡ key_in (place_at xs t)) → (k : ℕ) → is_busy ys k ≡ is_busy xs k
busy_same [] [] c h k = refl
busy_same [] (y ∷ ys) c h k = absurd (cc c)
busy_same (x ∷ xs) [] c h k = absurd (cc c)
busy_same (x ∷ xs) (y ∷ ys) c h k =
    let first = h 0 in
    let rest = busy_same xs ys (omega (arith, c)) (λ t. h (suc t)) k in
    λ i. cond (is_of k (first i)) true (rest i)

-- To others, a place is what it was.
in_lowered : (v : View) (x y : Place) → IsLowered x y → placed_in v y ≡ placed_in v x
in_lowered v x y (inl e) = ap (placed_in v) e
in_lowered v x y (inr z) = ap (placed_in v) z.4 ∙ sym (ap (placed_in v) z.3)

free_lowered : (x y : Place) → IsLowered x y → is_free y ≡ is_free x
free_lowered x y (inl e) = ap is_free e
free_lowered x y (inr z) = ap is_free z.4 ∙ sym (ap is_free z.3)

for_lowered : (v : View) (xs ys : List Place) → length ys ≡ length xs → ((s : ℕ) → IsLowered (place_at xs s) (place_at ys s)) → (k : ℕ) → placed_for v ys k ≡ placed_for v xs k
for_lowered v [] [] c h k = refl
for_lowered v [] (y ∷ ys) c h k = absurd (cc c)
for_lowered v (x ∷ xs) [] c h k = absurd (cc c)
for_lowered v (x ∷ xs) (y ∷ ys) c h k =
    let key = key_lowered x y (h 0) in
    let here = in_lowered v x y (h 0) in
    let rest = for_lowered v xs ys (omega (arith, c)) (λ t. h (suc t)) k in
    λ i. cond (is_of k (key i)) (here i) (rest i)

count_lowered : (xs ys : List Place) → length ys ≡ length xs → ((s : ℕ) → IsLowered (place_at xs s) (place_at ys s)) → count_changes ys ≡ count_changes xs
count_lowered [] [] c h = refl
count_lowered [] (y ∷ ys) c h = absurd (cc c)
count_lowered (x ∷ xs) [] c h = absurd (cc c)
count_lowered (x ∷ xs) (y ∷ ys) c h =
    let free = free_lowered x y (h 0) in
    let rest = count_lowered xs ys (omega (arith, c)) (λ t. h (suc t)) in
    λ i. (if free i then 0 else 1) + rest i

at_unpledged : (o : Option Entry) (x y : Place) → UnpledgedAt o x y → IsLowered x y
at_unpledged None x y is = inl is
at_unpledged (Some e) x y is = inr (is.0, e.key, lines_of e, is.1, is.2)

module _ (m : ℕ) (ts : List Taken) (old new : Worker) (count : length new.places.items ≡ length old.places.items) (un : Unpledges m ts old new) where
  each_unpledged : (s : ℕ) → IsLowered (place_at old.places.items s) (place_at new.places.items s)
  each_unpledged s = at_unpledged (taken_in ts m s) (place_at old.places.items s) (place_at new.places.items s) (un s)

  pub keys_unpledged : (s : ℕ) → key_in (place_at new.places.items s) ≡ key_in (place_at old.places.items s)
  keys_unpledged s = key_lowered (place_at old.places.items s) (place_at new.places.items s) (each_unpledged s)

  pub busy_unpledged : (k : ℕ) → is_busy new.places.items k ≡ is_busy old.places.items k
  busy_unpledged k = busy_same old.places.items new.places.items count keys_unpledged k

  pub placed_unpledged : (v : View) (k : ℕ) → placed_for v new.places.items k ≡ placed_for v old.places.items k
  placed_unpledged v k = for_lowered v old.places.items new.places.items count each_unpledged k

  pub changes_unpledged : count_changes new.places.items ≡ count_changes old.places.items
  changes_unpledged = count_lowered old.places.items new.places.items count each_unpledged

-- what a place is of a view, with nothing pledged of an entry that is certain
placed_lowered : (p : group.Place) (m : ℕ) (v : View) (s : ℕ) (x y : Place) → ((e : Entry) (k lines : ℕ) (n : ℕ) → x ≡ Posted n k lines → y ≡ Posted n k 0 → v.pending k ≡ Some (record { entry = e; slot = Some s }) → (lines ≡ 0 → ⊥) → In e v.kept) → IsLowered x y → IsPlaced p m v s x → IsPlaced p m v s y
placed_lowered p m v s x y kept (inl e) is = subst (IsPlaced p m v s) (sym e) is
placed_lowered p m v s x y kept (inr z) is = subst (IsPlaced p m v s) (sym z.4) (lower (cases_eq z.2 0) (subst (IsPlaced p m v s) z.3 is)) where
  lower : (z.2 ≡ 0) ⊎ (z.2 ≢ 0) → IsPlaced p m v s (Posted z.0 z.1 z.2) → IsPlaced p m v s (Posted z.0 z.1 0)
  lower (inl none) is = subst (λ (l : ℕ). IsPlaced p m v s (Posted z.0 z.1 l)) none is
  lower (inr some) is = (is.0, is.1, is.2, is.3, is.4, inr (refl, kept is.0 z.1 z.2 z.0 z.3 z.4 is.1 some), omega arith)

-- beyond the eighth place there is none either way
each_of : (has : ℕ → Bool) (xs ys : List Place) → length xs ≡ 8 → length ys ≡ 8 → ((s : ℕ) → s < 8 → place_at ys s ≡ unpledged_if (has s) (place_at xs s)) → (s : ℕ) → place_at ys s ≡ unpledged_if (has s) (place_at xs s)
each_of has xs ys eight count each s = ⊎_elim (λ lt. each s lt)
    (λ ge. beyond ys s (omega (arith, ge, count)) ∙ sym (ap (unpledged_if (has s)) (beyond xs s (omega (arith, ge, eight))) ∙ free (has s)))
    (cases_lt s 8)
  where
    free : (b : Bool) → unpledged_if b Free ≡ Free
    free true = refl
    free false = refl

pub each_place : (ts : List Taken) (m : ℕ) (xs ys : List Place) → length xs ≡ 8 → length ys ≡ 8 → ((s : ℕ) → s < 8 → place_at ys s ≡ unpledged_if (is_some (taken_in ts m s)) (place_at xs s))
    → (s : ℕ) → place_at ys s ≡ unpledged_if (is_some (taken_in ts m s)) (place_at xs s)
each_place ts m xs ys eight count each = each_of (λ s. is_some (taken_in ts m s)) xs ys eight count each

-- the ties after the places of certain entries pledge nothing any more
module _ (p : group.Place) (m : ℕ) (v : View) (w : Worker) (H : Holds p m v w) (ps : Vec Place Global) (count : length ps.items ≡ 8) (has : ℕ → Bool) (each : (s : ℕ) → s < 8 → place_at ps.items s ≡ unpledged_if (has s) (place_at w.places.items s))
    (kept : (s : ℕ) (e : Entry) (n k lines : ℕ) → has s ≡ true → place_at w.places.items s ≡ Posted n k lines → v.pending k ≡ Some (record { entry = e; slot = Some s }) → In e v.kept) (space : w.stopped ≡ false → HasSpaceFor (record w { places = ps }) w.leading) where
  all : (s : ℕ) → place_at ps.items s ≡ unpledged_if (has s) (place_at w.places.items s)
  all = each_of has w.places.items ps.items H.eight count each

  pub lowered : (s : ℕ) → IsLowered (place_at w.places.items s) (place_at ps.items s)
  lowered s = lowered_by (has s) (place_at w.places.items s) (place_at ps.items s) (all s)

  keys : (s : ℕ) → key_in (place_at ps.items s) ≡ key_in (place_at w.places.items s)
  keys s = key_lowered (place_at w.places.items s) (place_at ps.items s) (lowered s)

  busy : (k : ℕ) → is_busy ps.items k ≡ is_busy w.places.items k
  busy k = (let eight = H.eight in busy_same w.places.items ps.items (omega (arith, count, eight)) keys k)

  abbrev block_was : (q : ℕ) → IsStagedBlock v ps.items q → IsStagedBlock v w.places.items q
  block_was q x = record { slot = x.slot; number = x.number; entry = x.entry; value = x.value; place = staged_lowered (place_at w.places.items x.slot) (place_at ps.items x.slot) x.number x.entry x.value (lowered x.slot) x.place; points = x.points }

  abbrev block_is : (q : ℕ) → IsStagedBlock v w.places.items q → IsStagedBlock v ps.items q
  block_is q x = record { slot = x.slot; number = x.number; entry = x.entry; value = x.value; place = staged_still (place_at w.places.items x.slot) (place_at ps.items x.slot) x.number x.entry x.value (lowered x.slot) x.place; points = x.points }

  certain : (s : ℕ) (e : Entry) (k lines n : ℕ) → place_at w.places.items s ≡ Posted n k lines → place_at ps.items s ≡ Posted n k 0 → v.pending k ≡ Some (record { entry = e; slot = Some s }) → (lines ≡ 0 → ⊥) → In e v.kept
  certain s e k lines n was now pends some = by_has (has s) refl where
    by_has : (b : Bool) → has s ≡ b → In e v.kept
    by_has true t = kept s e n k lines t was pends
    by_has false t = absurd (some (let both : Posted n k lines ≡ Posted n k 0 = sym was ∙ sym (ap (λ b. unpledged_if b (place_at w.places.items s)) t) ∙ sym (all s) ∙ now in cc both))

  pub holds_lowered : Holds p m v (record w { places = ps })
  holds_lowered = record {
    place = H.place;
    member = H.member;
    core = H.core;
    layout = H.layout;
    log_layout = H.log_layout;
    log_part = H.log_part;
    sets = H.sets;
    allocator_layout = H.allocator_layout;
    allocator_part = H.allocator_part;
    spelled = H.spelled;
    eight = count;
    placed = λ s lt. placed_lowered p m v s (place_at w.places.items s) (place_at ps.items s) (certain s) (lowered s) (H.placed s lt);
    apart = λ s t k a b. H.apart s t k (sym (keys s) ∙ a) (sym (keys t) ∙ b);
    pending = λ k q e. ⊎_elim
        (λ z. let less = posted_lowered (place_at w.places.items z.0) (place_at ps.items z.0) z.1 k z.2 (lowered z.0) z.4 in inl (z.0, z.1, less.0, z.3, less.1))
        (λ y. inr (y.0, busy k ∙ y.1, y.2)) (H.pending k q e);
    admitted = λ k b. H.admitted k (sym (busy k) ∙ b);
    keys = λ k mine which. H.keys k mine (⊎_elim (λ r. inl r) (λ b. inr (sym (busy k) ∙ b)) which);
    mail = H.mail;
    blocks = record {
      held = H.blocks.held;
      staged = λ q x. H.blocks.staged q (block_was q x);
      once = λ q x y. H.blocks.once q (block_was q x) (block_was q y);
      only = λ q used. ⊎_elim (λ b. inl b) (λ x. inr (block_is q x)) (H.blocks.only q used);
    };
    waits = λ on k b. H.waits on k (sym (busy k) ∙ b);
    leads = H.leads;
    space = space;
    broken = H.broken;
    lost = H.lost;
    flight = H.flight;
    cleaning = H.cleaning;
    remembers = H.remembers;
    chunks = H.chunks;
  }

-- the ties to the region say nothing of places
pub stands_lowered : (s : State) (p : group.Place) (m : ℕ) (v : View) (w : Worker) (ps : Vec Place Global) → Stands s p m v w → Stands s p m v (record w { places = ps })
stands_lowered s p m v w ps S = record { lies = S.lies; licensed = S.licensed; landed = S.landed; log = S.log; free = S.free; due = S.due; cut = S.cut; names = S.names }
