-- What waits for other members waits on, and may be sent still, whatever a core does with its changes.
use Rattle.std.proofs.Common.{◌≡◌, ◌≢◌, ◌⊎◌, inl, inr, ⊎_elim, ℕ, zero, suc, ◌+◌, ◌<◌, ◌≤◌, ◌||◌, ◌&&◌, eqb, Bool, true, false, cond, List, [], ◌∷◌, ◌++◌, length, Option, Some, None, refl, sym, ◌∙◌, ap, subst, arith}
use Rattle.std.specs.Prelude.{◌↔◌, slice_get}
use Rattle.std.specs.List.{AllByRecursion}
use Rattle.std.proofs.lemmas.Bool.{cases_eq, ne_eqb, eq-eqb, or_cases}
use Rattle.log_entry.specs.declared.entry.Entry.{Entry}
use Rattle.log_entry.specs.declared.entry.EntryName.{EntryName}
use Rattle.core_index.specs.Records.{KeyRecord}
use Rattle.group_board.specs.declared.names.Notices.{Notices}
use Rattle.core_worker.proofs.ListedNames.{has_append}
use Rattle.group_laws.specs.Places.{Place, members, owner}
use Rattle.group_laws.specs.Updates.{has}
use Rattle.group_laws.specs.MemberViews.{View}
use Rattle.group_board.specs.Views.{IsDeadIn, IsTidyIn, TellsItselfIn, after_finish, left_in}
use Rattle.core_worker.specs.KeyTies.{KnowsKey}
use Rattle.core_worker.specs.Outbox.{mailing, waiting_dead, HasSpare, KeepsMail, MayTell, TellsNothing}

-- What v has of an own name that waits for another member, u has too.
pub record StillTells (p : Place) (m : ℕ) (v u : View) : Type 0 where
  pub stands : (k n to : ℕ) → owner p k ≡ m → to ≢ m → v.present k n ≡ Some to → v.told k n ≡ false → IsDeadIn v k n → (u.present k n ≡ Some to) × (u.told k n ≡ false) × IsDeadIn u k n
  pub leaves : (k n : ℕ) → v.leaving k n ≡ true → u.leaving k n ≡ true

pub still_same : (p : Place) (m : ℕ) (v u : View) → u.last ≡ v.last → u.cell ≡ v.cell → u.present ≡ v.present → u.told ≡ v.told → u.leaving ≡ v.leaving → StillTells p m v u
still_same p m v u last cell present told leaving = record {
  stands = λ k n to own other here not_told dies. (
    ap (λ (f : ℕ → ℕ → Option ℕ). f k n) present ∙ here,
    ap (λ (f : ℕ → ℕ → Bool). f k n) told ∙ not_told,
    ⊎_elim
        (λ lt. inl (subst (λ (f : ℕ → ℕ). n < f k) (sym last) lt))
        (λ x. inr (x.0 ∙ ap (λ (f : ℕ → ℕ). f k) (sym last), ap (λ (f : ℕ → Option (List ℕ)). f k) cell ∙ x.1, λ i h is. x.2 i h (ap (λ (f : ℕ → ℕ → Option ℕ). f k i) (sym present) ∙ is)))
        dies,
  );
  leaves = λ k n is. ap (λ (f : ℕ → ℕ → Bool). f k n) leaving ∙ is;
}

pub still_then : (p : Place) (m : ℕ) (v u x : View) → StillTells p m v u → StillTells p m u x → StillTells p m v x
still_then p m v u x one two = record {
  stands = λ k n to own other here not_told dies.
      let mid = one.stands k n to own other here not_told dies in
      two.stands k n to own other mid.0 mid.1 mid.2;
  leaves = λ k n is. two.leaves k n (one.leaves k n is);
}

-- the two rules tell nothing that stands at another member, and forget no key of which something stands
pub still_tidied : (p : Place) (m : ℕ) (v : View) (last : ℕ → ℕ) (told dead : ℕ → ℕ → Bool) → IsTidyIn p m v last told dead → StillTells p m v (record v { last = last; told = told; dead = dead })
still_tidied p m v last told dead T = record {
  stands = λ k n to own other here not_told dies. (here, untold k n to other here not_told (told k n) refl, dies_still k n to here dies);
  leaves = λ k n is. is;
} where
  untold : (k n to : ℕ) → to ≢ m → v.present k n ≡ Some to → v.told k n ≡ false → (b : Bool) → told k n ≡ b → told k n ≡ false
  untold k n to other here not_told false is = is
  untold k n to other here not_told true is = absurd (⊎_elim
      (λ before. (let both : true ≡ false = sym before ∙ not_told in cc both))
      (λ itself. other (let both : Some to ≡ Some m = sym here ∙ itself.1 in cc both))
      ((T.tells k n).0 is))

  last_same : (k n to : ℕ) → v.present k n ≡ Some to → last k ≡ v.last k
  last_same k n to here = ⊎_elim
      (λ spent. absurd (let none = spent.0.2 n in let both : None ≡ Some to = sym none ∙ here in cc both))
      (λ same. same)
      (T.keeps k)

  dies_still : (k n to : ℕ) → v.present k n ≡ Some to → IsDeadIn v k n → IsDeadIn (record v { last = last; told = told; dead = dead }) k n
  dies_still k n to here dies = ⊎_elim
      (λ lt. inl (subst (λ (l : ℕ). n < l) (sym (last_same k n to here)) lt))
      (λ x. inr (x.0 ∙ sym (last_same k n to here), x.1, x.2))
      dies

-- a finished change is a later one of its key
pub still_finished : (p : Place) (m : ℕ) (v : View) (e : Entry) (home : ℕ) → e.version ≡ v.last e.key + 1 → StillTells p m v (after_finish e home v)
still_finished p m v e home next = record {
  stands = λ k n to own other here not_told dies. (there k n to here dies, not_told, dies_still k n dies);
  leaves = λ k n is. is;
} where
  low : (k n : ℕ) → IsDeadIn v k n → n ≤ v.last k
  low k n dies = ⊎_elim (λ lt. omega (arith, lt)) (λ x. (let e = x.0 in omega (arith, e))) dies

  older : (k n : ℕ) → k ≡ e.key → IsDeadIn v k n → n < e.version
  older k n same dies = (let l = low k n dies in let s = ap v.last same in omega (arith, l, s, next))

  present_as : (k n : ℕ) → IsDeadIn v k n → (after_finish e home v).present k n ≡ v.present k n
  present_as k n dies = elim (cases_eq k e.key) [
    | inl same ↦ (let lt = older k n same dies in let ne : n ≢ e.version = λ is. omega (arith, lt, is) in by (eqb k e.key) n ne)
    | inr ne ↦ ap (λ (c : Bool). cond (c && eqb n e.version) (Some home) (v.present k n)) (ne_eqb k e.key ne)
  ] where
    by : (c : Bool) (i : ℕ) → i ≢ e.version → cond (c && eqb i e.version) (Some home) (v.present k i) ≡ v.present k i
    by true i ne = ap (λ (d : Bool). cond d (Some home) (v.present k i)) (ne_eqb i e.version ne)
    by false i ne = refl

  there : (k n to : ℕ) → v.present k n ≡ Some to → IsDeadIn v k n → (after_finish e home v).present k n ≡ Some to
  there k n to here dies = present_as k n dies ∙ here

  last_here : (k : ℕ) → k ≡ e.key → (after_finish e home v).last k ≡ e.version
  last_here k same = ap (λ (c : Bool). cond c e.version (v.last k)) (eq-eqb k e.key same)

  last_other : (k : ℕ) → k ≢ e.key → (after_finish e home v).last k ≡ v.last k
  last_other k ne = ap (λ (c : Bool). cond c e.version (v.last k)) (ne_eqb k e.key ne)

  cell_other : (k : ℕ) → k ≢ e.key → (after_finish e home v).cell k ≡ v.cell k
  cell_other k ne = ap (λ (c : Bool). cond c (left_in v.blocks e.body) (v.cell k)) (ne_eqb k e.key ne)

  other_present : (k i : ℕ) → k ≢ e.key → (after_finish e home v).present k i ≡ v.present k i
  other_present k i ne = ap (λ (c : Bool). cond (c && eqb i e.version) (Some home) (v.present k i)) (ne_eqb k e.key ne)

  dies_still : (k n : ℕ) → IsDeadIn v k n → IsDeadIn (after_finish e home v) k n
  dies_still k n dies = elim (cases_eq k e.key) [
    | inl same ↦ inl (subst (λ (l : ℕ). n < l) (sym (last_here k same)) (older k n same dies))
    | inr ne ↦ ⊎_elim
        (λ lt. inl (subst (λ (l : ℕ). n < l) (sym (last_other k ne)) lt))
        (λ x. inr (x.0 ∙ sym (last_other k ne), cell_other k ne ∙ x.1, λ i h is. x.2 i h (sym (other_present k i ne) ∙ is)))
        dies
  ]

pub nothing_sends : (p : Place) (m to : ℕ) (v : View) (n : Notices) → TellsNothing n → MayTell p m to v n
nothing_sends p m to v n none = record {
  dead = record {
    own = λ k i t. absurd (not_dead k i t);
    dead = λ k i t. absurd (not_dead k i t);
    stands = λ k i t. absurd (not_dead k i t);
    untold = λ k i t. absurd (not_dead k i t);
  };
  gone = λ k i t. absurd (let both : true ≡ false = sym t ∙ ap (λ (xs : List EntryName). has xs k i) none.1 in cc both);
} where
  not_dead : (k i : ℕ) → has n.dead.names k i ≡ true → ⊥
  not_dead k i t = (let both : true ≡ false = sym t ∙ ap (λ (xs : List EntryName). has xs k i) none.0 in cc both)

-- what waits may be sent still
pub mail_still : (p : Place) (m : ℕ) (v u : View) (winds : Bool) (boxes : List Notices) → StillTells p m v u → KeepsMail p m v winds boxes → KeepsMail p m u winds boxes
mail_still p m v u winds boxes S M = record {
  count = M.count;
  each = λ h n is. elim (cases_eq h m) [
    | inl mine ↦ nothing_sends p m h u n (M.own n (ap (slice_get boxes) (sym mine) ∙ is))
    | inr other ↦ by h n other (M.each h n is)
  ];
  own = M.own;
  spare = M.spare;
} where
  by : (h : ℕ) (n : Notices) → h ≢ m → MayTell p m h v n → MayTell p m h u n
  by h n other A = record {
    dead = record {
      own = A.dead.own;
      dead = λ k i t. (now k i t).2;
      stands = λ k i t. (now k i t).0;
      untold = λ k i t. (now k i t).1;
    };
    gone = λ k i t. (S.leaves k i (A.gone k i t).0, (A.gone k i t).1);
  } where
    now : (k i : ℕ) → has n.dead.names k i ≡ true → (u.present k i ≡ Some h) × (u.told k i ≡ false) × IsDeadIn u k i
    now k i t = S.stands k i h (A.dead.own k i t) other (A.dead.stands k i t) (A.dead.untold k i t) (A.dead.dead k i t)

pub mail_same : (p : Place) (m : ℕ) (v u : View) (winds : Bool) (boxes : List Notices) → u.last ≡ v.last → u.cell ≡ v.cell → u.present ≡ v.present → u.told ≡ v.told → u.leaving ≡ v.leaving → KeepsMail p m v winds boxes → KeepsMail p m u winds boxes
mail_same p m v u winds boxes last cell present told leaving M = mail_still p m v u winds boxes (still_same p m v u last cell present told leaving) M

-- a core that winds down needs no places
pub mail_winds : (p : Place) (m : ℕ) (v : View) (winds now : Bool) (boxes : List Notices) → (now ≡ false → winds ≡ false) → KeepsMail p m v winds boxes → KeepsMail p m v now boxes
mail_winds p m v winds now boxes works M = record { count = M.count; each = M.each; own = M.own; spare = λ on. M.spare (works on) }

-- a name that waits is in one of the boxes
pub in_box : (boxes : List Notices) (k n : ℕ) → has (waiting_dead boxes) k n ≡ true → (h : ℕ) × (b : Notices) × (slice_get boxes h ≡ Some b) × (has b.dead.names k n ≡ true)
in_box [] k n t = absurd (cc t)
in_box (x ∷ xs) k n t = ⊎_elim
    (λ here. (zero, x, refl, here))
    (λ rest. let r = in_box xs k n rest in (suc r.0, r.1, r.2, r.3))
    (or_cases (has x.dead.names k n) (has (waiting_dead xs) k n) (sym (has_append x.dead.names (waiting_dead xs) k n) ∙ t))

-- and the other way round
pub box_in : (boxes : List Notices) (h : ℕ) (b : Notices) (k n : ℕ) → slice_get boxes h ≡ Some b → has b.dead.names k n ≡ true → has (waiting_dead boxes) k n ≡ true
box_in [] h b k n is t = absurd (cc is)
box_in (x ∷ xs) zero b k n is t =
    let same : x ≡ b = cc is in
    has_append x.dead.names (waiting_dead xs) k n ∙ ap (λ (c : Bool). c || has (waiting_dead xs) k n) (ap (λ (y : Notices). has y.dead.names k n) same ∙ t)
box_in (x ∷ xs) (suc h) b k n is t = has_append x.dead.names (waiting_dead xs) k n ∙ last (has x.dead.names k n) (box_in xs h b k n is t) where
  last : (c : Bool) → has (waiting_dead xs) k n ≡ true → (c || has (waiting_dead xs) k n) ≡ true
  last true e = refl
  last false e = e

-- What a core has of a name that waits.
pub record Waits (p : Place) (m : ℕ) (v : View) (k n : ℕ) : Type 0 where
  pub to : ℕ
  pub other : to ≢ m
  pub own : owner p k ≡ m
  pub stands : v.present k n ≡ Some to
  pub untold : v.told k n ≡ false
  pub dies : IsDeadIn v k n

pub waits_of : (p : Place) (m : ℕ) (v : View) (winds : Bool) (boxes : List Notices) → KeepsMail p m v winds boxes → (k n : ℕ) → has (waiting_dead boxes) k n ≡ true → Waits p m v k n
waits_of p m v winds boxes M k n t =
    let b = in_box boxes k n t in
    let A = (M.each b.0 b.1 b.2).dead in
    record {
      to = b.0;
      other = λ mine. (let none = (M.own b.1 (ap (slice_get boxes) (sym mine) ∙ b.2)).0 in let both : true ≡ false = sym b.3 ∙ ap (λ (xs : List EntryName). has xs k n) none in cc both);
      own = A.own k n b.3;
      stands = A.stands k n b.3;
      untold = A.untold k n b.3;
      dies = A.dead k n b.3;
    }

-- no name waits that stands nowhere, or at the core itself, or was told
pub none_waits : (p : Place) (m : ℕ) (v : View) (winds : Bool) (boxes : List Notices) → KeepsMail p m v winds boxes → (k n : ℕ) → (Waits p m v k n → ⊥) → has (waiting_dead boxes) k n ≡ false
none_waits p m v winds boxes M k n not = by (has (waiting_dead boxes) k n) refl where
  by : (b : Bool) → has (waiting_dead boxes) k n ≡ b → b ≡ false
  by false e = refl
  by true e = absurd (not (waits_of p m v winds boxes M k n e))

-- a name that stands at the core itself doesn't wait
pub own_told : (p : Place) (m : ℕ) (v : View) (winds : Bool) (boxes : List Notices) → KeepsMail p m v winds boxes → (k n : ℕ) → v.present k n ≡ Some m → cond (has (waiting_dead boxes) k n) true (v.told k n) ≡ true → v.told k n ≡ true
own_told p m v winds boxes M k n here t =
    let off = none_waits p m v winds boxes M k n (λ x. x.other (let there = x.stands in let both : Some x.to ≡ Some m = sym there ∙ here in cc both)) in
    sym (ap (λ (b : Bool). cond b true (v.told k n)) off) ∙ t

-- the two rules, by what the index has as told
abbrev pub told_by : List EntryName → (ℕ → ℕ → Bool) → ℕ → ℕ → Bool
told_by all told k n = cond (has all k n) true (told k n)

told_more : (b t x : Bool) (Y : Type 0) → (t ≡ true) ↔ ((x ≡ true) ⊎ Y) → (cond b true t ≡ true) ↔ ((cond b true x ≡ true) ⊎ Y)
told_more true t x Y e = (λ is. inl refl, λ is. refl)
told_more false t x Y e = e

pub mail_tidy : (p : Place) (m : ℕ) (v : View) (all : List EntryName) (last : ℕ → ℕ) (told dead : ℕ → ℕ → Bool) → IsTidyIn p m v last told dead → IsTidyIn p m (mailing all v) last (told_by all told) dead
mail_tidy p m v all last told dead T = record {
  forgets = T.forgets;
  keeps = T.keeps;
  tells = λ k n. told_more (has all k n) (told k n) (v.told k n) (TellsItselfIn p m v k n) (T.tells k n);
  learns = T.learns;
}

-- nothing waits at the beginning
pub none_waiting : (boxes : List Notices) → AllByRecursion TellsNothing boxes → waiting_dead boxes ≡ []
none_waiting [] all = refl
none_waiting (x ∷ xs) all = ap (λ (ns : List EntryName). ns ++ waiting_dead xs) all.0.0 ∙ none_waiting xs all.1

pub knows_none : (p : Place) (v : View) (boxes : List Notices) (k : ℕ) (o : Option KeyRecord) → AllByRecursion TellsNothing boxes → KnowsKey p v k o → KnowsKey p (mailing (waiting_dead boxes) v) k o
knows_none p v boxes k o all K = subst (λ (ns : List EntryName). KnowsKey p (mailing ns v) k o) (sym (none_waiting boxes all)) K

all_get : (P : Notices → Type 0) (boxes : List Notices) → AllByRecursion P boxes → (h : ℕ) (n : Notices) → slice_get boxes h ≡ Some n → P n
all_get P [] all h n is = absurd (cc is)
all_get P (x ∷ xs) all zero n is = (let same : x ≡ n = cc is in subst P same all.0)
all_get P (x ∷ xs) all (suc h) n is = all_get P xs all.1 h n is

pub mail_new : (p : Place) (m : ℕ) (v : View) (winds : Bool) (boxes : List Notices) → length boxes ≡ members p → AllByRecursion TellsNothing boxes → AllByRecursion HasSpare boxes → KeepsMail p m v winds boxes
mail_new p m v winds boxes count none spare = record {
  count = count;
  each = λ h n is. nothing_sends p m h v n (all_get TellsNothing boxes none h n is);
  own = λ n is. all_get TellsNothing boxes none m n is;
  spare = λ on h n is. all_get HasSpare boxes spare h n is;
}
