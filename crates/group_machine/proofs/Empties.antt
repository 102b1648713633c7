-- The state with empty views is the opened state of an empty region.
use Rattle.std.proofs.Common.{◌≡◌, ℕ, zero, suc, false, List, [], ◌∷◌, ◌++◌, Option, Some, None, unwrap_or, inl, inr, refl, ap, subst}
use Rattle.std.specs.Prelude.{slice_get, option_map}
use Rattle.std.specs.List.{AllByRecursion}
use Rattle.std.specs.Ordering.{nat_cmp}
use Rattle.std.specs.Map.{lookup}
use Rattle.std.specs.BTreeMap.{BTreeMap, IsEmpty, get, is_at}
use Rattle.log_entry.specs.declared.entry.EntryName.{EntryName}
use Rattle.store_image.specs.Facts.{In}
use Rattle.group_laws.specs.declared.types.Slot.{Slot}
use Rattle.group_laws.specs.declared.types.Slot.TheVariants.{Empty}
use Rattle.group_laws.specs.Places.{Place, IsPlace, members, owner}
use Rattle.group_laws.specs.Updates.{has}
use Rattle.group_laws.specs.State.{Group}
use Rattle.group_laws.specs.Tidying.{Tidied}
use Rattle.group_laws.specs.Invariant.{Lawful}
use Rattle.group_laws.specs.Opening.{IsSound, IsFound, AllTidied, IsOpened, nothing}
use Rattle.group_laws.proofs.Clients.{opened as laws_opened}
use Rattle.group_board.specs.declared.names.Notices.{Notices}
use Rattle.group_machine.specs.declared.state.MemberView.{MemberView}
use Rattle.group_board.specs.Mailing.{notices_of}
use Rattle.group_machine.specs.Shows.{pair_cmp, of, last_in, group_at, IsEmptyView}

pub all_push : (vs : List MemberView) (v : MemberView) → AllByRecursion IsEmptyView vs → IsEmptyView v → AllByRecursion IsEmptyView (vs ++ v ∷ [])
all_push [] v all is = (is, tt)
all_push (x ∷ vs) v all is = (all.0, all_push vs v all.1 is)

pub read : {X : Type 0} (f : MemberView → X) (d : X) → ((v : MemberView) → IsEmptyView v → f v ≡ d) → (vs : List MemberView) → AllByRecursion IsEmptyView vs → (h : ℕ) → of f d (slice_get vs h) ≡ d
read f d is [] all h = refl
read f d is (v ∷ vs) all zero = is v all.0
read f d is (v ∷ vs) all (suc h) = read f d is vs all.1 h

pub nothing_at : {X : Type 0} (m : BTreeMap ℕ X) → IsEmpty m → (k : ℕ) → get nat_cmp m k ≡ None
nothing_at m e k = ap (lookup (is_at (nat_cmp k))) e

pub none_at : {X : Type 0} (m : BTreeMap (ℕ × ℕ) X) → IsEmpty m → (k n : ℕ) → get pair_cmp m (k, n) ≡ None
none_at m e k n = ap (lookup (is_at (pair_cmp (k, n)))) e

clash : {A X : Type 0} {o : Option X} {x : X} → o ≡ None → o ≡ Some x → A
clash n s = absurd (cc (n, s))

module _ (p : Place) (place : IsPlace p) (slots : BTreeMap (ℕ × ℕ) Slot) (mail : BTreeMap (ℕ × ℕ) Notices) (vs : List MemberView) (no_slots : IsEmpty slots) (no_mail : IsEmpty mail) (all : AllByRecursion IsEmptyView vs) where
  abbrev w : Group
  w = group_at p None slots mail vs

  kept : (h : ℕ) → w.kept h ≡ []
  kept h = read (λ v. v.kept.items) [] (λ v e. e.kept) vs all h

  last : (k : ℕ) → w.last k ≡ 0
  last k = read (λ v. last_in v k) 0 (λ v e. ap (λ (o : Option ℕ). unwrap_or o 0) (nothing_at v.last e.last k)) vs all (owner p k)

  cell : (k : ℕ) → w.cell k ≡ None
  cell k = read (λ v. get nat_cmp v.cell k) None (λ v e. nothing_at v.cell e.cell k) vs all (owner p k)

  present : (k n : ℕ) → w.present k n ≡ None
  present k n = read (λ v. get pair_cmp v.present (k, n)) None (λ v e. none_at v.present e.present k n) vs all (owner p k)

  blocks : (h q : ℕ) → w.blocks h q ≡ None
  blocks h q = read (λ v. get nat_cmp v.blocks q) None (λ v e. nothing_at v.blocks e.blocks q) vs all h

  found : IsFound w nothing
  found = record {
    place = place;
    holder = refl;
    slot = λ m s. ap (λ (o : Option Slot). unwrap_or o Empty) (none_at slots no_slots m s);
    mail = λ a b. ap (option_map notices_of) (none_at mail no_mail a b);
    kept = λ h e. (λ i. absurd (subst (In e) (kept h) i), λ t. absurd (cc t));
    flying = λ h. read (λ v. v.flying.items) [] (λ v e. e.flying) vs all h;
    taken = λ h a s. read (λ v. get pair_cmp v.taken (a, s)) None (λ v e. none_at v.taken e.taken a s) vs all h;
    broken = λ h. read (λ v. v.broken) false (λ v e. e.broken) vs all h;
    holds = λ h. read (λ v. v.holds) false (λ v e. e.holds) vs all h;
    looked = λ h. read (λ v. v.looked.items) [] (λ v e. e.looked) vs all h;
    last = λ k. inl (λ d f t i. cc t, last k, cell k);
    pending = λ k. read (λ v. get nat_cmp v.pending k) None (λ v e. nothing_at v.pending e.pending k) vs all (owner p k);
    present = λ k n h. (λ t. clash (present k n) t, λ t. absurd (let f = t.1 in cc f));
    told = λ k n. read (λ v. has v.told.items k n) false (λ v e. ap (λ (xs : List EntryName). has xs k n) e.told) vs all (owner p k);
    dead = λ h k n. read (λ v. has v.dead.items k n) false (λ v e. ap (λ (xs : List EntryName). has xs k n) e.dead) vs all h;
    doomed = λ h k n. read (λ v. has v.doomed.items k n) false (λ v e. ap (λ (xs : List EntryName). has xs k n) e.doomed) vs all h;
    leaving = λ h k n. read (λ v. has v.leaving.items k n) false (λ v e. ap (λ (xs : List EntryName). has xs k n) e.leaving) vs all h;
    blocks = λ m q b. (λ t. clash (blocks m q) t, λ t. absurd (let f = t.1.stands in cc f));
    posted = λ h. read (λ v. v.posted.items) [] (λ v e. e.posted) vs all h;
    took = λ h. read (λ v. v.took.items) [] (λ v e. e.took) vs all h;
  }

  tidy : (m : ℕ) → Tidied w m w
  tidy m = (
    w.last,
    w.told,
    w.dead,
    record {
      forgets = λ k s. last k;
      keeps = λ k. inr refl;
      tells = λ k n. (λ t. inl t, λ q. elim q [ inl t ↦ t | inr itself ↦ clash (present k n) itself.1 ]);
      learns = λ h k n. (λ t. inl t, λ q. elim q [ inl t ↦ t | inr itself ↦ clash (present k n) itself.1.1 ]);
    },
    refl,
  )

  all_tidy : (n : ℕ) → AllTidied n w w
  all_tidy zero = refl
  all_tidy (suc n) = (w, all_tidy n, tidy n)

  pub opened : IsOpened w nothing
  opened = (w, found, all_tidy (members p))

  sound : IsSound p nothing
  sound = record {
    group = λ h e t. absurd (cc t);
    from_one = λ h e t. absurd (cc t);
    one_body = λ h i e f t. absurd (cc t);
    block = λ k q e W. absurd (let f = W.stands in cc f);
    lies = λ m q v t. absurd (cc t);
    apart = λ m q r v u t. absurd (cc t);
    one_key = λ k l q e f W. absurd (let f = W.stands in cc f);
  }

  pub lawful : Lawful w
  lawful = laws_opened w nothing sound opened
