-- What a core has to tell is made ready member by member.
use Rattle.std.proofs.Common.{◌≡◌, ◌≢◌, inl, inr, ⊎_elim, ℕ, zero, suc, ◌+◌, ◌<◌, ◌≤◌, ◌||◌, ◌&&◌, eqb, Bool, true, false, cond, List, [], ◌∷◌, ◌++◌, length, Option, Some, None, refl, sym, ◌∙◌, ap, subst, arith, append_assoc, append-nil, length-append}
use Rattle.std.specs.Prelude.{slice_get}
use Rattle.std.proofs.lemmas.Bool.{cases_eq, cases_lt, eqb-true, and_parts}
use Rattle.std.proofs.lemmas.Option.{slice_get_within}
use Rattle.log_entry.specs.declared.entry.EntryName.{EntryName}
use Rattle.core_index.specs.Index.{known_at}
use Rattle.core_index.specs.Records.{Awaits}
use Rattle.core_index.specs.Slots as slots
use Rattle.core_index.specs.declared.types.StandingEntry.{StandingEntry}
use Rattle.group_board.specs.declared.names.Notices.{Notices}
use Rattle.group_board.specs.declared.names.Names.{Names}
use Rattle.group_laws.specs.Places.{Place, core_of}
use Rattle.group_laws.specs.Updates.{has}
use Rattle.core_worker.specs.declared.worker.Worker.{Worker}
use Rattle.core_worker.specs.CleaningLeft.{clears_left}
use Rattle.core_worker.specs.Left.{left}
use Rattle.core_worker.specs.Readying.{AddsDead, TellsSome, TakesDead, Readies}
use Rattle.core_worker.specs.Sending.{IsReadyFor, NoneAwaits, TakesAt, TakesNames, TellsAll}
use Rattle.core_worker.proofs.Heard.{Hears, hears_none, hears_more}
use Rattle.core_worker.proofs.HeardNames.{stands_by, dies_by, awaits_by}
use Rattle.core_worker.proofs.ListedNames.{has_append}
use Rattle.core_worker.proofs.SendingLaws.{hears_then}
use Rattle.core_worker.proofs.SentMail.{box_less}

abbrev Index : Type 0
Index = List (ℕ × slots.Place)

flag : Option StandingEntry → Option Bool
flag None = None
flag (Some s) = Some s.told

-- what awaits now awaited before
pub awaited_before : (es ix : Index) → TellsSome es ix → (home k n : ℕ) → Awaits (known_at ix k) home n → Awaits (known_at es k) home n
unfolding flag
awaited_before es ix T home k n a =
    let at = stands_by (known_at ix k) home n a in
    let dies = sym (T.dead k n) ∙ dies_by (known_at ix k) home n a in
    ⊎_elim
    (λ same. awaits_by (known_at es k) home n (sym same ∙ at) dies)
    (λ now. absurd (let two : Some true ≡ Some false = ap flag (sym now.2 ∙ at) in cc two))
    (T.each k n)

pub tells_nothing : (es : Index) → TellsSome es es
tells_nothing es = record { changes = λ k. refl; dead = λ k n. refl; each = λ k n. inl refl; room = λ k. refl }

tells_heard : (home : ℕ) (es ix : Index) → Hears home es ix → TellsSome es ix
tells_heard home es ix H = record {
  changes = H.changes;
  dead = H.dead;
  each = λ k n. ⊎_elim (λ same. inl same) (λ t. inr (home, awaits_by (known_at es k) home n t.0 t.1, t.2)) (H.each k n);
  room = H.room;
}

tells_on : (es mid ix : Index) → TellsSome es mid → TellsSome mid ix → TellsSome es ix
tells_on es mid ix T U = record {
  changes = λ k. U.changes k ∙ T.changes k;
  dead = λ k n. U.dead k n ∙ T.dead k n;
  each = λ k n. ⊎_elim
      (λ same. ⊎_elim (λ s. inl (same ∙ s)) (λ t. inr (t.0, t.1, same ∙ t.2)) (T.each k n))
      (λ u. inr (u.0, awaited_before es mid T u.0 k n u.1, u.2))
      (U.each k n);
  room = λ k. U.room k ∙ T.room k;
}

-- all that is told awaited
names_awaited : (home : ℕ) (ns : List EntryName) (es ix : Index) → TellsAll home es ns ix → (k n : ℕ) → has ns k n ≡ true → Awaits (known_at es k) home n
names_awaited home [] es ix tells k n is = absurd (cc is)
names_awaited home (x ∷ ns) es ix tells k n is = by (eqb x.key k && eqb x.version n) refl is (λ more. names_awaited home ns tells.0 ix tells.2 k n more) where
  by : (b : Bool) → (eqb x.key k && eqb x.version n) ≡ b → (b || has ns k n) ≡ true → (has ns k n ≡ true → Awaits (known_at tells.0 k) home n) → Awaits (known_at es k) home n
  by true here more later =
      let parts = and_parts (eqb x.key k) (eqb x.version n) here in
      subst (λ (j : ℕ). Awaits (known_at es j) home n) (eqb-true x.key k parts.0)
      (subst (λ (j : ℕ). Awaits (known_at es x.key) home j) (eqb-true x.version n parts.1) tells.1.waited)
  by false here more later = awaited_before es tells.0 (tells_heard home es tells.0 (hears_more home es es tells.0 x (hears_none home es) tells.1)) home k n (later more)

adds_none : (home : ℕ) (es : Index) (old new : Notices) → new ≡ old → AddsDead home es old new
adds_none home es old new same = record {
  names = [];
  dead = ap (λ (x : Notices). x.dead.names) same ∙ sym (append-nil old.dead.names);
  gone = ap (λ (x : Notices). x.gone) same;
  awaited = λ k n is. absurd (cc is);
}

adds_on : (home : ℕ) (es mid : Index) (a b c : Notices) → TellsSome es mid → AddsDead home es a b → AddsDead home mid b c → AddsDead home es a c
adds_on home es mid a b c T A B = record {
  names = A.names ++ B.names;
  dead = B.dead ∙ ap (λ (xs : List EntryName). xs ++ B.names) A.dead ∙ append_assoc a.dead.names A.names B.names;
  gone = B.gone ∙ A.gone;
  awaited = λ k n is. by k n (has A.names k n) refl (sym (has_append A.names B.names k n) ∙ is);
} where
  by : (k n : ℕ) (x : Bool) → has A.names k n ≡ x → (has A.names k n || has B.names k n) ≡ true → Awaits (known_at es k) home n
  by k n true e is = A.awaited k n e
  by k n false e is = awaited_before es mid T home k n (B.awaited k n (sym (ap (λ (x : Bool). x || has B.names k n) e) ∙ is))

box_there : (xs : List Notices) (h : ℕ) → h < length xs → (n : Notices) × (slice_get xs h ≡ Some n)
box_there [] h lt = absurd (omega (arith, lt))
box_there (x ∷ xs) zero lt = (x, refl)
box_there (x ∷ xs) (suc h) lt = box_there xs h (omega (arith, lt))

same_box : (xs : List Notices) (h : ℕ) (a b : Notices) → slice_get xs h ≡ Some a → slice_get xs h ≡ Some b → b ≡ a
same_box xs h a b one two = (let both : Some b ≡ Some a = sym two ∙ one in cc both)

pub takes_nothing : (p : Place) (w : Worker) → TakesDead p w w
takes_nothing p w = record {
  boxes = λ h old new was now. adds_none (core_of p h) w.index old new (same_box w.notices.items h old new was now);
  count = refl;
  tells = tells_nothing w.index;
  fewer = omega arith;
  same_names = refl;
  same = refl;
}

pub takes_at : (p : Place) (to : ℕ) (w y : Worker) → TakesAt (core_of p to) to w y → TakesDead p w y
takes_at p to w y X =
    let heard = hears_then (core_of p to) w.index w.index y.index X.takes.names (hears_none (core_of p to) w.index) X.takes.tells in
    let boxes = box_less w.notices.items y.notices.items to X.old X.new X.count X.was X.now X.others in
    let more = ap (λ (xs : List EntryName). length xs) X.takes.list in
    let longer = length-append X.old.dead.names X.takes.names in
    let gone = ap (λ (g : Names). length g.names) X.gone in
    let taken = X.takes.count in
    record {
      boxes = λ h old new was now. elim (cases_eq h to) [
        | inl here ↦
            let a : old ≡ X.old = same_box w.notices.items h X.old old (ap (slice_get w.notices.items) here ∙ X.was) was in
            let b : new ≡ X.new = same_box y.notices.items h X.new new (ap (slice_get y.notices.items) here ∙ X.now) now in
            record {
              names = X.takes.names;
              dead = ap (λ (x : Notices). x.dead.names) b ∙ X.takes.list ∙ ap (λ (x : Notices). x.dead.names ++ X.takes.names) (sym a);
              gone = ap (λ (x : Notices). x.gone) b ∙ X.gone ∙ ap (λ (x : Notices). x.gone) (sym a);
              awaited = λ k n is. subst (λ (j : ℕ). Awaits (known_at w.index k) (core_of p j) n) (sym here) (names_awaited (core_of p to) X.takes.names w.index y.index X.takes.tells k n is);
            }
        | inr ne ↦ adds_none (core_of p h) w.index old new (same_box w.notices.items h old new was (sym (X.others h ne) ∙ now))
      ];
      count = X.count;
      tells = tells_heard (core_of p to) w.index y.index heard;
      fewer = omega (arith, taken);
      same_names = omega (arith, boxes, more, longer, gone, taken);
      same = X.same;
    }

pub takes_on : (p : Place) (w y x : Worker) → TakesDead p w y → TakesDead p y x → TakesDead p w x
takes_on p w y x T U = record {
  boxes = λ h old new was now.
      let low = slice_get_within w.notices.items h old was in
      let count = T.count in
      let mid = box_there y.notices.items h (omega (arith, low, count)) in
      adds_on (core_of p h) w.index y.index old mid.0 new T.tells (T.boxes h old mid.0 was mid.1) (U.boxes h mid.0 new mid.1 now);
  count = U.count ∙ T.count;
  tells = tells_on w.index y.index x.index T.tells U.tells;
  fewer = (let a = T.fewer in let b = U.fewer in omega (arith, a, b));
  same_names = U.same_names ∙ T.same_names;
  same = U.same ∙ ap (λ (z : Worker). record z { index = x.index; notices = x.notices; winds_down = x.winds_down }) T.same;
}

-- The list of boxes may be another one with the same in it.
pub takes_same : (home to : ℕ) (w y x : Worker) → TakesAt home to w y → x ≡ record y { notices = x.notices; winds_down = x.winds_down } → x.notices.items ≡ y.notices.items → TakesAt home to w x
takes_same home to w y x X same boxes = record {
  old = X.old;
  new = X.new;
  was = X.was;
  now = ap (λ (ns : List Notices). slice_get ns to) boxes ∙ X.now;
  others = λ h ne. ap (λ (ns : List Notices). slice_get ns h) boxes ∙ X.others h ne;
  count = ap (λ (ns : List Notices). length ns) boxes ∙ X.count;
  takes = subst (λ (ix : Index). TakesNames home w.index ix X.old.dead.names X.new.dead.names) (sym (ap (λ (z : Worker). z.index) same)) X.takes;
  gone = X.gone;
  same = same ∙ ap (λ (z : Worker). record z { notices = x.notices; winds_down = x.winds_down }) X.same
      ∙ (λ i. record w { index = sym (ap (λ (z : Worker). z.index) same) i; notices = x.notices; winds_down = x.winds_down });
}

pub ready_same : (home to : ℕ) (w y x : Worker) → IsReadyFor home to w y → x ≡ record y { notices = x.notices } → x.notices.items ≡ y.notices.items → IsReadyFor home to w x
ready_same home to w y x R same boxes = record {
  none = subst (λ (ix : Index). NoneAwaits home ix) (sym (ap (λ (z : Worker). z.index) same)) R.none;
  spare = λ n is. R.spare n (sym (ap (λ (ns : List Notices). slice_get ns to) boxes) ∙ is);
  works = ap (λ (z : Worker). z.winds_down) same ∙ R.works;
}

pub ready_none : (p : Place) (m : ℕ) (w : Worker) → Readies p m 0 w w
ready_none p m w = record { takes = takes_nothing p w; none = λ h lt. absurd (omega (arith, lt)); works = refl }

none_later : (p : Place) (m upto : ℕ) (y x : Worker) → TellsSome y.index x.index → ((h : ℕ) → h < upto → h ≢ m → NoneAwaits (core_of p h) y.index) → (h : ℕ) → h < upto → h ≢ m → NoneAwaits (core_of p h) x.index
none_later p m upto y x T none h lt ne n a = none h lt ne n (awaited_before y.index x.index T (core_of p h) n.key n.version a)

-- one member more
pub ready_more : (p : Place) (m to : ℕ) (w y x : Worker) → Readies p m to w y → TakesAt (core_of p to) to y x → IsReadyFor (core_of p to) to y x → Readies p m (to + 1) w x
ready_more p m to w y x R X I = record {
  takes = takes_on p w y x R.takes (takes_at p to y x X);
  none = λ h lt ne. ⊎_elim
      (λ low. none_later p m to y x (takes_at p to y x X).tells R.none h low ne)
      (λ high. let here : to ≡ h = omega (arith, lt, high) in subst (λ (j : ℕ). NoneAwaits (core_of p j) x.index) here I.none)
      (cases_lt h to);
  works = I.works ∙ R.works;
}

-- the core itself
pub ready_beside : (p : Place) (m to : ℕ) (w y x : Worker) → Readies p m to w y → to ≡ m → x ≡ y → Readies p m (to + 1) w x
ready_beside p m to w y x R mine same = subst (λ (z : Worker). Readies p m (to + 1) w z) (sym same) (record {
  takes = R.takes;
  none = λ h lt ne. ⊎_elim
      (λ low. R.none h low ne)
      (λ high. absurd (ne (let here : h ≡ to = omega (arith, lt, high) in here ∙ mine)))
      (cases_lt h to);
  works = R.works;
})

-- There is no more to do than before; and less where the core winds down for want of memory.
pub takes_low : (p : Place) (w y : Worker) → TakesDead p w y → y.winds_down ≡ w.winds_down → left y ≤ left w
unfolding clears_left
takes_low p w y T works =
    let names = T.same_names in
    let fewer = T.fewer in
    let same = ap left T.same in
    let winds = ap (λ (b : Bool). cond {A = ℕ} b 0 1) works in
    omega (arith, names, fewer, same, winds)

pub winds_low : (p : Place) (w y : Worker) → TakesDead p w y → w.winds_down ≡ false → y.winds_down ≡ true → left y < left w
unfolding clears_left
winds_low p w y T works winds =
    let names = T.same_names in
    let fewer = T.fewer in
    let same = ap left T.same in
    let on = ap (λ (b : Bool). cond {A = ℕ} b 0 1) works in
    let off = ap (λ (b : Bool). cond {A = ℕ} b 0 1) winds in
    omega (arith, names, fewer, same, on, off)
