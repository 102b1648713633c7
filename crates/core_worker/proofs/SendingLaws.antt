-- Names that are taken one after another.
use Rattle.std.proofs.Common.{◌≡◌, ◌≢◌, ⊎_elim, ℕ, ◌+◌, ◌||◌, ◌&&◌, eqb, Bool, true, false, cond, List, [], ◌∷◌, ◌++◌, Option, Some, None, option_map, is_some, refl, sym, ◌∙◌, ap, subst, arith, append_assoc, append-nil, length-append}
use Rattle.std.proofs.lemmas.Bool.{cases_eq}
use Rattle.log_entry.specs.declared.entry.EntryName.{EntryName}
use Rattle.core_index.specs.Index.{known_at, all_untold, Tells}
use Rattle.core_index.specs.declared.types.StandingEntry.{StandingEntry}
use Rattle.core_index.specs.Records.{KeyRecord, standing_at, standing_of, standing_with, told_in}
use Rattle.core_index.specs.Slots as slots
use Rattle.group_laws.specs.Places.{Place, core_of, owner}
use Rattle.group_laws.specs.Updates.{has}
use Rattle.group_laws.specs.MemberViews.{View}
use Rattle.core_worker.specs.KeyTies.{KnowsKey}
use Rattle.core_worker.specs.Outbox.{mailing, AreToSend}
use Rattle.core_worker.specs.Sending.{TellsAll, TakesNames}
use Rattle.core_worker.proofs.Heard.{Hears, hears_none, hears_more}
use Rattle.core_worker.proofs.HeardNames.{stands_by}
use Rattle.core_worker.proofs.OutboxLaws.{noted, sendable}

abbrev Index : Type 0
Index = List (ℕ × slots.Place)

-- one more at the end
tells_more : (home : ℕ) (es mid ix : Index) (ns : List EntryName) (n : EntryName) → TellsAll home es ns mid → Tells mid ix home n → TellsAll home es (ns ++ n ∷ []) ix
tells_more home es mid ix [] n tells one = (ix, subst (λ (e : Index). Tells e ix home n) tells one, refl)
tells_more home es mid ix (x ∷ ns) n tells one = (tells.0, tells.1, tells_more home tells.0 mid ix ns n tells.2 one)

-- what stands stood, where names were told
pub stood_by : (home : ℕ) (es ix : Index) → Hears home es ix → (k n : ℕ) (s : StandingEntry) → standing_at (standing_of (known_at ix k)) n ≡ Some s → (t : StandingEntry) × (standing_at (standing_of (known_at es k)) n ≡ Some t)
stood_by home es ix H k n s is = ⊎_elim (λ same. (s, sym same ∙ is)) (λ other. (standing_with n home false, other.0)) (H.each k n)

pub hears_then : (home : ℕ) (first es ix : Index) (ns : List EntryName) → Hears home first es → TellsAll home es ns ix → Hears home first ix
hears_then home first es ix [] H tells = subst (Hears home first) (sym tells) H
hears_then home first es ix (n ∷ ns) H tells = hears_then home first tells.0 ix ns (hears_more home first es tells.0 n H tells.1) tells.2

pub takes_none : (home : ℕ) (es : Index) (ns : List EntryName) → TakesNames home es es ns ns
takes_none home es ns = record { names = []; list = sym (append-nil ns); tells = refl; count = omega arith }

pub takes_one : (home : ℕ) (es mid ix : Index) (old ns new : List EntryName) (n : EntryName) → TakesNames home es mid old ns → Tells mid ix home n → all_untold ix + 1 ≡ all_untold mid → new ≡ ns ++ n ∷ [] → TakesNames home es ix old new
takes_one home es mid ix old ns new n T one fewer is = record {
  names = T.names ++ n ∷ [];
  list = is ∙ ap (λ (xs : List EntryName). xs ++ n ∷ []) T.list ∙ append_assoc old T.names (n ∷ []);
  tells = tells_more home es mid ix T.names n T.tells one;
  count = (let a = T.count in let b = length-append T.names (n ∷ []) in omega (arith, a, b, fewer));
}

tells_then : (home : ℕ) (es mid ix : Index) (ns ms : List EntryName) → TellsAll home es ns mid → TellsAll home mid ms ix → TellsAll home es (ns ++ ms) ix
tells_then home es mid ix [] ms a b = subst (λ (e : Index). TellsAll home e ms ix) a b
tells_then home es mid ix (x ∷ ns) ms a b = (a.0, a.1, tells_then home a.0 mid ix ns ms a.2 b)

pub takes_then : (home : ℕ) (es mid ix : Index) (old ns new : List EntryName) → TakesNames home es mid old ns → TakesNames home mid ix ns new → TakesNames home es ix old new
takes_then home es mid ix old ns new T U = record {
  names = T.names ++ U.names;
  list = U.list ∙ ap (λ (xs : List EntryName). xs ++ U.names) T.list ∙ append_assoc old T.names U.names;
  tells = tells_then home es mid ix T.names U.names T.tells U.tells;
  count = (let a = T.count in let b = U.count in let d = length-append T.names U.names in omega (arith, a, b, d));
}

-- Lists that have the same names are the same mail.
abbrev pub SameHas : List EntryName → List EntryName → Type 0
SameHas xs ys = (k n : ℕ) → has xs k n ≡ has ys k n

pub knows_by : (p : Place) (v : View) (xs ys : List EntryName) (k : ℕ) (o : Option KeyRecord) → SameHas xs ys → KnowsKey p (mailing xs v) k o → KnowsKey p (mailing ys v) k o
knows_by p v xs ys k o same K = record {
  last = K.last;
  cell = K.cell;
  present = K.present;
  told = λ i s is. ap (λ (b : Bool). cond b true (v.told k i)) (sym (same k i)) ∙ K.told i s is;
}

sends_by : (p : Place) (m to : ℕ) (v : View) (xs ys : List EntryName) → SameHas xs ys → AreToSend p m to v xs → AreToSend p m to v ys
sends_by p m to v xs ys same A = record {
  own = λ k n t. A.own k n (same k n ∙ t);
  dead = λ k n t. A.dead k n (same k n ∙ t);
  stands = λ k n t. A.stands k n (same k n ∙ t);
  untold = λ k n t. A.untold k n (same k n ∙ t);
}

or_shift : (a b c : Bool) → (a || (b || c)) ≡ (b || (a || c))
or_shift true true c = refl
or_shift true false c = refl
or_shift false b c = refl

-- one in front of a list, or behind its beginning
moved : (xs ys : List EntryName) (n : EntryName) → SameHas (n ∷ (xs ++ ys)) (xs ++ n ∷ ys)
moved [] ys n k i = refl
moved (x ∷ xs) ys n k i = or_shift (eqb n.key k && eqb n.version i) (eqb x.key k && eqb x.version i) (has (xs ++ ys) k i) ∙ ap (λ (b : Bool). (eqb x.key k && eqb x.version i) || b) (moved xs ys n k i)

known_told : (o : Option KeyRecord) (n : ℕ) → is_some (option_map (told_in n) o) ≡ is_some o
known_told None n = refl
known_told (Some r) n = refl

module _ (p : Place) (m to : ℕ) (v : View) (others : List EntryName) where
  abbrev Knows : List EntryName → Index → Type 0
  Knows ns es = (k : ℕ) → KnowsKey p (mailing (ns ++ others) v) k (known_at es k)

  abbrev Own : Index → Type 0
  Own es = (k : ℕ) → is_some (known_at es k) ≡ true → owner p k ≡ m

  -- one name is taken
  taken_one : (es ix : Index) (old : List EntryName) (n : EntryName) → Tells es ix (core_of p to) n → Knows old es → Knows (old ++ n ∷ []) ix
  taken_one es ix old n one K k =
      let there = noted p m to v (old ++ others) es ix n one k (K k) in
      let same = moved old others n in
      subst (λ (xs : List EntryName). KnowsKey p (mailing xs v) k (known_at ix k)) (sym (append_assoc old (n ∷ []) others)) (knows_by p v (n ∷ (old ++ others)) (old ++ n ∷ others) k (known_at ix k) same there)

  own_still : (es ix : Index) (n : EntryName) → Tells es ix (core_of p to) n → Own es → Own ix
  own_still es ix n one own k is = ⊎_elim
      (λ (e : k ≡ n.key). own k (ap (λ (j : ℕ). is_some (known_at es j)) e ∙ sym (known_told (known_at es n.key) n.version) ∙ ap (λ (o : Option KeyRecord). is_some o) (sym one.change.here) ∙ ap (λ (j : ℕ). is_some (known_at ix j)) (sym e) ∙ is))
      (λ (ne : k ≢ n.key). own k (ap (λ (o : Option KeyRecord). is_some o) (sym (one.change.others k ne)) ∙ is))
      (cases_eq k n.key)

  pub knows_all : (ns old : List EntryName) (es ix : Index) → TellsAll (core_of p to) es ns ix → Knows old es → Knows (old ++ ns) ix
  knows_all [] old es ix tells K = subst (λ (xs : List EntryName). Knows xs ix) (sym (append-nil old)) (subst (Knows old) (sym tells) K)
  knows_all (n ∷ ns) old es ix tells K = subst (λ (xs : List EntryName). Knows xs ix) (append_assoc old (n ∷ []) ns) (knows_all ns (old ++ n ∷ []) tells.0 ix tells.2 (taken_one es tells.0 old n tells.1 K))

  pub waits_all : (ns old : List EntryName) (es ix : Index) → TellsAll (core_of p to) es ns ix → Knows old es → Own es → AreToSend p m to v old → AreToSend p m to v (old ++ ns)
  waits_all [] old es ix tells K own A = subst (AreToSend p m to v) (sym (append-nil old)) A
  waits_all (n ∷ ns) old es ix tells K own A =
      let mine = own n.key (ap (λ (o : Option KeyRecord). is_some o) tells.1.waited.has) in
      let more = sendable p m to v (old ++ others) es tells.0 n tells.1 (K n.key) mine old A in
      let here = sends_by p m to v (n ∷ old) (old ++ n ∷ []) (λ k i. ap (λ (xs : List EntryName). has (n ∷ xs) k i) (sym (append-nil old)) ∙ moved old [] n k i) more in
      subst (AreToSend p m to v) (append_assoc old (n ∷ []) ns) (waits_all ns (old ++ n ∷ []) tells.0 ix tells.2 (taken_one es tells.0 old n tells.1 K) (own_still es tells.0 n tells.1 own) here)

  -- the same of one key, and of own keys alone
  one_at : (k : ℕ) (es ix : Index) (old : List EntryName) (n : EntryName) → Tells es ix (core_of p to) n → KnowsKey p (mailing (old ++ others) v) k (known_at es k) → KnowsKey p (mailing ((old ++ n ∷ []) ++ others) v) k (known_at ix k)
  one_at k es ix old n one K =
      let there = noted p m to v (old ++ others) es ix n one k K in
      subst (λ (xs : List EntryName). KnowsKey p (mailing xs v) k (known_at ix k)) (sym (append_assoc old (n ∷ []) others)) (knows_by p v (n ∷ (old ++ others)) (old ++ n ∷ others) k (known_at ix k) (moved old others n) there)

  pub knows_at : (k : ℕ) (ns old : List EntryName) (es ix : Index) → TellsAll (core_of p to) es ns ix → KnowsKey p (mailing (old ++ others) v) k (known_at es k) → KnowsKey p (mailing ((old ++ ns) ++ others) v) k (known_at ix k)
  knows_at k [] old es ix tells K = subst (λ (xs : List EntryName). KnowsKey p (mailing (xs ++ others) v) k (known_at ix k)) (sym (append-nil old)) (subst (λ (e : Index). KnowsKey p (mailing (old ++ others) v) k (known_at e k)) (sym tells) K)
  knows_at k (n ∷ ns) old es ix tells K = subst (λ (xs : List EntryName). KnowsKey p (mailing (xs ++ others) v) k (known_at ix k)) (append_assoc old (n ∷ []) ns) (knows_at k ns (old ++ n ∷ []) tells.0 ix tells.2 (one_at k es tells.0 old n tells.1 K))

  abbrev Mine : Index → Type 0
  Mine es = (k n : ℕ) (s : StandingEntry) → standing_at (standing_of (known_at es k)) n ≡ Some s → owner p k ≡ m

  pub waits_at : (ns old : List EntryName) (es ix : Index) → TellsAll (core_of p to) es ns ix → ((k : ℕ) → owner p k ≡ m → KnowsKey p (mailing (old ++ others) v) k (known_at es k)) → Mine es → AreToSend p m to v old → AreToSend p m to v (old ++ ns)
  waits_at [] old es ix tells K own A = subst (AreToSend p m to v) (sym (append-nil old)) A
  waits_at (n ∷ ns) old es ix tells K own A =
      let mine = own n.key n.version _ (stands_by (known_at es n.key) (core_of p to) n.version tells.1.waited) in
      let more = sendable p m to v (old ++ others) es tells.0 n tells.1 (K n.key mine) mine old A in
      let here = sends_by p m to v (n ∷ old) (old ++ n ∷ []) (λ k i. ap (λ (xs : List EntryName). has (n ∷ xs) k i) (sym (append-nil old)) ∙ moved old [] n k i) more in
      subst (AreToSend p m to v) (append_assoc old (n ∷ []) ns) (waits_at ns (old ++ n ∷ []) tells.0 ix tells.2 (λ k is. one_at k es tells.0 old n tells.1 (K k is)) (λ k i s is. let t = stood_by (core_of p to) es tells.0 (hears_more (core_of p to) es es tells.0 n (hears_none (core_of p to) es) tells.1) k i s is in own k i t.0 t.1) here)
