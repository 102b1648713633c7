-- Names are taken out of the records one after another, and then their keys are forgotten one after another.
use Rattle.std.proofs.Common.{◌≡◌, ◌≢◌, ℕ, zero, suc, ◌+◌, ◌<◌, ◌≤◌, ◌==◌, ◌&&◌, ◌||◌, not, eqb, Bool, true, false, cond, List, [], ◌∷◌, length, get_or, take, Option, Some, None, option_map, ⊎_elim, refl, sym, ◌∙◌, ap, subst, arith}
use Rattle.std.specs.List.{filter}
use Rattle.std.proofs.lemmas.Bool.{cases_eq, eq-eqb, ne_eqb, and_parts}
use Rattle.log_entry.specs.declared.entry.Entry.{Entry}
use Rattle.log_entry.specs.declared.entry.EntryName.{EntryName}
use Rattle.core_index.specs.declared.types.StandingEntry.{StandingEntry}
use Rattle.core_index.specs.Index.{all_untold, known_at, SameRoom, Changes}
use Rattle.core_index.specs.Records.{KeyRecord, is_forgettable, without}
use Rattle.core_index.specs.Slots as slots
use Rattle.group_laws.specs.Updates.{has}
use Rattle.core_worker.specs.declared.types.Place.{Place}
use Rattle.core_worker.specs.declared.types.Place.TheVariants.{Free, Staged, Posted}
use Rattle.core_worker.specs.OwnPlaces.{place_at}
use Rattle.core_worker.specs.GoneNames.{is_out, lacking, names_key, recalled, first_of, restarted, restarted_by, is_forgotten, Lacks, Forgets, ForgetsKey}

abbrev none : EntryName
none = record { key = 0; version = 0 }

or_none : (a : Bool) → (a || false) ≡ a
or_none true = refl
or_none false = refl

or_group : (a b c : Bool) → (a || (b || c)) ≡ ((a || b) || c)
or_group true b c = refl
or_group false b c = refl

-- one name of a list more
pub has_more : (ns : List EntryName) (i : ℕ) → i < length ns → (k v : ℕ) → has (take (suc i) ns) k v ≡ (has (take i ns) k v || (eqb (get_or ns i none).key k && eqb (get_or ns i none).version v))
has_more [] i lt k v = absurd (omega (arith, lt))
has_more (x ∷ xs) zero lt k v = or_none (eqb x.key k && eqb x.version v)
has_more (x ∷ xs) (suc i) lt k v =
    let rest = has_more xs i (omega (arith, lt)) k v in
    let here = eqb x.key k && eqb x.version v in
    ap (λ (b : Bool). here || b) rest ∙ or_group here (has (take i xs) k v) (eqb (get_or xs i none).key k && eqb (get_or xs i none).version v)

pub key_more : (ns : List EntryName) (i : ℕ) → i < length ns → (k : ℕ) → names_key (take (suc i) ns) k ≡ (names_key (take i ns) k || (get_or ns i none).key == k)
key_more [] i lt k = absurd (omega (arith, lt))
key_more (x ∷ xs) zero lt k = or_none (x.key == k)
key_more (x ∷ xs) (suc i) lt k =
    let rest = key_more xs i (omega (arith, lt)) k in
    ap (λ (b : Bool). (x.key == k) || b) rest ∙ or_group (x.key == k) (names_key (take i xs) k) ((get_or xs i none).key == k)

-- filters of standing entries
filter_same : (p q : StandingEntry → Bool) (ss : List StandingEntry) → ((s : StandingEntry) → p s ≡ q s) → filter p ss ≡ filter q ss
filter_same p q [] e = refl
filter_same p q (s ∷ ss) e = (λ i. cond (e s i) (s ∷ filter_same p q ss e i) (filter_same p q ss e i))

filter_all : (p : StandingEntry → Bool) (ss : List StandingEntry) → ((s : StandingEntry) → p s ≡ true) → filter p ss ≡ ss
filter_all p [] e = refl
filter_all p (s ∷ ss) e = ap (λ (b : Bool). cond b (s ∷ filter p ss) (filter p ss)) (e s) ∙ ap (λ (ts : List StandingEntry). s ∷ ts) (filter_all p ss e)

filter_both : (p q r : StandingEntry → Bool) (ss : List StandingEntry) → ((s : StandingEntry) → r s ≡ (q s && p s)) → filter p (filter q ss) ≡ filter r ss
filter_both p q r [] e = refl
filter_both p q r (s ∷ ss) e = by (q s) (p s) (r s) (filter_both p q r ss e) refl refl (e s) where
  by : (a b c : Bool) → filter p (filter q ss) ≡ filter r ss → q s ≡ a → p s ≡ b → r s ≡ (q s && p s) → filter p (cond (q s) (s ∷ filter q ss) (filter q ss)) ≡ cond (r s) (s ∷ filter r ss) (filter r ss)
  by true true c rest x y z = ap (λ (t : Bool). filter p (cond t (s ∷ filter q ss) (filter q ss))) x ∙ ap (λ (t : Bool). cond t (s ∷ filter p (filter q ss)) (filter p (filter q ss))) y ∙ ap (λ (ts : List StandingEntry). s ∷ ts) rest ∙ sym (ap (λ (t : Bool). cond t (s ∷ filter r ss) (filter r ss)) (z ∙ (λ i. x i && y i)))
  by true false c rest x y z = ap (λ (t : Bool). filter p (cond t (s ∷ filter q ss) (filter q ss))) x ∙ ap (λ (t : Bool). cond t (s ∷ filter p (filter q ss)) (filter p (filter q ss))) y ∙ rest ∙ sym (ap (λ (t : Bool). cond t (s ∷ filter r ss) (filter r ss)) (z ∙ (λ i. x i && y i)))
  by false b c rest x y z = ap (λ (t : Bool). filter p (cond t (s ∷ filter q ss) (filter q ss))) x ∙ rest ∙ sym (ap (λ (t : Bool). cond t (s ∷ filter r ss) (filter r ss)) (z ∙ ap (λ (t : Bool). t && p s) x))

lacking_none : (k : ℕ) (o : Option KeyRecord) → o ≡ option_map (lacking [] k) o
lacking_none k None = refl
lacking_none k (Some r) = ap (λ (ss : List StandingEntry). Some (record { version = r.version; body = r.body; standing = ss })) (sym (filter_all (λ s. true) r.standing (λ s. refl)))

pub lacks_first : (es : List (ℕ × slots.Place)) → Lacks [] es es
lacks_first es = record { known = λ k. lacking_none k (known_at es k); room = λ k. refl; untold = omega arith }

module _ (ns : List EntryName) (i : ℕ) (lt : i < length ns) where
  abbrev name : EntryName
  name = get_or ns i none

  not_or : (a b : Bool) → not (a || b) ≡ (not a && not b)
  not_or true b = refl
  not_or false b = refl

  same_way : (a b : ℕ) → eqb a b ≡ (b == a)
  same_way a b = ⊎_elim (λ e. eq-eqb a b e ∙ sym (eq-eqb b a (sym e))) (λ ne. ne_eqb a b ne ∙ sym (ne_eqb b a (λ e. ne (sym e)))) (cases_eq a b)

  here : (o : Option KeyRecord) → option_map (without name.version) (option_map (lacking (take i ns) name.key) o) ≡ option_map (lacking (take (suc i) ns) name.key) o
  here None = refl
  here (Some r) = ap (λ (ss : List StandingEntry). Some (record { version = r.version; body = r.body; standing = ss }))
      (filter_both (λ s. not (s.version == name.version)) (λ s. not (has (take i ns) name.key s.version)) (λ s. not (has (take (suc i) ns) name.key s.version)) r.standing
      (λ s. ap not (has_more ns i lt name.key s.version ∙ ap (λ (b : Bool). has (take i ns) name.key s.version || (b && eqb name.version s.version)) (eq-eqb name.key name.key refl) ∙ ap (λ (b : Bool). has (take i ns) name.key s.version || b) (same_way name.version s.version))
      ∙ not_or (has (take i ns) name.key s.version) (s.version == name.version)))

  other : (k : ℕ) → k ≢ name.key → (o : Option KeyRecord) → option_map (lacking (take i ns) k) o ≡ option_map (lacking (take (suc i) ns) k) o
  other k ne None = refl
  other k ne (Some r) = ap (λ (ss : List StandingEntry). Some (record { version = r.version; body = r.body; standing = ss }))
      (filter_same (λ s. not (has (take i ns) k s.version)) (λ s. not (has (take (suc i) ns) k s.version)) r.standing
      (λ s. ap not (sym (has_more ns i lt k s.version ∙ ap (λ (b : Bool). has (take i ns) k s.version || (b && eqb name.version s.version)) (ne_eqb name.key k (λ e. ne (sym e))) ∙ or_none (has (take i ns) k s.version)))))

  pub lacks_more : (old mid new : List (ℕ × slots.Place)) → Lacks (take i ns) old mid → Changes mid new name.key (option_map (without name.version) (known_at mid name.key)) → SameRoom mid new → all_untold new ≤ all_untold mid → Lacks (take (i + 1) ns) old new
  lacks_more old mid new L C room untold = subst (λ (n : ℕ). Lacks (take n ns) old new) (let e : suc i ≡ i + 1 = omega arith in e) (record {
    known = λ k. ⊎_elim
        (λ e. subst (λ (j : ℕ). known_at new j ≡ option_map (lacking (take (suc i) ns) j) (known_at old j)) (sym e) (C.here ∙ ap (option_map (without name.version)) (L.known name.key) ∙ here (known_at old name.key)))
        (λ ne. C.others k ne ∙ L.known k ∙ other k ne (known_at old k))
        (cases_eq k name.key);
    room = λ k. room k ∙ L.room k;
    untold = (let before = L.untold in omega (arith, before, untold));
  })

-- which changes are posted is seen through
pub out_by : (test : ℕ → Bool) (xs ys : List Place) (k : ℕ) → length ys ≡ length xs → ((s : ℕ) → place_at ys s ≡ restarted_by test (place_at xs s)) → is_out ys k ≡ is_out xs k
out_by test [] [] k e at = refl
out_by test [] (y ∷ ys) k e at = absurd (omega (arith, e))
out_by test (x ∷ xs) [] k e at = absurd (omega (arith, e))
out_by test (x ∷ xs) (y ∷ ys) k e at = ap (λ (z : Place). is_out (z ∷ ys) k) (at 0) ∙ by (out_by test xs ys k (omega (arith, e)) (λ s. at (suc s))) x where
  staged : is_out ys k ≡ is_out xs k → (b : Bool) (number : ℕ) (entry : Entry) (value : List ℕ) → is_out (cond b (Staged number (first_of entry) value) (Staged number entry value) ∷ ys) k ≡ is_out xs k
  staged rest true number entry value = rest
  staged rest false number entry value = rest

  by : is_out ys k ≡ is_out xs k → (z : Place) → is_out (restarted_by test z ∷ ys) k ≡ is_out (z ∷ xs) k
  by rest Free = rest
  by rest (Staged number entry value) = staged rest (test entry.key) number entry value
  by rest (Posted number key lines) = ap (λ (b : Bool). cond (k == key) true b) rest

pub forgets_first : (ps : List Place) (es : List (ℕ × slots.Place)) → Forgets [] ps ps es es
forgets_first ps es = record { known = λ k. refl; room = λ k. refl; untold = omega arith; count = refl; places = λ s. by (place_at ps s) } where
  by : (x : Place) → x ≡ restarted_by (is_forgotten [] ps es) x
  by Free = refl
  by (Staged number entry value) = refl
  by (Posted number key lines) = refl

module _ (ns : List EntryName) (i : ℕ) (lt : i < length ns) (ps mids qs : List Place) (old mid new : List (ℕ × slots.Place)) (F : Forgets (take i ns) ps mids old mid) (K : ForgetsKey (get_or ns i none).key mids qs mid new) where
  abbrev key : ℕ
  key = (get_or ns i none).key

  abbrev was : ℕ → Bool
  was = is_forgotten (take i ns) ps old

  abbrev is : ℕ → Bool
  is = is_forgotten (take (suc i) ns) ps old

  -- whether it is to be forgotten, as it was at first
  abbrev may : Bool
  may = is_forgettable (known_at old key) && not (is_out ps key)

  out_same : is_out mids key ≡ is_out ps key
  out_same = out_by was ps mids key F.count F.places

  is_here : is key ≡ may
  is_here = ap (λ (b : Bool). b && may) (key_more ns i lt key ∙ ap (λ (b : Bool). names_key (take i ns) key || b) (eq-eqb key key refl) ∙ by (names_key (take i ns) key)) where
    by : (b : Bool) → (b || true) ≡ true
    by true = refl
    by false = refl

  is_other : (k : ℕ) → k ≢ key → is k ≡ was k
  is_other k ne = ap (λ (b : Bool). b && (is_forgettable (known_at old k) && not (is_out ps k))) (key_more ns i lt k ∙ ap (λ (b : Bool). names_key (take i ns) k || b) (ne_eqb key k (λ e. ne (sym e))) ∙ or_none (names_key (take i ns) k))

  -- what was forgotten may be
  was_may : was key ≡ true → may ≡ true
  was_may e = (and_parts (names_key (take i ns) key) may e).1

  -- whether this key is forgotten now
  abbrev now : Bool
  now = is_forgettable (known_at mid key) && not (is_out mids key)

  now_else : was key ≡ true → now ≡ false
  now_else e = ap (λ (o : Option KeyRecord). is_forgettable o && not (is_out mids key)) (F.known key ∙ ap (λ (b : Bool). cond b None (known_at old key)) e)

  now_is : was key ≡ false → now ≡ may
  now_is e = ap (λ (o : Option KeyRecord). is_forgettable o && not (is_out mids key)) (F.known key ∙ ap (λ (b : Bool). cond b None (known_at old key)) e) ∙ ap (λ (b : Bool). is_forgettable (known_at old key) && not b) out_same

  known_here : known_at new key ≡ cond (is key) None (known_at old key)
  known_here = K.known key ∙ ap (λ (b : Bool). cond b (recalled (is_out mids key) (known_at mid key)) (known_at mid key)) (eq-eqb key key refl) ∙ by (was key) refl where
    by : (b : Bool) → was key ≡ b → recalled (is_out mids key) (known_at mid key) ≡ cond (is key) None (known_at old key)
    by true e = ap (λ (b : Bool). cond b None (known_at mid key)) (now_else e) ∙ (F.known key ∙ ap (λ (b : Bool). cond b None (known_at old key)) (e ∙ sym (is_here ∙ was_may e)))
    by false e = (λ t. cond (now_is e t) None ((F.known key ∙ ap (λ (b : Bool). cond b None (known_at old key)) e) t)) ∙ ap (λ (b : Bool). cond b None (known_at old key)) (sym is_here)

  known_other : (k : ℕ) → k ≢ key → known_at new k ≡ cond (is k) None (known_at old k)
  known_other k ne = K.known k ∙ ap (λ (b : Bool). cond b (recalled (is_out mids key) (known_at mid key)) (known_at mid k)) (ne_eqb k key ne) ∙ F.known k ∙ ap (λ (b : Bool). cond b None (known_at old k)) (sym (is_other k ne))

  -- a place that may change
  abbrev then : Place → Place
  then x = cond now (restarted key x) x

  same_then : (x : Place) → restarted key x ≡ x → then x ≡ x
  same_then x e = by now where
    by : (b : Bool) → cond b (restarted key x) x ≡ x
    by true = e
    by false = refl

  abbrev staged_by : Bool → ℕ → Entry → List ℕ → Place
  staged_by b number e value = cond b (Staged number (first_of e) value) (Staged number e value)

  -- a staged change of this key
  staged_here : (number : ℕ) (e : Entry) (value : List ℕ) → e.key ≡ key → then (staged_by (was e.key) number e value) ≡ staged_by (is e.key) number e value
  staged_here number e value same = by (was key) refl where
    by : (b : Bool) → was key ≡ b → then (staged_by (was e.key) number e value) ≡ staged_by (is e.key) number e value
    by true w =
        let first : was e.key ≡ true = ap was same ∙ w in
        let last : is e.key ≡ true = ap is same ∙ is_here ∙ was_may w in
        ap (λ (b : Bool). cond b (restarted key (staged_by (was e.key) number e value)) (staged_by (was e.key) number e value)) (now_else w) ∙ ap (λ (b : Bool). staged_by b number e value) (first ∙ sym last)
    by false w =
        let first : was e.key ≡ false = ap was same ∙ w in
        let last : now ≡ is e.key = now_is w ∙ sym is_here ∙ sym (ap is same) in
        let turned : restarted key (Staged number e value) ≡ Staged number (first_of e) value = ap (λ (b : Bool). staged_by b number e value) (eq-eqb key e.key (sym same)) in
        ap (λ (b : Bool). then (staged_by b number e value)) first ∙ (λ t. cond (last t) (turned t) (Staged number e value))

  staged_other : (number : ℕ) (e : Entry) (value : List ℕ) → e.key ≢ key → then (staged_by (was e.key) number e value) ≡ staged_by (is e.key) number e value
  staged_other number e value ne = same_then (staged_by (was e.key) number e value) (by (was e.key)) ∙ ap (λ (b : Bool). staged_by b number e value) (sym (is_other e.key ne)) where
    by : (b : Bool) → restarted key (staged_by b number e value) ≡ staged_by b number e value
    by true = ap (λ (b : Bool). cond b (Staged number (first_of (first_of e)) value) (Staged number (first_of e) value)) (ne_eqb key e.key (λ x. ne (sym x)))
    by false = ap (λ (b : Bool). staged_by b number e value) (ne_eqb key e.key (λ x. ne (sym x)))

  place_now : (x : Place) → then (restarted_by was x) ≡ restarted_by is x
  place_now Free = same_then Free refl
  place_now (Staged number e value) = ⊎_elim (λ same. staged_here number e value same) (λ ne. staged_other number e value ne) (cases_eq e.key key)
  place_now (Posted number k lines) = same_then (Posted number k lines) refl

  pub forgets_more : Forgets (take (i + 1) ns) ps qs old new
  forgets_more = subst (λ (n : ℕ). Forgets (take n ns) ps qs old new) (let e : suc i ≡ i + 1 = omega arith in e) (record {
    known = λ k. ⊎_elim (λ e. subst (λ (j : ℕ). known_at new j ≡ cond (is j) None (known_at old j)) (sym e) known_here) (λ ne. known_other k ne) (cases_eq k key);
    room = λ k. K.room k ∙ F.room k;
    untold = (let before = F.untold in let now = K.untold in omega (arith, before, now));
    count = K.count ∙ F.count;
    places = λ s. K.places s ∙ ap then (F.places s) ∙ place_now (place_at ps s);
  })
