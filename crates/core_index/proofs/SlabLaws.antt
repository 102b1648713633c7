-- The slots of all keys by rising key, whatever the order in which a map keeps them.
use Rattle.std.proofs.Common.{◌≡◌, ◌≢◌, ⊎_elim, ℕ, ◌&&◌, nat_eq, Bool, true, false, cond, List, [], ◌∷◌, ◌++◌, Bor, Option, Some, None, refl, sym, ◌∙◌, ap, subst}
use Rattle.std.specs.Prelude.{T, IfSome, IsSome, is_some}
use Rattle.std.specs.Option.{option_copied}
use Rattle.std.specs.HashMap.{HashMap, get_by, UpdatesBy, WritesThrough}
use Rattle.std.proofs.lemmas.Cmp.{eq_by_cmp_equiv}
use Rattle.std.proofs.lemmas.Map.{lookup-remove_entry}
use Rattle.std.proofs.lemmas.Map.Steps.{set_value_same}
use Rattle.std.proofs.lemmas.Map.Keys.{IsDistinct-from_sorted, IsDistinct-head, IsDistinct-tail}
use Rattle.std.specs.Ordering.{nat_cmp, is_eq, is_lt, match_ordering}
use Rattle.std.specs.declared.cmp.Ordering.{Ordering}
use Rattle.std.specs.declared.cmp.Ordering.TheVariants.{Less, Equal, Greater}
use Rattle.std.specs.Cmp.{unsigned_tied, nat_cmp_total}
use Rattle.std.specs.BTreeMap.{is_at, insert_entry}
use Rattle.std.specs.FinMap.{entries, from_entries, entries_sorted, get-entries, get-from_entries, entries-insert, nat_cmp-IsAntisymmetric, find, put, is_sorted}
use Rattle.std.specs.FinMap.Entries.{same_entries, is_sorted-put, find-put, by_order, below_all}
use Rattle.std.specs.List.{AllByRecursion, IsDistinct}
use Rattle.std.specs.List.Sorted.{IsPermutation, IsStrictlySortedBy}
use Rattle.std.proofs.lemmas.List.{append_assoc}
use Rattle.std.proofs.lemmas.List.Sorted.{IsPermutation-refl, IsPermutation-sym, IsPermutation-trans, IsPermutation-append_left, IsPermutation-append_right, IsPermutation-append_comm}
use Rattle.log_entry.specs.declared.entry.EntryName.{EntryName}
use Rattle.core_index.specs.Records.{live_version}
use Rattle.std.specs.Map.{keys_of, lookup, remove_entry}
use Rattle.std.proofs.lemmas.Bool.{eqb-true, eq-eqb, ne_eqb, cond-true, cond-false, cases_eq}
use Rattle.core_index.specs.Slots.{Place}
use Rattle.core_index.specs.Slabs.{by_key}
use Rattle.core_index.specs.Index.{place_at, live_name, live_names, Step}
use Rattle.core_index.proofs.StepLaws.{step_insert, step_remove}

-- What a search finds.

finds : (es : List (ℕ × Place)) (k : ℕ) → find nat_cmp k es ≡ place_at es k
finds [] k = refl
finds (e ∷ es) k = ap (cond (is_eq (nat_cmp k e.0)) (Some e.1)) (finds es k)

looks : (es : List (ℕ × Place)) (k : ℕ) → place_at es k ≡ lookup (nat_eq k) es
looks [] k = refl
looks (e ∷ es) k = λ i. cond (unsigned_tied k e.0 i) (Some e.1) (looks es k i)

pub found_by_key : (es : List (ℕ × Place)) (k : ℕ) → place_at (by_key es) k ≡ lookup (nat_eq k) es
unfolding by_key
found_by_key es k = sym (finds (entries (from_entries {R = nat_cmp} es)) k) ∙ sym (get-entries (from_entries {R = nat_cmp} es) k) ∙ get-from_entries nat_cmp_total es k ∙ finds es k ∙ looks es k

-- Their order.

is_less : (o : Ordering) → T (is_lt o) → o ≡ Less
is_less Less h = refl
is_less Equal h = absurd h
is_less Greater h = absurd h

first : (a b : Bool) → T (a && b) → T a
first true b h = tt
first false b h = absurd h

second : (a b : Bool) → T (a && b) → T b
second true b h = h
second false b h = absurd h

both : (a b : Bool) → T a → T b → T (a && b)
both true b p q = q
both false b p q = p

all_below : (k : ℕ) (es : List (ℕ × Place)) → T (below_all nat_cmp k es) → AllByRecursion (λ y. nat_cmp k y ≡ Less) (keys_of es)
all_below k [] h = tt
all_below k (e ∷ es) h = (is_less (nat_cmp k e.0) (first (is_lt (nat_cmp k e.0)) (below_all nat_cmp k es) h), all_below k es (second (is_lt (nat_cmp k e.0)) (below_all nat_cmp k es) h))

sorted_keys : (es : List (ℕ × Place)) → T (is_sorted nat_cmp es) → IsStrictlySortedBy nat_cmp (keys_of es)
unfolding IsStrictlySortedBy
sorted_keys [] h = tt
sorted_keys (e ∷ es) h = (all_below e.0 es (first (below_all nat_cmp e.0 es) (is_sorted nat_cmp es) h), sorted_keys es (second (below_all nat_cmp e.0 es) (is_sorted nat_cmp es) h))

in_order : (es : List (ℕ × Place)) → T (is_sorted nat_cmp (by_key es))
unfolding by_key
in_order es = entries_sorted (from_entries {R = nat_cmp} es)

pub sorted_by_key : (es : List (ℕ × Place)) → IsStrictlySortedBy nat_cmp (keys_of (by_key es))
sorted_by_key es = sorted_keys (by_key es) (in_order es)

-- two such lists in which a search finds the same
same_found : (es fs : List (ℕ × Place)) → T (is_sorted nat_cmp es) → T (is_sorted nat_cmp fs) → ((q : ℕ) → place_at es q ≡ place_at fs q) → es ≡ fs
same_found es fs one two same = same_entries nat_cmp nat_cmp_total nat_cmp-IsAntisymmetric es fs one two (λ q. finds es q ∙ same q ∙ sym (finds fs q))

pub none_by_key : by_key [] ≡ []
none_by_key = same_found (by_key []) [] (in_order []) tt (λ q. found_by_key [] q)

-- A key that gets a slot.

put_in : (es : List (ℕ × Place)) (k : ℕ) (w : Place) → insert_entry nat_cmp es k w ≡ put nat_cmp k w es
put_in [] k w = refl
put_in (e ∷ es) k w = by (nat_cmp k e.0) (put_in es k w)
  where
    by : (o : Ordering) → insert_entry nat_cmp es k w ≡ put nat_cmp k w es → match_ordering o ((k, w) ∷ e ∷ es) ((e.0, w) ∷ es) (e ∷ insert_entry nat_cmp es k w) ≡ by_order o ((k, w) ∷ e ∷ es) ((e.0, w) ∷ es) (e ∷ put nat_cmp k w es)
    by Less rest = refl
    by Equal rest = refl
    by Greater rest = ap (λ (s : List (ℕ × Place)). e ∷ s) rest

flips : (k q : ℕ) → is_at (nat_cmp q) k ≡ is_at (nat_cmp k) q
flips k q = ⊎_elim
    (λ (e : k ≡ q). unsigned_tied q k ∙ eq-eqb q k (sym e) ∙ sym (unsigned_tied k q ∙ eq-eqb k q e))
    (λ (ne : k ≢ q). unsigned_tied q k ∙ ne_eqb q k (λ e. ne (sym e)) ∙ sym (unsigned_tied k q ∙ ne_eqb k q ne))
    (cases_eq k q)

-- The key has this in the second list, and every other key what it has in the first.
abbrev Gets : List (ℕ × Place) → List (ℕ × Place) → ℕ → Option Place → Type 0
Gets es fs k w = (q : ℕ) → lookup (nat_eq q) fs ≡ cond (nat_eq k q) w (lookup (nat_eq q) es)

abbrev Turns : List (ℕ × Place) → List (ℕ × Place) → ℕ → Option Place → Type 0
Turns es fs k w = (q : ℕ) → place_at fs q ≡ cond (is_at (nat_cmp k) q) w (place_at es q)

put_found : (es : List (ℕ × Place)) (k : ℕ) (w : Place) → Turns es (insert_entry nat_cmp es k w) k (Some w)
put_found es k w q = ap (λ (s : List (ℕ × Place)). place_at s q) (put_in es k w) ∙ sym (finds (put nat_cmp k w es) q) ∙ find-put nat_cmp nat_cmp_total q k w es ∙ (λ i. cond (flips k q i) (Some w) (finds es q i))

turns : (es fs : List (ℕ × Place)) (k : ℕ) (w : Option Place) → Gets es fs k w → Turns (by_key es) (by_key fs) k w
turns es fs k w gets q = found_by_key fs q ∙ gets q ∙ (λ i. cond (sym (unsigned_tied k q) i) w (sym (found_by_key es q) i))

pub put_by_key : (es fs : List (ℕ × Place)) (k : ℕ) (w : Place) → Gets es fs k (Some w) → by_key fs ≡ insert_entry nat_cmp (by_key es) k w
put_by_key es fs k w gets = same_found (by_key fs) (insert_entry nat_cmp (by_key es) k w) (in_order fs)
    (subst (λ (s : List (ℕ × Place)). T (is_sorted nat_cmp s)) (sym (put_in (by_key es) k w)) (is_sorted-put nat_cmp nat_cmp_total k w (by_key es) (in_order es)))
    (λ q. turns es fs k (Some w) gets q ∙ sym (put_found (by_key es) k w q))

at_key : (k : ℕ) → is_at (nat_cmp k) k ≡ true
at_key k = unsigned_tied k k ∙ eq-eqb k k refl

here_of : (es fs : List (ℕ × Place)) (k : ℕ) (w : Option Place) → Turns es fs k w → place_at fs k ≡ w
here_of es fs k w turn = turn k ∙ cond-true (is_at (nat_cmp k) k) w (place_at es k) (at_key k)

others_of : (es fs : List (ℕ × Place)) (k : ℕ) (w : Option Place) → Turns es fs k w → (q : ℕ) → is_at (nat_cmp k) q ≡ false → place_at fs q ≡ place_at es q
others_of es fs k w turn q isnt = turn q ∙ cond-false (is_at (nat_cmp k) q) w (place_at es q) isnt

put_step : (es fs : List (ℕ × Place)) (k : ℕ) (w : Place) → Gets es fs k (Some w) → Step (by_key es) (by_key fs) k (Some w)
put_step es fs k w gets =
    let turn = turns es fs k (Some w) gets in
    step_insert (by_key es) (by_key fs) k w (sorted_by_key es) (put_by_key es fs k w gets) (here_of (by_key es) (by_key fs) k (Some w) turn) (others_of (by_key es) (by_key fs) k (Some w) turn)

-- The names of live keys do not depend on the order.

moved_on : (own head rest more : List EntryName) → IsPermutation (own ++ rest) more → IsPermutation (own ++ (head ++ rest)) (head ++ more)
moved_on own head rest more moved =
    let swapped = IsPermutation-append_left rest (own ++ head) (head ++ own) (IsPermutation-append_comm own head) in
    let parted = subst (λ (ns : List EntryName). IsPermutation ns ((head ++ own) ++ rest)) (append_assoc own head rest) swapped in
    let joined = subst (IsPermutation (own ++ (head ++ rest))) (append_assoc head own rest) parted in
    IsPermutation-trans (own ++ (head ++ rest)) (head ++ (own ++ rest)) (head ++ more) joined (IsPermutation-append_right head (own ++ rest) more moved)

put_names : (es : List (ℕ × Place)) (k : ℕ) (w : Place) → place_at es k ≡ None → IsPermutation (live_name k (live_version w.known) ++ live_names es) (live_names (insert_entry nat_cmp es k w))
put_names [] k w none = IsPermutation-refl (live_name k (live_version w.known) ++ [])
put_names (e ∷ es) k w none = by (nat_cmp k e.0) (put_names es k w) none
  where
    by : (o : Ordering) → (place_at es k ≡ None → IsPermutation (live_name k (live_version w.known) ++ live_names es) (live_names (insert_entry nat_cmp es k w))) → cond (is_eq o) (Some e.1) (place_at es k) ≡ None
        → IsPermutation (live_name k (live_version w.known) ++ live_names (e ∷ es)) (live_names (match_ordering o ((k, w) ∷ e ∷ es) ((e.0, w) ∷ es) (e ∷ insert_entry nat_cmp es k w)))
    by Less rest at = IsPermutation-refl (live_name k (live_version w.known) ++ live_names (e ∷ es))
    by Equal rest at = absurd (cc at)
    by Greater rest at = moved_on (live_name k (live_version w.known)) (live_name e.0 (live_version e.1.known)) (live_names es) (live_names (insert_entry nat_cmp es k w)) (rest at)

not_found : (k : ℕ) (es : List (ℕ × Place)) → AllByRecursion (λ y. nat_eq k y ≡ false) (keys_of es) → lookup (nat_eq k) es ≡ None
not_found k [] none = refl
not_found k (e ∷ es) none = cond-false (nat_eq k e.0) (Some e.1) (lookup (nat_eq k) es) none.0 ∙ not_found k es none.1

first_by_key : (e : ℕ × Place) (es : List (ℕ × Place)) → by_key (e ∷ es) ≡ insert_entry nat_cmp (by_key es) e.0 e.1
unfolding by_key
first_by_key e es = entries-insert nat_cmp_total (from_entries {R = nat_cmp} es) e.0 e.1 ∙ sym (put_in (entries (from_entries {R = nat_cmp} es)) e.0 e.1)

pub names_by_key : (es : List (ℕ × Place)) → IsDistinct nat_eq (keys_of es) → IsPermutation (live_names (by_key es)) (live_names es)
names_by_key [] once = subst (λ (fs : List (ℕ × Place)). IsPermutation (live_names fs) []) (sym none_by_key) (IsPermutation-refl [])
names_by_key (e ∷ es) once =
    let own = live_name e.0 (live_version e.1.known) in
    let new : place_at (by_key es) e.0 ≡ None = found_by_key es e.0 ∙ not_found e.0 es (IsDistinct-head nat_eq e.0 (keys_of es) once) in
    let rest = IsPermutation-append_right own (live_names (by_key es)) (live_names es) (names_by_key es (IsDistinct-tail nat_eq e.0 (keys_of es) once)) in
    let put : IsPermutation (own ++ live_names (by_key es)) (live_names (by_key (e ∷ es))) = subst (λ (fs : List (ℕ × Place)). IsPermutation (own ++ live_names (by_key es)) (live_names fs)) (sym (first_by_key e es)) (put_names (by_key es) e.0 e.1 new) in
    IsPermutation-trans (live_names (by_key (e ∷ es))) (own ++ live_names (by_key es)) (own ++ live_names es) (IsPermutation-sym (own ++ live_names (by_key es)) (live_names (by_key (e ∷ es))) put) rest

-- A key that is taken out.

less_below : (k : ℕ) (test : ℕ → Bool) (es : List (ℕ × Place)) → T (below_all nat_cmp k es) → T (below_all nat_cmp k (remove_entry test es))
less_below k test [] h = tt
less_below k test (e ∷ es) h = by (test e.0) (less_below k test es (second (is_lt (nat_cmp k e.0)) (below_all nat_cmp k es) h))
  where
    by : (b : Bool) → T (below_all nat_cmp k (remove_entry test es)) → T (below_all nat_cmp k (cond b es (e ∷ remove_entry test es)))
    by true rest = second (is_lt (nat_cmp k e.0)) (below_all nat_cmp k es) h
    by false rest = both (is_lt (nat_cmp k e.0)) (below_all nat_cmp k (remove_entry test es)) (first (is_lt (nat_cmp k e.0)) (below_all nat_cmp k es) h) rest

less_sorted : (test : ℕ → Bool) (es : List (ℕ × Place)) → T (is_sorted nat_cmp es) → T (is_sorted nat_cmp (remove_entry test es))
less_sorted test [] h = tt
less_sorted test (e ∷ es) h = by (test e.0) (less_sorted test es (second (below_all nat_cmp e.0 es) (is_sorted nat_cmp es) h))
  where
    by : (b : Bool) → T (is_sorted nat_cmp (remove_entry test es)) → T (is_sorted nat_cmp (cond b es (e ∷ remove_entry test es)))
    by true rest = second (below_all nat_cmp e.0 es) (is_sorted nat_cmp es) h
    by false rest = both (below_all nat_cmp e.0 (remove_entry test es)) (is_sorted nat_cmp (remove_entry test es)) (less_below e.0 test es (first (below_all nat_cmp e.0 es) (is_sorted nat_cmp es) h)) rest

one_key : (k x y : ℕ) → is_at (nat_cmp k) x ≡ true → is_at (nat_cmp k) y ≡ is_at (nat_cmp x) y
one_key k x y is = ap (λ (n : ℕ). is_at (nat_cmp n) y) (eqb-true k x (sym (unsigned_tied k x) ∙ is))

taken_found : (es : List (ℕ × Place)) (k : ℕ) → IsStrictlySortedBy nat_cmp (keys_of es) → Turns es (remove_entry (is_at (nat_cmp k)) es) k None
taken_found es k sorted q = lookup-remove_entry (eq_by_cmp_equiv nat_cmp_total) (is_at (nat_cmp k)) (one_key k) q es (IsDistinct-from_sorted nat_cmp (keys_of es) sorted)

pub taken_by_key : (es fs : List (ℕ × Place)) (k : ℕ) → Gets es fs k None → by_key fs ≡ remove_entry (is_at (nat_cmp k)) (by_key es)
taken_by_key es fs k gets = same_found (by_key fs) (remove_entry (is_at (nat_cmp k)) (by_key es)) (in_order fs) (less_sorted (is_at (nat_cmp k)) (by_key es) (in_order es))
    (λ q. turns es fs k None gets q ∙ sym (taken_found (by_key es) k (sorted_by_key es) q))

taken_step : (es fs : List (ℕ × Place)) (k : ℕ) → Gets es fs k None → Step (by_key es) (by_key fs) k None
taken_step es fs k gets =
    let turn = turns es fs k None gets in
    step_remove (by_key es) (by_key fs) k (taken_by_key es fs k gets) (here_of (by_key es) (by_key fs) k None turn) (others_of (by_key es) (by_key fs) k None turn)

-- The same by what callers see.

module _ {S : Type 0} (olds : List (ℕ × Place)) (m : HashMap ℕ Place S) (k : ℕ) (view : by_key m.entries ≡ olds) where
  pub here : (o : Option Place) → get_by (nat_eq k) m ≡ o → place_at olds k ≡ o
  here o at = ap (λ (s : List (ℕ × Place)). place_at s k) (sym view) ∙ found_by_key m.entries k ∙ at

  pub updated : (n : HashMap ℕ Place S) (w : Place) → UpdatesBy nat_eq (nat_eq k) m n (Some w) → Step olds (by_key n.entries) k (Some w)
  updated n w updates = subst (λ (s : List (ℕ × Place)). Step s (by_key n.entries) k (Some w)) view (put_step m.entries n.entries k w updates.0)

  pub taken : (n : HashMap ℕ Place S) → UpdatesBy nat_eq (nat_eq k) m n None → Step olds (by_key n.entries) k None
  taken n updates = subst (λ (s : List (ℕ × Place)). Step s (by_key n.entries) k None) view (taken_step m.entries n.entries k updates.0)

  pub taken_entries : (n : HashMap ℕ Place S) → UpdatesBy nat_eq (nat_eq k) m n None → by_key n.entries ≡ remove_entry (is_at (nat_cmp k)) olds
  taken_entries n updates = taken_by_key m.entries n.entries k updates.0 ∙ ap (remove_entry (is_at (nat_cmp k))) view

  pub wrote : (n : HashMap ℕ Place S) (v w : Place) → get_by (nat_eq k) m ≡ Some v → WritesThrough nat_eq (nat_eq k) m w n → Step olds (by_key n.entries) k (Some w)
  wrote n v w at writes = updated n w (writes.3 (some_at (get_by (nat_eq k) m) at))
    where
      some_at : (o : Option Place) → o ≡ Some v → IsSome o
      some_at None at = absurd (cc at)
      some_at (Some p) at = refl

  pub put_entries : (n : HashMap ℕ Place S) (w : Place) → UpdatesBy nat_eq (nat_eq k) m n (Some w) → by_key n.entries ≡ insert_entry nat_cmp olds k w
  put_entries n w updates = put_by_key m.entries n.entries k w updates.0 ∙ ap (λ (s : List (ℕ × Place)). insert_entry nat_cmp s k w) view

  pub wrote_same : (n : HashMap ℕ Place S) (v w : Place) → get_by (nat_eq k) m ≡ Some v → WritesThrough nat_eq (nat_eq k) m w n → w ≡ v → by_key n.entries ≡ olds
  wrote_same n v w at writes same = ap by_key (writes.0 ∙ set_value_same (nat_eq k) m.entries w (at ∙ ap (λ (p : Place). Some p) (sym same))) ∙ view

-- what is found is there
pub within : (o : Option Place) (r : Option (Bor Place)) → option_copied r ≡ o → IfSome r (λ x. is_some o ≡ true)
within o None is = tt
within o (Some x) is = sym (ap is_some is)

-- a key that was put in and is taken out again
pub taken_back : (es : List (ℕ × Place)) (k : ℕ) (w : Place) → place_at es k ≡ None → remove_entry (is_at (nat_cmp k)) (insert_entry nat_cmp es k w) ≡ es
taken_back [] k w none = cond-true (is_at (nat_cmp k) k) [] ((k, w) ∷ []) (unsigned_tied k k ∙ eq-eqb k k refl)
taken_back (e ∷ es) k w none = by (nat_cmp k e.0) refl (taken_back es k w) none
  where
    here : is_at (nat_cmp k) k ≡ true
    here = unsigned_tied k k ∙ eq-eqb k k refl

    by : (o : Ordering) → nat_cmp k e.0 ≡ o → (place_at es k ≡ None → remove_entry (is_at (nat_cmp k)) (insert_entry nat_cmp es k w) ≡ es) → cond (is_eq o) (Some e.1) (place_at es k) ≡ None
        → remove_entry (is_at (nat_cmp k)) (match_ordering o ((k, w) ∷ e ∷ es) ((e.0, w) ∷ es) (e ∷ insert_entry nat_cmp es k w)) ≡ e ∷ es
    by Less is rest at = cond-true (is_at (nat_cmp k) k) (e ∷ es) ((k, w) ∷ remove_entry (is_at (nat_cmp k)) (e ∷ es)) here
    by Equal is rest at = absurd (cc at)
    by Greater is rest at = cond-false (is_at (nat_cmp k) e.0) (insert_entry nat_cmp es k w) (e ∷ remove_entry (is_at (nat_cmp k)) (insert_entry nat_cmp es k w)) (ap is_eq is) ∙ ap (λ (s : List (ℕ × Place)). e ∷ s) (rest at)
