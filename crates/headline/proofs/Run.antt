-- One request more is answered.
use Rattle.std.proofs.Common.{◌≡◌, inl, inr, ℕ, ◌+◌, ◌<◌, ◌≤◌, List, [], ◌∷◌, ◌++◌, length, map, filter, refl, sym, ◌∙◌, ap, subst, arith, ◌==◌, ◌||◌, ◌&&◌, not, true, false, Bool, cond, Option, Some, None, leb, take, append_assoc, append-nil, length-append}
use Rattle.std.proofs.lemmas.Bool.{eqb-true, eq-eqb, eqb-false, ne_eqb, cases_lt, leb-true, le-leb}
use Rattle.std.proofs.lemmas.Option.{slice_get_past, slice_get_within}
use Rattle.std.proofs.lemmas.List.Sums.{sum_by-append, sum_by-cons}
use Rattle.std.specs.List.{AllByRecursion, list_any, enumerate_from, zip, find, slice_get, count_by}
use Rattle.std.specs.Option.{option_or, option_to_list, option_map_or}
use Rattle.std.proofs.lemmas.List.{map-append, take-append-le, take_all}
use Rattle.std.proofs.lemmas.List.Elements.{filter-append}
use Rattle.std.proofs.lemmas.List.Folds.{find-append, list_any-append}
use Rattle.fs_model.specs.declared.model.Request.{Request}
use Rattle.fs_model.specs.declared.model.Reply.{Reply}
use Rattle.fs_model.specs.declared.model.Reply.TheVariants.{Stopped}
use Rattle.fs_model.specs.Cells.{key_of, is_change, cell_after}
use Rattle.fs_model.specs.Lawful.{IsLawful, IsLawfulFor, MayReply, Fits, asked, cell_of, stopped_of, cell_left, is_stopped, is_finish, is_told, once_where}
use Rattle.fs_model.proofs.Clients.{asked-append, lawful-more, changes-append}
use Rattle.fs_model.specs.Changes.{requests_of, names, behind_last, requests_in, finished_changes, unfinished_change, changes_of, cell_after_all, finished_by, IsPrefixCell}
use Rattle.headline.specs.Headline.{Told, finished_in, refused_in}
use Rattle.headline.specs.Run.{Answered, Recorded}
use Rattle.headline.proofs.Lists.{filter_same, behind_same, find_same, filter_none, any_none, behind-append, behind_end, enumerate-append, each_number, zip-append, get_before, get_front, get_end, each_behind}

-- the numbered requests of a key among these, which begin with number n
abbrev pub numbered : ℕ → ℕ → List Request → List (ℕ × Request)
numbered k n xs = filter (λ x. key_of x.1 == k) (enumerate_from n xs)

pub requests-append : (k : ℕ) (done more : List Request) → requests_of k (done ++ more) ≡ requests_of k done ++ numbered k (length done) more
requests-append k done more =
    let z : 0 + length done ≡ length done = omega arith in
    ap (filter (λ x. key_of x.1 == k)) (enumerate-append 0 done more) ∙ filter-append (λ x. key_of x.1 == k) (enumerate_from 0 done) (enumerate_from (0 + length done) more)
    ∙ ap (λ n. requests_of k done ++ numbered k n more) z

-- whether a request would change the cell and isn't named as refused
abbrev pub is_waiting : Option (List ℕ) → List ℕ → ℕ × Request → Bool
is_waiting c refused x = is_change x.1 c && not (names refused x.0)

pub none_found : (o : Option (ℕ × Request)) → requests_in (option_to_list o) ≡ [] → o ≡ None
none_found None e = refl
none_found (Some x) e = absurd (omega (arith, ap length e))

module _ (done more : List Request) (fin fin' ref ref' : List ℕ)
    (fin_same : (m : ℕ) → m < length done → names fin' m ≡ names fin m) (ref_same : (m : ℕ) → m < length done → names ref' m ≡ names ref m) (k : ℕ) where
  fin_agree : AllByRecursion (λ (x : ℕ × Request). names fin' x.0 ≡ names fin x.0) (requests_of k done)
  fin_agree = each_number (λ m. names fin' m ≡ names fin m) k 0 done (λ m low high. fin_same m (omega (arith, high)))

  ref_agree : (c : Option (List ℕ)) → AllByRecursion (λ (x : ℕ × Request). is_waiting c ref' x ≡ is_waiting c ref x) (requests_of k done)
  ref_agree c = agree (requests_of k done) (each_number (λ m. names ref' m ≡ names ref m) k 0 done (λ m low high. ref_same m (omega (arith, high)))) where
    agree : (xs : List (ℕ × Request)) → AllByRecursion (λ (x : ℕ × Request). names ref' x.0 ≡ names ref x.0) xs → AllByRecursion (λ (x : ℕ × Request). is_waiting c ref' x ≡ is_waiting c ref x) xs
    agree [] h = tt
    agree (x ∷ xs) h = ((λ t. is_change x.1 c && not (h.0 t)), agree xs h.1)

  -- the finished changes are those from before, and those among what came
  pub finished-append : finished_changes k (done ++ more) fin' ≡ finished_changes k done fin ++ requests_in (filter (λ x. names fin' x.0) (numbered k (length done) more))
  finished-append =
      ap (λ l. requests_in (filter (λ x. names fin' x.0) l)) (requests-append k done more)
      ∙ ap requests_in (filter-append (λ x. names fin' x.0) (requests_of k done) (numbered k (length done) more))
      ∙ map-append (λ (x : ℕ × Request). x.1) (filter (λ x. names fin' x.0) (requests_of k done)) (filter (λ x. names fin' x.0) (numbered k (length done) more))
      ∙ ap (λ l. requests_in l ++ requests_in (filter (λ x. names fin' x.0) (numbered k (length done) more)))
      (filter_same (λ (x : ℕ × Request). names fin' x.0) (λ x. names fin x.0) (requests_of k done) fin_agree)

  -- what is found behind the last finished one is what was found before, or the first among what came
  pub waiting-append : (c : Option (List ℕ)) → list_any (λ x. names fin' x.0) (numbered k (length done) more) ≡ false
      → find (is_waiting c ref') (behind_last (λ x. names fin' x.0) (requests_of k (done ++ more)))
      ≡ option_or (find (is_waiting c ref) (behind_last (λ x. names fin x.0) (requests_of k done))) (find (is_waiting c ref') (numbered k (length done) more))
  waiting-append c none =
      ap (λ l. find (is_waiting c ref') (behind_last (λ x. names fin' x.0) l)) (requests-append k done more)
      ∙ ap (find (is_waiting c ref')) (behind-append (λ (x : ℕ × Request). names fin' x.0) (requests_of k done) (numbered k (length done) more) none)
      ∙ find-append (is_waiting c ref') (behind_last (λ x. names fin' x.0) (requests_of k done)) (numbered k (length done) more)
      ∙ (λ t. option_or (front t) (find (is_waiting c ref') (numbered k (length done) more))) where
        front : find (is_waiting c ref') (behind_last (λ x. names fin' x.0) (requests_of k done)) ≡ find (is_waiting c ref) (behind_last (λ x. names fin x.0) (requests_of k done))
        front = find_same (is_waiting c ref') (is_waiting c ref) (behind_last (λ x. names fin' x.0) (requests_of k done)) (each_behind _ (λ x. names fin' x.0) (requests_of k done) (ref_agree c))
            ∙ ap (find (is_waiting c ref)) (behind_same (λ (x : ℕ × Request). names fin' x.0) (λ x. names fin x.0) (requests_of k done) fin_agree)

-- More requests, none of them named, only lengthen the changes.
pub changes_grow : (s : Option (List ℕ)) (k : ℕ) (done more : List Request) (fin ref : List ℕ) → ((m : ℕ) → names fin m ≡ true → m < length done)
    → (ys : List Request) × (changes_of s k (done ++ more) fin ref ≡ changes_of s k done fin ref ++ ys)
changes_grow s k done more fin ref within =
    let above : AllByRecursion (λ (x : ℕ × Request). names fin x.0 ≡ false) (numbered k (length done) more) = each_number (λ m. names fin m ≡ false) k (length done) more (λ m low high. unnamed m low) in
    let same : finished_changes k (done ++ more) fin ≡ finished_changes k done fin =
    finished-append done more fin fin ref ref (λ m lt. refl) (λ m lt. refl) k
    ∙ ap (λ l. finished_changes k done fin ++ requests_in l) (filter_none (λ (x : ℕ × Request). names fin x.0) (numbered k (length done) more) above)
    ∙ append-nil (finished_changes k done fin) in
    let c : Option (List ℕ) = cell_after_all (finished_changes k done fin) s in
    let found = waiting-append done more fin fin ref ref (λ m lt. refl) (λ m lt. refl) k c (any_none (λ (x : ℕ × Request). names fin x.0) (numbered k (length done) more) above) in
    let e : changes_of s k (done ++ more) fin ref ≡ finished_changes k done fin ++ requests_in (option_to_list (option_or (find (is_waiting c ref) (behind_last (λ x. names fin x.0) (requests_of k done))) (find (is_waiting c ref) (numbered k (length done) more)))) =
    (λ t. same t ++ requests_in (option_to_list (find (is_waiting (cell_after_all (same t) s) ref) (behind_last (λ x. names fin x.0) (requests_of k (done ++ more)))))) ∙ ap (λ o. finished_changes k done fin ++ requests_in (option_to_list o)) found in
    let r = longer (find (is_waiting c ref) (behind_last (λ x. names fin x.0) (requests_of k done))) (find (is_waiting c ref) (numbered k (length done) more)) in
    (r.0, e ∙ ap (λ l. finished_changes k done fin ++ l) r.1 ∙ sym (append_assoc (finished_changes k done fin) _ r.0)) where
      unnamed : (m : ℕ) → length done ≤ m → names fin m ≡ false
      unnamed m low = elim (names fin m) as (λ b. names fin m ≡ b → b ≡ false) [
        | true ↦ λ e. absurd (let w = within m e in omega (arith, low, w))
        | false ↦ λ e. refl
      ] refl

      longer : (o p : Option (ℕ × Request)) → (ys : List Request) × (requests_in (option_to_list (option_or o p)) ≡ requests_in (option_to_list o) ++ ys)
      longer None p = (requests_in (option_to_list p), refl)
      longer (Some x) p = ([], refl)

-- A prefix of the changes stays one when the changes grow.
pub prefix_grows : (s c : Option (List ℕ)) (xs ys : List Request) (f : ℕ) → f ≤ length xs → IsPrefixCell s xs f c → IsPrefixCell s (xs ++ ys) f c
prefix_grows s c xs ys f in_xs h =
    let first : take f (xs ++ ys) ≡ take f xs = take-append-le f xs ys in_xs in
    elim h [
      | inl e ↦ inl (e ∙ ap (λ l. cell_after_all l s) (sym first))
      | inr e ↦ elim (cases_lt f (length xs)) [
        | inl lt ↦ inr (e ∙ ap (λ l. cell_after_all l s) (sym (take-append-le (f + 1) xs ys (omega (arith, lt)))))
        | inr ge ↦ inl (e ∙ ap (λ l. cell_after_all l s) (take_all (f + 1) xs (omega (arith, ge)) ∙ sym (take_all f xs ge) ∙ sym first))
      ]
    ]

-- what holds of the request's own key, and of each other one
pub by_key : (P : ℕ → Type 0) (own : ℕ) → P own → ((k : ℕ) → (own ≡ k → ⊥) → P k) → (k : ℕ) → P k
by_key P own h others k = elim (own == k) as (λ b. (own == k) ≡ b → P k) [
  | true ↦ λ e. subst P (eqb-true own k e) h
  | false ↦ λ e. others k (eqb-false own k e)
] refl

cell_of-append : (c : Option (List ℕ)) (xs ys : List (Request × Reply)) → cell_of c (xs ++ ys) ≡ cell_of (cell_of c xs) ys
cell_of-append c [] ys = refl
cell_of-append c (x ∷ xs) ys = cell_of-append (cell_left x.0 x.1 c) xs ys

stopped_of-append : (b : Bool) (xs ys : List (Request × Reply)) → stopped_of b (xs ++ ys) ≡ stopped_of (stopped_of b xs) ys
stopped_of-append b [] ys = refl
stopped_of-append b (x ∷ xs) ys = stopped_of-append (b || is_stopped x.1) xs ys

-- The replies stay lawful.
module _ (start : ℕ → Option (List ℕ)) (done : List Request) (replies : List Reply) (q : Request) (reply : Reply) (count : length replies ≡ length done) where
  asked_more : (k : ℕ) → asked k (zip (done ++ q ∷ []) (replies ++ reply ∷ [])) ≡ asked k (zip done replies) ++ asked k ((q, reply) ∷ [])
  asked_more k = ap (asked k) (zip-append done replies q reply count) ∙ asked-append k (zip done replies) ((q, reply) ∷ [])

  asked_own : asked (key_of q) ((q, reply) ∷ []) ≡ (q, reply) ∷ []
  asked_own = (λ t. cond (eq-eqb (key_of q) (key_of q) refl t) ((q, reply) ∷ []) [])

  asked_other : (k : ℕ) → (key_of q ≡ k → ⊥) → asked k ((q, reply) ∷ []) ≡ []
  asked_other k ne = (λ t. cond (ne_eqb (key_of q) k ne t) ((q, reply) ∷ []) [])

  own_more : asked (key_of q) (zip (done ++ q ∷ []) (replies ++ reply ∷ [])) ≡ asked (key_of q) (zip done replies) ++ (q, reply) ∷ []
  own_more = asked_more (key_of q) ∙ ap (λ l. asked (key_of q) (zip done replies) ++ l) asked_own

  other_more : (k : ℕ) → (key_of q ≡ k → ⊥) → asked k (zip (done ++ q ∷ []) (replies ++ reply ∷ [])) ≡ asked k (zip done replies)
  other_more k ne = asked_more k ∙ ap (λ l. asked k (zip done replies) ++ l) (asked_other k ne) ∙ append-nil (asked k (zip done replies))

  pub more_lawful : IsLawful start done replies → MayReply q (cell_of (start (key_of q)) (asked (key_of q) (zip done replies))) (stopped_of false (asked (key_of q) (zip done replies))) reply
      → IsLawful start (done ++ q ∷ []) (replies ++ reply ∷ [])
  more_lawful h may = record {
    count = length-append replies (reply ∷ []) ∙ ap (λ n. n + 1) count ∙ sym (length-append done (q ∷ []));
    each = by_key (λ k. IsLawfulFor (start k) false (asked k (zip (done ++ q ∷ []) (replies ++ reply ∷ [])))) (key_of q)
        (subst (λ l. IsLawfulFor (start (key_of q)) false l) (sym own_more) (lawful-more (start (key_of q)) false (asked (key_of q) (zip done replies)) q reply (h.each (key_of q)) may))
        (λ k ne. subst (λ l. IsLawfulFor (start k) false l) (sym (other_more k ne)) (h.each k));
  }

  pub own_cell : cell_of (start (key_of q)) (asked (key_of q) (zip (done ++ q ∷ []) (replies ++ reply ∷ []))) ≡ cell_left q reply (cell_of (start (key_of q)) (asked (key_of q) (zip done replies)))
  own_cell = ap (cell_of (start (key_of q))) own_more ∙ cell_of-append (start (key_of q)) (asked (key_of q) (zip done replies)) ((q, reply) ∷ [])

  pub other_cell : (k : ℕ) → (key_of q ≡ k → ⊥) → cell_of (start k) (asked k (zip (done ++ q ∷ []) (replies ++ reply ∷ []))) ≡ cell_of (start k) (asked k (zip done replies))
  other_cell k ne = ap (cell_of (start k)) (other_more k ne)

  pub goes_on : is_stopped reply ≡ false → ((k : ℕ) → stopped_of false (asked k (zip done replies)) ≡ false) → (k : ℕ) → stopped_of false (asked k (zip (done ++ q ∷ []) (replies ++ reply ∷ []))) ≡ false
  goes_on goes before = by_key (λ k. stopped_of false (asked k (zip (done ++ q ∷ []) (replies ++ reply ∷ []))) ≡ false) (key_of q)
      (ap (stopped_of false) own_more ∙ stopped_of-append false (asked (key_of q) (zip done replies)) ((q, reply) ∷ []) ∙ (λ t. before (key_of q) t || goes t))
      (λ k ne. ap (stopped_of false) (other_more k ne) ∙ before k)

-- counting with one element more
count_one : {X : Type 0} (p : X → Bool) (xs : List X) (y : X) → count_by p (xs ++ y ∷ []) ≡ count_by p xs + cond (p y) 1 0
count_one p xs y = let e = sum_by-append (λ x. cond (p x) 1 0) xs (y ∷ []) in omega (arith, e)

once_before : (test : Reply → Bool) (xs : List Reply) (y : Reply) (i : ℕ) → i < length xs → once_where test (xs ++ y ∷ []) i ≡ once_where test xs i
once_before test xs y i lt = ap (λ o. cond (option_map_or test o false) 1 0) (get_before xs y i lt)

once_end : (test : Reply → Bool) (xs : List Reply) (y : Reply) → once_where test (xs ++ y ∷ []) (length xs) ≡ cond (test y) 1 0
once_end test xs y = ap (λ o. cond (option_map_or test o false) 1 0) (get_end xs y)

once_past : (test : Reply → Bool) (xs : List Reply) (i : ℕ) → length xs ≤ i → once_where test xs i ≡ 0
once_past test xs i ge = ap (λ o. cond (option_map_or test o false) 1 0) (slice_get_past xs i ge)

-- one for a reply with number n that passes the test
abbrev gain : (Reply → Bool) → Reply → ℕ → ℕ → ℕ
gain test y n i = cond (n == i) (cond (test y) 1 0) 0

gain_here : (test : Reply → Bool) (y : Reply) (n : ℕ) → gain test y n n ≡ cond (test y) 1 0
gain_here test y n = (λ t. cond (eq-eqb n n refl t) (cond (test y) 1 0) 0)

gain_none : (test : Reply → Bool) (y : Reply) (n i : ℕ) → (n ≡ i → ⊥) → gain test y n i ≡ 0
gain_none test y n i ne = (λ t. cond (ne_eqb n i ne t) (cond (test y) 1 0) 0)

once_more : (test : Reply → Bool) (xs : List Reply) (y : Reply) (i : ℕ) → once_where test (xs ++ y ∷ []) i ≡ once_where test xs i + gain test y (length xs) i
once_more test xs y i = elim (cases_lt i (length xs)) [
  | inl lt ↦
      let e = once_before test xs y i lt in
      let none = gain_none test y (length xs) i (λ is. omega (arith, lt, is)) in
      omega (arith, e, none)
  | inr ge ↦ by_key (λ i. length xs ≤ i → once_where test (xs ++ y ∷ []) i ≡ once_where test xs i + gain test y (length xs) i) (length xs)
      (λ low.
      let e = once_end test xs y in
      let z = once_past test xs (length xs) low in
      let same = gain_here test y (length xs) in
      omega (arith, e, z, same))
      (λ i ne low.
      let z = once_past test xs i low in
      let more = once_past test (xs ++ y ∷ []) i (let n = length-append xs (y ∷ []) in omega (arith, n, low, ne)) in
      let none = gain_none test y (length xs) i ne in
      omega (arith, z, more, none))
      i ge
]

some_of : (x y : ℕ × Reply) → Some x ≡ Some y → x ≡ y
some_of x y e = cc

-- The report stays fitting: with a reply that it doesn't name, with a finish, or with a refusal.
module _ (replies : List Reply) (reply : Reply) where
  why_more : (refused : List (ℕ × Reply)) → ((j i : ℕ) (r : Reply) → slice_get refused j ≡ Some (i, r) → slice_get replies i ≡ Some r)
      → (j i : ℕ) (r : Reply) → slice_get refused j ≡ Some (i, r) → slice_get (replies ++ reply ∷ []) i ≡ Some r
  why_more refused why j i r e = let here = why j i r e in get_before replies reply i (slice_get_within replies i r here) ∙ here

  same_count : (test : Reply → Bool) (c i : ℕ) → c ≡ once_where test replies i → test reply ≡ false → c ≡ once_where test (replies ++ reply ∷ []) i
  same_count test c i e fails =
      let more = once_more test replies reply i in
      let none : gain test reply (length replies) i ≡ 0 = (λ t. cond (length replies == i) (cond (fails t) 1 0) 0) ∙ zero_both (length replies == i) in
      omega (arith, e, more, none) where
        zero_both : (b : Bool) → cond {A = ℕ} b (cond {A = ℕ} false 1 0) 0 ≡ 0
        zero_both true = refl
        zero_both false = refl

  pub fits_quiet : (fin : List ℕ) (refused : List (ℕ × Reply)) → Fits fin refused replies → is_finish reply ≡ false → is_told reply ≡ false → Fits fin refused (replies ++ reply ∷ [])
  fits_quiet fin refused f quiet untold = record {
    named = λ i. same_count is_finish (count_by (λ n. n == i) fin) i (f.named i) quiet;
    told = λ i. same_count is_told (count_by (λ x. x.0 == i) refused) i (f.told i) untold;
    why = why_more refused f.why;
  }

  pub fits_finish : (fin : List ℕ) (refused : List (ℕ × Reply)) → Fits fin refused replies → is_finish reply ≡ true → is_told reply ≡ false → Fits (fin ++ length replies ∷ []) refused (replies ++ reply ∷ [])
  fits_finish fin refused f finish untold = record {
    named = λ i.
        let here = f.named i in
        let one = count_one (λ n. n == i) fin (length replies) in
        let more = once_more is_finish replies reply i in
        let g : gain is_finish reply (length replies) i ≡ cond (length replies == i) 1 0 = (λ t. cond (length replies == i) (cond (finish t) 1 0) 0) in
        omega (arith, here, one, more, g);
    told = λ i. same_count is_told (count_by (λ x. x.0 == i) refused) i (f.told i) untold;
    why = why_more refused f.why;
  }

  pub fits_refusal : (fin : List ℕ) (refused : List (ℕ × Reply)) → Fits fin refused replies → is_finish reply ≡ false → is_told reply ≡ true → Fits fin (refused ++ (length replies, reply) ∷ []) (replies ++ reply ∷ [])
  fits_refusal fin refused f quiet told = record {
    named = λ i. same_count is_finish (count_by (λ n. n == i) fin) i (f.named i) quiet;
    told = λ i.
        let here = f.told i in
        let one = count_one (λ (x : ℕ × Reply). x.0 == i) refused (length replies, reply) in
        let more = once_more is_told replies reply i in
        let g : gain is_told reply (length replies) i ≡ cond (length replies == i) 1 0 = (λ t. cond (length replies == i) (cond (told t) 1 0) 0) in
        omega (arith, here, one, more, g);
    why = λ j i r e. elim (cases_lt j (length refused)) [
      | inl lt ↦ why_more refused f.why j i r (sym (get_before refused (length replies, reply) j lt) ∙ e)
      | inr ge ↦ last j i r ge e
    ];
  } where
    last : (j i : ℕ) (r : Reply) → length refused ≤ j → slice_get (refused ++ (length replies, reply) ∷ []) j ≡ Some (i, r) → slice_get (replies ++ reply ∷ []) i ≡ Some r
    last j i r ge e =
        let within = slice_get_within (refused ++ (length replies, reply) ∷ []) j (i, r) e in
        let long = length-append refused ((length replies, reply) ∷ []) in
        let at : j ≡ length refused = omega (arith, within, long, ge) in
        let is : Some (length replies, reply) ≡ Some (i, r) = sym (get_end refused (length replies, reply)) ∙ ap (slice_get (refused ++ (length replies, reply) ∷ [])) (sym at) ∙ e in
        let pair : (length replies, reply) ≡ (i, r) = some_of _ _ is in
        subst (λ (x : ℕ × Reply). slice_get (replies ++ reply ∷ []) x.0 ≡ Some x.1) pair (get_end replies reply)

count_same : {X : Type 0} (p q : X → Bool) (xs : List X) → AllByRecursion (λ x. p x ≡ q x) xs → count_by p xs ≡ count_by q xs
count_same p q [] h = refl
count_same p q (x ∷ xs) h =
    sum_by-cons (λ x. cond (p x) 1 0) x xs ∙ (λ t. cond {A = ℕ} (h.0 t) 1 0 + count_same p q xs h.1 t) ∙ sym (sum_by-cons (λ x. cond (q x) 1 0) x xs)

-- whether a finish is one of a key, by a stamp
abbrev pub is_finish_of : ℕ → List Request → ℕ → ℕ × ℕ → Bool
is_finish_of k trace t f = leb f.1 t && option_map_or (λ q. key_of q == k) (slice_get trace f.0) false

pub each_finish : (n : ℕ) (fs : List (ℕ × ℕ)) → ((i : ℕ) → names (map (λ (f : ℕ × ℕ). f.0) fs) i ≡ true → i < n) → AllByRecursion (λ (f : ℕ × ℕ). f.0 < n) fs
each_finish n [] h = tt
each_finish n (f ∷ fs) h = (
  h f.0 (λ t. eq-eqb f.0 f.0 refl t || names (map (λ (f : ℕ × ℕ). f.0) fs) f.0),
  each_finish n fs (λ i e. h i ((λ t. (f.0 == i) || e t) ∙ or_true (f.0 == i))),
) where
  or_true : (b : Bool) → (b || true) ≡ true
  or_true true = refl
  or_true false = refl

-- requests behind those that the finishes name don't count
pub finished_by-append : (k t : ℕ) (done more : List Request) (fs : List (ℕ × ℕ)) → AllByRecursion (λ (f : ℕ × ℕ). f.0 < length done) fs → finished_by k (done ++ more) fs t ≡ finished_by k done fs t
finished_by-append k t done more fs h = count_same (is_finish_of k (done ++ more) t) (is_finish_of k done t) fs (agree fs h) where
  agree : (fs : List (ℕ × ℕ)) → AllByRecursion (λ (f : ℕ × ℕ). f.0 < length done) fs → AllByRecursion (λ (f : ℕ × ℕ). is_finish_of k (done ++ more) t f ≡ is_finish_of k done t f) fs
  agree [] h = tt
  agree (f ∷ fs) h = ((λ i. leb f.1 t && option_map_or (λ q. key_of q == k) (get_front done more f.0 h.0 i) false), agree fs h.1)

module _ (done : List Request) (q : Request) (k : ℕ) where
  abbrev pub own : List (ℕ × Request)
  own = numbered k (length done) (q ∷ [])

  pub own_is : (key_of q ≡ k) → own ≡ (length done, q) ∷ []
  own_is e = (λ t. cond (eq-eqb (key_of q) k e t) ((length done, q) ∷ []) [])

  own_none : (key_of q ≡ k → ⊥) → own ≡ []
  own_none ne = (λ t. cond (ne_eqb (key_of q) k ne t) ((length done, q) ∷ []) [])

  module _ (fin fin' ref ref' : List ℕ) (fin_same : (m : ℕ) → m < length done → names fin' m ≡ names fin m) (ref_same : (m : ℕ) → m < length done → names ref' m ≡ names ref m) (s : Option (List ℕ)) where
    -- a request that isn't finished, or has another key, leaves the finished changes
    finished_stays : filter (λ x. names fin' x.0) own ≡ [] → finished_changes k (done ++ q ∷ []) fin' ≡ finished_changes k done fin
    finished_stays none = finished-append done (q ∷ []) fin fin' ref ref' fin_same ref_same k
        ∙ ap (λ l. finished_changes k done fin ++ requests_in l) none ∙ append-nil (finished_changes k done fin)

    settled_stays : finished_changes k (done ++ q ∷ []) fin' ≡ finished_changes k done fin → list_any (λ x. names fin' x.0) own ≡ false
        → unfinished_change s k done fin ref ≡ [] → find (is_waiting (cell_after_all (finished_changes k done fin) s) ref') own ≡ None
        → unfinished_change s k (done ++ q ∷ []) fin' ref' ≡ []
    settled_stays same none settled waits =
        let c : Option (List ℕ) = cell_after_all (finished_changes k done fin) s in
        let before : find (is_waiting c ref) (behind_last (λ x. names fin x.0) (requests_of k done)) ≡ None = none_found _ settled in
        (λ t. requests_in (option_to_list (find (is_waiting (cell_after_all (same t) s) ref') (behind_last (λ x. names fin' x.0) (requests_of k (done ++ q ∷ []))))))
        ∙ ap (λ o. requests_in (option_to_list o)) (waiting-append done (q ∷ []) fin fin' ref ref' fin_same ref_same k c none ∙ (λ t. option_or (before t) (waits t)))

-- how a list of numbers names, with one more
names_more : (xs : List ℕ) (n m : ℕ) → (n ≡ m → ⊥) → names (xs ++ n ∷ []) m ≡ names xs m
names_more xs n m ne = list_any-append (λ i. i == m) xs (n ∷ []) ∙ (λ t. names xs m || (ne_eqb n m ne t || false)) ∙ or_false (names xs m) where
  or_false : (b : Bool) → (b || false) ≡ b
  or_false true = refl
  or_false false = refl

names_end : (xs : List ℕ) (n : ℕ) → names (xs ++ n ∷ []) n ≡ true
names_end xs n = list_any-append (λ i. i == n) xs (n ∷ []) ∙ (λ t. names xs n || (eq-eqb n n refl t || false)) ∙ or_true (names xs n) where
  or_true : (b : Bool) → (b || true) ≡ true
  or_true true = refl
  or_true false = refl

names_within : (xs : List ℕ) (n : ℕ) → ((i : ℕ) → names xs i ≡ true → i < n) → (i : ℕ) → names (xs ++ n ∷ []) i ≡ true → i < n + 1
names_within xs n h = by_key (λ i. names (xs ++ n ∷ []) i ≡ true → i < n + 1) n (λ e. omega arith)
    (λ i ne e. let before = h i (sym (names_more xs n i ne) ∙ e) in omega (arith, before))

pub unnamed : (xs : List ℕ) (n : ℕ) → ((i : ℕ) → names xs i ≡ true → i < n) → names xs n ≡ false
unnamed xs n h = elim (names xs n) as (λ b. names xs n ≡ b → b ≡ false) [
  | true ↦ λ e. absurd (let lt = h n e in omega (arith, lt))
  | false ↦ λ e. refl
] refl

-- The three ways in which a run goes on.
module _ (Known : Type 0) (start : ℕ → Option (List ℕ)) (done : List Request) (replies : List Reply) (r : Told) (now : ℕ) (cell : ℕ → Option (List ℕ)) (q : Request) (reply : Reply)
    (A : Answered Known start done replies r now cell) where
  abbrev key : ℕ
  key = key_of q

  abbrev fin : List ℕ
  fin = finished_in r

  abbrev ref : List ℕ
  ref = refused_in r

  abbrev n : ℕ
  n = length done

  may : (Known → MayReply q (cell key) false reply) → Known → MayReply q (cell_of (start key) (asked key (zip done replies))) (stopped_of false (asked key (zip done replies))) reply
  may m known = subst (λ b. MayReply q (cell_of (start key) (asked key (zip done replies))) b reply) (sym (A.going key)) (subst (λ c. MayReply q c false reply) (sym (A.cells key)) (m known))

  counted_more : length (replies ++ reply ∷ []) ≡ length (done ++ q ∷ [])
  counted_more = length-append replies (reply ∷ []) ∙ ap (λ n. n + 1) A.count ∙ sym (length-append done (q ∷ []))

  cells_more : (next : ℕ → Option (List ℕ)) → next key ≡ cell_left q reply (cell key) → ((k : ℕ) → (key ≡ k → ⊥) → next k ≡ cell k)
      → (k : ℕ) → cell_of (start k) (asked k (zip (done ++ q ∷ []) (replies ++ reply ∷ []))) ≡ next k
  cells_more next own others = by_key (λ k. cell_of (start k) (asked k (zip (done ++ q ∷ []) (replies ++ reply ∷ []))) ≡ next k) key
      (own_cell start done replies q reply A.count ∙ ap (cell_left q reply) (A.cells key) ∙ sym own)
      (λ k ne. other_cell start done replies q reply A.count k ne ∙ A.cells k ∙ sym (others k ne))

  each_fin : AllByRecursion (λ (f : ℕ × ℕ). f.0 < n) r.finishes
  each_fin = each_finish n r.finishes A.finishes

  none_of : (k : ℕ) → AllByRecursion (λ (x : ℕ × Request). names fin x.0 ≡ false) (own done q k)
  none_of k = each_number (λ m. names fin m ≡ false) k n (q ∷ []) (λ m low high. subst (λ m. names fin m ≡ false) (let e : n ≡ m = omega (arith, low, high) in e) (unnamed fin n A.finishes))

  -- where the request isn't finished
  module _ (ref' : List ℕ) (ref_same : (m : ℕ) → m < n → names ref' m ≡ names ref m) (k : ℕ) where
    pub changes_stay : finished_changes k (done ++ q ∷ []) fin ≡ finished_changes k done fin
    changes_stay = finished_stays done q k fin fin ref ref' (λ m lt. refl) ref_same (start k) (filter_none (λ (x : ℕ × Request). names fin x.0) (own done q k) (none_of k))

    pub quiet_settled : (key ≡ k → is_waiting (cell k) ref' (n, q) ≡ false) → unfinished_change (start k) k (done ++ q ∷ []) fin ref' ≡ []
    quiet_settled waits = settled_stays done q k fin fin ref ref' (λ m lt. refl) ref_same (start k) changes_stay (any_none (λ (x : ℕ × Request). names fin x.0) (own done q k) (none_of k)) (A.settled k)
        (ap (λ c. find (is_waiting c ref') (own done q k)) (A.left k) ∙ at_own (key == k) refl) where
          at_own : (b : Bool) → (key == k) ≡ b → find (is_waiting (cell k) ref') (cond b ((n, q) ∷ []) []) ≡ None
          at_own true e = (λ t. cond (waits (eqb-true key k e) t) (Some (n, q)) None)
          at_own false e = refl

    pub quiet_counted : (t : ℕ) → finished_by k (done ++ q ∷ []) r.finishes t ≤ length (finished_changes k (done ++ q ∷ []) fin)
    quiet_counted t =
        let same = finished_by-append k t done (q ∷ []) r.finishes each_fin in
        let long : length (finished_changes k (done ++ q ∷ []) fin) ≡ length (finished_changes k done fin) = ap length changes_stay in
        let before = A.counted k t in
        omega (arith, same, long, before)

    pub quiet_whole : (t : ℕ) → now ≤ t → finished_by k (done ++ q ∷ []) r.finishes t ≡ length (finished_changes k (done ++ q ∷ []) fin)
    quiet_whole t low = finished_by-append k t done (q ∷ []) r.finishes each_fin ∙ A.whole k t low ∙ ap length (sym changes_stay)

  longer : length (done ++ q ∷ []) ≡ n + 1
  longer = length-append done (q ∷ [])

  -- an answer that changes nothing
  pub answered_quiet : is_finish reply ≡ false → is_told reply ≡ false → is_stopped reply ≡ false → (Known → MayReply q (cell key) false reply) → is_change q (cell key) ≡ false → cell_left q reply (cell key) ≡ cell key → Answered Known start (done ++ q ∷ []) (replies ++ reply ∷ []) r now cell
  answered_quiet quiet untold goes m unchanging leaves = record {
    count = counted_more;
    lawful = λ known. more_lawful start done replies q reply A.count (A.lawful known) (may m known);
    fits = fits_quiet replies reply fin r.refusals A.fits quiet untold;
    cells = cells_more cell (sym leaves) (λ k ne. refl);
    going = goes_on start done replies q reply A.count goes A.going;
    left = λ k. ap (λ l. cell_after_all l (start k)) (changes_stay ref (λ m lt. refl) k) ∙ A.left k;
    settled = λ k. quiet_settled ref (λ m lt. refl) k (λ e. (λ t. (ap (λ k. is_change q (cell k)) (sym e) ∙ unchanging) t && not (names ref n)));
    finishes = λ i e. let lt = A.finishes i e in omega (arith, lt, longer);
    refusals = λ i e. let lt = A.refusals i e in omega (arith, lt, longer);
    counted = λ k t. quiet_counted ref (λ m lt. refl) k t;
    whole = λ k t low. quiet_whole ref (λ m lt. refl) k t low;
  }

  -- a refusal that the report tells
  pub answered_refusal : is_finish reply ≡ false → is_told reply ≡ true → is_stopped reply ≡ false → (Known → MayReply q (cell key) false reply) → cell_left q reply (cell key) ≡ cell key
      → Answered Known start (done ++ q ∷ []) (replies ++ reply ∷ []) (record { finishes = r.finishes; refusals = r.refusals ++ (n, reply) ∷ [] }) now cell
  answered_refusal quiet told goes m leaves =
      let named : map (λ (x : ℕ × Reply). x.0) (r.refusals ++ (n, reply) ∷ []) ≡ ref ++ n ∷ [] = map-append (λ (x : ℕ × Reply). x.0) r.refusals ((n, reply) ∷ []) in
      let same : (m : ℕ) → m < n → names (map (λ (x : ℕ × Reply). x.0) (r.refusals ++ (n, reply) ∷ [])) m ≡ names ref m =
      λ m lt. ap (λ l. names l m) named ∙ names_more ref n m (λ e. omega (arith, lt, e)) in
      let here : names (map (λ (x : ℕ × Reply). x.0) (r.refusals ++ (n, reply) ∷ [])) n ≡ true = ap (λ l. names l n) named ∙ names_end ref n in
      record {
        count = counted_more;
        lawful = λ known. more_lawful start done replies q reply A.count (A.lawful known) (may m known);
        fits = subst (λ i. Fits fin (r.refusals ++ (i, reply) ∷ []) (replies ++ reply ∷ [])) A.count (fits_refusal replies reply fin r.refusals A.fits quiet told);
        cells = cells_more cell (sym leaves) (λ k ne. refl);
        going = goes_on start done replies q reply A.count goes A.going;
        left = λ k. ap (λ l. cell_after_all l (start k)) (changes_stay _ same k) ∙ A.left k;
        settled = λ k. quiet_settled _ same k (λ e. (λ t. is_change q (cell k) && not (here t)) ∙ and_false (is_change q (cell k)));
        finishes = λ i e. let lt = A.finishes i e in omega (arith, lt, longer);
        refusals = λ i e. let lt = names_within ref n A.refusals i (ap (λ l. names l i) (sym named) ∙ e) in omega (arith, lt, longer);
        counted = λ k t. quiet_counted _ same k t;
        whole = λ k t low. quiet_whole _ same k t low;
      } where
        and_false : (b : Bool) → (b && false) ≡ false
        and_false true = refl
        and_false false = refl

  -- A change that is finished at a stamp.
  module _ (later : ℕ) (low : now ≤ later) where
    abbrev pub with_finish : Told
    with_finish = record { finishes = r.finishes ++ (n, later) ∷ []; refusals = r.refusals }

    named_fin : finished_in with_finish ≡ fin ++ n ∷ []
    named_fin = map-append (λ (f : ℕ × ℕ). f.0) r.finishes ((n, later) ∷ [])

    fin_before : (m : ℕ) → m < n → names (finished_in with_finish) m ≡ names fin m
    fin_before m lt = ap (λ l. names l m) named_fin ∙ names_more fin n m (λ e. omega (arith, lt, e))

    fin_here : names (finished_in with_finish) n ≡ true
    fin_here = ap (λ l. names l n) named_fin ∙ names_end fin n

    ref_before : (m : ℕ) → m < n → names ref m ≡ names ref m
    ref_before m lt = refl

    pub own_changes : finished_changes key (done ++ q ∷ []) (finished_in with_finish) ≡ finished_changes key done fin ++ q ∷ []
    own_changes = finished-append done (q ∷ []) fin (finished_in with_finish) ref ref fin_before ref_before key
        ∙ ap (λ l. finished_changes key done fin ++ requests_in (filter (λ x. names (finished_in with_finish) x.0) l)) (own_is done q key refl)
        ∙ (λ t. finished_changes key done fin ++ requests_in (cond (fin_here t) ((n, q) ∷ []) []))

    pub other_changes : (k : ℕ) → (key ≡ k → ⊥) → finished_changes k (done ++ q ∷ []) (finished_in with_finish) ≡ finished_changes k done fin
    other_changes k ne = finished_stays done q k fin (finished_in with_finish) ref ref fin_before ref_before (start k) (ap (filter (λ x. names (finished_in with_finish) x.0)) (own_none done q k ne))

    own_settled : unfinished_change (start key) key (done ++ q ∷ []) (finished_in with_finish) ref ≡ []
    own_settled =
        let c : Option (List ℕ) = cell_after_all (finished_changes key (done ++ q ∷ []) (finished_in with_finish)) (start key) in
        ap (λ l. requests_in (option_to_list (find (is_waiting c ref) (behind_last (λ x. names (finished_in with_finish) x.0) l)))) (requests-append key done (q ∷ []) ∙ ap (λ l. requests_of key done ++ l) (own_is done q key refl))
        ∙ ap (λ l. requests_in (option_to_list (find (is_waiting c ref) l))) (behind_end (λ (x : ℕ × Request). names (finished_in with_finish) x.0) (requests_of key done) (n, q) fin_here)

    other_settled : (k : ℕ) → (key ≡ k → ⊥) → unfinished_change (start k) k (done ++ q ∷ []) (finished_in with_finish) ref ≡ []
    other_settled k ne = settled_stays done q k fin (finished_in with_finish) ref ref fin_before ref_before (start k) (other_changes k ne)
        (ap (list_any (λ x. names (finished_in with_finish) x.0)) (own_none done q k ne)) (A.settled k) (ap (find (is_waiting _ ref)) (own_none done q k ne))

    -- how many finishes of a key came by a stamp
    by_more : (k t : ℕ) → finished_by k (done ++ q ∷ []) with_finish.finishes t ≡ finished_by k done r.finishes t + cond (leb later t && key == k) 1 0
    by_more k t =
        let one = count_one (is_finish_of k (done ++ q ∷ []) t) r.finishes (n, later) in
        let before = finished_by-append k t done (q ∷ []) r.finishes each_fin in
        let here : cond {A = ℕ} (is_finish_of k (done ++ q ∷ []) t (n, later)) 1 0 ≡ cond (leb later t && key == k) 1 0 =
        ap (λ o. cond {A = ℕ} (leb later t && option_map_or (λ q. key_of q == k) o false) 1 0) (get_end done q) in
        omega (arith, one, before, here)

    own_counted : (t : ℕ) → finished_by key (done ++ q ∷ []) with_finish.finishes t ≤ length (finished_changes key (done ++ q ∷ []) (finished_in with_finish))
    own_counted t =
        let more = by_more key t in
        let long : length (finished_changes key (done ++ q ∷ []) (finished_in with_finish)) ≡ length (finished_changes key done fin) + 1 = ap length own_changes ∙ length-append (finished_changes key done fin) (q ∷ []) in
        let before = A.counted key t in
        let one = at_most (leb later t && key == key) in
        omega (arith, more, long, before, one) where
          at_most : (b : Bool) → cond {A = ℕ} b 1 0 ≤ 1
          at_most true = omega arith
          at_most false = omega arith

    own_whole : (t : ℕ) → later ≤ t → finished_by key (done ++ q ∷ []) with_finish.finishes t ≡ length (finished_changes key (done ++ q ∷ []) (finished_in with_finish))
    own_whole t ge =
        let more = by_more key t in
        let long : length (finished_changes key (done ++ q ∷ []) (finished_in with_finish)) ≡ length (finished_changes key done fin) + 1 = ap length own_changes ∙ length-append (finished_changes key done fin) (q ∷ []) in
        let before = A.whole key t (omega (arith, low, ge)) in
        let one : cond {A = ℕ} (leb later t && key == key) 1 0 ≡ 1 = (λ i. cond {A = ℕ} (le-leb later t ge i && eq-eqb key key refl i) 1 0) in
        omega (arith, more, long, before, one)

    other_by : (k t : ℕ) → (key ≡ k → ⊥) → finished_by k (done ++ q ∷ []) with_finish.finishes t ≡ finished_by k done r.finishes t
    other_by k t ne =
        let more = by_more k t in
        let none : cond {A = ℕ} (leb later t && key == k) 1 0 ≡ 0 = (λ i. cond {A = ℕ} (leb later t && ne_eqb key k ne i) 1 0) ∙ and_false (leb later t) in
        omega (arith, more, none) where
          and_false : (b : Bool) → cond {A = ℕ} (b && false) 1 0 ≡ 0
          and_false true = refl
          and_false false = refl

    -- before that stamp the finishes are those from before
    pub by_before : (k t : ℕ) → t < later → finished_by k (done ++ q ∷ []) with_finish.finishes t ≡ finished_by k done r.finishes t
    by_before k t lt =
        let more = by_more k t in
        let none : cond {A = ℕ} (leb later t && key == k) 1 0 ≡ 0 = (λ i. cond {A = ℕ} (not_leb later t lt i && key == k) 1 0) in
        omega (arith, more, none) where
          not_leb : (m n : ℕ) → n < m → leb m n ≡ false
          not_leb m n lt = elim (leb m n) as (λ b. leb m n ≡ b → b ≡ false) [
            | true ↦ λ e. absurd (let le = leb-true m n e in omega (arith, lt, le))
            | false ↦ λ e. refl
          ] refl

    pub answered_finish : (next : ℕ → Option (List ℕ)) → is_finish reply ≡ true → is_told reply ≡ false → is_stopped reply ≡ false → (Known → MayReply q (cell key) false reply) → cell_left q reply (cell key) ≡ cell_after q (cell key) → next key ≡ cell_after q (cell key) → ((k : ℕ) → (key ≡ k → ⊥) → next k ≡ cell k)
        → Answered Known start (done ++ q ∷ []) (replies ++ reply ∷ []) with_finish later next
    answered_finish next finish untold goes m leaves own others = record {
      count = counted_more;
      lawful = λ known. more_lawful start done replies q reply A.count (A.lawful known) (may m known);
      fits = subst (λ l. Fits l r.refusals (replies ++ reply ∷ [])) (ap (λ i. fin ++ i ∷ []) A.count ∙ sym named_fin) (fits_finish replies reply fin r.refusals A.fits finish untold);
      cells = cells_more next (own ∙ sym leaves) others;
      going = goes_on start done replies q reply A.count goes A.going;
      left = by_key (λ k. cell_after_all (finished_changes k (done ++ q ∷ []) (finished_in with_finish)) (start k) ≡ next k) key
          (ap (λ l. cell_after_all l (start key)) own_changes ∙ changes-append (start key) (finished_changes key done fin) (q ∷ []) ∙ ap (cell_after q) (A.left key) ∙ sym own)
          (λ k ne. ap (λ l. cell_after_all l (start k)) (other_changes k ne) ∙ A.left k ∙ sym (others k ne));
      settled = by_key (λ k. unfinished_change (start k) k (done ++ q ∷ []) (finished_in with_finish) ref ≡ []) key own_settled other_settled;
      finishes = λ i e. let lt = names_within fin n A.finishes i (ap (λ l. names l i) (sym named_fin) ∙ e) in omega (arith, lt, longer);
      refusals = λ i e. let lt = A.refusals i e in omega (arith, lt, longer);
      counted = λ k t. by_key (λ k. finished_by k (done ++ q ∷ []) with_finish.finishes t ≤ length (finished_changes k (done ++ q ∷ []) (finished_in with_finish))) key (own_counted t)
          (λ k ne. let same = other_by k t ne in let before = A.counted k t in let long : length (finished_changes k (done ++ q ∷ []) (finished_in with_finish)) ≡ length (finished_changes k done fin) = ap length (other_changes k ne) in omega (arith, same, before, long)) k;
      whole = λ k t ge. by_key (λ k. finished_by k (done ++ q ∷ []) with_finish.finishes t ≡ length (finished_changes k (done ++ q ∷ []) (finished_in with_finish))) key (own_whole t ge)
          (λ k ne. other_by k t ne ∙ A.whole k t (omega (arith, low, ge)) ∙ ap length (sym (other_changes k ne))) k;
    }

-- what stays true
pub recorded : (Known : Type 0) (start : ℕ → Option (List ℕ)) (done : List Request) (replies : List Reply) (r : Told) (now : ℕ) (cell : ℕ → Option (List ℕ)) → Answered Known start done replies r now cell → Recorded Known start done replies r
recorded Known start done replies r now cell A = record { count = A.count; lawful = A.lawful; fits = A.fits; finishes = A.finishes; refusals = A.refusals; counted = A.counted }

-- Stopped is lawful always.
may_stop : (q : Request) (c : Option (List ℕ)) (stopped : Bool) → MayReply q c stopped Stopped
may_stop q c true = refl
may_stop q c false = inr refl

module _ (Known : Type 0) (start : ℕ → Option (List ℕ)) (done : List Request) (replies : List Reply) (r : Told) (q : Request) (R : Recorded Known start done replies r) where
  abbrev fin' : List ℕ
  fin' = finished_in r

  fins : AllByRecursion (λ (f : ℕ × ℕ). f.0 < length done) r.finishes
  fins = each_finish (length done) r.finishes R.finishes

  pub stopped_changes : (k : ℕ) → finished_changes k (done ++ q ∷ []) fin' ≡ finished_changes k done fin'
  stopped_changes k = finished_stays done q k fin' fin' [] [] (λ m lt. refl) (λ m lt. refl) (start k)
      (filter_none (λ (x : ℕ × Request). names fin' x.0) (own done q k) (each_number (λ m. names fin' m ≡ false) k (length done) (q ∷ []) (λ m low high. subst (λ m. names fin' m ≡ false) (let e : length done ≡ m = omega (arith, low, high) in e) (unnamed fin' (length done) R.finishes))))

  pub recorded_stopped : Recorded Known start (done ++ q ∷ []) (replies ++ Stopped ∷ []) r
  recorded_stopped =
      let longer : length (done ++ q ∷ []) ≡ length done + 1 = length-append done (q ∷ []) in
      record {
        count = length-append replies (Stopped ∷ []) ∙ ap (λ n. n + 1) R.count ∙ sym longer;
        lawful = λ known. more_lawful start done replies q Stopped R.count (R.lawful known) (may_stop q _ _);
        fits = fits_quiet replies Stopped fin' r.refusals R.fits refl refl;
        finishes = λ i e. let lt = R.finishes i e in omega (arith, lt, longer);
        refusals = λ i e. let lt = R.refusals i e in omega (arith, lt, longer);
        counted = λ k t.
            let same = finished_by-append k t done (q ∷ []) r.finishes fins in
            let long : length (finished_changes k (done ++ q ∷ []) fin') ≡ length (finished_changes k done fin') = ap length (stopped_changes k) in
            let before = R.counted k t in
            omega (arith, same, long, before);
      }

-- the same by less that is known
pub answered_by : (K L : Type 0) (start : ℕ → Option (List ℕ)) (done : List Request) (replies : List Reply) (r : Told) (now : ℕ) (cell : ℕ → Option (List ℕ)) → (L → K) → Answered K start done replies r now cell → Answered L start done replies r now cell
answered_by K L start done replies r now cell f A = record {
  count = A.count;
  lawful = λ known. A.lawful (f known);
  fits = A.fits;
  cells = A.cells;
  going = A.going;
  left = A.left;
  settled = A.settled;
  finishes = A.finishes;
  refusals = A.refusals;
  counted = A.counted;
  whole = A.whole;
}

pub recorded_by : (K L : Type 0) (start : ℕ → Option (List ℕ)) (done : List Request) (replies : List Reply) (r : Told) → (L → K) → Recorded K start done replies r → Recorded L start done replies r
recorded_by K L start done replies r f R = record { count = R.count; lawful = λ known. R.lawful (f known); fits = R.fits; finishes = R.finishes; refusals = R.refusals; counted = R.counted }
