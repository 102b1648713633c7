-- Why requests were refused follows from where a state stands.
use Rattle.std.proofs.Common.{◌≡◌, inl, inr, ℕ, zero, suc, ◌+◌, ◌<◌, ◌≤◌, ◌==◌, ◌||◌, List, [], ◌∷◌, ◌++◌, map, take, length, refl, sym, ◌∙◌, ap, subst, arith, true, false, Bool, cond, Option, Some, None, append_assoc}
use Rattle.std.specs.Prelude.{option_map}
use Rattle.std.specs.List.{AllByRecursion, count_by, slice_get}
use Rattle.std.proofs.lemmas.Bool.{eq-eqb, cases_lt}
use Rattle.std.proofs.lemmas.List.{map-append}
use Rattle.std.proofs.lemmas.List.Sums.{sum_by-cons}
use Rattle.fs_model.specs.declared.model.Request.{Request}
use Rattle.fs_model.specs.declared.model.Request.TheVariants.{Put, Get, Delete}
use Rattle.fs_model.specs.declared.model.Reply.{Reply}
use Rattle.fs_model.specs.declared.model.Reply.TheVariants as replies
use Rattle.fs_model.specs.Cells.{key_of}
use Rattle.fs_model.specs.Lawful.{MayReply, IsLawfulFor, cell_left, is_finish, is_stopped}
use Rattle.fs_model.specs.Changes.{requests_of}
use Rattle.log_entry.specs.declared.entry_limits.TheConstants.{LAST_PUT_VERSION}
use Rattle.chunk_map.specs.declared.layouts.Geometry.{Geometry}
use Rattle.chunk_map.specs.Layouts.{layout_of, owner}
use Rattle.store_image.specs.Facts.{In}
use Rattle.store_image.proofs.Clients.{in_either, in_front}
use Rattle.group_laws.proofs.Clients.{in_map, of_map}
use Rattle.headline.specs.Limits.{IsAsked, may_change, version_of, changes_asked}
use Rattle.engine_laws.specs.RefusalCauses.{raised, raised_by, HasCause, HaveCauses}
use Rattle.engine_laws.specs.WorkerMoves.{requests_for}
use Rattle.engine_laws.specs.Engine.{Engine, Answer, line}
use Rattle.engine_laws.specs.Keys.{Served, served_as, pairs}
use Rattle.engine_laws.specs.Stands.{Origin, start_of, Stands}
use Rattle.engine_laws.specs.Causes.{Causes}
use Rattle.engine_laws.proofs.Numbers.{numbered, all_in, in_all, in_requests}
use Rattle.engine_laws.proofs.Promises.{stands_now, requests_are, waits_none, in_from}

count_cons : {X : Type 0} (p : X → Bool) (x : X) (xs : List X) → count_by p (x ∷ xs) ≡ cond (p x) 1 0 + count_by p xs
count_cons p x xs = sum_by-cons (λ y. cond (p y) 1 0) x xs

abbrev pub asked_in : Served → ℕ × Request
asked_in x = (x.number, x.request)

-- only a change is finished
finish_changes : (q : Request) (c : Option (List ℕ)) (s : Bool) (r : Reply) → MayReply q c s r → is_finish r ≡ true → may_change (key_of q) q ≡ true
finish_changes q c true r m f = absurd (let it : is_finish replies.Stopped ≡ true = ap is_finish (sym m) ∙ f in cc it)
finish_changes (Put k v) c false r m f = eq-eqb k k refl
finish_changes (Delete k) c false r m f = eq-eqb k k refl
finish_changes (Get k) None false r (inl is) f = absurd (let it : is_finish replies.Absent ≡ true = ap is_finish (sym is) ∙ f in cc it)
finish_changes (Get k) (Some v) false r (inl is) f = absurd (let it : is_finish (replies.Value v) ≡ true = ap is_finish (sym is) ∙ f in cc it)
finish_changes (Get k) c false replies.Stored (inr bad) f = absurd (cc bad)
finish_changes (Get k) c false (replies.Value v) (inr bad) f = absurd (cc f)
finish_changes (Get k) c false replies.Absent (inr bad) f = absurd (cc f)
finish_changes (Get k) c false replies.Deleted (inr bad) f = absurd (cc bad)
finish_changes (Get k) c false replies.Full (inr bad) f = absurd (cc f)
finish_changes (Get k) c false replies.VersionsSpent (inr bad) f = absurd (cc f)
finish_changes (Get k) c false replies.TooLong (inr bad) f = absurd (cc f)
finish_changes (Get k) c false replies.Stopped (inr bad) f = absurd (cc f)

-- only changes are finished
pub Changes : Request × Reply → Type 0
Changes x = is_finish x.1 ≡ true → may_change (key_of x.0) x.0 ≡ true

pub lawful_changes : (c : Option (List ℕ)) (s : Bool) (xs : List (Request × Reply)) → IsLawfulFor c s xs → AllByRecursion Changes xs
unfolding Changes
lawful_changes c s [] h = tt
lawful_changes c s (x ∷ xs) h = (λ f. finish_changes x.0 c s x.1 h.0 f, lawful_changes (cell_left x.0 x.1 c) (s || is_stopped x.1) xs h.1)

-- the last version rises by the changes at most
rises_one : (k : ℕ) (x : Served) (a : ℕ) → (is_finish x.answer.reply ≡ true → may_change (key_of x.request) x.request ≡ true) → key_of x.request ≡ k → raised a x.answer.reply ≤ a + cond {A = ℕ} (may_change k x.request) 1 0
rises_one k x a m key = by (is_finish x.answer.reply) refl where
  by : (b : Bool) → is_finish x.answer.reply ≡ b → cond {A = ℕ} b (a + 1) a ≤ a + cond {A = ℕ} (may_change k x.request) 1 0
  by true f = let one = ap (λ t. cond {A = ℕ} t 1 0) (ap (λ j. may_change j x.request) (sym key) ∙ m f) in omega (arith, one)
  by false f = omega arith

rises : (k : ℕ) (xs : List Served) (a : ℕ) → AllByRecursion Changes (pairs xs) → AllByRecursion (λ (x : Served). key_of x.request ≡ k) xs → raised_by a (pairs xs) ≤ a + count_by (λ (y : ℕ × Request). may_change k y.1) (map asked_in xs)
unfolding Changes
rises k [] a changes keys = omega arith
rises k (x ∷ xs) a changes keys =
    let rest = rises k xs (raised a x.answer.reply) changes.1 keys.1 in
    let count = count_cons (λ (y : ℕ × Request). may_change k y.1) (asked_in x) (map asked_in xs) in
    let one = rises_one k x a changes.0 keys.0 in
    omega (arith, rest, count, one)

all_front : {X : Type 0} (P : X → Type 0) (xs ys : List X) → AllByRecursion P (xs ++ ys) → AllByRecursion P xs
all_front P [] ys h = tt
all_front P (x ∷ xs) ys h = (h.0, all_front P xs ys h.1)

cause_at : (l : Geometry) (a : ℕ) (front rest : List Served) (x : Served) → HaveCauses l a (pairs (front ++ x ∷ rest)) → HasCause l (raised_by a (pairs front)) x.request x.answer.reply
cause_at l a [] rest x h = h.0
cause_at l a (y ∷ ys) rest x h = cause_at l (raised a y.answer.reply) ys rest x h.1

split_at : {X : Type 0} (x : X) (xs : List X) → In x xs → (front : List X) × (rest : List X) × (xs ≡ front ++ x ∷ rest)
split_at x [] i = absurd i
split_at x (y ∷ ys) (inl e) = ([], ys, ap (λ z. z ∷ ys) (sym e))
split_at x (y ∷ ys) (inr i) = let r = split_at x ys i in (y ∷ r.0, r.1, ap (λ zs. y ∷ zs) r.2)

-- the changes of a key before one of its requests are among the requests before it
before : (k m : ℕ) (xs : List Request) (front rest : List (ℕ × Request)) (n : ℕ) (q : Request) → numbered k m xs ≡ front ++ (n, q) ∷ rest → (i : ℕ) × (n ≡ m + i) × (count_by (λ (y : ℕ × Request). may_change k y.1) front ≤ count_by (may_change k) (take i xs))
before k m [] [] rest n q e = absurd (cc e)
before k m [] (y ∷ ys) rest n q e = absurd (cc e)
before k m (x ∷ xs) front rest n q e = by (key_of x == k) front e (λ ys t. before k (m + 1) xs ys rest n q t) where
  Found : List (ℕ × Request) → List Request → ℕ → Type 0
  Found ys zs from = (i : ℕ) × (n ≡ from + i) × (count_by (λ (y : ℕ × Request). may_change k y.1) ys ≤ count_by (may_change k) (take i zs))

  by : (b : Bool) (ys : List (ℕ × Request)) → cond b ((m, x) ∷ numbered k (m + 1) xs) (numbered k (m + 1) xs) ≡ ys ++ (n, q) ∷ rest → ((zs : List (ℕ × Request)) → numbered k (m + 1) xs ≡ zs ++ (n, q) ∷ rest → (i : ℕ) × (n ≡ m + 1 + i) × (count_by (λ (y : ℕ × Request). may_change k y.1) zs ≤ count_by (may_change k) (take i xs)))
      → (i : ℕ) × (n ≡ m + i) × (count_by (λ (y : ℕ × Request). may_change k y.1) ys ≤ count_by (may_change k) (take i (x ∷ xs)))
  by true [] e again = (0, (let at : (m, x) ≡ (n, q) = cc e in let same = ap (λ (z : ℕ × Request). z.0) at in omega (arith, same)), omega arith)
  by true (y ∷ ys) e again =
      let tail : numbered k (m + 1) xs ≡ ys ++ (n, q) ∷ rest = cc e in
      let head : (m, x) ≡ y = cc e in
      let r = again ys tail in
      let at = r.1 in
      let more = r.2 in
      let front = count_cons (λ (z : ℕ × Request). may_change k z.1) y ys in
      let all = count_cons (may_change k) x (take r.0 xs) in
      let same = ap (λ (z : ℕ × Request). cond {A = ℕ} (may_change k z.1) 1 0) head in
      (suc r.0, omega (arith, at), omega (arith, more, front, all, same))
  by false ys e again =
      let r = again ys e in
      let at = r.1 in
      let more = r.2 in
      let all = count_cons (may_change k) x (take r.0 xs) in
      (suc r.0, omega (arith, at), omega (arith, more, all))

pub asked_is : (o : Option Request) (k : ℕ) → option_map key_of o ≡ Some k → (q : Request) × (o ≡ Some q) × (key_of q ≡ k)
asked_is None k e = absurd (cc e)
asked_is (Some q) k e = (q, refl, cc e)

-- The answers of one key, from its last version on: they are for the first of its requests in a trace. Each refusal has its cause by the changes that the trace has of the key before it.
module _ (l : Geometry) (start : ℕ) (k : ℕ) (trace : List Request) (served : List Served) (waits : List (ℕ × Request)) (split : requests_of k trace ≡ map asked_in served ++ waits)
    (changes : AllByRecursion Changes (pairs served)) (caused : HaveCauses l start (pairs served)) (x : Served) (there : In x served) where
  own : (y : Served) → In y served → key_of y.request ≡ k
  own y i = (in_requests k trace (asked_in y) (subst (λ (ys : List (ℕ × Request)). In (asked_in y) ys) (sym split) (in_front (asked_in y) (map asked_in served) waits (in_map asked_in y served i)))).1

  pub cause_served : HasCause l (start + changes_asked k (take x.number trace)) x.request x.answer.reply
  cause_served =
      let s = split_at x served there in
      let whole : requests_of k trace ≡ map asked_in s.0 ++ asked_in x ∷ (map asked_in s.1 ++ waits) =
      split ∙ ap (λ ys. map asked_in ys ++ waits) s.2 ∙ ap (λ ys. ys ++ waits) (map-append asked_in s.0 (x ∷ s.1)) ∙ append_assoc (map asked_in s.0) (asked_in x ∷ map asked_in s.1) waits in
      let b = before k 0 trace (map asked_in s.0) (map asked_in s.1 ++ waits) x.number x.request whole in
      let at : b.0 ≡ x.number = (let i = b.1 in omega (arith, i)) in
      let few = subst (λ (m : ℕ). count_by (λ (y : ℕ × Request). may_change k y.1) (map asked_in s.0) ≤ changes_asked k (take m trace)) at b.2 in
      let C = cause_at l start s.0 s.1 x (subst (λ (ys : List Served). HaveCauses l start (pairs ys)) s.2 caused) in
      let front = all_front Changes (pairs s.0) (pairs (x ∷ s.1)) (subst (AllByRecursion Changes) (ap pairs s.2 ∙ map-append served_as s.0 (x ∷ s.1)) changes) in
      let keys = all_front (λ (y : Served). key_of y.request ≡ k) s.0 (x ∷ s.1) (subst (λ (ys : List Served). AllByRecursion (λ (y : Served). key_of y.request ≡ k) ys) s.2 (in_all (λ (y : Served). key_of y.request ≡ k) served own)) in
      let up = rises k s.0 start front keys in
      record {
        spent = λ r. (let most = C.spent r in omega (arith, up, few, most));
        long = C.long;
      }

module _ (o : Origin) (e : Engine) (S : Stands o e) (more : List Request) (n : ℕ) (q : Request) (a : Answer) (is : slice_get (e.given ++ more) n ≡ Some q) (ans : e.answer n ≡ Some a) where
  abbrev k : ℕ
  k = key_of q

  abbrev served : List Served
  served = (S.keys k).served

  -- those of the key without an answer
  abbrev waits : List (ℕ × Request)
  waits = (line e k ++ requests_for k (e.backlog (owner e.layout k))) ++ numbered k (length e.given) more

  asked_there : In (n, q) (requests_of k (e.given ++ more))
  asked_there = subst (λ (m : ℕ). In (m, q) (requests_of k (e.given ++ more))) (let z : 0 + n ≡ n = omega arith in z) (in_from 0 (e.given ++ more) n q is)

  in_served : In (n, q) (map asked_in served)
  in_served = elim (in_either (n, q) (map asked_in served) _ (subst (λ (l : List (ℕ × Request)). In (n, q) l) (requests_are o e (stands_now o e S) more k) asked_there)) [
    | inl i ↦ i
    | inr j ↦ absurd (let none = all_in (λ (x : ℕ × Request). e.answer x.0 ≡ None) _ (n, q) (waits_none o e (stands_now o e S) more k) j in cc (none, ans))
  ]

  -- its cause
  pub cause_of : HasCause (layout_of o.found) (version_of o.found k + changes_asked k (take n (e.given ++ more))) q a.reply
  cause_of =
      let x = of_map asked_in (n, q) served in_served in
      let number : x.0.number ≡ n = sym (ap (λ (y : ℕ × Request). y.0) x.2) in
      let request : x.0.request ≡ q = sym (ap (λ (y : ℕ × Request). y.1) x.2) in
      let here = all_in (λ (y : Served). e.answer y.number ≡ Some y.answer) served x.0 (S.keys k).answers x.1 in
      let both : Some x.0.answer ≡ Some a = sym here ∙ ap e.answer number ∙ ans in
      let answer : x.0.answer ≡ a = cc both in
      let C = cause_served (layout_of o.found) (version_of o.found k) k (e.given ++ more) served waits (requests_are o e (stands_now o e S) more k) (lawful_changes (start_of o k) false (pairs served) (S.keys k).history.lawful) (S.causes k) x.0 x.1 in
      subst (λ (b : Answer). HasCause (layout_of o.found) (version_of o.found k + changes_asked k (take n (e.given ++ more))) q b.reply) answer
      (subst (λ (y : Request). HasCause (layout_of o.found) (version_of o.found k + changes_asked k (take n (e.given ++ more))) y x.0.answer.reply) request
      (subst (λ (m : ℕ). HasCause (layout_of o.found) (version_of o.found k + changes_asked k (take m (e.given ++ more))) x.0.request x.0.answer.reply) number C))

-- who was answered was given
pub given_front : (xs more : List Request) (i : ℕ) → i < length xs → slice_get (xs ++ more) i ≡ slice_get xs i
given_front [] more i lt = absurd (omega (arith, lt))
given_front (x ∷ xs) more zero lt = refl
given_front (x ∷ xs) more (suc i) lt = given_front xs more i (omega (arith, lt))

asked_given : (o : Origin) (e : Engine) (S : Stands o e) (more : List Request) (n k : ℕ) (a : Answer) → e.answer n ≡ Some a → IsAsked (e.given ++ more) n k → IsAsked e.given n k
asked_given o e S more n k a ans asked = elim (cases_lt n (length e.given)) [
  | inl lt ↦ ap (option_map key_of) (sym (given_front e.given more n lt)) ∙ asked
  | inr ge ↦ absurd (let none = S.unasked n ge in cc (none, ans))
]

pub causes : (o : Origin) (e : Engine) → Stands o e → Causes o e
causes o e S = record {
  full = λ more n k a ans reply asked ample. S.rooms.full n k a ans reply (asked_given o e S more n k a ans asked) more ample;
  spent = λ more n k a ans reply asked.
      let q = asked_is (slice_get (e.given ++ more) n) k asked in
      subst (λ (j : ℕ). LAST_PUT_VERSION ≤ version_of o.found j + changes_asked j (take n (e.given ++ more))) q.2 ((cause_of o e S more n q.0 a q.1 ans).spent reply);
  long = λ more n q a ans reply is. (cause_of o e S more n q a is ans).long reply;
}
