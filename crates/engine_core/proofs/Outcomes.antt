-- The replies that are kept are some that the state may give, and the report is that of the state.
use Rattle.std.proofs.Common.{◌≡◌, inl, inr, ℕ, zero, suc, ◌+◌, List, [], ◌∷◌, ◌++◌, length, map, Bool, true, false, cond, Option, Some, None, refl, sym, ◌∙◌, ap, subst, arith, append-nil}
use Rattle.std.specs.List.{AllByRecursion, slice_get}
use Rattle.std.specs.Option.{option_map_or}
use Rattle.std.proofs.lemmas.List.{map-append}
use Rattle.fs_model.specs.declared.model.Request.{Request}
use Rattle.fs_model.specs.declared.model.Request.TheVariants.{Put, Get, Delete}
use Rattle.fs_model.specs.declared.model.Reply.{Reply}
use Rattle.fs_model.specs.declared.model.Reply.TheVariants.{Stored, Value, Absent, Deleted, Full, VersionsSpent, TooLong, Stopped}
use Rattle.fs_model.specs.Lawful.{IsLawful, is_finish, is_told, is_stopped}
use Rattle.core_room.specs.declared.types.Shortage.{Shortage}
use Rattle.core_room.specs.declared.types.Shortage.TheVariants as causes
use Rattle.headline.specs.Headline.{Told, Answers}
use Rattle.headline.specs.Kinds.{AreReplies, is_reply_to}
use Rattle.pm_region.specs.State.{State, IsTelling}
use Rattle.engine_laws.specs.Engine as engines
use Rattle.engine_laws.specs.Engine.{Engine}
use Rattle.engine_laws.specs.Stands.{Origin, Stands, start_of}
use Rattle.engine_laws.specs.Promises.{HasStopped, Promised}
use Rattle.engine_laws.specs.Reports.{reply_of, replies_from, named_at, named_from, told_of, AllAnswered}
use Rattle.engine_laws.proofs.Clients.{all_append, promised}
use Rattle.engine_core.specs.declared.types.Stamped.{Stamped}
use Rattle.engine_core.specs.declared.run_report.Finish.{Finish}
use Rattle.engine_core.specs.declared.run_report.Refusal.{Refusal}
use Rattle.engine_core.specs.Answers.{ShowsAnswer, IsCause, ShowsCause, reply_to, kept_at, is_read}
use Rattle.engine_core.specs.Reports.{reply_in, finish_in, refusal_in, refusal_of, finishes_in, refusals_in, told_by, ShowsWhy, Listed, IsReport, ReportsOn}

-- what a get found is no finish, no refusal and no stop, and a get may be answered so
record Quiet (q : Request) (r : Reply) : Type 0 where
  pub finish : is_finish r ≡ false
  pub told : is_told r ≡ false
  pub stopped : is_stopped r ≡ false
  pub kind : is_reply_to q r ≡ true

quiet : (q : Request) (r : Reply) → is_read q r ≡ true → Quiet q r
quiet (Get k) (Value v) h = record { finish = refl; told = refl; stopped = refl; kind = refl }
quiet (Get k) Absent h = record { finish = refl; told = refl; stopped = refl; kind = refl }
quiet (Get k) Stored h = absurd (cc h)
quiet (Get k) Deleted h = absurd (cc h)
quiet (Get k) Full h = absurd (cc h)
quiet (Get k) VersionsSpent h = absurd (cc h)
quiet (Get k) TooLong h = absurd (cc h)
quiet (Get k) Stopped h = absurd (cc h)
quiet (Put k v) r h = absurd (cc h)
quiet (Delete k) r h = absurd (cc h)

told_cause : (s : Shortage) → is_told (reply_to s) ≡ true
told_cause (causes.Room c) = refl
told_cause (causes.Block c) = refl
told_cause (causes.Versions last) = refl
told_cause (causes.Length n) = refl

abbrev pair : Finish → ℕ × ℕ
pair f = (f.request, f.stamp)

abbrev named : Refusal → ℕ × Reply
named x = (x.request, reply_to x.why)

-- an item of the refusals from a number on
front : (n : ℕ) (o : Option engines.Answer) (rest : List (ℕ × Reply)) (y : ℕ × Reply) → ((i : ℕ) → slice_get rest i ≡ Some y → is_told y.1 ≡ true) → (j : ℕ) → slice_get (named_at is_told (λ a. a.reply) n o ++ rest) j ≡ Some y → is_told y.1 ≡ true
front n None rest y h j e = h j e
front n (Some a) rest y h j e = by (is_told a.reply) refl j e where
  by : (b : Bool) → is_told a.reply ≡ b → (j : ℕ) → slice_get (cond b ((n, a.reply) ∷ []) [] ++ rest) j ≡ Some y → is_told y.1 ≡ true
  by true t zero e = let same : (n, a.reply) ≡ y = cc e in ap (λ (z : ℕ × Reply). is_told z.1) (sym same) ∙ t
  by true t (suc j) e = h j e
  by false t j e = h j e

module _ (K : Type 0) where
  -- a test that fails on what a get found has the same answer
  same_test : (test : Reply → Bool) → ((q : Request) (r : Reply) → is_read q r ≡ true → test r ≡ false) → (asked : Option Request) (o : Option engines.Answer) (x : Option Stamped) → ShowsAnswer K asked o x → test (reply_in x) ≡ test (reply_of o)
  same_test test fails asked None None h = refl
  same_test test fails asked None (Some x) h = absurd h
  same_test test fails asked (Some a) None h = absurd h
  same_test test fails asked (Some a) (Some x) h = elim h.reply [
    | inl same ↦ ap test same
    | inr read ↦ fails read.0 x.reply read.3 ∙ sym (fails read.0 a.reply read.2)
  ]

  one_finish : (n : ℕ) (asked : Option Request) (o : Option engines.Answer) (x : Option Stamped) → ShowsAnswer K asked o x → map pair (finish_in n x) ≡ named_at is_finish (λ a. a.stamp) n o
  one_finish n asked None None h = refl
  one_finish n asked None (Some x) h = absurd h
  one_finish n asked (Some a) None h = absurd h
  one_finish n asked (Some a) (Some x) h =
      let test : is_finish x.reply ≡ is_finish a.reply = same_test is_finish (λ q r i. (quiet q r i).finish) asked (Some a) (Some x) h in
      ap (λ b. map pair (cond b (record { request = n; stamp = x.stamp } ∷ []) [])) test ∙ by (is_finish a.reply) where
        by : (b : Bool) → map pair (cond b (record { request = n; stamp = x.stamp } ∷ []) []) ≡ cond b ((n, a.stamp) ∷ []) []
        by true = ap (λ t. (n, t) ∷ []) h.stamp
        by false = refl

  one_refusal : (n : ℕ) (asked : Option Request) (o : Option engines.Answer) (x : Option Stamped) → ShowsAnswer K asked o x → map named (refusal_in n x) ≡ named_at is_told (λ a. a.reply) n o
  one_refusal n asked None None h = refl
  one_refusal n asked None (Some x) h = absurd h
  one_refusal n asked (Some a) None h = absurd h
  one_refusal n asked (Some a) (Some x) h = by x.refusal h.cause where
    by : (c : Option Shortage) → IsCause a.reply c → map named (refusal_of n c) ≡ cond (is_told a.reply) ((n, a.reply) ∷ []) []
    by None quiet = sym (ap (λ b. cond b ((n, a.reply) ∷ []) []) quiet)
    by (Some s) is = sym (ap (λ b. cond b ((n, a.reply) ∷ []) []) (ap is_told is ∙ told_cause s) ∙ ap (λ r. (n, r) ∷ []) is)

  shows_one : (all : List Request) (n : ℕ) (o : Option engines.Answer) (x : Option Stamped) → ShowsAnswer K (slice_get all n) o x → AllByRecursion (ShowsWhy all) (refusal_in n x)
  shows_one all n None None h = tt
  shows_one all n None (Some x) h = absurd h
  shows_one all n (Some a) None h = absurd h
  shows_one all n (Some a) (Some x) h = by x.refusal h.shows where
    by : (c : Option Shortage) → (q : Request) × (slice_get all n ≡ Some q) × ShowsCause q c → AllByRecursion (ShowsWhy all) (refusal_of n c)
    by None s = tt
    by (Some why) s = (s, tt)

  -- the refusals of the answers from number n on show their causes
  shows_from : (all : List Request) (ans : ℕ → Option engines.Answer) (n : ℕ) (ks : List (Option Stamped)) → ((i : ℕ) → ShowsAnswer K (slice_get all (n + i)) (ans (n + i)) (kept_at ks i)) → AllByRecursion (ShowsWhy all) (refusals_in n ks)
  shows_from all ans n [] h = tt
  shows_from all ans n (x ∷ ks) h =
      let here : n + 0 ≡ n = omega arith in
      all_append (ShowsWhy all) (refusal_in n x) (refusals_in (n + 1) ks)
      (shows_one all n (ans n) x (subst (λ m. ShowsAnswer K (slice_get all m) (ans m) x) here (h 0)))
      (shows_from all ans (n + 1) ks (λ i. let on : n + suc i ≡ n + 1 + i = omega arith in subst (λ m. ShowsAnswer K (slice_get all m) (ans m) (kept_at ks i)) on (h (suc i))))

  module _ (ans : ℕ → Option engines.Answer) where
    -- of those from number n on
    abbrev Shown : ℕ → List Request → List (Option Stamped) → Type 0
    Shown n qs ks = (i : ℕ) → ShowsAnswer K (slice_get qs i) (ans (n + i)) (kept_at ks i)

    first : (n : ℕ) (q : Request) (qs : List Request) (x : Option Stamped) (ks : List (Option Stamped)) → Shown n (q ∷ qs) (x ∷ ks) → ShowsAnswer K (Some q) (ans n) x
    first n q qs x ks h = let z : n + 0 ≡ n = omega arith in subst (λ m. ShowsAnswer K (Some q) (ans m) x) z (h 0)

    next : (n : ℕ) (q : Request) (qs : List Request) (x : Option Stamped) (ks : List (Option Stamped)) → Shown n (q ∷ qs) (x ∷ ks) → Shown (n + 1) qs ks
    next n q qs x ks h i = let z : n + suc i ≡ n + 1 + i = omega arith in subst (λ m. ShowsAnswer K (slice_get qs i) (ans m) (kept_at ks i)) z (h (suc i))

    abbrev Alike : List Request → List (Option Stamped) → ℕ → Type 0
    Alike qs ks count = (count ≡ length qs) × (count ≡ length ks)

    finishes : (n count : ℕ) (qs : List Request) (ks : List (Option Stamped)) → Alike qs ks count → Shown n qs ks → map pair (finishes_in n ks) ≡ named_from is_finish (λ a. a.stamp) ans n count
    finishes n zero [] [] l h = refl
    finishes n zero (q ∷ qs) ks l h = absurd (let e = l.0 in omega (arith, e))
    finishes n zero [] (x ∷ ks) l h = absurd (let e = l.1 in omega (arith, e))
    finishes n (suc count) [] ks l h = absurd (let e = l.0 in omega (arith, e))
    finishes n (suc count) (q ∷ qs) [] l h = absurd (let e = l.1 in omega (arith, e))
    finishes n (suc count) (q ∷ qs) (x ∷ ks) l h =
        map-append pair (finish_in n x) (finishes_in (n + 1) ks)
        ∙ (λ i. one_finish n (Some q) (ans n) x (first n q qs x ks h) i ++ finishes (n + 1) count qs ks ((let e = l.0 in omega (arith, e)), (let e = l.1 in omega (arith, e))) (next n q qs x ks h) i)

    refusals : (n count : ℕ) (qs : List Request) (ks : List (Option Stamped)) → Alike qs ks count → Shown n qs ks → map named (refusals_in n ks) ≡ named_from is_told (λ a. a.reply) ans n count
    refusals n zero [] [] l h = refl
    refusals n zero (q ∷ qs) ks l h = absurd (let e = l.0 in omega (arith, e))
    refusals n zero [] (x ∷ ks) l h = absurd (let e = l.1 in omega (arith, e))
    refusals n (suc count) [] ks l h = absurd (let e = l.0 in omega (arith, e))
    refusals n (suc count) (q ∷ qs) [] l h = absurd (let e = l.1 in omega (arith, e))
    refusals n (suc count) (q ∷ qs) (x ∷ ks) l h =
        map-append named (refusal_in n x) (refusals_in (n + 1) ks)
        ∙ (λ i. one_refusal n (Some q) (ans n) x (first n q qs x ks h) i ++ refusals (n + 1) count qs ks ((let e = l.0 in omega (arith, e)), (let e = l.1 in omega (arith, e))) (next n q qs x ks h) i)

    -- where the region tells, the replies are those of the state
    exact_one : K → (asked : Option Request) (o : Option engines.Answer) (x : Option Stamped) → ShowsAnswer K asked o x → reply_in x ≡ reply_of o
    exact_one k asked None None h = refl
    exact_one k asked None (Some x) h = absurd h
    exact_one k asked (Some a) None h = absurd h
    exact_one k asked (Some a) (Some x) h = h.known k

    exact : K → (n count : ℕ) (qs : List Request) (ks : List (Option Stamped)) → Alike qs ks count → Shown n qs ks → map reply_in ks ≡ replies_from ans n count
    exact k n zero [] [] l h = refl
    exact k n zero (q ∷ qs) ks l h = absurd (let e = l.0 in omega (arith, e))
    exact k n zero [] (x ∷ ks) l h = absurd (let e = l.1 in omega (arith, e))
    exact k n (suc count) [] ks l h = absurd (let e = l.0 in omega (arith, e))
    exact k n (suc count) (q ∷ qs) [] l h = absurd (let e = l.1 in omega (arith, e))
    exact k n (suc count) (q ∷ qs) (x ∷ ks) l h = (λ i. exact_one k (Some q) (ans n) x (first n q qs x ks h) i ∷ exact k (n + 1) count qs ks ((let e = l.0 in omega (arith, e)), (let e = l.1 in omega (arith, e))) (next n q qs x ks h) i)

    -- each is of a kind that its request can have
    kind_one : (q : Request) (o : Option engines.Answer) (x : Option Stamped) → ShowsAnswer K (Some q) o x → is_reply_to q (reply_of o) ≡ true → is_reply_to q (reply_in x) ≡ true
    kind_one q None None h is = is
    kind_one q None (Some x) h is = absurd h
    kind_one q (Some a) None h is = absurd h
    kind_one q (Some a) (Some x) h is = elim h.reply [
      | inl same ↦ ap (is_reply_to q) same ∙ is
      | inr read ↦ (let both : Some q ≡ Some read.0 = read.1 in let same : q ≡ read.0 = cc both in ap (λ z. is_reply_to z x.reply) same ∙ (quiet read.0 x.reply read.3).kind)
    ]

    kinds : (n count : ℕ) (qs : List Request) (ks : List (Option Stamped)) → Alike qs ks count → Shown n qs ks → AreReplies qs (replies_from ans n count) → AreReplies qs (map reply_in ks)
    kinds n zero [] [] l h a = tt
    kinds n zero (q ∷ qs) ks l h a = absurd (let e = l.0 in omega (arith, e))
    kinds n zero [] (x ∷ ks) l h a = absurd (let e = l.1 in omega (arith, e))
    kinds n (suc count) [] ks l h a = absurd (let e = l.0 in omega (arith, e))
    kinds n (suc count) (q ∷ qs) [] l h a = absurd (let e = l.1 in omega (arith, e))
    kinds n (suc count) (q ∷ qs) (x ∷ ks) l h a = (kind_one q (ans n) x (first n q qs x ks h) a.0, kinds (n + 1) count qs ks ((let e = l.0 in omega (arith, e)), (let e = l.1 in omega (arith, e))) (next n q qs x ks h) a.1)

    -- a reply at a number passes the same tests
    tests : (test : Reply → Bool) → ((q : Request) (r : Reply) → is_read q r ≡ true → test r ≡ false) → (n count : ℕ) (qs : List Request) (ks : List (Option Stamped)) → Alike qs ks count → Shown n qs ks
        → (i : ℕ) → option_map_or test (slice_get (map reply_in ks) i) false ≡ option_map_or test (slice_get (replies_from ans n count) i) false
    tests test fails n zero [] [] l h i = refl
    tests test fails n zero (q ∷ qs) ks l h i = absurd (let e = l.0 in omega (arith, e))
    tests test fails n zero [] (x ∷ ks) l h i = absurd (let e = l.1 in omega (arith, e))
    tests test fails n (suc count) [] ks l h i = absurd (let e = l.0 in omega (arith, e))
    tests test fails n (suc count) (q ∷ qs) [] l h i = absurd (let e = l.1 in omega (arith, e))
    tests test fails n (suc count) (q ∷ qs) (x ∷ ks) l h zero = same_test test fails (Some q) (ans n) x (first n q qs x ks h)
    tests test fails n (suc count) (q ∷ qs) (x ∷ ks) l h (suc i) = tests test fails (n + 1) count qs ks ((let e = l.0 in omega (arith, e)), (let e = l.1 in omega (arith, e))) (next n q qs x ks h) i

    -- and a refusal is kept as it was fixed
    refused_one : (asked : Option Request) (o : Option engines.Answer) (x : Option Stamped) (r : Reply) → ShowsAnswer K asked o x → is_told r ≡ true → reply_of o ≡ r → reply_in x ≡ r
    refused_one asked None None r h t e = e
    refused_one asked None (Some x) r h t e = absurd h
    refused_one asked (Some a) None r h t e = absurd h
    refused_one asked (Some a) (Some x) r h t e = elim h.reply [
      | inl same ↦ same ∙ e
      | inr read ↦ absurd (let off : is_told a.reply ≡ false = (quiet read.0 a.reply read.2).told in let on : is_told a.reply ≡ true = ap is_told e ∙ t in cc (on, off))
    ]

    refused : (n count : ℕ) (qs : List Request) (ks : List (Option Stamped)) → Alike qs ks count → Shown n qs ks → (i : ℕ) (r : Reply) → is_told r ≡ true → slice_get (replies_from ans n count) i ≡ Some r → slice_get (map reply_in ks) i ≡ Some r
    refused n zero [] [] l h i r t e = e
    refused n zero (q ∷ qs) ks l h i r t e = absurd (let z = l.0 in omega (arith, z))
    refused n zero [] (x ∷ ks) l h i r t e = absurd (let z = l.1 in omega (arith, z))
    refused n (suc count) [] ks l h i r t e = absurd (let z = l.0 in omega (arith, z))
    refused n (suc count) (q ∷ qs) [] l h i r t e = absurd (let z = l.1 in omega (arith, z))
    refused n (suc count) (q ∷ qs) (x ∷ ks) l h zero r t e = ap Some (refused_one (Some q) (ans n) x r (first n q qs x ks h) t (cc e))
    refused n (suc count) (q ∷ qs) (x ∷ ks) l h (suc i) r t e = refused (n + 1) count qs ks ((let z = l.0 in omega (arith, z)), (let z = l.1 in omega (arith, z))) (next n q qs x ks h) i r t e

    -- one is Stopped only for a cause
    stops : (M N : Type 0) → (M → N) → (n count : ℕ) (qs : List Request) (ks : List (Option Stamped)) → Alike qs ks count → Shown n qs ks → AllByRecursion (λ r. is_stopped r ≡ true → M) (replies_from ans n count) → AllByRecursion (λ r. is_stopped r ≡ true → N) (map reply_in ks)
    stops M N f n zero [] [] l h a = tt
    stops M N f n zero (q ∷ qs) ks l h a = absurd (let e = l.0 in omega (arith, e))
    stops M N f n zero [] (x ∷ ks) l h a = absurd (let e = l.1 in omega (arith, e))
    stops M N f n (suc count) [] ks l h a = absurd (let e = l.0 in omega (arith, e))
    stops M N f n (suc count) (q ∷ qs) [] l h a = absurd (let e = l.1 in omega (arith, e))
    stops M N f n (suc count) (q ∷ qs) (x ∷ ks) l h a = (
      λ s. f (a.0 (sym (same_test is_stopped (λ z r i. (quiet z r i).stopped) (Some q) (ans n) x (first n q qs x ks h)) ∙ s)),
      stops M N f (n + 1) count qs ks ((let e = l.0 in omega (arith, e)), (let e = l.1 in omega (arith, e))) (next n q qs x ks h) a.1,
    )

    -- each refusal of the report is one
    is_refusal : (n count j : ℕ) (y : ℕ × Reply) → slice_get (named_from is_told (λ a. a.reply) ans n count) j ≡ Some y → is_told y.1 ≡ true
    is_refusal n zero j y e = absurd (cc e)
    is_refusal n (suc count) j y e = front n (ans n) (named_from is_told (λ a. a.reply) ans (n + 1) count) y (λ i z. is_refusal (n + 1) count i y z) j e

    module _ (qs : List Request) (ks : List (Option Stamped)) (count : ℕ) (l : Alike qs ks count) (h : Shown 0 qs ks) where
      -- Where the region tells, the replies that are kept are those of the state.
      pub kept_replies : K → map reply_in ks ≡ replies_from ans 0 count
      kept_replies k = exact k 0 count qs ks l h

      -- The answers that are kept are some that the state may give.
      pub kept_answers : (start : ℕ → Option (List ℕ)) (r : Told) (M N : Type 0) → (M → N) → r.refusals ≡ named_from is_told (λ a. a.reply) ans 0 count → Answers K start qs r M (replies_from ans 0 count) → Answers K start qs r N (map reply_in ks)
      kept_answers start r M N f refs A = record {
        each = kinds 0 count qs ks l h A.each;
        lawful = λ k. subst (λ rs. IsLawful start qs rs) (sym (exact k 0 count qs ks l h)) (A.lawful k);
        fits = record {
          named = λ i. A.fits.named i ∙ sym (ap (λ b. cond {A = ℕ} b 1 0) (tests is_finish (λ q r z. (quiet q r z).finish) 0 count qs ks l h i));
          told = λ i. A.fits.told i ∙ sym (ap (λ b. cond {A = ℕ} b 1 0) (tests is_told (λ q r z. (quiet q r z).told) 0 count qs ks l h i));
          why = λ j i x is. refused 0 count qs ks l h i x (is_refusal 0 count j (i, x) (sym (ap (λ xs. slice_get xs j) refs) ∙ is)) (A.fits.why j i x is);
        };
        stops = stops M N f 0 count qs ks l h A.stops;
      }

abbrev MayStop : Engine → List Request → Type 0
MayStop e more = AllAnswered e → more ≡ [] → HasStopped e

-- A report on the answers that an engine keeps is one on the state that it shows.
pub reports_by : (s : State) (o : Origin) (e : Engine) (ks : List (Option Stamped)) (r : Listed) → Promised o e → length ks ≡ length e.given → ((n : ℕ) → ShowsAnswer (IsTelling s) (slice_get e.given n) (e.answer n) (kept_at ks n)) → e.region ≡ s → IsReport ks r → ReportsOn s o e r
reports_by s o e ks r P count shown region R = record {
  told_is = told;
  known = λ telling. R.replies ∙ kept_replies (IsTelling s) e.answer e.given ks (length e.given) (refl, sym count) from telling;
  answers = subst (λ rs. Answers (IsTelling s) (start_of o) e.given (told_of e) (AllAnswered e → HasStopped e) rs) (sym R.replies)
      (kept_answers (IsTelling s) e.answer e.given ks (length e.given) (refl, sym count) from (start_of o) (told_of e) (MayStop e []) (AllAnswered e → HasStopped e) (λ f all. f all refl) refl state);
  counts = subst (AllByRecursion (ShowsWhy e.given)) (sym R.refusals)
      (shows_from (IsTelling s) e.given e.answer 0 ks (λ i. let z : 0 + i ≡ i = omega arith in subst (λ m. ShowsAnswer (IsTelling s) (slice_get e.given m) (e.answer m) (kept_at ks i)) (sym z) (shown i)));
} where
  from : (i : ℕ) → ShowsAnswer (IsTelling s) (slice_get e.given i) (e.answer (0 + i)) (kept_at ks i)
  from i = let z : 0 + i ≡ i = omega arith in subst (λ m. ShowsAnswer (IsTelling s) (slice_get e.given i) (e.answer m) (kept_at ks i)) (sym z) (shown i)

  told : told_by r ≡ told_of e
  told =
      let p = ap (map pair) R.finishes ∙ finishes (IsTelling s) e.answer 0 (length e.given) e.given ks (refl, sym count) from in
      let q = ap (map named) R.refusals ∙ refusals (IsTelling s) e.answer 0 (length e.given) e.given ks (refl, sym count) from in
      (λ i. record { finishes = p i; refusals = q i })

  state : Answers (IsTelling s) (start_of o) e.given (told_of e) (MayStop e []) (replies_from e.answer 0 (length e.given))
  state = subst (λ (t : State). Answers (IsTelling t) (start_of o) e.given (told_of e) (MayStop e []) (replies_from e.answer 0 (length e.given))) region
      (subst (λ qs. Answers (IsTelling e.region) (start_of o) qs (told_of e) (MayStop e []) (replies_from e.answer 0 (length qs))) (append-nil e.given) (P.replies []))

-- the same where a replay stands
pub reports_on : (s : State) (o : Origin) (e : Engine) (ks : List (Option Stamped)) (r : Listed) → Stands o e → length ks ≡ length e.given → ((n : ℕ) → ShowsAnswer (IsTelling s) (slice_get e.given n) (e.answer n) (kept_at ks n)) → e.region ≡ s → IsReport ks r → ReportsOn s o e r
reports_on s o e ks r S count shown region R = reports_by s o e ks r (promised o e S) count shown region R
