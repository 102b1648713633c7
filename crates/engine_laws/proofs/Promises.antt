-- What a replay promises follows from where it stands.
use Rattle.std.proofs.Common.{◌≡◌, inl, inr, ℕ, zero, suc, ◌+◌, ◌<◌, ◌≤◌, ◌==◌, ◌||◌, List, [], ◌∷◌, ◌++◌, map, length, refl, sym, ◌∙◌, ap, subst, arith, true, false, Bool, cond, Option, Some, None, append_assoc, append-nil, length-append}
use Rattle.std.specs.List.{AllByRecursion, count_by, slice_get, zip}
use Rattle.std.specs.Option.{option_to_list}
use Rattle.std.proofs.lemmas.Bool.{cases_lt, eq-eqb}
use Rattle.std.proofs.lemmas.List.{map-append}
use Rattle.std.proofs.lemmas.List.Sums.{sum_by-append, sum_by-cons}
use Rattle.std.proofs.lemmas.Option.{slice_get_within}
use Rattle.fs_model.specs.declared.model.Request.{Request}
use Rattle.fs_model.specs.declared.model.Reply.{Reply}
use Rattle.fs_model.specs.declared.model.Reply.TheVariants.{Stopped}
use Rattle.fs_model.specs.Cells.{key_of}
use Rattle.fs_model.specs.Lawful.{IsLawful, Fits, IsLawfulFor, is_finish, is_told, is_stopped, stopped_of, asked}
use Rattle.fs_model.specs.Changes.{requests_of, names, finished_by, cell_after_all, IsPrefixCell}
use Rattle.fs_model.proofs.Clients.{lawful-append}
use Rattle.pm_region.specs.State.{IsTold, IsTelling, MayLeave, cell_now}
use Rattle.chunk_map.specs.declared.layouts.Geometry.{Geometry}
use Rattle.chunk_map.specs.Layouts.{layout_of, owner, IsLayout}
use Rattle.store_image.specs.Facts.{In}
use Rattle.store_image.specs.Winners.{recovered}
use Rattle.store_image.proofs.Clients.{in_back, in_either, has_layout, superblock_facts}
use Rattle.group_laws.specs.declared.types.Pending.{Pending}
use Rattle.headline.specs.Headline.{Told, finished_in, refused_in, changes_in, Answers, cells_of, Recovers, HasOwnBlocks}
use Rattle.headline.proofs.Clients.{requests-append, prefix_grows, sound_blocks}
use Rattle.group_laws.specs.Regions.{key_group}
use Rattle.engine_laws.specs.Parts.{Groups, AllLicensed}
use Rattle.engine_laws.specs.WorkerMoves.{Placed, request_placed, requests_for}
use Rattle.engine_laws.specs.Engine.{Engine, Answer, group_for, line}
use Rattle.engine_laws.specs.Keys.{finished, open_in, changes_on, changes_at, Served, served_as, pairs, posted_in, is_finish_by, finished_until, KeyStands}
use Rattle.engine_laws.specs.Reports.{reply_of, replies_from, named_from, told_of, AllAnswered}
use Rattle.engine_laws.specs.Stands.{Origin, start_of, Stands, StandsNow}
use Rattle.engine_laws.proofs.Numbers.{numbered, all_in, in_all, all_append, in_requests, in_numbered}
use Rattle.engine_laws.proofs.Histories.{many, stopped_lawful}
use Rattle.engine_laws.proofs.Reports.{names_within, names_outside, named_more, with_reply, changes_are, finished_by_are, finished_at, asked_are, fits, length_replies}
use Rattle.engine_laws.proofs.Stands.{until_few, front_of, posted_unfinished}
use Rattle.engine_laws.proofs.Cores.{owner_low}
use Rattle.engine_laws.proofs.ReplyKinds.{are_replies}
use Rattle.engine_laws.proofs.KeyMoves.{posted_stopped}
use Rattle.group_laws.proofs.Clients.{in_map, of_map}
use Rattle.engine_laws.proofs.Licences.{shows_groups}

count_cons : {X : Type 0} (p : X → Bool) (x : X) (xs : List X) → count_by p (x ∷ xs) ≡ cond (p x) 1 0 + count_by p xs
count_cons p x xs = sum_by-cons (λ y. cond (p y) 1 0) x xs

abbrev asked_in : Served → ℕ × Request
asked_in x = (x.number, x.request)

-- the answered requests, as the answers by number have them
served_are : (ans : ℕ → Option Answer) (xs : List Served) → AllByRecursion (λ (x : Served). ans x.number ≡ Some x.answer) xs → map (with_reply ans) (map asked_in xs) ≡ pairs xs
served_are ans [] h = refl
served_are ans (x ∷ xs) h = (λ t. (x.request, reply_of (h.0 t)) ∷ served_are ans xs h.1 t)

unanswered_are : (ans : ℕ → Option Answer) (xs : List (ℕ × Request)) → AllByRecursion (λ (x : ℕ × Request). ans x.0 ≡ None) xs → AllByRecursion (λ (y : Request × Reply). y.1 ≡ Stopped) (map (with_reply ans) xs)
unanswered_are ans [] h = tt
unanswered_are ans (x ∷ xs) h = (ap reply_of h.0, unanswered_are ans xs h.1)

served_count : (ans : ℕ → Option Answer) (t : ℕ) (xs : List Served) → AllByRecursion (λ (x : Served). ans x.number ≡ Some x.answer) xs → count_by (λ (x : ℕ × Request). finished_at t (ans x.0)) (map asked_in xs) ≡ finished_until t xs
served_count ans t [] h = refl
served_count ans t (x ∷ xs) h = count_cons (λ (x : ℕ × Request). finished_at t (ans x.0)) (asked_in x) (map asked_in xs) ∙ (λ i. cond {A = ℕ} (finished_at t (h.0 i)) 1 0 + served_count ans t xs h.1 i) ∙ sym (count_cons (is_finish_by t) x xs)

unanswered_count : (ans : ℕ → Option Answer) (t : ℕ) (xs : List (ℕ × Request)) → AllByRecursion (λ (x : ℕ × Request). ans x.0 ≡ None) xs → count_by (λ (x : ℕ × Request). finished_at t (ans x.0)) xs ≡ 0
unanswered_count ans t [] h = refl
unanswered_count ans t (x ∷ xs) h = count_cons (λ (x : ℕ × Request). finished_at t (ans x.0)) x xs ∙ (λ i. cond {A = ℕ} (finished_at t (h.0 i)) 1 0 + unanswered_count ans t xs h.1 i)

-- the request with a number, as one of its key's
pub in_from : (n : ℕ) (xs : List Request) (i : ℕ) (q : Request) → slice_get xs i ≡ Some q → In (n + i, q) (numbered (key_of q) n xs)
in_from n [] i q e = absurd (cc e)
in_from n (x ∷ xs) zero q e =
    let same : x ≡ q = cc e in
    let z : n ≡ n + 0 = omega arith in
    subst (λ (b : Bool). In (n + 0, q) (cond b ((n, x) ∷ numbered (key_of q) (n + 1) xs) (numbered (key_of q) (n + 1) xs))) (sym (eq-eqb (key_of x) (key_of q) (ap key_of same))) (inl (λ t. (sym z t, sym same t)))
in_from n (x ∷ xs) (suc i) q e =
    let shift : n + 1 + i ≡ n + suc i = omega arith in
    let rest = subst (λ (m : ℕ). In (m, q) (numbered (key_of q) (n + 1) xs)) shift (in_from (n + 1) xs i q e) in
    elim (key_of x == key_of q) as (λ b. In (n + suc i, q) (cond b ((n, x) ∷ numbered (key_of q) (n + 1) xs) (numbered (key_of q) (n + 1) xs))) [ true ↦ inr rest | false ↦ rest ]

-- a list with a Stopped reply stops
stops_where : (s : Bool) (xs : List (Request × Reply)) (y : Request × Reply) → In y xs → is_stopped y.1 ≡ true → stopped_of s xs ≡ true
stops_where s [] y i e = absurd i
stops_where s (x ∷ xs) y (inl q) e = ap (λ b. stopped_of b xs) (ap (λ r. s || r) (ap (λ (z : Request × Reply). is_stopped z.1) (sym q) ∙ e) ∙ or_true s) ∙ stays xs where
  or_true : (b : Bool) → (b || true) ≡ true
  or_true true = refl
  or_true false = refl

  stays : (xs : List (Request × Reply)) → stopped_of true xs ≡ true
  stays [] = refl
  stays (x ∷ xs) = stays xs
stops_where s (x ∷ xs) y (inr i) e = stops_where (s || is_stopped x.1) xs y i e

-- where a replay stands, at that moment
abbrev pub stands_now : (o : Origin) (e : Engine) → Stands o e → StandsNow o e
stands_now o e S = record { sound = S.sound; first = S.first; words = S.words; layout = S.layout; groups = S.groups; superblock = S.superblock; licensed = S.licensed; keys = S.keys; unasked = S.unasked; crash = S.crash }

module _ (o : Origin) (e : Engine) (S : StandsNow o e) where
  abbrev r : Told
  r = told_of e

  abbrev n : ℕ
  n = length e.given

  unnamed : (m : ℕ) → n ≤ m → reply_of (e.answer m) ≡ Stopped
  unnamed m past = ap reply_of (S.unasked m past)

  names_finishes : (m : ℕ) → names (finished_in r) m ≡ is_finish (reply_of (e.answer m))
  names_finishes m = elim (cases_lt m n) [
    | inl lt ↦ names_within is_finish (λ a. a.stamp) refl e.answer 0 n m (omega arith) (omega (arith, lt))
    | inr ge ↦ names_outside is_finish (λ a. a.stamp) refl e.answer 0 n m (inr (omega (arith, ge))) ∙ sym (ap is_finish (unnamed m ge))
  ]

  names_refusals : (m : ℕ) → names (refused_in r) m ≡ is_told (reply_of (e.answer m))
  names_refusals m = elim (cases_lt m n) [
    | inl lt ↦ names_within is_told (λ a. a.reply) refl e.answer 0 n m (omega arith) (omega (arith, lt))
    | inr ge ↦ names_outside is_told (λ a. a.reply) refl e.answer 0 n m (inr (omega (arith, ge))) ∙ sym (ap is_told (unnamed m ge))
  ]

  -- of one key, over all requests of the trace
  module _ (more : List Request) (k : ℕ) where
    abbrev K : KeyStands (start_of o k) e k
    K = S.keys k

    abbrev hand : List (ℕ × Request)
    hand = line e k ++ requests_for k (e.backlog (owner e.layout k))

    abbrev waits : List (ℕ × Request)
    waits = hand ++ numbered k n more

    abbrev stopped : List (Request × Reply)
    stopped = map (with_reply e.answer) waits

    pub requests_are : requests_of k (e.given ++ more) ≡ map asked_in K.served ++ waits
    requests_are = requests-append k e.given more ∙ ap (λ l. l ++ numbered k n more) K.split ∙ append_assoc (map asked_in K.served) hand (numbered k n more)

    view : map (with_reply e.answer) (requests_of k (e.given ++ more)) ≡ pairs K.served ++ stopped
    view = ap (map (with_reply e.answer)) requests_are ∙ map-append (with_reply e.answer) (map asked_in K.served) waits ∙ ap (λ l. l ++ stopped) (served_are e.answer K.served K.answers)

    pub waits_none : AllByRecursion (λ (x : ℕ × Request). e.answer x.0 ≡ None) waits
    waits_none = all_append (λ (x : ℕ × Request). e.answer x.0 ≡ None) hand (numbered k n more) K.waiting
        (in_all (λ (x : ℕ × Request). e.answer x.0 ≡ None) (numbered k n more) (λ x i. (let at = in_numbered k n more x i in S.unasked x.0 (let p = at.1 in omega (arith, p)))))

    all_stopped : AllByRecursion (λ (y : Request × Reply). y.1 ≡ Stopped) stopped
    all_stopped = unanswered_are e.answer waits waits_none

    -- the posted change is the first of those without an answer
    posted_front : (zs : List (Request × Reply)) × (stopped ≡ posted_in (e.place k) ++ zs)
    posted_front = by (e.place k) refl where
      by : (p : Option Placed) → e.place k ≡ p → (zs : List (Request × Reply)) × (stopped ≡ posted_in (e.place k) ++ zs)
      by None q = (stopped, ap (λ p. posted_in p ++ stopped) (sym q))
      by (Some x) q = elim x.posted as (λ b. x.posted ≡ b → (zs : List (Request × Reply)) × (stopped ≡ posted_in (e.place k) ++ zs)) [
        | false ↦ λ is. (stopped, ap (λ l. l ++ stopped) (sym (ap posted_in q ∙ ap (λ b. cond b ((x.request, Stopped) ∷ []) []) is)))
        | true ↦ λ is.
            let rest : List (ℕ × Request) = (e.waits k ++ requests_for k (e.backlog (owner e.layout k))) ++ numbered k n more in
            let split : waits ≡ (x.number, x.request) ∷ rest = ap (λ p. ((request_placed p ++ e.waits k) ++ requests_for k (e.backlog (owner e.layout k))) ++ numbered k n more) q in
            let none : e.answer x.number ≡ None = (subst (AllByRecursion (λ (y : ℕ × Request). e.answer y.0 ≡ None)) split waits_none).0 in (
              map (with_reply e.answer) rest,
              ap (map (with_reply e.answer)) split ∙ ap (λ (a : Reply). (x.request, a) ∷ map (with_reply e.answer) rest) (ap reply_of none) ∙ ap (λ l. l ++ map (with_reply e.answer) rest) (sym (ap posted_in q ∙ ap (λ b. cond b ((x.request, Stopped) ∷ []) []) is)),
            )
      ] refl

    -- what is known of the changes is a front of what they are
    pub changes_told : (zs : List Request) × (changes_in (start_of o) (e.given ++ more) r k ≡ changes_at (start_of o k) e k K ++ zs)
    changes_told =
        let front = posted_front in
        let here = many (start_of o k) (pairs K.served) (posted_in (e.place k)) K.history (stopped_lawful _ _ (posted_in (e.place k)) (posted_stopped (e.place k))) in
        let rest_stopped : AllByRecursion (λ (y : Request × Reply). y.1 ≡ Stopped) front.0 = all_tail (posted_in (e.place k)) front.0 (subst (AllByRecursion (λ (y : Request × Reply). y.1 ≡ Stopped)) front.1 all_stopped) in
        let there = many (start_of o k) (pairs K.served ++ posted_in (e.place k)) front.0 here.0 (stopped_lawful _ _ front.0 rest_stopped) in (
          there.1.0,
          changes_are e.answer (start_of o k) k (e.given ++ more) (finished_in r) (refused_in r) (in_all _ (requests_of k (e.given ++ more)) (λ x i. names_finishes x.0)) (in_all _ (requests_of k (e.given ++ more)) (λ x i. names_refusals x.0))
              ∙ ap (changes_on (start_of o k)) (view ∙ ap (λ l. pairs K.served ++ l) front.1 ∙ sym (append_assoc (pairs K.served) (posted_in (e.place k)) front.0))
              ∙ there.1.1,
        ) where
          all_tail : (xs ys : List (Request × Reply)) → AllByRecursion (λ (y : Request × Reply). y.1 ≡ Stopped) (xs ++ ys) → AllByRecursion (λ (y : Request × Reply). y.1 ≡ Stopped) ys
          all_tail [] ys h = h
          all_tail (x ∷ xs) ys h = all_tail xs ys h.1

    counts : (t : ℕ) → finished_by k (e.given ++ more) r.finishes t ≡ finished_until t K.served
    counts t =
        let p = λ (x : ℕ × Request). finished_at t (e.answer x.0) in
        finished_by_are e.answer k t e.given more ∙ ap (count_by p) K.split ∙ sum_by-append (λ x. cond (p x) 1 0) (map asked_in K.served) hand
        ∙ (λ i. served_count e.answer t K.served K.answers i + unanswered_count e.answer t hand K.waiting i)
        ∙ (let z : finished_until t K.served + 0 ≡ finished_until t K.served = omega arith in z)

  -- At each told moment so far an image is sound, and recovers for each key the cell after its finished changes, or after one more.
  pub crashes : (more : List Request) (t : ℕ) → IsTold e.region t → o.region.stamp ≤ t → (image : ℕ → ℕ) → MayLeave o.region.frame (e.region.cells t) image
      → Recovers o.region.frame.bytes (start_of o) (e.given ++ more) r (λ k. finished_by k (e.given ++ more) r.finishes t) image
  crashes more t told from image may =
      let is = S.crash t told from image may in
      record {
        sound = is.sound;
        cells = λ k low.
            let K' = S.keys k in
            let step = changes_told more k in
            let few = until_few t K'.served in
            let begins = front_of (start_of o k) (pairs K'.served) (posted_in (e.place k)) (posted_unfinished (e.place k)) in
            let long : length (changes_at (start_of o k) e k K') ≡ length (finished (pairs K'.served)) + length begins.0 = ap length begins.1 ∙ length-append (finished (pairs K'.served)) begins.0 in
            let within : finished_until t K'.served ≤ length (changes_at (start_of o k) e k K') = omega (arith, few, long) in
            let shown : IsPrefixCell (start_of o k) (changes_in (start_of o) (e.given ++ more) r k) (finished_until t K'.served) (recovered (layout_of o.found) image k) =
            subst (λ xs. IsPrefixCell (start_of o k) xs (finished_until t K'.served) (recovered (layout_of o.found) image k)) (sym step.1)
            (prefix_grows (start_of o k) (recovered (layout_of o.found) image k) (changes_at (start_of o k) e k K') step.0 (finished_until t K'.served) within (is.cells k)) in
            subst (λ m. IsPrefixCell (start_of o k) (changes_in (start_of o) (e.given ++ more) r k) m (cells_of image k)) (sym (counts more k t))
            (subst (λ (l : Geometry). IsPrefixCell (start_of o k) (changes_in (start_of o) (e.given ++ more) r k) (finished_until t K'.served) (recovered l image k)) (sym is.layout) shown);
      }

  -- and no two winners share a block
  pub blocks : (t : ℕ) → IsTold e.region t → o.region.stamp ≤ t → (image : ℕ → ℕ) → MayLeave o.region.frame (e.region.cells t) image → HasOwnBlocks image
  blocks t told from image may = sound_blocks o.region.frame.bytes image (S.crash t told from image may).sound

  -- The replies are lawful, a request without an answer counted as stopped.
  pub lawful : (more : List Request) → IsLawful (start_of o) (e.given ++ more) (replies_from e.answer 0 (length (e.given ++ more)))
  lawful more = record {
    count = length_replies e.answer 0 (length (e.given ++ more));
    each = λ k.
        let is : asked k (zip (e.given ++ more) (replies_from e.answer 0 (length (e.given ++ more)))) ≡ pairs (S.keys k).served ++ stopped more k = asked_are e.answer k (e.given ++ more) ∙ view more k in
        subst (IsLawfulFor (start_of o k) false) (sym is)
        (lawful-append (start_of o k) false (pairs (S.keys k).served) (stopped more k) (S.keys k).history.lawful (stopped_lawful _ _ (stopped more k) (all_stopped more k)));
  }

  abbrev MayStop : Type 0
  MayStop = (c : ℕ) × (c < e.layout.cores) × (e.stopped c ≡ true)

  is_layout : IsLayout e.layout
  is_layout = subst IsLayout (sym S.layout) (superblock_facts o.region.frame.bytes o.found (has_layout o.region.frame.bytes o.found S.sound)).1

  -- where all is answered, a reply is Stopped only for a cause
  stop_cause : AllAnswered e → (i : ℕ) → i < n → is_stopped (reply_of (e.answer i)) ≡ true → MayStop
  stop_cause all i lt stop = by (slice_get e.given i) refl where
    slice_some : (xs : List Request) (i : ℕ) → i < length xs → slice_get xs i ≡ None → ⊥
    slice_some [] i lt e = omega (arith, lt)
    slice_some (x ∷ xs) zero lt e = cc e
    slice_some (x ∷ xs) (suc i) lt e = slice_some xs i (omega (arith, lt)) e

    by : (q : Option Request) → slice_get e.given i ≡ q → MayStop
    by None none = absurd (slice_some e.given i lt none)
    by (Some q) is =
        let k = key_of q in
        let K' = S.keys k in
        let a = all i lt in
        let z : 0 + i ≡ i = omega arith in
        let there : In (i, q) (map asked_in K'.served ++ (line e k ++ requests_for k (e.backlog (owner e.layout k)))) = subst (λ (l : List (ℕ × Request)). In (i, q) l) K'.split (subst (λ (m : ℕ). In (m, q) (requests_of k e.given)) z (in_from 0 e.given i q is)) in
        elim (in_either (i, q) (map asked_in K'.served) (line e k ++ requests_for k (e.backlog (owner e.layout k))) there) [
          | inr left ↦ absurd (let none : e.answer i ≡ None = all_in (λ (x : ℕ × Request). e.answer x.0 ≡ None) (line e k ++ requests_for k (e.backlog (owner e.layout k))) (i, q) K'.waiting left in let both = sym none ∙ a.1 in cc both)
          | inl served ↦
              let found = of_map asked_in (i, q) K'.served served in
              let its = all_in (λ (x : Served). e.answer x.number ≡ Some x.answer) K'.served found.0 K'.answers found.1 in
              let number : i ≡ found.0.number = ap (λ (x : ℕ × Request). x.0) found.2 in
              let reply : is_stopped found.0.answer.reply ≡ true = ap (λ o. is_stopped (reply_of o)) (sym its) ∙ ap (λ m. is_stopped (reply_of (e.answer m))) (sym number) ∙ stop in
              let halts = K'.halted (stops_where false (pairs K'.served) (served_as found.0) (in_map served_as found.0 K'.served found.1) reply) in
              (owner e.layout k, owner_low e.layout is_layout k, halts.0)
        ]

  pub answers : (more : List Request) → Answers (IsTelling e.region) (start_of o) (e.given ++ more) r (AllAnswered e → more ≡ [] → MayStop) (replies_from e.answer 0 (length (e.given ++ more)))
  answers more = record {
    each = are_replies (start_of o) (e.given ++ more) (replies_from e.answer 0 (length (e.given ++ more))) (lawful more);
    lawful = λ telling. lawful more;
    fits = subst (λ (m : ℕ). Fits (finished_in r) r.refusals (replies_from e.answer 0 m)) (sym (length-append e.given more))
        (subst (λ fs. Fits (map (λ (f : ℕ × ℕ). f.0) fs) r.refusals (replies_from e.answer 0 (n + length more))) (named_more is_finish (λ a. a.stamp) refl e.answer 0 n (length more) past)
        (subst (λ rs. Fits (map (λ (f : ℕ × ℕ). f.0) (named_from is_finish (λ a. a.stamp) e.answer 0 (n + length more))) rs (replies_from e.answer 0 (n + length more))) (named_more is_told (λ a. a.reply) refl e.answer 0 n (length more) past)
        (fits e.answer (n + length more))));
    stops = each 0 (length (e.given ++ more)) (λ i low high stop all none.
        let same : length (e.given ++ more) ≡ n = ap (λ l. length (e.given ++ l)) none ∙ ap length (append-nil e.given) in
        stop_cause all i (omega (arith, high, same)) stop);
  } where
    past : (i : ℕ) → 0 + n ≤ i → e.answer i ≡ None
    past i low = S.unasked i (omega (arith, low))

    each : (from count : ℕ) → ((i : ℕ) → from ≤ i → i < from + count → is_stopped (reply_of (e.answer i)) ≡ true → AllAnswered e → more ≡ [] → MayStop) → AllByRecursion (λ (x : Reply). is_stopped x ≡ true → AllAnswered e → more ≡ [] → MayStop) (replies_from e.answer from count)
    each from zero h = tt
    each from (suc count) h = (h from (omega arith) (omega arith), each (from + 1) count (λ i low high. h i (omega (arith, low)) (omega (arith, high))))

  -- Where all is answered and no core has stopped, each image of this moment recovers all changes.
  module _ (all : AllAnswered e) (going : (c : ℕ) → c < e.layout.cores → e.stopped c ≡ false) where
    nothing_waits : (k : ℕ) → line e k ++ requests_for k (e.backlog (owner e.layout k)) ≡ []
    nothing_waits k = by (line e k ++ requests_for k (e.backlog (owner e.layout k))) refl where
      by : (xs : List (ℕ × Request)) → line e k ++ requests_for k (e.backlog (owner e.layout k)) ≡ xs → xs ≡ []
      by [] q = refl
      by (x ∷ xs) q = absurd (
          let here : In x (line e k ++ requests_for k (e.backlog (owner e.layout k))) = subst (λ (l : List (ℕ × Request)). In x l) (sym q) (inl refl) in
          let none = all_in (λ (x : ℕ × Request). e.answer x.0 ≡ None) (line e k ++ requests_for k (e.backlog (owner e.layout k))) x (S.keys k).waiting here in
          let asked' = in_requests k e.given x (subst (λ (l : List (ℕ × Request)). In x l) (sym (S.keys k).split) (in_back x (map asked_in (S.keys k).served) _ here)) in
          let some = all x.0 (slice_get_within e.given x.0 x.1 asked'.0) in
          let both = sym none ∙ some.1 in cc both)

    no_pending : (k : ℕ) (p : Pending) → (group_for e k).pending k ≡ Some p → ⊥
    no_pending k p is = elim ((S.keys k).holds.pending p is) [
      | inl at ↦ (let none : (at.0.number, at.0.request) ∷ (e.waits k ++ requests_for k (e.backlog (owner e.layout k))) ≡ [] = ap (λ p. (request_placed p ++ e.waits k) ++ requests_for k (e.backlog (owner e.layout k))) (sym at.1) ∙ nothing_waits k in omega (arith, ap length none))
      | inr doubt ↦ (let off = going (owner e.layout k) (owner_low e.layout is_layout k) in let on = doubt.2 in cc (on, off))
    ]

    pub recovers_all : IsTelling e.region → (image : ℕ → ℕ) → MayLeave o.region.frame (cell_now e.region) image → (k : ℕ) → cells_of image k ≡ cell_after_all (changes_in (start_of o) e.given r k) (start_of o k)
    recovers_all telling image may k =
        let K' = S.keys k in
        let shown = shows_groups o.region.frame.bytes o.found o.region.frame e.group (cell_now e.region) image (has_layout o.region.frame.bytes o.found S.sound) S.first S.words
        (subst (λ (m : Geometry). Groups m e.group) S.layout S.groups) (S.superblock telling) (subst (λ (m : Geometry). AllLicensed m e.group (cell_now e.region)) S.layout (S.licensed telling)) may in
        let cell : recovered (layout_of o.found) image k ≡ (e.group (key_group (layout_of o.found) k)).cell k = elim (shown.cells k) [
          | inl is ↦ is
          | inr next ↦ absurd (no_pending k next.0 (subst (λ (m : Geometry). (e.group (key_group m k)).pending k ≡ Some next.0) (sym S.layout) next.1))
        ] in
        let none : open_in (cell_after_all (finished (pairs K'.served)) (start_of o k)) (pairs K'.served) ≡ None = ap (λ d. open_in d (pairs K'.served)) K'.history.left ∙ K'.history.settled (steady k) in
        let changes : changes_in (start_of o) e.given r k ≡ finished (pairs K'.served) =
        ap (λ l. changes_in (start_of o) l r k) (sym (append-nil e.given))
        ∙ changes_are e.answer (start_of o k) k (e.given ++ []) (finished_in r) (refused_in r) (in_all _ (requests_of k (e.given ++ [])) (λ x i. names_finishes x.0)) (in_all _ (requests_of k (e.given ++ [])) (λ x i. names_refusals x.0))
        ∙ ap (changes_on (start_of o k)) (view [] k ∙ ap (λ l. pairs K'.served ++ map (with_reply e.answer) (l ++ [])) (nothing_waits k) ∙ append-nil (pairs K'.served))
        ∙ ap (λ x. finished (pairs K'.served) ++ map (λ (y : Request × Reply). y.0) (option_to_list x)) none ∙ append-nil (finished (pairs K'.served)) in
        ap (λ (m : Geometry). recovered m image k) shown.layout ∙ cell ∙ ap (λ (m : Geometry). (e.group (key_group m k)).cell k) (sym S.layout) ∙ sym K'.cell ∙ sym K'.history.left ∙ ap (λ l. cell_after_all l (start_of o k)) (sym changes)
      where
        steady : (k : ℕ) → stopped_of false (pairs (S.keys k).served) ≡ false
        steady k = elim (stopped_of false (pairs (S.keys k).served)) as (λ b. stopped_of false (pairs (S.keys k).served) ≡ b → b ≡ false) [
          | false ↦ λ q. refl
          | true ↦ λ q. (let on = ((S.keys k).halted q).0 in let off = going (owner e.layout k) (owner_low e.layout is_layout k) in absurd (cc (on, off)))
        ] refl
