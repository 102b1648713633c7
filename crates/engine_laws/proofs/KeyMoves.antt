-- How one key stands after a move of its core.
use Rattle.std.proofs.Common.{◌≡◌, ◌≢◌, inl, inr, ◌⊎◌, ℕ, ◌<◌, ◌≤◌, ◌==◌, List, [], ◌∷◌, ◌++◌, map, filter, refl, sym, ◌∙◌, ap, subst, arith, ◌||◌, true, false, Bool, cond, Option, Some, None, append_assoc, append-nil}
use Rattle.std.specs.List.{AllByRecursion}
use Rattle.std.proofs.lemmas.List.{map-append}
use Rattle.std.proofs.lemmas.List.Elements.{filter-append}
use Rattle.std.proofs.lemmas.Bool.{eq-eqb}
use Rattle.fs_model.specs.declared.model.Request.{Request}
use Rattle.fs_model.specs.declared.model.Reply.{Reply}
use Rattle.fs_model.specs.declared.model.Reply.TheVariants.{Stored, Value, Absent, Deleted, Full, VersionsSpent, TooLong, Stopped}
use Rattle.fs_model.specs.Cells.{key_of, cell_after, is_change}
use Rattle.fs_model.specs.Lawful.{IsLawfulFor, MayReply, cell_of, cell_left, stopped_of, is_finish, is_stopped}
use Rattle.fs_model.specs.Changes.{requests_of}
use Rattle.log_entry.specs.declared.entry.Entry.{Entry}
use Rattle.chunk_map.specs.Layouts.{owner}
use Rattle.store_image.specs.Facts.{In}
use Rattle.store_image.proofs.Clients.{in_front, in_back}
use Rattle.group_laws.specs.declared.types.Pending.{Pending}
use Rattle.group_laws.specs.Places as places
use Rattle.group_laws.specs.State.{Group}
use Rattle.group_laws.specs.Steps.{left_by}
use Rattle.group_laws.proofs.Clients.{in_map, run_place, run_doubt}
use Rattle.group_laws.specs.MemberViews.{View, view_of}
use Rattle.group_laws.specs.Regions.{key_group}
use Rattle.group_board.specs.Views.{left_in}
use Rattle.engine_laws.specs.Parts.{group_of, member_of, Groups}
use Rattle.engine_laws.proofs.Cores.{of_member, key_group_low}
use Rattle.engine_laws.proofs.Others.{cell_in, last_in, pending_in, left_from, other_view}
use Rattle.chunk_map.specs.Layouts.{IsLayout}
use Rattle.group_laws.specs.Places.{Place, core_of}
use Rattle.log_entry.specs.declared.entry.Body.{Body}
use Rattle.std.proofs.lemmas.Bool.{cases_eq}
use Rattle.group_laws.specs.Invariant.{Lawful}
use Rattle.std.specs.Prelude.{◌/◌}
use Rattle.engine_laws.specs.WorkerMoves.{Placed, request_placed, Fixed, asked, replied, fixed_of, requests_for}
use Rattle.engine_laws.specs.Engine.{Engine, group_for, cell_at, line}
use Rattle.engine_laws.specs.Moves.{Moves, KeyMoves}
use Rattle.engine_laws.specs.Keys.{finished, changes_on, Served, served_as, pairs, posted_in, History, KeyStands, KeyGoes}
use Rattle.engine_laws.proofs.Numbers.{IsUp, up, up_apart, up_tail, all_in, in_all, all_append, all_map, one_key, in_filter, filter_in}
use Rattle.engine_laws.proofs.Histories.{cell_of-append, stopped_of-append, many, stopped_lawful, finishes_open, finished-append, open_end}
use Rattle.engine_laws.proofs.Histories as histories

abbrev asked_in : Served → ℕ × Request
asked_in x = (x.number, x.request)

-- an answer with the stamp after the move
abbrev pub stamped : ℕ → Fixed → Served
stamped t x = record { number = x.number; request = x.request; answer = record { reply = x.reply; stamp = t } }

asked_stamped : (t : ℕ) (xs : List Fixed) → map asked_in (map (stamped t) xs) ≡ map asked xs
asked_stamped t [] = refl
asked_stamped t (x ∷ xs) = ap (λ l. asked x ∷ l) (asked_stamped t xs)

pairs_stamped : (t : ℕ) (xs : List Fixed) → pairs (map (stamped t) xs) ≡ map replied xs
pairs_stamped t [] = refl
pairs_stamped t (x ∷ xs) = ap (λ l. replied x ∷ l) (pairs_stamped t xs)

-- after a stop there is nothing but Stopped
pub stop_all : (c : Option (List ℕ)) (ys : List (Request × Reply)) → IsLawfulFor c true ys → AllByRecursion (λ (y : Request × Reply). y.1 ≡ Stopped) ys
stop_all c [] h = tt
stop_all c (y ∷ ys) h = (h.0, stop_all (cell_left y.0 y.1 c) ys h.1)

pub stopped_cell : (c : Option (List ℕ)) (ys : List (Request × Reply)) → AllByRecursion (λ (y : Request × Reply). y.1 ≡ Stopped) ys → cell_of c ys ≡ c
stopped_cell c [] h = refl
stopped_cell c (y ∷ ys) h = ap (λ r. cell_of (cell_left y.0 r c) ys) h.0 ∙ stopped_cell c ys h.1

pub stopped_none : (ys : List (Request × Reply)) → AllByRecursion (λ (y : Request × Reply). y.1 ≡ Stopped) ys → finished ys ≡ []
stopped_none [] h = refl
stopped_none (y ∷ ys) h = ap (λ r. map (λ (x : Request × Reply). x.0) (cond (is_finish r) (y ∷ filter (λ (x : Request × Reply). is_finish x.1) ys) (filter (λ (x : Request × Reply). is_finish x.1) ys))) h.0 ∙ stopped_none ys h.1

is_stopped_true : (r : Reply) → is_stopped r ≡ true → r ≡ Stopped
is_stopped_true Stopped e = refl
is_stopped_true Stored e = absurd (cc e)
is_stopped_true (Value v) e = absurd (cc e)
is_stopped_true Absent e = absurd (cc e)
is_stopped_true Deleted e = absurd (cc e)
is_stopped_true Full e = absurd (cc e)
is_stopped_true VersionsSpent e = absurd (cc e)
is_stopped_true TooLong e = absurd (cc e)

-- a list of replies stops where one of them does
pub stop_found : (xs : List Fixed) → stopped_of false (map replied xs) ≡ true → (x : Fixed) × In x xs × (x.reply ≡ Stopped)
stop_found [] e = absurd (cc e)
stop_found (x ∷ xs) e = elim (is_stopped x.reply) as (λ b. is_stopped x.reply ≡ b → stopped_of b (map replied xs) ≡ true → (y : Fixed) × In y (x ∷ xs) × (y.reply ≡ Stopped)) [
  | true ↦ λ t q. (x, inl refl, is_stopped_true x.reply t)
  | false ↦ λ t q. (let r = stop_found xs q in (r.0, inr r.1, r.2))
] refl e

pub posted_stopped : (o : Option Placed) → AllByRecursion (λ (y : Request × Reply). y.1 ≡ Stopped) (posted_in o)
posted_stopped None = tt
posted_stopped (Some x) = elim x.posted as (λ b. AllByRecursion (λ (y : Request × Reply). y.1 ≡ Stopped) (cond b ((x.request, Stopped) ∷ []) [])) [
  | true ↦ (refl, tt)
  | false ↦ tt
]

-- a list that grows twice
pub chain : (a b c u v : List Request) → b ≡ a ++ u → c ≡ b ++ v → (ys : List Request) × (c ≡ a ++ ys)
chain a b c u v p q = (u ++ v, q ∙ ap (λ l. l ++ v) p ∙ append_assoc a u v)

module _ (start : ℕ → Option (List ℕ)) (e f : Engine) (c : ℕ) (accepted : List (ℕ × Request)) (fixed : List Fixed) (M : Moves e f c accepted fixed) (keys : (k : ℕ) → KeyStands (start k) e k) where
  owner_same : (k : ℕ) → owner f.layout k ≡ owner e.layout k
  owner_same k = ap (λ l. owner l k) M.layout

  -- the requests of a key of the core
  module _ (k : ℕ) (own : owner e.layout k ≡ c) where
    abbrev fk : List Fixed
    fk = fixed_of k fixed

    abbrev rest : List (ℕ × Request)
    rest = requests_for k (f.backlog c)

    ahead : line e k ++ requests_for k (e.backlog (owner e.layout k)) ≡ map asked fk ++ (line f k ++ rest)
    ahead =
        let back : requests_for k (e.backlog (owner e.layout k)) ≡ requests_for k accepted ++ rest =
        ap (λ d. requests_for k (e.backlog d)) own ∙ ap (requests_for k) M.backlog ∙ filter-append (λ (x : ℕ × Request). key_of x.1 == k) accepted (f.backlog c) in
        ap (λ l. line e k ++ l) back ∙ sym (append_assoc (line e k) (requests_for k accepted) rest) ∙ ap (λ l. l ++ rest) (M.keys k own).order ∙ append_assoc (map asked fk) (line f k) rest

    -- an answered request is behind those that were answered before
    later : (x : Served) (y : Fixed) → In x (keys k).served → In y fk → x.number < y.number
    later x y i j =
        let whole : IsUp (map asked_in (keys k).served ++ (line e k ++ requests_for k (e.backlog (owner e.layout k)))) = subst IsUp (keys k).split (up k 0 e.given) in
        let there : In (asked y) (line e k ++ requests_for k (e.backlog (owner e.layout k))) = subst (λ (l : List (ℕ × Request)). In (asked y) l) (sym ahead) (in_front (asked y) (map asked fk) (line f k ++ rest) (in_map asked y fk j)) in
        up_apart (map asked_in (keys k).served) (line e k ++ requests_for k (e.backlog (owner e.layout k))) (asked_in x) (asked y) whole (in_map asked_in x (keys k).served i) there

    pub given : (y : Fixed) → In y fk → In (asked y) (requests_of k e.given)
    given y j =
        let there : In (asked y) (line e k ++ requests_for k (e.backlog (owner e.layout k))) = subst (λ (l : List (ℕ × Request)). In (asked y) l) (sym ahead) (in_front (asked y) (map asked fk) (line f k ++ rest) (in_map asked y fk j)) in
        subst (λ (l : List (ℕ × Request)). In (asked y) l) (sym (keys k).split) (in_back (asked y) (map asked_in (keys k).served) _ there)

    -- what is left in hand is behind what is answered now
    behind : (x : ℕ × Request) (y : Fixed) → In x (line f k ++ rest) → In y fk → y.number < x.0
    behind x y i j =
        let whole : IsUp (map asked_in (keys k).served ++ (line e k ++ requests_for k (e.backlog (owner e.layout k)))) = subst IsUp (keys k).split (up k 0 e.given) in
        let tail : IsUp (line e k ++ requests_for k (e.backlog (owner e.layout k))) = up_tail (map asked_in (keys k).served) (line e k ++ requests_for k (e.backlog (owner e.layout k))) whole in
        up_apart (map asked fk) (line f k ++ rest) (asked y) x (subst IsUp ahead tail) (in_map asked y fk j) i

    still_in : (x : ℕ × Request) → In x (line f k ++ rest) → In x (line e k ++ requests_for k (e.backlog (owner e.layout k)))
    still_in x i = subst (λ (l : List (ℕ × Request)). In x l) (sym ahead) (in_back x (map asked fk) (line f k ++ rest) i)

  pub in_own : (y : Fixed) → In y fixed → In y (fixed_of (key_of y.request) fixed)
  in_own y i = filter_in (λ (x : Fixed). key_of x.request == key_of y.request) fixed y i (eq-eqb (key_of y.request) (key_of y.request) refl)

  -- No answer is given twice.
  apart : (k : ℕ) (x : Served) → In x (keys k).served → (y : Fixed) → In y fixed → y.number ≢ x.number
  apart k x i y j same =
      let own = M.own_answers y j in
      let mine : In (asked_in x) (requests_of k e.given) = subst (λ (l : List (ℕ × Request)). In (asked_in x) l) (sym (keys k).split) (in_front (asked_in x) (map asked_in (keys k).served) _ (in_map asked_in x (keys k).served i)) in
      let its = given (key_of y.request) own y (in_own y j) in
      let key : key_of y.request ≡ k = one_key (key_of y.request) k e.given (asked y) (asked_in x) its mine same in
      let late = later k (ap (owner e.layout) (sym key) ∙ own) x y i (subst (λ (n : ℕ). In y (fixed_of n fixed)) key (in_own y j)) in
      absurd (omega (arith, late, same))

  still_answered : (k : ℕ) → AllByRecursion (λ (x : Served). f.answer x.number ≡ Some x.answer) (keys k).served
  still_answered k = in_all (λ (x : Served). f.answer x.number ≡ Some x.answer) (keys k).served (λ x i. M.answers.old x.number (apart k x i) ∙ all_in (λ (x : Served). e.answer x.number ≡ Some x.answer) (keys k).served x (keys k).answers i)

  -- What waits, of whatever core, isn't answered but by its own key's answers.
  still_waits : (k : ℕ) (x : ℕ × Request) → In x (line e k ++ requests_for k (e.backlog (owner e.layout k))) → ((y : Fixed) → owner e.layout k ≡ c → In y (fixed_of k fixed) → y.number ≢ x.0) → f.answer x.0 ≡ None
  still_waits k x i apart = M.answers.old x.0 (λ y j same.
      let own = M.own_answers y j in
      let mine : In x (requests_of k e.given) = subst (λ (l : List (ℕ × Request)). In x l) (sym (keys k).split) (in_back x (map asked_in (keys k).served) _ i) in
      let key : key_of y.request ≡ k = one_key (key_of y.request) k e.given (asked y) x (given (key_of y.request) own y (in_own y j)) mine same in
      apart y (ap (owner e.layout) (sym key) ∙ own) (subst (λ (n : ℕ). In y (fixed_of n fixed)) key (in_own y j)) same)
      ∙ all_in (λ (x : ℕ × Request). e.answer x.0 ≡ None) (line e k ++ requests_for k (e.backlog (owner e.layout k))) x (keys k).waiting i

  not_earlier : (k : ℕ) → AllByRecursion (λ (x : Served). x.answer.stamp ≤ f.region.stamp) (keys k).served
  not_earlier k = in_all (λ (x : Served). x.answer.stamp ≤ f.region.stamp) (keys k).served (λ x i. (let before = all_in (λ (x : Served). x.answer.stamp ≤ e.region.stamp) (keys k).served x (keys k).stamps i in let on = M.outside.later in omega (arith, before, on)))

  -- a key of the core
  module _ (k : ℕ) (own : owner e.layout k ≡ c) where
    abbrev S : KeyStands (start k) e k
    S = keys k

    abbrev K : KeyMoves e f k (requests_for k accepted) (fixed_of k fixed)
    K = M.keys k own

    abbrev t : ℕ
    t = f.region.stamp

    abbrev ys : List (Request × Reply)
    ys = map replied (fixed_of k fixed)

    abbrev served' : List Served
    served' = S.served ++ map (stamped t) (fixed_of k fixed)

    owner_is : owner f.layout k ≡ c
    owner_is = owner_same k ∙ own

    pairs_are : pairs served' ≡ pairs S.served ++ ys
    pairs_are = map-append served_as S.served (map (stamped t) (fixed_of k fixed)) ∙ ap (λ l. pairs S.served ++ l) (pairs_stamped t (fixed_of k fixed))

    all_stop : e.stopped c ≡ true → e.place k ≡ None → AllByRecursion (λ (y : Request × Reply). y.1 ≡ Stopped) ys
    all_stop stopped idle = all_map (λ (y : Request × Reply). y.1 ≡ Stopped) replied (fixed_of k fixed) (K.after_stop (ap e.stopped own ∙ stopped) idle).0

    lawful : IsLawfulFor (cell_of (start k) (pairs S.served)) (stopped_of false (pairs S.served)) ys
    lawful = by (stopped_of false (pairs S.served)) refl where
      by : (b : Bool) → stopped_of false (pairs S.served) ≡ b → IsLawfulFor (cell_of (start k) (pairs S.served)) b ys
      by false q = subst (λ d. IsLawfulFor d false ys) (sym S.cell) K.lawful
      by true q = let h = S.halted q in stopped_lawful (cell_of (start k) (pairs S.served)) true ys (all_stop (sym (ap e.stopped own) ∙ h.0) h.1)

    grown : History (start k) (pairs S.served ++ ys) × ((zs : List Request) × (changes_on (start k) (pairs S.served ++ ys) ≡ changes_on (start k) (pairs S.served) ++ zs))
    grown = many (start k) (pairs S.served) ys S.history lawful

    history' : History (start k) (pairs served')
    history' = subst (History (start k)) (sym pairs_are) grown.0

    cell_is : cell_of (start k) (pairs served') ≡ cell_at f k
    cell_is = ap (cell_of (start k)) pairs_are ∙ cell_of-append (start k) (pairs S.served) ys ∙ ap (λ d. cell_of d ys) S.cell ∙ K.cell

    halted' : stopped_of false (pairs served') ≡ true → (f.stopped (owner f.layout k) ≡ true) × (f.place k ≡ None)
    halted' q = by (stopped_of false (pairs S.served)) refl (sym (stopped_of-append false (pairs S.served) ys) ∙ ap (stopped_of false) (sym pairs_are) ∙ q) where
      at_f : f.stopped c ≡ true → f.stopped (owner f.layout k) ≡ true
      at_f s = ap f.stopped owner_is ∙ s

      by : (b : Bool) → stopped_of false (pairs S.served) ≡ b → stopped_of (stopped_of false (pairs S.served)) ys ≡ true → (f.stopped (owner f.layout k) ≡ true) × (f.place k ≡ None)
      by true h r = let before = S.halted h in (at_f (M.stays_stopped (sym (ap e.stopped own) ∙ before.0)), (K.after_stop before.0 before.1).1)
      by false h r =
          let found = stop_found (fixed_of k fixed) (ap (λ b. stopped_of b ys) (sym h) ∙ r) in
          let now = K.stops found.0 found.1 found.2 in
          (at_f (sym (ap f.stopped own) ∙ now.0), now.1)

    -- the changes grow
    abbrev before : List (Request × Reply)
    before = pairs S.served ++ posted_in (e.place k)

    history_before : History (start k) before × ((zs : List Request) × (changes_on (start k) before ≡ changes_on (start k) (pairs S.served) ++ zs))
    history_before = many (start k) (pairs S.served) (posted_in (e.place k)) S.history (stopped_lawful (cell_of (start k) (pairs S.served)) (stopped_of false (pairs S.served)) (posted_in (e.place k)) (posted_stopped (e.place k)))

    to_end : (zs : List Request) × (changes_on (start k) ((pairs S.served ++ ys) ++ posted_in (f.place k)) ≡ changes_on (start k) (pairs S.served ++ ys) ++ zs)
    to_end = (many (start k) (pairs S.served ++ ys) (posted_in (f.place k)) grown.0 (stopped_lawful (cell_of (start k) (pairs S.served ++ ys)) (stopped_of false (pairs S.served ++ ys)) (posted_in (f.place k)) (posted_stopped (f.place k)))).1

    -- where nothing was posted
    from_none : posted_in (e.place k) ≡ [] → (zs : List Request) × (changes_on (start k) ((pairs S.served ++ ys) ++ posted_in (f.place k)) ≡ changes_on (start k) before ++ zs)
    from_none none =
        let same : changes_on (start k) before ≡ changes_on (start k) (pairs S.served) = ap (λ l. changes_on (start k) (pairs S.served ++ l)) none ∙ ap (changes_on (start k)) (append-nil (pairs S.served)) in
        chain (changes_on (start k) before) (changes_on (start k) (pairs S.served ++ ys)) _ grown.1.0 to_end.0 (grown.1.1 ∙ ap (λ l. l ++ grown.1.0) (sym same)) to_end.1

    -- where a change was
    from_posted : (x : Placed) → e.place k ≡ Some x → x.posted ≡ true → (zs : List Request) × (changes_on (start k) ((pairs S.served ++ ys) ++ posted_in (f.place k)) ≡ changes_on (start k) before ++ zs)
    from_posted x at posted = elim (K.posted x at posted) [
      | inl stays ↦
          let none : ys ≡ [] = ap (map replied) stays.0 in
          ([], ap (λ l. changes_on (start k) ((pairs S.served ++ l) ++ posted_in (f.place k))) none ∙ ap (λ l. changes_on (start k) (l ++ posted_in (f.place k))) (append-nil (pairs S.served)) ∙ ap (λ o. changes_on (start k) (pairs S.served ++ posted_in o)) (stays.1 ∙ sym at) ∙ sym (append-nil (changes_on (start k) before)))
      | inr first ↦ answered first.0 first.1 first.2 first.3
    ] where
      here : posted_in (e.place k) ≡ (x.request, Stopped) ∷ []
      here = ap posted_in at ∙ ap (λ b. cond b ((x.request, Stopped) ∷ []) []) posted

      changes : is_change x.request (cell_of (start k) (pairs S.served)) ≡ true
      changes = ap (is_change x.request) S.cell ∙ (S.holds.posted x at posted).0

      answered : (r : Reply) (more : List Fixed) → fixed_of k fixed ≡ record { number = x.number; request = x.request; reply = r; refusal = None } ∷ more → (is_finish r ≡ true) ⊎ (r ≡ Stopped) → (zs : List Request) × (changes_on (start k) ((pairs S.served ++ ys) ++ posted_in (f.place k)) ≡ changes_on (start k) before ++ zs)
      answered r more is how =
          let split : ys ≡ (x.request, r) ∷ map replied more = ap (map replied) is in
          let law : IsLawfulFor (cell_of (start k) (pairs S.served)) (stopped_of false (pairs S.served)) ((x.request, r) ∷ map replied more) = subst (λ l. IsLawfulFor (cell_of (start k) (pairs S.served)) (stopped_of false (pairs S.served)) l) split lawful in
          let one : changes_on (start k) (pairs S.served ++ (x.request, r) ∷ []) ≡ changes_on (start k) before = by_reply how law.0 ∙ sym (ap (λ l. changes_on (start k) (pairs S.served ++ l)) here) in
          let cell : cell_of (start k) (pairs S.served ++ (x.request, r) ∷ []) ≡ cell_left x.request r (cell_of (start k) (pairs S.served)) = cell_of-append (start k) (pairs S.served) ((x.request, r) ∷ []) in
          let stop : stopped_of false (pairs S.served ++ (x.request, r) ∷ []) ≡ (stopped_of false (pairs S.served) || is_stopped r) = stopped_of-append false (pairs S.served) ((x.request, r) ∷ []) in
          let law' : IsLawfulFor (cell_of (start k) (pairs S.served ++ (x.request, r) ∷ [])) (stopped_of false (pairs S.served ++ (x.request, r) ∷ [])) (map replied more) =
          subst (λ d. IsLawfulFor d (stopped_of false (pairs S.served ++ (x.request, r) ∷ [])) (map replied more)) (sym cell) (subst (λ s. IsLawfulFor (cell_left x.request r (cell_of (start k) (pairs S.served))) s (map replied more)) (sym stop) law.1) in
          let rest' = (further law.0 law').1 in
          let all : changes_on (start k) (pairs S.served ++ ys) ≡ changes_on (start k) (pairs S.served ++ (x.request, r) ∷ []) ++ rest'.0 =
          ap (λ l. changes_on (start k) (pairs S.served ++ l)) split ∙ ap (changes_on (start k)) (sym (append_assoc (pairs S.served) ((x.request, r) ∷ []) (map replied more))) ∙ rest'.1 in
          chain (changes_on (start k) before) (changes_on (start k) (pairs S.served ++ ys)) _ rest'.0 to_end.0 (all ∙ ap (λ l. l ++ rest'.0) one) to_end.1 where
            by_reply : (is_finish r ≡ true) ⊎ (r ≡ Stopped) → MayReply x.request (cell_of (start k) (pairs S.served)) (stopped_of false (pairs S.served)) r → changes_on (start k) (pairs S.served ++ (x.request, r) ∷ []) ≡ changes_on (start k) (pairs S.served ++ (x.request, Stopped) ∷ [])
            by_reply (inl finish) may = finishes_open (start k) (pairs S.served) x.request r S.history may finish changes
            by_reply (inr stop) may = ap (λ s. changes_on (start k) (pairs S.served ++ (x.request, s) ∷ [])) stop

            further : MayReply x.request (cell_of (start k) (pairs S.served)) (stopped_of false (pairs S.served)) r → IsLawfulFor (cell_of (start k) (pairs S.served ++ (x.request, r) ∷ [])) (stopped_of false (pairs S.served ++ (x.request, r) ∷ [])) (map replied more) → History (start k) ((pairs S.served ++ (x.request, r) ∷ []) ++ map replied more) × ((us : List Request) × (changes_on (start k) ((pairs S.served ++ (x.request, r) ∷ []) ++ map replied more) ≡ changes_on (start k) (pairs S.served ++ (x.request, r) ∷ []) ++ us))
            further may law = many (start k) (pairs S.served ++ (x.request, r) ∷ []) (map replied more) (histories.more (start k) (pairs S.served) x.request r S.history may) law

    grow : (zs : List Request) × (changes_on (start k) ((pairs S.served ++ ys) ++ posted_in (f.place k)) ≡ changes_on (start k) before ++ zs)
    grow = by (e.place k) refl where
      by : (o : Option Placed) → e.place k ≡ o → (zs : List Request) × (changes_on (start k) ((pairs S.served ++ ys) ++ posted_in (f.place k)) ≡ changes_on (start k) before ++ zs)
      by None q = from_none (ap posted_in q)
      by (Some x) q = elim x.posted as (λ b. x.posted ≡ b → (zs : List Request) × (changes_on (start k) ((pairs S.served ++ ys) ++ posted_in (f.place k)) ≡ changes_on (start k) before ++ zs)) [
        | true ↦ λ is. from_posted x q is
        | false ↦ λ is. from_none (ap posted_in q ∙ ap (λ b. cond b ((x.request, Stopped) ∷ []) []) is)
      ] refl

    -- what is pending after the move
    abbrev Next : Pending → Type 0
    Next p = (q : Request) × (rest : List Request) × (changes_on (start k) (pairs served' ++ posted_in (f.place k)) ≡ finished (pairs served') ++ q ∷ rest)
        × (left_by (group_for f k) (places.owner (group_for f k).place k) p.entry.body ≡ cell_after q (cell_at f k))

    next_posted : (p : Pending) (x : Placed) → (group_for f k).pending k ≡ Some p → f.place k ≡ Some x → x.posted ≡ true → Next p
    next_posted p x is at posted =
        let h = (M.holds k own).posted x at posted in
        let same : h.1.0 ≡ p = (let both = sym h.1.2 ∙ is in cc both) in (
          x.request,
          [],
          ap (λ l. changes_on (start k) (pairs served' ++ l)) (ap posted_in at ∙ ap (λ b. cond b ((x.request, Stopped) ∷ []) []) posted) ∙ open_end (start k) (pairs served') x.request history' (going at) (ap (is_change x.request) cell_is ∙ h.0),
          ap (λ (y : Pending). left_by (group_for f k) (places.owner (group_for f k).place k) y.entry.body) (sym same) ∙ h.1.4,
        ) where
          going : f.place k ≡ Some x → stopped_of false (pairs served') ≡ false
          going at = elim (stopped_of false (pairs served')) as (λ b. stopped_of false (pairs served') ≡ b → b ≡ false) [
            | false ↦ λ q. refl
            | true ↦ λ q. (let none = (halted' q).1 in absurd (let both = sym none ∙ at in cc both))
          ] refl

    -- a change in doubt is the one that was pending before, and everything since was answered Stopped
    next_doubt : (p : Pending) (o : Option ℕ) → (group_for e k).pending k ≡ Some (record { entry = p.entry; slot = o }) → AllByRecursion (λ (y : Request × Reply). y.1 ≡ Stopped) ys
        → left_by (group_for f k) (places.owner (group_for f k).place k) p.entry.body ≡ left_by (group_for e k) (places.owner (group_for e k).place k) p.entry.body → Next p
    next_doubt p o was stop left =
        let old = S.pending (record { entry = p.entry; slot = o }) was in
        let fin : finished (pairs served') ≡ finished (pairs S.served) = ap finished pairs_are ∙ finished-append (pairs S.served) ys ∙ ap (λ l. finished (pairs S.served) ++ l) (stopped_none ys stop) ∙ append-nil (finished (pairs S.served)) in
        let cell : cell_at f k ≡ cell_at e k = sym K.cell ∙ stopped_cell (cell_at e k) ys stop in (
          old.0,
          old.1 ++ grow.0,
          ap (λ l. changes_on (start k) (l ++ posted_in (f.place k))) pairs_are ∙ grow.1 ∙ ap (λ l. l ++ grow.0) old.2 ∙ append_assoc (finished (pairs S.served)) (old.0 ∷ old.1) grow.0 ∙ ap (λ l. l ++ old.0 ∷ (old.1 ++ grow.0)) (sym fin),
          left ∙ old.3 ∙ ap (cell_after old.0) (sym cell),
        )

    module _ (L : Lawful (e.group (group_of e.layout c))) where
      group_e : group_for e k ≡ e.group (group_of e.layout c)
      group_e = ap (λ d. e.group (d / e.layout.group)) own

      group_f : group_for f k ≡ f.group (group_of e.layout c)
      group_f = (λ i. f.group (key_group (M.layout i) k)) ∙ ap (λ d. f.group (d / e.layout.group)) own

      -- the machine leaves a change in doubt
      left_stays : (d : Entry) → (group_for e k).pending k ≡ Some (record { entry = d; slot = None }) → left_by (group_for f k) (places.owner (group_for f k).place k) d.body ≡ left_by (group_for e k) (places.owner (group_for e k).place k) d.body
      left_stays d was =
          let run = run_doubt k d (e.group (group_of e.layout c)) (map (λ x. (member_of e.layout c, x)) M.steps) (f.group (group_of e.layout c)) L M.runs (sym (ap (λ (w : Group). w.pending k) group_e) ∙ was) in
          ap (λ (w : Group). left_by w (places.owner w.place k) d.body) group_f ∙ run.1 ∙ sym (ap (λ (w : Group). left_by w (places.owner w.place k) d.body) group_e)

      next : (p : Pending) → (group_for f k).pending k ≡ Some p → Next p
      next p is = elim ((M.holds k own).pending p is) [
        | inl at ↦ next_posted p at.0 is at.1 at.2
        | inr doubt ↦ by_doubt (K.doubt p.entry (is ∙ ap (λ (o : Option ℕ). Some (record { entry = p.entry; slot = o })) doubt.0))
      ] where
        idle : (group_for e k).pending k ≡ Some (record { entry = p.entry; slot = None }) → (e.stopped c ≡ true) × (e.place k ≡ None)
        idle was = elim (S.holds.pending (record { entry = p.entry; slot = None }) was) [
          | inl at ↦ absurd (let h = (S.holds.posted at.0 at.1 at.2).1 in let both : Some h.0 ≡ Some (record { entry = p.entry; slot = None }) = sym h.2 ∙ was in let same : h.0 ≡ record { entry = p.entry; slot = None } = cc both in let none = ap (λ (x : Pending). x.slot) same in let some = h.3 in cc (none, some))
          | inr so ↦ (sym (ap e.stopped own) ∙ so.2, so.1)
        ]

        by_doubt : ((group_for e k).pending k ≡ Some (record { entry = p.entry; slot = None }))
            ⊎ ((x : Placed) × (rest : List Fixed) × (s : ℕ) × (e.place k ≡ Some x) × (x.posted ≡ true) × ((group_for e k).pending k ≡ Some (record { entry = p.entry; slot = Some s }))
            × (fixed_of k fixed ≡ record { number = x.number; request = x.request; reply = Stopped; refusal = None } ∷ rest)
            × (left_by (group_for f k) (places.owner (group_for f k).place k) p.entry.body ≡ left_by (group_for e k) (places.owner (group_for e k).place k) p.entry.body)) → Next p
        by_doubt (inl was) = let so = idle was in next_doubt p None was (all_stop so.0 so.1) (left_stays p.entry was)
        by_doubt (inr new) =
            let split : ys ≡ (new.0.request, Stopped) ∷ map replied new.1 = ap (map replied) new.6 in
            let law : IsLawfulFor (cell_at e k) false ((new.0.request, Stopped) ∷ map replied new.1) = subst (λ l. IsLawfulFor (cell_at e k) false l) split K.lawful in
            let stop : AllByRecursion (λ (y : Request × Reply). y.1 ≡ Stopped) ((new.0.request, Stopped) ∷ map replied new.1) = (refl, stop_all (cell_at e k) (map replied new.1) law.1) in
            next_doubt p (Some new.2) new.5 (subst (AllByRecursion (λ (y : Request × Reply). y.1 ≡ Stopped)) (sym split) stop) new.7

      stands' : KeyStands (start k) f k
      stands' = record {
        served = served';
        split = ap (requests_of k) M.given ∙ S.split ∙ ap (λ l. map asked_in S.served ++ l) (ahead k own) ∙ sym (append_assoc (map asked_in S.served) (map asked (fixed_of k fixed)) (line f k ++ requests_for k (f.backlog c)))
            ∙ ap (λ l. l ++ (line f k ++ requests_for k (f.backlog c))) (sym (map-append asked_in S.served (map (stamped t) (fixed_of k fixed)) ∙ ap (λ l. map asked_in S.served ++ l) (asked_stamped t (fixed_of k fixed))))
            ∙ ap (λ d. map asked_in served' ++ (line f k ++ requests_for k (f.backlog d))) (sym owner_is);
        answers = all_append (λ (x : Served). f.answer x.number ≡ Some x.answer) S.served (map (stamped t) (fixed_of k fixed)) (still_answered k)
            (all_map (λ (x : Served). f.answer x.number ≡ Some x.answer) (stamped t) (fixed_of k fixed) (in_all _ (fixed_of k fixed) (λ x i. M.answers.new x (in_filter (λ (x : Fixed). key_of x.request == k) fixed x i).0)));
        waiting = subst (λ (d : ℕ). AllByRecursion (λ (x : ℕ × Request). f.answer x.0 ≡ None) (line f k ++ requests_for k (f.backlog d))) (sym owner_is)
            (in_all (λ (x : ℕ × Request). f.answer x.0 ≡ None) (line f k ++ requests_for k (f.backlog c)) (λ x i. still_waits k x (still_in k own x i) (λ y mine j same. (let less = behind k own x y i j in absurd (omega (arith, less, same))))));
        stamps = all_append (λ (x : Served). x.answer.stamp ≤ t) S.served (map (stamped t) (fixed_of k fixed)) (not_earlier k)
            (all_map (λ (x : Served). x.answer.stamp ≤ t) (stamped t) (fixed_of k fixed) (in_all _ (fixed_of k fixed) (λ x i. omega arith)));
        history = history';
        cell = cell_is;
        halted = halted';
        holds = M.holds k own;
        pending = next;
      }

      pub own_goes : KeyGoes (start k) e f k (keys k)
      unfolding stands'
      own_goes = record {
        new = stands';
        more = map (stamped t) (fixed_of k fixed);
        served = refl;
        stamps = all_map (λ (x : Served). x.answer.stamp ≡ t) (stamped t) (fixed_of k fixed) (in_all _ (fixed_of k fixed) (λ x i. refl));
        grows = (grow.0, ap (λ l. changes_on (start k) (l ++ posted_in (f.place k))) pairs_are ∙ grow.1);
      }

      -- what was answered since
      pub own_pairs : pairs own_goes.new.served ≡ pairs (keys k).served ++ map replied (fixed_of k fixed)
      unfolding own_goes stands'
      own_pairs = map-append served_as (keys k).served (map (stamped t) (fixed_of k fixed)) ∙ ap (λ l. pairs (keys k).served ++ l) (pairs_stamped t (fixed_of k fixed))

  -- A key of another core.
  module _ (k : ℕ) (other : owner e.layout k ≢ c) (G : Groups e.layout e.group) (layout : IsLayout e.layout) where
    abbrev T : KeyStands (start k) e k
    T = keys k

    -- what its group has of it is as it was
    pub record SameThere : Type 0 where
      pub cell : cell_at f k ≡ cell_at e k
      pub last : (group_for f k).last k ≡ (group_for e k).last k
      pub pending : (group_for f k).pending k ≡ (group_for e k).pending k
      pub left : (b : Body) → left_by (group_for f k) (places.owner (group_for f k).place k) b ≡ left_by (group_for e k) (places.owner (group_for e k).place k) b

    in_group : group_for f k ≡ f.group (key_group e.layout k)
    in_group = λ i. f.group (key_group (M.layout i) k)

    abbrev own_core : ℕ
    own_core = owner e.layout k

    abbrev at : ℕ
    at = key_group e.layout k

    -- the owner's view is as it was, and has what the group has
    same_view : view_of (f.group at) (member_of e.layout own_core) ≡ view_of (e.group at) (member_of e.layout own_core)
    same_view = other_view e.layout c e.group f.group M.steps M.other_groups M.runs own_core other

    own_e : places.owner (e.group at).place k ≡ member_of e.layout own_core
    own_e = ap (λ (p : Place). places.owner p k) (G.place at (key_group_low e.layout layout k)) ∙ of_member e.layout layout own_core k refl

    place_f : (f.group at).place ≡ (e.group at).place
    place_f = elim (cases_eq at (group_of e.layout c)) [
      | inl mine ↦ subst (λ (g : ℕ). (f.group g).place ≡ (e.group g).place) (sym mine) (run_place (e.group (group_of e.layout c)) (map (λ x. (member_of e.layout c, x)) M.steps) (f.group (group_of e.layout c)) M.runs)
      | inr apart ↦ ap (λ (w : Group). w.place) (M.other_groups at apart)
    ]

    own_f : places.owner (f.group at).place k ≡ member_of e.layout own_core
    own_f = ap (λ (p : Place). places.owner p k) place_f ∙ own_e

    same_there : SameThere
    same_there = let m = member_of e.layout own_core in record {
      cell = ap (λ (w : Group). w.cell k) in_group ∙ sym (cell_in (f.group at) m k own_f) ∙ ap (λ (v : View). v.cell k) same_view ∙ cell_in (e.group at) m k own_e;
      last = ap (λ (w : Group). w.last k) in_group ∙ sym (last_in (f.group at) m k own_f) ∙ ap (λ (v : View). v.last k) same_view ∙ last_in (e.group at) m k own_e;
      pending = ap (λ (w : Group). w.pending k) in_group ∙ sym (pending_in (f.group at) m k own_f) ∙ ap (λ (v : View). v.pending k) same_view ∙ pending_in (e.group at) m k own_e;
      left = λ b. ap (λ (w : Group). left_by w (places.owner w.place k) b) in_group ∙ sym (left_from (f.group at) m k own_f b) ∙ ap (λ (v : View). left_in v.blocks b) same_view ∙ left_from (e.group at) m k own_e b;
    }

    place_same : f.place k ≡ e.place k
    place_same = (M.other_keys k other).0

    stop_same : f.stopped (owner f.layout k) ≡ e.stopped (owner e.layout k)
    stop_same = ap f.stopped (owner_same k) ∙ M.other_stops (owner e.layout k) other

    line_same : line f k ≡ line e k
    line_same = let w = (M.other_keys k other).1 in (λ i. request_placed (place_same i) ++ w i)

    stays : KeyStands (start k) f k
    stays = let same = same_there in record {
      served = T.served;
      split = ap (requests_of k) M.given ∙ T.split ∙ sym ((λ i. map asked_in T.served ++ (line_same i ++ requests_for k (f.backlog (owner_same k i)))) ∙ ap (λ l. map asked_in T.served ++ (line e k ++ requests_for k l)) (M.other_backlogs (owner e.layout k) other));
      answers = still_answered k;
      waiting = subst (λ (l : List (ℕ × Request)). AllByRecursion (λ (x : ℕ × Request). f.answer x.0 ≡ None) l) (sym ((λ i. line_same i ++ requests_for k (f.backlog (owner_same k i))) ∙ ap (λ l. line e k ++ requests_for k l) (M.other_backlogs (owner e.layout k) other)))
          (in_all (λ (x : ℕ × Request). f.answer x.0 ≡ None) (line e k ++ requests_for k (e.backlog (owner e.layout k))) (λ x i. still_waits k x i (λ y mine j same. absurd (other mine))));
      stamps = not_earlier k;
      history = T.history;
      cell = T.cell ∙ sym same.cell;
      halted = λ q. (let h = T.halted q in (stop_same ∙ h.0, place_same ∙ h.1));
      holds = record {
        posted = λ x at posted.
            let h = T.holds.posted x (sym place_same ∙ at) posted in
            (ap (is_change x.request) same.cell ∙ h.0, (h.1.0, h.1.1, same.pending ∙ h.1.2, h.1.3, same.left h.1.0.entry.body ∙ h.1.4 ∙ ap (cell_after x.request) (sym same.cell)));
        pending = λ p is. elim (T.holds.pending p (sym same.pending ∙ is)) [
          | inl at ↦ inl (at.0, place_same ∙ at.1, at.2)
          | inr doubt ↦ inr (doubt.0, place_same ∙ doubt.1, stop_same ∙ doubt.2)
        ];
      };
      pending = λ p is.
          let n = T.pending p (sym same.pending ∙ is) in
          (n.0, n.1, ap (λ o. changes_on (start k) (pairs T.served ++ posted_in o)) place_same ∙ n.2, same.left p.entry.body ∙ n.3 ∙ ap (cell_after n.0) (sym same.cell));
    }

    pub other_goes : KeyGoes (start k) e f k (keys k)
    unfolding stays
    other_goes = record {
      new = stays;
      more = [];
      served = sym (append-nil T.served);
      stamps = tt;
      grows = ([], ap (λ o. changes_on (start k) (pairs T.served ++ posted_in o)) place_same ∙ sym (append-nil _));
    }

    pub other_pairs : pairs other_goes.new.served ≡ pairs (keys k).served
    unfolding other_goes stays
    other_pairs = refl

    pub other_last : (group_for f k).last k ≡ (group_for e k).last k
    other_last = same_there.last
