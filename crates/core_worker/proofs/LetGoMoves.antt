-- A change is let go and what waits of its key is begun: a whole move to whoever runs several workers.
use Rattle.engine_laws.specs.WorkerMoves.{HasDoubt}
use Rattle.std.proofs.Common.{◌≡◌, ◌≢◌, ◌⊎◌, inl, inr, ⊎_elim, ℕ, ◌≤◌, ◌==◌, ◌||◌, Bool, true, false, cond, List, [], ◌∷◌, ◌++◌, map, Option, Some, None, refl, sym, ◌∙◌, ap, subst, arith, append-nil}
use Rattle.std.specs.Prelude.{option_map, option_to_list, IfSome}
use Rattle.std.specs.List.{filter}
use Rattle.std.proofs.lemmas.Bool.{cases_eq, eq-eqb, ne_eqb}
use Rattle.fs_model.specs.declared.model.Request.{Request}
use Rattle.fs_model.specs.declared.model.Reply.{Reply}
use Rattle.fs_model.specs.declared.model.Reply.TheVariants as replies
use Rattle.fs_model.specs.Cells.{key_of}
use Rattle.fs_model.specs.Lawful.{MayReply, IsLawfulFor, cell_left, cell_of, is_finish, is_stopped}
use Rattle.pm_region.specs.State.{State, IsTelling}
use Rattle.pm_region.proofs.Clients.{started, all_kept}
use Rattle.log_entry.specs.declared.entry.Entry.{Entry}
use Rattle.log_entry.specs.declared.entry.Body.{Body}
use Rattle.log_entry.specs.declared.entry.Body.TheVariants as bodies
use Rattle.store_image.specs.Facts.{In}
use Rattle.conflict_queue.specs.declared.types.Held.{Held}
use Rattle.conflict_queue.specs.Waiting.{waiting}
use Rattle.group_laws.specs.declared.types.Block.{Block}
use Rattle.group_laws.specs.declared.types.Slot.TheVariants.{Failed}
use Rattle.group_laws.specs.Places.{Place, owner}
use Rattle.group_laws.specs.State.{Group}
use Rattle.group_laws.specs.Steps.{bytes_of}
use Rattle.group_laws.specs.MemberViews.{View}
use Rattle.group_board.specs.Views.{left_in}
use Rattle.licence.specs.Licence.{Licensed, part_at, part_end}
use Rattle.core_worker.specs.declared.types.Place as places
use Rattle.core_worker.specs.declared.types.Place.TheVariants.{Free, Staged, Posted}
use Rattle.core_worker.specs.declared.worker.Worker.{Worker}
use Rattle.core_worker.specs.OwnPlaces.{place_at, key_in, is_busy, AreApart, Replaces, request_by, request_pending, bytes_or}
use Rattle.core_worker.specs.KeyTies.{IsPlaced, Offers}
use Rattle.core_worker.specs.Ties.{Holds, Stands}
use Rattle.core_worker.specs.Turns.{Steps}
use Rattle.core_worker.specs.Beginning.{answers_of, answer_with}
use Rattle.core_worker.specs.Answering.{AddsAnswers}
use Rattle.core_worker.proofs.Given.{said_same, given_by, adds_then, ends_untold}
use Rattle.core_worker.specs.Finishing.{Serves, ShortOf}
use Rattle.core_worker.specs.Turning.{TurnMoves}
use Rattle.group_board.specs.Seats.{SeatAt}
use Rattle.core_worker.specs.WorkerMoves.{asked, SpendsIn, Placed, Fixed, replied, request_placed, line_in, placed_in, placed_for, asked_by, hands_of, fixed_of, stock_of, AnswersKey, WorkerMoves}
use Rattle.std.specs.List.{AllByRecursion}
use Rattle.chunk_map.specs.declared.layouts.Geometry.{Geometry}
use Rattle.core_index.specs.Index.{known_at}
use Rattle.core_index.specs.Records.{last_of}
use Rattle.engine_laws.specs.FreeStock.{IsAtLeast, LacksRoom}
use Rattle.engine_laws.specs.RefusalCauses.{raised, HaveCauses, Refuses}
use Rattle.engine_laws.proofs.Clients.{raised_by_low, causes_up, full_less, quiet_refuses}
use Rattle.lazy_alloc.specs.Sets.{AreSets}
use Rattle.store_image.proofs.Clients.{in_front}
use Rattle.group_laws.proofs.Clients.{in_map}
use Rattle.core_worker.proofs.StockFacts.{stages_spend, stock_small}
use Rattle.core_worker.proofs.CauseFacts.{finish_causeless, all_stopped}
use Rattle.core_worker.proofs.HandKeys.{holds_key}
use Rattle.core_worker.proofs.HandPlaces.{held_at, held_beside}
use Rattle.core_worker.proofs.Posts.{busy_has}
use Rattle.core_worker.proofs.PostMoves.{kept_key}
use Rattle.core_worker.proofs.QuietMoves.{runs_in}
use Rattle.core_worker.proofs.ServedLines.{Line, lawful_before, lines_all, lines_short, line_kept}

-- all are of the key, or none is
fixed_all : (k : ℕ) (fs : List Fixed) → ((y : Fixed) → In y fs → key_of y.request ≡ k) → fixed_of k fs ≡ fs
fixed_all k [] keys = refl
fixed_all k (x ∷ xs) keys = (λ i. cond (eq-eqb (key_of x.request) k (keys x (inl refl)) i) (x ∷ fixed_all k xs (λ y at. keys y (inr at)) i) (fixed_of k xs))

fixed_none : (j k : ℕ) (fs : List Fixed) → j ≢ k → ((y : Fixed) → In y fs → key_of y.request ≡ k) → fixed_of j fs ≡ []
fixed_none j k [] ne keys = refl
fixed_none j k (x ∷ xs) ne keys = (λ i. cond (ne_eqb (key_of x.request) j (λ e. ne (sym e ∙ keys x (inl refl))) i) (x ∷ fixed_of j xs) (fixed_of j xs)) ∙ fixed_none j k xs ne (λ y at. keys y (inr at))

-- what another place holds, where its pending change and its block stay
pub in_kept : (p : Place) (m : ℕ) (v u : View) (s j : ℕ) (y : places.Place) → IsPlaced p m v s y → key_in y ≡ Some j → u.pending j ≡ v.pending j → ((q : ℕ) (b : Block) → v.blocks q ≡ Some b → b.key ≡ j → u.blocks q ≡ v.blocks q) → placed_in u y ≡ placed_in v y
in_kept p m v u s j Free is has pending blocks = refl
in_kept p m v u s j (Staged n d z) is has pending blocks = refl
in_kept p m v u s j (Posted n i l) is has pending blocks =
    let at : i ≡ j = cc has in
    let old : request_pending v i (v.pending i) ≡ request_pending v i (Some (record { entry = is.0; slot = Some s })) = ap (request_pending v i) is.1 in
    let new : request_pending u i (u.pending i) ≡ request_pending u i (Some (record { entry = is.0; slot = Some s })) = ap (request_pending u i) (ap u.pending at ∙ pending ∙ ap v.pending (sym at) ∙ is.1) in
    ap (option_map (λ r. record { number = n; request = r; posted = true })) (new ∙ ap Some (by is.0.body is.4 at) ∙ sym old)
  where
    by : (b : Body) → Offers v i b → i ≡ j → request_by i (bytes_or (left_in u.blocks b)) b ≡ request_by i (bytes_or (left_in v.blocks b)) b
    by (bodies.Pointer q) o at = ap (λ d. request_by i (bytes_or (bytes_of d)) (bodies.Pointer q)) (blocks q (record { key = i; bytes = o.0 }) o.1 at)
    by (bodies.Embedded z) o at = refl
    by bodies.Tombstone o at = refl

module _ (Known : Type 0) (p : Place) (m : ℕ) (v u : View) (w f x : Worker) (k slot : ℕ) (H : Holds p m v w) (N : Holds p m u x) (hand_of : w.winds_down ≡ false → w.in_hand ≡ None) (own : owner p k ≡ m)
    (pl : Placed) (key : key_in (place_at w.places.items slot) ≡ Some k) (held : placed_in v (place_at w.places.items slot) ≡ Some pl) (of_key : key_of pl.request ≡ k) (R : Replaces w.places.items f.places.items slot Free)
    (queue : f.queue ≡ w.queue) (hand : f.in_hand ≡ w.in_hand) (winds : f.winds_down ≡ w.winds_down)
    (reply : Reply) (answers : answers_of f ≡ answers_of w ++ answer_with pl.number reply None ∷ []) (may : MayReply pl.request (v.cell k) false reply) (left : cell_left pl.request reply (v.cell k) ≡ u.cell k)
    (halts : reply ≡ replies.Stopped → f.stopped ≡ true) (stays : w.stopped ≡ true → f.stopped ≡ true) (ends : (is_finish reply ≡ true) ⊎ (reply ≡ replies.Stopped))
    (doubt : (d : Entry) → u.pending k ≡ Some (record { entry = d; slot = None }) → (v.pending k ≡ Some (record { entry = d; slot = None })) ⊎ ((s : ℕ) × (pl.posted ≡ true) × (reply ≡ replies.Stopped) × (v.pending k ≡ Some (record { entry = d; slot = Some s })) × (left_in u.blocks d.body ≡ left_in v.blocks d.body)))
    (cells : (j : ℕ) → j ≢ k → u.cell j ≡ v.cell j) (pendings : (j : ℕ) → j ≢ k → u.pending j ≡ v.pending j) (blocks : (q : ℕ) (b : Block) → v.blocks q ≡ Some b → b.key ≢ k → u.blocks q ≡ v.blocks q)
    (last_here : u.last k ≤ raised (v.last k) reply) (lasts : (j : ℕ) → j ≢ k → u.last j ≤ v.last j) (known : f.stopped ≡ false → last_of (known_at f.index k) ≤ raised (v.last k) reply) (layout : f.layout ≡ p.layout) (stock : IsAtLeast (stock_of w) (stock_of f))
    (lists : (u.posted ≡ v.posted) × (u.took ≡ v.took) × (u.flying ≡ v.flying)) (sets : AreSets f.allocator) (sets_layout : f.allocator.layout ≡ p.layout)
    (serves : Serves Known f x (u.cell k) k ⊎ ShortOf Known f x (u.cell k) k) where
  idle : is_busy f.places.items k ≡ false
  idle = by (is_busy f.places.items k) refl where
    by : (b : Bool) → is_busy f.places.items k ≡ b → is_busy f.places.items k ≡ false
    by false e = e
    by true e =
        let at = busy_has f.places.items k e in
        let ne : at.0 ≢ slot = λ same. (let both : None ≡ Some k = sym (ap key_in R.here) ∙ ap (λ n. key_in (place_at f.places.items n)) (sym same) ∙ at.2 in cc both) in
        absurd (ne (H.apart at.0 slot k (ap key_in (sym (R.others at.0 ne)) ∙ at.2) key))

  apart : AreApart f.places.items
  apart s t j a b =
      let was : (n : ℕ) → key_in (place_at f.places.items n) ≡ Some j → key_in (place_at w.places.items n) ≡ Some j =
      λ n e. ap key_in (sym (R.others n (λ same. (let both : None ≡ Some j = sym (ap key_in R.here) ∙ ap (λ i. key_in (place_at f.places.items i)) (sym same) ∙ e in cc both)))) ∙ e in
      H.apart s t j (was s a) (was t b)

  waits_none : f.in_hand ≡ None → map asked_by (waiting f.queue k) ≡ (hands_of v w).waits k
  waits_none none = sym ((λ i. map asked_by (filter (λ h. key_of h.request == k) (option_to_list ((sym hand ∙ none) i)) ++ waiting (sym queue i) k)))

  -- the line of the key
  lines : (hs : List Held) × (fs : List Fixed) × Line Known u f x k (u.cell k) hs fs × (map asked_by hs ≡ (hands_of v w).waits k)
  lines = ⊎_elim
      (λ s. ⊎_elim
      (λ ends. (
        filter (λ h. key_of h.request == k) (option_to_list f.in_hand) ++ waiting f.queue k,
        [],
        subst (λ (y : Worker). Line Known u f y k (u.cell k) (filter (λ h. key_of h.request == k) (option_to_list f.in_hand) ++ waiting f.queue k) []) (sym ends.1) (line_kept Known u k (u.cell k) f idle),
        (λ i. map asked_by (filter (λ h. key_of h.request == k) (option_to_list (hand i)) ++ waiting (queue i) k)),
      ))
      (λ on. let none = hand ∙ hand_of (sym winds ∙ on.0) in let L = lines_all Known u k (u.cell k) (waiting f.queue k) f x on.1 none idle apart refl in (waiting f.queue k, L.0, L.1, waits_none none)) s)
      (λ short. let none = hand ∙ hand_of (sym winds ∙ short.0) in let L = lines_short Known u k (u.cell k) (waiting f.queue k) f x short.1 none idle apart refl in (waiting f.queue k, L.0, L.1, waits_none none))
      serves

  fs : List Fixed
  fs = lines.1

  L : Line Known u f x k (u.cell k) lines.0 fs
  unfolding fs
  L = lines.2

  waits_is : map asked_by lines.0 ≡ (hands_of v w).waits k
  waits_is = lines.3

  abbrev first : Fixed
  first = record { number = pl.number; request = pl.request; reply = reply; refusal = None }

  place_before : placed_for v w.places.items k ≡ Some pl
  place_before = held_at v w.places.items slot k H.apart key ∙ held

  keys_of : (y : Fixed) → In y (first ∷ fs) → key_of y.request ≡ k
  keys_of y (inl same) = ap (λ (z : Fixed). key_of z.request) same ∙ of_key
  keys_of y (inr more) = L.keys y more

  lawful_after : IsLawfulFor (cell_left pl.request reply (v.cell k)) (false || is_stopped reply) (map replied fs)
  lawful_after = subst (λ (c : Option (List ℕ)). IsLawfulFor c (is_stopped reply) (map replied fs)) (sym left) (by f.stopped (is_stopped reply) refl refl L.lawful) where
    stopped_is : (r : Reply) → is_stopped r ≡ true → r ≡ replies.Stopped
    stopped_is replies.Stored e = absurd (cc e)
    stopped_is (replies.Value z) e = absurd (cc e)
    stopped_is replies.Absent e = absurd (cc e)
    stopped_is replies.Deleted e = absurd (cc e)
    stopped_is replies.Full e = absurd (cc e)
    stopped_is replies.VersionsSpent e = absurd (cc e)
    stopped_is replies.TooLong e = absurd (cc e)
    stopped_is replies.Stopped e = refl

    by : (b d : Bool) → f.stopped ≡ b → is_stopped reply ≡ d → IsLawfulFor (u.cell k) b (map replied fs) → IsLawfulFor (u.cell k) d (map replied fs)
    by true true e g h = h
    by true false e g h = lawful_before (u.cell k) (map replied fs) h
    by false false e g h = h
    by false true e g h = absurd (let both : false ≡ true = sym e ∙ halts (stopped_is reply g) in cc both)

  own_key : AnswersKey v u (hands_of v w) (hands_of u x) k [] (first ∷ fs)
  own_key = record {
    order = append-nil (line_in (hands_of v w) k) ∙ (λ i. request_placed (place_before i) ++ sym waits_is i) ∙ ap (λ (xs : List (ℕ × Request)). (pl.number, pl.request) ∷ xs) L.line;
    lawful = (may, lawful_after);
    cell = ap (λ (c : Option (List ℕ)). cell_of c (map replied fs)) left ∙ L.cell_now;
    after_stop = λ stopped none. absurd (let both : Some pl ≡ None = sym place_before ∙ none in cc both);
    stops = λ y i e. ⊎_elim
        (λ same. let s = halts (sym (ap (λ (z : Fixed). z.reply) same) ∙ e) in (L.stopped ∙ s, (L.halts s).1))
        (λ more. L.halted y more e) i;
    posted = λ y e is. inr (reply, fs, (let same : pl ≡ y = ap (λ (o : Option Placed). or_first o) (sym place_before ∙ e) in (λ i. record { number = (same i).number; request = (same i).request; reply = reply; refusal = None } ∷ fs)), ends);
    doubt = λ d e. ⊎_elim (λ was. inl was)
        (λ now. inr (pl, fs, now.0, place_before, now.1, now.3, (λ i. record { number = pl.number; request = pl.request; reply = now.2 i; refusal = None } ∷ fs), now.4)) (doubt d e);
  } where
    or_first : Option Placed → Placed
    or_first None = pl
    or_first (Some y) = y

  -- the causes of the key's refusals
  own_refuses : Refuses p.layout (stock_of w) (v.last k) (u.last k) (map replied (first ∷ fs))
  own_refuses =
      let F = finish_causeless p.layout (v.last k) pl.request reply ends in
      record {
        causes = (F.0, later f.stopped refl);
        full = (λ is. absurd (F.1 is), full_less p.layout (stock_of w) (stock_of f) (map replied fs) stock (subst (λ (l : Geometry). AllByRecursion (λ (y : Request × Reply). y.1 ≡ replies.Full → LacksRoom l (stock_of f) y.0) (map replied fs)) layout L.full));
        last_now = (let more = raised_by_low (map replied fs) (raised (v.last k) reply) in omega (arith, last_here, more));
      } where
        stopped_all : (ys : List Fixed) → AllByRecursion (λ (y : Fixed). y.reply ≡ replies.Stopped) ys → AllByRecursion (λ (y : Request × Reply). y.1 ≡ replies.Stopped) (map replied ys)
        stopped_all [] h = tt
        stopped_all (y ∷ ys) h = (h.0, stopped_all ys h.1)

        later : (b : Bool) → f.stopped ≡ b → HaveCauses p.layout (raised (v.last k) reply) (map replied fs)
        later true e = all_stopped p.layout (raised (v.last k) reply) (map replied fs) (stopped_all fs (L.halts e).0)
        later false e = subst (λ (l : Geometry). HaveCauses l (raised (v.last k) reply) (map replied fs)) layout (causes_up f.layout (last_of (known_at f.index k)) (raised (v.last k) reply) (map replied fs) (known e) L.causes)

  other_key : (j : ℕ) → j ≢ k → AnswersKey v u (hands_of v w) (hands_of u x) j [] []
  other_key j ne = kept_key v u (hands_of v w) (hands_of u x) j (cells j ne) (pendings j ne)
      (L.other_places j ne ∙ held_beside v u w.places.items f.places.items slot Free R H.apart apart j
      (λ e. ne (let both : Some k ≡ Some j = sym key ∙ e in let at : k ≡ j = cc both in sym at)) (λ e. cc e)
      (λ s low e. in_kept p m v u s j (place_at w.places.items s) (H.placed s (let n = H.eight in omega (arith, low, n))) e (pendings j ne) (λ q b is same. blocks q b is (λ at. ne (sym same ∙ at)))))
      (ap (map asked_by) (L.other_waits j ne) ∙ (λ i. map asked_by (filter (λ h. key_of h.request == j) (option_to_list (hand i)) ++ waiting (queue i) j)))

  other_place : (j : ℕ) → j ≢ k → (hands_of u x).place j ≡ (hands_of v w).place j
  other_place j ne = L.other_places j ne ∙ held_beside v u w.places.items f.places.items slot Free R H.apart apart j
      (λ e. ne (let both : Some k ≡ Some j = sym key ∙ e in let at : k ≡ j = cc both in sym at)) (λ e. cc e)
      (λ s low e. in_kept p m v u s j (place_at w.places.items s) (H.placed s (let n = H.eight in omega (arith, low, n))) e (pendings j ne) (λ q b is same. blocks q b is (λ at. ne (sym same ∙ at))))

  -- what was begun waited
  waited : (y : ℕ × Request) → In y (map asked_by lines.0) → key_of y.1 ≡ k → In y ((hands_of v w).waits (key_of y.1) ++ [])
  waited y i at = in_front y ((hands_of v w).waits (key_of y.1)) [] (subst (λ (n : ℕ). In y ((hands_of v w).waits n)) (sym at) (subst (λ (ys : List (ℕ × Request)). In y ys) waits_is i))

  let_go_spends : SpendsIn p m v u (hands_of v w) (hands_of u x) [] (first ∷ fs)
  let_go_spends = record {
    runs = λ y i is. ⊎_elim
        (λ same. absurd ((finish_causeless p.layout (v.last k) pl.request reply ends).1 (sym (ap (λ (z : Fixed). z.reply) same) ∙ is)))
        (λ more. (running y more is w.stopped refl, waited (asked y) (subst (λ (ys : List (ℕ × Request)). In (asked y) ys) (sym L.line) (in_front (asked y) (map asked fs) _ (in_map asked y fs more))) (L.keys y more))) i;
    stays = λ j y own at none. ⊎_elim
        (λ same. absurd (let both : first ∷ fs ≡ [] = sym (fixed_all k (first ∷ fs) keys_of) ∙ ap (λ n. fixed_of n (first ∷ fs)) (sym same) ∙ none in cc both))
        (λ ne. (y, other_place j ne ∙ at, refl, λ t. t)) (cases_eq j k);
    begun = L.begun;
    begins = λ y is. (let b = L.begins y is in record { own = ap (owner p) b.0 ∙ own; waits = waited y b.1 b.0; place = ap (placed_for u x.places.items) b.0 ∙ b.2 });
    posts = inl lists.0;
    spends = λ on. inl (stages_spend p.layout v.took v.flying u.took u.flying (stock_of w) (stock_of f) (stock_of x) L.begun stock (L.stages p.layout layout sets_layout sets N.sets) (stock_small p m u x N) lists.1 lists.2);
  } where
    all_so : (ys : List Fixed) (y : Fixed) → In y ys → AllByRecursion (λ (z : Fixed). z.reply ≡ replies.Stopped) ys → y.reply ≡ replies.Stopped
    all_so [] y i h = absurd i
    all_so (z ∷ zs) y (inl e) h = ap (λ (a : Fixed). a.reply) e ∙ h.0
    all_so (z ∷ zs) y (inr i) h = all_so zs y i h.1

    running : (y : Fixed) → In y fs → y.reply ≡ replies.Full → (b : Bool) → w.stopped ≡ b → w.stopped ≡ false
    running y i is false e = e
    running y i is true e = absurd (let both = sym is ∙ all_so fs y i (L.halts (stays e)).0 in cc both)

  pub let_go_fixed : List Fixed
  let_go_fixed = first ∷ fs

  pub let_go_answers : AddsAnswers Known (answers_of w) (answers_of x) let_go_fixed
  unfolding let_go_fixed
  let_go_answers = adds_then Known (answers_of w) (answers_of f) (answers_of x) first (answer_with pl.number reply None) fs answers (given_by Known pl.number pl.request reply reply None (said_same Known pl.request reply) (ends_untold reply ends) tt) L.answers

  pub let_go_moves : (s : State) (before after : Option Group) → Stands s p m v w → Stands s p m u x → Steps before after m u → (f.stopped ≡ true → (w.stopped ≡ true) ⊎ (HasDoubt p m u × IfSome before (λ a. (n : ℕ) × (d : Entry) × (a.slot m n ≡ Failed d))))
      → WorkerMoves p m s s before after v u (hands_of v w) (hands_of u x) [] let_go_fixed
  unfolding let_go_fixed
  let_go_moves s before after S T made cause = record {
    outside = all_kept s (part_at p m) (part_end p m);
    moments = started s (Licensed p m v) S.licensed;
    exit = T.licensed;
    steps = made.0;
    whole = runs_in m made.0 u before after made.1;
    own = λ y i. ap (owner p) (keys_of y i) ∙ own;
    keys = λ j is. ⊎_elim
        (λ same. subst (λ n. AnswersKey v u (hands_of v w) (hands_of u x) n [] (fixed_of n (first ∷ fs))) (sym same) (subst (λ (ys : List Fixed). AnswersKey v u (hands_of v w) (hands_of u x) k [] ys) (sym (fixed_all k (first ∷ fs) keys_of)) own_key))
        (λ ne. subst (λ (ys : List Fixed). AnswersKey v u (hands_of v w) (hands_of u x) j [] ys) (sym (fixed_none j k (first ∷ fs) ne keys_of)) (other_key j ne))
        (cases_eq j k);
    holds = λ j is. holds_key p m u x N j;
    refuses = λ j is. ⊎_elim
        (λ same. subst (λ n. Refuses p.layout (stock_of w) (v.last n) (u.last n) (map replied (fixed_of n (first ∷ fs)))) (sym same) (subst (λ (ys : List Fixed). Refuses p.layout (stock_of w) (v.last k) (u.last k) (map replied ys)) (sym (fixed_all k (first ∷ fs) keys_of)) own_refuses))
        (λ ne. subst (λ (ys : List Fixed). Refuses p.layout (stock_of w) (v.last j) (u.last j) (map replied ys)) (sym (fixed_none j k (first ∷ fs) ne keys_of)) (quiet_refuses p.layout (stock_of w) (v.last j) (u.last j) (lasts j ne)))
        (cases_eq j k);
    spends = let_go_spends;
    stops = λ e. ⊎_elim (λ a. inl a) (λ b. inr (inr b)) (cause (sym L.stopped ∙ e));
    breaks = N.broken;
    stays_stopped = λ e. L.stopped ∙ stays e;
  }

-- what makes it so
pub record LetGo (Known : Type 0) (p : Place) (m : ℕ) (v u : View) (w f x : Worker) (k slot : ℕ) (pl : Placed) (reply : Reply) : Type 0 where
  pub H : Holds p m v w
  pub N : Holds p m u x
  pub hand_of : w.winds_down ≡ false → w.in_hand ≡ None
  pub own : owner p k ≡ m
  pub key : key_in (place_at w.places.items slot) ≡ Some k
  pub held : placed_in v (place_at w.places.items slot) ≡ Some pl
  pub of_key : key_of pl.request ≡ k
  pub R : Replaces w.places.items f.places.items slot Free
  pub queue : f.queue ≡ w.queue
  pub hand : f.in_hand ≡ w.in_hand
  pub winds : f.winds_down ≡ w.winds_down
  pub answers : answers_of f ≡ answers_of w ++ answer_with pl.number reply None ∷ []
  pub may : MayReply pl.request (v.cell k) false reply
  pub left : cell_left pl.request reply (v.cell k) ≡ u.cell k
  pub halts : reply ≡ replies.Stopped → f.stopped ≡ true
  pub stays : w.stopped ≡ true → f.stopped ≡ true
  pub ends : (is_finish reply ≡ true) ⊎ (reply ≡ replies.Stopped)
  pub doubt : (d : Entry) → u.pending k ≡ Some (record { entry = d; slot = None }) → (v.pending k ≡ Some (record { entry = d; slot = None })) ⊎ ((s : ℕ) × (pl.posted ≡ true) × (reply ≡ replies.Stopped) × (v.pending k ≡ Some (record { entry = d; slot = Some s })) × (left_in u.blocks d.body ≡ left_in v.blocks d.body))
  pub cells : (j : ℕ) → j ≢ k → u.cell j ≡ v.cell j
  pub pendings : (j : ℕ) → j ≢ k → u.pending j ≡ v.pending j
  pub blocks : (q : ℕ) (b : Block) → v.blocks q ≡ Some b → b.key ≢ k → u.blocks q ≡ v.blocks q
  -- the last versions, what the index has of the key's, and what is free
  pub last_here : u.last k ≤ raised (v.last k) reply
  pub lasts : (j : ℕ) → j ≢ k → u.last j ≤ v.last j
  pub known : f.stopped ≡ false → last_of (known_at f.index k) ≤ raised (v.last k) reply
  pub layout : f.layout ≡ p.layout
  pub stock : IsAtLeast (stock_of w) (stock_of f)
  pub lists : (u.posted ≡ v.posted) × (u.took ≡ v.took) × (u.flying ≡ v.flying)
  pub sets : AreSets f.allocator
  pub sets_layout : f.allocator.layout ≡ p.layout
  pub serves : Serves Known f x (u.cell k) k ⊎ ShortOf Known f x (u.cell k) k

pub let_go_turn : (seat : SeatAt) (s : State) (before after : Option Group) (v u : View) (w f x : Worker) (k slot : ℕ) (pl : Placed) (reply : Reply) → LetGo (IsTelling s) seat.place seat.number v u w f x k slot pl reply → Stands s seat.place seat.number v w → Stands s seat.place seat.number u x → Steps before after seat.number u
    → (f.stopped ≡ true → (w.stopped ≡ true) ⊎ (HasDoubt seat.place seat.number u × IfSome before (λ a. (n : ℕ) × (d : Entry) × (a.slot seat.number n ≡ Failed d)))) → TurnMoves seat s s before after v u w x
let_go_turn seat s before after v u w f x k slot pl reply G S T made cause = record {
  fixed = let_go_fixed (IsTelling s) seat.place seat.number v u w f x k slot G.H G.N G.hand_of G.own pl G.key G.held G.of_key G.R G.queue G.hand G.winds reply G.answers G.may G.left G.halts G.stays G.ends G.doubt G.cells G.pendings G.blocks G.last_here G.lasts G.known G.layout G.stock G.lists G.sets G.sets_layout G.serves;
  answers = let_go_answers (IsTelling s) seat.place seat.number v u w f x k slot G.H G.N G.hand_of G.own pl G.key G.held G.of_key G.R G.queue G.hand G.winds reply G.answers G.may G.left G.halts G.stays G.ends G.doubt G.cells G.pendings G.blocks G.last_here G.lasts G.known G.layout G.stock G.lists G.sets G.sets_layout G.serves;
  moves = let_go_moves (IsTelling s) seat.place seat.number v u w f x k slot G.H G.N G.hand_of G.own pl G.key G.held G.of_key G.R G.queue G.hand G.winds reply G.answers G.may G.left G.halts G.stays G.ends G.doubt G.cells G.pendings G.blocks G.last_here G.lasts G.known G.layout G.stock G.lists G.sets G.sets_layout G.serves s before after S T made cause;
}
