-- What a chain of a core's moves says, move by move.
use Rattle.std.proofs.Common.{◌≡◌, inl, inr, ℕ, ◌==◌, Bool, List, [], ◌∷◌, ◌++◌, map, Option, Some, None, refl, sym, ◌∙◌, ap, subst, append-nil, append_assoc}
use Rattle.std.proofs.lemmas.List.{map-append}
use Rattle.std.proofs.lemmas.List.Elements.{filter-append}
use Rattle.std.specs.Global.{Global}
use Rattle.std.specs.declared.collections.VecDeque.{VecDeque}
use Rattle.fs_model.specs.declared.model.Request.{Request}
use Rattle.fs_model.specs.declared.model.Reply.{Reply}
use Rattle.fs_model.specs.Cells.{key_of}
use Rattle.pm_region.specs.State.{State, IsTelling}
use Rattle.pm_region.specs.Words.{KeepsOutside}
use Rattle.pm_region.specs.State.{cell_now}
use Rattle.pm_region.proofs.Clients.{told_at_entry}
use Rattle.log_entry.specs.declared.entry.Body.{Body}
use Rattle.log_entry.specs.declared.entry.Body.TheVariants as bodies
use Rattle.log_entry.specs.declared.entry.Entry.{Entry}
use Rattle.store_image.proofs.Clients.{in_either}
use Rattle.group_laws.specs.Places.{owner}
use Rattle.group_laws.specs.Steps.{bytes_of}
use Rattle.group_laws.specs.State.{Group}
use Rattle.group_laws.specs.MemberViews.{View}
use Rattle.group_board.specs.Seats.{SeatAt}
use Rattle.group_board.specs.Views.{left_in}
use Rattle.licence.specs.Licence.{part_at, part_end}
use Rattle.engine_laws.specs.WorkerMoves.{Placed, Fixed, asked, replied, fixed_of, requests_for, line_in, WorkerMoves}
use Rattle.engine_laws.specs.Keys.{changes_on, posted_in}
use Rattle.engine_laws.specs.KeyLaw as law
use Rattle.engine_laws.specs.KeyLaw.{KeyView, KeyIs, key_view}
use Rattle.engine_laws.proofs.Clients.{key_grows}
use Rattle.batch_leader.specs.TurnSteps.{Trail}
use Rattle.core_worker.specs.declared.types.Answer.{Answer}
use Rattle.core_worker.specs.declared.worker.Worker.{Worker}
use Rattle.core_worker.specs.Answering.{AreGiven, AddsAnswers}
use Rattle.core_worker.specs.Beginning.{answers_of}
use Rattle.core_worker.specs.KeyTies.{Offers}
use Rattle.core_worker.specs.WorkerMoves.{hands_of}
use Rattle.core_worker.proofs.Clients.{adds_none}
use Rattle.thread_engine.specs.WorkStates.{WorkState, IsAtWork, TakesNext, MakesTurn, Move, wound_down, with_more, with_answers, Leads, joined_by, given_by, joined_along, given_along}
use Rattle.thread_engine.specs.WorkStates.Move.{accepts, turns, winds_down, joins, hands_over}
use Rattle.thread_engine.specs.WorkLaws.{in_doubt, HasBlock, KeepsDoubts, hands_at, WorksOff}
use Rattle.thread_engine.specs.CoreRuns.{fixed_by, fixed_along}
use Rattle.thread_engine.proofs.Doubts.{posted_offers, turn_keeps}

-- answers one list after another, under what is known in the end
given_more : (K L M : Type 0) → (M → K) → (M → L) → (xs ys : List Fixed) (out more : List Answer) → AreGiven K xs out → AreGiven L ys more → AreGiven M (xs ++ ys) (out ++ more)
given_more K L M f g [] [] [] [] a b = tt
given_more K L M f g [] [] [] (y ∷ more) a b = absurd b
given_more K L M f g [] (y ∷ ys) [] [] a b = absurd b
given_more K L M f g [] (y ∷ ys) [] (z ∷ more) a b = (record { number = b.0.number; reply = b.0.reply; known = λ k. b.0.known (g k); cause = b.0.cause; shows = b.0.shows }, given_more K L M f g [] ys [] more tt b.1)
given_more K L M f g [] ys (x ∷ out) more a b = absurd a
given_more K L M f g (x ∷ xs) ys [] more a b = absurd a
given_more K L M f g (x ∷ xs) ys (z ∷ out) more a b = (record { number = a.0.number; reply = a.0.reply; known = λ k. a.0.known (f k); cause = a.0.cause; shows = a.0.shows }, given_more K L M f g xs ys out more a.1 b)

adds_more : (K L M : Type 0) → (M → K) → (M → L) → (xs us ys vs zs : List Answer) (fs gs : List Fixed) → AddsAnswers K xs (us ++ ys) fs → AddsAnswers L ys (vs ++ zs) gs → AddsAnswers M xs ((us ++ vs) ++ zs) (fs ++ gs)
adds_more K L M f g xs us ys vs zs fs gs A B = record {
  more = A.more ++ B.more;
  added = append_assoc us vs zs ∙ ap (λ l. us ++ l) B.added ∙ sym (append_assoc us ys B.more) ∙ ap (λ l. l ++ B.more) A.added ∙ append_assoc xs A.more B.more;
  given = given_more K L M f g fs gs A.more B.more A.given B.given;
}

-- the law of one key
abbrev pub KeyGoes : Type 0
KeyGoes = (start : Option (List ℕ)) (v u : KeyView) (place place' : Option Placed) (stopped stopped' : Bool) (xs : List (Request × Reply)) (fixed : List Fixed)
    → KeyIs start v place stopped xs → law.Does v u place place' stopped stopped' fixed → law.Holds u place' stopped' → KeyIs start u place' stopped' (xs ++ map replied fixed)

module _ (key_goes : KeyGoes) (seat : SeatAt) where
  -- where nothing was answered, and the place is as it was
  unmoved : (start : Option (List ℕ)) (xs : List (Request × Reply)) (place : Option Placed) → (more : List Request) × (changes_on start ((xs ++ []) ++ posted_in place) ≡ changes_on start (xs ++ posted_in place) ++ more)
  unmoved start xs place = ([], ap (λ l. changes_on start (l ++ posted_in place)) (append-nil xs) ∙ sym (append-nil (changes_on start (xs ++ posted_in place))))

  -- it was worked off so, these answers were fixed, and each own change in doubt has its block
  abbrev Off : WorkState → WorkState → List Fixed → List (ℕ × Request) → List Answer → Type 0
  Off a b fixed joined given = (x : WorksOff seat a b) × (x.fixed ≡ fixed) × KeepsDoubts seat b.view × (x.joined ≡ joined) × (x.given ≡ given)

  abbrev works_off_none : (a : WorkState) → WorksOff seat a a
  works_off_none a = record {
    joined = [];
    accepted = [];
    fixed = [];
    given = [];
    split = append-nil a.queue;
    answers = adds_none (IsTelling a.region) (answers_of a.worker) (answers_of a.worker) refl;
    own = λ y i. absurd i;
    order = λ k own. append-nil (line_in (hands_at a) k);
    keys = λ start k xs own S. subst (KeyIs start (key_view a.view k) ((hands_at a).place k) a.worker.stopped) (sym (append-nil xs)) S;
    grows = λ start k xs own S. unmoved start xs ((hands_at a).place k);
    told = λ t. t;
  }

  abbrev works_off_more : (a b c : WorkState) → WorksOff seat a b → WorksOff seat b c → WorksOff seat a c
  works_off_more a b c A B = record {
    joined = A.joined ++ B.joined;
    accepted = A.accepted ++ B.accepted;
    fixed = A.fixed ++ B.fixed;
    given = A.given ++ B.given;
    split = sym (append_assoc a.queue A.joined B.joined) ∙ ap (λ l. l ++ B.joined) A.split ∙ append_assoc A.accepted b.queue B.joined ∙ ap (λ l. A.accepted ++ l) B.split ∙ sym (append_assoc A.accepted B.accepted c.queue);
    answers = adds_more (IsTelling b.region) (IsTelling c.region) (IsTelling c.region) B.told (λ t. t) (answers_of a.worker) A.given (answers_of b.worker) B.given (answers_of c.worker) A.fixed B.fixed A.answers B.answers;
    own = λ y i. elim (in_either y A.fixed B.fixed i) [ inl l ↦ A.own y l | inr r ↦ B.own y r ];
    order = λ k own. order k own;
    keys = λ start k xs own S. subst (KeyIs start (key_view c.view k) ((hands_at c).place k) c.worker.stopped) (path k xs) (B.keys start k (xs ++ map replied (fixed_of k A.fixed)) own (A.keys start k xs own S));
    grows = λ start k xs own S.
        let one = A.grows start k xs own S in
        let two = B.grows start k (xs ++ map replied (fixed_of k A.fixed)) own (A.keys start k xs own S) in (
          one.0 ++ two.0,
          ap (λ l. changes_on start (l ++ posted_in ((hands_at c).place k))) (sym (path k xs)) ∙ two.1 ∙ ap (λ l. l ++ two.0) one.1 ∙ append_assoc (changes_on start (xs ++ posted_in ((hands_at a).place k))) one.0 two.0,
        );
    told = λ t. A.told (B.told t);
  } where
    fixed_is : (k : ℕ) → fixed_of k (A.fixed ++ B.fixed) ≡ fixed_of k A.fixed ++ fixed_of k B.fixed
    fixed_is k = filter-append (λ (x : Fixed). key_of x.request == k) A.fixed B.fixed

    path : (k : ℕ) (xs : List (Request × Reply)) → (xs ++ map replied (fixed_of k A.fixed)) ++ map replied (fixed_of k B.fixed) ≡ xs ++ map replied (fixed_of k (A.fixed ++ B.fixed))
    path k xs = append_assoc xs (map replied (fixed_of k A.fixed)) (map replied (fixed_of k B.fixed)) ∙ ap (λ l. xs ++ l) (sym (ap (map replied) (fixed_is k) ∙ map-append replied (fixed_of k A.fixed) (fixed_of k B.fixed)))

    order : (k : ℕ) → owner seat.place k ≡ seat.number → line_in (hands_at a) k ++ requests_for k (A.accepted ++ B.accepted) ≡ map asked (fixed_of k (A.fixed ++ B.fixed)) ++ line_in (hands_at c) k
    order k own =
        ap (λ l. line_in (hands_at a) k ++ l) (filter-append (λ (x : ℕ × Request). key_of x.1 == k) A.accepted B.accepted)
        ∙ sym (append_assoc (line_in (hands_at a) k) (requests_for k A.accepted) (requests_for k B.accepted))
        ∙ ap (λ l. l ++ requests_for k B.accepted) (A.order k own)
        ∙ append_assoc (map asked (fixed_of k A.fixed)) (line_in (hands_at b) k) (requests_for k B.accepted)
        ∙ ap (λ l. map asked (fixed_of k A.fixed) ++ l) (B.order k own)
        ∙ sym (append_assoc (map asked (fixed_of k A.fixed)) (map asked (fixed_of k B.fixed)) (line_in (hands_at c) k))
        ∙ ap (λ l. l ++ line_in (hands_at c) k) (sym (ap (map asked) (fixed_is k) ∙ map-append asked (fixed_of k A.fixed) (fixed_of k B.fixed)))

  -- one call of the worker, after which each own change in doubt leaves what it left
  module _ (s t : State) (v u : View) (old new : Trail) (w x : Worker) (queue rest : List (ℕ × Request)) (before after : Option Group) (accepted : List (ℕ × Request)) (fixed : List Fixed)
      (split : queue ≡ accepted ++ rest) (adds : AddsAnswers (IsTelling t) (answers_of w) (answers_of x) fixed)
      (M : WorkerMoves seat.place seat.number s t before after v u (hands_of v w) (hands_of u x) accepted fixed)
      (still : (k : ℕ) (d : Entry) → owner seat.place k ≡ seat.number → v.pending k ≡ Some (in_doubt d) → u.pending k ≡ Some (in_doubt d) → left_in u.blocks d.body ≡ left_in v.blocks d.body) where
    does : (k : ℕ) → owner seat.place k ≡ seat.number → law.Does (key_view v k) (key_view u k) ((hands_of v w).place k) ((hands_of u x).place k) w.stopped x.stopped (fixed_of k fixed)
    does k own = let A = M.keys k own in record {
      lawful = A.lawful;
      cell = A.cell;
      after_stop = A.after_stop;
      stops = A.stops;
      stays = M.stays_stopped;
      posted = A.posted;
      doubt = λ d now. elim (A.doubt d now) [
        | inl was ↦ (still k d own was now, inl was)
        | inr new ↦ (new.7, inr (new.0, new.1, new.2, new.3, new.4, new.5, new.6))
      ];
    }

    abbrev call_works_off : WorksOff seat (record { region = s; view = v; trail = old; worker = w; queue = queue }) (record { region = t; view = u; trail = new; worker = x; queue = rest })
    call_works_off = record {
      joined = [];
      accepted = accepted;
      fixed = fixed;
      given = [];
      split = append-nil queue ∙ split;
      answers = adds;
      own = M.own;
      order = λ k own. (M.keys k own).order;
      keys = λ start k xs own S. key_goes start (key_view v k) (key_view u k) ((hands_of v w).place k) ((hands_of u x).place k) w.stopped x.stopped xs (fixed_of k fixed) S (does k own)
          (let H = M.holds k own in record { posted = H.posted; pending = H.pending });
      grows = λ start k xs own S. key_grows start (key_view v k) (key_view u k) ((hands_of v w).place k) ((hands_of u x).place k) w.stopped x.stopped xs (fixed_of k fixed) S (does k own)
          (let H = M.holds k own in record { posted = H.posted; pending = H.pending });
      told = told_at_entry s t (KeepsOutside (cell_now s) (part_at seat.place seat.number) (part_end seat.place seat.number)) M.outside;
    }

  -- what a place offers, it has
  offers_block : (v : View) (k : ℕ) (body : Body) → Offers v k body → HasBlock v k body
  offers_block v k (bodies.Pointer q) h = h
  offers_block v k (bodies.Embedded y) h = tt
  offers_block v k bodies.Tombstone h = tt

  -- a turn keeps the blocks of changes in doubt
  module _ (refused : Bool) (a b : WorkState) (at : IsAtWork seat a) (D : KeepsDoubts seat a.view) (T : MakesTurn seat refused a b) where
    keeps : (k q : ℕ) (d : Entry) (bytes : List ℕ) → b.view.pending k ≡ Some (in_doubt d) → a.view.blocks q ≡ Some (record { key = k; bytes = bytes }) → b.view.blocks q ≡ a.view.blocks q
    keeps k q d bytes now there = turn_keeps seat.place seat.number a.region b.region refused T.before seat refl refl a.view b.view a.worker b.worker at.member.holds k q d bytes now there T.result T.turned

    carry : (k : ℕ) (d : Entry) → b.view.pending k ≡ Some (in_doubt d) → (body : Body) → HasBlock a.view k body → HasBlock b.view k body × (left_in b.view.blocks body ≡ left_in a.view.blocks body)
    carry k d now (bodies.Pointer q) h = let same = keeps k q d h.0 now h.1 in ((h.0, same ∙ h.1), ap bytes_of same)
    carry k d now (bodies.Embedded y) h = (tt, refl)
    carry k d now bodies.Tombstone h = (tt, refl)

    turn_doubts : KeepsDoubts seat b.view
    turn_doubts k d own now = elim ((T.moves.moves.keys k own).doubt d now) [
      | inl was ↦ (carry k d now d.body (D k d own was)).0
      | inr new ↦ (carry k d now d.body (offers_block a.view k d.body (posted_offers seat.place seat.number a.view a.worker at.member.holds k d new.2 new.5).0)).0
    ]

    turn_works_off : Off a b T.moves.fixed [] []
    turn_works_off = (
      call_works_off a.region b.region a.view b.view a.trail b.trail a.worker b.worker a.queue b.queue T.before T.after [] T.moves.fixed (sym T.queue) T.moves.answers T.moves.moves (λ k d own was now. (carry k d now d.body (D k d own was)).1),
      refl,
      turn_doubts,
      refl,
      refl,
    )

  accept_works_off : (a b : WorkState) → KeepsDoubts seat a.view → (A : TakesNext seat a b) → Off a b A.call.fixed [] []
  accept_works_off a b D A = subst (λ z. Off a z A.call.fixed [] []) here (
    call_works_off a.region a.region a.view a.view a.trail a.trail a.worker b.worker a.queue b.queue None None A.accepted A.call.fixed split A.call.adds (A.call.moves None) (λ k d own was now. refl),
    refl,
    D,
    refl,
    refl,
  ) where
    mid : WorkState
    mid = record { region = a.region; view = a.view; trail = a.trail; worker = b.worker; queue = b.queue }

    here : mid ≡ b
    here i = record { region = sym A.region i; view = sym A.view i; trail = sym A.trail i; worker = b.worker; queue = b.queue }

    split : a.queue ≡ A.accepted ++ b.queue
    split = elim A.either [
      | inl one ↦ A.waits ∙ (λ i. sym one.0 i ++ sym one.1 i)
      | inr none ↦ (λ i. sym none.0 i ++ sym none.1 i)
    ]

  abbrev winds_works_off : (a : WorkState) → WorksOff seat a (wound_down a)
  winds_works_off a = record {
    joined = [];
    accepted = [];
    fixed = [];
    given = [];
    split = append-nil a.queue;
    answers = adds_none (IsTelling a.region) (answers_of a.worker) (answers_of a.worker) refl;
    own = λ y i. absurd i;
    order = λ k own. append-nil (line_in (hands_at a) k);
    keys = λ start k xs own S. subst (KeyIs start (key_view a.view k) ((hands_at a).place k) a.worker.stopped) (sym (append-nil xs)) S;
    grows = λ start k xs own S. unmoved start xs ((hands_at a).place k);
    told = λ t. t;
  }

  abbrev join_works_off : (a : WorkState) (more : List (ℕ × Request)) → WorksOff seat a (with_more more a)
  join_works_off a more = record {
    joined = more;
    accepted = [];
    fixed = [];
    given = [];
    split = refl;
    answers = adds_none (IsTelling a.region) (answers_of a.worker) (answers_of a.worker) refl;
    own = λ y i. absurd i;
    order = λ k own. append-nil (line_in (hands_at a) k);
    keys = λ start k xs own S. subst (KeyIs start (key_view a.view k) ((hands_at a).place k) a.worker.stopped) (sym (append-nil xs)) S;
    grows = λ start k xs own S. unmoved start xs ((hands_at a).place k);
    told = λ t. t;
  }

  abbrev hand_works_off : (a : WorkState) (none : VecDeque Answer Global) → none.items ≡ [] → WorksOff seat a (with_answers none a)
  hand_works_off a none empty = record {
    joined = [];
    accepted = [];
    fixed = [];
    given = answers_of a.worker;
    split = append-nil a.queue;
    answers = adds_none (IsTelling a.region) (answers_of a.worker) (answers_of a.worker ++ none.items) (ap (λ l. answers_of a.worker ++ l) empty ∙ append-nil (answers_of a.worker));
    own = λ y i. absurd i;
    order = λ k own. append-nil (line_in (hands_at a) k);
    keys = λ start k xs own S. subst (KeyIs start (key_view a.view k) ((hands_at a).place k) a.worker.stopped) (sym (append-nil xs)) S;
    grows = λ start k xs own S. unmoved start xs ((hands_at a).place k);
    told = λ t. t;
  }

  move_works_off : (refused : Bool) (a b : WorkState) → IsAtWork seat a → KeepsDoubts seat a.view → (M : Move seat refused a b) → Off a b (fixed_by M) (joined_by M) (given_by M)
  move_works_off refused a b at D (accepts A) = accept_works_off a b D A
  move_works_off refused a b at D (turns T) = turn_works_off refused a b at D T
  move_works_off refused a b at D (winds_down e) = subst (λ z. Off a z [] [] []) (sym e) (winds_works_off a, refl, D, refl, refl)
  move_works_off refused a b at D (joins more e) = subst (λ z. Off a z [] more []) (sym e) (join_works_off a more, refl, D, refl, refl)
  move_works_off refused a b at D (hands_over none empty e) = subst (λ z. Off a z [] [] (answers_of a.worker)) (sym e) (hand_works_off a none empty, refl, D, refl, refl)

  pub chain_works_off : (refused : Bool) (a : WorkState) (xs : List WorkState) (b : WorkState) → IsAtWork seat a → KeepsDoubts seat a.view → (l : Leads seat refused a xs b) → Off a b (fixed_along seat refused a xs b l) (joined_along seat refused a xs b l) (given_along seat refused a xs b l)
  chain_works_off refused a [] b at D e = subst (λ z. Off a z [] [] []) (sym e) (works_off_none a, refl, D, refl, refl)
  chain_works_off refused a (x ∷ xs) b at D l =
      let one = move_works_off refused a x at D l.0 in
      let rest = chain_works_off refused x xs b l.1 one.2 l.2 in
      (works_off_more a x b one.0 rest.0, (λ i. one.1 i ++ rest.1 i), rest.2, (λ i. one.3 i ++ rest.3 i), (λ i. one.4 i ++ rest.4 i))
