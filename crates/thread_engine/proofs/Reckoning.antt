-- What one core's chain of moves says of its refusals and its room, whatever the other cores did. Its part of a run is an engine's state in which it alone has anything.
use Rattle.std.proofs.Common.{◌≡◌, ◌≢◌, ⊎_elim, inl, inr, ℕ, ◌*◌, ◌≤◌, ◌==◌, Bool, true, false, cond, List, [], ◌∷◌, ◌++◌, map, Option, Some, None, refl, sym, ◌∙◌, ap, subst, arith, append-nil, append_assoc}
use Rattle.std.specs.Prelude.{is_some}
use Rattle.std.specs.List.{AllByRecursion}
use Rattle.std.proofs.lemmas.Bool.{eq-eqb, ne_eqb}
use Rattle.std.proofs.lemmas.List.{map-append}
use Rattle.std.proofs.lemmas.List.Elements.{filter-append}
use Rattle.std.specs.Global.{Global}
use Rattle.std.specs.declared.collections.VecDeque.{VecDeque}
use Rattle.fs_model.specs.declared.model.Request.{Request}
use Rattle.fs_model.specs.declared.model.Reply.{Reply}
use Rattle.fs_model.specs.declared.model.Reply.TheVariants.{Full}
use Rattle.fs_model.specs.Cells.{key_of}
use Rattle.fs_model.specs.Changes.{requests_of}
use Rattle.chunk_map.specs.declared.layouts.Geometry.{Geometry}
use Rattle.chunk_map.specs.Layouts.{layout_of, owner, IsLayout}
use Rattle.store_image.specs.Facts.{In}
use Rattle.store_image.proofs.Clients.{in_either}
use Rattle.group_laws.specs.Places.{Place}
use Rattle.group_laws.specs.State.{Group}
use Rattle.group_laws.specs.OpeningImages.{opened}
use Rattle.group_laws.specs.Regions.{place_at}
use Rattle.group_laws.proofs.Clients.{in_map}
use Rattle.group_board.specs.Seats.{SeatAt}
use Rattle.headline.specs.Ample.{log_bytes, IsAmpleFor}
use Rattle.headline.specs.Limits.{version_of}
use Rattle.engine_laws.specs.Parts.{group_of, member_of}
use Rattle.engine_laws.specs.FreeStock.{Stock, IsAtLeast, LacksRoom}
use Rattle.engine_laws.specs.RefusalCauses.{HaveCauses, raised_by}
use Rattle.engine_laws.specs.WorkerMoves.{Fixed, asked, replied, fixed_of, requests_for, line_in, WorkerMoves}
use Rattle.engine_laws.specs.Engine.{Engine, Answer}
use Rattle.engine_laws.specs.Advance.{answered}
use Rattle.engine_laws.specs.Origins.{Origin}
use Rattle.engine_laws.specs.Spending.{lines_in, SpendsRoom}
use Rattle.engine_laws.specs.Rooms.{out_lines, HasRoom}
use Rattle.engine_laws.proofs.Clients.{raised_by_up, raised_append, causes_up, causes_append, lacks_less, at_least_same, of_member, of_core, all_in, all_append, filter_in, OwnLines, OwnMoves, fresh, own_room, own_posted, not_ample, not_scarce, core_spends, Changes, lawful_changes}
use Rattle.core_worker.specs.declared.types.Answer.{Answer as Answered}
use Rattle.thread_engine.specs.WorkStates.{WorkState, TakesNext, Move, wound_down, with_more, with_answers, Leads, joined_by, joined_along}
use Rattle.thread_engine.specs.WorkStates.Move.{accepts, turns, winds_down, joins, hands_over}
use Rattle.thread_engine.specs.WorkLaws.{hands_at}
use Rattle.thread_engine.specs.CoreRuns.{fixed_by, fixed_along}
use Rattle.thread_engine.proofs.CarriedLines.{carried, lines_on}
use Rattle.thread_engine.proofs.TookGrows.{turn_grows}

-- a state in which one core has what it has, and has fixed these answers
abbrev pub alone : Origin → List Request → Stock → WorkState → List Fixed → Engine
alone o given s x fs = record {
  layout = layout_of o.found;
  region = x.region;
  group = λ g. record (opened (place_at (layout_of o.found) g) o.found) {
    flying = λ m. x.view.flying;
    posted = λ m. x.view.posted;
    took = λ m. x.view.took;
  };
  given = given;
  backlog = λ c. x.queue;
  takes = λ c. true;
  stopped = λ c. x.worker.stopped;
  stock = λ c. s;
  place = (hands_at x).place;
  waits = (hands_at x).waits;
  answer = λ n. answered fs 0 n None;
}

-- Core c has fixed these answers: each has its cause, and the core's room is what its changes left.
pub record Reckons (o : Origin) (given : List Request) (c : ℕ) (x : WorkState) (fs : List Fixed) : Type 0 where
  pub stock : Stock
  pub least : IsAtLeast stock (hands_at x).stock
  pub own : (y : Fixed) → In y fs → owner (layout_of o.found) (key_of y.request) ≡ c
  pub order : (k : ℕ) → owner (layout_of o.found) k ≡ c → requests_of k given ≡ map asked (fixed_of k fs) ++ (line_in (hands_at x) k ++ requests_for k x.queue)
  pub waiting : (k : ℕ) → owner (layout_of o.found) k ≡ c → AllByRecursion (λ y. answered fs 0 y.0 None ≡ None) (line_in (hands_at x) k ++ requests_for k x.queue)
  pub changes : (k : ℕ) → owner (layout_of o.found) k ≡ c → AllByRecursion Changes (map replied (fixed_of k fs))
  pub causes : (k : ℕ) → owner (layout_of o.found) k ≡ c → HaveCauses (layout_of o.found) (version_of o.found k) (map replied (fixed_of k fs))
  pub versions : (k : ℕ) → owner (layout_of o.found) k ≡ c → x.view.last k ≤ raised_by (version_of o.found k) (map replied (fixed_of k fs))
  pub room : x.worker.stopped ≡ false → (more : List Request) → 64 * lines_in x.view.took ≤ log_bytes (layout_of o.found) c (given ++ more) → IsAmpleFor (layout_of o.found) o.found (given ++ more) c → HasRoom (layout_of o.found) o (alone o given stock x fs) c
  pub posted : lines_in x.view.posted ≤ out_lines (layout_of o.found) (alone o given stock x fs) c
  pub full : (y : Fixed) → In y fs → y.reply ≡ Full → (more : List Request) → 64 * lines_in x.view.took ≤ log_bytes (layout_of o.found) c (given ++ more) → IsAmpleFor (layout_of o.found) o.found (given ++ more) c → ⊥

-- answers by number
answered_there : (xs : List Fixed) (t n : ℕ) (old : Option Answer) → (x : Fixed) → In x xs → x.number ≡ n → is_some (answered xs t n old) ≡ true
answered_there [] t n old x i is = absurd i
answered_there (z ∷ zs) t n old x (inl e) is = ap (λ b. is_some (cond b (Some (record { reply = z.reply; stamp = t })) (answered zs t n old))) (eq-eqb z.number n (sym (ap (λ (y : Fixed). y.number) e) ∙ is))
answered_there (z ∷ zs) t n old x (inr i) is = by (z.number == n) (answered_there zs t n old x i is) where
  by : (b : Bool) → is_some (answered zs t n old) ≡ true → is_some (cond b (Some (record { reply = z.reply; stamp = t })) (answered zs t n old)) ≡ true
  by true h = refl
  by false h = h

answered_else : (xs : List Fixed) (t n : ℕ) (old : Option Answer) → ((x : Fixed) → In x xs → x.number ≢ n) → answered xs t n old ≡ old
answered_else [] t n old none = refl
answered_else (z ∷ zs) t n old none = ap (λ b. cond b (Some (record { reply = z.reply; stamp = t })) (answered zs t n old)) (ne_eqb z.number n (none z (inl refl))) ∙ answered_else zs t n old (λ x i. none x (inr i))

answered_more : (xs ys : List Fixed) (t n : ℕ) (old : Option Answer) → answered (xs ++ ys) t n old ≡ answered xs t n (answered ys t n old)
answered_more [] ys t n old = refl
answered_more (z ∷ zs) ys t n old = ap (λ a. cond (z.number == n) (Some (record { reply = z.reply; stamp = t })) a) (answered_more zs ys t n old)

in_more : (xs ys : List Fixed) (y : Fixed) → In y ys → In y (xs ++ ys)
in_more [] ys y i = i
in_more (x ∷ xs) ys y i = inr (in_more xs ys y i)

module _ (o : Origin) (layout : IsLayout (layout_of o.found)) (given : List Request) (c : ℕ) (seat : SeatAt) (at : seat.place ≡ place_at (layout_of o.found) (group_of (layout_of o.found) c)) (number : seat.number ≡ member_of (layout_of o.found) c) where
  abbrev L : Geometry
  L = layout_of o.found

  -- One call of its worker.
  module _ (a b : WorkState) (fs : List Fixed) (R : Reckons o given c a fs) (before after : Option Group) (accepted : List (ℕ × Request)) (fixed : List Fixed) (split : a.queue ≡ accepted ++ b.queue)
      (W : WorkerMoves seat.place seat.number a.region b.region before after a.view b.view (hands_at a) (hands_at b) accepted fixed) (grows : lines_in a.view.took ≤ lines_in b.view.took) where
    M : WorkerMoves (place_at L (group_of L c)) (member_of L c) a.region b.region before after a.view b.view (hands_at a) (hands_at b) accepted fixed
    M = subst (λ (p : Place). WorkerMoves p (member_of L c) a.region b.region before after a.view b.view (hands_at a) (hands_at b) accepted fixed) at
        (subst (λ (m : ℕ). WorkerMoves seat.place m a.region b.region before after a.view b.view (hands_at a) (hands_at b) accepted fixed) number W)

    abbrev e : Engine
    e = alone o given R.stock a fs

    abbrev f : Engine
    f = alone o given (hands_at b).stock b (fs ++ fixed)

    mine : (y : Fixed) → In y fixed → owner L (key_of y.request) ≡ c
    mine y i = of_core L layout c (key_of y.request) (M.own y i)

    lines : OwnLines L c e
    lines = record { split = λ k own. (map asked (fixed_of k fs), R.order k own); waiting = R.waiting }

    moves : OwnMoves L e f c accepted fixed
    moves = record {
      given = refl;
      backlog = split;
      order = λ k own. (M.keys k (of_member L layout c k own)).order;
      new = λ x i. answered_there (fs ++ fixed) 0 x.number None x (in_more fs fixed x i) refl;
      old = λ n none. answered_more fs fixed 0 n None ∙ ap (answered fs 0 n) (answered_else fixed 0 n None none);
      stays_stopped = M.stays_stopped;
    }

    spends : SpendsRoom L e f c accepted fixed
    spends = core_spends L layout e f c accepted fixed a.view b.view (hands_at a) (hands_at b)
        (record { place = λ k own. refl; waits = λ k own. refl; stopped = refl; stock = R.least; posted = refl; took = refl; flying = refl })
        (record { place = λ k own. refl; waits = λ k own. refl; stopped = refl; stock = at_least_same (hands_at b).stock; posted = refl; took = refl; flying = refl })
        refl mine M.spends

    fixed_is : (k : ℕ) → fixed_of k (fs ++ fixed) ≡ fixed_of k fs ++ fixed_of k fixed
    fixed_is k = filter-append (λ (x : Fixed). key_of x.request == k) fs fixed

    replied_is : (k : ℕ) → map replied (fixed_of k (fs ++ fixed)) ≡ map replied (fixed_of k fs) ++ map replied (fixed_of k fixed)
    replied_is k = ap (map replied) (fixed_is k) ∙ map-append replied (fixed_of k fs) (fixed_of k fixed)

    order : (k : ℕ) → owner L k ≡ c → requests_of k given ≡ map asked (fixed_of k (fs ++ fixed)) ++ (line_in (hands_at b) k ++ requests_for k b.queue)
    order k own =
        R.order k own ∙ ap (λ xs. map asked (fixed_of k fs) ++ xs) (carried L e f c accepted fixed lines moves mine k own)
        ∙ sym (append_assoc (map asked (fixed_of k fs)) (map asked (fixed_of k fixed)) (line_in (hands_at b) k ++ requests_for k b.queue))
        ∙ ap (λ xs. xs ++ (line_in (hands_at b) k ++ requests_for k b.queue)) (sym (ap (map asked) (fixed_is k) ∙ map-append asked (fixed_of k fs) (fixed_of k fixed)))

    caused : (k : ℕ) → owner L k ≡ c → HaveCauses L (version_of o.found k) (map replied (fixed_of k (fs ++ fixed)))
    caused k own = subst (HaveCauses L (version_of o.found k)) (sym (replied_is k))
        (causes_append L (version_of o.found k) (map replied (fixed_of k fs)) (map replied (fixed_of k fixed)) (R.causes k own)
        (causes_up L (a.view.last k) (raised_by (version_of o.found k) (map replied (fixed_of k fs))) (map replied (fixed_of k fixed)) (R.versions k own) (M.refuses k (of_member L layout c k own)).causes))

    raised : (k : ℕ) → owner L k ≡ c → b.view.last k ≤ raised_by (version_of o.found k) (map replied (fixed_of k (fs ++ fixed)))
    raised k own =
        let start = version_of o.found k in
        let old = map replied (fixed_of k fs) in
        let more = map replied (fixed_of k fixed) in
        let up = raised_by_up more (a.view.last k) (raised_by start old) (R.versions k own) in
        let now = (M.refuses k (of_member L layout c k own)).last_now in
        let whole = raised_append start old more in
        let all = ap (raised_by start) (replied_is k) in
        omega (arith, up, now, whole, all)

    full_now : (y : Fixed) → In y fixed → y.reply ≡ Full → (more : List Request) → 64 * lines_in a.view.took ≤ log_bytes L c (given ++ more) → IsAmpleFor L o.found (given ++ more) c → ⊥
    full_now y i is more within =
        let r = spends.runs y i is in
        let k : ℕ = key_of y.request in
        let own = mine y i in
        let F = fresh L e f c accepted fixed lines moves spends (asked y) own r.1 in
        let lacks = all_in (λ (z : Request × Reply). z.1 ≡ Full → LacksRoom L (hands_at a).stock z.0) (map replied (fixed_of k fixed)) (replied y) (M.refuses k (of_member L layout c k own)).full
        (in_map replied y (fixed_of k fixed) (filter_in (λ (z : Fixed). key_of z.request == k) fixed y i (eq-eqb k k refl))) is in
        λ ample. not_ample o e layout c (R.room r.0 more within ample) y.request y.number own F.given F.begun (lacks_less L R.stock (hands_at a).stock y.request R.least lacks) more within ample

    pub reckons_call : Reckons o given c b (fs ++ fixed)
    reckons_call = record {
      stock = (hands_at b).stock;
      least = at_least_same (hands_at b).stock;
      own = λ y i. ⊎_elim (R.own y) (mine y) (in_either y fs fixed i);
      order = order;
      waiting = λ k own. (lines_on L e f c accepted fixed lines moves mine).waiting k own;
      changes = λ k own. subst (AllByRecursion Changes) (sym (replied_is k)) (all_append Changes (map replied (fixed_of k fs)) (map replied (fixed_of k fixed)) (R.changes k own) (lawful_changes (a.view.cell k) false (map replied (fixed_of k fixed)) (M.keys k (of_member L layout c k own)).lawful));
      causes = caused;
      versions = raised;
      room = λ runs more within ample.
          let before : 64 * lines_in a.view.took ≤ log_bytes L c (given ++ more) = omega (arith, grows, within) in
          own_room L e f c accepted fixed lines moves spends o layout (λ ran. R.room ran more before ample) (λ few H. not_scarce o e layout c H more few before ample) runs;
      posted = own_posted L e f c accepted fixed lines moves spends R.posted;
      full = λ y i is more within. ⊎_elim
          (λ old. R.full y old is more (omega (arith, grows, within)))
          (λ new. full_now y new is more (omega (arith, grows, within)))
          (in_either y fs fixed i);
    }

  -- what joins later counts as waiting already
  reckons_accept : (later : List (ℕ × Request)) (a b : WorkState) (fs : List Fixed) → Reckons o given c (with_more later a) fs → (A : TakesNext seat a b) → Reckons o given c (with_more later b) (fs ++ A.call.fixed)
  reckons_accept later a b fs R A = subst (λ (z : WorkState). Reckons o given c (with_more later z) (fs ++ A.call.fixed)) here
      (reckons_call (with_more later a) (with_more later mid) fs R None None A.accepted A.call.fixed (ap (λ q. q ++ later) split ∙ append_assoc A.accepted b.queue later) (A.call.moves None) (omega arith)) where
        mid : WorkState
        mid = record { region = a.region; view = a.view; trail = a.trail; worker = b.worker; queue = b.queue }

        here : mid ≡ b
        here i = record { region = sym A.region i; view = sym A.view i; trail = sym A.trail i; worker = b.worker; queue = b.queue }

        split : a.queue ≡ A.accepted ++ b.queue
        split = elim A.either [
          | inl one ↦ A.waits ∙ (λ i. sym one.0 i ++ sym one.1 i)
          | inr none ↦ (λ i. sym none.0 i ++ sym none.1 i)
        ]

  reckons_winds : (a : WorkState) (fs : List Fixed) → Reckons o given c a fs → Reckons o given c (wound_down a) fs
  reckons_winds a fs R = record {
    stock = R.stock;
    least = R.least;
    own = R.own;
    order = R.order;
    waiting = R.waiting;
    changes = R.changes;
    causes = R.causes;
    versions = R.versions;
    room = λ runs more within ample. (let H = R.room runs more within ample in record { opened = H.opened; cuts = H.cuts; chunks = H.chunks; lines = H.lines; small = H.small; blocks = H.blocks; last = H.last; class = H.class });
    posted = R.posted;
    full = R.full;
  }

  reckons_hands : (a : WorkState) (none : VecDeque Answered Global) (fs : List Fixed) → Reckons o given c a fs → Reckons o given c (with_answers none a) fs
  reckons_hands a none fs R = record {
    stock = R.stock;
    least = R.least;
    own = R.own;
    order = R.order;
    waiting = R.waiting;
    changes = R.changes;
    causes = R.causes;
    versions = R.versions;
    room = λ runs more within ample. (let H = R.room runs more within ample in record { opened = H.opened; cuts = H.cuts; chunks = H.chunks; lines = H.lines; small = H.small; blocks = H.blocks; last = H.last; class = H.class });
    posted = R.posted;
    full = R.full;
  }

  -- without more fixed
  none_more : (x : WorkState) (fs : List Fixed) → Reckons o given c x fs → Reckons o given c x (fs ++ [])
  none_more x fs R = subst (Reckons o given c x) (sym (append-nil fs)) R

  reckons_move : (refused : Bool) (later : List (ℕ × Request)) (a b : WorkState) (fs : List Fixed) (m : Move seat refused a b) → Reckons o given c (with_more (joined_by m ++ later) a) fs → Reckons o given c (with_more later b) (fs ++ fixed_by m)
  reckons_move refused later a b fs (accepts A) R = reckons_accept later a b fs R A
  reckons_move refused later a b fs (turns T) R =
      reckons_call (with_more later a) (with_more later b) fs R T.before T.after [] T.moves.fixed (ap (λ q. q ++ later) (sym T.queue)) T.moves.moves (turn_grows a.region b.region refused T.before seat a.view b.view a.worker b.worker T.result T.turned)
  reckons_move refused later a b fs (winds_down e) R = subst (λ (z : WorkState). Reckons o given c (with_more later z) (fs ++ [])) (sym e) (none_more (with_more later (wound_down a)) fs (reckons_winds (with_more later a) fs R))
  reckons_move refused later a b fs (joins more e) R = subst (λ (z : WorkState). Reckons o given c (with_more later z) (fs ++ [])) (sym e)
      (none_more (with_more later (with_more more a)) fs (subst (λ q. Reckons o given c (record a { queue = q }) fs) (sym (append_assoc a.queue more later)) R))
  reckons_move refused later a b fs (hands_over none empty e) R = subst (λ (z : WorkState). Reckons o given c (with_more later z) (fs ++ [])) (sym e)
      (none_more (with_more later (with_answers none a)) fs (reckons_hands (with_more later a) none fs R))

  pub reckons_chain : (refused : Bool) (later : List (ℕ × Request)) (a : WorkState) (path : List WorkState) (b : WorkState) (fs : List Fixed) (l : Leads seat refused a path b) → Reckons o given c (with_more (joined_along seat refused a path b l ++ later) a) fs
      → Reckons o given c (with_more later b) (fs ++ fixed_along seat refused a path b l)
  reckons_chain refused later a [] b fs l R = subst (λ (z : WorkState). Reckons o given c (with_more later z) (fs ++ [])) (sym l) (none_more (with_more later a) fs R)
  reckons_chain refused later a (x ∷ xs) b fs l R =
      let rest = joined_along seat refused x xs b l.2 in
      subst (Reckons o given c (with_more later b)) (append_assoc fs (fixed_by l.0) (fixed_along seat refused x xs b l.2))
      (reckons_chain refused later x xs b (fs ++ fixed_by l.0) l.2
      (reckons_move refused (rest ++ later) a x fs l.0 (subst (λ q. Reckons o given c (with_more q a) fs) (append_assoc (joined_by l.0) rest later) R)))
