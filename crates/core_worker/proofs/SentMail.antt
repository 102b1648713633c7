-- What a core keeps where it sends what waited for another member.
use Rattle.std.proofs.Common.{◌≡◌, ◌≢◌, inl, inr, ⊎_elim, ℕ, zero, suc, ◌+◌, ◌*◌, ◌<◌, ◌≤◌, Bool, true, false, cond, List, [], ◌∷◌, ◌++◌, length, Option, Some, None, Result, Ok, Err, refl, sym, ◌∙◌, ap, subst, arith}
use Rattle.std.specs.Prelude.{slice_get, vec_capacity, IfOk}
use Rattle.std.proofs.lemmas.Bool.{cases_eq}
use Rattle.fs_model.specs.declared.memory.Memory.{Memory}
use Rattle.pm_region.specs.State.{State}
use Rattle.pm_region.proofs.Clients.{started, all_kept}
use Rattle.log_entry.specs.declared.entry.EntryName.{EntryName}
use Rattle.core_index.specs.Index.{known_at}
use Rattle.group_board.specs.declared.names.Notices.{Notices as ToSend}
use Rattle.group_board.specs.Mailing.{notices_of}
use Rattle.core_worker.proofs.ListedNames.{has_append}
use Rattle.group_laws.specs.Places.{Place}
use Rattle.group_laws.specs.State.{Group}
use Rattle.group_laws.specs.Updates.{has}
use Rattle.group_laws.specs.MemberViews.{View}
use Rattle.group_laws.specs.Runs.{Kind}
use Rattle.group_board.specs.Seats.{SeatAt}
use Rattle.group_board.specs.Told.{MakesBoth}
use Rattle.group_board.specs.Views.{after_send}
use Rattle.licence.specs.Licence.{Licensed, grounded, part_at, part_end}
use Rattle.licence.proofs.Clients.{allowed}
use Rattle.core_worker.specs.declared.worker.Worker.{Worker}
use Rattle.core_worker.specs.declared.types.Cleaning.TheVariants.{Nothing}
use Rattle.core_worker.specs.GoneMail.{HasPlacesFor}
use Rattle.core_worker.specs.Supplies.{under_way}
use Rattle.core_worker.specs.CleaningLeft.{notices_left, box_left, clears_left}
use Rattle.core_worker.specs.Left.{left, Lowers}
use Rattle.core_worker.specs.Order.{InOrder}
use Rattle.core_worker.specs.Outbox.{waiting_dead, HasSpare, KeepsMail, MayTell, TellsNothing, Parts}
use Rattle.core_worker.specs.Sending.{EmptiesBox, HasNames, SendsBox}
use Rattle.core_worker.specs.Ties.{Holds, HoldsAt, Stands, StandsAt, LeadsAt, LeadsNothing, HasSpaceFor}
use Rattle.core_worker.specs.Turning.{KeepsTurn}
use Rattle.core_worker.specs.Turns.{InOrderAt, Steps}
use Rattle.core_worker.specs.WorkerMoves.{stock_of}
use Rattle.core_worker.proofs.CleaningKept.{keeps_boxes, keeps_seen}
use Rattle.core_worker.proofs.LeftMails.{sends_lower}
use Rattle.core_worker.proofs.MailKept.{nothing_sends}
use Rattle.core_worker.proofs.MailTurns.{both_steps}
use Rattle.core_worker.proofs.OutboxLaws.{sent, still}
use Rattle.core_worker.proofs.QuietMoves.{quiet_moves}
use Rattle.core_worker.proofs.ReadiedMail.{all_same, others_of, others_same, waiting_split}
use Rattle.core_worker.proofs.SendingLaws.{SameHas, knows_by}
use Rattle.core_worker.proofs.StockFacts.{still_spend, stock_small}
use Rattle.core_worker.proofs.TurnLaws.{nothing_fixed}

told_up : (b t : Bool) → t ≡ true → cond b true t ≡ true
told_up true t e = refl
told_up false t e = e

module _ (p : Place) (m to : ℕ) (v : View) (w : Worker) (H : Holds p m v w) (O : InOrder p m v w) (runs : w.stopped ≡ false) (nothing : LeadsNothing w) (other : to ≢ m) (x : Worker) (X : EmptiesBox to w x) where
  abbrev view : View
  view = after_send to (notices_of X.old) v

  abbrev sender : Worker
  sender = record w { notices = x.notices }

  abbrev rest : List EntryName
  rest = others_of w.notices.items to

  rest_same : others_of x.notices.items to ≡ rest
  rest_same = others_same w.notices.items x.notices.items to X.count X.others

  parts : Parts (waiting_dead w.notices.items) X.old.dead.names rest
  parts k i = waiting_split w.notices.items to X.old X.was k i ∙ has_append X.old.dead.names rest k i

  now_has : SameHas rest (waiting_dead x.notices.items)
  now_has k i =
      ap (λ (ns : List EntryName). has ns k i) (sym rest_same)
      ∙ ap (λ (ns : List EntryName). has (ns ++ others_of x.notices.items to) k i) (sym X.none.0)
      ∙ sym (waiting_split x.notices.items to X.new X.now k i)

  -- a name that was sent stands at the other member
  away : (k i : ℕ) → has X.old.dead.names k i ≡ true → v.present k i ≡ Some to
  away k i t = (H.mail.each to X.old X.was).dead.stands k i t

  -- who stands here, and was told, was told before
  told_here : (k i : ℕ) → v.present k i ≡ Some m → view.told k i ≡ true → v.told k i ≡ true
  told_here k i here t = by (has X.old.dead.names k i) refl t where
    by : (b : Bool) → has X.old.dead.names k i ≡ b → cond (has X.old.dead.names k i) true (v.told k i) ≡ true → v.told k i ≡ true
    by true e q = absurd (other (let there = away k i e in let both : Some to ≡ Some m = sym there ∙ here in cc both))
    by false e q = sym (ap (λ (b : Bool). cond b true (v.told k i)) e) ∙ q

  mail : KeepsMail p m view w.winds_down x.notices.items
  mail = record {
    count = X.count ∙ H.mail.count;
    each = λ h n is. elim (cases_eq h to) [
      | inl here ↦ nothing_sends p m h view n (let same : X.new ≡ n = (let both : Some X.new ≡ Some n = sym X.now ∙ ap (slice_get x.notices.items) (sym here) ∙ is in cc both) in subst TellsNothing same X.none)
      | inr ne ↦ by h n ne (H.mail.each h n (sym (X.others h ne) ∙ is))
    ];
    own = λ n is. H.mail.own n (sym (X.others m (λ e. other (sym e))) ∙ is);
    spare = λ on h n is. elim (cases_eq h to) [
      | inl here ↦ (let same : X.new ≡ n = (let both : Some X.new ≡ Some n = sym X.now ∙ ap (slice_get x.notices.items) (sym here) ∙ is in cc both) in subst HasSpare same X.spare)
      | inr ne ↦ H.mail.spare on h n (sym (X.others h ne) ∙ is)
    ];
  } where
    by : (h : ℕ) (n : ToSend) → h ≢ to → MayTell p m h v n → MayTell p m h view n
    by h n ne A = record {
      dead = still p m to h v (notices_of X.old) n.dead.names (λ e. ne (sym e)) (H.mail.each to X.old X.was).dead A.dead;
      gone = λ k i t. (leaves k i t (has X.old.gone.names k i) refl, (A.gone k i t).1);
    } where
      leaves : (k i : ℕ) → has n.gone.names k i ≡ true → (b : Bool) → has X.old.gone.names k i ≡ b → cond (has X.old.gone.names k i) false (v.leaving k i) ≡ true
      leaves k i t true e = absurd (ne (sym (A.gone k i t).1 ∙ ((H.mail.each to X.old X.was).gone k i e).1))
      leaves k i t false e = ap (λ (b : Bool). cond b false (v.leaving k i)) e ∙ (A.gone k i t).0

  -- there are places for the names that a cleaning may let go
  places : (most : ℕ) → under_way w ≢ Nothing → most ≤ vec_capacity w.own_gone → HasPlacesFor most w.notices.items → HasPlacesFor most x.notices.items
  places most going few had h n is = elim (cases_eq h to) [
    | inl here ↦
        let same : X.new ≡ n = (let both : Some X.new ≡ Some n = sym X.now ∙ ap (slice_get x.notices.items) (sym here) ∙ is in cc both) in
        let none = ap {B = ℕ} (λ (ns : List EntryName). length ns) X.none.1 in
        let room : X.new.gone.room ≡ vec_capacity w.own_gone = ⊎_elim (λ no. absurd (going no)) (λ e. e) X.places in
        subst (λ (b : ToSend). length b.gone.names + most ≤ b.gone.room) same (omega (arith, none, room, few))
    | inr ne ↦ had h n (sym (X.others h ne) ∙ is)
  ]

  sent_holds : Holds p m view sender
  sent_holds = record {
    place = H.place;
    member = H.member;
    core = H.core;
    layout = H.layout;
    log_layout = H.log_layout;
    log_part = H.log_part;
    sets = H.sets;
    allocator_layout = H.allocator_layout;
    allocator_part = H.allocator_part;
    spelled = H.spelled;
    eight = H.eight;
    placed = H.placed;
    apart = H.apart;
    pending = H.pending;
    admitted = H.admitted;
    keys = λ k own which. knows_by p view rest (waiting_dead x.notices.items) k (known_at w.index k) now_has (sent p to v (notices_of X.old) (waiting_dead w.notices.items) rest parts k (known_at w.index k) (H.keys k own which));
    mail = mail;
    blocks = record {
      held = H.blocks.held;
      staged = λ q y. H.blocks.staged q (record { slot = y.slot; number = y.number; entry = y.entry; value = y.value; place = y.place; points = y.points });
      once = λ q y z. H.blocks.once q (record { slot = y.slot; number = y.number; entry = y.entry; value = y.value; place = y.place; points = y.points }) (record { slot = z.slot; number = z.number; entry = z.entry; value = z.value; place = z.place; points = z.points });
      only = λ q used. ⊎_elim (λ b. inl b) (λ y. inr (record { slot = y.slot; number = y.number; entry = y.entry; value = y.value; place = y.place; points = y.points })) (H.blocks.only q used);
    };
    waits = H.waits;
    leads = record { seat = H.leads.seat; place = H.leads.place; number = H.leads.number; at = subst (LeadsAt H.leads.seat view) (sym nothing.1) (let had = subst (LeadsAt H.leads.seat v) nothing.1 H.leads.at in (had.0, had.1, had.2)) };
    space = λ r. subst (HasSpaceFor sender) (sym nothing.1) tt;
    broken = H.broken;
    lost = H.lost;
    flight = H.flight;
    cleaning = keeps_seen p m v view sender (λ k i is. is) (λ k i is. is) (keeps_boxes p m v w x.notices places H.cleaning);
    remembers = H.remembers;
    chunks = H.chunks;
  }

  sent_order : InOrder p m view sender
  sent_order = record {
    owned = O.owned;
    single = O.single;
    distinct = O.distinct;
    heard = O.heard;
    told = λ k i none. by k i none (has X.old.dead.names k i) refl;
    versions = O.versions;
    mine = O.mine;
    next = O.next;
    spelled = O.spelled;
    recalls = O.recalls;
    answers = O.answers;
    hand = O.hand;
    stops = O.stops;
    agrees = record { bodies = O.agrees.bodies; mine = O.agrees.mine; dead_told = λ k i own dies. told_up (has X.old.dead.names k i) (v.told k i) (O.agrees.dead_told k i own dies); stands = O.agrees.stands };
    log = λ r on. let D = O.log r on in record { deaths = D.deaths; buried = D.buried; own = D.own; heard = λ k i here t. D.heard k i here (told_here k i here t) };
    names = O.names;
  } where
    by : (k i : ℕ) → v.present k i ≡ None → (b : Bool) → has X.old.dead.names k i ≡ b → cond (has X.old.dead.names k i) true (v.told k i) ≡ false
    by k i none true e = absurd (let there = away k i e in let both : Some to ≡ None = sym there ∙ none in cc both)
    by k i none false e = ap (λ (b : Bool). cond b true (v.told k i)) e ∙ O.told k i none

  sent_stands : (s : State) → Stands s p m v w → Stands s p m view sender
  sent_stands s S = record {
    lies = S.lies;
    licensed = λ telling image may. allowed p m v view image (record { kept = refl; flying = refl; doomed = λ k i e. e; blocks = λ q b e. e }) (S.licensed telling image may);
    landed = λ unlost telling image may. allowed p m (grounded v) (grounded view) image (record { kept = refl; flying = refl; doomed = λ k i e. e; blocks = λ q b e. e }) (S.landed unlost telling image may);
    log = S.log;
    free = S.free;
    due = S.due;
    cut = S.cut;
    names = λ r on telling. let N = S.names r on telling in record {
      counted = N.counted;
      read = N.read;
      knows = record { stands = N.knows.stands; all = N.knows.all; deaths = N.knows.deaths; buried = N.knows.buried; own = N.knows.own; heard = λ k i here t. N.knows.heard k i here (told_here k i here t) };
      floors = N.floors;
      cleaned = N.cleaned;
    };
  }

-- what a turn that sends keeps
pub keeps_sent : (seat : SeatAt) (s : State) (before after : Option Group) (to : ℕ) (v u : View) (w x : Worker) → HoldsAt seat v w → StandsAt s seat v w → InOrderAt seat v w → w.stopped ≡ false → LeadsNothing w → to ≢ seat.number → (X : EmptiesBox to w x) → u ≡ after_send to (notices_of X.old) v → Steps before after seat.number u → KeepsTurn seat s s before after v u w x
keeps_sent seat s before after to v u w x H S O runs nothing other X is made =
    subst (λ (y : Worker). KeepsTurn seat s s before after v u w y) (sym X.same)
    (subst (λ (y : View). KeepsTurn seat s s before after v y w (record w { notices = x.notices })) (sym is)
    (let N = sent_holds seat.place seat.number to v w H O runs nothing other x X in
    let R = sent_stands seat.place seat.number to v w H O runs nothing other x X s S in
    let new = record w { notices = x.notices } in
    let u' = after_send to (notices_of X.old) v in
    record {
      moments = started s (Licensed seat.place seat.number v) S.licensed;
      outside = all_kept s (part_at seat.place seat.number) (part_end seat.place seat.number);
      holds = N;
      stands = R;
      order = sent_order seat.place seat.number to v w H O runs nothing other x X;
      rule = λ on kept. kept;
      moves = nothing_fixed seat s s before after v u' w new refl
          (quiet_moves seat.place seat.number s s before after v u' w new N (all_kept s (part_at seat.place seat.number) (part_end seat.place seat.number)) (started s (Licensed seat.place seat.number v) S.licensed) R.licensed (subst (λ (y : View). Steps before after seat.number y) is made) refl refl refl refl refl
          (λ on. still_spend seat.place.layout v.took v.flying v.took v.flying (stock_of w) (stock_of new) (record { chunks = omega arith; lines = omega arith; blocks = λ c. omega arith }) (stock_small seat.place seat.number u' new N) (omega arith))
          (λ k. refl) refl refl (λ e. inl e) (λ e. e));
    }))

-- nothing waits, or something does
none_left : (n : ToSend) → TellsNothing n → notices_left (notices_of n) ≡ 0
none_left n none = let dead = ap (λ (xs : List EntryName). length xs) none.0 in let gone = ap (λ (xs : List EntryName). length xs) none.1 in omega (arith, dead, gone)

same_left : (xs ys : List ToSend) → ((g : ℕ) → slice_get ys g ≡ slice_get xs g) → box_left ys ≡ box_left xs
same_left xs ys at = ap box_left (all_same xs ys at)

pub box_less : (xs ys : List ToSend) (h : ℕ) (old new : ToSend) → length ys ≡ length xs → slice_get xs h ≡ Some old → slice_get ys h ≡ Some new → ((g : ℕ) → g ≢ h → slice_get ys g ≡ slice_get xs g) → box_left ys + notices_left (notices_of old) ≡ box_left xs + notices_left (notices_of new)
box_less [] ys h old new e was now at = absurd (cc was)
box_less (x ∷ xs) [] h old new e was now at = absurd (omega (arith, e))
box_less (x ∷ xs) (y ∷ ys) zero old new e was now at =
    let one : x ≡ old = cc was in
    let two : y ≡ new = cc now in
    let a = ap (λ (n : ToSend). notices_left (notices_of n)) one in
    let b = ap (λ (n : ToSend). notices_left (notices_of n)) two in
    let rest = same_left xs ys (λ g. at (suc g) (λ is. omega (arith, is))) in
    omega (arith, a, b, rest)
box_less (x ∷ xs) (y ∷ ys) (suc h) old new e was now at =
    let first : Some y ≡ Some x = at zero (λ is. omega (arith, is)) in
    let head : y ≡ x = cc first in
    let a = ap (λ (n : ToSend). notices_left (notices_of n)) head in
    let rest = box_less xs ys h old new (omega (arith, e)) was now (λ g ne. at (suc g) (λ is. ne (omega (arith, is)))) in
    omega (arith, a, rest)

-- the core itself has less to do
sent_low : (to : ℕ) (w x : Worker) (X : EmptiesBox to w x) → left x + 3 * notices_left (notices_of X.old) ≡ left w
unfolding clears_left
sent_low to w x X =
    let same = ap left X.same in
    let boxes = box_less w.notices.items x.notices.items to X.old X.new X.count X.was X.now X.others in
    let none = none_left X.new X.none in
    omega (arith, same, boxes, none)

pub sent_lowers : (before after : Option Group) (m to : ℕ) (u : View) (w x : Worker) (X : EmptiesBox to w x) → MakesBoth before m (Kind.LookMail m to) (Kind.Send to (notices_of X.old)) after u → 0 < notices_left (notices_of X.old) → Lowers before after w x
sent_lowers before after m to u w x X made some = sends_lower before after m to (notices_of X.old) u w x made (let low = sent_low to w x X in omega (arith, low, some))

-- by what a call answers
pub keeps_sending : (r : Result Bool Memory) (seat : SeatAt) (s : State) (before after : Option Group) (to : ℕ) (v u : View) (w x : Worker) → HoldsAt seat v w → StandsAt s seat v w → InOrderAt seat v w → w.stopped ≡ false → LeadsNothing w → to ≢ seat.number → IfOk r (λ sent. SendsBox sent seat.number to before after v u w x)
    → IfOk r (λ sent. sent ≡ true → KeepsTurn seat s s before after v u w x)
keeps_sending (Ok true) seat s before after to v u w x H S O runs nothing other X = λ e. keeps_sent seat s before after to v u w x H S O runs nothing other X.0 X.1 (both_steps before after seat.number (Kind.LookMail seat.number to) (Kind.Send to (notices_of X.0.old)) u X.2)
keeps_sending (Ok false) seat s before after to v u w x H S O runs nothing other X = λ e. absurd (cc e)
keeps_sending (Err memory) seat s before after to v u w x H S O runs nothing other X = tt

pub lowers_sending : (r : Result Bool Memory) (before after : Option Group) (m to : ℕ) (v u : View) (w x : Worker) → HasNames to w → IfOk r (λ sent. SendsBox sent m to before after v u w x) → IfOk r (λ sent. sent ≡ true → Lowers before after w x)
lowers_sending (Ok true) before after m to v u w x some X = λ e. sent_lowers before after m to u w x X.0 X.2 (some X.0.old X.0.was)
lowers_sending (Ok false) before after m to v u w x some X = λ e. absurd (cc e)
lowers_sending (Err memory) before after m to v u w x some X = tt
