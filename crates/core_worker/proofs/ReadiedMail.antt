-- What a core keeps where dead names are taken out of its index, to be sent to another member.
use Rattle.std.proofs.Common.{◌≡◌, ◌≢◌, ◌⊎◌, inl, inr, ⊎_elim, ℕ, zero, suc, ◌+◌, ◌<◌, ◌≤◌, ◌||◌, Bool, true, false, List, [], ◌∷◌, ◌++◌, length, Option, Some, None, option_map, refl, sym, ◌∙◌, ap, subst, arith}
use Rattle.std.specs.Prelude.{slice_get, slice_set, Vec, unwrap_or, vec_capacity}
use Rattle.std.specs.Global.{Global}
use Rattle.std.proofs.lemmas.Bool.{cases_eq, cases_lt}
use Rattle.std.proofs.lemmas.List.{get_or-set_same, get_or-set_other, length-set, set-get_or}
use Rattle.std.proofs.lemmas.Option.{get_or_from_slice_get, slice_get-get_or, slice_get_past, slice_get_within}
use Rattle.log_entry.specs.declared.entry.EntryName.{EntryName}
use Rattle.core_index.specs.Index.{known_at}
use Rattle.core_index.specs.Records.{Awaits, is_forgettable, standing_at, standing_of, standing_with}
use Rattle.core_index.specs.Slots as slots
use Rattle.core_index.specs.declared.types.StandingEntry.{StandingEntry}
use Rattle.group_board.specs.declared.names.Notices.{Notices}
use Rattle.group_board.specs.declared.names.Names.{Names}
use Rattle.core_worker.proofs.ListedNames.{has_append}
use Rattle.group_laws.specs.Places.{Place, core_of, owner}
use Rattle.group_laws.specs.State.{Group}
use Rattle.group_laws.specs.Updates.{has}
use Rattle.group_laws.specs.MemberViews.{View}
use Rattle.core_worker.specs.declared.worker.Worker.{Worker}
use Rattle.core_worker.specs.declared.types.Cleaning.TheVariants.{Nothing}
use Rattle.core_worker.specs.GoneMail.{HasPlacesFor}
use Rattle.core_worker.specs.Hearing.{is_dead_by}
use Rattle.core_worker.specs.Supplies.{under_way}
use Rattle.core_worker.specs.KeyTies.{KnowsKey}
use Rattle.core_worker.specs.Order.{InOrder}
use Rattle.core_worker.specs.Outbox.{mailing, waiting_dead, as_told, AreToSend, HasSpare, KeepsMail, MayTell, TellsNothing}
use Rattle.core_worker.specs.Sending.{EmptiesBox, KeepsTiesAt, SendsNotices, SendsBox, TakesAt, TakesNames}
use Rattle.core_worker.specs.Ties.{Holds, LeadsNothing, HasSpaceFor}
use Rattle.core_worker.proofs.CleaningKept.{keeps_winds, keeps_boxes}
use Rattle.core_worker.proofs.Heard.{Hears, hears_none}
use Rattle.core_worker.proofs.HeardNames.{stands_by, dies_by, awaits_by}
use Rattle.core_worker.proofs.HeardMail.{spelled_same}
use Rattle.core_worker.proofs.SendingLaws.{SameHas, knows_by, knows_at, waits_at, stood_by, hears_then}
use Rattle.core_worker.proofs.Settling.{change_block, forget_by}
use Rattle.core_worker.proofs.Tidied.{change_last}

-- the names that wait for all members but one
abbrev pub others_of : List Notices → ℕ → List EntryName
others_of [] h = []
others_of (x ∷ xs) zero = waiting_dead xs
others_of (x ∷ xs) (suc h) = x.dead.names ++ others_of xs h

or_shift : (a b c : Bool) → (a || (b || c)) ≡ (b || (a || c))
or_shift true true c = refl
or_shift true false c = refl
or_shift false b c = refl

pub waiting_split : (boxes : List Notices) (h : ℕ) (n : Notices) → slice_get boxes h ≡ Some n → SameHas (waiting_dead boxes) (n.dead.names ++ others_of boxes h)
waiting_split [] h n is k i = absurd (cc is)
waiting_split (x ∷ xs) zero n is k i = (let same : x ≡ n = cc is in ap (λ (y : Notices). has (y.dead.names ++ waiting_dead xs) k i) same)
waiting_split (x ∷ xs) (suc h) n is k i =
    has_append x.dead.names (waiting_dead xs) k i
    ∙ ap (λ (b : Bool). has x.dead.names k i || b) (waiting_split xs h n is k i ∙ has_append n.dead.names (others_of xs h) k i)
    ∙ or_shift (has x.dead.names k i) (has n.dead.names k i) (has (others_of xs h) k i)
    ∙ ap (λ (b : Bool). has n.dead.names k i || b) (sym (has_append x.dead.names (others_of xs h) k i))
    ∙ sym (has_append n.dead.names (x.dead.names ++ others_of xs h) k i)

pub all_same : (xs ys : List Notices) → ((g : ℕ) → slice_get ys g ≡ slice_get xs g) → ys ≡ xs
all_same [] [] at = refl
all_same [] (y ∷ ys) at = absurd (let e : Some y ≡ None = at zero in cc e)
all_same (x ∷ xs) [] at = absurd (let e : None ≡ Some x = at zero in cc e)
all_same (x ∷ xs) (y ∷ ys) at = (let e : Some y ≡ Some x = at zero in let head : y ≡ x = cc e in let rest = all_same xs ys (λ g. at (suc g)) in (λ i. head i ∷ rest i))

pub others_same : (xs ys : List Notices) (h : ℕ) → length ys ≡ length xs → ((g : ℕ) → g ≢ h → slice_get ys g ≡ slice_get xs g) → others_of ys h ≡ others_of xs h
others_same [] [] h e at = refl
others_same [] (y ∷ ys) h e at = absurd (omega (arith, e))
others_same (x ∷ xs) [] h e at = absurd (omega (arith, e))
others_same (x ∷ xs) (y ∷ ys) zero e at = ap waiting_dead (all_same xs ys (λ g. at (suc g) (λ is. omega (arith, is))))
others_same (x ∷ xs) (y ∷ ys) (suc h) e at =
    let first : Some y ≡ Some x = at zero (λ is. omega (arith, is)) in
    let head : y ≡ x = cc first in
    let rest = others_same xs ys h (omega (arith, e)) (λ g ne. at (suc g) (λ is. ne (omega (arith, is)))) in
    (λ i. (head i).dead.names ++ rest i)

-- An index in which names were told: nothing else is known of a key.
flag : Option StandingEntry → Option Bool
flag None = None
flag (Some s) = Some s.told

module _ (home : ℕ) (es ix : List (ℕ × slots.Place)) (T : Hears home es ix) where
  pub forgets_told : (k : ℕ) → is_forgettable (known_at ix k) ≡ is_forgettable (known_at es k)
  forgets_told k = forget_by (known_at es k) (known_at ix k) (λ n s. unwrap_or (standing_at (standing_of (known_at ix k)) n) s) (T.changes k) (λ n. by n (standing_at (standing_of (known_at es k)) n) (standing_at (standing_of (known_at ix k)) n) (T.each k n)) where
    by : (n : ℕ) (a b : Option StandingEntry) → (b ≡ a) ⊎ ((a ≡ Some (standing_with n home false)) × (is_dead_by (known_at es k) n ≡ true) × (b ≡ Some (standing_with n home true))) → b ≡ option_map (λ s. unwrap_or b s) a
    by n None None which = refl
    by n None (Some t) which = absurd (⊎_elim (λ same. cc same) (λ other. let e = other.0 in cc e) which)
    by n (Some s) None which = absurd (⊎_elim (λ same. cc same) (λ other. let e = other.2 in cc e) which)
    by n (Some s) (Some t) which = refl

  pub awaits_told : (other k n : ℕ) → Awaits (known_at ix k) other n → Awaits (known_at es k) other n
  unfolding flag
  awaits_told other k n a =
      let at = stands_by (known_at ix k) other n a in
      ⊎_elim
      (λ same. awaits_by (known_at es k) other n (sym same ∙ at) (sym (T.dead k n) ∙ dies_by (known_at ix k) other n a))
      (λ now. absurd (let two : Some true ≡ Some false = ap flag (sym now.2 ∙ at) in cc two))
      (T.each k n)

module _ (p : Place) (m to : ℕ) (v : View) (w : Worker) (H : Holds p m v w) (O : InOrder p m v w) (runs : w.stopped ≡ false) (nothing : LeadsNothing w) (other : to ≢ m) (x : Worker) (X : TakesAt (core_of p to) to w x)
    (works : x.winds_down ≡ false → w.winds_down ≡ false) (spare : x.winds_down ≡ false → (n : Notices) → slice_get x.notices.items to ≡ Some n → HasSpare n) where
  abbrev taken : Worker
  taken = record w { index = x.index; notices = x.notices; winds_down = x.winds_down }

  abbrev rest : List EntryName
  rest = others_of w.notices.items to

  told : Hears (core_of p to) w.index x.index
  told = hears_then (core_of p to) w.index w.index x.index X.takes.names (hears_none (core_of p to) w.index) X.takes.tells

  rest_same : others_of x.notices.items to ≡ rest
  rest_same = others_same w.notices.items x.notices.items to X.count X.others

  -- what the index has as told, as this list of names
  knew : (k : ℕ) → owner p k ≡ m → KnowsKey p (mailing (X.old.dead.names ++ rest) v) k (known_at w.index k)
  knew k own = knows_by p v (waiting_dead w.notices.items) (X.old.dead.names ++ rest) k (known_at w.index k) (waiting_split w.notices.items to X.old X.was) (H.keys k own (inl runs))

  now_has : SameHas (X.new.dead.names ++ rest) (waiting_dead x.notices.items)
  now_has k i = ap (λ (ns : List EntryName). has (X.new.dead.names ++ ns) k i) (sym rest_same) ∙ sym (waiting_split x.notices.items to X.new X.now k i)

  knows : (k : ℕ) → owner p k ≡ m → KnowsKey p (as_told x v) k (known_at x.index k)
  knows k own =
      let K = knows_at p m to v rest k X.takes.names X.old.dead.names w.index x.index X.takes.tells (knew k own) in
      knows_by p v (X.new.dead.names ++ rest) (waiting_dead x.notices.items) k (known_at x.index k) now_has
      (subst (λ (ns : List EntryName). KnowsKey p (mailing (ns ++ rest) v) k (known_at x.index k)) (sym X.takes.list) K)

  may_tell : MayTell p m to v X.new
  may_tell = record {
    dead = subst (AreToSend p m to v) (sym X.takes.list) (waits_at p m to v rest X.takes.names X.old.dead.names w.index x.index X.takes.tells knew O.mine (H.mail.each to X.old X.was).dead);
    gone = λ k i t. (H.mail.each to X.old X.was).gone k i (ap (λ (g : Names). has g.names k i) (sym X.gone) ∙ t);
  }

  mail : KeepsMail p m v x.winds_down x.notices.items
  mail = record {
    count = X.count ∙ H.mail.count;
    each = λ h n is. elim (cases_eq h to) [
      | inl here ↦ (let same : X.new ≡ n = (let both : Some X.new ≡ Some n = sym X.now ∙ ap (slice_get x.notices.items) (sym here) ∙ is in cc both) in subst (λ (i : ℕ). MayTell p m i v n) (sym here) (subst (MayTell p m to v) same may_tell))
      | inr ne ↦ H.mail.each h n (sym (X.others h ne) ∙ is)
    ];
    own = λ n is. H.mail.own n (sym (X.others m (λ e. other (sym e))) ∙ is);
    spare = λ on h n is. elim (cases_eq h to) [
      | inl here ↦ spare on n (ap (slice_get x.notices.items) (sym here) ∙ is)
      | inr ne ↦ H.mail.spare (works on) h n (sym (X.others h ne) ∙ is)
    ];
  }

  places_taken : (most : ℕ) → HasPlacesFor most w.notices.items → HasPlacesFor most x.notices.items
  places_taken most had h n is = elim (cases_eq h to) [
    | inl here ↦
        let same : X.new ≡ n = (let both : Some X.new ≡ Some n = sym X.now ∙ ap (slice_get x.notices.items) (sym here) ∙ is in cc both) in
        subst (λ (b : Notices). length b.gone.names + most ≤ b.gone.room) same (subst (λ (g : Names). length g.names + most ≤ g.room) (sym X.gone) (had to X.old X.was))
    | inr ne ↦ had h n (sym (X.others h ne) ∙ is)
  ]

  taken_holds : Holds p m v taken
  taken_holds = record {
    place = H.place;
    member = H.member;
    core = H.core;
    layout = H.layout;
    log_layout = H.log_layout;
    log_part = H.log_part;
    sets = H.sets;
    allocator_layout = H.allocator_layout;
    allocator_part = H.allocator_part;
    spelled = spelled_same w.index x.index H.spelled told.changes;
    eight = H.eight;
    placed = H.placed;
    apart = H.apart;
    pending = H.pending;
    admitted = λ k busy. let few = H.admitted k busy in let room = told.room k in omega (arith, few, room);
    keys = λ k own which. knows k own;
    mail = mail;
    blocks = H.blocks;
    waits = λ on. H.waits (works on);
    leads = H.leads;
    space = λ r. subst (HasSpaceFor taken) (sym nothing.1) tt;
    broken = H.broken;
    lost = H.lost;
    flight = H.flight;
    cleaning = keeps_boxes p m v (record w { winds_down = x.winds_down }) x.notices (λ most going few had. places_taken most had) (keeps_winds p m v w x.winds_down works H.cleaning);
    remembers = λ r k own none. forgets_told (core_of p to) w.index x.index told k ∙ H.remembers r k own none;
    chunks = H.chunks;
  }

  taken_order : InOrder p m v taken
  taken_order = record {
    owned = O.owned;
    single = λ q b has. ⊎_elim (λ is. inl (change_block (known_at w.index b.key) (known_at x.index b.key) (told.changes b.key) ∙ is)) (λ points. inr points) (O.single q b has);
    distinct = λ k q points is. O.distinct k q points (sym (change_block (known_at w.index k) (known_at x.index k) (told.changes k)) ∙ is);
    heard = λ k n a. O.heard k n (awaits_told (core_of p to) w.index x.index told (core_of p m) k n a);
    told = O.told;
    versions = λ k n s is. let t = stood_by (core_of p to) w.index x.index told k n s is in let low = O.versions k n t.0 t.1 in let same = change_last (known_at w.index k) (known_at x.index k) (told.changes k) in omega (arith, low, same);
    mine = λ k n s is. let t = stood_by (core_of p to) w.index x.index told k n s is in O.mine k n t.0 t.1;
    next = O.next;
    spelled = O.spelled;
    recalls = λ k own busy none. forgets_told (core_of p to) w.index x.index told k ∙ O.recalls k own busy none;
    answers = O.answers;
    hand = λ on. O.hand (works on);
    stops = O.stops;
    agrees = O.agrees;
    log = λ r on. O.log r (works on);
    names = λ r on. O.names r (works on);
  }

  pub readied : KeepsTiesAt p m v w x
  readied = subst (λ (y : Worker). KeepsTiesAt p m v w y) (sym X.same) (record {
    holds = taken_holds;
    order = taken_order;
    stands = λ s S. record { lies = S.lies; licensed = S.licensed; landed = S.landed; log = S.log; free = S.free; due = S.due; cut = S.cut; names = λ r on. S.names r (works on) };
  })

-- the notices for a member, once other ones stand there
module _ (boxes : List Notices) (to : ℕ) (old new : Notices) (was : slice_get boxes to ≡ Some old) where
  within : to < length boxes
  within = slice_get_within boxes to old was

  pub box_here : slice_get (slice_set boxes to new) to ≡ Some new
  box_here = slice_get-get_or (slice_set boxes to new) to new (let l = length-set boxes to new in let i = within in omega (arith, l, i)) ∙ ap Some (get_or-set_same boxes to new new within)

  pub box_other : (h : ℕ) → h ≢ to → slice_get (slice_set boxes to new) h ≡ slice_get boxes h
  box_other h ne = ⊎_elim
      (λ (lt : h < length boxes). slice_get-get_or (slice_set boxes to new) h new (let l = length-set boxes to new in omega (arith, l, lt)) ∙ ap Some (get_or-set_other boxes to h new new ne) ∙ sym (slice_get-get_or boxes h new lt))
      (λ (le : length boxes ≤ h). slice_get_past (slice_set boxes to new) h (let l = length-set boxes to new in omega (arith, l, le)) ∙ sym (slice_get_past boxes h le))
      (cases_lt h (length boxes))

pub takes_in : (home to : ℕ) (w : Worker) (old new : Notices) (boxes : Vec Notices Global) (ix : List (ℕ × slots.Place)) (winds : Bool) → slice_get w.notices.items to ≡ Some old → boxes.items ≡ slice_set w.notices.items to new → TakesNames home w.index ix old.dead.names new.dead.names → new.gone ≡ old.gone
    → TakesAt home to w (record w { index = ix; notices = boxes; winds_down = winds })
takes_in home to w old new boxes ix winds was is takes gone = record {
  old = old;
  new = new;
  was = was;
  now = ap (λ (ns : List Notices). slice_get ns to) is ∙ box_here w.notices.items to old new was;
  others = λ h ne. ap (λ (ns : List Notices). slice_get ns h) is ∙ box_other w.notices.items to old new was h ne;
  count = ap (λ (ns : List Notices). length ns) is ∙ length-set w.notices.items to new;
  takes = takes;
  gone = gone;
  same = refl;
}

-- other notices stand for a member, and nothing waits in them
abbrev pub empties_in : (to : ℕ) (w : Worker) (old new : Notices) (boxes : Vec Notices Global) → slice_get w.notices.items to ≡ Some old → boxes.items ≡ slice_set w.notices.items to new → TellsNothing new → HasSpare new → (under_way w ≡ Nothing) ⊎ (new.gone.room ≡ vec_capacity w.own_gone) → EmptiesBox to w (record w { notices = boxes })
empties_in to w old new boxes was is none spare places = record {
  old = old;
  new = new;
  was = was;
  now = ap (λ (ns : List Notices). slice_get ns to) is ∙ box_here w.notices.items to old new was;
  others = λ h ne. ap (λ (ns : List Notices). slice_get ns h) is ∙ box_other w.notices.items to old new was h ne;
  count = ap (λ (ns : List Notices). length ns) is ∙ length-set w.notices.items to new;
  none = none;
  spare = spare;
  places = places;
  same = refl;
}

pub box_sent : (sent : Bool) (m to : ℕ) (before after : Option Group) (v u : View) (w : Worker) (old new : Notices) (boxes : Vec Notices Global) → slice_get w.notices.items to ≡ Some old → boxes.items ≡ slice_set w.notices.items to new → HasSpare new → (sent ≡ true → (under_way w ≡ Nothing) ⊎ (new.gone.room ≡ vec_capacity w.own_gone)) → SendsNotices sent m to old new before after v u → SendsBox sent m to before after v u w (record w { notices = boxes })
box_sent true m to before after v u w old new boxes was is spare places S = (empties_in to w old new boxes was is S.0 spare (places refl), S.1, S.2)
box_sent false m to before after v u w old new boxes was is spare places S = (
  refl,
  is ∙ ap (λ (n : Notices). slice_set w.notices.items to n) (S.0 ∙ sym (get_or_from_slice_get w.notices.items to old old was)) ∙ set-get_or w.notices.items to old,
  S.1,
  S.2,
)
