-- What a step leaves of a seat.
use Rattle.std.proofs.Common.{◌≡◌, ℕ, zero, suc, ◌+◌, ◌*◌, ◌<◌, ◌≤◌, true, false, List, ◌∷◌, length, sym, refl, ap, ◌∙◌, subst, arith, Option, Some, None}
use Rattle.log_entry.specs.declared.entry.Entry.{Entry}
use Rattle.log_entry.specs.declared.entry.EntryName.{EntryName}
use Rattle.group_laws.specs.declared.types.Pending.{Pending}
use Rattle.group_laws.specs.Places.{Place, owner}
use Rattle.group_laws.specs.Updates.{put, put2}
use Rattle.group_laws.specs.declared.types.Seen.{Seen}
use Rattle.group_laws.specs.declared.types.Seen.TheVariants.{Holder}
use Rattle.group_laws.specs.MemberViews.{View}
use Rattle.group_board.specs.Views.{after_send, after_lock, after_find, after_take, after_post}
use Rattle.group_laws.specs.State.{Notices}
use Rattle.atomic_board.specs.declared.seat_data.MailHold.{MailHold}
use Rattle.atomic_board.specs.declared.seat_data.Deed.{Deed}
use Rattle.atomic_board.specs.declared.seat_data.Deed.TheVariants.{Lock, Found, Take, Post, Withdraw, Retire, Send, Receive}
use Rattle.atomic_board.specs.declared.seat_data.SeatData.{SeatData}
use Rattle.atomic_board.specs.declared.seat_data.SeatData.TheVariants.{Store, Own, Spent}
use Rattle.atomic_board.specs.Deeds.{place_of, size, names_of, names_by, after_deed, view_by}
use Rattle.atomic_board.specs.SlotsOut.{has, distinct, numbers, all_empty, IsNamedBy, Holds}
use Rattle.atomic_board.specs.TableWords.{pool_place}
use Rattle.atomic_board.proofs.SlotsHeld.{at_most, distinct_more, holds_taken, holds_posted, holds_given, holds_freed, out_at, slot_in}
use Rattle.atomic_board.specs.StepTells.{SeatState, origin_in, number_in, is_own, is_settled, is_handless, view_in, did, IsNotOut, Stands, over, gripping, hand_in}

-- the deed makes just this of a view
abbrev pub Makes : Deed → (View → View) → Type 0
Makes d g = (ns : List EntryName) (p : Place) (m : ℕ) (v : View) → after_deed ns p m d v ≡ g v

pub view_did : (d : Deed) (g : View → View) → Makes d g → (x : SeatData) → is_own x ≡ true → view_in (did d x) ≡ g (view_in x)
view_did d g same (Store k b back) e = absurd (cc e)
view_did d g same (Own m q b ds) e = same (names_by (names_of b) (d ∷ ds)) (place_of b) m (view_by b m ds)
view_did d g same Spent e = absurd (cc e)

origin_did : (d : Deed) (x : SeatData) → origin_in (did d x) ≡ origin_in x
origin_did d (Store k b back) = refl
origin_did d (Own m q b ds) = refl
origin_did d Spent = refl

own_did : (d : Deed) (x : SeatData) → is_own (did d x) ≡ is_own x
own_did d (Store k b back) = refl
own_did d (Own m q b ds) = refl
own_did d Spent = refl

number_did : (d : Deed) (x : SeatData) → number_in (did d x) ≡ number_in x
number_did d (Store k b back) = refl
number_did d (Own m q b ds) = refl
number_did d Spent = refl

settled_did : (d : Deed) (x : SeatData) → is_settled (did d x) ≡ is_settled x
settled_did d (Store k b back) = refl
settled_did d (Own m q b ds) = refl
settled_did d Spent = refl

handless_did : (d : Deed) (x : SeatData) → is_handless (did d x) ≡ is_handless x
handless_did d (Store k b back) = refl
handless_did d (Own m q b ds) = refl
handless_did d Spent = refl

abbrev pub IsSeat : SeatData → ℕ → ℕ → Type 0
IsSeat x m n = (is_own x ≡ true) × (number_in x ≡ m) × (size (origin_in x) ≡ n) × (is_settled x ≡ true) × (is_handless x ≡ true)

-- a seat after a deed
pub record Now (x new : SeatData) (g : View → View) (m n : ℕ) : Type 0 where
  pub own : IsSeat new m n
  pub base : origin_in new ≡ origin_in x
  pub view : view_in new ≡ g (view_in x)

pub now : (d : Deed) (g : View → View) → Makes d g → (x new : SeatData) (m n : ℕ) → IsSeat x m n → new ≡ did d x → Now x new g m n
now d g same x new m n seat is = let base = ap origin_in is ∙ origin_did d x in record {
  own = (ap is_own is ∙ (own_did d x ∙ seat.0), ap number_in is ∙ (number_did d x ∙ seat.1), ap size base ∙ seat.2, ap is_settled is ∙ (settled_did d x ∙ seat.3), ap is_handless is ∙ (handless_did d x ∙ seat.4));
  base = base;
  view = ap view_in is ∙ view_did d g same x seat.0;
}

-- by other words for the place, the pending changes and those in the hands
pub holds_by : (p r : Place) (m n : ℕ) (pending ps : ℕ → Option Pending) (taken ts : ℕ → ℕ → Option Entry) (held ks : List ℕ) → r ≡ p → ps ≡ pending → ts ≡ taken → ks ≡ held → Holds p m n pending taken held → Holds r m n ps ts ks
holds_by p r m n pending ps taken ts held ks a b c d h =
    subst (λ x. Holds x m n ps ts ks) (sym a) (subst (λ x. Holds p m n x ts ks) (sym b) (subst (λ x. Holds p m n pending x ks) (sym c) (subst (λ x. Holds p m n pending taken x) (sym d) h)))

-- what a seat keeps at a step that takes and gives no slot
pub record Calm (x : SeatData) (new : SeatState) (g : View → View) (m n : ℕ) (held : List ℕ) : Type 0 where
  pub own : IsSeat new.0 m n
  pub order : (numbers new.1 ≡ held) × (all_empty new.1 ≡ true)
  pub holds : Holds (place_of (origin_in new.0)) m n (view_in new.0).pending (view_in new.0).taken held
  pub base : origin_in new.0 ≡ origin_in x
  pub view : view_in new.0 ≡ g (view_in x)

pub calm : (d : Deed) (g : View → View) → Makes d g → ((v : View) → (g v).pending ≡ v.pending) → ((v : View) → (g v).taken ≡ v.taken) → (me new : SeatState) (m n : ℕ) (held : List ℕ) → IsSeat me.0 m n → (numbers me.1 ≡ held) × (all_empty me.1 ≡ true)
    → Holds (place_of (origin_in me.0)) m n (view_in me.0).pending (view_in me.0).taken held → new ≡ (did d me.0, me.1) → Calm me.0 new g m n held
calm d g same pends takes me new m n held seat order h is = let t = now d g same me.0 new.0 m n seat (ap (λ x. x.0) is) in record {
  own = t.own;
  order = (ap (λ x. numbers x.1) is ∙ order.0, ap (λ x. all_empty x.1) is ∙ order.1);
  holds = holds_by (place_of (origin_in me.0)) (place_of (origin_in new.0)) m n (view_in me.0).pending (view_in new.0).pending (view_in me.0).taken (view_in new.0).taken held held (ap place_of t.base) (ap (λ (v : View). v.pending) t.view ∙ pends (view_in me.0)) (ap (λ (v : View). v.taken) t.view ∙ takes (view_in me.0)) refl h;
  base = t.base;
  view = t.view;
}

-- the same without what becomes of the view
pub record Steady (x : SeatData) (new : SeatState) (m n : ℕ) (held : List ℕ) : Type 0 where
  pub own : IsSeat new.0 m n
  pub order : (numbers new.1 ≡ held) × (all_empty new.1 ≡ true)
  pub holds : Holds (place_of (origin_in new.0)) m n (view_in new.0).pending (view_in new.0).taken held
  pub base : origin_in new.0 ≡ origin_in x

pub steady : (x : SeatData) (new : SeatState) (g : View → View) (m n : ℕ) (held : List ℕ) → Calm x new g m n held → Steady x new m n held
steady x new g m n held c = record { own = c.own; order = c.order; holds = c.holds; base = c.base }

module _ (me new : SeatState) (m n : ℕ) (held : List ℕ) (seat : IsSeat me.0 m n) (order : (numbers me.1 ≡ held) × (all_empty me.1 ≡ true)) (h : Holds (place_of (origin_in me.0)) m n (view_in me.0).pending (view_in me.0).taken held) where
  pub calm_lock : new ≡ (did Lock me.0, me.1) → Calm me.0 new after_lock m n held
  calm_lock is = calm Lock after_lock (λ ns p m v. refl) (λ v. refl) (λ v. refl) me new m n held seat order h is

  pub calm_found : (x : Seen) → new ≡ (did (Found x) me.0, me.1) → Calm me.0 new (after_find x) m n held
  calm_found x is = calm (Found x) (after_find x) (λ ns p m v. refl) (λ v. refl) (λ v. refl) me new m n held seat order h is

  pub after_try : (r : ℕ) → (r ≡ 0 → new ≡ (did Lock me.0, me.1)) → ((k : ℕ) → r ≡ k + 1 → new ≡ (did (Found (Holder k)) me.0, me.1)) → Steady me.0 new m n held
  after_try zero free busy = steady me.0 new after_lock m n held (calm_lock (free refl))
  after_try (suc k) free busy = steady me.0 new (after_find (Holder k)) m n held (calm_found (Holder k) (busy k (omega arith)))

-- a seat that took a change into its hands, and has the slot out in front
pub record Took (x : SeatData) (new : SeatData) (m n : ℕ) (a t : ℕ) (e : Entry) (held : List ℕ) : Type 0 where
  pub now : Now x new (after_take a t e) m n
  pub fresh : distinct (pool_place a t ∷ held) ≡ true
  pub fits : length (pool_place a t ∷ held) ≤ 8 * n
  pub holds : Holds (place_of (origin_in new)) m n (view_in new).pending (view_in new).taken (pool_place a t ∷ held)

pub after_taking : (x new : SeatData) (m n a t : ℕ) (e : Entry) (held : List ℕ) → IsSeat x m n → distinct held ≡ true → Holds (place_of (origin_in x)) m n (view_in x).pending (view_in x).taken held → m < n → a < n → t < 8
    → IsNotOut (place_of (origin_in x)) (number_in x) (view_in x) a t → new ≡ did (Take a t e) x → Took x new m n a t e held
after_taking x new m n a t e held seat d h near low less out is =
    let free : has (pool_place a t) held ≡ false = h.others a t low less (λ same. subst (λ j. IsNamedBy (place_of (origin_in x)) j (view_in x).pending t) seat.1 (out.0 (same ∙ sym seat.1))) out.1 in
    let fresh = distinct_more (pool_place a t) held free d in
    let all = holds_taken (place_of (origin_in x)) m n near (view_in x).pending (view_in x).taken held h a t e low less in
    let o = now (Take a t e) (after_take a t e) (λ ns p m v. refl) x new m n seat is in record {
      now = o;
      fresh = fresh;
      fits = at_most (pool_place a t ∷ held) (8 * n) fresh all.below;
      holds = holds_by (place_of (origin_in x)) (place_of (origin_in new)) m n (view_in x).pending (view_in new).pending (put2 (view_in x).taken a t (Some e)) (view_in new).taken (pool_place a t ∷ held) (pool_place a t ∷ held)
          (ap place_of o.base) (ap (λ (v : View). v.pending) o.view) (ap (λ (v : View). v.taken) o.view) refl all;
    }

-- a seat that offered a change in an own slot, which stood in front
pub after_posting : (x new : SeatData) (m n t : ℕ) (e : Entry) (value : List ℕ) (stamp : ℕ) (others : List ℕ) → IsSeat x m n → distinct (pool_place m t ∷ others) ≡ true → Holds (place_of (origin_in x)) m n (view_in x).pending (view_in x).taken (pool_place m t ∷ others) → m < n → t < 8
    → (view_in x).pending e.key ≡ None → owner (place_of (origin_in x)) e.key ≡ m → (view_in x).taken m t ≡ None → new ≡ did (Post t e value stamp) x
    → Now x new (after_post t e value) m n × Holds (place_of (origin_in new)) m n (view_in new).pending (view_in new).taken others
after_posting x new m n t e value stamp others seat d h near less idle own no_hand is =
    let o = now (Post t e value stamp) (after_post t e value) (λ ns p m v. refl) x new m n seat is in (
      o,
      holds_by (place_of (origin_in x)) (place_of (origin_in new)) m n (put (view_in x).pending e.key (Some (record { entry = e; slot = Some t }))) (view_in new).pending (view_in x).taken (view_in new).taken others others
          (ap place_of o.base) (ap (λ (v : View). v.pending) o.view) (ap (λ (v : View). v.taken) o.view) refl
          (holds_posted (place_of (origin_in x)) m n near (view_in x).pending (view_in x).taken others t e less idle own no_hand d h),
    )

abbrev doubted : Entry → Option Pending
doubted e = Some (record { entry = e; slot = None })

-- a seat that gave back a change that it had in its hands, out of the slot that stood in front
pub after_giving : (d : Deed) (g : View → View) → Makes d g → (x new : SeatData) (m n a t : ℕ) (others : List ℕ) → ((v : View) → (g v).pending ≡ v.pending) → ((v : View) → (g v).taken ≡ put2 v.taken a t None) → IsSeat x m n → distinct (pool_place a t ∷ others) ≡ true
    → Holds (place_of (origin_in x)) m n (view_in x).pending (view_in x).taken (pool_place a t ∷ others) → t < 8 → (a ≡ m → IsNamedBy (place_of (origin_in x)) m (view_in x).pending t) → new ≡ did d x
    → Now x new g m n × Holds (place_of (origin_in new)) m n (view_in new).pending (view_in new).taken others
after_giving d g makes x new m n a t others pends takes seat dis h less named is =
    let o = now d g makes x new m n seat is in (
      o,
      holds_by (place_of (origin_in x)) (place_of (origin_in new)) m n (view_in x).pending (view_in new).pending (put2 (view_in x).taken a t None) (view_in new).taken others others
          (ap place_of o.base) (ap (λ (v : View). v.pending) o.view ∙ pends (view_in x)) (ap (λ (v : View). v.taken) o.view ∙ takes (view_in x)) refl
          (holds_given (place_of (origin_in x)) m n (view_in x).pending (view_in x).taken others a t less named dis h),
    )

-- a seat that emptied an own slot, and has it out in front
pub record Freed (x new : SeatData) (m n t : ℕ) (held : List ℕ) : Type 0 where
  pub own : IsSeat new m n
  pub base : origin_in new ≡ origin_in x
  pub fresh : distinct (pool_place m t ∷ held) ≡ true
  pub fits : length (pool_place m t ∷ held) ≤ 8 * n
  pub holds : Holds (place_of (origin_in new)) m n (view_in new).pending (view_in new).taken (pool_place m t ∷ held)

pub after_freeing : (d : Deed) (x new : SeatData) (m n t : ℕ) (e : Entry) (y : Option Pending) (held : List ℕ) → IsSeat x m n → distinct held ≡ true → Holds (place_of (origin_in x)) m n (view_in x).pending (view_in x).taken held → m < n → t < 8
    → Stands (place_of (origin_in x)) (number_in x) (view_in x) t e → ((z : Entry) (u : ℕ) → y ≡ out_at z u → ⊥) → new ≡ did d x
    → (view_in (did d x)).pending ≡ put (view_in x).pending e.key y → (view_in (did d x)).taken ≡ (view_in x).taken → Freed x new m n t held
after_freeing d x new m n t e y held seat dis h near less stands none_out is pends takes =
    let out = stands.not_out in
    let free : has (pool_place m t) held ≡ false = h.others m t near less (λ _. subst (λ j. IsNamedBy (place_of (origin_in x)) j (view_in x).pending t) seat.1 (out.0 refl)) (subst (λ j. (view_in x).taken j t ≡ None) seat.1 out.1) in
    let fresh = distinct_more (pool_place m t) held free dis in
    let base = ap origin_in is ∙ origin_did d x in
    let all = holds_freed (place_of (origin_in x)) m n near (view_in x).pending (view_in x).taken held t e y less stands.pends (λ k z own w. stands.alone k z (own ∙ sym seat.1) w) none_out h in record {
      own = (ap is_own is ∙ (own_did d x ∙ seat.0), ap number_in is ∙ (number_did d x ∙ seat.1), ap size base ∙ seat.2, ap is_settled is ∙ (settled_did d x ∙ seat.3), ap is_handless is ∙ (handless_did d x ∙ seat.4));
      base = base;
      fresh = fresh;
      fits = at_most (pool_place m t ∷ held) (8 * n) fresh all.below;
      holds = holds_by (place_of (origin_in x)) (place_of (origin_in new)) m n (put (view_in x).pending e.key y) (view_in new).pending (view_in x).taken (view_in new).taken (pool_place m t ∷ held) (pool_place m t ∷ held)
          (ap place_of base) (ap (λ z. (view_in z).pending) is ∙ pends) (ap (λ z. (view_in z).taken) is ∙ takes) refl all;
    }

in_doubt : (e z : Entry) (u : ℕ) → doubted e ≡ out_at z u → ⊥
in_doubt e z u is = let r : None ≡ Some u = ap slot_in is in cc r

-- what these deeds do to the changes that are pending
pub over_pends : (x : SeatData) (t : ℕ) (e : Entry) (home : Option ℕ) → is_own x ≡ true → (y : Option Pending) × ((z : Entry) (u : ℕ) → y ≡ out_at z u → ⊥) × ((view_in (did (over t e home) x)).pending ≡ put (view_in x).pending e.key y) × ((view_in (did (over t e home) x)).taken ≡ (view_in x).taken)
over_pends (Store k b l) t e home mine = absurd (cc mine)
over_pends (Own m q b ds) t e None mine = (Some (record { entry = e; slot = None }), (λ z u is. in_doubt e z u is), refl, refl)
over_pends (Own m q b ds) t e (Some h) mine = (None, (λ z u is. cc is), refl, refl)
over_pends Spent t e home mine = absurd (cc mine)

pub withdraw_pends : (x : SeatData) (t : ℕ) (e : Entry) → is_own x ≡ true → (y : Option Pending) × ((z : Entry) (u : ℕ) → y ≡ out_at z u → ⊥) × ((view_in (did (Withdraw t e) x)).pending ≡ put (view_in x).pending e.key y) × ((view_in (did (Withdraw t e) x)).taken ≡ (view_in x).taken)
withdraw_pends (Store k b l) t e mine = absurd (cc mine)
withdraw_pends (Own m q b ds) t e mine = (None, (λ z u is. cc is), refl, refl)
withdraw_pends Spent t e mine = absurd (cc mine)

-- a seat whose names vanished from the own log
pub after_retiring : (ns : List EntryName) (stamp : ℕ) (me new : SeatState) (m n : ℕ) (held : List ℕ) → IsSeat me.0 m n → (numbers me.1 ≡ held) × (all_empty me.1 ≡ true) → Holds (place_of (origin_in me.0)) m n (view_in me.0).pending (view_in me.0).taken held → new ≡ (did (Retire ns stamp) me.0, me.1) → Steady me.0 new m n held
after_retiring ns stamp me new m n held seat order h is = let same = ap (λ x. x.0) is in let base = ap origin_in same ∙ origin_did (Retire ns stamp) me.0 in let calm = still me.0 seat.0 in record {
  own = (ap is_own same ∙ (own_did (Retire ns stamp) me.0 ∙ seat.0), ap number_in same ∙ (number_did (Retire ns stamp) me.0 ∙ seat.1), ap size base ∙ seat.2, ap is_settled same ∙ (settled_did (Retire ns stamp) me.0 ∙ seat.3), ap is_handless same ∙ (handless_did (Retire ns stamp) me.0 ∙ seat.4));
  order = (ap (λ x. numbers x.1) is ∙ order.0, ap (λ x. all_empty x.1) is ∙ order.1);
  holds = holds_by (place_of (origin_in me.0)) (place_of (origin_in new.0)) m n (view_in me.0).pending (view_in new.0).pending (view_in me.0).taken (view_in new.0).taken held held (ap place_of base) (ap (λ d. (view_in d).pending) same ∙ calm.0) (ap (λ d. (view_in d).taken) same ∙ calm.1) refl h;
  base = base;
} where
  still : (x : SeatData) → is_own x ≡ true → ((view_in (did (Retire ns stamp) x)).pending ≡ (view_in x).pending) × ((view_in (did (Retire ns stamp) x)).taken ≡ (view_in x).taken)
  still (Store k b l) e = absurd (cc e)
  still (Own m q b ds) e = (refl, refl)
  still Spent e = absurd (cc e)

-- a seat with a mailbox's slot in its hand
pub mid_view : (g : Option MailHold) (x : Seen) (d : SeatData) → is_own d ≡ true → view_in (gripping g (did (Found x) d)) ≡ after_find x (view_in d)
mid_view g x (Store k b l) e = absurd (cc e)
mid_view g x (Own m q b ds) e = refl
mid_view g x Spent e = absurd (cc e)

pub mid_same : (g : Option MailHold) (x : Seen) (d : SeatData) → is_own d ≡ true → (is_own (gripping g (did (Found x) d)) ≡ true) × (number_in (gripping g (did (Found x) d)) ≡ number_in d) × (origin_in (gripping g (did (Found x) d)) ≡ origin_in d) × (hand_in (gripping g (did (Found x) d)) ≡ g)
mid_same g x (Store k b l) e = absurd (cc e)
mid_same g x (Own m q b ds) e = (refl, refl, refl, refl)
mid_same g x Spent e = absurd (cc e)

-- and after the store that gives it back
pub back_same : (e : Deed) (g : Option MailHold) (x : Seen) (d : SeatData) (m n : ℕ) → IsSeat d m n → IsSeat (gripping None (did e (gripping g (did (Found x) d)))) m n × (origin_in (gripping None (did e (gripping g (did (Found x) d)))) ≡ origin_in d)
back_same e g x (Store k b l) m n s = absurd (cc s.0)
back_same e g x (Own j q b ds) m n s = ((refl, s.1, s.2, s.3, refl), refl)
back_same e g x Spent m n s = absurd (cc s.0)

pub sent_view : (to : ℕ) (n : Notices) (g : Option MailHold) (x : Seen) (d : SeatData) → is_own d ≡ true → view_in (gripping None (did (Send to n.dead n.gone) (gripping g (did (Found x) d)))) ≡ after_send to n (view_in d)
sent_view to n g x (Store k b l) e = absurd (cc e)
sent_view to n g x (Own m q b ds) e = refl
sent_view to n g x Spent e = absurd (cc e)

pub got_still : (from : ℕ) (dead gone : List EntryName) (g : Option MailHold) (x : Seen) (d : SeatData) → is_own d ≡ true → ((view_in (gripping None (did (Receive from dead gone) (gripping g (did (Found x) d))))).pending ≡ (view_in d).pending) × ((view_in (gripping None (did (Receive from dead gone) (gripping g (did (Found x) d))))).taken ≡ (view_in d).taken)
got_still from dead gone g x (Store k b l) e = absurd (cc e)
got_still from dead gone g x (Own m q b ds) e = (refl, refl)
got_still from dead gone g x Spent e = absurd (cc e)
