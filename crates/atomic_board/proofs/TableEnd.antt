-- What a table shows once the seats are joined.
use Rattle.std.proofs.Common.{◌≡◌, ℕ, zero, suc, ◌+◌, true, cond, ◌||◌, List, [], ◌∷◌, ◌++◌, length, length-append, append-nil, refl, sym, ap, ◌∙◌, subst, ⊎_elim, eq-eqb, ne_eqb, arith, Option, Some, None, is_none}
use mathlib.Core.Option.{some, some-injective, some-ne-none}
use mathlib.Core.Logic.{dite}
use native.Mathlib.Decide.{ℕ_discrete}
use lib.ListN.{get_elem?}
use Rattle.atomic_table.specs.Table.{Joins}
use Rattle.atomic_table.proofs.Lists.{set_else, at_longer, at_last}
use Rattle.atomic_table.specs.Seated.{TableId}
use Rattle.group_laws.specs.Places.{Place, members}
use Rattle.group_board.specs.Seats.{SeatAt}
use Rattle.atomic_board.specs.declared.seat_data.Origin.{Origin}
use Rattle.atomic_board.specs.declared.seat_data.Holding.{Holding}
use Rattle.atomic_board.specs.declared.seat_data.Deed.{Deed}
use Rattle.atomic_board.specs.declared.seat_data.SeatData.{SeatData}
use Rattle.atomic_board.specs.declared.seat_data.SeatData.TheVariants.{Store, Own, Spent}
use Rattle.atomic_board.specs.declared.token.SeatToken.{SeatToken}
use Rattle.atomic_board.specs.Deeds.{place_of, size, view_by, trail_by}
use Rattle.atomic_board.specs.ShownState.{TableState, ShowsLawful, is_back, deeds_in, deeds_at, stored, own_or}
use Rattle.atomic_board.specs.StepTells.{done_in, trail_in, is_own, is_store, is_settled, is_handless, number_in, origin_in, view_in, joined}
use Rattle.atomic_board.specs.declared.member_seat.MemberSeat.{MemberSeat}
use Rattle.atomic_board.specs.MemberSeats.{origin_at, view_at, trail_at, done_at, seat_of}
use Rattle.atomic_board.specs.Tokens.{AreTokens, member_at, Ended, HasFrom}
use Rattle.atomic_board.proofs.SeatPlaces.{at_lt, store_own, store_spent, own_spent}
use Rattle.atomic_board.proofs.RuleOpened.{same_back}
use Rattle.atomic_board.proofs.SlotsReturned.{join_owes}
use Rattle.atomic_board.proofs.OwedLeading.{same_origin}

-- a seat's origin is its table's
seat_origin : (b c : Origin) (m : ℕ) (q : Holding) (ds : List Deed) (s : TableState) → ShowsLawful b s → (j : ℕ) → get_elem? s.views j ≡ some (Own m q c ds) → c ≡ b
seat_origin b c m q ds s o zero e = absurd (store_own o.fits.given b c o.fits.back m q ds (some-injective (Store o.fits.given b o.fits.back) (Own m q c ds) (sym o.fits.store ∙ e)))
seat_origin b c m q ds s o (suc j) e = ⊎_elim
    (λ (t : (r : Holding) × (es : List Deed) × (Own m q c ds ≡ Own j r b es)). same_origin m j q t.0 c b ds t.1 t.2)
    (λ (t : Own m q c ds ≡ Spent). absurd (own_spent m q c ds t)) (o.fits.own j (Own m q c ds) e)

none_is : {X : Type 0} (o : Option X) → is_none o ≡ true → o ≡ None
none_is None e = refl
none_is (Some x) e = absurd (cc e)

-- the store's origin is the table's
pub store_origin : (b c : Origin) (n : ℕ) (back : List (ℕ × List Deed)) (s : TableState) (o : ShowsLawful b s) (j : ℕ) → get_elem? s.views j ≡ some (Store n c back) → (c ≡ b) × (o.fits.back ≡ back) × (get_elem? s.views 0 ≡ some (Store n c back))
store_origin b c n back s o zero e = let is = some-injective (Store o.fits.given b o.fits.back) (Store n c back) (sym o.fits.store ∙ e) in (sym (ap (λ d. origin_in d) is), same_back o.fits.given n b c o.fits.back back is, e)
store_origin b c n back s o (suc j) e = ⊎_elim
    (λ (t : (r : Holding) × (es : List Deed) × (Store n c back ≡ Own j r b es)). absurd (store_own n c b back j t.0 t.1 t.2))
    (λ (t : Store n c back ≡ Spent). absurd (store_spent n c back t)) (o.fits.own j (Store n c back) e)

joins_based : (b : Origin) (id other n : ℕ) (back : List (ℕ × List Deed)) (e : SeatData) → is_own e ≡ true → is_settled e ≡ true → is_handless e ≡ true → Joins (ShowsLawful b) id (Store n b back) other e (joined (Store n b back) e) Spent
joins_based b id other n back (Store k c l) mine settled empty = absurd (cc mine)
joins_based b id other n back (Own m q c ds) mine settled empty = λ s o me ne at.
    let is = seat_origin b c m q ds s o other (sym (set_else s.views id other (Store n b ((m, ds) ∷ back)) ne) ∙ at) in
    join_owes b id other n m q ds back settled (none_is q.hand empty) s o me ne (at ∙ ap (λ x. some (Own m q x ds)) is)
joins_based b id other n back Spent mine settled empty = absurd (cc mine)

pub joins_any : (b : Origin) (id other : ℕ) (d : SeatData) → is_store d ≡ true → (e : SeatData) → is_own e ≡ true → is_settled e ≡ true → is_handless e ≡ true → Joins (ShowsLawful b) id d other e (joined d e) Spent
joins_any b id other (Store n c back) store e mine settled empty = λ s o me ne at.
    subst (λ x. Joins (ShowsLawful b) id (Store n x back) other e (joined (Store n x back) e) Spent) (sym (store_origin b c n back s o id me).0) (joins_based b id other n back e mine settled empty) s o me ne at
joins_any b id other (Own m q c ds) store e mine settled empty = absurd (cc store)
joins_any b id other Spent store e mine settled empty = absurd (cc store)

-- what a store has
pub store_is : (d : SeatData) → is_store d ≡ true → (c : Origin) × (n : ℕ) × (back : List (ℕ × List Deed)) × (d ≡ Store n c back)
store_is (Store n c back) e = (c, n, back, refl)
store_is (Own m q b ds) e = absurd (cc e)
store_is Spent e = absurd (cc e)

-- what a seat has: its deeds lead to its view
own_deeds : (b c : Origin) (n : ℕ) (back : List (ℕ × List Deed)) (e : SeatData) → is_own e ≡ true → origin_in e ≡ b → (ds : List Deed) × (joined (Store n c back) e ≡ Store n c ((number_in e, ds) ∷ back)) × (view_by b (number_in e) ds ≡ view_in e) × (ds ≡ done_in e) × (trail_in e ≡ trail_by b (number_in e) ds)
own_deeds b c n back (Store k g l) mine same = absurd (cc mine)
own_deeds b c n back (Own m q g ds) mine same = (ds, refl, ap (λ x. view_by x m ds) (sym same), refl, ap (λ x. trail_by x m ds) same)
own_deeds b c n back Spent mine same = absurd (cc mine)

-- one more seat is joined
pub has_more : (b : Origin) (ts rest left : List SeatToken) (t : SeatToken) (d : SeatData) → ts ≡ (left ++ t ∷ []) ++ rest → t.own.member ≡ length left → origin_at t.own ≡ b
    → HasFrom b ts (length (left ++ t ∷ [])) d → HasFrom b ts (length left) (joined d t.own.seat.me.0)
has_more b ts rest left t d is member origin h =
    let c = h.0 in let n = h.1 in let back = h.2 in
    let at : get_elem? ts (length left) ≡ some t = ap (λ l. get_elem? l (length left)) is ∙ at_longer (left ++ t ∷ []) rest (length left) t (at_last left t (length left) refl) in
    let own = own_deeds b c n back t.own.seat.me.0 t.own.own.0 origin in
    let same : number_in t.own.seat.me.0 ≡ length left = t.own.own.1 ∙ member in (
      c,
      n,
      (number_in t.own.seat.me.0, own.0) ∷ back,
      ap (λ x. joined x t.own.seat.me.0) h.3 ∙ own.1,
      λ k u low there. dite (ℕ_discrete k (length left))
          (λ e. (
            ap (λ c. c || is_back back k) (eq-eqb k (number_in t.own.seat.me.0) (e ∙ sym same)),
            ap (λ c. view_by b k (cond c own.0 (deeds_in back k))) (eq-eqb k (number_in t.own.seat.me.0) (e ∙ sym same)) ∙ (ap (λ j. view_by b j own.0) (e ∙ sym same) ∙ (own.2 ∙ ap (λ (x : SeatToken). view_at x.own) (some-injective t u (sym at ∙ (ap (get_elem? ts) (sym e) ∙ there))))),
            ap (λ c. cond c own.0 (deeds_in back k)) (eq-eqb k (number_in t.own.seat.me.0) (e ∙ sym same)) ∙ (own.3 ∙ ap (λ (x : SeatToken). done_at x.own) (some-injective t u (sym at ∙ (ap (get_elem? ts) (sym e) ∙ there)))),
            ap (λ (x : SeatToken). trail_at x.own) (sym (some-injective t u (sym at ∙ (ap (get_elem? ts) (sym e) ∙ there)))) ∙ own.4 ∙ ap (λ j. trail_by b j own.0) (same ∙ sym e) ∙ ap (λ c. trail_by b k (cond c own.0 (deeds_in back k))) (sym (eq-eqb k (number_in t.own.seat.me.0) (e ∙ sym same))),
          ))
          (λ ne. let old = h.4 k u (let long = longer left t in omega (arith, long, low, ne)) there in (
            ap (λ c. c || is_back back k) (ne_eqb k (number_in t.own.seat.me.0) (λ e. ne (e ∙ same))) ∙ old.0,
            ap (λ c. view_by b k (cond c own.0 (deeds_in back k))) (ne_eqb k (number_in t.own.seat.me.0) (λ e. ne (e ∙ same))) ∙ old.1,
            ap (λ c. cond c own.0 (deeds_in back k)) (ne_eqb k (number_in t.own.seat.me.0) (λ e. ne (e ∙ same))) ∙ old.2,
            old.3 ∙ ap (λ c. trail_by b k (cond c own.0 (deeds_in back k))) (sym (ne_eqb k (number_in t.own.seat.me.0) (λ e. ne (e ∙ same)))),
          )),
    ) where
      longer : (l : List SeatToken) (x : SeatToken) → length (l ++ x ∷ []) ≡ length l + 1
      longer [] x = refl
      longer (y ∷ l) x = ap suc (longer l x) ∙ omega arith

-- at the end the store has what each member did
pub ended : (b : Origin) (ts : List SeatToken) (ws : List ℕ) (id : ℕ) (d : SeatData) → HasFrom b ts 0 d → (s : TableState) → ShowsLawful b s → get_elem? s.views id ≡ some d → s.words ≡ ws → Ended b ts ws
ended b ts ws id d h s o at words = record {
  table = s;
  shows = o;
  words = words;
  views = λ k t there. let has = h.4 k t (omega arith) there in ap (view_by b k) (deeds k has.0) ∙ has.1;
  deeds = λ k t there. let has = h.4 k t (omega arith) there in deeds k has.0 ∙ has.2;
  trails = λ k t there. let has = h.4 k t (omega arith) there in has.3 ∙ ap (trail_by b k) (sym (deeds k has.0));
} where
  found : (h.0 ≡ b) × (o.fits.back ≡ h.2) × (get_elem? s.views 0 ≡ some (Store h.1 h.0 h.2))
  found = store_origin b h.0 h.1 h.2 s o id (at ∙ ap some h.3)

  by : (l : List SeatData) (k : ℕ) → get_elem? l 0 ≡ some (Store h.1 h.0 h.2) → get_elem? l (suc k) ≡ some Spent → deeds_at l k ≡ deeds_in h.2 k
  by [] k e f = absurd (some-ne-none (Store h.1 h.0 h.2) (sym e))
  by (x ∷ l) k e f = ap (own_or (stored x k)) f ∙ ap (λ y. stored y k) (some-injective x (Store h.1 h.0 h.2) e)

  deeds : (k : ℕ) → is_back h.2 k ≡ true → deeds_at s.views k ≡ deeds_in h.2 k
  deeds k back = by s.views k found.2 (o.fits.gone k (subst (λ l. is_back l k ≡ true) (sym found.1) back))

-- a member's seat at a table
pub at_member : (t : MemberSeat) (z : TableId) (b : Origin) (k : ℕ) → t.seat.table_id ≡ z → origin_at t ≡ b → t.member ≡ k → seat_of t ≡ member_at z (place_of b) k
at_member t z b k table origin member i = record { number = member i; place = place_of (origin i); table = table i; handle = 0 }

-- a token by its place in the list
pub token_there : (z : TableId) (p : Place) (ts left rest : List SeatToken) (t : SeatToken) → AreTokens z p ts → ts ≡ (left ++ t ∷ []) ++ rest → seat_of t.own ≡ member_at z p (length left)
token_there z p ts left rest t are is = are (length left) t (ap (λ l. get_elem? l (length left)) is ∙ at_longer (left ++ t ∷ []) rest (length left) t (at_last left t (length left) refl))

-- the last one is the last member's
pub last_member : (z : TableId) (b : Origin) (ts left : List SeatToken) (t : SeatToken) → AreTokens z (place_of b) ts → ts ≡ left ++ t ∷ [] → length ts ≡ size b → t.own.member + 1 ≡ t.own.members
last_member z b ts left t are is count =
    let there = token_there z (place_of b) ts left [] t are (is ∙ sym (append-nil (left ++ t ∷ []))) in
    let number = ap (λ (x : SeatAt). x.number) there in
    let many = ap (λ (x : SeatAt). members x.place) there in
    let long = ap length is ∙ length-append left (t ∷ []) in
    let own = t.own.own.2 in omega (arith, number, many, long, own, count)

-- before the first is joined
pub has_none : (b : Origin) (ts : List SeatToken) (d : SeatData) → is_store d ≡ true → HasFrom b ts (length ts) d
has_none b ts d store = let s = store_is d store in (s.0, s.1, s.2, s.3, λ k t low e. absurd (let l = at_lt ts k t e in omega (arith, l, low)))
