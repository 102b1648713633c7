-- What the tests' helpers need: the way of one change, in the words of its member's view.
use Rattle.std.proofs.Common.{◌≡◌, ℕ, zero, suc, ◌+◌, ◌<◌, ◌≤◌, Bool, true, false, cond, ◌&&◌, eqb, eq-eqb, ne_eqb, List, [], ◌∷◌, ◌++◌, Option, Some, None, MatchOption, IfSome, inl, inr, ⊎_elim, refl, sym, ap, ◌∙◌, subst, arith}
use mathlib.Core.Option.{some, some-injective, some-ne-none}
use mathlib.Core.Logic.{dite}
use native.Mathlib.Decide.{ℕ_discrete}
use lib.ListN.{get_elem?}
use Rattle.std.proofs.Math.ListN.{get_or-eq_default}
use Rattle.log_entry.specs.declared.entry.Entry.{Entry}
use Rattle.chunk_map.specs.Layouts.{chunk_first, head_by}
use Rattle.store_image.specs.Facts.{In}
use Rattle.store_image.specs.Soundness.{IsSound, first_fault}
use Rattle.group_laws.specs.declared.types.Seen.{Seen}
use Rattle.group_laws.specs.declared.types.Seen.TheVariants as loads
use Rattle.group_laws.specs.declared.types.SlotWord.{SlotWord}
use Rattle.group_laws.specs.declared.types.SlotWord.TheVariants as words
use Rattle.group_laws.specs.declared.types.Pending.{Pending}
use Rattle.group_laws.specs.Places.{Place, IsPlace, members, owner}
use Rattle.group_laws.specs.State.{Group}
use Rattle.group_laws.specs.OpeningImages.{IsBlank}
use Rattle.group_laws.specs.Updates.{put2}
use Rattle.group_laws.specs.MemberViews.{View, view_of, of_own}
use Rattle.group_laws.proofs.Clients.{In-append_right, no_last}
use Rattle.group_board.specs.Journals.{image_of, place_in}
use Rattle.group_board.specs.Views.{after_post, after_lock, after_find, after_take, after_unlock, after_commit, after_mark, after_finish, after_give_up, TidiedIn}
use Rattle.group_board.specs.Conditions.{MayPost, MayLock, MayTake, MayMark, MayFinish}
use Rattle.group_board.specs.Seats.{SeatAt}
use Rattle.group_board.specs.Told.{state_of}
use Rattle.group_tests.specs.BoardTrials.{small_words}
use Rattle.group_board.specs.declared.board.SlotState.TheVariants as states
use Rattle.atomic_table.specs.Seated.{TableId}
use Rattle.atomic_board.specs.declared.seat_data.Origin.{Origin}
use Rattle.atomic_board.specs.declared.token.SeatToken.{SeatToken}
use Rattle.atomic_board.specs.Deeds.{began, place_of}
use Rattle.atomic_board.specs.MemberSeats.{seat_of, view_at}
use Rattle.atomic_board.specs.declared.member_seat.MemberSeat.{MemberSeat}
use Rattle.atomic_board.specs.Tokens.{member_at, AreTokens, AreFresh}
use Rattle.group_tests.specs.ThreadTrials.{pair_words, began_on, entry_of, put_of, Rests, Waits, IsStart}

-- The two regions.

pub pair_sound : IsSound 36864 (image_of pair_words)
unfolding first_fault
pair_sound = refl

pair_place : IsPlace (place_in 0 pair_words)
pair_place = record { layout = refl; group = omega arith }

small_place : IsPlace (place_in 0 small_words)
small_place = record { layout = refl; group = omega arith }

pair_blank : IsBlank (place_in 0 pair_words).layout (image_of pair_words)
pair_blank c j low less =
    let zero_at : (i : ℕ) → 6 ≤ i → image_of pair_words i ≡ 0 = λ i h. get_or-eq_default pair_words 0 {n = i} h in
    let at = chunk_first (place_in 0 pair_words).layout c j in
    ap (λ (n : ℕ). head_by (place_in 0 pair_words).layout n (image_of pair_words (at + 1))) (zero_at at (omega arith)) ∙ refl

small_blank : IsBlank (place_in 0 small_words).layout (image_of small_words)
small_blank c j low less =
    let zero_at : (i : ℕ) → 6 ≤ i → image_of small_words i ≡ 0 = λ i h. get_or-eq_default small_words 0 {n = i} h in
    let at = chunk_first (place_in 0 small_words).layout c j in
    ap (λ (n : ℕ). head_by (place_in 0 small_words).layout n (image_of small_words (at + 1))) (zero_at at (omega arith)) ∙ refl

pair_owner : (k : ℕ) → k < 2 → owner (place_in 0 pair_words) k ≡ k
unfolding owner
pair_owner zero h = refl
pair_owner (suc zero) h = refl
pair_owner (suc (suc k)) h = absurd (omega arith)

small_owner : (k : ℕ) → k < 3 → owner (place_in 0 small_words) k ≡ k
unfolding owner
small_owner zero h = refl
small_owner (suc zero) h = refl
small_owner (suc (suc zero)) h = refl
small_owner (suc (suc (suc k))) h = absurd (omega arith)

none_own : {X : Type 0} (b : Bool) (d : X) → cond b d d ≡ d
none_own true d = refl
none_own false d = refl

-- a member of a group that just opened on an empty region
begins : (ws : List ℕ) (s : SeatAt) → IsPlace (place_in 0 ws) → IsBlank (place_in 0 ws).layout (image_of ws) → s.place ≡ place_in 0 ws → s.number < members (place_in 0 ws) → owner (place_in 0 ws) s.number ≡ s.number
    → Rests s 1 (view_of (began_on ws) s.number)
begins ws s is_place is_blank at low own = record {
  member = subst (λ (p : Place). s.number < members p) (sym at) low;
  own = ap (λ (p : Place). owner p s.number) at ∙ own;
  holds = refl;
  whole = refl;
  empty = λ a t. refl;
  last = ap (λ (x : ℕ). x + 1) (ap (λ (x : ℕ). of_own (place_in 0 ws) s.number s.number x 0) (no_last (place_in 0 ws) is_place (image_of ws) is_blank s.number) ∙ none_own (eqb (owner (place_in 0 ws) s.number) s.number) 0);
  idle = λ k. none_own (eqb (owner (place_in 0 ws) k) s.number) None;
}

pub pair_begins : (s : SeatAt) (v : View) → s.place ≡ place_in 0 pair_words → s.number < 2 → v ≡ view_of (began_on pair_words) s.number → Rests s 1 v
pair_begins s v at low is = subst (Rests s 1) (sym is) (begins pair_words s pair_place pair_blank at low (pair_owner s.number low))

pub small_begins : (s : SeatAt) (v : View) → s.place ≡ place_in 0 small_words → s.number < 3 → v ≡ view_of (began_on small_words) s.number → Rests s 1 v
small_begins s v at low is = subst (Rests s 1) (sym is) (begins small_words s small_place small_blank at low (small_owner s.number low))

-- What each call leaves.

pub posts : (s t : SeatAt) (n : ℕ) (v u : View) → t ≡ s → Rests s n v → u ≡ after_post 0 (entry_of s.number n) [] v → Waits t n false u
posts s t n v u same r is = subst (λ x. Waits x n false u) (sym same) (subst (Waits s n false) (sym is) (record {
  member = r.member;
  own = r.own;
  holds = r.holds;
  whole = r.whole;
  empty = r.empty;
  last = r.last;
  out = ap (λ b. cond b (Some (record { entry = entry_of s.number n; slot = Some 0 })) (v.pending s.number)) (eq-eqb s.number s.number refl);
  others = λ k ne. ap (λ b. cond b (Some (record { entry = entry_of s.number n; slot = Some 0 })) (v.pending k)) (ne_eqb k s.number ne) ∙ r.idle k;
}))

pub locks : (s t : SeatAt) (n : ℕ) (b : Bool) (v u : View) → t ≡ s → Waits s n b v → u ≡ after_lock v → Waits t n true u
locks s t n b v u same w is = subst (λ x. Waits x n true u) (sym same) (subst (Waits s n true) (sym is) (record { member = w.member; own = w.own; holds = refl; whole = w.whole; empty = w.empty; last = w.last; out = w.out; others = w.others }))

pub unlocks : (s t : SeatAt) (n : ℕ) (b : Bool) (v u : View) → t ≡ s → Waits s n b v → u ≡ after_unlock v → Waits t n false u
unlocks s t n b v u same w is = subst (λ x. Waits x n false u) (sym same) (subst (Waits s n false) (sym is) (record { member = w.member; own = w.own; holds = refl; whole = w.whole; empty = w.empty; last = w.last; out = w.out; others = w.others }))

pub finds : (s t : SeatAt) (n : ℕ) (b : Bool) (x : Seen) (v u : View) → t ≡ s → Waits s n b v → u ≡ after_find x v → Waits t n b u
finds s t n b x v u same w is = subst (λ y. Waits y n b u) (sym same) (subst (Waits s n b) (sym is) (record { member = w.member; own = w.own; holds = w.holds; whole = w.whole; empty = w.empty; last = w.last; out = w.out; others = w.others }))

-- a leader's take, commit and mark of one change
taken_none : (f : ℕ → ℕ → Option Entry) (a : ℕ) (e : Entry) → ((b t : ℕ) → f b t ≡ None) → (b t : ℕ) → put2 (put2 f a 0 (Some e)) a 0 None b t ≡ None
taken_none f a e none b t = by (eqb b a && eqb t 0) where
  by : (c : Bool) → cond c None (cond c (Some e) (f b t)) ≡ None
  by true = refl
  by false = none b t

pub serves : (s t : SeatAt) (n a : ℕ) (e : Entry) (v u : View) → t ≡ s → Waits s n true v → u ≡ after_mark a 0 (after_commit (after_take a 0 e v)) → Waits t n true u
serves s t n a e v u same w is = subst (λ y. Waits y n true u) (sym same) (subst (Waits s n true) (sym is) (record { member = w.member; own = w.own; holds = w.holds; whole = w.whole; empty = taken_none v.taken a e w.empty; last = w.last; out = w.out; others = w.others }))

-- the change that came back is the one that was offered
abbrev out_of : Entry → Option Pending
out_of e = Some (record { entry = e; slot = Some 0 })

same_entry : (e f : Entry) → out_of e ≡ out_of f → e ≡ f
same_entry e f is = ap entry_at is where
  entry_at : Option Pending → Entry
  entry_at None = e
  entry_at (Some x) = x.entry

pub back : (s : SeatAt) (n : ℕ) (b : Bool) (v : View) (e : Entry) → Waits s n b v → v.pending e.key ≡ Some (record { entry = e; slot = Some 0 }) → e ≡ entry_of s.number n
back s n b v e w is = dite (ℕ_discrete e.key s.number)
    (λ same. same_entry e (entry_of s.number n) (sym is ∙ (ap v.pending same ∙ w.out)))
    (λ ne. absurd (let none = w.others e.key ne in cc (none, is)))

pub finishes : (s t : SeatAt) (n h : ℕ) (v u : View) (e : Entry) → t ≡ s → Waits s n false v → e ≡ entry_of s.number n → TidiedIn s.place s.number (after_finish e h v) u → Rests t (n + 1) u
finishes s t n h v u e same w is tidy = subst (λ y. Rests y (n + 1) u) (sym same) (subst (Rests s (n + 1)) (sym tidy.4) (record {
  member = w.member;
  own = w.own;
  holds = w.holds;
  whole = w.whole;
  empty = w.empty;
  last = ap (λ (x : ℕ). x + 1) last;
  idle = λ k. dite (ℕ_discrete k e.key)
      (λ at. ap (λ b. cond b None (v.pending k)) (eq-eqb k e.key at))
      (λ ne. ap (λ b. cond b None (v.pending k)) (ne_eqb k e.key ne) ∙ w.others k (λ at. ne (at ∙ sym (ap (λ (x : Entry). x.key) is))));
})) where
  w' : View
  w' = after_finish e h v

  key : e.key ≡ s.number
  key = ap (λ (x : Entry). x.key) is

  version : w'.last s.number ≡ n
  version = ap (λ b. cond b e.version (v.last s.number)) (eq-eqb s.number e.key (sym key)) ∙ ap (λ (x : Entry). x.version) is

  cell : w'.cell s.number ≡ Some (97 ∷ [])
  cell = ap (λ (x : Entry). (after_finish x h v).cell s.number) is ∙ ap (λ b. cond b (Some (97 ∷ [])) (v.cell s.number)) (eq-eqb s.number s.number refl)

  last : tidy.0 s.number ≡ n
  last = ⊎_elim (λ spent. absurd (let gone = spent.0.1 in cc (gone, cell))) (λ kept. kept ∙ version) (tidy.3.keeps s.number)

-- What each call asks.

pub may_post : (s : SeatAt) (n : ℕ) (v : View) → Rests s n v → n ≤ 1000 → s.number < 8 → MayPost s.place s.number v 0 (put_of s.number n) []
may_post s n v r low few = record {
  member = r.member;
  slot = omega arith;
  free = λ k e p. (let none = r.idle k in absurd (cc (none, p)));
  home = refl;
  spelled = record { key = omega (arith, few); fits = (let one = r.last in omega (arith, one), omega (arith, low), omega arith, (omega arith, tt)) };
  own = r.own;
  idle = r.idle s.number;
  whole = r.whole;
  next = sym r.last;
  live = λ t. absurd (cc);
  block = λ at t. absurd (cc);
}

pub may_lock : (s : SeatAt) (n : ℕ) (v : View) → Waits s n false v → MayLock s.place s.number v
may_lock s n v w = record { member = w.member; not_held = w.holds; gave_back = w.empty }

posted_word : (x : SlotWord) (n : ℕ) → state_of x ≡ states.Posted n → x ≡ words.Posted n
posted_word words.Empty n e = absurd (cc)
posted_word (words.Posted k) n e = let f : k ≡ n = cc in ap words.Posted f
posted_word words.Taken n e = absurd (cc)
posted_word (words.Done h) n e = absurd (cc)
posted_word words.Failed n e = absurd (cc)

done_word : (x : SlotWord) → state_of x ≡ states.Done → (h : ℕ) × (x ≡ words.Done h)
done_word words.Empty e = absurd (cc)
done_word (words.Posted k) e = absurd (cc)
done_word words.Taken e = absurd (cc)
done_word (words.Done h) e = (h, refl)
done_word words.Failed e = absurd (cc)

seen_last : (v u : View) (x : Seen) → u ≡ after_find x v → In x u.looked
seen_last v u x is = subst (λ (w : View). In x w.looked) (sym is) (In-append_right x v.looked (x ∷ []) (inl refl))

-- who leads may take what a look just found posted
pub may_take : (s t : SeatAt) (a k : ℕ) (v u : View) (x : SlotWord) → t ≡ s → s.number < members s.place → v.holds ≡ true → v.broken ≡ false → a < members s.place → state_of x ≡ states.Posted k → u ≡ after_find (loads.Slot a 0 x) v → MayTake t.place t.number u a 0
may_take s t a k v u x same member holds whole low posted is = subst (λ (y : SeatAt). MayTake y.place y.number u a 0) (sym same) (record {
  member = member;
  target = low;
  slot = omega arith;
  holds = ap (λ w. w.holds) is ∙ holds;
  whole = ap (λ w. w.broken) is ∙ whole;
  seen = (k, subst (λ (y : SlotWord). In (loads.Slot a 0 y) u.looked) (posted_word x k posted) (seen_last v u (loads.Slot a 0 x) is));
})

pub may_finish : (s t : SeatAt) (n : ℕ) (b : Bool) (v u : View) (x : SlotWord) → t ≡ s → Waits s n b v → state_of x ≡ states.Done → u ≡ after_find (loads.Slot s.number 0 x) v → MayFinish t.place t.number u 0
may_finish s t n b v u x same w done is = subst (λ (y : SeatAt). MayFinish y.place y.number u 0) (sym same) (let h = done_word x done in record {
  member = w.member;
  slot = omega arith;
  seen = inr (h.0, subst (λ (y : SlotWord). In (loads.Slot s.number 0 y) u.looked) h.1 (seen_last v u (loads.Slot s.number 0 x) is));
})

pub may_mark : (s t : SeatAt) (a : ℕ) (e : Entry) (v u : View) → t ≡ s → s.number < members s.place → a < members s.place → u ≡ after_commit (after_take a 0 e v) → MayMark t.place t.number u a 0 e
may_mark s t a e v u same member low is = subst (λ (y : SeatAt). MayMark y.place y.number u a 0 e) (sym same) (subst (λ (z : View). MayMark s.place s.number z a 0 e) (sym is) (record {
  member = member;
  target = low;
  slot = omega arith;
  taken = ap (λ b. cond (b && true) (Some e) (v.taken a 0)) (eq-eqb a a refl);
  kept = In-append_right e v.kept (v.flying ++ e ∷ []) (In-append_right e v.flying (e ∷ []) (inl refl));
}))

-- Tokens.

pub starts : (ws : List ℕ) (b : Origin) (z : TableId) (ts : List SeatToken) (k : ℕ) (t : SeatToken) → began b ≡ began_on ws → AreTokens z (place_of b) ts → AreFresh b ts → get_elem? ts k ≡ some t → IsStart ws z k t
starts ws b z ts k t is are fresh at = (are k t at ∙ ap (λ (w : Group). member_at z w.place k) is, fresh k t at ∙ ap (λ (w : Group). view_of w k) is)

pub are_two : (z : TableId) (p : Place) (a b : SeatToken) → seat_of a.own ≡ member_at z p 0 → seat_of b.own ≡ member_at z p 1 → AreTokens z p (a ∷ b ∷ [])
are_two z p a b first second zero t e = subst (λ (x : SeatToken). seat_of x.own ≡ member_at z p 0) (some-injective a t e) first
are_two z p a b first second (suc zero) t e = subst (λ (x : SeatToken). seat_of x.own ≡ member_at z p 1) (some-injective b t e) second
are_two z p a b first second (suc (suc k)) t e = absurd (some-ne-none t (sym e))

pub are_three : (z : TableId) (p : Place) (a b c : SeatToken) → seat_of a.own ≡ member_at z p 0 → seat_of b.own ≡ member_at z p 1 → seat_of c.own ≡ member_at z p 2 → AreTokens z p (a ∷ b ∷ c ∷ [])
are_three z p a b c first second third zero t e = subst (λ (x : SeatToken). seat_of x.own ≡ member_at z p 0) (some-injective a t e) first
are_three z p a b c first second third (suc zero) t e = subst (λ (x : SeatToken). seat_of x.own ≡ member_at z p 1) (some-injective b t e) second
are_three z p a b c first second third (suc (suc zero)) t e = subst (λ (x : SeatToken). seat_of x.own ≡ member_at z p 2) (some-injective c t e) third
are_three z p a b c first second third (suc (suc (suc k))) t e = absurd (some-ne-none t (sym e))

-- a member at its table, as its group just opened
pub pair_starts : (z : TableId) (k : ℕ) (t : SeatToken) (own : MemberSeat) → k < 2 → IsStart pair_words z k t → own ≡ t.own → Rests (seat_of own) 1 (view_at own)
pair_starts z k t own low start is = let number = ap (λ (x : SeatAt). x.number) start.0 in subst (λ (o : MemberSeat). Rests (seat_of o) 1 (view_at o)) (sym is)
    (pair_begins (seat_of t.own) (view_at t.own) (ap (λ (x : SeatAt). x.place) start.0) (subst (λ j. j < 2) (sym number) low) (start.1 ∙ ap (view_of (began_on pair_words)) (sym number)))

pub small_starts : (z : TableId) (k : ℕ) (t : SeatToken) (own : MemberSeat) → k < 3 → IsStart small_words z k t → own ≡ t.own → Rests (seat_of own) 1 (view_at own)
small_starts z k t own low start is = let number = ap (λ (x : SeatAt). x.number) start.0 in subst (λ (o : MemberSeat). Rests (seat_of o) 1 (view_at o)) (sym is)
    (small_begins (seat_of t.own) (view_at t.own) (ap (λ (x : SeatAt). x.place) start.0) (subst (λ j. j < 3) (sym number) low) (start.1 ∙ ap (view_of (began_on small_words)) (sym number)))

-- a member takes its change back
pub takes_back : (s t r : SeatAt) (n : ℕ) (v u y : View) (x : Seen) (e : Entry) (home : Option ℕ) → t ≡ s → r ≡ t → Waits s n false v → u ≡ after_find x v → u.pending e.key ≡ out_of e
    → MatchOption home (TidiedIn t.place t.number (after_give_up e u) y) (λ h. TidiedIn t.place t.number (after_finish e h u) y) → (e ≡ entry_of s.number n) × IfSome home (λ h. Rests r (n + 1) y)
takes_back s t r n v u y x e None one two w is pends tidy = (back s n false u e (finds s s n false x v u refl w is) pends, tt)
takes_back s t r n v u y x e (Some h) one two w is pends tidy =
    let found = finds s t n false x v u one w is in
    let same = back t n false u e found pends in
    (same ∙ ap (λ (z : SeatAt). entry_of z.number n) one, finishes t r n h u y e two found same tidy)

-- a seat of the group of three
pub at_three : (z : TableId) (b : Origin) (k : ℕ) (t : SeatToken) (own : MemberSeat) → began b ≡ began_on small_words → seat_of t.own ≡ member_at z (place_of b) k → own ≡ t.own → (members (seat_of own).place ≡ 3) × ((seat_of own).number ≡ k)
at_three z b k t own is there same = (
  ap (λ (o : MemberSeat). members (seat_of o).place) same ∙ (ap (λ (x : SeatAt). members x.place) there ∙ ap (λ (w : Group). members w.place) is),
  ap (λ (o : MemberSeat). o.member) same ∙ ap (λ (x : SeatAt). x.number) there,
)
