-- What the tests' helpers need.
use Rattle.std.proofs.Common.{◌≡◌, ◌≢◌, ℕ, ◌+◌, ◌<◌, ◌≤◌, Bool, true, false, cond, ◌&&◌, eqb, List, [], ◌∷◌, length, Option, Some, None, inl, inr, refl, sym, ap, ◌∙◌, subst, arith, eq-eqb, ne_eqb}
use Rattle.std.proofs.Math.ListN.{get_or-eq_default}
use Rattle.log_entry.specs.declared.entry.Entry.{Entry}
use Rattle.chunk_map.specs.Layouts.{chunk_first, head_by}
use Rattle.store_image.specs.Facts.{In}
use Rattle.store_image.specs.Soundness.{IsSound, first_fault}
use Rattle.group_laws.specs.declared.types.Seen.TheVariants as loads
use Rattle.group_laws.specs.declared.types.SlotWord.{SlotWord}
use Rattle.group_laws.specs.declared.types.SlotWord.TheVariants as words
use Rattle.group_laws.specs.declared.types.Pending.{Pending}
use Rattle.group_laws.specs.declared.types.Block.{Block}
use Rattle.group_laws.specs.Places.{Place, IsPlace, members, owner, first_unit, units, LiesIn, GetsBlock}
use Rattle.group_laws.specs.State.{Group}
use Rattle.group_laws.specs.Runs.{IsStep}
use Rattle.group_laws.specs.Runs as runs
use Rattle.group_laws.specs.OpeningImages.{IsBlank}
use Rattle.group_laws.proofs.Clients.{In-append_right, no_block, no_last}
use Rattle.group_board.specs.declared.change.Change.{Change}
use Rattle.group_board.specs.Journals.{image_of, place_in}
use Rattle.group_laws.specs.MemberViews.{View, view_of, of_own}
use Rattle.group_board.specs.Seats.{SeatAt}
use Rattle.group_board.specs.Views.{after_find, after_take, after_unlock, after_commit}
use Rattle.group_board.specs.Conditions.{IsClearIn, MayPost, MayLock, MayTake, MayMark, MayFail, MayFinish, MayWithdraw}
use Rattle.group_board.specs.Told.{state_of}
use Rattle.group_tests.specs.BoardTrials.{small_words, fresh, first_put, long_put, Leads, Has}
use Rattle.group_board.specs.declared.board.SlotState.TheVariants as states

-- the small image is sound
pub small_sound : IsSound 53248 (image_of small_words)
unfolding first_fault
small_sound = refl

posted_word : (x : SlotWord) (n : ℕ) → state_of x ≡ states.Posted n → x ≡ words.Posted n
posted_word words.Empty n e = absurd (cc)
posted_word (words.Posted k) n e = let f : k ≡ n = cc in ap words.Posted f
posted_word words.Taken n e = absurd (cc)
posted_word (words.Done h) n e = absurd (cc)
posted_word words.Failed n e = absurd (cc)

done_word : (x : SlotWord) → state_of x ≡ states.Done → (h : ℕ) × (x ≡ words.Done h)
done_word words.Empty e = absurd (cc)
done_word (words.Posted k) e = absurd (cc)
done_word words.Taken e = absurd (cc)
done_word (words.Done h) e = (h, refl)
done_word words.Failed e = absurd (cc)

-- a seat that is where it was is the same member's, at the same place
pub stays : {s t : SeatAt} → t ≡ s → (t.number ≡ s.number) × (t.place ≡ s.place)
stays e = (ap (λ (x : SeatAt). x.number) e, ap (λ (x : SeatAt). x.place) e)

moved : (p q : Place) (m n : ℕ) → (n ≡ m) × (q ≡ p) → m < members p → n < members q
moved p q m n same low = subst (λ (k : ℕ). k < members q) (sym same.0) (subst (λ (x : Place). m < members x) (sym same.1) low)

-- what was just looked at
seen_last : (v u : View) (a : ℕ) (x : SlotWord) → u ≡ after_find (loads.Slot a 0 x) v → In (loads.Slot a 0 x) u.looked
seen_last v u a x e = subst (λ (w : View). In (loads.Slot a 0 x) w.looked) (sym e) (In-append_right (loads.Slot a 0 x) v.looked (loads.Slot a 0 x ∷ []) (inl refl))

pub may_take : (p q : Place) (m n a k : ℕ) (v u : View) (x : SlotWord) → a ≡ m → (n ≡ m) × (q ≡ p) → Leads p m v → state_of x ≡ states.Posted k → u ≡ after_find (loads.Slot a 0 x) v → MayTake q n u a 0
may_take p q m n a k v u x me same lead posted e = record {
  member = moved p q m n same lead.member;
  target = moved p q m a (me, same.1) lead.member;
  slot = omega arith;
  holds = ap (λ w. w.holds) e ∙ lead.holds;
  whole = ap (λ w. w.broken) e ∙ lead.whole;
  seen = (k, subst (λ (w : SlotWord). In (loads.Slot a 0 w) u.looked) (posted_word x k posted) (seen_last v u a x e));
}

pub has_taken : (p q r : Place) (m n o a : ℕ) (v u t : View) (x : SlotWord) (e : Entry) → a ≡ m → (n ≡ m) × (q ≡ p) → (o ≡ n) × (r ≡ q) → Leads p m v → u ≡ after_find (loads.Slot a 0 x) v → t ≡ after_take a 0 e u → Has r o t e
has_taken p q r m n o a v u t x e me one two lead f g = record {
  member = moved q r n o two (moved p q m n one lead.member);
  holds = ap (λ w. w.holds) g ∙ (ap (λ w. w.holds) f ∙ lead.holds);
  whole = ap (λ w. w.broken) g ∙ (ap (λ w. w.broken) f ∙ lead.whole);
  taken = ap (λ w. w.taken o 0) g ∙ ap (λ b. cond (b && true) (Some e) (u.taken o 0)) (eq-eqb o a (two.0 ∙ (one.0 ∙ sym me)));
  flying = subst (λ (w : View). In e w.flying) (sym g) (In-append_right e u.flying (e ∷ []) (inl refl));
}

pub may_mark : (p q r : Place) (m n o a : ℕ) (v u t : View) (e : Entry) → a ≡ m → (n ≡ m) × (q ≡ p) → (o ≡ n) × (r ≡ q) → Has p m v e
    → u ≡ after_unlock v → t ≡ after_commit u → MayMark r o t a 0 e
may_mark p q r m n o a v u t e me one two has f g = record {
  member = moved q r n o two (moved p q m n one has.member);
  target = moved p r m a (me, two.1 ∙ one.1) has.member;
  slot = omega arith;
  taken = ap (λ w. w.taken a 0) g ∙ (ap (λ w. w.taken a 0) f ∙ (ap (λ k. v.taken k 0) me ∙ has.taken));
  kept = subst (λ (w : View). In e w.kept) (sym g) (In-append_right e u.kept u.flying (subst (λ (w : View). In e w.flying) (sym f) has.flying));
}

pub may_fail : (p q : Place) (m n a : ℕ) (v u : View) (e : Entry) → a ≡ m → (n ≡ m) × (q ≡ p) → Has p m v e → u ≡ after_unlock v → MayFail q n u a 0 e
may_fail p q m n a v u e me same has f = record {
  member = moved p q m n same has.member;
  target = moved p q m a (me, same.1) has.member;
  slot = omega arith;
  taken = ap (λ w. w.taken a 0) f ∙ (ap (λ k. v.taken k 0) me ∙ has.taken);
  flying = subst (λ (w : View). In e w.flying) (sym f) has.flying;
}

pub may_withdraw : (p q : Place) (m n a k : ℕ) (v u : View) (x : SlotWord) → a ≡ m → (n ≡ m) × (q ≡ p) → Leads p m v → state_of x ≡ states.Posted k → u ≡ after_find (loads.Slot a 0 x) v → MayWithdraw q n u 0
may_withdraw p q m n a k v u x me same lead posted e = record {
  member = moved p q m n same lead.member;
  slot = omega arith;
  holds = ap (λ w. w.holds) e ∙ lead.holds;
  seen = (k, subst (λ (b : ℕ). In (loads.Slot b 0 (words.Posted k)) u.looked) (me ∙ sym same.0) (subst (λ (w : SlotWord). In (loads.Slot a 0 w) u.looked) (posted_word x k posted) (seen_last v u a x e)));
}

failed_word : (x : SlotWord) → state_of x ≡ states.Failed → x ≡ words.Failed
failed_word words.Empty e = absurd (cc)
failed_word (words.Posted k) e = absurd (cc)
failed_word words.Taken e = absurd (cc)
failed_word (words.Done h) e = absurd (cc)
failed_word words.Failed e = refl

pub may_give_up : (p q : Place) (m n a : ℕ) (v u : View) (x : SlotWord) → a ≡ m → (n ≡ m) × (q ≡ p) → m < members p → state_of x ≡ states.Failed → u ≡ after_find (loads.Slot a 0 x) v → MayFinish q n u 0
may_give_up p q m n a v u x me same low failed e = record {
  member = moved p q m n same low;
  slot = omega arith;
  seen = inl (subst (λ (k : ℕ). In (loads.Slot k 0 words.Failed) u.looked) (me ∙ sym same.0) (subst (λ (w : SlotWord). In (loads.Slot a 0 w) u.looked) (failed_word x failed) (seen_last v u a x e)));
}

pub may_finish : (p q : Place) (m n a : ℕ) (v u : View) (x : SlotWord) → a ≡ m → (n ≡ m) × (q ≡ p) → m < members p → state_of x ≡ states.Done → u ≡ after_find (loads.Slot a 0 x) v → MayFinish q n u 0
may_finish p q m n a v u x me same low done e =
    let h = done_word x done in
    record {
      member = moved p q m n same low;
      slot = omega arith;
      seen = inr (h.0, subst (λ (k : ℕ). In (loads.Slot k 0 (words.Done h.0)) u.looked) (me ∙ sym same.0) (subst (λ (w : SlotWord). In (loads.Slot a 0 w) u.looked) h.1 (seen_last v u a x e)));
    }

abbrev small : Place
small = place_in 0 small_words

small_place : IsPlace small
small_place = record { layout = refl; group = omega arith }

small_blank : IsBlank small.layout (image_of small_words)
small_blank c j low less =
    let zero_at : (i : ℕ) → 6 ≤ i → image_of small_words i ≡ 0 = λ i h. get_or-eq_default small_words 0 {n = i} h in
    let at = chunk_first small.layout c j in
    ap (λ (n : ℕ). head_by small.layout n (image_of small_words (at + 1))) (zero_at at (omega arith)) ∙ refl

none_own : {X : Type 0} (b : Bool) (d : X) → cond b d d ≡ d
none_own true d = refl
none_own false d = refl

small_owner : owner small 1 ≡ 1
unfolding owner
small_owner = refl

fresh_post : MayPost fresh.place 1 (view_of fresh 1) 0 first_put []
fresh_post = record {
  member = omega arith;
  slot = omega arith;
  free = λ k e p. (let q : None ≡ Some (record { entry = e; slot = Some 0 }) = sym (none_own {X = Option Pending} (eqb (owner fresh.place k) 1) None) ∙ p in absurd (cc));
  home = refl;
  spelled = record { key = omega arith; fits = (omega arith, omega arith, omega arith, (omega arith, tt)) };
  own = small_owner;
  idle = none_own (eqb (owner fresh.place 1) 1) None;
  whole = refl;
  next = sym (ap (λ (x : ℕ). x + 1) (ap (λ (x : ℕ). of_own small 1 1 x 0) (no_last small small_place (image_of small_words) small_blank 1) ∙ none_own (eqb (owner small 1) 1) 0));
  live = λ t. absurd (cc);
  block = λ at t. absurd (cc);
}

pub may_post : (w : Group) (c : Change) → w ≡ fresh → c ≡ first_put → MayPost w.place 1 (view_of w 1) 0 c []
may_post w c e f = subst (λ (x : Change). MayPost w.place 1 (view_of w 1) 0 x []) (sym f) (subst (λ (g : Group). MayPost g.place 1 (view_of g 1) 0 first_put []) (sym e) fresh_post)

-- where a block of two units lies in the part of member 1
part_begins : first_unit small 1 ≡ 80
unfolding first_unit
part_begins = refl

part_ends : first_unit small 2 ≡ 144
unfolding first_unit
part_ends = refl

two_units : units 256 ≡ 2
unfolding units
two_units = refl

small_lies : LiesIn small 1 98 (units 256)
small_lies = let a = part_begins in let b = part_ends in let c = two_units in (omega (arith, a), omega (arith, b, c))

no_blocks : (q : ℕ) (b : Block) → (view_of fresh 1).blocks q ≡ Some b → ⊥
no_blocks q b is = (let none = no_block small small_place (image_of small_words) small_blank 1 q in absurd (cc (none, is)))

long_block : (value : List ℕ) → length value ≡ 256 → GetsBlock (length value) × IsClearIn small 1 (view_of fresh 1) 98 value
long_block value long = (
  (omega (arith, long), omega (arith, long)),
  (subst (λ (n : ℕ). LiesIn small 1 98 (units n)) (sym long) small_lies, λ q b is. absurd (no_blocks q b is)),
)

fresh_long : (value : List ℕ) → length value ≡ 256 → MayPost fresh.place 1 (view_of fresh 1) 0 long_put value
fresh_long value long = record {
  member = fresh_post.member;
  slot = fresh_post.slot;
  free = fresh_post.free;
  home = refl;
  spelled = record { key = omega arith; fits = (omega arith, omega arith, omega arith) };
  own = fresh_post.own;
  idle = fresh_post.idle;
  whole = fresh_post.whole;
  next = fresh_post.next;
  live = λ t. absurd (cc);
  block = λ at t. (let same : 98 ≡ at = cc t in subst (λ (a : ℕ). GetsBlock (length value) × IsClearIn small 1 (view_of fresh 1) a value) same (long_block value long));
}

pub may_post_long : (w : Group) (c : Change) (value : List ℕ) → w ≡ fresh → c ≡ long_put → length value ≡ 256 → MayPost w.place 1 (view_of w 1) 0 c value
may_post_long w c value e f long = subst (λ (x : Change). MayPost w.place 1 (view_of w 1) 0 x value) (sym f) (subst (λ (g : Group). MayPost g.place 1 (view_of g 1) 0 long_put value) (sym e) (fresh_long value long))

-- another member's try of the lock changes nothing of what this one may do
pub may_lock : (w u : Group) (h m : ℕ) → IsStep w h runs.Kind.Lock u → m ≢ h → MayLock w.place m (view_of w m) → MayLock u.place m (view_of u m)
may_lock w u h m step ne may = elim step.1 [
  | inl free ↦ subst (λ (g : Group). MayLock g.place m (view_of g m)) (sym free.1) (record {
    member = may.member;
    not_held = ap (λ b. cond b true (w.holds m)) (ne_eqb m h ne) ∙ may.not_held;
    gave_back = may.gave_back;
  })
  | inr held ↦ subst (λ (g : Group). MayLock g.place m (view_of g m)) (sym held.2) (record { member = may.member; not_held = may.not_held; gave_back = may.gave_back })
]
