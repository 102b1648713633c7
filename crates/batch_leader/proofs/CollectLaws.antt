-- What a leader has after one step more of its round.
use Rattle.std.proofs.Common.{◌≡◌, ◌≢◌, inl, inr, ⊎_elim, ℕ, ◌+◌, ◌-◌, ◌*◌, ◌≤◌, ◌<◌, ◌==◌, ◌&&◌, ◌||◌, nat_le, nat_lt, Bool, true, false, cond, if◌then◌else◌, List, [], ◌∷◌, ◌++◌, length, Option, Some, None, refl, sym, ◌∙◌, ap, subst, arith, eqb, append-nil, append_assoc, length-append}
use Rattle.std.specs.List.{flat_map, AllByRecursion}
use Rattle.std.proofs.lemmas.Bool.{eqb-true, eq-eqb, and_parts, and_from, or_cases, leb-true}
use Rattle.std.proofs.lemmas.Bool.Decides.{nat_tests}
use Rattle.pm_region.specs.Words.{lines_for}
use Rattle.log_entry.specs.declared.entry.Entry.{Entry}
use Rattle.log_entry.specs.Spelling.{words_of, HasSpelling}
use Rattle.group_laws.specs.Places.{members}
use Rattle.store_image.specs.Facts.{In}
use Rattle.group_laws.specs.declared.types.Pending.{Pending}
use Rattle.group_laws.specs.MemberViews.{View}
use Rattle.group_laws.proofs.Clients.{In-append}
use Rattle.group_board.specs.Assurances.{IsUnlogged, LacksName}
use Rattle.group_board.specs.Views.{after_lock, after_take}
use Rattle.group_board.specs.Conditions.{MayLock}
use Rattle.group_board.specs.Seats.{SeatAt}
use Rattle.batch_leader.specs.declared.taken.Taken.{Taken}
use Rattle.batch_leader.specs.declared.changes.Changes.{Changes}
use Rattle.batch_leader.specs.declared.states.Collecting.{Collecting}
use Rattle.batch_leader.specs.TakenChanges.{spelled, entries_taken, taken_in, AreApart, IsTaken, HasOut}
use Rattle.core_log.specs.declared.types.Room.{Room}
use Rattle.batch_leader.specs.Rounds.{member_at, slot_at, round_end, own_lines, fits, stays_in, goes_fresh, words_taken, space, left_free, leaves_room, has_chunk}
use Rattle.batch_leader.specs.Leading.{IsFrom, IsNew, AreUnlogged, AreNamedApart, Collects, IsKept, LeavesRoom, HasSpace}

pub member_low : (m i n : ℕ) → m < n → i < 8 * n → member_at m i < n
unfolding member_at
member_low m i n lm li = grind (arith, nat_tests)

-- each position is of one slot
pub one_place : (m i k : ℕ) → member_at m i ≡ member_at m k → slot_at i ≡ slot_at k → i ≡ k
unfolding member_at
one_place m i k same at = grind (arith, nat_tests)

all_more : {X : Type 0} (P : X → Type 0) (xs : List X) (x : X) → AllByRecursion P xs → P x → AllByRecursion P (xs ++ x ∷ [])
all_more P [] x each here = (here, tt)
all_more P (y ∷ ys) x each here = (each.0, all_more P ys x each.1 here)

all_weaker : {X : Type 0} (P Q : X → Type 0) (xs : List X) → ((x : X) → P x → Q x) → AllByRecursion P xs → AllByRecursion Q xs
all_weaker P Q [] f each = tt
all_weaker P Q (x ∷ xs) f each = (f x each.0, all_weaker P Q xs f each.1)

-- the slot of a position that the round hasn't passed is none of those taken
none_there : (m at : ℕ) (ts : List Taken) → AllByRecursion (IsFrom m at) ts → taken_in ts (member_at m at) (slot_at at) ≡ None
none_there m at [] from = refl
none_there m at (t ∷ ts) from = by_test (none_there m at ts from.1) (t.member == member_at m at && t.slot == slot_at at) refl where
  by_test : taken_in ts (member_at m at) (slot_at at) ≡ None → (b : Bool) → (t.member == member_at m at && t.slot == slot_at at) ≡ b → cond b (Some t.change.entry) (taken_in ts (member_at m at) (slot_at at)) ≡ None
  by_test rest false e = rest
  by_test rest true e =
      let both = and_parts (t.member == member_at m at) (t.slot == slot_at at) e in
      let at_i = from.0 in
      let same : at_i.0 ≡ at = one_place m at_i.0 at (sym at_i.2 ∙ eqb-true t.member (member_at m at) both.0) (sym at_i.3 ∙ eqb-true t.slot (slot_at at) both.1) in
      let less = at_i.1 in
      absurd (omega (arith, same, less))

taken_more : (ts : List Taken) (t : Taken) (a s : ℕ) → taken_in ts t.member t.slot ≡ None → taken_in (ts ++ t ∷ []) a s ≡ cond (eqb a t.member && eqb s t.slot) (Some t.change.entry) (taken_in ts a s)
taken_more [] t a s none = swap (t.member == a && t.slot == s) (eqb a t.member && eqb s t.slot) refl refl where
  swap : (b d : Bool) → (t.member == a && t.slot == s) ≡ b → (eqb a t.member && eqb s t.slot) ≡ d → cond b (Some t.change.entry) None ≡ cond d (Some t.change.entry) None
  swap true true e f = refl
  swap false false e f = refl
  swap true false e f =
      let both = and_parts (t.member == a) (t.slot == s) e in
      let yes = and_from (eqb a t.member) (eqb s t.slot) (eq-eqb a t.member (sym (eqb-true t.member a both.0))) (eq-eqb s t.slot (sym (eqb-true t.slot s both.1))) in absurd (cc (sym yes ∙ f))
  swap false true e f =
      let both = and_parts (eqb a t.member) (eqb s t.slot) f in
      let yes = and_from (t.member == a) (t.slot == s) (eq-eqb t.member a (sym (eqb-true a t.member both.0))) (eq-eqb t.slot s (sym (eqb-true s t.slot both.1))) in absurd (cc (sym yes ∙ e))
taken_more (x ∷ xs) t a s none = by_first (λ n. taken_more xs t a s n) (x.member == t.member && x.slot == t.slot) refl none where
  other : (x.member == t.member && x.slot == t.slot) ≡ false → (x.member == a && x.slot == s) ≡ true → (f : Bool) → (eqb a t.member && eqb s t.slot) ≡ f → Some x.change.entry ≡ cond f (Some t.change.entry) (Some x.change.entry)
  other e h false g = refl
  other e h true g =
      let here = and_parts (x.member == a) (x.slot == s) h in
      let there = and_parts (eqb a t.member) (eqb s t.slot) g in
      let yes = and_from (x.member == t.member) (x.slot == t.slot) (eq-eqb x.member t.member (eqb-true x.member a here.0 ∙ eqb-true a t.member there.0)) (eq-eqb x.slot t.slot (eqb-true x.slot s here.1 ∙ eqb-true s t.slot there.1)) in
      absurd (cc (sym yes ∙ e))

  by_here : (taken_in xs t.member t.slot ≡ None → taken_in (xs ++ t ∷ []) a s ≡ cond (eqb a t.member && eqb s t.slot) (Some t.change.entry) (taken_in xs a s)) → taken_in xs t.member t.slot ≡ None → (x.member == t.member && x.slot == t.slot) ≡ false → (d : Bool) → (x.member == a && x.slot == s) ≡ d → cond d (Some x.change.entry) (taken_in (xs ++ t ∷ []) a s) ≡ cond (eqb a t.member && eqb s t.slot) (Some t.change.entry) (cond d (Some x.change.entry) (taken_in xs a s))
  by_here rest n e false h = rest n
  by_here rest n e true h = other e h (eqb a t.member && eqb s t.slot) refl

  by_first : (taken_in xs t.member t.slot ≡ None → taken_in (xs ++ t ∷ []) a s ≡ cond (eqb a t.member && eqb s t.slot) (Some t.change.entry) (taken_in xs a s)) → (b : Bool) → (x.member == t.member && x.slot == t.slot) ≡ b → cond b (Some x.change.entry) (taken_in xs t.member t.slot) ≡ None → taken_in (x ∷ (xs ++ t ∷ [])) a s ≡ cond (eqb a t.member && eqb s t.slot) (Some t.change.entry) (taken_in (x ∷ xs) a s)
  by_first rest true e n = absurd (cc n)
  by_first rest false e n = by_here rest n e (x.member == a && x.slot == s) refl

apart_more : (ts : List Taken) (t : Taken) → AreApart ts → taken_in ts t.member t.slot ≡ None → AreApart (ts ++ t ∷ [])
apart_more [] t apart none = (refl, tt)
apart_more (x ∷ xs) t apart none = by_first (λ n. apart_more xs t apart.1 n) (x.member == t.member && x.slot == t.slot) refl none where
  not_it : (f : Bool) → f ≡ false → cond f (Some t.change.entry) (taken_in xs x.member x.slot) ≡ taken_in xs x.member x.slot
  not_it true g = absurd (cc g)
  not_it false g = refl

  by_first : (taken_in xs t.member t.slot ≡ None → AreApart (xs ++ t ∷ [])) → (b : Bool) → (x.member == t.member && x.slot == t.slot) ≡ b → cond b (Some x.change.entry) (taken_in xs t.member t.slot) ≡ None → AreApart (x ∷ (xs ++ t ∷ []))
  by_first rest true e n = absurd (cc n)
  by_first rest false e n = (taken_more xs t x.member x.slot n ∙ not_it (eqb x.member t.member && eqb x.slot t.slot) e ∙ apart.0, rest n)

entries_more : (ts : List Taken) (t : Taken) → entries_taken (ts ++ t ∷ []) ≡ entries_taken ts ++ t.change.entry ∷ []
entries_more [] t = refl
entries_more (x ∷ xs) t = ap (λ (es : List Entry). x.change.entry ∷ es) (entries_more xs t)

words_more : (es : List Entry) (e : Entry) → flat_map words_of (es ++ e ∷ []) ≡ flat_map words_of es ++ words_of e
words_more [] e = append-nil (words_of e)
words_more (x ∷ xs) e = ap (λ (ws : List ℕ). words_of x ++ ws) (words_more xs e) ∙ sym (append_assoc (words_of x) (flat_map words_of xs) (words_of e))

pub spelled_more : (ts : List Taken) (t : Taken) → spelled (ts ++ t ∷ []) ≡ spelled ts ++ words_of t.change.entry
spelled_more ts t = ap (flat_map words_of) (entries_more ts t) ∙ words_more (entries_taken ts) t.change.entry

abbrev own_of : ℕ → Taken → ℕ
own_of m t = if t.member == m then lines_for (length (words_of t.change.entry)) else 0

lines_more : (m : ℕ) (ts : List Taken) (t : Taken) → own_lines m (ts ++ t ∷ []) ≡ own_lines m ts + own_of m t
unfolding own_lines
lines_more m [] t = omega arith
lines_more m (x ∷ xs) t = let rest = lines_more m xs t in omega (arith, rest)

pub own_none : (m : ℕ) (ts : List Taken) → ts ≡ [] → own_lines m ts ≡ 0
unfolding own_lines
own_none m ts e = ap (own_lines m) e

-- what isn't in the own log yet, where neither what is pending nor the log differs
pub unlogged_by : (m : ℕ) (v u : View) (ts : List Taken) → u.pending ≡ v.pending → u.kept ≡ v.kept → AreUnlogged m v ts → AreUnlogged m u ts
unlogged_by m v u ts pending kept each = all_weaker (λ t. IsNew m t.member t.slot v t.change.entry) (λ t. IsNew m t.member t.slot u t.change.entry) ts
    (λ t is. record {
      new = subst (λ (es : List Entry). LacksName es t.change.entry) (sym kept) is.new;
      own = λ mine. ap (λ (f : ℕ → Option Pending). f t.change.entry.key) pending ∙ is.own mine;
    })
    each

-- with an entry more, whose name none of them has
named_more : (es : List Entry) (e : Entry) → AreNamedApart es → LacksName es e → AreNamedApart (es ++ e ∷ [])
named_more [] e all lacks = (λ f i. absurd i, tt)
named_more (x ∷ xs) e all lacks = (
  λ f i key version. ⊎_elim
      (λ there. all.0 f there key version)
      (λ j. ⊎_elim
      (λ is. lacks x (inl refl) (sym key ∙ ap (λ (y : Entry). y.key) is) (sym version ∙ ap (λ (y : Entry). y.version) is))
      (λ none. absurd none)
      j)
      (In-append f xs (e ∷ []) i),
  named_more xs e all.1 (λ f i. lacks f (inr i)),
)

-- the leader after it took a change
module _ (seat : SeatAt) (v u : View) (old new : Collecting) (t : Taken) (C : Collects seat v old) (whole : v.broken ≡ false) (few : length old.changes.taken.items < 64) (within : old.at < round_end seat.place)
    (items : new.changes.taken.items ≡ old.changes.taken.items ++ t ∷ []) (at : new.at ≡ old.at + 1)
    (own : new.own_lines ≡ old.own_lines + own_of seat.number t) (short : length (words_of t.change.entry) ≤ 34)
    (member : t.member ≡ member_at seat.number old.at) (slot : t.slot ≡ slot_at old.at) (spelled : HasSpelling t.change.entry)
    (unlogged : IsUnlogged seat.number t.member t.slot v t.change.entry) (view : u ≡ after_take t.member t.slot t.change.entry v) where
  abbrev ts : List Taken
  ts = old.changes.taken.items

  none : taken_in ts t.member t.slot ≡ None
  none = (λ i. taken_in ts (member i) (slot i)) ∙ none_there seat.number old.at ts C.passed

  own_short : own_of seat.number t ≤ 5
  own_short = by_test (t.member == seat.number) where
    by_test : (b : Bool) → cond b (lines_for (length (words_of t.change.entry))) 0 ≤ 5
    by_test true = omega (arith, short)
    by_test false = omega arith

  longer : length (ts ++ t ∷ []) ≡ length ts + 1
  longer = length-append ts (t ∷ [])

  pub out_more : HasOut seat.place u new.changes.taken.items
  out_more = subst (HasOut seat.place u) (sym items) (record {
    each = all_more (IsTaken seat.place) ts t C.out.each (record {
      member = subst (λ (a : ℕ). a < members seat.place) (sym member) (member_low seat.number old.at (members seat.place) C.member within);
      slot = omega (arith, slot);
      spelled = spelled;
    });
    taken = λ a s. ap (λ (w : View). w.taken a s) view ∙ ap (λ (o : Option Entry). cond (eqb a t.member && eqb s t.slot) (Some t.change.entry) o) (C.out.taken a s) ∙ sym (taken_more ts t a s none);
    apart = apart_more ts t C.out.apart none;
  })

  pub collects_more : Collects seat u new
  collects_more = record {
    member = C.member;
    holds = ap (λ (w : View). w.holds) view ∙ C.holds;
    out = out_more;
    flying = λ b. ap (λ (w : View). w.flying) view ∙ ap (λ (es : List Entry). es ++ t.change.entry ∷ []) (C.flying whole) ∙ sym (entries_more ts t) ∙ ap entries_taken (sym items);
    broken = λ b. let both : true ≡ false = sym b ∙ ap (λ (w : View). w.broken) view ∙ whole in absurd (cc both);
    passed = subst (AllByRecursion (IsFrom seat.number new.at)) (sym items) (all_more (IsFrom seat.number new.at) ts t
        (all_weaker (IsFrom seat.number old.at) (IsFrom seat.number new.at) ts (λ x from. (from.0, (let lt = from.1 in omega (arith, lt, at)), from.2, from.3)) C.passed)
        (old.at, omega (arith, at), member, slot));
    within = omega (arith, at, within);
    own = own ∙ ap (λ (n : ℕ). n + own_of seat.number t) C.own ∙ sym (lines_more seat.number ts t) ∙ ap (own_lines seat.number) (sym items);
    own_few = (let n : length new.changes.taken.items ≡ length (ts ++ t ∷ []) = ap length items in let l = longer in let a = C.own_few in let b = own_short in omega (arith, n, l, a, b, own));
    unlogged = subst (AreUnlogged seat.number u) (sym items) (unlogged_by seat.number v u (ts ++ t ∷ []) (ap (λ (w : View). w.pending) view) (ap (λ (w : View). w.kept) view)
        (all_more (λ x. IsNew seat.number x.member x.slot v x.change.entry) ts t C.unlogged (record { new = unlogged.new; own = unlogged.own })));
    named = subst (λ (es : List Entry). AreNamedApart es) (sym (entries_more ts t) ∙ ap entries_taken (sym items))
        (named_more (entries_taken ts) t.change.entry C.named (subst (λ (es : List Entry). LacksName es t.change.entry) (C.flying whole) unlogged.alone));
  }

-- and after it passed a slot
pub collects_past : (seat : SeatAt) (v u : View) (old new : Collecting) → Collects seat v old → old.at < round_end seat.place → new.changes ≡ old.changes → new.own_lines ≡ old.own_lines → new.at ≡ old.at + 1
    → u.taken ≡ v.taken → u.holds ≡ v.holds → u.flying ≡ v.flying → u.broken ≡ v.broken → u.pending ≡ v.pending → u.kept ≡ v.kept → Collects seat u new
collects_past seat v u old new C within changes own at taken holds flying broken pending kept =
    let items : new.changes.taken.items ≡ old.changes.taken.items = ap (λ (b : Changes). b.taken.items) changes in
    record {
      member = C.member;
      holds = holds ∙ C.holds;
      out = subst (HasOut seat.place u) (sym items) (record { each = C.out.each; taken = λ a s. ap (λ (f : ℕ → ℕ → Option Entry). f a s) taken ∙ C.out.taken a s; apart = C.out.apart });
      flying = λ b. flying ∙ C.flying (sym broken ∙ b) ∙ ap entries_taken (sym items);
      broken = λ b. items ∙ C.broken (sym broken ∙ b);
      passed = subst (AllByRecursion (IsFrom seat.number new.at)) (sym items)
          (all_weaker (IsFrom seat.number old.at) (IsFrom seat.number new.at) old.changes.taken.items (λ x from. (from.0, (let lt = from.1 in omega (arith, lt, at)), from.2, from.3)) C.passed);
      within = omega (arith, at, within);
      own = own ∙ C.own ∙ ap (own_lines seat.number) (sym items);
      own_few = (let n : length new.changes.taken.items ≡ length old.changes.taken.items = ap length items in let a = C.own_few in omega (arith, n, a, own));
      unlogged = subst (AreUnlogged seat.number u) (sym items) (unlogged_by seat.number v u old.changes.taken.items pending kept C.unlogged);
      named = subst (λ (ts : List Taken). AreNamedApart (entries_taken ts)) (sym items) C.named;
    }

-- and after something that doesn't concern what it took
pub collects_still : (seat : SeatAt) (v u : View) (old new : Collecting) → Collects seat v old → new.changes ≡ old.changes → new.own_lines ≡ old.own_lines → new.at ≡ old.at
    → u.taken ≡ v.taken → u.holds ≡ v.holds → u.flying ≡ v.flying → u.broken ≡ v.broken → u.pending ≡ v.pending → u.kept ≡ v.kept → Collects seat u new
collects_still seat v u old new C changes own at taken holds flying broken pending kept =
    let items : new.changes.taken.items ≡ old.changes.taken.items = ap (λ (b : Changes). b.taken.items) changes in
    record {
      member = C.member;
      holds = holds ∙ C.holds;
      out = subst (HasOut seat.place u) (sym items) (record { each = C.out.each; taken = λ a s. ap (λ (f : ℕ → ℕ → Option Entry). f a s) taken ∙ C.out.taken a s; apart = C.out.apart });
      flying = λ b. flying ∙ C.flying (sym broken ∙ b) ∙ ap entries_taken (sym items);
      broken = λ b. items ∙ C.broken (sym broken ∙ b);
      passed = subst (λ (n : ℕ). AllByRecursion (IsFrom seat.number n) new.changes.taken.items) (sym at) (subst (AllByRecursion (IsFrom seat.number old.at)) (sym items) C.passed);
      within = (let low = C.within in omega (arith, at, low));
      own = own ∙ C.own ∙ ap (own_lines seat.number) (sym items);
      own_few = (let n : length new.changes.taken.items ≡ length old.changes.taken.items = ap length items in let a = C.own_few in omega (arith, n, a, own));
      unlogged = subst (AreUnlogged seat.number u) (sym items) (unlogged_by seat.number v u old.changes.taken.items pending kept C.unlogged);
      named = subst (λ (ts : List Taken). AreNamedApart (entries_taken ts)) (sym items) C.named;
    }

-- at the beginning
pub collects_first : (seat : SeatAt) (v u : View) (c : Collecting) → MayLock seat.place seat.number v → c.changes.taken.items ≡ [] → (v.broken ≡ false → v.flying ≡ []) → c.at ≡ 0 → c.own_lines ≡ 0 → u ≡ after_lock v → Collects seat u c
unfolding own_lines
collects_first seat v u c may items landed at own view =
    record {
      member = may.member;
      holds = ap (λ (w : View). w.holds) view;
      out = subst (HasOut seat.place u) (sym items) (record { each = tt; taken = λ a s. ap (λ (w : View). w.taken a s) view ∙ may.gave_back a s; apart = tt });
      flying = λ b. ap (λ (w : View). w.flying) view ∙ landed (sym (ap (λ (w : View). w.broken) view) ∙ b) ∙ ap entries_taken (sym items);
      broken = λ b. items;
      passed = subst (AllByRecursion (IsFrom seat.number c.at)) (sym items) tt;
      within = omega (arith, at);
      own = own ∙ ap (own_lines seat.number) (sym items);
      own_few = omega (arith, own);
      unlogged = subst (AreUnlogged seat.number u) (sym items) tt;
      named = subst (λ (ts : List Taken). AreNamedApart (entries_taken ts)) (sym items) tt;
    }

-- An entry that fits has room in the chunk that the batch is for.
by_case : (room : Room) (lines_now : ℕ) (b : Bool) → nat_lt room.open_lines lines_now ≡ b → lines_now ≤ 5 → 5 ≤ room.payload_lines → lines_now ≤ space room b
by_case room n true t few payload = omega (arith, few, payload)
by_case room n false t few payload = grind (arith, nat_tests)

suits_of : (room : Room) (ts : List Taken) (fresh : Bool) (n : ℕ) → 5 ≤ room.payload_lines → n ≤ 34 → stays_in room ts (goes_fresh room ts fresh n) n ≡ true → lines_for (words_taken ts + n) ≤ space room (goes_fresh room ts fresh n)
unfolding stays_in goes_fresh
suits_of room [] fresh n payload short e =
    let zero_more : words_taken [] + n ≡ n = omega arith in
    subst (λ (k : ℕ). lines_for k ≤ space room (nat_lt room.open_lines (lines_for n))) (sym zero_more) (by_case room (lines_for n) (nat_lt room.open_lines (lines_for n)) refl (omega (arith, short)) payload)
suits_of room (t ∷ ts) fresh n payload short e = leb-true (lines_for (words_taken (t ∷ ts) + n)) (space room fresh) e

chunk_of : (room : Room) (f : Bool) → has_chunk room f ≡ true → f ≡ true → 0 < room.free_chunks
chunk_of room true e h = grind (arith, nat_tests)
chunk_of room false e h = absurd (cc h)

-- what an own entry adds to the lines of own ones
abbrev pub more_own : Bool → ℕ → ℕ
more_own mine n = if mine then lines_for n else 0

-- An entry that fits leaves the room rule kept for what is pledged to others, where it was kept without it.
first_leaves : (room : Room) (n : ℕ) (b : Bool) → nat_lt room.open_lines (lines_for n) ≡ b → IsKept room → LeavesRoom room b (lines_for n) n
first_leaves room n true t kept = let f = kept.fresh in inl (omega (arith, f))
first_leaves room n false t kept = ⊎_elim (λ r. inl (omega (arith, r))) (λ f. inr f) kept.rule

next_leaves : (room : Room) (lines words n : ℕ) (b : Bool) → LeavesRoom room b lines words → LeavesRoom room b (lines + lines_for n) (words + n)
next_leaves room lines words n b left = ⊎_elim (λ r. inl (omega (arith, r))) (λ f. inr f) left

other_leaves : (room : Room) (lines : ℕ) (ts : List Taken) (b : Bool) (n : ℕ) → leaves_room room lines ts b n ≡ true → LeavesRoom room b (lines + 0) (words_taken ts + n)
unfolding leaves_room
other_leaves room lines ts b n e = ⊎_elim
    (λ r. (let le = leb-true (room.pledged_lines - lines) (space room b - lines_for (words_taken ts + n)) r in inl (omega (arith, le))))
    (λ f. inr (leb-true 2 (left_free room b) f))
    (or_cases (nat_le (room.pledged_lines - lines) (space room b - lines_for (words_taken ts + n))) (nat_le 2 (left_free room b)) e)

own_leaves : (room : Room) (lines : ℕ) (ts : List Taken) (fresh : Bool) (n : ℕ) → (ts ≡ [] → lines ≡ 0) → (ts ≢ [] → LeavesRoom room fresh lines (words_taken ts)) → IsKept room
    → LeavesRoom room (goes_fresh room ts fresh n) (lines + lines_for n) (words_taken ts + n)
unfolding goes_fresh
own_leaves room lines [] fresh n none left kept =
    let zero_lines : lines ≡ 0 = none refl in
    let same : lines + lines_for n ≡ lines_for n = omega (arith, zero_lines) in
    let words : words_taken [] + n ≡ n = omega arith in
    subst (λ (x : ℕ). LeavesRoom room (nat_lt room.open_lines (lines_for n)) x (words_taken [] + n)) (sym same)
    (subst (λ (x : ℕ). LeavesRoom room (nat_lt room.open_lines (lines_for n)) (lines_for n) x) (sym words) (first_leaves room n (nat_lt room.open_lines (lines_for n)) refl kept))
own_leaves room lines (t ∷ ts) fresh n none left kept = next_leaves room lines (words_taken (t ∷ ts)) n fresh (left (λ e. cc e))

by_mine : (room : Room) (lines : ℕ) (ts : List Taken) (fresh mine : Bool) (n : ℕ) → (mine || leaves_room room lines ts (goes_fresh room ts fresh n) n) ≡ true → (ts ≡ [] → lines ≡ 0) → (ts ≢ [] → LeavesRoom room fresh lines (words_taken ts)) → IsKept room
    → LeavesRoom room (goes_fresh room ts fresh n) (lines + more_own mine n) (words_taken ts + n)
by_mine room lines ts fresh true n e none left kept = own_leaves room lines ts fresh n none left kept
by_mine room lines ts fresh false n e none left kept = other_leaves room lines ts (goes_fresh room ts fresh n) n e

pub fits_suits : (room : Room) (lines : ℕ) (ts : List Taken) (fresh mine : Bool) (n : ℕ) → 5 ≤ room.payload_lines → n ≤ 34 → (ts ≡ [] → lines ≡ 0) → (ts ≢ [] → HasSpace room fresh lines (words_taken ts)) → fits room lines ts fresh mine n ≡ true
    → HasSpace room (goes_fresh room ts fresh n) (lines + more_own mine n) (words_taken ts + n)
unfolding fits
fits_suits room lines ts fresh mine n payload short none had e =
    let stays = and_parts (stays_in room ts (goes_fresh room ts fresh n) n) _ (and_parts (nat_le n 34) _ e).1 in
    let chunk = and_parts (has_chunk room (goes_fresh room ts fresh n)) _ stays.1 in (
      suits_of room ts fresh n payload short stays.0,
      chunk_of room (goes_fresh room ts fresh n) chunk.0,
      λ kept. by_mine room lines ts fresh mine n chunk.1 none (λ some. (had some).2 kept) kept,
    )
