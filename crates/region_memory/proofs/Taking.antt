-- One piece more is taken back.
use Rattle.std.proofs.Common.{◌≡◌, ◌⊎◌, inl, inr, ⊎_elim, ℕ, suc, ◌+◌, ◌-◌, ◌*◌, ◌≤◌, ◌<◌, ◌&&◌, Bool, true, List, [], ◌∷◌, ◌++◌, length, get_or, take, drop, sym, ◌∙◌, ap, subst, arith, length-append, take-append-drop, vec_capacity}
use Rattle.std.proofs.Math.Nat.{suc-mul}
use Rattle.std.proofs.lemmas.Bool.{cases_eq, cases_lt, and_parts}
use Rattle.std.proofs.lemmas.List.{get_or_default, get_or_push, get_or_append_left}
use Rattle.pm_region.specs.Cell.{Cell, certain}
use Rattle.region_memory.specs.Journals.{cell_after, IsComplete}
use Rattle.region_memory.specs.Histories.{Outside}
use Rattle.region_memory.specs.Moves.{cell_of, IsUpToDate, IsPart, Absorbs}
use Rattle.region_memory.specs.Join.{at, IsIn, Fits, Knows, HasTaken, AreParts, IsShort, Fill}
use Rattle.region_memory.specs.declared.history.History.{History}
use Rattle.region_memory.specs.declared.step.Step.{Step}
use Rattle.region_memory.proofs.Journals.{after_append}

-- a word is in the piece or outside
in_or_out : (h : History) (w : ℕ) → IsIn h w ⊎ Outside h.first (length h.words.items) w
in_or_out h w = ⊎_elim (λ lt. inr (inl lt)) (λ ge. ⊎_elim (λ lt. inl (record { low = ge; high = lt })) (λ past. inr (inr past)) (cases_lt w (h.first + length h.words.items))) (cases_lt w h.first)

module _ (mid new piece : History) (taken : Bool) (abs : Absorbs mid new piece taken) (is_taken : taken ≡ true) where
  complete : IsComplete piece.journal
  complete = abs.journal.complete is_taken

  -- the piece's steps since it began act on the cell
  on_top : (w : ℕ) → cell_of new w ≡ cell_after (drop piece.journal.base piece.journal.steps.items) w (cell_of mid w)
  on_top w =
      ap (λ (l : List Step). cell_after l w (certain (get_or new.start.items (w - new.first) 0))) (abs.journal.steps is_taken)
      ∙ ap (λ (s : List ℕ). cell_after (mid.journal.steps.items ++ drop piece.journal.base piece.journal.steps.items) w (certain (get_or s (w - new.first) 0))) abs.start
      ∙ ap (λ (f : ℕ). cell_after (mid.journal.steps.items ++ drop piece.journal.base piece.journal.steps.items) w (certain (get_or mid.start.items (w - f) 0))) abs.first
      ∙ after_append mid.journal.steps.items (drop piece.journal.base piece.journal.steps.items) w (certain (get_or mid.start.items (w - mid.first) 0))

  outside : (w : ℕ) → Outside piece.first (length piece.words.items) w → cell_of new w ≡ cell_of mid w
  outside w out = on_top w ∙ piece.inside w (cell_of mid w) out

  inside : (w : ℕ) → cell_after (take piece.journal.base piece.journal.steps.items) w (certain (get_or piece.start.items (w - piece.first) 0)) ≡ cell_of mid w → cell_of new w ≡ cell_of piece w
  inside w began =
      let c = certain (get_or piece.start.items (w - piece.first) 0) in
      on_top w ∙ ap (λ (d : Cell). cell_after (drop piece.journal.base piece.journal.steps.items) w d) (sym began)
      ∙ sym (after_append (take piece.journal.base piece.journal.steps.items) (drop piece.journal.base piece.journal.steps.items) w c)
      ∙ ap (λ (l : List Step). cell_after l w c) (take-append-drop piece.journal.base piece.journal.steps.items)

  -- the words of the piece are the last values there
  words_inside : mid.first ≤ piece.first → (k : ℕ) → IsIn piece (new.first + k) → cell_of new (new.first + k) ≡ cell_of piece (new.first + k)
      → get_or new.words.items k 0 ≡ (cell_of new (new.first + k)).last
  words_inside low k within same =
      let first = abs.first in
      let lo = within.low in let hi = within.high in
      let j = new.first + k - piece.first in
      let place : piece.first - mid.first + j ≡ k = omega arith in
      let here : piece.first + j ≡ new.first + k = omega arith in
      ap (λ (x : ℕ). get_or new.words.items x 0) (sym place) ∙ abs.inner j (omega arith) ∙ piece.matches complete j (omega arith)
      ∙ ap (λ (x : ℕ). (cell_after piece.journal.steps.items x (certain (get_or piece.start.items j 0))).last) here ∙ ap (λ (d : Cell). d.last) (sym same)

  words_outside : mid.first ≤ piece.first → IsUpToDate mid → (k : ℕ) → k < length new.words.items → Outside piece.first (length piece.words.items) (new.first + k)
      → get_or new.words.items k 0 ≡ (cell_of new (new.first + k)).last
  words_outside low up k lt out =
      let first = abs.first in
      let same_length = abs.same_length in
      let apart : (k < piece.first - mid.first) ⊎ (piece.first - mid.first + length piece.words.items ≤ k) = ⊎_elim (λ lo. inl (omega arith)) (λ hi. inr (omega arith)) out in
      let w : new.first + k ≡ mid.first + k = omega arith in
      abs.outer k apart ∙ up k (omega arith) ∙ ap (λ (x : ℕ). (cell_of mid x).last) (sym w) ∙ ap (λ (d : Cell). d.last) (sym (outside (new.first + k) out))

module _ {P : Type 0} (part : P → History) (old mid new : History) (pieces : List P) (i : ℕ) (within : i < length pieces) (fits : Fits part old pieces) (q : P) (taken : Bool)
    (abs : Absorbs mid new (at part pieces i q) taken) (is_taken : taken ≡ true) (first : mid.first ≡ old.first) (knows : Knows part old mid pieces i) where
  -- what holds of the piece at one default holds of it at any
  any : (Q : History → Type 0) (j : ℕ) (p : P) → j < length pieces → Q (at part pieces j q) → Q (at part pieces j p)
  any Q j p lt holds = subst Q (ap part (get_or_default pieces j q p lt)) holds

  before_i : (j w : ℕ) → j < i → IsIn (at part pieces j q) w → Outside (at part pieces i q).first (length (at part pieces i q).words.items) w
  before_i j w lt here = let hi = here.high in let apart = fits.apart j i q lt within in inl (omega arith)

  others_i : (w : ℕ) → IsIn (at part pieces i q) w → (j : ℕ) (p : P) → j < i → Outside (at part pieces j p).first (length (at part pieces j p).words.items) w
  others_i w here j p lt =
      let lo = here.low in let apart = fits.apart j i q lt within in
      any (λ (h : History). Outside h.first (length h.words.items) w) j p (omega arith) (inr (omega arith))

  low_i : mid.first ≤ (at part pieces i q).first
  low_i = let l = fits.low i q within in omega arith

  taken_i : (w : ℕ) → IsIn (at part pieces i q) w → cell_of new w ≡ cell_of (at part pieces i q) w
  taken_i w here = inside mid new (at part pieces i q) taken abs is_taken w (fits.began i q w within (complete mid new (at part pieces i q) taken abs is_taken) here ∙ sym (knows.others w (others_i w here)))

  up_to_date : IsUpToDate new
  up_to_date k lt = ⊎_elim
      (λ here. words_inside mid new (at part pieces i q) taken abs is_taken low_i k here (taken_i (new.first + k) here))
      (λ out. words_outside mid new (at part pieces i q) taken abs is_taken low_i knows.up_to_date k lt out)
      (in_or_out (at part pieces i q) (new.first + k))

  pub knows_more : Knows part old new pieces (i + 1)
  knows_more = record {
    complete = λ j p lt. any (λ (h : History). IsComplete h.journal) j p (omega arith) (⊎_elim
        (λ e. subst (λ (n : ℕ). IsComplete (at part pieces n q).journal) (sym e) (complete mid new (at part pieces i q) taken abs is_taken))
        (λ ne. knows.complete j q (omega arith)) (cases_eq j i));
    taken = λ j p w lt here. any (λ (h : History). IsIn h w → cell_of new w ≡ cell_of h w) j p (omega arith) (⊎_elim
        (λ e. subst (λ (n : ℕ). IsIn (at part pieces n q) w → cell_of new w ≡ cell_of (at part pieces n q) w) (sym e) (taken_i w))
        (λ ne. λ at_j. outside mid new (at part pieces i q) taken abs is_taken w (before_i j w (omega arith) at_j) ∙ knows.taken j q w (omega arith) at_j) (cases_eq j i)) here;
    others = λ w out. outside mid new (at part pieces i q) taken abs is_taken w (out i q (omega arith)) ∙ knows.others w (λ j p lt. out j p (omega arith));
    up_to_date = up_to_date;
  }

pub takes_more : {P : Type 0} (part : P → History) (old mid new : History) (pieces : List P) (i : ℕ) (q : P) (before soon taken now : Bool) → i < length pieces → Fits part old pieces
    → HasTaken part old mid pieces i before soon → Absorbs mid new (at part pieces i q) taken → now ≡ (taken && soon) → HasTaken part old new pieces (i + 1) before now
takes_more {P = P} part old mid new pieces i q before soon taken now within fits had abs is = record {
  first = abs.first ∙ had.first;
  start = abs.start ∙ had.start;
  same_length = abs.same_length ∙ had.same_length;
  since = abs.journal.since ∙ had.since;
  limit = abs.journal.limit ∙ had.limit;
  was = λ yes_now. had.was (both yes_now).1;
  knows = λ yes_now. knows_more part old mid new pieces i within fits q taken abs (both yes_now).0 had.first (had.knows (both yes_now).1);
  fits = λ most yes_before short room. all_fit most yes_before short room;
}
  where
    suc_times : (n k : ℕ) → (n + 1) * k ≡ n * k + k
    suc_times n k = let e : n + 1 ≡ suc n = omega arith in ap (λ (x : ℕ). x * k) e ∙ suc-mul n k

    and_true : (a b : Bool) → a ≡ true → b ≡ true → (a && b) ≡ true
    and_true a b x y = ap (λ (u : Bool). u && b) x ∙ y

    all_fit : (most : ℕ) → before ≡ true → IsShort part pieces (i + 1) most → length old.journal.steps.items + (i + 1) * most ≤ vec_capacity old.journal.steps → (now ≡ true) × Fill old new (i + 1) most
    all_fit most yes_before short room =
        let one_more : (i + 1) * most ≡ i * most + most = suc_times i most in
        let so_far = had.fits most yes_before (record { complete = λ j p lt. short.complete j p (omega arith); steps = λ j p lt. short.steps j p (omega arith) }) (omega arith) in
        let steps = so_far.1.steps in
        let capacity = so_far.1.capacity in
        let short_i = short.steps i q (omega arith) in
        let is_taken : taken ≡ true = abs.journal.fits (short.complete i q (omega arith)) (omega arith) in
        let grown = ap length (abs.journal.steps is_taken) ∙ length-append mid.journal.steps.items (drop (at part pieces i q).journal.base (at part pieces i q).journal.steps.items) in
        let wider = abs.journal.capacity in
        (is ∙ and_true taken soon is_taken so_far.0, record { steps = omega arith; capacity = omega arith })

    both : now ≡ true → (taken ≡ true) × (soon ≡ true)
    both yes_now = and_parts taken soon (sym is ∙ yes_now)

-- what holds of each of the first pieces, and of the next one, holds of each with it
pub each_more : {P : Type 0} (Q : ℕ → P → Type 0) (pieces pieces' : List P) (i : ℕ) (q : P) → length pieces ≡ i → pieces' ≡ pieces ++ q ∷ []
    → ((j : ℕ) (p : P) → j < i → Q j (get_or pieces j p)) → Q i q → (j : ℕ) (p : P) → j < i + 1 → Q j (get_or pieces' j p)
each_more {P = P} Q pieces pieces' i q count is each next j p lt = ⊎_elim (λ e. here e) (λ ne. there (omega arith)) (cases_eq j i)
  where
    here : j ≡ i → Q j (get_or pieces' j p)
    here e =
        let last : get_or pieces' i p ≡ q = ap (λ (l : List P). get_or l i p) is ∙ get_or_push pieces q p i count in
        subst (λ (n : ℕ). Q n (get_or pieces' n p)) (sym e) (subst (λ (s : P). Q i s) (sym last) next)

    there : j < i → Q j (get_or pieces' j p)
    there low =
        let same : get_or pieces' j p ≡ get_or pieces j p = ap (λ (l : List P). get_or l j p) is ∙ get_or_append_left pieces (q ∷ []) p j (omega arith) in
        subst (λ (s : P). Q j s) (sym same) (each j p low)

pub count_more : {P : Type 0} (pieces pieces' : List P) (i : ℕ) (q : P) → length pieces ≡ i → pieces' ≡ pieces ++ q ∷ [] → length pieces' ≡ i + 1
count_more pieces pieces' i q count is = ap length is ∙ (omega (arith, count, length-append pieces (q ∷ [])))

pub parts_more : {P : Type 0} (part : P → History) (h : History) (cuts : List ℕ) (pieces pieces' : List P) (i : ℕ) (q : P) → AreParts part h cuts pieces i → IsPart h (get_or cuts i 0) (get_or cuts (i + 1) 0) (part q)
    → pieces' ≡ pieces ++ q ∷ [] → AreParts part h cuts pieces' (i + 1)
parts_more part h cuts pieces pieces' i q parts is_part is = record {
  count = count_more pieces pieces' i q parts.count is;
  each = each_more (λ (j : ℕ) (s : _). IsPart h (get_or cuts j 0) (get_or cuts (j + 1) 0) (part s)) pieces pieces' i q parts.count is parts.each is_part;
}
