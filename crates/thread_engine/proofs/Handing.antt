-- The replies that an outlet is handed, window by window, by the answers that are kept.
use Rattle.std.proofs.Common.{◌≡◌, ℕ, zero, suc, ◌+◌, ◌-◌, ◌<◌, ◌≤◌, List, [], ◌∷◌, ◌++◌, length, map, take, drop, inl, inr, Bool, true, false, Option, Some, None, refl, sym, ◌∙◌, ap, subst, append-nil, append_assoc, arith}
use Rattle.std.specs.Prelude.{slice_set}
use Rattle.std.specs.List.{AllByRecursion}
use Rattle.std.proofs.lemmas.List.{take-append-drop, take-take, drop-take, length-take-le, length-drop}
use Rattle.fs_model.specs.declared.model.Reply.{Reply}
use Rattle.pm_region.specs.State.{State}
use Rattle.pm_region.specs.Split.{Stays}
use Rattle.store_image.specs.Facts.{In}
use Rattle.core_worker.specs.declared.types.Answer.{Answer}
use Rattle.answer_queue.specs.declared.window_sizes.TheConstants.{WINDOW}
use Rattle.engine_core.specs.declared.types.Stamped.{Stamped}
use Rattle.engine_core.specs.Answers.{stored}
use Rattle.engine_core.specs.Reports.{reply_in}
use Rattle.thread_engine.specs.Collected.{AreBlank, blanks, with_stamp, restamped, end_by, had_memory}
use Rattle.thread_engine.specs.Outlets.{IsAsked, all_replies, TakesAll}
use Rattle.thread_engine.specs.RanApart.{stamped}
use Rattle.thread_engine.specs.Takings.{TakenAs, TakenIn, numbered_from}
use Rattle.thread_engine.proofs.Places.{map_long}

-- a window more
pub all_more : (ws : List (List Reply)) (w : List Reply) → all_replies (ws ++ w ∷ []) ≡ all_replies ws ++ w
all_more [] w = append-nil w
all_more (x ∷ ws) w = ap (λ r. x ++ r) (all_more ws w) ∙ sym (append_assoc x (all_replies ws) w)

pub full_more : (ws : List (List Reply)) (w : List Reply) → AllByRecursion (λ v. length v ≡ WINDOW) ws → length w ≡ WINDOW → AllByRecursion (λ v. length v ≡ WINDOW) (ws ++ w ∷ [])
full_more [] w a e = (e, tt)
full_more (x ∷ ws) w a e = (a.0, full_more ws w a.1 e)

pub takes_more : {T : Type 0} (takes : State → T → List Reply → Bool → State → T → Type 0) (ws : List (List Reply)) (w : List Reply) (s : State) (a : T) (t : State) (b : T) (u : State) (d : T)
    → TakesAll takes ws s a t b → takes t b w true u d → TakesAll takes (ws ++ w ∷ []) s a u d
takes_more takes [] w s a t b u d all one = (u, d, subst (λ z. takes z a w true u d) all.0 (subst (λ z. takes t z w true u d) all.1 one), (refl, refl))
takes_more takes (x ∷ ws) w s a t b u d all one = (all.0, all.1, all.2, takes_more takes ws w all.0 all.1 t b u d all.3 one)

-- the region is asked again, or not at all
pub unasked : (s : State) → IsAsked s s
unasked s = record { stays = same; opens = refl; refusals = refl; later = omega arith } where
  same : Stays s s
  same = record { first = refl; words = refl; since = refl; bytes = refl; parted = refl; cuts = refl; stamp = refl; told = λ t. refl; cells = λ t w. refl }

pub asked_again : (s t u : State) → IsAsked s t → IsAsked t u → IsAsked s u
asked_again s t u A B = record {
  stays = record {
    first = B.stays.first ∙ A.stays.first;
    words = B.stays.words ∙ A.stays.words;
    since = B.stays.since ∙ A.stays.since;
    bytes = B.stays.bytes ∙ A.stays.bytes;
    parted = B.stays.parted ∙ A.stays.parted;
    cuts = B.stays.cuts ∙ A.stays.cuts;
    stamp = B.stays.stamp ∙ A.stays.stamp;
    told = λ n. B.stays.told n ∙ A.stays.told n;
    cells = λ n w. B.stays.cells n w ∙ A.stays.cells n w;
  };
  opens = B.opens ∙ A.opens;
  refusals = B.refusals ∙ A.refusals;
  later = (let a = A.later in let b = B.later in omega (arith, a, b));
}

-- the answers of a window: those before it are as they were
set_past : (ys : List (Option Stamped)) (n i : ℕ) (x : Option Stamped) → n ≤ i → take n (slice_set ys i x) ≡ take n ys
set_past ys zero i x low = refl
set_past [] (suc n) i x low = refl
set_past (y ∷ ys) (suc n) zero x low = absurd (omega (arith, low))
set_past (y ∷ ys) (suc n) (suc i) x low = ap (λ l. y ∷ l) (set_past ys n i x (omega (arith, low)))

stored_past : (xs : List Answer) (t n : ℕ) (ys : List (Option Stamped)) → ((a : Answer) → In a xs → n ≤ a.number) → take n (stored xs t ys) ≡ take n ys
stored_past [] t n ys high = refl
stored_past (x ∷ xs) t n ys high = stored_past xs t n (slice_set ys x.number (Some (stamped t x))) (λ a i. high a (inr i)) ∙ set_past ys n x.number (Some (stamped t x)) (high x (inl refl))

-- and the first places alone
set_front : (ys : List (Option Stamped)) (n i : ℕ) (x : Option Stamped) → i < n → take n (slice_set ys i x) ≡ slice_set (take n ys) i x
set_front ys zero i x low = absurd (omega (arith, low))
set_front [] (suc n) i x low = refl
set_front (y ∷ ys) (suc n) zero x low = refl
set_front (y ∷ ys) (suc n) (suc i) x low = ap (λ l. y ∷ l) (set_front ys n i x (omega (arith, low)))

stored_front : (xs : List Answer) (t n : ℕ) (ys : List (Option Stamped)) → ((a : Answer) → In a xs → a.number < n) → take n (stored xs t ys) ≡ stored xs t (take n ys)
stored_front [] t n ys low = refl
stored_front (x ∷ xs) t n ys low = stored_front xs t n (slice_set ys x.number (Some (stamped t x))) (λ a i. low a (inr i)) ∙ ap (stored xs t) (set_front ys n x.number (Some (stamped t x)) (low x (inl refl)))

-- the places behind a number
set_behind : (ys : List (Option Stamped)) (n i : ℕ) (x : Option Stamped) → i < n → drop n (slice_set ys i x) ≡ drop n ys
set_behind ys zero i x low = absurd (omega (arith, low))
set_behind [] (suc n) i x low = refl
set_behind (y ∷ ys) (suc n) zero x low = refl
set_behind (y ∷ ys) (suc n) (suc i) x low = set_behind ys n i x (omega (arith, low))

stored_behind : (xs : List Answer) (t n : ℕ) (ys : List (Option Stamped)) → ((a : Answer) → In a xs → a.number < n) → drop n (stored xs t ys) ≡ drop n ys
stored_behind [] t n ys low = refl
stored_behind (x ∷ xs) t n ys low = stored_behind xs t n (slice_set ys x.number (Some (stamped t x))) (λ a i. low a (inr i)) ∙ set_behind ys n x.number (Some (stamped t x)) (low x (inl refl))

set_drop : (ys : List (Option Stamped)) (n i : ℕ) (x : Option Stamped) → n ≤ i → drop n (slice_set ys i x) ≡ slice_set (drop n ys) (i - n) x
set_drop ys zero i x low = (let z : i ≡ i - 0 = omega arith in ap (λ j. slice_set ys j x) z)
set_drop [] (suc n) i x low = refl
set_drop (y ∷ ys) (suc n) zero x low = absurd (omega (arith, low))
set_drop (y ∷ ys) (suc n) (suc i) x low = (let z : i - n ≡ suc i - suc n = omega arith in set_drop ys n i x (omega (arith, low)) ∙ ap (λ j. slice_set (drop n ys) j x) z)

stored_drop : (xs : List Answer) (t n : ℕ) (ys : List (Option Stamped)) → ((a : Answer) → In a xs → n ≤ a.number) → drop n (stored xs t ys) ≡ stored (map (numbered_from n) xs) t (drop n ys)
stored_drop [] t n ys high = refl
stored_drop (x ∷ xs) t n ys high = stored_drop xs t n (slice_set ys x.number (Some (stamped t x))) (λ a i. high a (inr i)) ∙ ap (stored (map (numbered_from n) xs) t) (set_drop ys n x.number (Some (stamped t x)) (high x (inl refl)))

in_numbered : (n : ℕ) (xs : List Answer) (y : Answer) → In y (map (numbered_from n) xs) → (a : Answer) × In a xs × (y ≡ numbered_from n a)
in_numbered n [] y i = absurd i
in_numbered n (x ∷ xs) y (inl e) = (x, inl refl, e)
in_numbered n (x ∷ xs) y (inr i) = (let r = in_numbered n xs y i in (r.0, inr r.1, r.2))

-- places in which nothing is answered
pub blanks_long : (n : ℕ) → length (blanks n) ≡ n
blanks_long zero = refl
blanks_long (suc n) = ap suc (blanks_long n)

pub are_blank : (n : ℕ) → AreBlank (blanks n)
are_blank zero = tt
are_blank (suc n) = (refl, are_blank n)

pub take_blanks : (n m : ℕ) → n ≤ m → take n (blanks m) ≡ blanks n
take_blanks zero m low = refl
take_blanks (suc n) zero low = absurd (omega (arith, low))
take_blanks (suc n) (suc m) low = ap (λ l. None ∷ l) (take_blanks n m (omega (arith, low)))

blank_drop : (n : ℕ) (ys : List (Option Stamped)) → AreBlank ys → AreBlank (drop n ys)
blank_drop zero ys b = b
blank_drop (suc n) [] b = tt
blank_drop (suc n) (y ∷ ys) b = blank_drop n ys b.1

blank_is : (ys : List (Option Stamped)) → AreBlank ys → ys ≡ blanks (length ys)
blank_is [] b = refl
blank_is (y ∷ ys) b = (λ i. b.0 i ∷ blank_is ys b.1 i)

blank_same : (k : ℕ) (xs ys : List (Option Stamped)) → AreBlank xs → AreBlank ys → k ≤ length xs → k ≤ length ys → take k xs ≡ take k ys
blank_same zero xs ys a b low less = refl
blank_same (suc k) [] ys a b low less = absurd (omega (arith, low))
blank_same (suc k) (x ∷ xs) [] a b low less = absurd (omega (arith, less))
blank_same (suc k) (x ∷ xs) (y ∷ ys) a b low less = (λ i. (a.0 ∙ sym b.0) i ∷ blank_same k xs ys a.1 b.1 (omega (arith, low)) (omega (arith, less)) i)

-- what was taken below a number is kept in the places below it
pub taken_front : (t n m : ℕ) (outs : List (List Answer)) (a b : List (Option Stamped)) → TakenAs t n m outs a b → TakenAs t n m outs (take m a) (take m b)
taken_front t n m outs a b T = record {
  taken = T.taken;
  all = T.all;
  distinct = T.distinct;
  within = T.within;
  kept = ap (take m) T.kept ∙ stored_front T.taken t m a (λ x i. (T.within x i).1);
}

-- a stamp changes no reply
same_reply : (t : ℕ) (y : Option Stamped) → reply_in (with_stamp t y) ≡ reply_in y
same_reply t None = refl
same_reply t (Some x) = refl

pub same_replies : (t : ℕ) (ys : List (Option Stamped)) → map reply_in (restamped t ys) ≡ map reply_in ys
same_replies t [] = refl
same_replies t (y ∷ ys) = λ i. same_reply t y i ∷ same_replies t ys i

-- an end says whether there was memory
pub end_memory : (all stopped : Bool) → had_memory (end_by all stopped) ≡ all
end_memory true true = refl
end_memory true false = refl
end_memory false true = refl
end_memory false false = refl

-- the replies up to a window's end are those before it and its own
take_sum : {X : Type 0} (n m : ℕ) (xs : List X) → take (n + m) xs ≡ take n xs ++ take m (drop n xs)
take_sum n m xs = sym (take-append-drop n (take (n + m) xs)) ∙ (λ i. take-take n (n + m) xs (omega arith) i ++ drop-take n m xs i)

map_both : {X Y : Type 0} (f : X → Y) (xs ys : List X) → map f (xs ++ ys) ≡ map f xs ++ map f ys
map_both f [] ys = refl
map_both f (x ∷ xs) ys = ap (λ l. f x ∷ l) (map_both f xs ys)

module _ (n m : ℕ) (order : n ≤ m) (outs : List (List Answer)) (a b : List (Option Stamped)) (T : TakenAs 0 n m outs a b) where
  -- the window's own
  abbrev pub own : List Reply
  own = map reply_in (take (m - n) (drop n b))

  pub own_long : m ≤ length b → length own ≡ m - n
  own_long low = map_long reply_in (take (m - n) (drop n b)) ∙ length-take-le (m - n) (drop n b) (let long = length-drop n b in omega (arith, long, low, order))

  past : take n b ≡ take n a
  past = ap (take n) T.kept ∙ stored_past T.taken 0 n a (λ x i. (T.within x i).0)

  pub handed_more : (ws : List (List Reply)) → map reply_in (take n a) ≡ all_replies ws → map reply_in (take m b) ≡ all_replies ws ++ own
  handed_more ws e =
      let sum : n + (m - n) ≡ m = omega (arith, order) in
      ap (λ k. map reply_in (take k b)) (sym sum) ∙ ap (map reply_in) (take_sum n (m - n) b) ∙ map_both reply_in (take n b) (take (m - n) (drop n b))
      ∙ ap (λ l. map reply_in l ++ own) past ∙ ap (λ l. l ++ own) e

  -- where they are not handed over
  pub handed_short : (ws : List (List Reply)) → map reply_in (take n a) ≡ all_replies ws → map reply_in b ≡ all_replies ws ++ ([] ++ map reply_in (drop n b))
  handed_short ws e =
      ap (map reply_in) (sym (take-append-drop n b)) ∙ map_both reply_in (take n b) (drop n b) ∙ ap (λ l. map reply_in l ++ map reply_in (drop n b)) past ∙ ap (λ l. l ++ map reply_in (drop n b)) e

-- A window's answers in its places are those that are kept by number, where nothing was kept of them before.
module _ (n m : ℕ) (order : n ≤ m) (outs : List (List Answer)) (window : List (Option Stamped)) (T : TakenIn n m outs window) (a : List (Option Stamped)) where
  abbrev pub with_window : List (Option Stamped)
  with_window = stored T.taken 0 a

  pub taken_as : TakenAs 0 n m outs a with_window
  taken_as = record { taken = T.taken; all = T.all; distinct = T.distinct; within = T.within; kept = refl }

  pub window_is : AreBlank (drop n a) → m ≤ length a → take (m - n) window ≡ take (m - n) (drop n with_window)
  window_is blank long =
      ap (take (m - n)) T.kept ∙ stored_front (map (numbered_from n) T.taken) 0 (m - n) T.places low
      ∙ ap (stored (map (numbered_from n) T.taken) 0) (blank_same (m - n) T.places (drop n a) T.blank blank (let l = T.long in omega (arith, l, order)) (let l = length-drop n a in omega (arith, l, long, order)))
      ∙ sym (stored_front (map (numbered_from n) T.taken) 0 (m - n) (drop n a) low) ∙ ap (take (m - n)) (sym (stored_drop T.taken 0 n a (λ x i. (T.within x i).0)))
    where
      low : (y : Answer) → In y (map (numbered_from n) T.taken) → y.number < (m - n)
      low y i =
          let r = in_numbered n T.taken y i in
          let w = T.within r.0 r.1 in
          let first = w.0 in
          let less = w.1 in
          let same = ap (λ (z : Answer). z.number) r.2 in
          omega (arith, first, less, same)

  -- what is kept up to the window's end
  pub front_is : AreBlank (drop n a) → m ≤ length a → take n a ++ take (m - n) window ≡ take m with_window
  front_is blank long =
      let sum : n + (m - n) ≡ m = omega (arith, order) in
      ap (λ l. take n a ++ l) (window_is blank long)
      ∙ ap (λ l. l ++ take (m - n) (drop n with_window)) (sym (stored_past T.taken 0 n a (λ x i. (T.within x i).0)))
      ∙ sym (take_sum n (m - n) with_window) ∙ ap (λ j. take j with_window) sum

  -- and where nothing is kept behind it
  pub all_is : AreBlank (drop n a) → m ≤ length a → (take n a ++ take (m - n) window) ++ blanks (length a - m) ≡ with_window
  all_is blank long =
      ap (λ l. l ++ blanks (length a - m)) (front_is blank long)
      ∙ ap (λ l. take m with_window ++ l) (sym rest) ∙ take-append-drop m with_window
    where
      behind : drop m with_window ≡ drop m a
      behind = stored_behind T.taken 0 m a (λ x i. (T.within x i).1)

      later : (n m : ℕ) (ys : List (Option Stamped)) → n ≤ m → AreBlank (drop n ys) → AreBlank (drop m ys)
      later zero m ys low b = blank_drop m ys b
      later (suc n) zero ys low b = absurd (omega (arith, low))
      later (suc n) (suc m) [] low b = tt
      later (suc n) (suc m) (y ∷ ys) low b = later n m ys (omega (arith, low)) b

      rest : drop m with_window ≡ blanks (length a - m)
      rest = behind ∙ blank_is (drop m a) (later n m a order blank) ∙ ap blanks (length-drop m a)

-- nothing is kept from a number on that none of them has
pub ahead_blank : (n : ℕ) (outs : List (List Answer)) (a b : List (Option Stamped)) → AreBlank a → TakenAs 0 0 n outs a b → AreBlank (drop n b)
ahead_blank n outs a b blank T = subst AreBlank (sym (ap (drop n) T.kept ∙ stored_behind T.taken 0 n a (λ x i. (T.within x i).1))) (blank_drop n a blank)
