-- Names in places that are linked in chains.
use Rattle.std.proofs.Common.{◌≡◌, ◌≢◌, ◌⊎◌, inl, inr, ⊎_elim, ℕ, zero, suc, ◌+◌, ◌-◌, ◌%◌, ◌≤◌, ◌<◌, true, List, [], ◌∷◌, ◌++◌, length, get_or, Option, Some, None, refl, sym, ◌∙◌, ap, subst, arith, slice_set}
use Rattle.std.specs.Option.{IsSome}
use Rattle.std.specs.List.{AllByRecursion}
use Rattle.std.proofs.lemmas.List.{length-append, length-set, get_or-set_same, get_or-set_other, get_or_append_left, get_or-append-add}
use Rattle.std.proofs.lemmas.Bool.{cases_eq, cases_lt, eqb-true, eq-eqb}
use Rattle.log_entry.specs.declared.entry.EntryName.{EntryName}
use Rattle.core_index.specs.declared.death_notices.NoticeNode.{NoticeNode}
use Rattle.core_index.specs.Noted.{Book, Noted, node_with, bare, home_at, name_at, next_at, is_for, LacksHome, chain_of, Follows, In, Lacks, Once, IsChain, AreChains, one_used, count_used, IsBook, Grows}

lacks_class : (ns : List NoticeNode) (i c : ℕ) (xs : List ℕ) → AllByRecursion (λ (x : ℕ). chain_of (home_at ns x) ≡ c) xs → chain_of (home_at ns i) ≢ c → Lacks i xs
lacks_class ns i c [] own ne = tt
lacks_class ns i c (x ∷ xs) own ne = ((λ e. ne (ap (λ (j : ℕ). chain_of (home_at ns j)) (sym e) ∙ own.0)), lacks_class ns i c xs own.1 ne)

lacks_long : (ns : List NoticeNode) (at : Option ℕ) (xs : List ℕ) → Follows ns at xs → Lacks (length ns) xs
lacks_long ns at [] is = tt
lacks_long ns at (x ∷ xs) is = ((λ e. let lt = is.1 in omega (arith, lt, e)), lacks_long ns (next_at ns x) xs is.2)

-- One place was written, or added.
record Frame (ns ms : List NoticeNode) (i : ℕ) : Type 0 where
  pub longer : length ns ≤ length ms
  pub short : (j : ℕ) → j < length ms → j ≢ i → j < length ns
  pub same : (j : ℕ) → j ≢ i → j < length ns → get_or ms j bare ≡ get_or ns j bare

frame_set : (ns : List NoticeNode) (i : ℕ) (n : NoticeNode) → Frame ns (slice_set ns i n) i
frame_set ns i n = let l = length-set ns i n in record {
  longer = omega (arith, l);
  short = λ j lt ne. omega (arith, l, lt);
  same = λ j ne lt. get_or-set_other ns i j n bare ne;
}

frame_push : (ns : List NoticeNode) (n : NoticeNode) → Frame ns (ns ++ n ∷ []) (length ns)
frame_push ns n = let l = length-append ns (n ∷ []) in record {
  longer = omega (arith, l);
  short = λ j lt ne. ⊎_elim (λ (less : j < length ns). less) (λ (ge : length ns ≤ j). absurd (ne (omega (arith, l, lt, ge)))) (cases_lt j (length ns));
  same = λ j ne lt. get_or_append_left ns (n ∷ []) bare j lt;
}

follows_frame : (ns ms : List NoticeNode) (i : ℕ) (at : Option ℕ) (xs : List ℕ) → Frame ns ms i → Lacks i xs → Follows ns at xs → Follows ms at xs
follows_frame ns ms i at [] f lacks is = is
follows_frame ns ms i at (x ∷ xs) f lacks is =
    let n = f.same x lacks.0 is.1 in
    let le = f.longer in
    let lt = is.1 in
    (is.0, omega (arith, le, lt), subst (λ (o : Option ℕ). Follows ms o xs) (sym (ap (λ (m : NoticeNode). m.next) n)) (follows_frame ns ms i (next_at ns x) xs f lacks.1 is.2))

own_frame : (ns ms : List NoticeNode) (i c : ℕ) (at : Option ℕ) (xs : List ℕ) → Frame ns ms i → Lacks i xs → Follows ns at xs → AllByRecursion (λ (x : ℕ). chain_of (home_at ns x) ≡ c) xs → AllByRecursion (λ (x : ℕ). chain_of (home_at ms x) ≡ c) xs
own_frame ns ms i c at [] f lacks is own = tt
own_frame ns ms i c at (x ∷ xs) f lacks is own = (ap (λ (n : NoticeNode). chain_of n.home) (f.same x lacks.0 is.1) ∙ own.0, own_frame ns ms i c (next_at ns x) xs f lacks.1 is.2 own.1)

-- a place of another chain
chain_other : (ns ms : List NoticeNode) (i c : ℕ) (at : Option ℕ) → Frame ns ms i → (ch : IsChain ns at c) → Lacks i ch.numbers → chain_of (home_at ms i) ≢ c → IsChain ms at c
chain_other ns ms i c at f ch lacks ne = record {
  numbers = ch.numbers;
  follows = follows_frame ns ms i at ch.numbers f lacks ch.follows;
  once = ch.once;
  own = own_frame ns ms i c at ch.numbers f lacks ch.follows ch.own;
  all = λ j lt is. ⊎_elim
      (λ (e : j ≡ i). absurd (ne (ap (λ (k : ℕ). chain_of (home_at ms k)) (sym e) ∙ is)))
      (λ (other : j ≢ i). let l = f.short j lt other in ch.all j l (ap (λ (n : NoticeNode). chain_of n.home) (sym (f.same j other l)) ∙ is))
      (cases_eq j i);
}

-- the first place leaves its chain
chain_shorter : (ns ms : List NoticeNode) (i c : ℕ) (at : Option ℕ) → Frame ns ms i → IsChain ns at c → at ≡ Some i → chain_of (home_at ms i) ≢ c → IsChain ms (next_at ns i) c
chain_shorter ns ms i c at f ch is ne = by ch.numbers ch.follows ch.once ch.own ch.all where
  by : (xs : List ℕ) → Follows ns at xs → Once xs → AllByRecursion (λ (x : ℕ). chain_of (home_at ns x) ≡ c) xs → ((j : ℕ) → j < length ns → chain_of (home_at ns j) ≡ c → In j xs) → IsChain ms (next_at ns i) c
  by [] fol once own all = absurd (cc (is, fol))
  by (x ∷ xs) fol once own all =
      let first : Some x ≡ Some i = sym fol.0 ∙ is in
      let e : x ≡ i = cc first in
      let lacks : Lacks i xs = subst (λ (k : ℕ). Lacks k xs) e once.0 in
      record {
        numbers = xs;
        follows = subst (λ (k : ℕ). Follows ms (next_at ns k) xs) e (follows_frame ns ms i (next_at ns x) xs f lacks fol.2);
        once = once.1;
        own = own_frame ns ms i c (next_at ns x) xs f lacks fol.2 own.1;
        all = λ j lt there. ⊎_elim
            (λ (q : j ≡ i). absurd (ne (ap (λ (k : ℕ). chain_of (home_at ms k)) (sym q) ∙ there)))
            (λ (other : j ≢ i). let l = f.short j lt other in ⊎_elim (λ (h : x ≡ j). absurd (other (sym h ∙ e))) (λ (r : In j xs). r) (all j l (ap (λ (n : NoticeNode). chain_of n.home) (sym (f.same j other l)) ∙ there)))
            (cases_eq j i);
      }

-- a place becomes the first one of a chain
chain_longer : (ns ms : List NoticeNode) (i c : ℕ) (at : Option ℕ) → Frame ns ms i → (ch : IsChain ns at c) → Lacks i ch.numbers → i < length ms → chain_of (home_at ms i) ≡ c → next_at ms i ≡ at → IsChain ms (Some i) c
chain_longer ns ms i c at f ch lacks lt class next = record {
  numbers = i ∷ ch.numbers;
  follows = (refl, lt, subst (λ (o : Option ℕ). Follows ms o ch.numbers) (sym next) (follows_frame ns ms i at ch.numbers f lacks ch.follows));
  once = (lacks, ch.once);
  own = (class, own_frame ns ms i c at ch.numbers f lacks ch.follows ch.own);
  all = λ j within is. ⊎_elim
      (λ (e : j ≡ i). inl (sym e))
      (λ (other : j ≢ i). let l = f.short j within other in inr (ch.all j l (ap (λ (n : NoticeNode). chain_of n.home) (sym (f.same j other l)) ∙ is)))
      (cases_eq j i);
}

-- the first place of a chain
pub record IsFirst (ns : List NoticeNode) (i c : ℕ) : Type 0 where
  pub within : i < length ns
  pub class : chain_of (home_at ns i) ≡ c

pub first_of : (ns : List NoticeNode) (at : Option ℕ) (i c : ℕ) → IsChain ns at c → at ≡ Some i → IsFirst ns i c
first_of ns at i c ch is = by ch.numbers ch.follows ch.own where
  by : (xs : List ℕ) → Follows ns at xs → AllByRecursion (λ (x : ℕ). chain_of (home_at ns x) ≡ c) xs → IsFirst ns i c
  by [] fol own = absurd (cc (is, fol))
  by (x ∷ xs) fol own =
      let first : Some x ≡ Some i = sym fol.0 ∙ is in
      let e : x ≡ i = cc first in
      record { within = subst (λ (k : ℕ). k < length ns) e fol.1; class = subst (λ (k : ℕ). chain_of (home_at ns k) ≡ c) e own.0 }

-- no place is of an empty chain
pub none_of : (ns : List NoticeNode) (at : Option ℕ) (c j : ℕ) → IsChain ns at c → at ≡ None → j < length ns → chain_of (home_at ns j) ≡ c → ⊥
none_of ns at c j ch is lt class = by ch.numbers ch.follows (ch.all j lt class) where
  by : (xs : List ℕ) → Follows ns at xs → In j xs → ⊥
  by [] fol has = has
  by (x ∷ xs) fol has = let first = fol.0 in cc (is, first)

pub chain_below : (h : Option ℕ) → chain_of h < 9
chain_below None = omega arith
chain_below (Some h) = omega arith

pub chains_moved : (ns : List NoticeNode) (hs : List (Option ℕ)) (a i : ℕ) (n : NoticeNode) → AreChains ns hs → a < 9 → ((d : Option ℕ) → get_or hs a d ≡ Some i) → chain_of n.home ≢ a → n.next ≡ get_or hs (chain_of n.home) None → AreChains (slice_set ns i n) (slice_set (slice_set hs a (next_at ns i)) (chain_of n.home) (Some i))
chains_moved ns hs a i n are lt first ne next =
    let b = chain_of n.home in
    let ms = slice_set ns i n in
    let gs = slice_set hs a (next_at ns i) in
    let f = frame_set ns i n in
    let from = are.each a None lt in
    let here = first_of ns (get_or hs a None) i a from (first None) in
    let node : get_or ms i bare ≡ n = get_or-set_same ns i n bare here.within in
    let class : chain_of (home_at ms i) ≡ b = ap (λ (m : NoticeNode). chain_of m.home) node in
    let below = chain_below n.home in
    let nine = are.nine in
    let l1 = length-set hs a (next_at ns i) in
    let l2 = length-set gs b (Some i) in
    let l3 = length-set ns i n in
    let in_b : b < length gs = omega (arith, l1, nine, below) in
    let in_a : a < length hs = omega (arith, nine, lt) in
    let in_i = here.within in
    let old : chain_of (home_at ns i) ≡ a = here.class in
    record {
      nine = omega (arith, l1, l2, nine);
      each = λ c d within. ⊎_elim
          (λ (e : c ≡ b).
          let to = are.each b None below in
          let ch : IsChain ms (Some i) b = chain_longer ns ms i b (get_or hs b None) f to (lacks_class ns i b to.numbers to.own (λ q. ne (sym q ∙ old))) (omega (arith, l3, in_i)) class (ap (λ (m : NoticeNode). m.next) node ∙ next) in
          subst (λ (k : ℕ). IsChain ms (get_or (slice_set gs b (Some i)) k d) k) (sym e) (subst (λ (o : Option ℕ). IsChain ms o b) (sym (get_or-set_same gs b (Some i) d in_b)) ch))
          (λ (other : c ≢ b).
          let skip : get_or (slice_set gs b (Some i)) c d ≡ get_or gs c d = get_or-set_other gs b c (Some i) d other in
          subst (λ (o : Option ℕ). IsChain ms o c) (sym skip) (⊎_elim
          (λ (e : c ≡ a).
          let ch : IsChain ms (next_at ns i) a = chain_shorter ns ms i a (get_or hs a None) f from (first None) (λ q. ne (sym class ∙ q)) in
          subst (λ (k : ℕ). IsChain ms (get_or gs k d) k) (sym e) (subst (λ (o : Option ℕ). IsChain ms o a) (sym (get_or-set_same hs a (next_at ns i) d in_a)) ch))
          (λ (third : c ≢ a).
          let was = are.each c d within in
          let ch : IsChain ms (get_or hs c d) c = chain_other ns ms i c (get_or hs c d) f was (lacks_class ns i c was.numbers was.own (λ q. third (sym q ∙ old))) (λ q. other (sym q ∙ class)) in
          subst (λ (o : Option ℕ). IsChain ms o c) (sym (get_or-set_other hs a c (next_at ns i) d third)) ch)
          (cases_eq c a)))
          (cases_eq c b);
    }

-- a free place more
pub chains_grown : (ns : List NoticeNode) (hs : List (Option ℕ)) (n : NoticeNode) → AreChains ns hs → n.home ≡ None → n.next ≡ get_or hs 8 None → AreChains (ns ++ n ∷ []) (slice_set hs 8 (Some (length ns)))
chains_grown ns hs n are free next =
    let ms = ns ++ n ∷ [] in
    let i = length ns in
    let f = frame_push ns n in
    let zero_is : length ns + 0 ≡ length ns = omega arith in
    let node : get_or ms i bare ≡ n = ap (λ (k : ℕ). get_or ms k bare) (sym zero_is) ∙ get_or-append-add ns (n ∷ []) 0 bare in
    let class : chain_of (home_at ms i) ≡ 8 = ap (λ (m : NoticeNode). chain_of m.home) node ∙ ap chain_of free in
    let nine = are.nine in
    let l1 = length-set hs 8 (Some i) in
    let l2 = length-append ns (n ∷ []) in
    record {
      nine = omega (arith, l1, nine);
      each = λ c d within. ⊎_elim
          (λ (e : c ≡ 8).
          let to = are.each 8 None (omega arith) in
          let ch : IsChain ms (Some i) 8 = chain_longer ns ms i 8 (get_or hs 8 None) f to (lacks_long ns (get_or hs 8 None) to.numbers to.follows) (omega (arith, l2)) class (ap (λ (m : NoticeNode). m.next) node ∙ next) in
          subst (λ (k : ℕ). IsChain ms (get_or (slice_set hs 8 (Some i)) k d) k) (sym e) (subst (λ (o : Option ℕ). IsChain ms o 8) (sym (get_or-set_same hs 8 (Some i) d (omega (arith, nine)))) ch))
          (λ (other : c ≢ 8).
          let was = are.each c d within in
          subst (λ (o : Option ℕ). IsChain ms o c) (sym (get_or-set_other hs 8 c (Some i) d other)) (chain_other ns ms i c (get_or hs c d) f was (lacks_long ns (get_or hs c d) was.numbers was.follows) (λ q. other (sym q ∙ class))))
          (cases_eq c 8);
    }

-- A place gets another name for a home of the same chain.

record Alike (ns ms : List NoticeNode) : Type 0 where
  pub long : length ms ≡ length ns
  pub next : (j : ℕ) → next_at ms j ≡ next_at ns j
  pub class : (j : ℕ) → chain_of (home_at ms j) ≡ chain_of (home_at ns j)

alike_set : (ns : List NoticeNode) (k : ℕ) (n : NoticeNode) → k < length ns → n.next ≡ next_at ns k → chain_of n.home ≡ chain_of (home_at ns k) → Alike ns (slice_set ns k n)
alike_set ns k n lt next class = record {
  long = length-set ns k n;
  next = λ j. ⊎_elim (λ (e : j ≡ k). ap (next_at (slice_set ns k n)) e ∙ ap (λ (m : NoticeNode). m.next) (get_or-set_same ns k n bare lt) ∙ next ∙ ap (next_at ns) (sym e)) (λ (ne : j ≢ k). ap (λ (m : NoticeNode). m.next) (get_or-set_other ns k j n bare ne)) (cases_eq j k);
  class = λ j. ⊎_elim (λ (e : j ≡ k). ap (λ (i : ℕ). chain_of (home_at (slice_set ns k n) i)) e ∙ ap (λ (m : NoticeNode). chain_of m.home) (get_or-set_same ns k n bare lt) ∙ class ∙ ap (λ (i : ℕ). chain_of (home_at ns i)) (sym e)) (λ (ne : j ≢ k). ap (λ (m : NoticeNode). chain_of m.home) (get_or-set_other ns k j n bare ne)) (cases_eq j k);
}

follows_alike : (ns ms : List NoticeNode) (at : Option ℕ) (xs : List ℕ) → Alike ns ms → Follows ns at xs → Follows ms at xs
follows_alike ns ms at [] a is = is
follows_alike ns ms at (x ∷ xs) a is = let l = a.long in let lt = is.1 in (is.0, omega (arith, l, lt), subst (λ (o : Option ℕ). Follows ms o xs) (sym (a.next x)) (follows_alike ns ms (next_at ns x) xs a is.2))

own_alike : (ns ms : List NoticeNode) (c : ℕ) (xs : List ℕ) → Alike ns ms → AllByRecursion (λ (x : ℕ). chain_of (home_at ns x) ≡ c) xs → AllByRecursion (λ (x : ℕ). chain_of (home_at ms x) ≡ c) xs
own_alike ns ms c [] a own = tt
own_alike ns ms c (x ∷ xs) a own = (a.class x ∙ own.0, own_alike ns ms c xs a own.1)

pub chains_over : (ns : List NoticeNode) (hs : List (Option ℕ)) (k : ℕ) (n : NoticeNode) → AreChains ns hs → k < length ns → n.next ≡ next_at ns k → chain_of n.home ≡ chain_of (home_at ns k) → AreChains (slice_set ns k n) hs
chains_over ns hs k n are lt next class =
    let ms = slice_set ns k n in
    let a = alike_set ns k n lt next class in
    record {
      nine = are.nine;
      each = λ c d within. let ch = are.each c d within in record {
        numbers = ch.numbers;
        follows = follows_alike ns ms (get_or hs c d) ch.numbers a ch.follows;
        once = ch.once;
        own = own_alike ns ms c ch.numbers a ch.own;
        all = λ j less is. ch.all j (let l = a.long in omega (arith, l, less)) (sym (a.class j) ∙ is);
      };
    }

-- How many places have a name.

pub count_set : (ns : List NoticeNode) (i : ℕ) (n : NoticeNode) → i < length ns → count_used (slice_set ns i n) + one_used (home_at ns i) ≡ count_used ns + one_used n.home
count_set [] i n lt = absurd (omega (arith, lt))
count_set (m ∷ ns) zero n lt = omega arith
count_set (m ∷ ns) (suc i) n lt = let rest = count_set ns i n (omega (arith, lt)) in omega (arith, rest)

pub count_push : (ns : List NoticeNode) (n : NoticeNode) → count_used (ns ++ n ∷ []) ≡ count_used ns + one_used n.home
count_push [] n = omega arith
count_push (m ∷ ns) n = let rest = count_push ns n in omega (arith, rest)

pub record IsFree (ns : List NoticeNode) : Type 0 where
  pub at : ℕ
  pub within : at < length ns
  pub home : home_at ns at ≡ None

pub free_one : (ns : List NoticeNode) → count_used ns < length ns → IsFree ns
free_one [] lt = absurd (omega (arith, lt))
free_one (n ∷ ns) lt = by n.home refl (free_one ns) where
  by : (h : Option ℕ) → n.home ≡ h → (count_used ns < length ns → IsFree ns) → IsFree (n ∷ ns)
  by None is rest = record { at = 0; within = omega arith; home = is }
  by (Some h) is rest =
      let one = ap one_used is in
      let r = rest (omega (arith, lt, one)) in
      let less = r.within in
      record { at = suc r.at; within = omega (arith, less); home = r.home }

-- a place is free where room is left
pub never_full : (ns : List NoticeNode) (hs : List (Option ℕ)) (used spare : ℕ) → IsBook ns hs used spare → 0 < spare → get_or hs 8 None ≡ None → ⊥
never_full ns hs used spare is some none =
    let count = is.count in
    let room = is.room in
    let free = free_one ns (omega (arith, count, room, some)) in
    none_of ns (get_or hs 8 None) 8 free.at (is.chains.each 8 None (omega arith)) none free.within (ap chain_of free.home)

pub some_from : (o : Option ℕ) → (o ≡ None → ⊥) → IsSome o
some_from None ne = absurd (ne refl)
some_from (Some x) ne = refl

pub free_home : (h : Option ℕ) → chain_of h ≡ 8 → h ≡ None
free_home None is = refl
free_home (Some h) is = absurd (omega (arith, is))

pub used_home : (h : Option ℕ) (home : ℕ) → chain_of h ≡ home % 8 → one_used h ≡ 1
used_home None home is = absurd (omega (arith, is))
used_home (Some h) home is = refl

pub for_home : (h : Option ℕ) (home : ℕ) → is_for home h ≡ true → h ≡ Some home
for_home None home is = absurd (cc is)
for_home (Some g) home is = ap Some (eqb-true g home is)

-- What a book says of a name after a change.

pub lacks_noted : (b : Book) (home : ℕ) (n : EntryName) → LacksHome home b.nodes → Noted b home n → ⊥
lacks_noted b home n lacks noted = by b.nodes noted.at lacks noted.within noted.home_is where
  by : (ns : List NoticeNode) (i : ℕ) → LacksHome home ns → i < length ns → home_at ns i ≡ Some home → ⊥
  by [] i all lt is = omega (arith, lt)
  by (m ∷ ns) zero all lt is = let a = sym all.0 ∙ ap (is_for home) is ∙ eq-eqb home home refl in cc a
  by (m ∷ ns) (suc i) all lt is = by ns i all.1 (omega (arith, lt)) is

pub grown_noted : (b c : Book) → Grows b.nodes c.nodes → (h : ℕ) (n : EntryName) → Noted b h n → Noted c h n
grown_noted b c g h n noted = record {
  at = noted.at;
  within = let lt = noted.within in let le = g.longer in omega (arith, lt, le);
  home_is = ap (λ (m : NoticeNode). m.home) (g.same noted.at bare noted.within) ∙ noted.home_is;
  name_is = ap (λ (m : NoticeNode). m.name) (g.same noted.at bare noted.within) ∙ noted.name_is;
}

pub grows_push : (ns : List NoticeNode) (n : NoticeNode) → n.home ≡ None → Grows ns (ns ++ n ∷ [])
grows_push ns n free = record {
  longer = let l = length-append ns (n ∷ []) in omega (arith, l);
  same = λ i d lt. get_or_append_left ns (n ∷ []) d i lt;
  count = let c = count_push ns n in let none = ap one_used free in omega (arith, c, none);
}

pub grows_same : (ns ms : List NoticeNode) → ms ≡ ns → Grows ns ms
grows_same ns ms is = subst (Grows ns) (sym is) (record { longer = omega arith; same = λ i d lt. refl; count = refl })

pub grows_more : (ns ms ls : List NoticeNode) → Grows ns ms → Grows ms ls → Grows ns ls
grows_more ns ms ls a b = record {
  longer = let p = a.longer in let q = b.longer in omega (arith, p, q);
  same = λ i d lt. b.same i d (let p = a.longer in omega (arith, p, lt)) ∙ a.same i d lt;
  count = b.count ∙ a.count;
}

pub put_noted : (ns ms : List NoticeNode) (i used more spare less : ℕ) (n : NoticeNode) → i < length ns → home_at ns i ≡ None → ms ≡ slice_set ns i n → (h : ℕ) (m : EntryName) → Noted (record { nodes = ns; used = used; spare = spare }) h m → Noted (record { nodes = ms; used = more; spare = less }) h m
put_noted ns ms i used more spare less n lt free is h m noted =
    let apart : noted.at ≢ i = λ e. let home = sym noted.home_is ∙ ap (home_at ns) e ∙ free in cc home in
    let same : get_or ms noted.at bare ≡ get_or ns noted.at bare = ap (λ (xs : List NoticeNode). get_or xs noted.at bare) is ∙ get_or-set_other ns i noted.at n bare apart in
    record {
      at = noted.at;
      within = let l = ap length is ∙ length-set ns i n in let w = noted.within in omega (arith, l, w);
      home_is = ap (λ (x : NoticeNode). x.home) same ∙ noted.home_is;
      name_is = ap (λ (x : NoticeNode). x.name) same ∙ noted.name_is;
    }

pub noted_here : (ns ms : List NoticeNode) (i used spare home : ℕ) (n : EntryName) (next : Option ℕ) → i < length ns → ms ≡ slice_set ns i (node_with n (Some home) next) → Noted (record { nodes = ms; used = used; spare = spare }) home n
noted_here ns ms i used spare home n next lt is =
    let here : get_or ms i bare ≡ node_with n (Some home) next = ap (λ (xs : List NoticeNode). get_or xs i bare) is ∙ get_or-set_same ns i (node_with n (Some home) next) bare lt in
    record {
      at = i;
      within = let l = ap length is ∙ length-set ns i (node_with n (Some home) next) in omega (arith, l, lt);
      home_is = ap (λ (x : NoticeNode). x.home) here;
      name_is = ap (λ (x : NoticeNode). x.name) here;
    }

-- A name is taken out of place k, into which that of place f goes; then f is free.
pub taken_noted : (ns ms ls : List NoticeNode) (k f home used less spare : ℕ) (next more : Option ℕ) (name : EntryName) → k < length ns → f < length ns → home_at ns k ≡ Some home
    → ms ≡ slice_set ns k (node_with (name_at ns f) (home_at ns f) next) → ls ≡ slice_set ms f (node_with name None more)
    → (h : ℕ) (n : EntryName) → Noted (record { nodes = ns; used = used; spare = spare }) h n → ((h ≡ home) × (n ≡ name_at ns k)) ⊎ Noted (record { nodes = ls; used = less; spare = spare }) h n
taken_noted ns ms ls k f home used less spare next more name in_k in_f at_k over free h n noted = ⊎_elim
    (λ (e : noted.at ≡ k).
    let some : Some h ≡ Some home = sym noted.home_is ∙ ap (home_at ns) e ∙ at_k in
    inl (cc some, sym noted.name_is ∙ ap (name_at ns) e))
    (λ (ne : noted.at ≢ k). ⊎_elim
    (λ (e : noted.at ≡ f).
    let apart : k ≢ f = λ q. ne (e ∙ sym q) in
    let here : get_or ls k bare ≡ node_with (name_at ns f) (home_at ns f) next = ap (λ (xs : List NoticeNode). get_or xs k bare) free ∙ get_or-set_other ms f k (node_with name None more) bare apart ∙ ap (λ (xs : List NoticeNode). get_or xs k bare) over ∙ get_or-set_same ns k (node_with (name_at ns f) (home_at ns f) next) bare in_k in
    inr (record { at = k; within = omega (arith, long_l, long_m, in_k); home_is = ap (λ (x : NoticeNode). x.home) here ∙ ap (home_at ns) (sym e) ∙ noted.home_is; name_is = ap (λ (x : NoticeNode). x.name) here ∙ ap (name_at ns) (sym e) ∙ noted.name_is }))
    (λ (other : noted.at ≢ f).
    let same : get_or ls noted.at bare ≡ get_or ns noted.at bare = ap (λ (xs : List NoticeNode). get_or xs noted.at bare) free ∙ get_or-set_other ms f noted.at (node_with name None more) bare other ∙ ap (λ (xs : List NoticeNode). get_or xs noted.at bare) over ∙ get_or-set_other ns k noted.at (node_with (name_at ns f) (home_at ns f) next) bare ne in
    let w = noted.within in
    inr (record { at = noted.at; within = omega (arith, long_l, long_m, w); home_is = ap (λ (x : NoticeNode). x.home) same ∙ noted.home_is; name_is = ap (λ (x : NoticeNode). x.name) same ∙ noted.name_is }))
    (cases_eq noted.at f))
    (cases_eq noted.at k)
  where
    long_m : length ms ≡ length ns
    long_m = ap length over ∙ length-set ns k (node_with (name_at ns f) (home_at ns f) next)

    long_l : length ls ≡ length ms
    long_l = ap length free ∙ length-set ms f (node_with name None more)

pub grown_book : (ns ms : List NoticeNode) (hs gs : List (Option ℕ)) (used spare more : ℕ) → IsBook ns hs used spare → AreChains ms gs → Grows ns ms → more + used ≤ length ms → IsBook ms gs used more
grown_book ns ms hs gs used spare more is chains grows room = record { chains = chains; count = is.count ∙ sym grows.count; room = room }

-- a name goes to a free place
pub put_book : (ns ms : List NoticeNode) (hs gs : List (Option ℕ)) (i used spare : ℕ) (n : NoticeNode) → IsBook ns hs used spare → 0 < spare → AreChains ms gs → i < length ns → home_at ns i ≡ None → ms ≡ slice_set ns i n → one_used n.home ≡ 1 → IsBook ms gs (used + 1) (spare - 1)
put_book ns ms hs gs i used spare n is some chains lt free put one = record {
  chains = chains;
  count = let a = count_set ns i n lt in let b = ap count_used put in let c = ap one_used free in let d = is.count in omega (arith, a, b, c, d, one);
  room = let r = is.room in let l = ap length put ∙ length-set ns i n in omega (arith, r, l, some);
}

-- and one leaves its place
pub taken_count : (ns ms ls : List NoticeNode) (k f home : ℕ) (n m : NoticeNode) → k < length ns → f < length ns → home_at ns k ≡ Some home → one_used n.home ≡ 1 → n.home ≡ home_at ns f → m.home ≡ None → ms ≡ slice_set ns k n → ls ≡ slice_set ms f m → count_used ls + 1 ≡ count_used ns
taken_count ns ms ls k f home n m in_k in_f at_k one same none over free =
    let long : length ms ≡ length ns = ap length over ∙ length-set ns k n in
    let a = count_set ns k n in_k in
    let b = ap count_used over in
    let c = ap one_used at_k in
    let d = count_set ms f m (omega (arith, long, in_f)) in
    let e = ap count_used free in
    let g = ap one_used none in
    let h : one_used (home_at ms f) ≡ 1 = ⊎_elim
    (λ (q : f ≡ k). ap (λ (xs : List NoticeNode). one_used (home_at xs f)) over ∙ ap (λ (j : ℕ). one_used (home_at (slice_set ns k n) j)) q ∙ ap (λ (x : NoticeNode). one_used x.home) (get_or-set_same ns k n bare in_k) ∙ one)
    (λ (ne : f ≢ k). ap (λ (xs : List NoticeNode). one_used (home_at xs f)) over ∙ ap (λ (x : NoticeNode). one_used x.home) (get_or-set_other ns k f n bare ne) ∙ ap one_used (sym same) ∙ one)
    (cases_eq f k) in
    omega (arith, a, b, c, d, e, g, h, one)

pub taken_book : (ns ls : List NoticeNode) (hs gs : List (Option ℕ)) (used spare : ℕ) → IsBook ns hs used spare → AreChains ls gs → length ls ≡ length ns → count_used ls + 1 ≡ count_used ns → IsBook ls gs (used - 1) spare
taken_book ns ls hs gs used spare is chains long count = record {
  chains = chains;
  count = let d = is.count in omega (arith, count, d);
  room = let r = is.room in omega (arith, r, long);
}

-- no places yet
pub no_chains : (hs : List (Option ℕ)) → length hs ≡ 9 → AllByRecursion (λ (h : Option ℕ). h ≡ None) hs → AreChains [] hs
no_chains hs nine none = record {
  nine = nine;
  each = λ c d lt. record { numbers = []; follows = at hs c d none (omega (arith, nine, lt)); once = tt; own = tt; all = λ j within is. omega (arith, within) };
}
  where
    at : (gs : List (Option ℕ)) (c : ℕ) (d : Option ℕ) → AllByRecursion (λ (h : Option ℕ). h ≡ None) gs → c < length gs → get_or gs c d ≡ None
    at [] c d all lt = absurd (omega (arith, lt))
    at (g ∷ gs) zero d all lt = all.0
    at (g ∷ gs) (suc c) d all lt = at gs c d all.1 (omega (arith, lt))
