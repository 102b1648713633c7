-- What a move leaves of the rooms: of one core's by what the move does to that core alone, and of all.
use Rattle.std.proofs.Common.{◌≡◌, ◌≢◌, ◌⊎◌, inl, inr, ⊎_elim, ℕ, ◌+◌, ◌-◌, ◌*◌, ◌/◌, ◌<◌, ◌≤◌, ◌==◌, ◌&&◌, ◌||◌, nat_le, List, [], ◌∷◌, ◌++◌, map, length, refl, sym, ◌∙◌, ap, subst, arith, true, false, Bool, cond, Option, Some, None, append_assoc}
use Rattle.std.specs.Prelude.{is_some}
use Rattle.std.specs.List.{AllByRecursion, count_by, sum_by, enumerate_from}
use Rattle.std.proofs.lemmas.Bool.{cases_eq, eq-eqb, ne_eqb, eqb-true, and_parts, and_from, or_cases}
use Rattle.std.proofs.lemmas.List.Sums.{sum_by-append}
use Rattle.std.proofs.lemmas.List.Elements.{filter-append}
use Rattle.pm_region.specs.Words.{lines_for}
use Rattle.fs_model.specs.declared.model.Request.{Request}
use Rattle.fs_model.specs.declared.model.Request.TheVariants.{Put, Get, Delete}
use Rattle.fs_model.specs.Cells.{key_of}
use Rattle.fs_model.specs.Changes.{requests_of}
use Rattle.log_entry.specs.declared.entry.Entry.{Entry}
use Rattle.chunk_map.specs.declared.layout_sizes.TheConstants.{GREATEST_CLASS}
use Rattle.chunk_map.specs.declared.layouts.Geometry.{Geometry}
use Rattle.chunk_map.specs.Chunks.{blocks_in}
use Rattle.chunk_map.specs.Layouts.{layout_of, owner, numbers, payload_lines, is_class, has_class, IsLayout}
use Rattle.store_image.specs.Facts.{In}
use Rattle.store_image.proofs.Clients.{in_front, in_back, in_either, has_layout, superblock_facts}
use Rattle.group_laws.specs.State.{Group}
use Rattle.group_laws.specs.MemberViews.{View, view_of}
use Rattle.log_entry.specs.Spelling.{words_of}
use Rattle.group_laws.proofs.Clients.{run_frame}
use Rattle.headline.specs.Ample.{lines_of, is_put_of, IsAmpleFor}
use Rattle.engine_laws.specs.Parts.{group_of, member_of}
use Rattle.engine_laws.specs.FreeStock.{Stock, is_put_in}
use Rattle.engine_laws.specs.WorkerMoves.{Placed, request_placed, Fixed, asked, fixed_of, requests_for, CleansIn}
use Rattle.engine_laws.specs.Engine.{Engine, line}
use Rattle.engine_laws.specs.Moves.{Moves}
use Rattle.engine_laws.specs.Keys.{Served}
use Rattle.engine_laws.specs.Stands.{Origin, Stands}
use Rattle.engine_laws.specs.Spending.{lines_in, one_if, is_cut_for, puts_in, Spends, PostsOne, SpendsRoom}
use Rattle.engine_laws.specs.Rooms.{is_numbered, is_posted_as, is_begun, is_out, begun_puts, out_lines, HasRoom, Rooms}
use Rattle.engine_laws.proofs.Numbers.{IsUp, up, up_tail, all_in, in_filter}
use Rattle.engine_laws.proofs.Cores.{member_low}
use Rattle.engine_laws.proofs.Others.{other_view}
use Rattle.engine_laws.proofs.RoomSums.{sum_up, sum_more_at, numbers_one}
use Rattle.engine_laws.proofs.Ampleness.{class_bounds, chunk_big}

-- a number among the fixed, or not
pub fixed_there : (n : ℕ) (xs : List Fixed) → ((x : Fixed) × In x xs × (x.number ≡ n)) ⊎ ((x : Fixed) → In x xs → x.number ≢ n)
fixed_there n [] = inr (λ x i. absurd i)
fixed_there n (x ∷ xs) = ⊎_elim
    (λ same. inl (x, inl refl, same))
    (λ ne. ⊎_elim (λ more. inl (more.0, inr more.1, more.2)) (λ none. inr (λ y i. ⊎_elim (λ at q. ne (sym (ap (λ (z : Fixed). z.number) at) ∙ q)) (λ j. none y j) i)) (fixed_there n xs))
    (cases_eq x.number n)

or_front : (a b : Bool) → a ≡ true → a || b ≡ true
or_front true b e = refl
or_front false b e = absurd (cc e)

or_back : (a b : Bool) → b ≡ true → a || b ≡ true
or_back true b e = refl
or_back false b e = e

-- The requests of a core's own keys that were given: some are done, the others stand in a place, wait, or are in the backlog, in this order, and have no answer.
pub record OwnLines (l : Geometry) (c : ℕ) (e : Engine) : Type 0 where
  pub split : (k : ℕ) → owner l k ≡ c → (done : List (ℕ × Request)) × (requests_of k e.given ≡ done ++ (line e k ++ requests_for k (e.backlog c)))
  pub waiting : (k : ℕ) → owner l k ≡ c → AllByRecursion (λ x. e.answer x.0 ≡ None) (line e k ++ requests_for k (e.backlog c))

-- What a move of a core does to the requests of its own keys.
pub record OwnMoves (l : Geometry) (e f : Engine) (c : ℕ) (accepted : List (ℕ × Request)) (fixed : List Fixed) : Type 0 where
  pub given : f.given ≡ e.given
  pub backlog : e.backlog c ≡ accepted ++ f.backlog c
  pub order : (k : ℕ) → owner l k ≡ c → line e k ++ requests_for k accepted ≡ map asked (fixed_of k fixed) ++ line f k
  pub new : (x : Fixed) → In x fixed → is_some (f.answer x.number) ≡ true
  pub old : (n : ℕ) → ((x : Fixed) → In x fixed → x.number ≢ n) → f.answer n ≡ e.answer n
  pub stays_stopped : e.stopped c ≡ true → f.stopped c ≡ true

-- a change stands in its place still
pub record StandsStill (f : Engine) (k : ℕ) (y : Placed) : Type 0 where
  pub placed_now : Placed
  pub at : f.place k ≡ Some placed_now
  pub number : placed_now.number ≡ y.number
  pub posted : y.posted ≡ true → placed_now.posted ≡ true

one_up : (a b d : Bool) (n : ℕ) → (a ≡ true → b ≡ true → d ≡ true) → cond {A = ℕ} (a && b) n 0 ≤ cond {A = ℕ} (a && d) n 0
one_up false b d n h = omega arith
one_up true false d n h = omega arith
one_up true true d n h = let is = ap (λ t. cond {A = ℕ} t n 0) (h refl refl) in omega (arith, is)

put_owner : (l : Geometry) (d class : ℕ) (q : Request) → is_put_of l d class q ≡ true → owner l (key_of q) ≡ d
put_owner l d class (Put k v) is = eqb-true (owner l k) d (and_parts (owner l k == d) (has_class (length v) class) (and_parts (owner l k == d && has_class (length v) class) (nat_le (length v) (l.chunk_bytes / 4 - 8)) is).0).0
put_owner l d class (Get k) is = absurd (cc is)
put_owner l d class (Delete k) is = absurd (cc is)

-- Where answers stay, and each change of core d stands in its place until it is answered, what d began and what of it is out only grows.
module _ (l : Geometry) (e f : Engine) (d : ℕ) (given : f.given ≡ e.given) (answered : (n : ℕ) → is_some (e.answer n) ≡ true → is_some (f.answer n) ≡ true)
    (goes : (k : ℕ) (y : Placed) → owner l k ≡ d → e.place k ≡ Some y → (is_some (f.answer y.number) ≡ true) ⊎ StandsStill f k y) where
  begun_goes : (x : ℕ × Request) → owner l (key_of x.1) ≡ d → is_begun e x ≡ true → is_begun f x ≡ true
  begun_goes x own h = ⊎_elim
      (λ a. or_front (is_some (f.answer x.0)) (is_numbered x.0 (f.place (key_of x.1))) (answered x.0 a))
      (λ b. by (e.place (key_of x.1)) refl b)
      (or_cases (is_some (e.answer x.0)) (is_numbered x.0 (e.place (key_of x.1))) h) where
        by : (p : Option Placed) → e.place (key_of x.1) ≡ p → is_numbered x.0 p ≡ true → is_begun f x ≡ true
        by None at b = absurd (cc b)
        by (Some y) at b =
            let number = eqb-true y.number x.0 b in
            ⊎_elim
            (λ a. or_front (is_some (f.answer x.0)) (is_numbered x.0 (f.place (key_of x.1))) (sym (ap (λ n. is_some (f.answer n)) number) ∙ a))
            (λ (G : StandsStill f (key_of x.1) y). or_back (is_some (f.answer x.0)) (is_numbered x.0 (f.place (key_of x.1))) (ap (is_numbered x.0) G.at ∙ eq-eqb G.placed_now.number x.0 (G.number ∙ number)))
            (goes (key_of x.1) y own at)

  out_goes : (x : ℕ × Request) → owner l (key_of x.1) ≡ d → is_out e x ≡ true → is_out f x ≡ true
  out_goes x own h = ⊎_elim
      (λ a. or_front (is_some (f.answer x.0)) (is_posted_as x.0 (f.place (key_of x.1))) (answered x.0 a))
      (λ b. by (e.place (key_of x.1)) refl b)
      (or_cases (is_some (e.answer x.0)) (is_posted_as x.0 (e.place (key_of x.1))) h) where
        by : (p : Option Placed) → e.place (key_of x.1) ≡ p → is_posted_as x.0 p ≡ true → is_out f x ≡ true
        by None at b = absurd (cc b)
        by (Some y) at b =
            let parts = and_parts (y.number == x.0) y.posted b in
            let number = eqb-true y.number x.0 parts.0 in
            ⊎_elim
            (λ a. or_front (is_some (f.answer x.0)) (is_posted_as x.0 (f.place (key_of x.1))) (sym (ap (λ n. is_some (f.answer n)) number) ∙ a))
            (λ (G : StandsStill f (key_of x.1) y). or_back (is_some (f.answer x.0)) (is_posted_as x.0 (f.place (key_of x.1))) (ap (is_posted_as x.0) G.at ∙ and_from (G.placed_now.number == x.0) G.placed_now.posted (eq-eqb G.placed_now.number x.0 (G.number ∙ number)) (G.posted parts.1)))
            (goes (key_of x.1) y own at)

  begun_more_at : (class : ℕ) (y : ℕ × Request) (n : ℕ) → In y (enumerate_from 0 e.given) → cond {A = ℕ} (is_put_of l d class y.1 && is_begun e y) 1 0 + n ≤ cond {A = ℕ} (is_put_of l d class y.1 && is_begun f y) 1 0 → begun_puts l e d class + n ≤ begun_puts l f d class
  begun_more_at class y n i here =
      let le = sum_more_at (λ (x : ℕ × Request). cond {A = ℕ} (is_put_of l d class x.1 && is_begun e x) 1 0) (λ (x : ℕ × Request). cond {A = ℕ} (is_put_of l d class x.1 && is_begun f x) 1 0) (enumerate_from 0 e.given) y n i
      (λ x j. one_up (is_put_of l d class x.1) (is_begun e x) (is_begun f x) 1 (λ put. begun_goes x (put_owner l d class x.1 put))) here in
      let at = ap (λ xs. count_by (λ (x : ℕ × Request). is_put_of l d class x.1 && is_begun f x) (enumerate_from 0 xs)) given in
      omega (arith, le, at)

  pub begun_up : (class : ℕ) → begun_puts l e d class ≤ begun_puts l f d class
  begun_up class =
      let le = sum_up (λ (x : ℕ × Request). cond {A = ℕ} (is_put_of l d class x.1 && is_begun e x) 1 0) (λ (x : ℕ × Request). cond {A = ℕ} (is_put_of l d class x.1 && is_begun f x) 1 0) (enumerate_from 0 e.given)
      (λ x i. one_up (is_put_of l d class x.1) (is_begun e x) (is_begun f x) 1 (λ put. begun_goes x (put_owner l d class x.1 put))) in
      let at = ap (λ xs. count_by (λ (x : ℕ × Request). is_put_of l d class x.1 && is_begun f x) (enumerate_from 0 xs)) given in
      omega (arith, le, at)

  pub out_up : out_lines l e d ≤ out_lines l f d
  out_up =
      let le = sum_up (λ (x : ℕ × Request). cond {A = ℕ} (owner l (key_of x.1) == d && is_out e x) (lines_of l x.1) 0) (λ (x : ℕ × Request). cond {A = ℕ} (owner l (key_of x.1) == d && is_out f x) (lines_of l x.1) 0) (enumerate_from 0 e.given)
      (λ x i. one_up (owner l (key_of x.1) == d) (is_out e x) (is_out f x) (lines_of l x.1) (λ own. out_goes x (eqb-true (owner l (key_of x.1)) d own))) in
      let at = ap (λ xs. sum_by (λ (x : ℕ × Request). cond {A = ℕ} (owner l (key_of x.1) == d && is_out f x) (lines_of l x.1) 0) (enumerate_from 0 xs)) given in
      omega (arith, le, at)

  out_more_at : (y : ℕ × Request) (n : ℕ) → In y (enumerate_from 0 e.given) → cond {A = ℕ} (owner l (key_of y.1) == d && is_out e y) (lines_of l y.1) 0 + n ≤ cond {A = ℕ} (owner l (key_of y.1) == d && is_out f y) (lines_of l y.1) 0 → out_lines l e d + n ≤ out_lines l f d
  out_more_at y n i here =
      let le = sum_more_at (λ (x : ℕ × Request). cond {A = ℕ} (owner l (key_of x.1) == d && is_out e x) (lines_of l x.1) 0) (λ (x : ℕ × Request). cond {A = ℕ} (owner l (key_of x.1) == d && is_out f x) (lines_of l x.1) 0) (enumerate_from 0 e.given) y n i
      (λ x j. one_up (owner l (key_of x.1) == d) (is_out e x) (is_out f x) (lines_of l x.1) (λ own. out_goes x (eqb-true (owner l (key_of x.1)) d own))) here in
      let at = ap (λ xs. sum_by (λ (x : ℕ × Request). cond {A = ℕ} (owner l (key_of x.1) == d && is_out f x) (lines_of l x.1) 0) (enumerate_from 0 xs)) given in
      omega (arith, le, at)

-- A move of core c, by what it does to that core alone.
module _ (l : Geometry) (e f : Engine) (c : ℕ) (accepted : List (ℕ × Request)) (fixed : List Fixed) (O : OwnLines l c e) (M : OwnMoves l e f c accepted fixed) (P : SpendsRoom l e f c accepted fixed) where
  -- a request that was given stays answered
  pub answered_stays : (n : ℕ) → is_some (e.answer n) ≡ true → is_some (f.answer n) ≡ true
  answered_stays n is = ⊎_elim
      (λ there. ap (λ m. is_some (f.answer m)) (sym there.2) ∙ M.new there.0 there.1)
      (λ none. ap is_some (M.old n none) ∙ is)
      (fixed_there n fixed)

  -- a change in a place is answered, or stands there still
  own_goes : (k : ℕ) (y : Placed) → owner l k ≡ c → e.place k ≡ Some y → (is_some (f.answer y.number) ≡ true) ⊎ StandsStill f k y
  own_goes k y own at = by (fixed_of k fixed) refl where
    by : (fs : List Fixed) → fixed_of k fixed ≡ fs → (is_some (f.answer y.number) ≡ true) ⊎ StandsStill f k y
    by [] none = let z = P.stays k y own at none in inr (record { placed_now = z.0; at = z.1; number = z.2; posted = z.3 })
    by (z ∷ zs) some =
        let whole : (y.number, y.request) ∷ (e.waits k ++ requests_for k accepted) ≡ asked z ∷ (map asked zs ++ line f k) =
        sym (λ i. (request_placed (at i) ++ e.waits k) ++ requests_for k accepted) ∙ M.order k own ∙ ap (λ fs. map asked fs ++ line f k) some in
        let head : (y.number, y.request) ≡ asked z = cc whole in
        let here : In z fixed = (in_filter (λ (x : Fixed). key_of x.request == k) fixed z (subst (λ (fs : List Fixed). In z fs) (sym some) (inl refl))).0 in
        let is : z.number ≡ y.number = sym (ap (λ (x : ℕ × Request). x.0) head) in
        inl (ap (λ m. is_some (f.answer m)) (sym is) ∙ M.new z here)

  begun_grows : (class : ℕ) → begun_puts l e c class ≤ begun_puts l f c class
  begun_grows class = begun_up l e f c M.given answered_stays own_goes class

  -- a request of the core that waits, or is accepted now, was given and is not begun
  pub record Fresh (y : ℕ × Request) : Type 0 where
    pub given : In y (enumerate_from 0 e.given)
    pub none : e.answer y.0 ≡ None
    pub begun : is_begun e y ≡ false
    pub out : is_out e y ≡ false

  in_given : (k : ℕ) (y : ℕ × Request) → owner l k ≡ c → In y (line e k ++ requests_for k (e.backlog c)) → In y (enumerate_from 0 e.given)
  in_given k y own i = let s = O.split k own in (in_filter (λ (x : ℕ × Request). key_of x.1 == k) (enumerate_from 0 e.given) y (subst (λ (xs : List (ℕ × Request)). In y xs) (sym s.1) (in_back y s.0 _ i))).0

  in_hand : (y : ℕ × Request) → In y (e.waits (key_of y.1) ++ requests_for (key_of y.1) accepted) → In y (e.waits (key_of y.1) ++ requests_for (key_of y.1) (e.backlog c))
  in_hand y i = ⊎_elim
      (λ a. in_front y (e.waits k) (requests_for k (e.backlog c)) a)
      (λ b. in_back y (e.waits k) (requests_for k (e.backlog c)) (subst (λ (xs : List (ℕ × Request)). In y xs) (sym back) (in_front y (requests_for k accepted) (requests_for k (f.backlog c)) b)))
      (in_either y (e.waits k) (requests_for k accepted) i) where
        k : ℕ
        k = key_of y.1

        back : requests_for k (e.backlog c) ≡ requests_for k accepted ++ requests_for k (f.backlog c)
        back = ap (requests_for k) M.backlog ∙ filter-append (λ (x : ℕ × Request). key_of x.1 == k) accepted (f.backlog c)

  pub fresh : (y : ℕ × Request) → owner l (key_of y.1) ≡ c → In y (e.waits (key_of y.1) ++ requests_for (key_of y.1) accepted) → Fresh y
  fresh y own i =
      let k : ℕ = key_of y.1 in
      let waits = in_hand y i in
      let whole : In y (line e k ++ requests_for k (e.backlog c)) = subst (λ (xs : List (ℕ × Request)). In y xs) (sym (append_assoc (request_placed (e.place k)) (e.waits k) (requests_for k (e.backlog c)))) (in_back y (request_placed (e.place k)) _ waits) in
      let none = all_in (λ (x : ℕ × Request). e.answer x.0 ≡ None) _ y (O.waiting k own) whole in
      let number = unnumbered k own waits (e.place k) refl in
      record {
        given = in_given k y own whole;
        none = none;
        begun = (λ j. is_some (none j) || number j);
        out = ap (λ t. is_some t || is_posted_as y.0 (e.place k)) none ∙ unposted (e.place k) number;
      } where
        unnumbered : (k : ℕ) → owner l k ≡ c → In y (e.waits k ++ requests_for k (e.backlog c)) → (p : Option Placed) → e.place k ≡ p → is_numbered y.0 (e.place k) ≡ false
        unnumbered k own waits None at = ap (is_numbered y.0) at
        unnumbered k own waits (Some z) at =
            let s = O.split k own in
            let rising = up_tail s.0 (line e k ++ requests_for k (e.backlog c)) (subst IsUp s.1 (up k 0 e.given)) in
            let split : line e k ++ requests_for k (e.backlog c) ≡ (z.number, z.request) ∷ (e.waits k ++ requests_for k (e.backlog c)) = (λ j. (request_placed (at j) ++ e.waits k) ++ requests_for k (e.backlog c)) in
            let less = all_in (λ (x : ℕ × Request). z.number < x.0) _ y (subst IsUp split rising).0 waits in
            ap (is_numbered y.0) at ∙ ne_eqb z.number y.0 (λ q. absurd (omega (arith, less, q)))

        unposted : (p : Option Placed) → is_numbered y.0 p ≡ false → is_posted_as y.0 p ≡ false
        unposted None e = refl
        unposted (Some z) e = ap (λ b. b && z.posted) e

  -- the puts that were begun
  own_put : (class : ℕ) (q : Request) → owner l (key_of q) ≡ c → is_put_of l c class q ≡ is_put_in l class q
  own_put class (Put k v) own = ap (λ b. b && has_class (length v) class && nat_le (length v) (l.chunk_bytes / 4 - 8)) (eq-eqb (owner l k) c own)
  own_put class (Get k) own = refl
  own_put class (Delete k) own = refl

  begun_more : (class : ℕ) → begun_puts l e c class + puts_in l class P.begun ≤ begun_puts l f c class
  begun_more class = by P.begun refl where
    more : (b : Bool) → cond {A = ℕ} (b && false) 1 0 + one_if b ≤ cond {A = ℕ} (b && true) 1 0
    more true = omega arith
    more false = omega arith

    by : (b : Option (ℕ × Request)) → P.begun ≡ b → begun_puts l e c class + puts_in l class b ≤ begun_puts l f c class
    by None is = let le = begun_grows class in omega (arith, le)
    by (Some y) is =
        let B = P.begins y is in
        let F = fresh y B.own B.waits in
        let put = own_put class y.1 B.own in
        let now : is_begun f y ≡ true = or_back (is_some (f.answer y.0)) (is_numbered y.0 (f.place (key_of y.1))) (ap (is_numbered y.0) B.place ∙ eq-eqb y.0 y.0 refl) in
        let old = ap (λ b. cond {A = ℕ} (is_put_of l c class y.1 && b) 1 0) F.begun in
        let new = ap (λ b. cond {A = ℕ} (is_put_of l c class y.1 && b) 1 0) now in
        let count = ap one_if put in
        let here = more (is_put_of l c class y.1) in
        begun_more_at l e f c M.given answered_stays own_goes class y (one_if (is_put_in l class y.1)) F.given (omega (arith, old, new, count, here))

  -- the change that was posted
  out_more : (Q : PostsOne l e f c) → out_lines l e c + lines_of l Q.change.request ≤ out_lines l f c
  out_more Q =
      let k : ℕ = key_of Q.change.request in
      let y : ℕ × Request = (Q.change.number, Q.change.request) in
      let whole : In y (line e k ++ requests_for k (e.backlog c)) = subst (λ (p : Option Placed). In y ((request_placed p ++ e.waits k) ++ requests_for k (e.backlog c))) (sym Q.was) (inl refl) in
      let none = all_in (λ (x : ℕ × Request). e.answer x.0 ≡ None) _ y (O.waiting k Q.own) whole in
      let old : is_out e y ≡ false = (λ j. is_some (none j) || is_posted_as y.0 (Q.was j)) ∙ (λ j. (Q.change.number == y.0) && Q.staged j) ∙ and_none (Q.change.number == y.0) in
      let new : is_out f y ≡ true = or_back (is_some (f.answer y.0)) (is_posted_as y.0 (f.place k)) (ap (is_posted_as y.0) Q.now ∙ and_from (y.0 == y.0) true (eq-eqb y.0 y.0 refl) refl) in
      let mine : (owner l k == c) ≡ true = eq-eqb (owner l k) c Q.own in
      let a : cond {A = ℕ} (owner l k == c && is_out e y) (lines_of l y.1) 0 ≡ 0 = (λ j. cond {A = ℕ} (mine j && old j) (lines_of l y.1) 0) in
      let b : cond {A = ℕ} (owner l k == c && is_out f y) (lines_of l y.1) 0 ≡ lines_of l y.1 = (λ j. cond {A = ℕ} (mine j && new j) (lines_of l y.1) 0) in
      out_more_at l e f c M.given answered_stays own_goes y (lines_of l Q.change.request) (in_given k y Q.own whole) (omega (arith, a, b)) where
        and_none : (b : Bool) → (b && false) ≡ false
        and_none true = refl
        and_none false = refl

  -- the lines of the entries that it posted
  pub own_posted : lines_in ((e.group (group_of l c)).posted (member_of l c)) ≤ out_lines l e c → lines_in ((f.group (group_of l c)).posted (member_of l c)) ≤ out_lines l f c
  own_posted before = ⊎_elim
      (λ stays. let at = ap lines_in stays in let grows = out_up l e f c M.given answered_stays own_goes in omega (arith, at, grows, before))
      (λ (Q : PostsOne l e f c).
      let one : lines_in ((f.group (group_of l c)).posted (member_of l c)) ≡ lines_in ((e.group (group_of l c)).posted (member_of l c)) + lines_in (Q.entry ∷ []) = ap lines_in Q.more ∙ sum_by-append _ ((e.group (group_of l c)).posted (member_of l c)) (Q.entry ∷ []) in
      let few = single Q.entry (lines_of l Q.change.request) Q.few in
      let grows = out_more Q in
      omega (arith, one, few, grows, before))
      P.posts where
        single : (d : Entry) (n : ℕ) → lines_for (length (words_of d)) ≤ n → lines_in (d ∷ []) ≤ n
        single d n le = omega (arith, le)

  -- its room
  module _ (o : Origin) (is_layout : IsLayout l) where
    ran : f.stopped c ≡ false → e.stopped c ≡ false
    ran off = by (e.stopped c) refl where
      by : (b : Bool) → e.stopped c ≡ b → e.stopped c ≡ false
      by false is = is
      by true is = absurd (let both : true ≡ false = sym (M.stays_stopped is) ∙ off in cc both)

    -- Where it cleaned, little was free: an ample input excludes that.
    pub own_room : (e.stopped c ≡ false → HasRoom l o e c) → ((e.stock c).chunks ≤ 1 → HasRoom l o e c → ⊥) → f.stopped c ≡ false → HasRoom l o f c
    own_room before scarce runs = ⊎_elim
        (λ (Q : Spends l ((e.group (group_of l c)).took (member_of l c)) ((e.group (group_of l c)).flying (member_of l c)) ((f.group (group_of l c)).took (member_of l c)) ((f.group (group_of l c)).flying (member_of l c)) (e.stock c) (f.stock c) P.begun). own_room_by (before (ran runs)) Q)
        (λ (C : CleansIn l (e.stock c) (f.stock c) accepted fixed). absurd (scarce C.scarce (before (ran runs))))
        (P.spends runs) where
          own_room_by : HasRoom l o e c → Spends l ((e.group (group_of l c)).took (member_of l c)) ((e.group (group_of l c)).flying (member_of l c)) ((f.group (group_of l c)).took (member_of l c)) ((f.group (group_of l c)).flying (member_of l c)) (e.stock c) (f.stock c) P.begun → HasRoom l o f c
          own_room_by H Q = record {
            opened = H.opened + one_if Q.opened;
            cuts = λ k. H.cuts k + one_if (is_cut_for Q.cut k);
            chunks = (let was = H.chunks in let now = Q.chunks in let sum = cut_sum Q.cut refl in omega (arith, was, now, sum));
            lines = filled Q.opened refl Q.lines;
            small = Q.small;
            blocks = cut_blocks;
            last = cut_last;
            class = cut_class;
          } where
            roomy : 4 ≤ payload_lines l
            roomy = let big = chunk_big l is_layout in omega (arith, big)

            cut_sum : (x : Option ℕ) → Q.cut ≡ x → sum_by H.cuts (numbers 1 GREATEST_CLASS) + one_if (is_some Q.cut) ≤ sum_by (λ k. H.cuts k + one_if (is_cut_for Q.cut k)) (numbers 1 GREATEST_CLASS)
            cut_sum None is = let none = ap (λ (x : Option ℕ). one_if (is_some x)) is in let le = sum_up H.cuts (λ k. H.cuts k + one_if (is_cut_for Q.cut k)) (numbers 1 GREATEST_CLASS) (λ k i. omega arith) in omega (arith, none, le)
            cut_sum (Some k) is =
                let b = class_bounds l k (Q.class k is) in
                let low = b.0 in
                let high = b.1 in
                let one = ap (λ (x : Option ℕ). one_if (is_some x)) is in
                let here = ap (λ (x : Option ℕ). one_if (is_cut_for x k)) is ∙ ap one_if (eq-eqb k k refl) in
                let le = numbers_one 1 GREATEST_CLASS k H.cuts (λ j. H.cuts j + one_if (is_cut_for Q.cut j)) low (omega (arith, high)) (λ j. omega arith) (omega (arith, here)) in
                omega (arith, one, le)

            filled : (b : Bool) → Q.opened ≡ b → cond Q.opened (payload_lines l) (e.stock c).lines + (lines_in ((e.group (group_of l c)).took (member_of l c)) + lines_in ((f.group (group_of l c)).flying (member_of l c))) ≤ (f.stock c).lines + (lines_in ((f.group (group_of l c)).took (member_of l c)) + lines_in ((e.group (group_of l c)).flying (member_of l c)))
                → (H.opened + one_if Q.opened) * (payload_lines l - 4) + lines_in ((f.group (group_of l c)).flying (member_of l c)) ≤ lines_in ((f.group (group_of l c)).took (member_of l c)) + (f.stock c).lines
            filled false is le =
                let now = ap (λ b. cond {A = ℕ} b (payload_lines l) (e.stock c).lines) is in
                let times = ap (λ b. (H.opened + one_if b) * (payload_lines l - 4)) is ∙ ap (λ n. n * (payload_lines l - 4)) (let z : H.opened + 0 ≡ H.opened = omega arith in z) in
                let was = H.lines in
                omega (arith, was, times, now, le)
            filled true is le =
                let now = ap (λ b. cond {A = ℕ} b (payload_lines l) (e.stock c).lines) is in
                let few = Q.late is in
                let times : (H.opened + one_if Q.opened) * (payload_lines l - 4) ≡ H.opened * (payload_lines l - 4) + (payload_lines l - 4) = ap (λ b. (H.opened + one_if b) * (payload_lines l - 4)) is ∙ (let split : (H.opened + 1) * (payload_lines l - 4) ≡ H.opened * (payload_lines l - 4) + (payload_lines l - 4) = omega arith in split) in
                let was = H.lines in
                let large = roomy in
                omega (arith, was, times, now, few, large, le)

            cut_blocks : (k : ℕ) → (H.cuts k + one_if (is_cut_for Q.cut k)) * blocks_in l k ≤ (f.stock c).blocks k + begun_puts l f c k
            cut_blocks k = by (is_cut_for Q.cut k) (Q.blocks k) where
              by : (b : Bool) → (e.stock c).blocks k + cond {A = ℕ} b (blocks_in l k) 0 ≤ (f.stock c).blocks k + puts_in l k P.begun → (H.cuts k + one_if b) * blocks_in l k ≤ (f.stock c).blocks k + begun_puts l f c k
              by true le = let split : (H.cuts k + 1) * blocks_in l k ≡ H.cuts k * blocks_in l k + blocks_in l k = omega arith in let was = H.blocks k in let grows = begun_more k in omega (arith, split, was, le, grows)
              by false le = let split : (H.cuts k + 0) * blocks_in l k ≡ H.cuts k * blocks_in l k + 0 = omega arith in let was = H.blocks k in let grows = begun_more k in omega (arith, split, was, le, grows)

            is_it : (x : Option ℕ) (k : ℕ) → is_cut_for x k ≡ true → x ≡ Some k
            is_it None k e = absurd (cc e)
            is_it (Some d) k e = ap Some (eqb-true d k e)

            cut_last : (k : ℕ) → H.cuts k + one_if (is_cut_for Q.cut k) ≢ 0 → (H.cuts k + one_if (is_cut_for Q.cut k)) * blocks_in l k + 1 ≤ begun_puts l f c k + blocks_in l k
            cut_last k some = by (is_cut_for Q.cut k) refl some where
              by : (b : Bool) → is_cut_for Q.cut k ≡ b → H.cuts k + one_if b ≢ 0 → (H.cuts k + one_if b) * blocks_in l k + 1 ≤ begun_puts l f c k + blocks_in l k
              by true t some =
                  let at = is_it Q.cut k t in
                  let split : (H.cuts k + 1) * blocks_in l k ≡ H.cuts k * blocks_in l k + blocks_in l k = omega arith in
                  let was = H.blocks k in
                  let none = Q.none k at in
                  let one = Q.puts k at in
                  let grows = begun_more k in
                  omega (arith, split, was, none, one, grows)
              by false t some =
                  let split : (H.cuts k + 0) * blocks_in l k ≡ H.cuts k * blocks_in l k = omega arith in
                  let was = H.last k (λ z. some (omega (arith, z))) in
                  let grows = begun_grows k in
                  omega (arith, split, was, grows)

            cut_class : (k : ℕ) → H.cuts k + one_if (is_cut_for Q.cut k) ≢ 0 → is_class l k ≡ true
            cut_class k some = by (is_cut_for Q.cut k) refl some where
              by : (b : Bool) → is_cut_for Q.cut k ≡ b → H.cuts k + one_if b ≢ 0 → is_class l k ≡ true
              by true t some = Q.class k (is_it Q.cut k t)
              by false t some = H.class k (λ z. some (omega (arith, z)))

-- A move of core c in an engine's state.
module _ (o : Origin) (e f : Engine) (c : ℕ) (accepted : List (ℕ × Request)) (fixed : List Fixed) (S : Stands o e) (M : Moves e f c accepted fixed) (P : SpendsRoom e.layout e f c accepted fixed) (R : Rooms o e) where
  abbrev L : Geometry
  L = layout_of o.found

  layout_is : IsLayout L
  layout_is = (superblock_facts o.region.frame.bytes o.found (has_layout o.region.frame.bytes o.found S.sound)).1

  own_l : (k d : ℕ) → owner L k ≡ d → owner e.layout k ≡ d
  own_l k d own = subst (λ (m : Geometry). owner m k ≡ d) (sym S.layout) own

  pub own_lines : OwnLines L c e
  own_lines = record {
    split = λ k own. (map (λ (x : Served). (x.number, x.request)) (S.keys k).served, subst (λ (d : ℕ). requests_of k e.given ≡ map (λ (x : Served). (x.number, x.request)) (S.keys k).served ++ (line e k ++ requests_for k (e.backlog d))) (own_l k c own) (S.keys k).split);
    waiting = λ k own. subst (λ (d : ℕ). AllByRecursion (λ (x : ℕ × Request). e.answer x.0 ≡ None) (line e k ++ requests_for k (e.backlog d))) (own_l k c own) (S.keys k).waiting;
  }

  pub own_moves : OwnMoves L e f c accepted fixed
  own_moves = record {
    given = M.given;
    backlog = M.backlog;
    order = λ k own. (M.keys k (own_l k c own)).order;
    new = λ x i. ap is_some (M.answers.new x i);
    old = M.answers.old;
    stays_stopped = M.stays_stopped;
  }

  pub spends : SpendsRoom L e f c accepted fixed
  spends = subst (λ (m : Geometry). SpendsRoom m e f c accepted fixed) S.layout P

  -- what another core has stays
  stays : (d : ℕ) → d ≢ c → (k : ℕ) (y : Placed) → owner L k ≡ d → e.place k ≡ Some y → (is_some (f.answer y.number) ≡ true) ⊎ StandsStill f k y
  stays d ne k y own at = inr (record { placed_now = y; at = (M.other_keys k (λ same. ne (sym (own_l k d own) ∙ same))).0 ∙ at; number = refl; posted = λ p. p })

  answered : (n : ℕ) → is_some (e.answer n) ≡ true → is_some (f.answer n) ≡ true
  answered n is = answered_stays L e f c accepted fixed own_lines own_moves spends n is

  view_stays : (d : ℕ) → d ≢ c → view_of (f.group (group_of L d)) (member_of L d) ≡ view_of (e.group (group_of L d)) (member_of L d)
  view_stays d ne = subst (λ (m : Geometry). view_of (f.group (group_of m d)) (member_of m d) ≡ view_of (e.group (group_of m d)) (member_of m d)) S.layout (other_view e.layout c e.group f.group M.steps M.other_groups M.runs d ne)

  pub posted_there : (d : ℕ) → d < L.cores → lines_in ((f.group (group_of L d)).posted (member_of L d)) ≤ out_lines L f d
  posted_there d low = ⊎_elim
      (λ mine. subst (λ (b : ℕ). lines_in ((f.group (group_of L b)).posted (member_of L b)) ≤ out_lines L f b) (sym mine)
      (own_posted L e f c accepted fixed own_lines own_moves spends (subst (λ (b : ℕ). lines_in ((e.group (group_of L b)).posted (member_of L b)) ≤ out_lines L e b) mine (R.posted d low))))
      (λ ne. let was = R.posted d low in let at = ap (λ (v : View). lines_in v.posted) (view_stays d ne) in let grows = out_up L e f d M.given answered (stays d ne) in omega (arith, was, at, grows))
      (cases_eq d c)

  pub strangers_there : (g m : ℕ) → L.group ≤ m → (f.group g).posted m ≡ []
  strangers_there g m high = ⊎_elim
      (λ mine. ap (λ h. (f.group h).posted m) mine ∙ ap (λ (v : View). v.posted) (run_frame (e.group (group_of e.layout c)) (member_of e.layout c) M.steps (f.group (group_of e.layout c)) m stranger M.runs) ∙ R.strangers (group_of e.layout c) m high)
      (λ other. ap (λ (w : Group). w.posted m) (M.other_groups g other) ∙ R.strangers g m high)
      (cases_eq g (group_of e.layout c)) where
        stranger : m ≢ member_of e.layout c
        stranger at = let low = member_low L layout_is c in let size = ap (λ (n : Geometry). member_of n c) S.layout in absurd (omega (arith, low, size, high, at))

  -- another core's room
  pub other_room : (d : ℕ) → d < L.cores → d ≢ c → f.stopped d ≡ false → (more : List Request) → IsAmpleFor L o.found (e.given ++ more) d → HasRoom L o f d
  other_room d low ne runs more ample =
      let H = R.room d low (sym (M.other_stops d ne) ∙ runs) more ample in
      let at = view_stays d ne in
      let stock = M.other_stocks d ne in
      let flying = ap (λ (v : View). lines_in v.flying) at in
      let took = ap (λ (v : View). lines_in v.took) at in
      let chunks = ap (λ (s : Stock). s.chunks) stock in
      let lines = ap (λ (s : Stock). s.lines) stock in
      record {
        opened = H.opened;
        cuts = H.cuts;
        chunks = (let was = H.chunks in omega (arith, was, chunks));
        lines = (let was = H.lines in omega (arith, was, flying, took, lines));
        small = (let was = H.small in omega (arith, was, lines));
        blocks = λ k. (let was = H.blocks k in let grows = begun_up L e f d M.given answered (stays d ne) k in let blocks = ap (λ (s : Stock). s.blocks k) stock in omega (arith, was, grows, blocks));
        last = λ k some. (let was = H.last k some in let grows = begun_up L e f d M.given answered (stays d ne) k in omega (arith, was, grows));
        class = H.class;
      }

  -- the core's own
  pub mine_room : c < L.cores → f.stopped c ≡ false → (more : List Request) → IsAmpleFor L o.found (e.given ++ more) c → ((e.stock c).chunks ≤ 1 → HasRoom L o e c → ⊥) → HasRoom L o f c
  mine_room low runs more ample scarce = own_room L e f c accepted fixed own_lines own_moves spends o layout_is (λ ran. R.room c low ran more ample) scarce runs

  -- the free lines of its open chunk
  pub small_there : (d : ℕ) → d < L.cores → f.stopped d ≡ false → (f.stock d).lines ≤ payload_lines L
  small_there d low runs = ⊎_elim
      (λ mine. subst (λ (b : ℕ). (f.stock b).lines ≤ payload_lines L) (sym mine) (⊎_elim
      (λ (Q : Spends L ((e.group (group_of L c)).took (member_of L c)) ((e.group (group_of L c)).flying (member_of L c)) ((f.group (group_of L c)).took (member_of L c)) ((f.group (group_of L c)).flying (member_of L c)) (e.stock c) (f.stock c) spends.begun). Q.small)
      (λ (C : CleansIn L (e.stock c) (f.stock c) accepted fixed). C.small)
      (spends.spends (sym (ap f.stopped mine) ∙ runs))))
      (λ ne. let was = R.small d low (sym (M.other_stops d ne) ∙ runs) in let same = ap (λ (s : Stock). s.lines) (M.other_stocks d ne) in omega (arith, was, same))
      (cases_eq d c)
