-- The rooms after a move, at first, and after a request is given.
use Rattle.std.proofs.Common.{◌≡◌, ⊎_elim, ℕ, zero, suc, ◌+◌, ◌*◌, ◌<◌, ◌≤◌, ◌==◌, ◌&&◌, List, [], ◌∷◌, ◌++◌, map, length, refl, sym, ◌∙◌, ap, subst, arith, cond, Some, append_assoc}
use Rattle.std.specs.Prelude.{option_map}
use Rattle.std.specs.List.{count_by, sum_by, slice_get, enumerate_from}
use Rattle.std.proofs.lemmas.Bool.{cases_eq, cases_lt, eq-eqb}
use Rattle.std.proofs.lemmas.List.Sums.{sum_by-append}
use Rattle.fs_model.specs.declared.model.Request.{Request}
use Rattle.fs_model.specs.declared.model.Reply.{Reply}
use Rattle.fs_model.specs.declared.model.Reply.TheVariants.{Full}
use Rattle.fs_model.specs.Cells.{key_of}
use Rattle.chunk_map.specs.declared.layout_sizes.TheConstants.{GREATEST_CLASS}
use Rattle.chunk_map.specs.declared.layouts.Geometry.{Geometry}
use Rattle.chunk_map.specs.Layouts.{layout_of, owner, numbers, IsLayout}
use Rattle.store_image.specs.Facts.{In}
use Rattle.store_image.proofs.Clients.{has_layout, superblock_facts}
use Rattle.group_laws.proofs.Clients.{in_map}
use Rattle.headline.specs.Ample.{lines_of, log_bytes, is_put_of, IsAmpleFor}
use Rattle.headline.specs.Limits.{IsAsked}
use Rattle.engine_laws.specs.Parts.{Groups, group_of, member_of}
use Rattle.engine_laws.specs.FreeStock.{LacksRoom}
use Rattle.engine_laws.specs.WorkerMoves.{Fixed, asked, replied, fixed_of, requests_for}
use Rattle.engine_laws.specs.Engine.{Engine, Answer}
use Rattle.engine_laws.specs.Moves.{Moves}
use Rattle.engine_laws.specs.Stands.{Origin, Stands, given_to, opening}
use Rattle.engine_laws.specs.Spending.{lines_in, SpendsRoom}
use Rattle.engine_laws.specs.Rooms.{is_begun, is_out, begun_puts, out_lines, HasRoom, Rooms}
use Rattle.engine_laws.proofs.Numbers.{all_in, filter_in}
use Rattle.engine_laws.proofs.RoomSums.{sum_cons, in_enumerated}
use Rattle.engine_laws.proofs.GroupLines.{out_within, taken_within}
use Rattle.engine_laws.proofs.RoomMoves.{Fresh, fixed_there, fresh, own_lines, own_moves, spends, mine_room, other_room, small_there, posted_there, strangers_there}
use Rattle.engine_laws.proofs.RoomNeeds.{not_ample, not_scarce}

-- All of it after a move.
module _ (o : Origin) (e f : Engine) (c : ℕ) (accepted : List (ℕ × Request)) (fixed : List Fixed) (S : Stands o e) (M : Moves e f c accepted fixed) (P : SpendsRoom e.layout e f c accepted fixed) (R : Rooms o e) where
  abbrev L : Geometry
  L = layout_of o.found

  low : c < L.cores
  low = subst (λ (m : Geometry). c < m.cores) S.layout M.core

  layout_is : IsLayout L
  layout_is = (superblock_facts o.region.frame.bytes o.found (has_layout o.region.frame.bytes o.found S.sound)).1

  fresh_there : (y : ℕ × Request) → owner L (key_of y.1) ≡ c → In y (e.waits (key_of y.1) ++ requests_for (key_of y.1) accepted) → Fresh L e f c accepted fixed (own_lines o e f c accepted fixed S M P R) (own_moves o e f c accepted fixed S M P R) (spends o e f c accepted fixed S M P R) y
  fresh_there y own i = fresh L e f c accepted fixed (own_lines o e f c accepted fixed S M P R) (own_moves o e f c accepted fixed S M P R) (spends o e f c accepted fixed S M P R) y own i

  groups : Groups L e.group
  groups = subst (λ (m : Geometry). Groups m e.group) S.layout S.groups

  took_few : (more : List Request) → 64 * lines_in ((e.group (group_of L c)).took (member_of L c)) ≤ log_bytes L c (e.given ++ more)
  took_few more = taken_within L layout_is e.group groups (λ g m there high. R.strangers g m high) (e.given ++ more) (λ d there. (let is = R.posted d there in let all = out_within L e d more in omega (arith, is, all))) c low

  full_now : (x : Fixed) → In x fixed → x.reply ≡ Full → (more : List Request) → IsAmpleFor L o.found (e.given ++ more) c → ⊥
  full_now x i is more =
      let r = P.runs x i is in
      let own = M.own_answers x i in
      let k : ℕ = key_of x.request in
      let F = fresh_there (asked x) (subst (λ (m : Geometry). owner m k ≡ c) S.layout own) r.1 in
      let lacks = all_in (λ (y : Request × Reply). y.1 ≡ Full → LacksRoom e.layout (e.stock c) y.0) (map replied (fixed_of k fixed)) (replied x) (M.refuses k own).full (in_map replied x (fixed_of k fixed) (filter_in (λ (z : Fixed). key_of z.request == k) fixed x i (eq-eqb k k refl))) is in
      λ ample. not_ample o e layout_is c (R.room c low r.0 more ample) x.request x.number (subst (λ (m : Geometry). owner m k ≡ c) S.layout own) F.given F.begun (subst (λ (m : Geometry). LacksRoom m (e.stock c) x.request) S.layout lacks) more (took_few more) ample

  full_there : (n k : ℕ) (a : Answer) → f.answer n ≡ Some a → a.reply ≡ Full → IsAsked f.given n k → (more : List Request) → IsAmpleFor L o.found (f.given ++ more) (owner L k) → ⊥
  full_there n k a is full asked_n more ample = ⊎_elim
      (λ there.
      let x : Fixed = there.0 in
      let i : In x fixed = there.1 in
      let number : x.number ≡ n = there.2 in
      let both : Some (record { reply = x.reply; stamp = f.region.stamp }) ≡ Some a = sym (M.answers.new x i) ∙ ap f.answer number ∙ is in
      let same : record { reply = x.reply; stamp = f.region.stamp } ≡ a = cc both in
      let reply : x.reply ≡ Full = ap (λ (y : Answer). y.reply) same ∙ full in
      let own = M.own_answers x i in
      let r = P.runs x i reply in
      let F = fresh_there (asked x) (subst (λ (m : Geometry). owner m (key_of x.request) ≡ c) S.layout own) r.1 in
      let at = in_enumerated 0 e.given (asked x) F.given in
      let place : at.0 ≡ n = (let p = at.1 in omega (arith, p, number)) in
      let request : slice_get e.given n ≡ Some x.request = ap (slice_get e.given) (sym place) ∙ at.2 in
      let key : key_of x.request ≡ k = (let both : Some (key_of x.request) ≡ Some k = sym (ap (option_map key_of) request) ∙ ap (λ (xs : List Request). option_map key_of (slice_get xs n)) (sym M.given) ∙ asked_n in cc both) in
      let mine : owner L k ≡ c = ap (owner L) (sym key) ∙ subst (λ (m : Geometry). owner m (key_of x.request) ≡ c) S.layout own in
      full_now x i reply more (subst (λ (d : ℕ). IsAmpleFor L o.found (e.given ++ more) d) mine (subst (λ (xs : List Request). IsAmpleFor L o.found (xs ++ more) (owner L k)) M.given ample)))
      (λ none. R.full n k a (sym (M.answers.old n none) ∙ is) full (subst (λ (xs : List Request). IsAsked xs n k) M.given asked_n) more (subst (λ (xs : List Request). IsAmpleFor L o.found (xs ++ more) (owner L k)) M.given ample))
      (fixed_there n fixed)

  pub rooms_on : Rooms o f
  rooms_on = record {
    room = λ d lower runs more ample.
        let before : IsAmpleFor L o.found (e.given ++ more) d = subst (λ (xs : List Request). IsAmpleFor L o.found (xs ++ more) d) M.given ample in
        ⊎_elim
        (λ same.
        let mine : IsAmpleFor L o.found (e.given ++ more) c = subst (λ (x : ℕ). IsAmpleFor L o.found (e.given ++ more) x) same before in
        subst (λ (x : ℕ). HasRoom L o f x) (sym same) (mine_room o e f c accepted fixed S M P R low (sym (ap f.stopped same) ∙ runs) more mine (λ few H. not_scarce o e layout_is c H more few (took_few more) mine)))
        (λ ne. other_room o e f c accepted fixed S M P R d lower ne runs more before)
        (cases_eq d c);
    small = λ d lower runs. small_there o e f c accepted fixed S M P R d lower runs;
    posted = posted_there o e f c accepted fixed S M P R;
    strangers = strangers_there o e f c accepted fixed S M P R;
    full = full_there;
  }

-- At first nothing is spent.
pub rooms_opened : (o : Origin) → Rooms o (opening o)
rooms_opened o = record {
  small = λ c low runs. omega arith;
  room = λ c low runs more ample. record {
    opened = 0;
    cuts = λ k. 0;
    chunks = (let none = none_cut (numbers 1 GREATEST_CLASS) in omega (arith, none));
    lines = omega arith;
    small = omega arith;
    blocks = λ k. omega arith;
    last = λ k some. absurd (some refl);
    class = λ k some. absurd (some refl);
  };
  posted = λ c low. omega arith;
  strangers = λ g m high. refl;
  full = λ n k a is. absurd (cc is);
} where
  none_cut : (xs : List ℕ) → sum_by (λ (k : ℕ). 0) xs ≡ 0
  none_cut [] = refl
  none_cut (x ∷ xs) = let rest = none_cut xs in let a = sum_cons (λ (k : ℕ). 0) x xs in omega (arith, rest, a)

-- A request is given.
module _ (o : Origin) (e : Engine) (q : Request) (S : Stands o e) (R : Rooms o e) where
  abbrev N : Geometry
  N = layout_of o.found

  abbrev g : Engine
  g = given_to e q

  enumerated_more : (n : ℕ) (xs : List Request) → enumerate_from n (xs ++ q ∷ []) ≡ enumerate_from n xs ++ (n + length xs, q) ∷ []
  enumerated_more n [] = ap (λ m. (m, q) ∷ []) (let z : n ≡ n + 0 = omega arith in z)
  enumerated_more n (x ∷ xs) = ap (λ ys. (n, x) ∷ ys) (enumerated_more (n + 1) xs ∙ ap (λ m. enumerate_from (n + 1) xs ++ (m, q) ∷ []) (let z : n + 1 + length xs ≡ n + suc (length xs) = omega arith in z))

  more_begun : (c class : ℕ) → begun_puts N e c class ≤ begun_puts N g c class
  more_begun c class =
      let at = ap (λ (ys : List (ℕ × Request)). count_by (λ (x : ℕ × Request). is_put_of N c class x.1 && is_begun e x) ys) (enumerated_more 0 e.given) in
      let split = sum_by-append (λ (x : ℕ × Request). cond {A = ℕ} (is_put_of N c class x.1 && is_begun e x) 1 0) (enumerate_from 0 e.given) ((0 + length e.given, q) ∷ []) in
      omega (arith, at, split)

  more_out : (d : ℕ) → out_lines N e d ≤ out_lines N g d
  more_out d =
      let at = ap (λ (ys : List (ℕ × Request)). sum_by (λ (x : ℕ × Request). cond {A = ℕ} (owner N (key_of x.1) == d && is_out e x) (lines_of N x.1) 0) ys) (enumerated_more 0 e.given) in
      let split = sum_by-append (λ (x : ℕ × Request). cond {A = ℕ} (owner N (key_of x.1) == d && is_out e x) (lines_of N x.1) 0) (enumerate_from 0 e.given) ((0 + length e.given, q) ∷ []) in
      omega (arith, at, split)

  -- who was answered was asked before
  asked_before : (n k : ℕ) (a : Answer) → e.answer n ≡ Some a → IsAsked (e.given ++ q ∷ []) n k → IsAsked e.given n k
  asked_before n k a is asked_n = ⊎_elim
      (λ lt. ap (option_map key_of) (sym (get_front e.given n lt)) ∙ asked_n)
      (λ ge. absurd (let none = S.unasked n ge in cc (none, is)))
      (cases_lt n (length e.given)) where
        get_front : (xs : List Request) (i : ℕ) → i < length xs → slice_get (xs ++ q ∷ []) i ≡ slice_get xs i
        get_front [] i lt = absurd (omega (arith, lt))
        get_front (x ∷ xs) zero lt = refl
        get_front (x ∷ xs) (suc i) lt = get_front xs i (omega (arith, lt))

  pub rooms_given : Rooms o g
  rooms_given = record {
    small = R.small;
    room = λ c low runs more ample. let H = R.room c low runs (q ∷ more) (subst (λ (xs : List Request). IsAmpleFor N o.found xs c) (append_assoc e.given (q ∷ []) more) ample) in record {
      opened = H.opened;
      cuts = H.cuts;
      chunks = H.chunks;
      lines = H.lines;
      small = H.small;
      blocks = λ k. (let was = H.blocks k in let up = more_begun c k in omega (arith, was, up));
      last = λ k some. (let was = H.last k some in let up = more_begun c k in omega (arith, was, up));
      class = H.class;
    };
    posted = λ d low. (let was = R.posted d low in let up = more_out d in omega (arith, was, up));
    strangers = R.strangers;
    full = λ n k a is full asked_n more ample. R.full n k a is full (asked_before n k a is asked_n) (q ∷ more) (subst (λ (xs : List Request). IsAmpleFor N o.found xs (owner N k)) (append_assoc e.given (q ∷ []) more) ample);
  }
