-- A call of a worker, as its contract says it, is a move of the engine.
use Rattle.std.proofs.Common.{◌≡◌, ◌≢◌, inl, inr, ℕ, ◌<◌, ◌==◌, List, [], ◌∷◌, ◌++◌, map, Bool, true, false, cond, Option, Some, refl, sym, ◌∙◌, ap, subst, arith, append_assoc}
use Rattle.std.specs.List.{AllByRecursion}
use Rattle.std.proofs.lemmas.Bool.{eq-eqb, ne_eqb, eqb-true, eqb-false}
use Rattle.std.proofs.lemmas.List.Elements.{filter-append}
use Rattle.fs_model.specs.declared.model.Request.{Request}
use Rattle.fs_model.specs.Cells.{key_of}
use Rattle.fs_model.specs.Changes.{requests_of}
use Rattle.pm_region.specs.State.{State}
use Rattle.chunk_map.specs.Layouts.{owner, IsLayout}
use Rattle.store_image.specs.Facts.{In}
use Rattle.store_image.proofs.Clients.{in_front, in_back}
use Rattle.group_laws.specs.State.{Group}
use Rattle.group_laws.proofs.Clients.{in_map}
use Rattle.group_laws.specs.MemberViews.{View, view_of}
use Rattle.group_laws.specs.Regions.{place_at}
use Rattle.engine_laws.specs.Parts.{group_of, member_of}
use Rattle.engine_laws.specs.FreeStock.{Stock, IsAtLeast}
use Rattle.engine_laws.specs.WorkerMoves.{Hands, Fixed, line_in, asked, fixed_of, requests_for, WorkerMoves}
use Rattle.engine_laws.specs.Engine.{Engine, Answer, line}
use Rattle.engine_laws.specs.Moves.{Moves}
use Rattle.engine_laws.specs.Keys.{Served, KeyStands}
use Rattle.engine_laws.specs.Workers.{Sits, Around}
use Rattle.engine_laws.specs.Advance.{answered, moved_to}
use Rattle.engine_laws.proofs.Numbers.{IsUp, up, up_tail, all_in, one_key, filter_in}
use Rattle.engine_laws.proofs.CauseLaws.{at_least_same}
use Rattle.engine_laws.proofs.Cores.{of_member, of_core}
use Rattle.engine_laws.proofs.Workers.{line_is, worker_moves}

-- in a rising list a number stands once
up_once : (xs : List Fixed) (x y : Fixed) → IsUp (map asked xs) → In x xs → In y xs → x.number ≡ y.number → x ≡ y
up_once [] x y u i j e = absurd i
up_once (z ∷ zs) x y u (inl p) (inl q) e = p ∙ sym q
up_once (z ∷ zs) x y u (inl p) (inr j) e = absurd (let less = all_in (λ (w : ℕ × Request). z.number < w.0) (map asked zs) (asked y) u.0 (in_map asked y zs j) in let same = ap (λ (w : Fixed). w.number) p in omega (arith, less, same, e))
up_once (z ∷ zs) x y u (inr i) (inl q) e = absurd (let less = all_in (λ (w : ℕ × Request). z.number < w.0) (map asked zs) (asked x) u.0 (in_map asked x zs i) in let same = ap (λ (w : Fixed). w.number) q in omega (arith, less, same, e))
up_once (z ∷ zs) x y u (inr i) (inr j) e = up_once zs x y u.1 i j e

up_front : (xs ys : List (ℕ × Request)) → IsUp (xs ++ ys) → IsUp xs
up_front [] ys u = tt
up_front (x ∷ xs) ys u = (front xs u.0, up_front xs ys u.1) where
  front : (zs : List (ℕ × Request)) → AllByRecursion (λ (y : ℕ × Request). x.0 < y.0) (zs ++ ys) → AllByRecursion (λ (y : ℕ × Request). x.0 < y.0) zs
  front [] h = tt
  front (z ∷ zs) h = (h.0, front zs h.1)

-- the first answer of a number is its answer, where no two have one
answered_new : (xs : List Fixed) (t : ℕ) (old : Option Answer) (x : Fixed) → ((y : Fixed) → In y xs → y.number ≡ x.number → y ≡ x) → In x xs → answered xs t x.number old ≡ Some (record { reply = x.reply; stamp = t })
answered_new [] t old x once i = absurd i
answered_new (z ∷ zs) t old x once i = elim (z.number == x.number) as (λ b. (z.number == x.number) ≡ b → cond b (Some (record { reply = z.reply; stamp = t })) (answered zs t x.number old) ≡ Some (record { reply = x.reply; stamp = t })) [
  | true ↦ λ q. ap (λ (y : Fixed). Some (record { reply = y.reply; stamp = t })) (once z (inl refl) (eqb-true z.number x.number q))
  | false ↦ λ q. behind q i (answered_new zs t old x (λ y j. once y (inr j)))
] refl where
  behind : (z.number == x.number) ≡ false → In x (z ∷ zs) → (In x zs → answered zs t x.number old ≡ Some (record { reply = x.reply; stamp = t })) → answered zs t x.number old ≡ Some (record { reply = x.reply; stamp = t })
  behind q (inl same) again = absurd (eqb-false z.number x.number q (ap (λ (y : Fixed). y.number) (sym same)))
  behind q (inr j) again = again j

answered_old : (xs : List Fixed) (t n : ℕ) (old : Option Answer) → ((x : Fixed) → In x xs → x.number ≢ n) → answered xs t n old ≡ old
answered_old [] t n old none = refl
answered_old (z ∷ zs) t n old none = ap (λ b. cond b (Some (record { reply = z.reply; stamp = t })) (answered zs t n old)) (ne_eqb z.number n (none z (inl refl))) ∙ answered_old zs t n old (λ x i. none x (inr i))

module _ (start : ℕ → Option (List ℕ)) (e : Engine) (c : ℕ) (t : State) (b : Group) (v u : View) (w x : Hands) (takes : Bool) (accepted rest : List (ℕ × Request)) (fixed : List Fixed) (layout : IsLayout e.layout) (low : c < e.layout.cores)
    (at : (e.group (group_of e.layout c)).place ≡ place_at e.layout (group_of e.layout c)) (at' : b.place ≡ place_at e.layout (group_of e.layout c)) (seat : u ≡ view_of b (member_of e.layout c))
    (S : Sits e c v w) (backlog : e.backlog c ≡ accepted ++ rest) (mine : (y : ℕ × Request) → In y accepted → owner e.layout (key_of y.1) ≡ c)
    (keys : (k : ℕ) → KeyStands (start k) e k) (W : WorkerMoves (place_at e.layout (group_of e.layout c)) (member_of e.layout c) e.region t (Some (e.group (group_of e.layout c))) (Some b) v u w x accepted fixed) where
  abbrev f : Engine
  f = moved_to e c t b x takes rest fixed

  -- the answered requests of a key are some that were given, in order
  module _ (k : ℕ) (own : owner e.layout k ≡ c) where
    hand : line e k ++ requests_for k (e.backlog (owner e.layout k)) ≡ map asked (fixed_of k fixed) ++ (line_in x k ++ requests_for k rest)
    hand =
        let back : requests_for k (e.backlog (owner e.layout k)) ≡ requests_for k accepted ++ requests_for k rest =
        ap (λ d. requests_for k (e.backlog d)) own ∙ ap (requests_for k) backlog ∙ filter-append (λ (y : ℕ × Request). key_of y.1 == k) accepted rest in
        (λ i. sym (line_is e c layout at v w S k own) i ++ back i) ∙ sym (append_assoc (line_in w k) (requests_for k accepted) (requests_for k rest)) ∙ ap (λ l. l ++ requests_for k rest) (W.keys k (of_member e.layout layout c k own)).order
        ∙ append_assoc (map asked (fixed_of k fixed)) (line_in x k) (requests_for k rest)

    rising : IsUp (map asked (fixed_of k fixed))
    rising =
        let whole = subst IsUp (keys k).split (up k 0 e.given) in
        up_front (map asked (fixed_of k fixed)) (line_in x k ++ requests_for k rest) (subst IsUp hand (up_tail (map (λ (y : Served). (y.number, y.request)) (keys k).served) (line e k ++ requests_for k (e.backlog (owner e.layout k))) whole))

    pub given : (y : Fixed) → In y (fixed_of k fixed) → In (asked y) (requests_of k e.given)
    given y i = subst (λ (l : List (ℕ × Request)). In (asked y) l) (sym (keys k).split) (in_back (asked y) (map (λ (y : Served). (y.number, y.request)) (keys k).served) _ (subst (λ (l : List (ℕ × Request)). In (asked y) l) (sym hand) (in_front (asked y) (map asked (fixed_of k fixed)) _ (in_map asked y (fixed_of k fixed) i))))

  pub own_list : (y : Fixed) → In y fixed → In y (fixed_of (key_of y.request) fixed)
  own_list y i = filter_in (λ (z : Fixed). key_of z.request == key_of y.request) fixed y i (eq-eqb (key_of y.request) (key_of y.request) refl)

  pub once : (y z : Fixed) → In y fixed → In z fixed → y.number ≡ z.number → y ≡ z
  once y z i j same =
      let own = of_core e.layout layout c (key_of y.request) (W.own y i) in
      let key : key_of z.request ≡ key_of y.request = one_key (key_of z.request) (key_of y.request) e.given (asked z) (asked y) (given (key_of z.request) (of_core e.layout layout c (key_of z.request) (W.own z j)) z (own_list z j)) (given (key_of y.request) own y (own_list y i)) (sym same) in
      up_once (fixed_of (key_of y.request) fixed) y z (rising (key_of y.request) own) (own_list y i) (subst (λ (n : ℕ). In z (fixed_of n fixed)) key (own_list z j)) same

  here : {X : Type 0} (k : ℕ) (a d : X) → owner e.layout k ≡ c → cond (owner e.layout k == c) a d ≡ a
  here k a d own = ap (λ q. cond q a d) (eq-eqb (owner e.layout k) c own)

  there : {X : Type 0} (k : ℕ) (a d : X) → owner e.layout k ≢ c → cond (owner e.layout k == c) a d ≡ d
  there k a d other = ap (λ q. cond q a d) (ne_eqb (owner e.layout k) c other)

  group_now : f.group (group_of e.layout c) ≡ b
  group_now = ap (λ q. cond q b (e.group (group_of e.layout c))) (eq-eqb (group_of e.layout c) (group_of e.layout c) refl)

  pub sits_on : Sits f c u x
  sits_on = record {
    view = seat ∙ sym (ap (λ (g : Group). view_of g (member_of e.layout c)) group_now);
    place = λ k own. sym (here k (x.place k) (e.place k) own);
    waits = λ k own. sym (here k (x.waits k) (e.waits k) own);
    stopped = sym (ap (λ q. cond q x.stopped (e.stopped c)) (eq-eqb c c refl));
    stock = subst (λ (s : Stock). IsAtLeast s x.stock) (sym (ap (λ q. cond q x.stock (e.stock c)) (eq-eqb c c refl))) (at_least_same x.stock);
  }

  pub around : Around e f c accepted fixed
  around = record {
    core = low;
    layout = refl;
    other_groups = λ g ne. ap (λ q. cond q b (e.group g)) (ne_eqb g (group_of e.layout c) ne);
    given = refl;
    backlog = backlog ∙ ap (λ l. accepted ++ l) (sym (ap (λ q. cond q rest (e.backlog c)) (eq-eqb c c refl)));
    other_backlogs = λ d ne. ap (λ q. cond q rest (e.backlog d)) (ne_eqb d c ne);
    own_keys = mine;
    other_keys = λ k other. (there k (x.place k) (e.place k) other, there k (x.waits k) (e.waits k) other);
    other_stops = λ d ne. ap (λ q. cond q x.stopped (e.stopped d)) (ne_eqb d c ne);
    other_takes = λ d ne. ap (λ q. cond q takes (e.takes d)) (ne_eqb d c ne);
    other_stocks = λ d ne. ap (λ q. cond q x.stock (e.stock d)) (ne_eqb d c ne);
    new_answers = λ y i. answered_new fixed t.stamp (e.answer y.number) y (λ z j q. once z y j i q) i;
    old_answers = λ n none. answered_old fixed t.stamp n (e.answer n) none;
  }

  pub advances : Moves e f c accepted fixed
  advances = worker_moves e f c accepted fixed v u w x layout at (ap (λ (g : Group). g.place) group_now ∙ at') S sits_on around (ap (λ q. cond q x.stock (e.stock c)) (eq-eqb c c refl))
      (subst (λ (g : Group). WorkerMoves (place_at e.layout (group_of e.layout c)) (member_of e.layout c) e.region t (Some (e.group (group_of e.layout c))) (Some g) v u w x accepted fixed) (sym group_now) W)
