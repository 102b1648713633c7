-- Why the requests of a run on threads were refused.
use Rattle.std.proofs.Common.{◌≡◌, inl, inr, ℕ, ◌+◌, ◌*◌, ◌/◌, ◌<◌, ◌≤◌, ◌==◌, Bool, true, false, cond, List, [], ◌∷◌, ◌++◌, map, take, length, Some, None, refl, sym, ◌∙◌, ap, subst, arith, append_assoc}
use Rattle.std.specs.Prelude.{option_map}
use Rattle.std.specs.List.{AllByRecursion, filter, enumerate_from, slice_get, sum_by}
use Rattle.std.proofs.lemmas.Bool.{eq-eqb, eqb-true}
use Rattle.std.proofs.lemmas.Option.{slice_get_within}
use Rattle.fs_model.specs.declared.model.Request.{Request}
use Rattle.fs_model.specs.Cells.{key_of}
use Rattle.fs_model.specs.Changes.{requests_of}
use Rattle.chunk_map.specs.declared.layout_sizes.TheConstants.{GREATEST_CLASS}
use Rattle.chunk_map.specs.declared.layouts.Geometry.{Geometry}
use Rattle.chunk_map.specs.Layouts.{layout_of, owner, numbers, IsLayout}
use Rattle.store_image.specs.Facts.{In}
use Rattle.store_image.proofs.Clients.{in_front, has_layout, superblock_facts}
use Rattle.recover.specs.declared.types.Recovered.{Recovered}
use Rattle.group_laws.specs.MemberViews.{View}
use Rattle.group_laws.specs.OpeningImages.{opened}
use Rattle.group_laws.specs.Regions.{groups_in, place_at}
use Rattle.group_laws.proofs.Clients.{in_map}
use Rattle.headline.specs.Ample.{log_bytes, IsAmpleFor}
use Rattle.headline.specs.Limits.{IsAsked, version_of, changes_asked, is_too_long}
use Rattle.log_entry.specs.declared.entry_limits.TheConstants.{LAST_PUT_VERSION}
use Rattle.headline.proofs.Clients.{requests-append}
use Rattle.engine_laws.specs.Parts.{Groups, group_of, member_of}
use Rattle.engine_laws.specs.RefusalCauses.{HasCause, HaveCauses}
use Rattle.engine_laws.specs.WorkerMoves.{Fixed, asked, replied, fixed_of, requests_for, request_placed, line_in}
use Rattle.engine_laws.specs.Engine.{Engine}
use Rattle.engine_laws.specs.Keys.{Served, pairs}
use Rattle.engine_laws.specs.Stands.{Origin, opening}
use Rattle.engine_laws.specs.Causes.{Causes}
use Rattle.engine_laws.specs.Promises.{IsOrigin}
use Rattle.engine_laws.specs.Spending.{lines_in}
use Rattle.engine_laws.specs.Workers.{Sits}
use Rattle.engine_laws.specs.Advance.{answered}
use Rattle.engine_laws.proofs.Clients.{of_member, own_lines, out_within, taken_within, numbered, in_all, filter_in, in_requests, opens_last, opens_own, last_in, sum_cons, Changes, asked_in, cause_served, given_front}
use Rattle.thread_engine.specs.WorkStates.{WorkState, with_more, joined_in}
use Rattle.thread_engine.specs.WorkLaws.{hands_at}
use Rattle.thread_engine.specs.CoreRuns.{requests_to, fixed_at, CoreRun, AllRan}
use Rattle.thread_engine.proofs.Reckoning.{alone, Reckons, reckons_chain}
use Rattle.thread_engine.proofs.TookGrows.{run_posted}

-- a key's requests are among those of its owner
requests_among : (l : Geometry) (c k : ℕ) → owner l k ≡ c → (xs : List (ℕ × Request)) → requests_for k (filter (λ x. owner l (key_of x.1) == c) xs) ≡ requests_for k xs
requests_among l c k own [] = refl
requests_among l c k own (x ∷ xs) = by (filter (λ y. owner l (key_of y.1) == c) xs) (key_of x.1 == k) refl (owner l (key_of x.1) == c) refl (requests_among l c k own xs) where
  by : (ys : List (ℕ × Request)) (a : Bool) → (key_of x.1 == k) ≡ a → (b : Bool) → (owner l (key_of x.1) == c) ≡ b → requests_for k ys ≡ requests_for k xs → requests_for k (cond b (x ∷ ys) ys) ≡ cond a (x ∷ requests_for k xs) (requests_for k xs)
  by ys true here true own_key rest = ap (λ t. cond t (x ∷ requests_for k ys) (requests_for k ys)) here ∙ ap (λ zs. x ∷ zs) rest
  by ys false here true own_key rest = ap (λ t. cond t (x ∷ requests_for k ys) (requests_for k ys)) here ∙ rest
  by ys false here false other rest = rest
  by ys true here false other rest = absurd (let key = eqb-true (key_of x.1) k here in let is = eq-eqb (owner l (key_of x.1)) c (ap (owner l) key ∙ own) in let both : true ≡ false = sym is ∙ other in cc both)

none_cut : (xs : List ℕ) → sum_by (λ (k : ℕ). 0) xs ≡ 0
none_cut [] = refl
none_cut (x ∷ xs) = let rest = none_cut xs in let a = sum_cons (λ (k : ℕ). 0) x xs in omega (arith, rest, a)

-- At first nothing is fixed and nothing is spent.
module _ (o : Origin) (is : IsOrigin o) (given : List Request) (c : ℕ) (x : WorkState) (S : Sits (opening o) c x.view (hands_at x)) (queue : x.queue ≡ requests_to (layout_of o.found) c given) where
  abbrev N : Geometry
  N = layout_of o.found

  layout : IsLayout N
  layout = (superblock_facts o.region.frame.bytes o.found (has_layout o.region.frame.bytes o.found is.sound)).1

  line_none : (k : ℕ) → owner N k ≡ c → line_in (hands_at x) k ≡ []
  line_none k own = let p = S.place k own in let q = S.waits k own in (λ i. request_placed (p i) ++ q i)

  first_order : (k : ℕ) → owner N k ≡ c → requests_of k given ≡ line_in (hands_at x) k ++ requests_for k x.queue
  first_order k own = sym (ap (λ xs. xs ++ requests_for k x.queue) (line_none k own) ∙ ap (requests_for k) queue ∙ requests_among N c k own (enumerate_from 0 given))

  version_is : (k : ℕ) → owner N k ≡ c → x.view.last k ≡ version_of o.found k
  version_is k own =
      let p = place_at N (group_of N c) in
      ap (λ (v : View). v.last k) S.view ∙ last_in (opened p o.found) (member_of N c) k (of_member N layout c k own)
      ∙ ap (λ g. (opened (place_at N g) o.found).last k) (sym (ap (λ d. d / N.group) own)) ∙ opens_last o.found k (opens_own o.region.frame.bytes o.found is.sound k)

  pub reckons_first : Reckons o given c x []
  reckons_first = record {
    stock = (opening o).stock c;
    least = S.stock;
    own = λ y i. absurd i;
    order = first_order;
    waiting = λ k own. in_all (λ (y : ℕ × Request). answered [] 0 y.0 None ≡ None) (line_in (hands_at x) k ++ requests_for k x.queue) (λ y i. refl);
    changes = λ k own. tt;
    causes = λ k own. tt;
    versions = λ k own. (let same = version_is k own in omega (arith, same));
    room = λ runs more within ample. record {
      opened = 0;
      cuts = λ k. 0;
      chunks = (let none = none_cut (numbers 1 GREATEST_CLASS) in omega (arith, none));
      lines = (let flying = ap (λ (v : View). lines_in v.flying) S.view in omega (arith, flying));
      small = omega arith;
      blocks = λ k. omega arith;
      last = λ k some. absurd (some refl);
      class = λ k some. absurd (some refl);
    };
    posted = (let posted = ap (λ (v : View). lines_in v.posted) S.view in omega (arith, posted));
    full = λ y i. absurd i;
  }

-- a key's answers, as those that were given out
served_of : List Fixed → List Served
served_of [] = []
served_of (y ∷ ys) = record { number = y.number; request = y.request; answer = record { reply = y.reply; stamp = 0 } } ∷ served_of ys

served_asked : (ys : List Fixed) → map asked_in (served_of ys) ≡ map asked ys
unfolding served_of
served_asked [] = refl
served_asked (y ∷ ys) = ap (λ zs. asked y ∷ zs) (served_asked ys)

served_pairs : (ys : List Fixed) → pairs (served_of ys) ≡ map replied ys
unfolding served_of
served_pairs [] = refl
served_pairs (y ∷ ys) = ap (λ zs. replied y ∷ zs) (served_pairs ys)

served_there : (ys : List Fixed) (y : Fixed) → In y ys → In (record { number = y.number; request = y.request; answer = record { reply = y.reply; stamp = 0 } }) (served_of ys)
unfolding served_of
served_there [] y i = i
served_there (z ∷ zs) y (inl e) = inl (ap (λ (w : Fixed). record { number = w.number; request = w.request; answer = record { reply = w.reply; stamp = 0 } }) e)
served_there (z ∷ zs) y (inr i) = inr (served_there zs y i)

-- All cores at their ends.
module _ (o : Origin) (is : IsOrigin o) (r : Recovered) (refused : Bool) (e : Engine) (A : AllRan o r refused e) where
  abbrev L : Geometry
  L = layout_of o.found

  layout_is : IsLayout L
  layout_is = (superblock_facts o.region.frame.bytes o.found (has_layout o.region.frame.bytes o.found is.sound)).1

  abbrev run : (c : ℕ) → c < e.layout.cores → CoreRun o r refused e c
  run c low = A.cores c low

  -- with what joined to the end, and what did not
  abbrev ended : (c : ℕ) → c < e.layout.cores → WorkState
  ended c low = with_more (run c low).later (run c low).last

  reckons : (c : ℕ) (low : c < e.layout.cores) → Reckons o e.given c (ended c low) (fixed_at (run c low))
  reckons c low =
      let C = run c low in
      reckons_chain o layout_is e.given c C.seat (C.place ∙ (λ i. place_at (A.layout i) (group_of (A.layout i) c))) (C.number ∙ ap (λ (l : Geometry). member_of l c) A.layout)
      refused C.later C.first C.works.path C.last [] C.works.leads
      (let all = joined_in C.seat refused C.first C.last C.works ++ C.later in
      reckons_first o is e.given c (with_more all C.first) C.sits (ap (λ q. q ++ all) C.queue ∙ C.dealt ∙ ap (λ (l : Geometry). requests_to l c e.given) A.layout))

  low_there : (c : ℕ) → c < L.cores → c < e.layout.cores
  low_there c low = subst (λ (l : Geometry). c < l.cores) (sym A.layout) low

  posted_is : (c : ℕ) (low : c < e.layout.cores) → (e.group (group_of L c)).posted (member_of L c) ≡ (run c low).last.view.posted
  posted_is c low = ap (λ (l : Geometry). (e.group (group_of l c)).posted (member_of l c)) (sym A.layout) ∙ (run c low).shown.posted

  took_is : (c : ℕ) (low : c < e.layout.cores) → (e.group (group_of L c)).took (member_of L c) ≡ (run c low).last.view.took
  took_is c low = ap (λ (l : Geometry). (e.group (group_of l c)).took (member_of l c)) (sym A.layout) ∙ (run c low).shown.took

  strangers : (g m : ℕ) → g < groups_in L → L.group ≤ m → (e.group g).posted m ≡ []
  strangers g m low high =
      let steps = A.reached g (subst (λ (l : Geometry). g < groups_in l) (sym A.layout) low) in
      run_posted (opened (place_at e.layout g) o.found) steps.0 (e.group g) m (subst (λ (l : Geometry). l.group ≤ m) (sym A.layout) high) steps.1

  posted_within : (more : List Request) (d : ℕ) → d < L.cores → lines_in ((e.group (group_of L d)).posted (member_of L d)) ≤ own_lines L d (e.given ++ more)
  posted_within more d low =
      let there = low_there d low in
      let R = reckons d there in
      let same = ap lines_in (posted_is d there) in
      let out = R.posted in
      let all = out_within L (alone o e.given R.stock (ended d there) (fixed_at (run d there))) d more in
      omega (arith, same, out, all)

  took_few : (c : ℕ) (low : c < e.layout.cores) (more : List Request) → 64 * lines_in (run c low).last.view.took ≤ log_bytes L c (e.given ++ more)
  took_few c low more =
      let few = taken_within L layout_is e.group (subst (λ (l : Geometry). Groups l e.group) A.layout A.groups) strangers (e.given ++ more) (posted_within more) c (subst (λ (l : Geometry). c < l.cores) A.layout low) in
      let same = ap lines_in (took_is c low) in
      omega (arith, few, same)

  -- a request that was answered is one of its core's
  request_there : (c : ℕ) (low : c < e.layout.cores) (y : Fixed) → In y (fixed_at (run c low)) → (more : List Request) → slice_get (e.given ++ more) y.number ≡ Some y.request
  request_there c low y i more =
      let R = reckons c low in
      let k : ℕ = key_of y.request in
      let own = R.own y i in
      let there : In (asked y) (requests_of k e.given) = subst (λ (xs : List (ℕ × Request)). In (asked y) xs) (sym (R.order k own))
      (in_front (asked y) (map asked (fixed_of k (fixed_at (run c low)))) _ (in_map asked y (fixed_of k (fixed_at (run c low))) (filter_in (λ (z : Fixed). key_of z.request == k) (fixed_at (run c low)) y i (eq-eqb k k refl)))) in
      front e.given more y.number y.request (in_requests k e.given (asked y) there).0
    where
      front : (xs more : List Request) (n : ℕ) (q : Request) → slice_get xs n ≡ Some q → slice_get (xs ++ more) n ≡ Some q
      front xs more n q at = given_front xs more n (slice_get_within xs n q at) ∙ at

  -- its cause
  cause_there : (c : ℕ) (low : c < e.layout.cores) (y : Fixed) → In y (fixed_at (run c low)) → (more : List Request) → HasCause L (version_of o.found (key_of y.request) + changes_asked (key_of y.request) (take y.number (e.given ++ more))) y.request y.reply
  cause_there c low y i more =
      let R = reckons c low in
      let k : ℕ = key_of y.request in
      let own = R.own y i in
      let ys = fixed_of k (fixed_at (run c low)) in
      cause_served L (version_of o.found k) k (e.given ++ more) (served_of ys) ((line_in (hands_at (run c low).last) k ++ requests_for k (ended c low).queue) ++ numbered k (length e.given) more)
      (requests-append k e.given more ∙ ap (λ xs. xs ++ numbered k (length e.given) more) (R.order k own) ∙ append_assoc (map asked ys) (line_in (hands_at (run c low).last) k ++ requests_for k (ended c low).queue) (numbered k (length e.given) more)
      ∙ ap (λ xs. xs ++ ((line_in (hands_at (run c low).last) k ++ requests_for k (ended c low).queue) ++ numbered k (length e.given) more)) (sym (served_asked ys)))
      (subst (AllByRecursion Changes) (sym (served_pairs ys)) (R.changes k own))
      (subst (HaveCauses L (version_of o.found k)) (sym (served_pairs ys)) (R.causes k own))
      (record { number = y.number; request = y.request; answer = record { reply = y.reply; stamp = 0 } })
      (served_there ys y (filter_in (λ (z : Fixed). key_of z.request == k) (fixed_at (run c low)) y i (eq-eqb k k refl)))

  -- the key of an answered request
  key_there : (c : ℕ) (low : c < e.layout.cores) (y : Fixed) → In y (fixed_at (run c low)) → (more : List Request) (n k : ℕ) → y.number ≡ n → IsAsked (e.given ++ more) n k → key_of y.request ≡ k
  key_there c low y i more n k number asked_n =
      let both : Some (key_of y.request) ≡ Some k = sym (ap (option_map key_of) (request_there c low y i more)) ∙ ap (λ m. option_map key_of (slice_get (e.given ++ more) m)) number ∙ asked_n in
      cc both

  pub run_causes : Causes o e
  run_causes = record {
    full = λ more n k a ans reply asked_n ample.
        let F = A.fixed n a ans in
        let c = F.0 in
        let low = F.1 in
        let y = F.2 in
        let i = F.3 in
        let own = (reckons c low).own y i in
        let key = key_there c low y i more n k F.4 asked_n in
        (reckons c low).full y i (F.5 ∙ reply) more (took_few c low more) (subst (λ (d : ℕ). IsAmpleFor L o.found (e.given ++ more) d) (ap (owner L) (sym key) ∙ own) ample);
    spent = λ more n k a ans reply asked_n.
        let F = A.fixed n a ans in
        let key = key_there F.0 F.1 F.2 F.3 more n k F.4 asked_n in
        let C = (cause_there F.0 F.1 F.2 F.3 more).spent (F.5 ∙ reply) in
        subst (λ (j : ℕ). LAST_PUT_VERSION ≤ version_of o.found j + changes_asked j (take n (e.given ++ more))) key
        (subst (λ (m : ℕ). LAST_PUT_VERSION ≤ version_of o.found (key_of F.2.request) + changes_asked (key_of F.2.request) (take m (e.given ++ more))) F.4 C);
    long = λ more n q a ans reply asked_n.
        let F = A.fixed n a ans in
        let both : Some F.2.request ≡ Some q = sym (request_there F.0 F.1 F.2 F.3 more) ∙ ap (slice_get (e.given ++ more)) F.4 ∙ asked_n in
        let same : F.2.request ≡ q = cc both in
        subst (λ (z : Request). is_too_long L z ≡ true) same ((cause_there F.0 F.1 F.2 F.3 more).long (F.5 ∙ reply));
  }
