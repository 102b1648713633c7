-- What a worker says that it spends is spent by its core.
use Rattle.std.proofs.Common.{◌≡◌, inl, inr, ⊎_elim, ℕ, ◌+◌, ◌≤◌, List, [], ◌∷◌, ◌++◌, Bool, true, false, cond, Option, sym, ◌∙◌, ap, subst, arith}
use Rattle.fs_model.specs.declared.model.Request.{Request}
use Rattle.fs_model.specs.Cells.{key_of}
use Rattle.log_entry.specs.declared.entry.Entry.{Entry}
use Rattle.chunk_map.specs.declared.layouts.Geometry.{Geometry}
use Rattle.chunk_map.specs.Layouts.{owner, payload_lines, IsLayout}
use Rattle.store_image.specs.Facts.{In}
use Rattle.group_laws.specs.MemberViews.{View}
use Rattle.group_laws.specs.Regions.{place_at}
use Rattle.engine_laws.specs.Parts.{group_of, member_of}
use Rattle.engine_laws.specs.FreeStock.{Stock, IsAtLeast}
use Rattle.engine_laws.specs.WorkerMoves.{Hands, Fixed, asked, requests_for, CleansIn}
use Rattle.engine_laws.specs.Engine.{Engine}
use Rattle.engine_laws.specs.Workers.{Sits, Around}
use Rattle.engine_laws.specs.Spending.{lines_in, Spends, BeginsIn, PostsIn, SpendsIn, Begins, PostsOne, SpendsRoom}
use Rattle.engine_laws.proofs.Cores.{of_member, of_core}

-- who counts less as free spends no more
pub spends_less : (l : Geometry) (took flying took' flying' : List Entry) (r s t : Stock) (begun : Option (ℕ × Request)) → IsAtLeast r s → Spends l took flying took' flying' s t begun → Spends l took flying took' flying' r t begun
spends_less l took flying took' flying' r s t begun A P = record {
  opened = P.opened;
  cut = P.cut;
  chunks = (let less = A.chunks in let now = P.chunks in omega (arith, less, now));
  lines = by P.opened P.lines;
  late = λ is. (let less = A.lines in let few = P.late is in omega (arith, less, few));
  small = P.small;
  blocks = λ c. (let less = A.blocks c in let now = P.blocks c in omega (arith, less, now));
  none = λ c is. (let less = A.blocks c in let none = P.none c is in omega (arith, less, none));
  puts = P.puts;
  class = P.class;
} where
  by : (b : Bool) → cond {A = ℕ} b (payload_lines l) s.lines + (lines_in took + lines_in flying') ≤ t.lines + (lines_in took' + lines_in flying) → cond {A = ℕ} b (payload_lines l) r.lines + (lines_in took + lines_in flying') ≤ t.lines + (lines_in took' + lines_in flying)
  by true le = le
  by false le = let less = A.lines in omega (arith, less, le)

-- A worker's view and what it holds, as core c has them in an engine's state.
pub record HasOf (l : Geometry) (e : Engine) (c : ℕ) (v : View) (w : Hands) : Type 0 where
  pub place : (k : ℕ) → owner l k ≡ c → w.place k ≡ e.place k
  pub waits : (k : ℕ) → owner l k ≡ c → w.waits k ≡ e.waits k
  pub stopped : w.stopped ≡ e.stopped c
  pub stock : IsAtLeast (e.stock c) w.stock
  pub posted : v.posted ≡ (e.group (group_of l c)).posted (member_of l c)
  pub took : v.took ≡ (e.group (group_of l c)).took (member_of l c)
  pub flying : v.flying ≡ (e.group (group_of l c)).flying (member_of l c)

module _ (l : Geometry) (layout : IsLayout l) (e f : Engine) (c : ℕ) (accepted : List (ℕ × Request)) (fixed : List Fixed) (v u : View) (w x : Hands) (S : HasOf l e c v w) (T : HasOf l f c u x) (now : f.stock c ≡ x.stock)
    (mine : (y : Fixed) → In y fixed → owner l (key_of y.request) ≡ c) (P : SpendsIn (place_at l (group_of l c)) (member_of l c) v u w x accepted fixed) where
  posts_one : PostsIn (place_at l (group_of l c)) (member_of l c) v u w x → PostsOne l e f c
  posts_one Q =
      let own = of_core l layout c (key_of Q.change.request) Q.own in
      record {
        change = Q.change;
        own = own;
        was = sym (S.place (key_of Q.change.request) own) ∙ Q.was;
        staged = Q.staged;
        now = sym (T.place (key_of Q.change.request) own) ∙ Q.now;
        entry = Q.entry;
        more = sym T.posted ∙ Q.more ∙ ap (λ (es : List Entry). es ++ Q.entry ∷ []) S.posted;
        few = Q.few;
      }

  begins_one : (y : ℕ × Request) → BeginsIn (place_at l (group_of l c)) (member_of l c) w x accepted y → Begins l e f c accepted y
  begins_one y B =
      let own = of_core l layout c (key_of y.1) B.own in
      record {
        own = own;
        waits = subst (λ (ws : List (ℕ × Request)). In y (ws ++ requests_for (key_of y.1) accepted)) (S.waits (key_of y.1) own) B.waits;
        place = sym (T.place (key_of y.1) own) ∙ B.place;
      }

  pub core_spends : SpendsRoom l e f c accepted fixed
  core_spends = record {
    runs = λ y i full.
        let r = P.runs y i full in
        (sym S.stopped ∙ r.0, subst (λ (ws : List (ℕ × Request)). In (asked y) (ws ++ requests_for (key_of y.request) accepted)) (S.waits (key_of y.request) (mine y i)) r.1);
    stays = λ k y own at none. (let z = P.stays k y (of_member l layout c k own) (S.place k own ∙ at) none in (z.0, sym (T.place k own) ∙ z.1, z.2, z.3));
    begun = P.begun;
    begins = λ y is. begins_one y (P.begins y is);
    posts = ⊎_elim (λ same. inl (sym T.posted ∙ same ∙ S.posted)) (λ (Q : PostsIn (place_at l (group_of l c)) (member_of l c) v u w x). inr (posts_one Q)) P.posts;
    spends = λ runs. ⊎_elim
        (λ (Q : Spends l v.took v.flying u.took u.flying w.stock x.stock P.begun). inl (spends_less l ((e.group (group_of l c)).took (member_of l c)) ((e.group (group_of l c)).flying (member_of l c)) ((f.group (group_of l c)).took (member_of l c)) ((f.group (group_of l c)).flying (member_of l c)) (e.stock c) w.stock (f.stock c) P.begun S.stock
        (subst (λ (t : Stock). Spends l ((e.group (group_of l c)).took (member_of l c)) ((e.group (group_of l c)).flying (member_of l c)) ((f.group (group_of l c)).took (member_of l c)) ((f.group (group_of l c)).flying (member_of l c)) w.stock t P.begun) (sym now)
        (subst (λ (es : List Entry). Spends l ((e.group (group_of l c)).took (member_of l c)) ((e.group (group_of l c)).flying (member_of l c)) es ((f.group (group_of l c)).flying (member_of l c)) w.stock x.stock P.begun) T.took
        (subst (λ (es : List Entry). Spends l ((e.group (group_of l c)).took (member_of l c)) ((e.group (group_of l c)).flying (member_of l c)) u.took es w.stock x.stock P.begun) T.flying
        (subst (λ (es : List Entry). Spends l es ((e.group (group_of l c)).flying (member_of l c)) u.took u.flying w.stock x.stock P.begun) S.took
        (subst (λ (es : List Entry). Spends l v.took es u.took u.flying w.stock x.stock P.begun) S.flying Q)))))))
        (λ (C : CleansIn l w.stock x.stock accepted fixed). inr (record { scarce = (let less = S.stock.chunks in let few = C.scarce in omega (arith, less, few)); accepts_none = C.accepts_none; fixes_none = C.fixes_none; small = subst (λ (t : Stock). t.lines ≤ payload_lines l) (sym now) C.small }))
        (P.spends (T.stopped ∙ runs));
  }

-- the same of a worker that sits in an engine's state
sits_has : (e : Engine) (c : ℕ) (v : View) (w : Hands) → Sits e c v w → HasOf e.layout e c v w
sits_has e c v w S = record { place = S.place; waits = S.waits; stopped = S.stopped; stock = S.stock; posted = ap (λ (y : View). y.posted) S.view; took = ap (λ (y : View). y.took) S.view; flying = ap (λ (y : View). y.flying) S.view }

pub spends_room : (e f : Engine) (c : ℕ) (accepted : List (ℕ × Request)) (fixed : List Fixed) (v u : View) (w x : Hands) → IsLayout e.layout → Sits e c v w → Sits f c u x → Around e f c accepted fixed → f.stock c ≡ x.stock
    → ((y : Fixed) → In y fixed → owner e.layout (key_of y.request) ≡ c) → SpendsIn (place_at e.layout (group_of e.layout c)) (member_of e.layout c) v u w x accepted fixed → SpendsRoom e.layout e f c accepted fixed
spends_room e f c accepted fixed v u w x layout S T A now mine P =
    core_spends e.layout layout e f c accepted fixed v u w x (sits_has e c v w S) (subst (λ (m : Geometry). HasOf m f c u x) A.layout (sits_has f c u x T)) now mine P
