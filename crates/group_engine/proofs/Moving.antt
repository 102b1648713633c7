-- A step of the engine is a move of the state that it shows.
use Rattle.std.proofs.Common.{◌≡◌, ◌≢◌, ◌⊎◌, inl, inr, ℕ, ◌<◌, ◌≤◌, ◌+◌, ◌/◌, List, [], ◌++◌, length, Bool, true, false, cond, Some, refl, sym, ◌∙◌, ap, subst}
use Rattle.std.specs.List.{slice_get}
use Rattle.std.proofs.lemmas.Bool.{cases_eq, eq-eqb, ne_eqb}
use Rattle.fs_model.specs.declared.model.Request.{Request}
use Rattle.fs_model.specs.Cells.{key_of}
use Rattle.pm_region.specs.State.{State, During, cell_now}
use Rattle.pm_region.specs.Words.{Kept, KeepsOutside}
use Rattle.pm_region.proofs.Clients.{weaken}
use Rattle.chunk_map.specs.declared.layouts.Geometry.{Geometry}
use Rattle.chunk_map.specs.Layouts.{owner, part_first, IsLayout}
use Rattle.store_image.specs.Facts.{In}
use Rattle.store_image.proofs.Clients.{in_front, has_layout, superblock_facts}
use Rattle.group_laws.specs.declared.types.Seen.{Seen}
use Rattle.group_laws.specs.Places.{Place}
use Rattle.group_laws.specs.Places as places
use Rattle.group_laws.specs.Invariant.{Lawful}
use Rattle.group_laws.specs.State.{Group}
use Rattle.group_laws.specs.MemberViews.{View, view_of}
use Rattle.group_laws.specs.Regions.{place_at}
use Rattle.group_laws.specs.Runs.{Kind, Runs}
use Rattle.engine_laws.specs.Parts.{group_of, member_of}
use Rattle.engine_laws.specs.WorkerMoves.{Hands, Fixed}
use Rattle.engine_laws.specs.Engine.{Engine, group_for}
use Rattle.engine_laws.specs.Moves.{Moves}
use Rattle.engine_laws.specs.Stands.{Origin, Stands}
use Rattle.engine_laws.specs.Idle.{IsIdle, Idles}
use Rattle.engine_laws.specs.Promises.{AnyMove, AnyTurn}
use Rattle.engine_laws.specs.Workers.{Sits}
use Rattle.engine_laws.specs.Advance.{Calls, moved_to}
use Rattle.engine_laws.proofs.Clients.{group_low, of_member, of_core, core_is, apart, pending_in, outside_part, loads_only, all_in, call_stands, call_sits, call_others, call_move, call_once, call_given, call_asked}
use Rattle.core_worker.specs.declared.types.Answer.{Answer}
use Rattle.engine_laws.specs.Ceasing.{IsResting, Halts}
use Rattle.engine_core.specs.Calls.{HasNoMore, AreOwn, Rests, KeepsPart, Steps, steps_of, is_open, next_of}
use Rattle.engine_core.specs.Seated.{Seat}

pub layout_of_stands : (o : Origin) (e : Engine) → Stands o e → IsLayout e.layout
layout_of_stands o e S = subst IsLayout (sym S.layout) (superblock_facts o.region.frame.bytes o.found (has_layout o.region.frame.bytes o.found S.sound)).1

-- what stores nothing outside one part leaves the words of another
other_part : (l : Geometry) (is : IsLayout l) (c d : ℕ) (s t : State) → d ≢ c → During s t (KeepsOutside (cell_now s) (part_first l c) (part_first l (c + 1))) → During s t (KeepsPart (place_at l (group_of l d)) (member_of l d) (cell_now s))
other_part l is c d s t ne D = weaken s t (KeepsOutside (cell_now s) (part_first l c) (part_first l (c + 1))) (KeepsPart (place_at l (group_of l d)) (member_of l d) (cell_now s)) (λ telling cells outside.
    subst (λ (n : ℕ). (w : ℕ) → part_first l n ≤ w → w < part_first l (n + 1) → Kept (cell_now s w) (cells w)) (sym (core_is l is d)) (λ w low high. outside w (outside_part l c d w ne low high))) D

module _ {W : Type 0} (hands : View → W → Hands) (answers : W → List Answer) (stands : Place → ℕ → State → View → W → Type 0) (fair : Group → ℕ → W → Type 0) (room leads : W → Bool)
    (o : Origin) (e : Engine) (S : Stands o e) (c : ℕ) (low : c < e.layout.cores) (t : State) (b : Group) (w x : W) (seat : Seat hands answers stands fair room leads e c w)
    (accepted rest : List (ℕ × Request)) (idle down : Bool) (own : AreOwn (place_at e.layout (group_of e.layout c)) (member_of e.layout c) (e.backlog c))
    (T : Steps hands answers stands fair (place_at e.layout (group_of e.layout c)) (member_of e.layout c) e.region t (e.group (group_of e.layout c)) b (view_of (e.group (group_of e.layout c)) (member_of e.layout c)) (view_of b (member_of e.layout c)) w x (e.backlog c) accepted rest idle down) where
  abbrev g : ℕ
  g = group_of e.layout c

  abbrev m : ℕ
  m = member_of e.layout c

  abbrev p : Place
  p = place_at e.layout g

  abbrev a : Group
  a = e.group g

  is_layout : IsLayout e.layout
  is_layout = layout_of_stands o e S

  sits : Sits e c (view_of a m) (hands (view_of a m) w)
  sits = subst (λ (v : View). Sits e c v (hands v w)) seat.sits.view seat.sits

  taken_own : (y : ℕ × Request) → In y accepted → owner e.layout (key_of y.1) ≡ c
  taken_own y i = of_core e.layout is_layout c (key_of y.1) (all_in (λ (z : ℕ × Request). places.owner p (key_of z.1) ≡ m) (e.backlog c) y own (subst (λ (zs : List (ℕ × Request)). In y zs) (sym T.split) (in_front y accepted rest i)))

  calls : Calls e c t b (view_of a m) (view_of b m) (hands (view_of a m) w) (hands (view_of b m) x) accepted rest T.fixed
  calls = record { core = low; sits = sits; view = refl; backlog = T.split; own = taken_own; moves = T.moves }

  abbrev takes : Bool
  takes = is_open room leads x

  abbrev pub after : Engine
  after = moved_to e c t b (hands (view_of b m) x) takes rest T.fixed

  pub after_stands : Stands o after
  after_stands = call_stands o e c t b (view_of a m) (view_of b m) (hands (view_of a m) w) (hands (view_of b m) x) takes accepted rest T.fixed S calls

  after_move : Moves e after c accepted T.fixed
  after_move = call_move o e c t b (view_of a m) (view_of b m) (hands (view_of a m) w) (hands (view_of b m) x) takes accepted rest T.fixed S calls

  pub any_move : (q : Bool) → AnyMove e c q after
  any_move q = (accepted, T.fixed, after_move)

  pub once : (y z : Fixed) → In y T.fixed → In z T.fixed → y.number ≡ z.number → y ≡ z
  once y z i j q = call_once o e c t b (view_of a m) (view_of b m) (hands (view_of a m) w) (hands (view_of b m) x) takes accepted rest T.fixed S calls y z i j q

  pub asked : (y : Fixed) → In y T.fixed → slice_get e.given y.number ≡ Some y.request
  asked y i = call_asked o e c t b (view_of a m) (view_of b m) (hands (view_of a m) w) (hands (view_of b m) x) takes accepted rest T.fixed S calls y i

  pub given : (y : Fixed) → In y T.fixed → y.number < length e.given
  given y i = call_given o e c t b (view_of a m) (view_of b m) (hands (view_of a m) w) (hands (view_of b m) x) takes accepted rest T.fixed S calls y i

  pub group_now : after.group g ≡ b
  group_now = ap (λ q. cond q b (e.group g)) (eq-eqb g g refl)

  sits_after : Sits after c (view_of b m) (hands (view_of b m) x)
  sits_after = call_sits o e c t b (view_of a m) (view_of b m) (hands (view_of a m) w) (hands (view_of b m) x) takes accepted rest T.fixed S calls

  -- the worker that moved, after its answers were taken
  pub same_seat : (y : W) → ((v : View) → hands v y ≡ hands v x) → ((p : Place) (n : ℕ) (s : State) (v : View) → stands p n s v x → stands p n s v y) → ((a : Group) (n : ℕ) → fair a n x → fair a n y) → is_open room leads y ≡ is_open room leads x → answers y ≡ []
      → Seat hands answers stands fair room leads after c y
  same_seat y same keeps even ready none = record {
    view = view_of b m;
    sits = subst (λ (h : Hands). Sits after c (view_of b m) h) (sym (same (view_of b m))) sits_after;
    tied = keeps p m t (view_of b m) T.tied;
    fairly = subst (λ (n : Group). fair n m y) (sym group_now) (even b m T.fairly);
    takes = ap (λ q. cond q takes (e.takes c)) (eq-eqb c c refl) ∙ sym ready;
    given = none;
  }

  -- another worker
  pub other_seat : ((p : Place) (n : ℕ) (s t : State) (v : View) (w : W) → During s t (KeepsPart p n (cell_now s)) → stands p n s v w → stands p n t v w)
      → ((a e : Group) (m n : ℕ) (kinds : List Kind) (w : W) → Lawful a → Runs a (steps_of m kinds) e → n ≢ m → fair a n w → fair e n w)
      → (d : ℕ) (y : W) → d ≢ c → Seat hands answers stands fair room leads e d y → Seat hands answers stands fair room leads after d y
  other_seat kept beside d y ne Y = record {
    view = Y.view;
    sits = call_others o e c t b (view_of a m) (view_of b m) (hands (view_of a m) w) (hands (view_of b m) x) takes accepted rest T.fixed S calls d Y.view (hands Y.view y) ne Y.sits;
    tied = kept (place_at e.layout (group_of e.layout d)) (member_of e.layout d) e.region t Y.view y (other_part e.layout is_layout c d e.region t ne after_move.outside) Y.tied;
    fairly = by (cases_eq (group_of e.layout d) g);
    takes = ap (λ q. cond q takes (e.takes d)) (ne_eqb d c ne) ∙ Y.takes;
    given = Y.given;
  } where
    by : (group_of e.layout d ≡ g) ⊎ (group_of e.layout d ≢ g) → fair (after.group (group_of e.layout d)) (member_of e.layout d) y
    by (inl same) =
        let was : fair a (member_of e.layout d) y = subst (λ (n : ℕ). fair (e.group n) (member_of e.layout d) y) same Y.fairly in
        let now : fair b (member_of e.layout d) y = beside a b m (member_of e.layout d) T.moves.steps y (S.groups.lawful g (group_low e.layout is_layout c low)) T.moves.whole (apart e.layout c d ne same) was in
        subst (λ (n : Group). fair n (member_of e.layout d) y) (sym (ap after.group same ∙ group_now)) now
    by (inr other) = subst (λ (n : Group). fair n (member_of e.layout d) y) (sym (ap (λ q. cond q b (e.group (group_of e.layout d))) (ne_eqb (group_of e.layout d) g other))) Y.fairly

  -- Where nothing moved, the core is idle.
  module _ (still : idle ≡ true) where
    abbrev R : Rests p m (Some a) (Some b) (view_of b m) (hands (view_of b m) x)
    R = T.rests still

    mine : (k : ℕ) → owner e.layout k ≡ c → (after.place k ≡ (hands (view_of b m) x).place k) × (after.waits k ≡ (hands (view_of b m) x).waits k)
    mine k is = (ap (λ q. cond q ((hands (view_of b m) x).place k) (e.place k)) (eq-eqb (owner e.layout k) c is), ap (λ q. cond q ((hands (view_of b m) x).waits k) (e.waits k)) (eq-eqb (owner e.layout k) c is))

    place_same : (k : ℕ) → after.place k ≡ e.place k
    place_same k = elim (cases_eq (owner e.layout k) c) [
      | inl is ↦ (mine k is).0 ∙ (T.same still k (of_member e.layout is_layout c k is)).0 ∙ sits.place k is
      | inr not ↦ ap (λ q. cond q ((hands (view_of b m) x).place k) (e.place k)) (ne_eqb (owner e.layout k) c not)
    ]

    waits_same : (k : ℕ) → after.waits k ≡ e.waits k
    waits_same k = elim (cases_eq (owner e.layout k) c) [
      | inl is ↦ (mine k is).1 ∙ (T.same still k (of_member e.layout is_layout c k is)).1 ∙ sits.waits k is
      | inr not ↦ ap (λ q. cond q ((hands (view_of b m) x).waits k) (e.waits k)) (ne_eqb (owner e.layout k) c not)
    ]

    rest_is : rest ≡ e.backlog c
    rest_is = ap (λ xs. xs ++ rest) (sym (T.none still)) ∙ sym T.split

    backlog_same : (d : ℕ) → after.backlog d ≡ e.backlog d
    backlog_same d = elim (cases_eq d c) [
      | inl is ↦ ap (λ q. cond q rest (e.backlog d)) (eq-eqb d c is) ∙ rest_is ∙ ap e.backlog (sym is)
      | inr not ↦ ap (λ q. cond q rest (e.backlog d)) (ne_eqb d c not)
    ]

    groups_same : (n : ℕ) → (xs : ℕ → List Seen) × (after.group n ≡ record (e.group n) { looked = xs })
    groups_same n = elim (cases_eq n g) [
      | inl is ↦ (let l = loads_only m a b T.moves.steps (T.loads still) T.moves.whole R.holds in (l.0, ap (λ q. cond q b (e.group n)) (eq-eqb n g is) ∙ l.1 ∙ ap (λ (k : ℕ). record (e.group k) { looked = l.0 }) (sym is)))
      | inr not ↦ ((e.group n).looked, ap (λ q. cond q b (e.group n)) (ne_eqb n g not))
    ]

    group_for_is : (k : ℕ) → owner e.layout k ≡ c → group_for after k ≡ b
    group_for_is k is = ap (λ d. after.group (d / e.layout.group)) is ∙ group_now

    place_b : b.place ≡ p
    place_b = sym (ap (λ (n : Group). n.place) group_now) ∙ after_stands.groups.place g (group_low e.layout is_layout c low)

    owner_b : (k : ℕ) → owner e.layout k ≡ c → places.owner b.place k ≡ m
    owner_b k is = ap (λ (q : Place). places.owner q k) place_b ∙ of_member e.layout is_layout c k is

    rests_now : IsResting after c
    rests_now = record {
      holds = ap (λ (n : Group). n.holds m) group_now ∙ R.holds;
      taken = λ h s. ap (λ (n : Group). n.taken m h s) group_now ∙ R.taken h s;
      posted = λ k y is at posted d s pending slot.
          let q : (view_of b m).pending k ≡ Some d = pending_in b m k (owner_b k is) ∙ sym (ap (λ (n : Group). n.pending k) (group_for_is k is)) ∙ pending in
          elim (R.posted k y (of_member e.layout is_layout c k is) (sym (mine k is).0 ∙ at) posted d s q slot) [
            | inl taken ↦ inl (ap (λ (n : Group). n.slot m s) group_now ∙ taken)
            | inr out ↦ inr (out.0, out.1, ap (λ (n : Group). n.slot m s) group_now ∙ out.2, ap (λ (n : Group). n.holder) group_now ∙ out.3)
          ];
    }

    pub halts : Halts e after c
    halts = record { layout = refl; place = (λ i k. place_same k i); groups = groups_same; rests = rests_now }

    -- and one that goes on has nothing to begin
    module _ (goes : down ≡ false) where
      abbrev N : HasNoMore p m (hands (view_of b m) x)
      N = T.no_more still goes

      idle_now : IsIdle after c
      idle_now = record {
        holds = rests_now.holds;
        taken = rests_now.taken;
        placed = λ k y is at. (let on = N.placed k y (of_member e.layout is_layout c k is) (sym (mine k is).0 ∙ at) in (on, rests_now.posted k y is at on));
        waits = λ k is none. (mine k is).1 ∙ N.waits k (of_member e.layout is_layout c k is) (sym (mine k is).0 ∙ none);
        backlog = λ none. backlog_same c ∙ T.empty still goes (λ k is. (let core = of_core e.layout is_layout c k is in sym (mine k core).0 ∙ none k core));
      }

      pub idles : Idles e after c
      idles = record {
        layout = refl;
        place = (λ i k. place_same k i);
        waits = (λ i k. waits_same k i);
        backlog = (λ i d. backlog_same d i);
        groups = groups_same;
        idle = idle_now;
      }

  pub any_turn : (r : Bool) → (r ≡ false → idle ≡ true) → down ≡ false → accepted ≡ next_of (is_open room leads w) (e.backlog c) → AnyTurn e c r after
  any_turn r still goes is = ((accepted, T.fixed, after_move), is ∙ ap (λ q. next_of q (e.backlog c)) (sym seat.takes), λ z. idles (still z) goes)
