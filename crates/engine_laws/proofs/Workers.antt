-- What a worker's contract says of its own view is a move, where the board tells its whole state.
use Rattle.std.proofs.Common.{◌≡◌, inl, inr, ℕ, ◌+◌, ◌/◌, List, ◌++◌, map, false, Some, sym, ◌∙◌, ap, subst}
use Rattle.fs_model.specs.declared.model.Request.{Request}
use Rattle.fs_model.specs.Cells.{key_of, cell_after, is_change}
use Rattle.fs_model.specs.Lawful.{IsLawfulFor, cell_of}
use Rattle.pm_region.specs.State.{During, cell_now}
use Rattle.pm_region.specs.Words.{KeepsOutside}
use Rattle.log_entry.specs.declared.entry.Body.{Body}
use Rattle.chunk_map.specs.declared.layouts.Geometry.{Geometry}
use Rattle.chunk_map.specs.Layouts.{owner, part_first, IsLayout}
use Rattle.group_laws.specs.Places.{Place}
use Rattle.group_laws.specs.Places as places
use Rattle.group_laws.specs.State.{Group}
use Rattle.group_laws.specs.Steps.{left_by}
use Rattle.group_laws.specs.MemberViews.{View, view_of}
use Rattle.group_laws.specs.Regions.{place_at}
use Rattle.group_board.specs.Views.{left_in}
use Rattle.licence.specs.Licence.{Licensed}
use Rattle.engine_laws.specs.Parts.{group_of, member_of}
use Rattle.engine_laws.specs.WorkerMoves.{Hands, Fixed, request_placed, line_in, asked, replied, fixed_of, requests_for, HoldsKey, WorkerMoves}
use Rattle.engine_laws.specs.RefusalCauses.{Refuses}
use Rattle.engine_laws.specs.Engine.{Engine, group_for, cell_at, line}
use Rattle.engine_laws.specs.Moves.{Moves, KeyMoves, KeyHolds}
use Rattle.engine_laws.specs.Workers.{Sits, Around}
use Rattle.engine_laws.proofs.CauseLaws.{refuses_less}
use Rattle.engine_laws.proofs.SpendingMoves.{spends_room}
use Rattle.engine_laws.proofs.Cores.{core_is, of_member, of_core}
use Rattle.engine_laws.proofs.Others.{cell_in, last_in, pending_in, left_from}

-- a key of the core, in the view of its member
module _ (e : Engine) (c : ℕ) (layout : IsLayout e.layout) (at : (e.group (group_of e.layout c)).place ≡ place_at e.layout (group_of e.layout c)) (v : View) (w : Hands) (S : Sits e c v w) (k : ℕ) (own : owner e.layout k ≡ c) where
  abbrev g : Group
  g = e.group (group_of e.layout c)

  abbrev m : ℕ
  m = member_of e.layout c

  group_is : group_for e k ≡ g
  group_is = ap (λ d. e.group (d / e.layout.group)) own

  owner_is : places.owner g.place k ≡ m
  owner_is = ap (λ (q : Place). places.owner q k) at ∙ of_member e.layout layout c k own

  cell_is : v.cell k ≡ cell_at e k
  cell_is = ap (λ (y : View). y.cell k) S.view ∙ cell_in g m k owner_is ∙ sym (ap (λ (y : Group). y.cell k) group_is)

  last_is : v.last k ≡ (group_for e k).last k
  last_is = ap (λ (y : View). y.last k) S.view ∙ last_in g m k owner_is ∙ sym (ap (λ (y : Group). y.last k) group_is)

  pending_is : v.pending k ≡ (group_for e k).pending k
  pending_is = ap (λ (y : View). y.pending k) S.view ∙ pending_in g m k owner_is ∙ sym (ap (λ (y : Group). y.pending k) group_is)

  left_there : (b : Body) → left_in v.blocks b ≡ left_by (group_for e k) (places.owner (group_for e k).place k) b
  left_there b = ap (λ (y : View). left_in y.blocks b) S.view ∙ left_from g m k owner_is b ∙ sym (ap (λ (y : Group). left_by y (places.owner y.place k) b) group_is)

  pub line_is : line_in w k ≡ line e k
  line_is = let p = S.place k own in let q = S.waits k own in (λ i. request_placed (p i) ++ q i)

  key_holds : HoldsKey v w k → KeyHolds e k
  key_holds H = record {
    posted = λ x is posted.
        let h = H.posted x (S.place k own ∙ is) posted in
        (ap (is_change x.request) (sym cell_is) ∙ h.0, (h.1.0, h.1.1, sym pending_is ∙ h.1.2, h.1.3, sym (left_there h.1.0.entry.body) ∙ h.1.4 ∙ ap (cell_after x.request) cell_is));
    pending = λ p is. elim (H.pending p (pending_is ∙ is)) [
      | inl held ↦ inl (held.0, sym (S.place k own) ∙ held.1, held.2)
      | inr doubt ↦ inr (doubt.0, sym (S.place k own) ∙ doubt.1, ap e.stopped own ∙ sym S.stopped ∙ doubt.2)
    ];
  }

module _ (e f : Engine) (c : ℕ) (accepted : List (ℕ × Request)) (fixed : List Fixed) (v u : View) (w x : Hands) (layout : IsLayout e.layout)
    (at : (e.group (group_of e.layout c)).place ≡ place_at e.layout (group_of e.layout c)) (at' : (f.group (group_of e.layout c)).place ≡ place_at e.layout (group_of e.layout c))
    (S : Sits e c v w) (T : Sits f c u x) (A : Around e f c accepted fixed) (now : f.stock c ≡ x.stock)
    (W : WorkerMoves (place_at e.layout (group_of e.layout c)) (member_of e.layout c) e.region f.region (Some (e.group (group_of e.layout c))) (Some (f.group (group_of e.layout c))) v u w x accepted fixed) where
  abbrev l : Geometry
  l = e.layout

  layout' : IsLayout f.layout
  layout' = subst IsLayout (sym A.layout) layout

  at_f : (f.group (group_of f.layout c)).place ≡ place_at f.layout (group_of f.layout c)
  at_f = subst (λ (n : Geometry). (f.group (group_of n c)).place ≡ place_at n (group_of n c)) (sym A.layout) at'

  own_f : (k : ℕ) → owner l k ≡ c → owner f.layout k ≡ c
  own_f k own = ap (λ (n : Geometry). owner n k) A.layout ∙ own

  view' : u ≡ view_of (f.group (group_of l c)) (member_of l c)
  view' = T.view ∙ (λ i. view_of (f.group (group_of (A.layout i) c)) (member_of (A.layout i) c))

  key_moves : (k : ℕ) → owner l k ≡ c → KeyMoves e f k (requests_for k accepted) (fixed_of k fixed)
  key_moves k own =
      let K = W.keys k (of_member l layout c k own) in
      let cell = cell_is e c layout at v w S k own in
      let cell' = cell_is f c layout' at_f u x T k (own_f k own) in
      let pend = pending_is e c layout at v w S k own in
      let pend' = pending_is f c layout' at_f u x T k (own_f k own) in
      let place = S.place k own in
      let place' = T.place k (own_f k own) in
      let stop : w.stopped ≡ e.stopped (owner l k) = S.stopped ∙ sym (ap e.stopped own) in
      let stop' : x.stopped ≡ f.stopped (owner l k) = T.stopped ∙ sym (ap f.stopped own) in
      record {
        order = ap (λ xs. xs ++ requests_for k accepted) (sym (line_is e c layout at v w S k own)) ∙ K.order ∙ ap (λ xs. map asked (fixed_of k fixed) ++ xs) (line_is f c layout' at_f u x T k (own_f k own));
        lawful = subst (λ d. IsLawfulFor d false (map replied (fixed_of k fixed))) cell K.lawful;
        cell = ap (λ d. cell_of d (map replied (fixed_of k fixed))) (sym cell) ∙ K.cell ∙ cell';
        after_stop = λ stopped idle. (let h = K.after_stop (stop ∙ stopped) (place ∙ idle) in (h.0, sym place' ∙ h.1));
        stops = λ y i is. (let h = K.stops y i is in (sym stop' ∙ h.0, sym place' ∙ h.1));
        posted = λ y held posted. elim (K.posted y (place ∙ held) posted) [
          | inl stays ↦ inl (stays.0, sym place' ∙ stays.1)
          | inr first ↦ inr first
        ];
        doubt = λ d is. elim (K.doubt d (pend' ∙ is)) [
          | inl was ↦ inl (sym pend ∙ was)
          | inr new ↦ inr (new.0, new.1, new.2, sym place ∙ new.3, new.4, sym pend ∙ new.5, new.6, sym (left_there f c layout' at_f u x T k (own_f k own) d.body) ∙ new.7 ∙ left_there e c layout at v w S k own d.body)
        ];
      }

  -- With what the engine sees to, it is a move.
  pub worker_moves : Moves e f c accepted fixed
  worker_moves = record {
    core = A.core;
    layout = A.layout;
    steps = W.steps;
    runs = W.whole;
    other_groups = A.other_groups;
    outside = subst (λ (d : ℕ). During e.region f.region (KeepsOutside (cell_now e.region) (part_first l d) (part_first l (d + 1)))) (core_is l layout c) W.outside;
    moments = subst (λ (y : View). During e.region f.region (Licensed (place_at l (group_of l c)) (member_of l c) y)) S.view W.moments;
    exit = λ telling. subst (λ (y : View). Licensed (place_at l (group_of l c)) (member_of l c) y (cell_now f.region)) view' (W.exit telling);
    given = A.given;
    backlog = A.backlog;
    other_backlogs = A.other_backlogs;
    own_keys = A.own_keys;
    keys = key_moves;
    holds = λ k own. key_holds f c layout' at_f u x T k (own_f k own) (W.holds k (of_member l layout c k own));
    other_keys = A.other_keys;
    refuses = λ k own.
        let R = refuses_less l (e.stock c) w.stock (v.last k) (u.last k) (map replied (fixed_of k fixed)) S.stock (W.refuses k (of_member l layout c k own)) in
        subst (λ (n : ℕ). Refuses l (e.stock c) n ((group_for f k).last k) (map replied (fixed_of k fixed))) (last_is e c layout at v w S k own)
        (subst (λ (n : ℕ). Refuses l (e.stock c) (v.last k) n (map replied (fixed_of k fixed))) (last_is f c layout' at_f u x T k (own_f k own)) R);
    spends = spends_room e f c accepted fixed v u w x layout S T A now (λ y i. of_core l layout c (key_of y.request) (W.own y i)) W.spends;
    own_answers = λ y i. of_core l layout c (key_of y.request) (W.own y i);
    answers = record { new = A.new_answers; old = A.old_answers };
    stops = λ is. elim (W.stops (T.stopped ∙ is)) [
      | inl before ↦ inl (sym S.stopped ∙ before)
      | inr (inl rose) ↦ inr (inl rose)
      | inr (inr failed) ↦ inr (inr failed.1)
    ];
    breaks = λ is. sym T.stopped ∙ W.breaks (ap (λ (y : View). y.broken) view' ∙ is);
    stays_stopped = λ is. sym T.stopped ∙ W.stays_stopped (S.stopped ∙ is);
    other_stops = A.other_stops;
    other_takes = A.other_takes;
    other_stocks = A.other_stocks;
  }
