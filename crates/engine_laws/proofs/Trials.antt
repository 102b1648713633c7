-- Moves that there are: one that does nothing, and the accept of a get of a key that is not busy.
use Rattle.std.proofs.Common.{◌≡◌, ℕ, ◌+◌, ◌<◌, ◌≤◌, List, [], ◌∷◌, ◌++◌, map, true, false, cond, Option, Some, None, inl, inr, refl, sym, ap, ◌∙◌, subst, arith, append-nil}
use Rattle.std.proofs.lemmas.Bool.{cases_eq, eq-eqb, ne_eqb}
use Rattle.fs_model.specs.declared.model.Request.{Request}
use Rattle.fs_model.specs.declared.model.Request.TheVariants.{Get}
use Rattle.fs_model.specs.declared.model.Reply.{Reply}
use Rattle.fs_model.specs.declared.model.Reply.TheVariants.{Full, VersionsSpent, TooLong, Stopped}
use Rattle.fs_model.specs.Cells.{key_of, answer_to}
use Rattle.fs_model.specs.Lawful.{cell_of}
use Rattle.pm_region.specs.State.{cell_now}
use Rattle.pm_region.specs.Words.{KeepsOutside}
use Rattle.pm_region.proofs.Clients.{started}
use Rattle.chunk_map.specs.declared.layouts.Geometry.{Geometry}
use Rattle.chunk_map.specs.Layouts.{part_first, owner, payload_lines}
use Rattle.group_laws.specs.Updates.{put}
use Rattle.store_image.specs.Facts.{In}
use Rattle.engine_laws.specs.Parts.{group_of, LicensedPart}
use Rattle.engine_laws.specs.WorkerMoves.{Fixed, request_placed, replied, fixed_of, requests_for}
use Rattle.engine_laws.specs.Engine.{Engine, group_for, cell_at, line}
use Rattle.engine_laws.specs.Moves.{Moves, KeyMoves}
use Rattle.engine_laws.specs.RefusalCauses.{Refuses}
use Rattle.engine_laws.proofs.CauseLaws.{raised_by_low, quiet_refuses}
use Rattle.engine_laws.specs.Stands.{Origin, Stands}

module _ (o : Origin) (e : Engine) (S : Stands o e) (c : ℕ) (core : c < e.layout.cores) (n k : ℕ) (rest : List (ℕ × Request))
    (own : owner e.layout k ≡ c) (first : e.backlog c ≡ (n, Get k) ∷ rest) (idle : e.place k ≡ None) (none : e.waits k ≡ []) (going : e.stopped c ≡ false) where
  abbrev reply : Reply
  reply = answer_to (Get k) (cell_at e k)

  abbrev f : Engine
  f = record e { backlog = put e.backlog c rest; answer = put e.answer n (Some (record { reply = reply; stamp = e.region.stamp })) }

  abbrev x : Fixed
  x = record { number = n; request = Get k; reply = reply; refusal = None }

  not_stopped : (d : Option (List ℕ)) → answer_to (Get k) d ≡ Stopped → ⊥
  not_stopped None q = cc q
  not_stopped (Some v) q = cc q

  not_spent : (d : Option (List ℕ)) → answer_to (Get k) d ≡ VersionsSpent → ⊥
  not_spent None q = cc q
  not_spent (Some v) q = cc q

  not_long : (d : Option (List ℕ)) → answer_to (Get k) d ≡ TooLong → ⊥
  not_long None q = cc q
  not_long (Some v) q = cc q

  not_full : (d : Option (List ℕ)) → answer_to (Get k) d ≡ Full → ⊥
  not_full None q = cc q
  not_full (Some v) q = cc q

  same_cell : (d : Option (List ℕ)) → cell_of d ((Get k, answer_to (Get k) d) ∷ []) ≡ d
  same_cell None = refl
  same_cell (Some v) = refl

  off_stop : (P : Type 0) (d : ℕ) → owner e.layout d ≡ c → e.stopped (owner e.layout d) ≡ true → P
  off_stop P d own stop = absurd (let s = sym (ap e.stopped own) ∙ stop in cc (s, going))

  own_key : KeyMoves e f k ((n, Get k) ∷ []) (x ∷ [])
  own_key = record {
    order = (λ i. (request_placed (idle i) ++ none i) ++ (n, Get k) ∷ []) ∙ sym (λ i. (n, Get k) ∷ (request_placed (idle i) ++ none i));
    lawful = (inl refl, tt);
    cell = same_cell (cell_at e k);
    after_stop = λ stop at. off_stop _ k own stop;
    stops = λ y i q. absurd (bad y i q);
    posted = λ y at posted. absurd (cc (at, idle));
    doubt = λ d q. inl q;
  } where
    bad : (y : Fixed) → In y (x ∷ []) → y.reply ≡ Stopped → ⊥
    bad y (inl q) r = not_stopped (cell_at e k) (sym (ap (λ (z : Fixed). z.reply) q) ∙ r)
    bad y (inr i) r = i

  other_key : (j : ℕ) → owner e.layout j ≡ c → KeyMoves e f j [] []
  other_key j own = record {
    order = append-nil (line e j);
    lawful = tt;
    cell = refl;
    after_stop = λ stop at. (tt, at);
    stops = λ y i q. absurd i;
    posted = λ y at posted. inl (refl, at);
    doubt = λ d q. inl q;
  }

  pub get_moves : Moves e f c ((n, Get k) ∷ []) (x ∷ [])
  get_moves = record {
    core = core;
    layout = refl;
    steps = [];
    runs = refl;
    other_groups = λ g ne. refl;
    outside = started e.region (KeepsOutside (cell_now e.region) (part_first e.layout c) (part_first e.layout (c + 1))) (λ t w out. inl refl);
    moments = started e.region (LicensedPart e.layout c (e.group (group_of e.layout c))) (λ telling. S.licensed telling c core);
    exit = λ telling. S.licensed telling c core;
    given = refl;
    backlog = first ∙ ap (λ l. (n, Get k) ∷ l) (sym (ap (λ b. cond b rest (e.backlog c)) (eq-eqb c c refl)));
    other_backlogs = λ d ne. ap (λ b. cond b rest (e.backlog d)) (ne_eqb d c ne);
    own_keys = λ y i. only y i;
    keys = λ j mine. elim (cases_eq k j) [
      | inl same ↦ subst (λ j. KeyMoves e f j (requests_for j ((n, Get k) ∷ [])) (fixed_of j (x ∷ []))) same
          (subst (λ b. KeyMoves e f k (cond b ((n, Get k) ∷ []) []) (cond b (x ∷ []) [])) (sym (eq-eqb k k refl)) own_key)
      | inr ne ↦ subst (λ b. KeyMoves e f j (cond b ((n, Get k) ∷ []) []) (cond b (x ∷ []) [])) (sym (ne_eqb k j ne)) (other_key j mine)
    ];
    holds = λ j mine. (let H = (S.keys j).holds in record { posted = H.posted; pending = H.pending });
    other_keys = λ j ne. (refl, refl);
    refuses = λ j mine. elim (cases_eq k j) [
      | inl same ↦ subst (λ b. Refuses e.layout (e.stock c) ((group_for e j).last j) ((group_for e j).last j) (map replied (cond b (x ∷ []) []))) (sym (eq-eqb k j same))
          (record { causes = (record { spent = λ q. absurd (not_spent (cell_at e k) q); long = λ q. absurd (not_long (cell_at e k) q) }, tt); full = (λ q. absurd (not_full (cell_at e k) q), tt); last_now = raised_by_low (replied x ∷ []) ((group_for e j).last j) })
      | inr ne ↦ subst (λ b. Refuses e.layout (e.stock c) ((group_for e j).last j) ((group_for e j).last j) (map replied (cond b (x ∷ []) []))) (sym (ne_eqb k j ne)) (quiet_refuses e.layout (e.stock c) ((group_for e j).last j) ((group_for e j).last j) (omega arith))
    ];
    spends = record {
      runs = λ y i full. absurd (full_none y i full);
      stays = λ j y mine at none. (y, at, refl, λ p. p);
      begun = None;
      begins = λ y q. absurd (cc q);
      posts = inl refl;
      spends = λ runs. inl (record {
        opened = false;
        cut = None;
        chunks = omega arith;
        lines = omega arith;
        late = λ q. absurd (cc q);
        small = small;
        blocks = λ d. omega arith;
        none = λ d q. absurd (cc q);
        puts = λ d q. absurd (cc q);
        class = λ d q. absurd (cc q);
      });
    };
    own_answers = λ y i. answered y i;
    answers = record {
      new = λ y i. here y i;
      old = λ m ne. ap (λ b. cond b (Some (record { reply = reply; stamp = e.region.stamp })) (e.answer m)) (ne_eqb m n (λ q. ne x (inl refl) (sym q)));
    };
    stops = λ q. inl q;
    breaks = λ q. S.broken c core q;
    stays_stopped = λ q. q;
    other_stops = λ d ne. refl;
    other_takes = λ d ne. refl;
    other_stocks = λ d ne. refl;
  } where
    full_none : (y : Fixed) → In y (x ∷ []) → y.reply ≡ Full → ⊥
    full_none y (inl q) full = not_full (cell_at e k) (ap (λ (z : Fixed). z.reply) (sym q) ∙ full)
    full_none y (inr i) full = i

    small : (e.stock c).lines ≤ payload_lines e.layout
    small = subst (λ (l : Geometry). (e.stock c).lines ≤ payload_lines l) (sym S.layout) (S.rooms.small c (subst (λ (l : Geometry). c < l.cores) S.layout core) going)

    only : (y : ℕ × Request) → In y ((n, Get k) ∷ []) → owner e.layout (key_of y.1) ≡ c
    only y (inl q) = ap (λ (z : ℕ × Request). owner e.layout (key_of z.1)) q ∙ own
    only y (inr i) = absurd i

    answered : (y : Fixed) → In y (x ∷ []) → owner e.layout (key_of y.request) ≡ c
    answered y (inl q) = ap (λ (z : Fixed). owner e.layout (key_of z.request)) q ∙ own
    answered y (inr i) = absurd i

    here : (y : Fixed) → In y (x ∷ []) → put e.answer n (Some (record { reply = reply; stamp = e.region.stamp })) y.number ≡ Some (record { reply = y.reply; stamp = e.region.stamp })
    here y (inl q) = ap (put e.answer n (Some (record { reply = reply; stamp = e.region.stamp }))) (ap (λ (z : Fixed). z.number) q) ∙ ap (λ b. cond b (Some (record { reply = reply; stamp = e.region.stamp })) (e.answer n)) (eq-eqb n n refl) ∙ ap (λ (z : Fixed). Some (record { reply = z.reply; stamp = e.region.stamp })) (sym q)
    here y (inr i) = absurd i
