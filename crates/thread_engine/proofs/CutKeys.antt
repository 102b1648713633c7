-- What a crash leaves at a cut of a run.
use Rattle.std.proofs.Common.{◌≡◌, ◌⊎◌, inl, inr, ℕ, ◌+◌, ◌≤◌, ◌<◌, ◌==◌, Bool, false, List, [], ◌∷◌, ◌++◌, map, length, Option, Some, None, refl, sym, ◌∙◌, ap, subst, arith, append-nil, append_assoc}
use Rattle.std.specs.List.{AllByRecursion}
use Rattle.std.proofs.lemmas.List.{map-append}
use Rattle.std.proofs.lemmas.List.Elements.{filter-append}
use Rattle.fs_model.specs.declared.model.Request.{Request}
use Rattle.fs_model.specs.declared.model.Reply.{Reply}
use Rattle.fs_model.specs.Cells.{key_of}
use Rattle.fs_model.specs.Changes.{requests_of, IsPrefixCell}
use Rattle.pm_region.specs.Cell.{Cell, certain, MayBe}
use Rattle.pm_region.specs.State.{Frame}
use Rattle.log_entry.specs.declared.entry.Body.{Body}
use Rattle.log_entry.specs.declared.entry.Body.TheVariants as bodies
use Rattle.chunk_map.specs.declared.layouts.Geometry.{Geometry}
use Rattle.chunk_map.specs.Layouts.{layout_of, owner, IsLayout}
use Rattle.store_image.specs.Facts.{In}
use Rattle.store_image.specs.Winners.{recovered}
use Rattle.store_image.proofs.Clients.{has_layout, superblock_facts}
use Rattle.recover.specs.declared.types.Recovered.{Recovered}
use Rattle.group_laws.specs.declared.types.Pending.{Pending}
use Rattle.group_laws.specs.Places as places
use Rattle.group_laws.specs.State.{Group}
use Rattle.group_laws.specs.Steps.{left_by, bytes_of}
use Rattle.group_laws.specs.Crashes.{Leaves}
use Rattle.group_laws.specs.Invariant.{Lawful}
use Rattle.group_laws.specs.MemberViews.{View, view_of}
use Rattle.group_laws.specs.OpeningImages.{opened}
use Rattle.group_laws.specs.Regions.{groups_in, place_at, key_group, ShowsCell}
use Rattle.group_laws.proofs.Clients.{run_keeps, run_place}
use Rattle.group_board.specs.Trails.{TrailStep}
use Rattle.licence.specs.Licence.{Licensed, part_at, part_end}
use Rattle.headline.specs.Headline.{changes_in, cells_of, Recovers}
use Rattle.headline.proofs.Clients.{prefix_grows}
use Rattle.engine_laws.specs.Parts.{Groups, AllLicensed, LicensedPart, HasSuperblock, ShowsGroups, group_of, member_of}
use Rattle.engine_laws.specs.Engine as engines
use Rattle.engine_laws.specs.Engine.{Engine, line}
use Rattle.engine_laws.specs.WorkerMoves.{request_placed, Fixed, asked, replied, fixed_of, requests_for, line_in}
use Rattle.engine_laws.specs.Keys.{Served, pairs, posted_in, finished, changes_on, changes_at, KeyStands}
use Rattle.engine_laws.specs.KeyLaw.{KeyView, KeyIs, key_view, key_in}
use Rattle.engine_laws.specs.Reports.{told_of}
use Rattle.engine_laws.specs.Origins.{Origin, start_of}
use Rattle.engine_laws.specs.Promises.{IsOrigin}
use Rattle.engine_laws.specs.Stands.{StandsNow}
use Rattle.engine_laws.proofs.Clients.{owner_low, group_low, of_member, opens, shows_groups, key_shows, changes_told, in_filter}
use Rattle.thread_engine.specs.WorkLaws.{KeepsDoubts, WorksOff, hands_at}
use Rattle.thread_engine.specs.WorkStates.{joined_in, given_in}
use Rattle.thread_engine.specs.CoreRuns.{requests_to, HasView, view_after, CoreRun, AllRan, fixed_in, fixed_along, fixed_at}
use Rattle.thread_engine.specs.Cuts.{Spot, kinds_in, Cut, finished_at, MayLeaveAt}
use Rattle.thread_engine.proofs.SameViews.{like_key, key_shown, shown_licence}
use Rattle.thread_engine.proofs.Spots.{AfterLaw, Found, found, same_front}
use Rattle.thread_engine.proofs.ByNumber.{requests_are}
use Rattle.thread_engine.proofs.LastState.{ChainLaw, OpeningKeys, OpeningDoubts}

-- answered requests that are those that were fixed, with the answers by number
same_pairs : (ans : ℕ → Option engines.Answer) (t : ℕ) (xs : List Served) (fs : List Fixed) → map (λ (x : Served). (x.number, x.request)) xs ≡ map asked fs → AllByRecursion (λ (x : Served). ans x.number ≡ Some x.answer) xs
    → ((y : Fixed) → In y fs → ans y.number ≡ Some (record { reply = y.reply; stamp = t })) → pairs xs ≡ map replied fs
same_pairs ans t [] [] e told fixed = refl
same_pairs ans t [] (y ∷ ys) e told fixed = absurd (let n = ap length e in omega (arith, n))
same_pairs ans t (x ∷ xs) [] e told fixed = absurd (let n = ap length e in omega (arith, n))
same_pairs ans t (x ∷ xs) (y ∷ ys) e told fixed =
    let first : (x.number, x.request) ≡ asked y = cc e in
    let rest : map (λ (z : Served). (z.number, z.request)) xs ≡ map asked ys = cc e in
    let both : Some x.answer ≡ Some (record { reply = y.reply; stamp = t }) = sym told.0 ∙ ap (λ (q : ℕ × Request). ans q.0) first ∙ fixed y (inl refl) in
    let same : x.answer ≡ record { reply = y.reply; stamp = t } = cc both in
    (λ i. ((first i).1, (same i).reply) ∷ same_pairs ans t xs ys rest told.1 (λ z j. fixed z (inr j)) i)

-- what a key's pending change leaves
leaves : (w : Group) (k : ℕ) (b : Body) (c : Option (List ℕ)) → Leaves (λ q. bytes_of (w.blocks (places.owner w.place k) q)) b c → c ≡ left_by w (places.owner w.place k) b
leaves w k (bodies.Pointer p) c h = h.2 ∙ sym h.1
leaves w k (bodies.Embedded v) c h = h
leaves w k bodies.Tombstone c h = h

-- an image shows so much of a key
abbrev ShowsView : KeyView → Option (List ℕ) → Type 0
ShowsView v c = (c ≡ v.cell) ⊎ ((p : Pending) × (v.pending ≡ Some p) × (c ≡ v.left p.entry.body))

in_group : (l : Geometry) (w : ℕ → Group) (image : ℕ → ℕ) (k : ℕ) → ShowsCell l w image k → ShowsView (key_in (w (key_group l k)) k) (recovered l image k)
in_group l w image k (inl is) = inl is
in_group l w image k (inr next) = inr (next.0, next.1, leaves (w (key_group l k)) k next.0.entry.body (recovered l image k) next.2)

module _ (law : AfterLaw) (chain : ChainLaw) (keys_open : OpeningKeys) (doubts_open : OpeningDoubts) (o : Origin) (r : Recovered) (refused : Bool) (e : Engine) (is : IsOrigin o) (S : StandsNow o e) (ran : AllRan o r refused e)
    (order : ℕ → List (ℕ × TrailStep)) (cut : Cut o r refused e ran.cores order) (image : ℕ → ℕ) (may : MayLeaveAt cut image) where
  abbrev l : Geometry
  l = e.layout

  abbrev lay : l ≡ layout_of o.found
  lay = ran.layout

  is_layout : IsLayout l
  is_layout = subst IsLayout (sym lay) (superblock_facts o.region.frame.bytes o.found (has_layout o.region.frame.bytes o.found is.sound)).1

  -- the groups at the cut
  groups : Groups l cut.group
  groups = record {
    place = λ g low. run_place (opened (place_at l g) o.found) (kinds_in (cut.early g)) (cut.group g) (cut.shown g low).runs;
    lawful = λ g low. run_keeps (opened (place_at l g) o.found) (kinds_in (cut.early g)) (cut.group g)
        (subst (λ (m : Geometry). Lawful (opened (place_at m g) o.found)) (sym lay) ((opens o is.sound is.first is.words is.certain).groups.lawful g (subst (λ (m : Geometry). g < groups_in m) lay low)))
        (cut.shown g low).runs;
  }

  abbrev cells : ℕ → Cell
  cells w = certain (image w)

  -- of one core
  module _ (c : ℕ) (low : c < l.cores) where
    abbrev y : CoreRun o r refused e c
    y = ran.cores c low

    abbrev x : Spot
    x = cut.core c

    abbrev F : Found y.seat refused y.first.view x y.first y.works.path y.last y.works.leads
    F = found law y.seat refused y.first.view x y.first y.works.path y.last y.works.leads y.at_work (ap (view_after y.first.view) y.idle) y.loads (cut.at c low)

    abbrev v : View
    v = view_after y.first.view x.done

    first_view : y.first.view ≡ view_of (opened (place_at l (group_of l c)) o.found) (member_of l c)
    first_view = y.sits.view ∙ (λ i. view_of (opened (place_at (sym lay i) (group_of (sym lay i) c)) o.found) (member_of (sym lay i) c))

    has : HasView (cut.group (group_of l c)) (member_of l c) v
    has = subst (HasView (cut.group (group_of l c)) (member_of l c)) (λ i. view_after (sym first_view i) (sym (cut.steps c low) i)) ((cut.shown (group_of l c) (group_low l is_layout c low)).views (member_of l c))

    frame : x.piece.frame ≡ y.first.region.frame
    frame = F.frame

    part_low : x.piece.frame.first ≡ part_at (place_at l (group_of l c)) (member_of l c)
    part_low = ap (λ (f : Frame). f.first) frame ∙ y.piece.piece.between.first ∙ y.piece.low ∙ (λ i. part_at (y.place i) (y.number i))

    part_high : x.piece.frame.first + x.piece.frame.words ≡ part_end (place_at l (group_of l c)) (member_of l c)
    part_high = ap (λ (f : Frame). f.first + f.words) frame ∙ y.piece.piece.between.end ∙ y.piece.high ∙ (λ i. part_end (y.place i) (y.number i))

    piece_licensed : Licensed (place_at l (group_of l c)) (member_of l c) (view_of (cut.group (group_of l c)) (member_of l c)) (x.piece.cells x.stamp)
    piece_licensed = shown_licence (cut.group (group_of l c)) (place_at l (group_of l c)) (member_of l c) v (x.piece.cells x.stamp) has
        (subst (λ (m : ℕ). Licensed (place_at l (group_of l c)) m v (x.piece.cells x.stamp)) y.number (subst (λ (p : places.Place). Licensed p y.seat.number v (x.piece.cells x.stamp)) y.place F.licensed))

    part_licensed : LicensedPart l c (cut.group (group_of l c)) cells
    part_licensed other leaves_it = piece_licensed other (λ w lo hi.
        let a = part_low in
        let b = part_high in
        let same : other w ≡ image w = one (leaves_it w lo hi) in
        subst (MayBe (x.piece.cells x.stamp w)) (sym same) (may.pieces c low w (record { low = omega (arith, a, lo); high = omega (arith, b, hi) })))
      where
        one : {a b : ℕ} → MayBe (certain a) b → b ≡ a
        one (inl e) = e
        one (inr n) = absurd n

  shown : ShowsGroups o.region.frame.bytes (layout_of o.found) cut.group image
  shown = shows_groups o.region.frame.bytes o.found o.region.frame cut.group cells image (has_layout o.region.frame.bytes o.found is.sound) is.first is.words (subst (λ (m : Geometry). Groups m cut.group) lay groups) superblock
      (subst (λ (m : Geometry). AllLicensed m cut.group cells) lay part_licensed) (λ w within. inl refl)
    where
      superblock : HasSuperblock o.found cells
      superblock w low z (inl e) = e ∙ may.superblock w low
      superblock w low z (inr n) = absurd n

  -- of one key
  module _ (k : ℕ) where
    abbrev c : ℕ
    c = owner l k

    abbrev low : c < l.cores
    low = owner_low l is_layout k

    abbrev Y : CoreRun o r refused e c
    Y = ran.cores c low

    abbrev G : Found Y.seat refused Y.first.view (cut.core c) Y.first Y.works.path Y.last Y.works.leads
    G = F c low

    abbrev start : Option (List ℕ)
    start = start_of o k

    own : places.owner Y.seat.place k ≡ Y.seat.number
    own = (λ i. places.owner (Y.place i) k) ∙ of_member l is_layout c k refl ∙ sym Y.number

    own_found : owner (layout_of o.found) k ≡ c
    own_found = ap (λ (m : Geometry). owner m k) (sym lay)

    doubts : KeepsDoubts Y.seat Y.first.view
    doubts = subst (KeepsDoubts Y.seat) (sym (first_view c low ∙ (λ i. view_of (opened (sym Y.place i) o.found) (sym Y.number i)))) (doubts_open Y.seat o.found)

    -- the chain up to the cut, from there on, and whole
    front : (w : WorksOff Y.seat Y.first G.state) × (w.fixed ≡ fixed_along Y.seat refused Y.first G.before G.state G.front) × KeepsDoubts Y.seat G.state.view
    front = (let C = chain Y.seat refused Y.first G.state Y.at_work doubts (record { path = G.before; leads = G.front }) in (C.0, C.1, C.2))

    back : (w : WorksOff Y.seat G.state Y.last) × (w.fixed ≡ fixed_along Y.seat refused G.state G.behind Y.last G.back) × KeepsDoubts Y.seat Y.last.view
    back = (let C = chain Y.seat refused G.state Y.last G.work front.2 (record { path = G.behind; leads = G.back }) in (C.0, C.1, C.2))

    whole : (w : WorksOff Y.seat Y.first Y.last) × (w.fixed ≡ fixed_in Y.seat refused Y.first Y.last Y.works) × KeepsDoubts Y.seat Y.last.view × (w.joined ≡ joined_in Y.seat refused Y.first Y.last Y.works)
        × (w.given ≡ given_in Y.seat refused Y.first Y.last Y.works)
    whole = chain Y.seat refused Y.first Y.last Y.at_work doubts Y.works

    first_key : KeyIs start (key_view Y.first.view k) ((hands_at Y.first).place k) Y.first.worker.stopped []
    first_key =
        subst (λ (w : View). KeyIs start (key_view w k) ((hands_at Y.first).place k) Y.first.worker.stopped []) (sym Y.sits.view)
        (subst (λ p. KeyIs start (key_view (view_of (opened (place_at (layout_of o.found) (group_of (layout_of o.found) c)) o.found) (member_of (layout_of o.found) c)) k) p Y.first.worker.stopped []) (sym (Y.sits.place k own_found))
        (subst (λ b. KeyIs start (key_view (view_of (opened (place_at (layout_of o.found) (group_of (layout_of o.found) c)) o.found) (member_of (layout_of o.found) c)) k) None b []) (sym Y.new.runs)
        (subst (λ (d : ℕ). KeyIs start (key_view (view_of (opened (place_at (layout_of o.found) (group_of (layout_of o.found) d)) o.found) (member_of (layout_of o.found) c)) k) None false []) own_found
        (keys_open o is (member_of (layout_of o.found) c) k (of_member (layout_of o.found) (subst IsLayout lay is_layout) (owner (layout_of o.found) k) k refl ∙ ap (member_of (layout_of o.found)) own_found)))))

    abbrev xs : List (Request × Reply)
    xs = map replied (fixed_of k (fixed_along Y.seat refused Y.first G.before G.state G.front))

    abbrev all : List (Request × Reply)
    all = map replied (fixed_of k (fixed_at Y))

    key_here : KeyIs start (key_view G.state.view k) ((hands_at G.state).place k) G.state.worker.stopped xs
    key_here = subst (λ fs. KeyIs start (key_view G.state.view k) ((hands_at G.state).place k) G.state.worker.stopped (map replied (fixed_of k fs))) front.1 (front.0.keys start k [] own first_key)

    -- what the image shows of the key
    view_is : key_view G.state.view k ≡ key_in (cut.group (group_of l c)) k
    view_is = sym (like_key (v c low) G.state.view k G.like) ∙ key_shown (cut.group (group_of l c)) (member_of l c) k (v c low) (has c low)
        (ap (λ (p : places.Place). places.owner p k) (groups.place (group_of l c) (group_low l is_layout c low)) ∙ of_member l is_layout c k refl)

    shows_here : ShowsView (key_view G.state.view k) (recovered l image k)
    shows_here = subst (λ (z : KeyView). ShowsView z (recovered l image k)) (sym view_is) (in_group l cut.group image k (subst (λ (m : Geometry). ShowsCell m cut.group image k) (sym lay) (shown.cells k)))

    here : (length (finished xs) ≤ length (changes_on start (xs ++ posted_in ((hands_at G.state).place k)))) × IsPrefixCell start (changes_on start (xs ++ posted_in ((hands_at G.state).place k))) (length (finished xs)) (recovered l image k)
    here = key_shows start (key_view G.state.view k) ((hands_at G.state).place k) G.state.worker.stopped xs (recovered l image k) key_here shows_here

    -- the answered requests at the end
    rest : List (ℕ × Request)
    rest = line_in (hands_at Y.last) k ++ requests_for k (Y.last.queue ++ Y.later)

    requests : requests_of k e.given ≡ map asked (fixed_of k (fixed_at Y)) ++ rest
    unfolding rest
    requests =
        sym (requests_are l c k e.given refl) ∙ ap (requests_for k) all_split ∙ filter-append (λ (z : ℕ × Request). key_of z.1 == k) whole.0.accepted (Y.last.queue ++ Y.later)
        ∙ ap (λ h. h ++ requests_for k (Y.last.queue ++ Y.later)) (ap (λ h. h ++ requests_for k whole.0.accepted) (sym nothing_first) ∙ whole.0.order k own ∙ ap (λ h. map asked (fixed_of k h) ++ line_in (hands_at Y.last) k) whole.1)
        ∙ append_assoc (map asked (fixed_of k (fixed_at Y))) (line_in (hands_at Y.last) k) (requests_for k (Y.last.queue ++ Y.later))
      where
        all_split : requests_to l c e.given ≡ whole.0.accepted ++ (Y.last.queue ++ Y.later)
        all_split = sym Y.dealt ∙ ap (λ q. q ++ Y.later) (sym whole.3 ∙ ap (λ q. q ++ whole.0.joined) (sym Y.queue) ∙ whole.0.split) ∙ append_assoc whole.0.accepted Y.last.queue Y.later

        nothing_first : line_in (hands_at Y.first) k ≡ []
        nothing_first = (λ i. request_placed (Y.sits.place k own_found i) ++ Y.sits.waits k own_found i)

    line_is : line e k ++ requests_for k (e.backlog c) ≡ rest
    unfolding rest
    line_is = (λ i. (request_placed (Y.places k refl i) ++ Y.waits k refl i) ++ requests_for k (Y.backlog i))

    abbrev K : KeyStands start e k
    K = S.keys k

    served_are : pairs K.served ≡ all
    served_are = same_pairs e.answer e.region.stamp K.served (fixed_of k (fixed_at Y))
        (same_front (map (λ (z : Served). (z.number, z.request)) K.served) (map asked (fixed_of k (fixed_at Y))) rest (ap (λ h. map (λ (z : Served). (z.number, z.request)) K.served ++ h) (sym line_is) ∙ sym K.split ∙ requests))
        K.answers (λ z i. Y.answers z (in_filter (λ (f : Fixed). key_of f.request == k) (fixed_at Y) z i).0)

    -- the key's changes begin with those known at the cut
    all_is : xs ++ map replied (fixed_of k back.0.fixed) ≡ all
    all_is =
        let fs = fixed_along Y.seat refused Y.first G.before G.state G.front in
        let gs = fixed_along Y.seat refused G.state G.behind Y.last G.back in
        ap (λ hs. xs ++ map replied (fixed_of k hs)) back.1 ∙ sym (map-append replied (fixed_of k fs) (fixed_of k gs)) ∙ ap (map replied) (sym (filter-append (λ (f : Fixed). key_of f.request == k) fs gs)) ∙ ap (λ hs. map replied (fixed_of k hs)) (sym G.whole)

    changes : (zs : List Request) × (changes_in (start_of o) e.given (told_of e) k ≡ changes_on start (xs ++ posted_in ((hands_at G.state).place k)) ++ zs)
    changes =
        let grown = back.0.grows start k xs own key_here in
        let told = changes_told o e S [] k in
        let end : changes_at start e k K ≡ changes_on start (xs ++ posted_in ((hands_at G.state).place k)) ++ grown.0 =
        (λ i. changes_on start (served_are i ++ posted_in (Y.places k refl i))) ∙ ap (λ ys. changes_on start (ys ++ posted_in ((hands_at Y.last).place k))) (sym all_is) ∙ grown.1 in (
          grown.0 ++ told.0,
          ap (λ t. changes_in (start_of o) t (told_of e) k) (sym (append-nil e.given)) ∙ told.1 ∙ ap (λ zs. zs ++ told.0) end ∙ append_assoc (changes_on start (xs ++ posted_in ((hands_at G.state).place k))) grown.0 told.0,
        )

    key_recovers : IsPrefixCell (start_of o k) (changes_in (start_of o) e.given (told_of e) k) (finished_at cut k) (cells_of image k)
    key_recovers =
        let grown = prefix_grows start (recovered l image k) (changes_on start (xs ++ posted_in ((hands_at G.state).place k))) changes.0 (length (finished xs)) here.0 here.1 in
        let count : length (finished xs) ≡ finished_at cut k = ap (λ fs. length (finished (map replied (fixed_of k fs)))) (sym G.fixed) in
        subst (λ (m : Geometry). IsPrefixCell start (changes_in (start_of o) e.given (told_of e) k) (finished_at cut k) (recovered m image k)) (lay ∙ sym shown.layout)
        (subst (λ (n : ℕ). IsPrefixCell start (changes_in (start_of o) e.given (told_of e) k) n (recovered l image k)) count
        (subst (λ zs. IsPrefixCell start zs (length (finished xs)) (recovered l image k)) (sym changes.1) grown))

  pub recovers : Recovers o.region.frame.bytes (start_of o) e.given (told_of e) (finished_at cut) image
  recovers = record { sound = shown.sound; cells = λ k lt. key_recovers k }
