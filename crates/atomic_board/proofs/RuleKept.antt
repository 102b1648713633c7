-- Each step of a table is its step of the machine, and so keeps the rule.
use Rattle.std.proofs.Common.{◌≡◌, ◌≢◌, ℕ, suc, ◌+◌, ◌*◌, ◌%◌, ◌^◌, ◌<◌, ◌≤◌, Bool, true, false, eqb, cond, List, ◌∷◌, length, get_or, set, sym, refl, ap, ◌∙◌, subst, inl, inr, ◌⊎◌, ⊎_elim, arith, length-set, get_or-set_other, get_or-set_same, ne_eqb, Option, Some, None}
use mathlib.Core.Option.{some, none, some-injective, some-ne-none}
use mathlib.Core.Option as maybe
use mathlib.Core.Logic.{dite}
use native.Mathlib.Decide.{ℕ_discrete}
use lib.ListN.{get_elem?}
use lib.Seq.{set-get_or}
use Rattle.atomic_table.proofs.Lists.{at_set, set_here, set_else}
use Rattle.log_entry.specs.declared.entry.Entry.{Entry}
use Rattle.log_entry.specs.declared.entry.EntryName.{EntryName}
use Rattle.log_entry.specs.Spelling.{words_of}
use Rattle.store_image.specs.Facts.{In}
use Rattle.group_laws.specs.declared.types.Slot.{Slot}
use Rattle.group_laws.specs.declared.types.Slot.TheVariants.{Empty, Posted, Taken, Done, Failed}
use Rattle.group_laws.specs.declared.types.SlotWord.TheVariants as words
use Rattle.group_laws.specs.declared.types.Seen.TheVariants as loads
use Rattle.group_laws.specs.Places.{Place, owner}
use Rattle.group_laws.specs.Updates.{put2, change}
use Rattle.group_laws.specs.State.{Group, Notices, word_shown}
use Rattle.group_laws.specs.Steps.{posts, locks, finds, takes, unlocks, commits, marks, fails, finishes, gives_up, withdraws, dooms}
use Rattle.group_laws.specs.Runs as runs
use Rattle.group_laws.specs.Invariant.{Lawful, PendsAt}
use Rattle.atomic_board.proofs.Reaches.{more, step_reaches, reached_by}
use Rattle.group_board.specs.declared.change.Change.{Change}
use Rattle.group_laws.specs.MemberViews.{View}
use Rattle.group_board.specs.Conditions.{IsFree, MayPost, MayLock, MayTake, MayUnlock, MayCommit, MayDoom}
use Rattle.group_board.proofs.Clients.{posted_by}
use Rattle.atomic_board.specs.declared.parcel.Parcel.{Parcel}
use Rattle.atomic_board.specs.declared.seat_data.Origin.{Origin}
use Rattle.atomic_board.specs.declared.seat_data.Holding.{Holding}
use Rattle.atomic_board.specs.declared.seat_data.Deed.{Deed}
use Rattle.atomic_board.specs.declared.seat_data.Deed.TheVariants.{Post, Lock, Found, Take, Unlock, Commit, Doom}
use Rattle.atomic_board.specs.declared.seat_data.SeatData.TheVariants.{Own, Spent}
use Rattle.atomic_board.specs.TableWords.{own_word, pool_word, mail_word, pool_place, mail_place, lock_word}
use Rattle.atomic_board.specs.Deeds.{group_of, place_of, size, names_of, names_by, after_deed, view_by, stepped_by, own_number}
use Rattle.atomic_board.specs.ShownState.{TableState, Home, lies, deeds_at, views_of, pose_at, IsSlot, IsBox, Fits, IsReached, ShowsLawful}
use Rattle.atomic_board.proofs.ViewSteps.{moved, commit_shows, lock_shows, unlock_shows, find_shows, take_shows, post_shows, doom_shows}
use Rattle.atomic_board.proofs.SeatPlaces.{own_spent, at_lt, put_at, put2_else, put2_at, deeds_here, pose_here, deeds_moved, views_moved, pose_moved}

-- the seat of m becomes another, the words and homes become these, and each slot is still kept
pub fits_after : (b : Origin) (holder new : Option ℕ) (slot to : ℕ → ℕ → Slot) (mail post : ℕ → ℕ → Option Notices) (s t : TableState) (f : Fits b holder slot mail s) (m : ℕ) (q r : Holding) (ds es : List Deed) → get_elem? s.views (suc m) ≡ some (Own m q b ds)
    → t.views ≡ set s.views (suc m) (Own m r b es) → length t.words ≡ length s.words → length t.homes ≡ length s.homes → get_or t.words 0 0 ≡ lock_word new → lock_word new ≤ size b
    → ((a u : ℕ) → a < size b → u < 8 → IsSlot (get_or t.words (pool_word (size b) a u) 0) (get_elem? t.homes (pool_place a u)) (pose_at t.views a).settled (to a u)) → ((a u : ℕ) → (size b ≤ a) ⊎ (8 ≤ u) → to a u ≡ Empty)
    → ((a c : ℕ) → a < size b → c < size b → IsBox (get_or t.words (mail_word (size b) a c) 0) (get_elem? t.homes (mail_place (size b) a c)) (pool_place a c) (pose_at t.views a).hand (pose_at t.views c).hand (post a c)) → ((a c : ℕ) → (size b ≤ a) ⊎ (size b ≤ c) → post a c ≡ None) → ((j : ℕ) → j < size b → get_or t.words (own_word j) 0 ≡ own_number (deeds_at t.views j)) → Fits b new to post t
fits_after b holder new slot to mail post s t f m q r ds es me is wide many lock low pool outside box no_box count =
    record {
      few = f.few;
      begun = f.begun;
      wide = wide ∙ f.wide;
      many = many ∙ f.many;
      lock = lock;
      member = low;
      given = f.given;
      low = f.low;
      back = f.back;
      store = ap (λ l. get_elem? l 0) is ∙ (set_else s.views (suc m) 0 (Own m r b es) (λ e. omega arith) ∙ f.store);
      long = ap length is ∙ (length-set s.views (suc m) (Own m r b es) ∙ f.long);
      gone = λ k h. let there = f.gone k h in ap (λ l. get_elem? l (suc k)) is ∙ (set_else s.views (suc m) (suc k) (Own m r b es) (λ e. own_spent m q b ds (some-injective (Own m q b ds) Spent (sym me ∙ (ap (get_elem? s.views) (sym e) ∙ there)))) ∙ there);
      own = λ j d e. ⊎_elim (λ (u : (suc j ≡ suc m) × (Own m r b es ≡ d)). inl (r, es, sym u.1 ∙ ap (λ k. Own k r b es) (let p : suc j ≡ suc m = u.0 in let z : m ≡ j = omega arith in z))) (λ (u : (suc j ≢ suc m) × (get_elem? s.views (suc j) ≡ some d)). f.own j d u.1)
          (at_set s.views (suc m) (suc j) (Own m r b es) d (ap (λ l. get_elem? l (suc j)) (sym is) ∙ e));
      pool = pool;
      outside = outside;
      box = box;
      no_box = no_box;
      count = count;
    }

-- an own slot that no change of the member names is empty
free_empty : (w : Group) (m s : ℕ) → Lawful w → ((k : ℕ) (e : Entry) → owner w.place k ≡ m → w.pending k ≢ Some (record { entry = e; slot = Some s })) → w.slot m s ≡ Empty
free_empty w m s law free = by_slot (w.slot m s) refl where
  named : (e : Entry) → PendsAt w e (Some s) → owner w.place e.key ≡ m → w.slot m s ≡ Empty
  named e p o = absurd (free e.key e o p)

  by_slot : (x : Slot) → w.slot m s ≡ x → w.slot m s ≡ Empty
  by_slot Empty is = is
  by_slot (Posted e) is = let n = law.slots.posted_named m s e is in named e n.0 n.1
  by_slot Taken is = let t = law.slots.taken_by m s is in let n = law.slots.taken_named t.0 m s t.1 t.2 in named t.1 n.0 n.1
  by_slot (Done e h) is = let n = law.slots.done_named m s h e is in named e n.0 n.1
  by_slot (Failed e) is = let n = law.slots.failed_named m s e is in named e n.0 n.1

module _ (b : Origin) (s : TableState) (o : ShowsLawful b s) (m : ℕ) (q : Holding) (ds : List Deed) (me : get_elem? s.views (suc m) ≡ some (Own m q b ds)) (near : m < size b) where
  abbrev p : Place
  p = place_of b

  abbrev n : ℕ
  n = size b

  abbrev V : ℕ → View
  V = views_of b s.views

  abbrev v : View
  v = view_by b m ds

  abbrev w : Group
  w = group_of (place_of b) o.holder o.slot o.mail (views_of b s.views)

  abbrev f : Deed → View → View
  f d = after_deed (names_by (names_of b) (d ∷ ds)) (place_of b) m d

  pub known : views_of b s.views m ≡ view_by b m ds
  known = ap (view_by b m) (deeds_here s.views m q b ds me)

  pub lawful_after : (d : Deed) (r : Holding) (holder : Option ℕ) (slot : ℕ → ℕ → Slot) → IsReached b (more (deeds_at s.views) m d) (moved (place_of b) holder slot o.mail (views_of b s.views) m (after_deed (names_by (names_of b) (d ∷ ds)) (place_of b) m d))
      → IsReached b (deeds_at (set s.views (suc m) (Own m r b (d ∷ ds)))) (group_of (place_of b) holder slot o.mail (views_of b (set s.views (suc m) (Own m r b (d ∷ ds)))))
  lawful_after d r holder slot law = reached_by b _ _ _ _ (λ k. sym (deeds_moved s.views m q r b d ds me k)) (λ i. group_of (place_of b) holder slot o.mail (λ k. sym (views_moved s.views m q r b d ds me k) i)) law

  number_same : (d : Deed) → ((n : ℕ) → stepped_by d n ≡ n) → (c : Bool) (l : List Deed) → own_number l ≡ own_number (cond c (d ∷ l) l)
  number_same d calm true l = sym (calm (own_number l))
  number_same d calm false l = refl

  -- no own word changes, at a deed that counts in none
  pub own_still : (d : Deed) (r : Holding) → ((n : ℕ) → stepped_by d n ≡ n) → (ws : List ℕ) → ((j : ℕ) → j < size b → get_or ws (own_word j) 0 ≡ get_or s.words (own_word j) 0) → (j : ℕ) → j < size b → get_or ws (own_word j) 0 ≡ own_number (deeds_at (set s.views (suc m) (Own m r b (d ∷ ds))) j)
  own_still d r calm ws same j low = same j low ∙ (o.fits.count j low ∙ (number_same d calm (eqb j m) (deeds_at s.views j) ∙ ap own_number (sym (deeds_moved s.views m q r b d ds me j))))

  -- the own word steps up, at a deed that counts there
  pub own_steps : (d : Deed) (x : ℕ) → ((n : ℕ) → stepped_by d n ≡ (n + 1) % 2 ^ 64) → x ≡ (get_or s.words (own_word m) 0 + 1) % 2 ^ 64 → (j : ℕ) → j < size b → get_or (set s.words (own_word m) x) (own_word j) 0 ≡ own_number (deeds_at (set s.views (suc m) (Own m q b (d ∷ ds))) j)
  own_steps d x counts is j low = dite (ℕ_discrete j m)
      (λ e. subst (λ k. get_or (set s.words (own_word m) x) (own_word k) 0 ≡ own_number (deeds_at (set s.views (suc m) (Own m q b (d ∷ ds))) k)) (sym e)
      (get_or-set_same s.words (own_word m) x 0 room ∙ (is ∙ (ap (λ n. (n + 1) % 2 ^ 64) (o.fits.count m near ∙ ap own_number (deeds_here s.views m q b ds me)) ∙ (sym (counts (own_number ds)) ∙ ap own_number (sym (deeds_here (set s.views (suc m) (Own m q b (d ∷ ds))) m q b (d ∷ ds) here)))))))
      (λ ne. get_or-set_other s.words (own_word m) (own_word j) x 0 (λ e. ne (omega arith)) ∙ (o.fits.count j low ∙ ap own_number (sym (deeds_moved s.views m q q b d ds me j ∙ ap (λ c. cond c (d ∷ deeds_at s.views j) (deeds_at s.views j)) (ne_eqb j m ne))))) where
        here : get_elem? (set s.views (suc m) (Own m q b (d ∷ ds))) (suc m) ≡ some (Own m q b (d ∷ ds))
        here = set_here s.views (suc m) (Own m q b (d ∷ ds)) (at_lt s.views (suc m) (Own m q b ds) me)

        room : own_word m < length s.words
        room = let wide = o.fits.wide in let z : 0 ≤ size b * size b = omega arith in omega (arith, wide, z, near)

  pub settled_same : (d : Deed) (k : ℕ) → pose_at (set s.views (suc m) (Own m q b (d ∷ ds))) k ≡ pose_at s.views k
  settled_same d k = pose_moved s.views m q q b d ds me k ∙ put_at (pose_at s.views) m q (λ j y. y ≡ pose_at s.views j) (sym (pose_here s.views m q b ds me)) (λ j ne. refl) k

  same_box : (d : Deed) (a c : ℕ) → a < size b → c < size b → IsBox (get_or s.words (mail_word (size b) a c) 0) (get_elem? s.homes (mail_place (size b) a c)) (pool_place a c) (pose_at (set s.views (suc m) (Own m q b (d ∷ ds))) a).hand (pose_at (set s.views (suc m) (Own m q b (d ∷ ds))) c).hand (o.mail a c)
  same_box d a c h l = subst (λ (y : Holding). IsBox (get_or s.words (mail_word (size b) a c) 0) (get_elem? s.homes (mail_place (size b) a c)) (pool_place a c) y.hand (pose_at (set s.views (suc m) (Own m q b (d ∷ ds))) c).hand (o.mail a c)) (sym (settled_same d a))
      (subst (λ (y : Holding). IsBox (get_or s.words (mail_word (size b) a c) 0) (get_elem? s.homes (mail_place (size b) a c)) (pool_place a c) (pose_at s.views a).hand y.hand (o.mail a c)) (sym (settled_same d c)) (o.fits.box a c h l))

  -- no pool word changes, and no home
  pub calm : (d : Deed) (i x : ℕ) (holder : Option ℕ) → ((a u : ℕ) → get_or (set s.words i x) (pool_word (size b) a u) 0 ≡ get_or s.words (pool_word (size b) a u) 0) → ((a u : ℕ) → get_or (set s.words i x) (mail_word (size b) a u) 0 ≡ get_or s.words (mail_word (size b) a u) 0) → get_or (set s.words i x) 0 0 ≡ lock_word holder → lock_word holder ≤ size b
      → ((j : ℕ) → j < size b → get_or (set s.words i x) (own_word j) 0 ≡ own_number (deeds_at (set s.views (suc m) (Own m q b (d ∷ ds))) j))
      → IsReached b (more (deeds_at s.views) m d) (moved (place_of b) holder o.slot o.mail (views_of b s.views) m (after_deed (names_by (names_of b) (d ∷ ds)) (place_of b) m d))
      → ShowsLawful b (record { words = set s.words i x; homes = s.homes; views = set s.views (suc m) (Own m q b (d ∷ ds)) })
  calm d i x holder same mails lock low count law = record {
    holder = holder;
    slot = o.slot;
    mail = o.mail;
    fits = fits_after b o.holder holder o.slot o.slot o.mail o.mail s (record { words = set s.words i x; homes = s.homes; views = set s.views (suc m) (Own m q b (d ∷ ds)) }) o.fits m q q ds (d ∷ ds) me refl (length-set s.words i x) refl lock low
        (λ a u h l. subst (λ y. IsSlot y (get_elem? s.homes (pool_place a u)) (pose_at (set s.views (suc m) (Own m q b (d ∷ ds))) a).settled (o.slot a u)) (sym (same a u))
        (subst (λ (y : Holding). IsSlot (get_or s.words (pool_word (size b) a u) 0) (get_elem? s.homes (pool_place a u)) y.settled (o.slot a u)) (sym (settled_same d a)) (o.fits.pool a u h l))) o.fits.outside
        (λ a c h l. subst (λ y. IsBox y (get_elem? s.homes (mail_place (size b) a c)) (pool_place a c) (pose_at (set s.views (suc m) (Own m q b (d ∷ ds))) a).hand (pose_at (set s.views (suc m) (Own m q b (d ∷ ds))) c).hand (o.mail a c)) (sym (mails a c)) (same_box d a c h l)) o.fits.no_box count;
    reached = lawful_after d q holder o.slot law;
  }

  -- one pool word changes, and what lies in its slot
  pub turn : (d : Deed) (a t x : ℕ) (h : Home) (hs : List (maybe.Option (Option Parcel))) (y : Slot) → a < size b → t < 8 → length hs ≡ length s.homes → get_elem? hs (pool_place a t) ≡ h
      → ((k : ℕ) → k ≢ pool_place a t → get_elem? hs k ≡ get_elem? s.homes k) → IsSlot x h (pose_at s.views a).settled y → ((n : ℕ) → stepped_by d n ≡ n)
      → IsReached b (more (deeds_at s.views) m d) (moved (place_of b) o.holder (put2 o.slot a t y) o.mail (views_of b s.views) m (after_deed (names_by (names_of b) (d ∷ ds)) (place_of b) m d))
      → ShowsLawful b (record { words = set s.words (pool_word (size b) a t) x; homes = hs; views = set s.views (suc m) (Own m q b (d ∷ ds)) })
  turn d a t x h hs y low less many here else kept uncounted law = record {
    holder = o.holder;
    slot = put2 o.slot a t y;
    mail = o.mail;
    fits = fits_after b o.holder o.holder o.slot (put2 o.slot a t y) o.mail o.mail s (record { words = set s.words (pool_word (size b) a t) x; homes = hs; views = set s.views (suc m) (Own m q b (d ∷ ds)) }) o.fits m q q ds (d ∷ ds) me refl
        (length-set s.words (pool_word (size b) a t) x) many (get_or-set_other s.words (pool_word (size b) a t) 0 x 0 (λ e. omega arith) ∙ o.fits.lock) o.fits.member
        (λ c u inside low8. subst (λ (z : Holding). IsSlot (get_or (set s.words (pool_word (size b) a t) x) (pool_word (size b) c u) 0) (get_elem? hs (pool_place c u)) z.settled (put2 o.slot a t y c u)) (sym (settled_same d c)) (at c u inside low8)) (λ c u out. put2_else o.slot a t y c u (elsewhere c u out) ∙ o.fits.outside c u out)
        (λ i j h l. subst (λ z. IsBox z (get_elem? hs (mail_place (size b) i j)) (pool_place i j) (pose_at (set s.views (suc m) (Own m q b (d ∷ ds))) i).hand (pose_at (set s.views (suc m) (Own m q b (d ∷ ds))) j).hand (o.mail i j)) (sym (get_or-set_other s.words (pool_word (size b) a t) (mail_word (size b) i j) x 0 (λ e. omega arith)))
        (subst (λ z. IsBox (get_or s.words (mail_word (size b) i j) 0) z (pool_place i j) (pose_at (set s.views (suc m) (Own m q b (d ∷ ds))) i).hand (pose_at (set s.views (suc m) (Own m q b (d ∷ ds))) j).hand (o.mail i j)) (sym (else (mail_place (size b) i j) (λ e. omega arith))) (same_box d i j h l))) o.fits.no_box
        (own_still d q uncounted (set s.words (pool_word (size b) a t) x) (λ j l. get_or-set_other s.words (pool_word (size b) a t) (own_word j) x 0 (λ e. omega (arith, e, l))));
    reached = lawful_after d q o.holder (put2 o.slot a t y) law;
  } where
    elsewhere : (c u : ℕ) → (size b ≤ c) ⊎ (8 ≤ u) → (c ≢ a) ⊎ (u ≢ t)
    elsewhere c u (inl high) = inl (λ e. omega arith)
    elsewhere c u (inr high) = inr (λ e. omega arith)

    word_here : get_or (set s.words (pool_word (size b) a t) x) (pool_word (size b) a t) 0 ≡ x
    word_here = let wide = o.fits.wide in let room : pool_word (size b) a t < length s.words = (let z : 0 ≤ size b * size b = omega arith in omega (arith, wide, low, less)) in get_or-set_same s.words (pool_word (size b) a t) x 0 room

    at : (c u : ℕ) → c < size b → u < 8 → IsSlot (get_or (set s.words (pool_word (size b) a t) x) (pool_word (size b) c u) 0) (get_elem? hs (pool_place c u)) (pose_at s.views c).settled (put2 o.slot a t y c u)
    at c u inside low8 = put2_at o.slot a t y (λ i j z. i < size b → j < 8 → IsSlot (get_or (set s.words (pool_word (size b) a t) x) (pool_word (size b) i j) 0) (get_elem? hs (pool_place i j)) (pose_at s.views i).settled z)
        (λ _ _. subst (λ z. IsSlot z (get_elem? hs (pool_place a t)) (pose_at s.views a).settled y) (sym word_here) (subst (λ z. IsSlot x z (pose_at s.views a).settled y) (sym here) kept))
        (λ i j ne il jl. subst (λ z. IsSlot z (get_elem? hs (pool_place i j)) (pose_at s.views i).settled (o.slot i j)) (sym (get_or-set_other s.words (pool_word (size b) a t) (pool_word (size b) i j) x 0 (apart i j ne jl)))
        (subst (λ z. IsSlot (get_or s.words (pool_word (size b) i j) 0) z (pose_at s.views i).settled (o.slot i j)) (sym (else (pool_place i j) (other i j ne jl))) (o.fits.pool i j il jl)))
        c u inside low8 where
          apart : (i j : ℕ) → (i ≢ a) ⊎ (j ≢ t) → j < 8 → pool_word (size b) i j ≢ pool_word (size b) a t
          apart i j (inl ne) l e = ne (omega arith)
          apart i j (inr ne) l e = ne (omega arith)

          other : (i j : ℕ) → (i ≢ a) ⊎ (j ≢ t) → j < 8 → pool_place i j ≢ pool_place a t
          other i j (inl ne) l e = ne (omega arith)
          other i j (inr ne) l e = ne (omega arith)

  -- pool words and the lock are other words than the member's own
  pub pool_apart : (i x a u : ℕ) → i ≤ size b → get_or (set s.words i x) (pool_word (size b) a u) 0 ≡ get_or s.words (pool_word (size b) a u) 0
  pool_apart i x a u h = get_or-set_other s.words i (pool_word (size b) a u) x 0 (λ e. omega arith)

  pub mail_apart : (i x a u : ℕ) → i ≤ size b → get_or (set s.words i x) (mail_word (size b) a u) 0 ≡ get_or s.words (mail_word (size b) a u) 0
  mail_apart i x a u h = get_or-set_other s.words i (mail_word (size b) a u) x 0 (λ e. omega arith)

  pub commit_keeps : (at x : ℕ) → x ≡ (get_or s.words (own_word m) 0 + 1) % 2 ^ 64 → MayCommit (place_of b) m (view_by b m ds) → ShowsLawful b (record { words = set s.words (own_word m) x; homes = s.homes; views = set s.views (suc m) (Own m q b (Commit at ∷ ds)) })
  commit_keeps at x up may = calm (Commit at) (own_word m) x o.holder (λ a u. pool_apart (own_word m) x a u (omega arith)) (λ a u. mail_apart (own_word m) x a u (omega arith)) (get_or-set_other s.words (own_word m) 0 x 0 (λ e. omega arith) ∙ o.fits.lock) o.fits.member (own_steps (Commit at) x (λ n. refl) up)
      (subst (IsReached b _) (sym (commit_shows (place_of b) o.holder o.slot o.mail (views_of b s.views) m))
      (step_reaches b (deeds_at s.views) o.holder o.slot o.mail m (Commit at) (commits w m) o.reached (record { member = near; whole = ap (λ (u : View). u.broken) known ∙ may.whole }, refl)))

  pub doom_keeps : (x : ℕ) (ns : List EntryName) (stamp : ℕ) → x ≡ (get_or s.words (own_word m) 0 + 1) % 2 ^ 64 → MayDoom (place_of b) m (view_by b m ds) ns → ShowsLawful b (record { words = set s.words (own_word m) x; homes = s.homes; views = set s.views (suc m) (Own m q b (Doom ns stamp ∷ ds)) })
  doom_keeps x ns stamp up may = calm (Doom ns stamp) (own_word m) x o.holder (λ a u. pool_apart (own_word m) x a u (omega arith)) (λ a u. mail_apart (own_word m) x a u (omega arith)) (get_or-set_other s.words (own_word m) 0 x 0 (λ e. omega arith) ∙ o.fits.lock) o.fits.member (own_steps (Doom ns stamp) x (λ n. refl) up)
      (subst (IsReached b _) (sym (doom_shows (place_of b) o.holder o.slot o.mail (views_of b s.views) m ns))
      (step_reaches b (deeds_at s.views) o.holder o.slot o.mail m (Doom ns stamp) (dooms w m ns) o.reached (record { member = near; dead = λ k i h. ap (λ (u : View). u.dead k i) known ∙ may.dead k i h }, refl)))

  lock_is : (x : ℕ) → get_or (set s.words 0 x) 0 0 ≡ x
  lock_is x = let wide = o.fits.wide in get_or-set_same s.words 0 x 0 (let z : 0 < length s.words = omega (arith, wide) in z)

  lock_can : MayLock (place_of b) m (view_by b m ds) → Rattle.group_laws.specs.Steps.CanLock w m
  lock_can may = record { member = near; not_held = ap (λ (u : View). u.holds) known ∙ may.not_held; gave_back = λ a t. ap (λ (u : View). u.taken a t) known ∙ may.gave_back a t }

  no_holder : (h : Option ℕ) → lock_word h ≡ 0 → h ≡ None
  no_holder None e = refl
  no_holder (Some h) e = absurd (omega arith)

  a_holder : (h : Option ℕ) (k : ℕ) → lock_word h ≡ k + 1 → h ≡ Some k
  a_holder None k e = absurd (omega arith)
  a_holder (Some h) k e = ap Some (omega arith)

  pub lock_keeps : get_or s.words 0 0 ≡ 0 → MayLock (place_of b) m (view_by b m ds) → ShowsLawful b (record { words = set s.words 0 (m + 1); homes = s.homes; views = set s.views (suc m) (Own m q b (Lock ∷ ds)) })
  lock_keeps free may = calm Lock 0 (m + 1) (Some m) (λ a u. pool_apart 0 (m + 1) a u (omega arith)) (λ a u. mail_apart 0 (m + 1) a u (omega arith)) (lock_is (m + 1)) (omega arith) (own_still Lock q (λ n. refl) (set s.words 0 (m + 1)) (λ j l. get_or-set_other s.words 0 (own_word j) (m + 1) 0 (λ e. omega arith)))
      (subst (IsReached b _) (sym (lock_shows (place_of b) o.holder o.slot o.mail (views_of b s.views) m))
      (step_reaches b (deeds_at s.views) o.holder o.slot o.mail m Lock (locks w m) o.reached (lock_can may, inl (no_holder o.holder (sym o.fits.lock ∙ free), refl))))

  same_word : (i j : ℕ) → get_or (set s.words i (get_or s.words i 0)) j 0 ≡ get_or s.words j 0
  same_word i j = ap (λ l. get_or l j 0) (set-get_or s.words i 0)

  pub busy_keeps : (h : ℕ) → get_or s.words 0 0 ≡ h + 1 → MayLock (place_of b) m (view_by b m ds)
      → ShowsLawful b (record { words = set s.words 0 (get_or s.words 0 0); homes = s.homes; views = set s.views (suc m) (Own m q b (Found (loads.Holder h) ∷ ds)) })
  busy_keeps h held may = calm (Found (loads.Holder h)) 0 (get_or s.words 0 0) o.holder (λ a u. same_word 0 (pool_word (size b) a u)) (λ a u. same_word 0 (mail_word (size b) a u)) (same_word 0 0 ∙ o.fits.lock) o.fits.member (own_still (Found (loads.Holder h)) q (λ n. refl) (set s.words 0 (get_or s.words 0 0)) (λ j l. same_word 0 (own_word j)))
      (subst (IsReached b _) (sym (find_shows (place_of b) o.holder o.slot o.mail (views_of b s.views) m (loads.Holder h)))
      (step_reaches b (deeds_at s.views) o.holder o.slot o.mail m (Found (loads.Holder h)) (finds w m (loads.Holder h)) o.reached (lock_can may, inr (h, a_holder o.holder h (sym o.fits.lock ∙ held), refl))))

  -- the holder that a member finds is another
  pub not_self : (h : ℕ) → get_or s.words 0 0 ≡ h + 1 → (view_by b m ds).holds ≡ false → h ≢ m
  not_self h held free same = let mine = (o.reached.lawful.looks.holds_is m).1 (a_holder o.holder h (sym o.fits.lock ∙ held) ∙ ap Some same) in
      let is : (view_by b m ds).holds ≡ true = ap (λ (u : View). u.holds) (sym known) ∙ mine in absurd (cc (free, is))

  pub unlock_keeps : MayUnlock (place_of b) m (view_by b m ds) → ShowsLawful b (record { words = set s.words 0 0; homes = s.homes; views = set s.views (suc m) (Own m q b (Unlock ∷ ds)) })
  unlock_keeps may = calm Unlock 0 0 None (λ a u. pool_apart 0 0 a u (omega arith)) (λ a u. mail_apart 0 0 a u (omega arith)) (lock_is 0) (omega arith) (own_still Unlock q (λ n. refl) (set s.words 0 0) (λ j l. get_or-set_other s.words 0 (own_word j) 0 0 (λ e. omega arith)))
      (subst (IsReached b _) (sym (unlock_shows (place_of b) o.holder o.slot o.mail (views_of b s.views) m))
      (step_reaches b (deeds_at s.views) o.holder o.slot o.mail m Unlock (unlocks w m) o.reached (record { member = near; holds = ap (λ (u : View). u.holds) known ∙ may.holds }, refl)))

  pub look_keeps : (a t : ℕ) → a < size b → t < 8
      → ShowsLawful b (record { words = set s.words (pool_word (size b) a t) (get_or s.words (pool_word (size b) a t) 0); homes = s.homes; views = set s.views (suc m) (Own m q b (Found (loads.Slot a t (word_shown (o.slot a t))) ∷ ds)) })
  look_keeps a t low less = let x : ℕ = get_or s.words (pool_word (size b) a t) 0 in
      calm (Found (loads.Slot a t (word_shown (o.slot a t)))) (pool_word (size b) a t) x o.holder (λ c u. same_word (pool_word (size b) a t) (pool_word (size b) c u)) (λ c u. same_word (pool_word (size b) a t) (mail_word (size b) c u)) (same_word (pool_word (size b) a t) 0 ∙ o.fits.lock) o.fits.member (own_still (Found (loads.Slot a t (word_shown (o.slot a t)))) q (λ n. refl) (set s.words (pool_word (size b) a t) x) (λ j l. same_word (pool_word (size b) a t) (own_word j)))
      (subst (IsReached b _) (sym (find_shows (place_of b) o.holder o.slot o.mail (views_of b s.views) m (loads.Slot a t (word_shown (o.slot a t)))))
      (step_reaches b (deeds_at s.views) o.holder o.slot o.mail m (Found (loads.Slot a t (word_shown (o.slot a t)))) (finds w m (loads.Slot a t (word_shown (o.slot a t)))) o.reached (near, (low, less), refl)))

  pub home_set : (a t : ℕ) (x : maybe.Option (Option Parcel)) → a < size b → t < 8 → get_elem? (set s.homes (pool_place a t) x) (pool_place a t) ≡ some x
  home_set a t x low less = let many = o.fits.many in set_here s.homes (pool_place a t) x (let z : pool_place a t < length s.homes = omega (arith, many, low, less) in z)

  pub take_can : (a t : ℕ) → MayTake (place_of b) m (view_by b m ds) a t → (e : Entry) × Rattle.group_laws.specs.Steps.CanTake w m a t e
  take_can a t may =
      let mine = ap (λ (u : View). u.holds) known ∙ may.holds in
      let seen = subst (λ (u : View). In (loads.Slot a t (words.Posted may.seen.0)) u.looked) (sym known) may.seen.1 in
      let is = posted_by (o.slot a t) may.seen.0 (o.reached.lawful.looks.posted_seen m a t may.seen.0 ((o.reached.lawful.looks.holds_is m).0 mine) seen) in (
        is.0,
        record {
          member = near;
          slot = (may.target, may.slot);
          holds = mine;
          seen = subst (λ (c : ℕ). In (loads.Slot a t (words.Posted c)) (views_of b s.views m).looked) (sym is.2) seen;
          whole = ap (λ (u : View). u.broken) known ∙ may.whole;
          entry = is.1;
        },
      )

  pub take_keeps : (a t : ℕ) (e : Entry) → a < size b → t < 8 → Rattle.group_laws.specs.Steps.CanTake w m a t e
      → ShowsLawful b (record { words = set s.words (pool_word (size b) a t) 2; homes = set s.homes (pool_place a t) none; views = set s.views (suc m) (Own m q b (Take a t e ∷ ds)) })
  take_keeps a t e low less can = turn (Take a t e) a t 2 (some none) (set s.homes (pool_place a t) none) Taken low less (length-set s.homes (pool_place a t) none) (home_set a t none low less) (λ k ne. set_else s.homes (pool_place a t) k none ne) (refl, tt) (λ n. refl)
      (subst (IsReached b _) (sym (take_shows (place_of b) o.holder o.slot o.mail (views_of b s.views) m a t e))
      (step_reaches b (deeds_at s.views) o.holder o.slot o.mail m (Take a t e) (takes w m a t e) o.reached (e, can, refl)))

  -- what lies in a slot that is Posted
  pub posted_home : (a t : ℕ) (e : Entry) → a < size b → t < 8 → o.slot a t ≡ Posted e → get_elem? s.homes (pool_place a t) ≡ some (some (lies e None))
  posted_home a t e low less is = (subst (λ (y : Slot). IsSlot (get_or s.words (pool_word (size b) a t) 0) (get_elem? s.homes (pool_place a t)) (pose_at s.views a).settled y) is (o.fits.pool a t low less)).1

  pub own_empty : (t : ℕ) → IsFree (view_by b m ds) t → o.slot m t ≡ Empty
  own_empty t free = free_empty w m t o.reached.lawful (λ k e own pends. free k e (ap (λ (u : View). u.pending k) (sym known) ∙ (ap (λ j. (views_of b s.views j).pending k) (sym own) ∙ pends)))

  -- what has a key of m by the state has it by the view
  pub own_by : {X : Type 0} (k : ℕ) (g : View → X) → owner (place_of b) k ≡ m → g (views_of b s.views (owner (place_of b) k)) ≡ g (view_by b m ds)
  own_by k g own = ap (λ j. g (views_of b s.views j)) own ∙ ap g known

  pub post_keeps : (t : ℕ) (c : Change) (value : List ℕ) (stamp : ℕ) → MayPost (place_of b) m (view_by b m ds) t c value
      → ShowsLawful b (record { words = set s.words (pool_word (size b) m t) (16 + length (words_of c.entry)); homes = set s.homes (pool_place m t) (some (lies c.entry None)); views = set s.views (suc m) (Own m q b (Post t c.entry value stamp ∷ ds)) })
  post_keeps t c value stamp may =
      turn (Post t c.entry value stamp) m t (16 + length (words_of c.entry)) (some (some (lies c.entry None))) (set s.homes (pool_place m t) (some (lies c.entry None))) (Posted c.entry) near may.slot
      (length-set s.homes (pool_place m t) (some (lies c.entry None))) (home_set m t (some (lies c.entry None)) near may.slot) (λ k ne. set_else s.homes (pool_place m t) k (some (lies c.entry None)) ne) (refl, refl) (λ n. refl)
      (subst (IsReached b _) (sym (post_shows (place_of b) o.holder o.slot o.mail (views_of b s.views) m t c.entry value may.own))
      (step_reaches b (deeds_at s.views) o.holder o.slot o.mail m (Post t c.entry value stamp) (posts w m t c.entry value) o.reached (
        record {
          slot = (near, may.slot);
          empty = own_empty t may.free;
          spelled = may.spelled;
          own = may.own;
          idle = own_by c.entry.key (λ (u : View). u.pending c.entry.key) may.own ∙ may.idle;
          whole = ap (λ (u : View). u.broken) known ∙ may.whole;
          next = may.next ∙ ap (λ x. x + 1) (sym (own_by c.entry.key (λ (u : View). u.last c.entry.key) may.own));
          live = λ tomb z. may.live tomb (sym (own_by c.entry.key (λ (u : View). u.cell c.entry.key) may.own) ∙ z);
          block = λ at is. ((may.block at is).0, ((may.block at is).1.0, λ k x h. (may.block at is).1.1 k x (ap (λ (u : View). u.blocks k) (sym known) ∙ h)));
        },
        refl,
      )))

-- A load in the place of the step up is no commit: the rule then has no state.
pub no_load : (b : Origin) (s : TableState) (o : ShowsLawful b s) (m at : ℕ) (q : Holding) (ds : List Deed) (me : get_elem? s.views (suc m) ≡ some (Own m q b ds)) (near : m < size b) (i : ℕ)
    → ShowsLawful b (record { words = set s.words i (get_or s.words i 0); homes = s.homes; views = set s.views (suc m) (Own m q b (Commit at ∷ ds)) }) → ⊥
no_load b s o m at q ds me near i r =
    let old : get_or s.words (own_word m) 0 ≡ own_number ds = o.fits.count m near ∙ ap own_number (deeds_here s.views m q b ds me) in
    let new : get_or s.words (own_word m) 0 ≡ (own_number ds + 1) % 2 ^ 64 = ap (λ l. get_or l (own_word m) 0) (sym (set-get_or s.words i 0)) ∙ (r.fits.count m near ∙ ap own_number (deeds_here (set s.views (suc m) (Own m q b (Commit at ∷ ds))) m q b (Commit at ∷ ds) (set_here s.views (suc m) (Own m q b (Commit at ∷ ds)) (at_lt s.views (suc m) (Own m q b ds) me)))) in
    let n = own_number ds in absurd (let z : n ≡ (n + 1) % 2 ^ 64 = sym old ∙ new in omega (arith, z))
