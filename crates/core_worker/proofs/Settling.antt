-- A change that is certain in the log of its home is settled, and its place is free.
use Rattle.std.proofs.Common.{◌≡◌, ◌≢◌, ◌⊎◌, inl, inr, ⊎_elim, ℕ, ◌+◌, ◌<◌, ◌≤◌, ◌==◌, ◌&&◌, not, eqb, Bool, true, false, cond, List, [], ◌∷◌, ◌++◌, Option, Some, None, option_map, refl, sym, ◌∙◌, ap, subst, arith}
use Rattle.std.specs.Prelude.{Vec}
use Rattle.std.specs.Global.{Global}
use Rattle.std.specs.declared.collections.VecDeque.{VecDeque}
use Rattle.std.proofs.lemmas.Bool.{cases_eq, eqb-true, eq-eqb, ne_eqb, and_from}
use Rattle.log_entry.specs.declared.entry.Entry.{Entry}
use Rattle.log_entry.specs.declared.entry.EntryName.{EntryName}
use Rattle.group_laws.specs.Updates.{has}
use Rattle.log_entry.specs.declared.entry.Body.{Body}
use Rattle.log_entry.specs.declared.entry.Body.TheVariants as bodies
use Rattle.log_entry.specs.Spelling.{HasSpelling}
use Rattle.core_index.specs.Index.{known_at, room_at, Changes}
use Rattle.core_index.specs.Records.{KeyRecord, Awaits, block_of, pointer_of, settled, last_of, standing_of, standing_at, standing_with, is_tombstone, is_empty, is_forgettable}
use Rattle.core_index.specs.Slots as slots
use Rattle.core_index.specs.declared.types.StandingEntry.{StandingEntry}
use Rattle.core_index.proofs.Clients.{at_more, at_added, found_version}
use Rattle.store_image.specs.Facts.{In}
use Rattle.log_standing.specs.NameCounts.{StandingState, count_of, is_told}
use Rattle.recover.specs.Starts.{IsSpelledIndex}
use Rattle.group_laws.specs.declared.types.Block.{Block}
use Rattle.group_laws.specs.declared.types.Pending.{Pending}
use Rattle.group_laws.specs.Places.{Place, core_of, owner}
use Rattle.group_laws.specs.Steps.{points_at, is_of, only_own, bytes_of}
use Rattle.group_laws.specs.MemberViews.{View}
use Rattle.group_board.specs.Views.{after_finish, left_in, IsSpentIn, TellsItselfIn, IsTidyIn}
use Rattle.batch_leader.specs.declared.batch_buffer.BatchBuffer.{BatchBuffer}
use Rattle.lazy_alloc.specs.Sets.{Sets, AreSets, block_is_used}
use Rattle.lazy_alloc.proofs.Clients.{chunks_same, same_part}
use Rattle.core_worker.specs.declared.types.Answer.{Answer}
use Rattle.core_worker.specs.declared.types.Leading.TheVariants as leads
use Rattle.core_worker.specs.declared.types.Place as places
use Rattle.core_worker.specs.declared.types.Place.TheVariants.{Free, Staged, Posted}
use Rattle.core_worker.specs.declared.worker.Worker.{Worker}
use Rattle.core_worker.specs.OwnPlaces.{place_at, key_in, is_busy, Replaces}
use Rattle.core_worker.specs.KeyTies.{KnowsKey, Left, LeftIn, Offers, IsStagedBlock}
use Rattle.core_worker.specs.Ties.{LeadsAt, HasSpaceFor}
use Rattle.core_worker.specs.Order.{PointsAt, InOrder, MayLeadStopped}
use Rattle.core_worker.specs.Refusals.{HasAnswerRoom}
use Rattle.core_worker.specs.Beginning.{HoldsAside}
use Rattle.core_worker.specs.Outbox.{mailing, waiting_dead}
use Rattle.core_worker.specs.Hearing.{heard_at, last_change, HearsAll}
use Rattle.core_worker.specs.StandingTies.{IsNamedIn, KnowsDead, HearsOwn}
use Rattle.core_worker.specs.LogNames.{KnowsNames}
use Rattle.core_worker.proofs.UnderWay.{standing_pledges}
use Rattle.core_worker.proofs.CleaningKept.{fewer_same, keeps_counts, keeps_few, keeps_seen}
use Rattle.core_worker.proofs.NamesStood.{names_heard}
use Rattle.core_worker.specs.Finishing.{PutsBackIf}
use Rattle.core_worker.proofs.Posts.{busy_by}
use Rattle.core_worker.proofs.HeardNames.{stands_by, dies_by, awaits_by}
use Rattle.core_worker.proofs.Tidied.{member_of, present_of, stands_of, dead_is, dead_by, tidied_knows, spent_last, change_last}
use Rattle.core_worker.proofs.PuttingBack.{put_chunks, put_less, put_gone, put_kept}
use Rattle.core_worker.proofs.Freeing.{Frees}
use Rattle.core_worker.proofs.MailKept.{told_by, mail_tidy, mail_still, still_then, still_finished, still_tidied, none_waits, waits_of}
use Rattle.core_worker.proofs.NamesAgreeing.{agrees_tidied}
use Rattle.core_worker.proofs.FreedOrder.{FreesInOrder, room_let_go}

-- hearing of dead names changes neither what a key's last change left nor whether its record is to be forgotten
body_in : Option (ℕ × Body) → Body
body_in None = bodies.Tombstone
body_in (Some x) = x.1

change_body : (r s : KeyRecord) → option_map last_change (Some s) ≡ option_map last_change (Some r) → s.body ≡ r.body
unfolding body_in
change_body r s e = ap body_in e

pub change_block : (a b : Option KeyRecord) → option_map last_change b ≡ option_map last_change a → block_of b ≡ block_of a
change_block None None e = refl
change_block None (Some s) e = absurd (cc e)
change_block (Some r) None e = absurd (cc e)
change_block (Some r) (Some s) e = ap pointer_of (change_body r s e)

some_empty : (a b : List StandingEntry) (f : ℕ → StandingEntry → StandingEntry) → ((n : ℕ) → standing_at b n ≡ option_map (f n) (standing_at a n)) → is_empty b ≡ is_empty a
some_empty [] [] f e = refl
some_empty [] (y ∷ b) f e = absurd (let at = e y.version in let here : cond (y.version == y.version) (Some y) (standing_at b y.version) ≡ Some y = ap (λ c. cond c (Some y) (standing_at b y.version)) (eq-eqb y.version y.version refl) in let both : Some y ≡ None = sym here ∙ at in cc both)
some_empty (x ∷ a) [] f e = absurd (let at = e x.version in let here : cond (x.version == x.version) (Some x) (standing_at a x.version) ≡ Some x = ap (λ c. cond c (Some x) (standing_at a x.version)) (eq-eqb x.version x.version refl) in let both : None ≡ Some (f x.version x) = at ∙ ap (option_map (f x.version)) here in cc both)
some_empty (x ∷ a) (y ∷ b) f e = refl

pub forget_by : (a b : Option KeyRecord) (f : ℕ → StandingEntry → StandingEntry) → option_map last_change b ≡ option_map last_change a → ((n : ℕ) → standing_at (standing_of b) n ≡ option_map (f n) (standing_at (standing_of a) n)) → is_forgettable b ≡ is_forgettable a
forget_by None None f e h = refl
forget_by None (Some s) f e h = absurd (cc e)
forget_by (Some r) None f e h = absurd (cc e)
forget_by (Some r) (Some s) f e h =
    let one : is_tombstone s.body ≡ is_tombstone r.body = ap is_tombstone (change_body r s e) in
    let two : is_empty s.standing ≡ is_empty r.standing = some_empty r.standing s.standing f h in
    (λ i. one i && two i)

-- the block of a key's value is one that the view has under the key
pub value_block : (v : View) (k q : ℕ) (o : Option KeyRecord) (c : Option (List ℕ)) → LeftIn v k o c → block_of o ≡ Some q → (u : List ℕ) × (v.blocks q ≡ Some (record { key = k; bytes = u }))
value_block v k q None c l e = absurd (cc e)
value_block v k q (Some r) c l e = by r.body l e where
  by : (b : Body) → Left v k b c → pointer_of b ≡ Some q → (u : List ℕ) × (v.blocks q ≡ Some (record { key = k; bytes = u }))
  by (bodies.Pointer x) l e = let same : x ≡ q = cc e in (l.0, ap v.blocks (sym same) ∙ l.2)
  by (bodies.Embedded y) l e = absurd (cc e)
  by bodies.Tombstone l e = absurd (cc e)

key_or : Option Block → ℕ
key_or None = 0
key_or (Some b) = b.key

pub block_key : (v : View) (q k : ℕ) (b : Block) (u : List ℕ) → v.blocks q ≡ Some b → v.blocks q ≡ Some (record { key = k; bytes = u }) → b.key ≡ k
unfolding key_or
block_key v q k b u x y = ap key_or (sym x ∙ y)

-- which blocks are left of a key once a change of it is finished
pub points_is : (b : Body) (q : ℕ) → points_at b q ≡ true → b ≡ bodies.Pointer q
points_is (bodies.Pointer x) q e = ap bodies.Pointer (sym (eqb-true q x e))
points_is (bodies.Embedded y) q e = absurd (cc e)
points_is bodies.Tombstone q e = absurd (cc e)

pub points_has : (b : Body) (q : ℕ) → b ≡ bodies.Pointer q → points_at b q ≡ true
points_has b q e = ap (λ (x : Body). points_at x q) e ∙ eq-eqb q q refl

module _ (k : ℕ) (body : Body) (old : ℕ → Option Block) where
  kept_by : (c : Bool) (q : ℕ) (b : Block) → cond c None (old q) ≡ Some b → (c ≡ false) × (old q ≡ Some b)
  kept_by true q b e = absurd (cc e)
  kept_by false q b e = (refl, e)

  pub own_was : (q : ℕ) (b : Block) → only_own k body old q ≡ Some b → old q ≡ Some b
  own_was q b e = (kept_by (is_of k (old q) && not (points_at body q)) q b e).1

  pub own_points : (q : ℕ) (b : Block) → only_own k body old q ≡ Some b → b.key ≡ k → body ≡ bodies.Pointer q
  own_points q b e same = points_is body q (by (points_at body q) refl) where
    test : (is_of k (old q) && not (points_at body q)) ≡ false
    test = (kept_by (is_of k (old q) && not (points_at body q)) q b e).0

    by : (c : Bool) → points_at body q ≡ c → points_at body q ≡ true
    by true is = is
    by false is = absurd (let yes = and_from (is_of k (old q)) (not (points_at body q)) (ap (is_of k) (own_was q b e) ∙ eq-eqb b.key k same) (ap not is) in let both : true ≡ false = sym yes ∙ test in cc both)

  pub own_other : (q : ℕ) (b : Block) → old q ≡ Some b → b.key ≢ k → only_own k body old q ≡ Some b
  own_other q b is ne = ap (λ (c : Bool). cond (c && not (points_at body q)) None (old q)) (ap (is_of k) is ∙ ne_eqb b.key k ne) ∙ is

  pub own_pointed : (q : ℕ) (b : Block) → old q ≡ Some b → body ≡ bodies.Pointer q → only_own k body old q ≡ Some b
  own_pointed q b is points = by (is_of k (old q)) ∙ is where
    by : (c : Bool) → cond (c && not (points_at body q)) None (old q) ≡ old q
    by true = ap (λ (d : Bool). cond (not d) None (old q)) (points_has body q points)
    by false = refl

pub same_flag : (x y : Bool) → (x ≡ true → y ≡ true) → (y ≡ true → x ≡ true) → x ≡ y
same_flag true true f g = refl
same_flag false false f g = refl
same_flag true false f g = sym (f refl)
same_flag false true f g = g refl

-- a record with a standing entry is kept
not_empty : (ss : List StandingEntry) (s : StandingEntry) → is_empty (ss ++ s ∷ []) ≡ false
not_empty [] s = refl
not_empty (x ∷ ss) s = refl

and_no : (a b : Bool) → b ≡ false → (a && b) ≡ false
and_no true b e = e
and_no false b e = refl

module _ (p : Place) (m : ℕ) (v : View) (w : Worker) (H : HoldsAside p m v w) (O : InOrder p m v w) (slot number key lines : ℕ) (lt : slot < 8) (was : place_at w.places.items slot ≡ Posted number key lines) (e : Entry) (mine : e.key ≡ key) (own_key : owner p key ≡ m) (pends : v.pending key ≡ Some (record { entry = e; slot = Some slot })) (offers : Offers v key e.body) where
  key_was : key_in (place_at w.places.items slot) ≡ Some key
  key_was = ap key_in was

  abbrev all : List EntryName
  all = waiting_dead w.notices.items

  K : KnowsKey p (mailing all v) key (known_at w.index key)
  K = H.keys key own_key (inr (busy_by w.places.items key slot key_was))

  pub next_here : e.version ≡ last_of (known_at w.index key) + 1
  next_here = O.next key _ pends ∙ ap (λ (n : ℕ). n + 1) K.last

  new_stands : standing_at (standing_of (known_at w.index key)) e.version ≡ None
  new_stands = by (standing_at (standing_of (known_at w.index key)) e.version) refl where
    by : (o : Option StandingEntry) → standing_at (standing_of (known_at w.index key)) e.version ≡ o → o ≡ None
    by None is = refl
    by (Some s) is = absurd (let above = O.versions key e.version s is in let n = next_here in omega (arith, above, n))

  -- the block of the value so far is used, and the change's is another one
  pub replaced_used : (q : ℕ) → block_of (known_at w.index key) ≡ Some q → block_is_used w.allocator q ≡ true
  replaced_used q is = let b = value_block v key q (known_at w.index key) (v.cell key) K.cell is in (H.blocks.held q _ b.1).used

  module _ (home : ℕ) (last : ℕ → ℕ) (told dead : ℕ → ℕ → Bool) (T : IsTidyIn p m (after_finish e home v) last told dead)
      (mid ix : List (ℕ × slots.Place)) (al : Sets) (C : Changes w.index mid key (Some (settled (known_at w.index key) e.version e.body (core_of p home)))) (used : room_at mid key + 1 ≡ room_at w.index key) (rooms : (k : ℕ) → k ≢ key → room_at mid k ≡ room_at w.index k)
      (A : HearsAll (core_of p m) mid ix) (st : StandingState) (tells : HearsOwn (core_of p m) mid w.standing st) (kept_home : home ≡ m → In e v.kept) (sets : AreSets al) (P : PutsBackIf w.allocator al (block_of (known_at w.index key)))
      (b : BatchBuffer) (nothing : w.leading ≡ leads.Nothing b) (ps : Vec places.Place Global) (given_out : VecDeque Answer Global) (R : Replaces w.places.items ps.items slot Free)
      (room : (n : ℕ) → HasAnswerRoom (n + 1) w → HasAnswerRoom n (record w { index = ix; allocator = al; standing = st; places = ps; answers = given_out })) where
    abbrev mid_view : View
    mid_view = after_finish e home v

    abbrev view : View
    view = record mid_view { last = last; told = told; dead = dead }

    abbrev done : Worker
    done = record w { index = ix; allocator = al; standing = st; places = ps; answers = given_out }

    gone_here : (k : ℕ) → k ≡ key → mid_view.pending k ≡ None
    gone_here k same = ap (λ c. cond c None (v.pending k)) (eq-eqb k e.key (same ∙ sym mine))

    pending_other : (k : ℕ) → k ≢ key → mid_view.pending k ≡ v.pending k
    pending_other k ne = ap (λ c. cond c None (v.pending k)) (ne_eqb k e.key (λ same. ne (same ∙ mine)))

    last_other : (k : ℕ) → k ≢ key → mid_view.last k ≡ v.last k
    last_other k ne = ap (λ c. cond c e.version (v.last k)) (ne_eqb k e.key (λ same. ne (same ∙ mine)))

    cell_other : (k : ℕ) → k ≢ key → mid_view.cell k ≡ v.cell k
    cell_other k ne = ap (λ c. cond c (left_in v.blocks e.body) (v.cell k)) (ne_eqb k e.key (λ same. ne (same ∙ mine)))

    present_other : (k n : ℕ) → k ≢ key → mid_view.present k n ≡ v.present k n
    present_other k n ne = ap (λ (c : Bool). cond (c && eqb n e.version) (Some home) (v.present k n)) (ne_eqb k e.key (λ same. ne (same ∙ mine)))

    present_here : mid_view.present key e.version ≡ Some home
    present_here = ap (λ (c : Bool). cond c (Some home) (v.present key e.version)) (and_from (eqb key e.key) (eqb e.version e.version) (eq-eqb key e.key (sym mine)) (eq-eqb e.version e.version refl))

    present_older : (n : ℕ) → n ≢ e.version → mid_view.present key n ≡ v.present key n
    present_older n ne = by (eqb key e.key) where
      by : (c : Bool) → cond (c && eqb n e.version) (Some home) (v.present key n) ≡ v.present key n
      by true = ap (λ (d : Bool). cond d (Some home) (v.present key n)) (ne_eqb n e.version ne)
      by false = refl

    blocks_was : (q : ℕ) (d : Block) → mid_view.blocks q ≡ Some d → v.blocks q ≡ Some d
    blocks_was q d is = own_was e.key e.body v.blocks q d is

    blocks_other : (q : ℕ) (d : Block) → v.blocks q ≡ Some d → d.key ≢ key → mid_view.blocks q ≡ Some d
    blocks_other q d is ne = own_other e.key e.body v.blocks q d is (λ same. ne (same ∙ mine))

    blocks_new : (q : ℕ) (d : Block) → mid_view.blocks q ≡ Some d → d.key ≡ key → e.body ≡ bodies.Pointer q
    blocks_new q d is same = own_points e.key e.body v.blocks q d is (same ∙ sym mine)

    -- other keys are known as before
    left_other : (k : ℕ) → k ≢ key → (o : Option KeyRecord) (c : Option (List ℕ)) → LeftIn v k o c → LeftIn mid_view k o c
    left_other k ne None c l = l
    left_other k ne (Some r) c l = by r.body l where
      by : (x : Body) → Left v k x c → Left mid_view k x c
      by (bodies.Pointer q) l = (l.0, l.1, blocks_other q _ l.2 ne)
      by (bodies.Embedded y) l = l
      by bodies.Tombstone l = l

    knows_other : (k : ℕ) → owner p k ≡ m → k ≢ key → (w.stopped ≡ false) ⊎ (is_busy w.places.items k ≡ true) → KnowsKey p (mailing all mid_view) k (known_at mid k)
    knows_other k own ne which =
        let J = H.keys k own which in
        subst (KnowsKey p (mailing all mid_view) k) (sym (C.others k ne)) (record {
          last = last_other k ne ∙ J.last;
          cell = subst (LeftIn mid_view k (known_at w.index k)) (sym (cell_other k ne)) (left_other k ne (known_at w.index k) (v.cell k) J.cell);
          present = λ n. ap (option_map (core_of p)) (present_other k n ne) ∙ J.present n;
          told = J.told;
        })

    left_new : (x : Body) → e.body ≡ x → Offers v key x → Left mid_view key x (left_in v.blocks x)
    left_new (bodies.Pointer q) is o = (o.0, ap bytes_of o.1, own_pointed e.key e.body v.blocks q _ o.1 is)
    left_new (bodies.Embedded y) is o = refl
    left_new bodies.Tombstone is o = refl

    abbrev new_record : KeyRecord
    new_record = settled (known_at w.index key) e.version e.body (core_of p home)

    abbrev new_standing : StandingEntry
    new_standing = standing_with e.version (core_of p home) false

    stands_new : standing_at new_record.standing e.version ≡ Some new_standing
    stands_new = at_added (standing_of (known_at w.index key)) new_standing new_stands

    stands_old : (n : ℕ) → n ≢ e.version → standing_at new_record.standing n ≡ standing_at (standing_of (known_at w.index key)) n
    stands_old n ne = at_more (standing_of (known_at w.index key)) new_standing n (λ same. ne (sym same))

    none_present : v.present key e.version ≡ None
    none_present = by (v.present key e.version) refl where
      by : (o : Option ℕ) → v.present key e.version ≡ o → o ≡ None
      by None is = refl
      by (Some h) is = absurd (let both : Some (core_of p h) ≡ None = sym (ap (option_map (core_of p)) is) ∙ K.present e.version ∙ ap (option_map (λ (s : StandingEntry). s.home)) new_stands in cc both)

    -- the change was not told, since it stood nowhere
    unwaited : has all key e.version ≡ false
    unwaited = none_waits p m v w.winds_down w.notices.items H.mail key e.version (λ x. (let here = x.stands in let both : None ≡ Some x.to = sym none_present ∙ here in cc both))

    none_told : cond (has all key e.version) true (v.told key e.version) ≡ false
    none_told = ap (λ (b : Bool). cond b true (v.told key e.version)) unwaited ∙ O.told key e.version none_present

    knows_new : KnowsKey p (mailing all mid_view) key (Some new_record)
    knows_new = record {
      last = ap (λ c. cond c e.version (v.last key)) (eq-eqb key e.key (sym mine));
      cell = subst (Left mid_view key e.body) (sym (ap (λ c. cond c (left_in v.blocks e.body) (v.cell key)) (eq-eqb key e.key (sym mine)))) (left_new e.body refl offers);
      present = λ n. ⊎_elim
          (λ same. ap (λ (i : ℕ). option_map (core_of p) (mid_view.present key i)) same ∙ ap (option_map (core_of p)) present_here ∙ sym (ap (λ (i : ℕ). option_map (λ (s : StandingEntry). s.home) (standing_at new_record.standing i)) same ∙ ap (option_map (λ (s : StandingEntry). s.home)) stands_new))
          (λ ne. ap (option_map (core_of p)) (present_older n ne) ∙ K.present n ∙ sym (ap (option_map (λ (s : StandingEntry). s.home)) (stands_old n ne)))
          (cases_eq n e.version);
      told = λ n s is. ⊎_elim
          (λ same. ap (λ (i : ℕ). cond (has all key i) true (v.told key i)) same ∙ none_told ∙ told_flag (sym stands_new ∙ ap (standing_at new_record.standing) (sym same) ∙ is))
          (λ ne. K.told n s (sym (stands_old n ne) ∙ is))
          (cases_eq n e.version);
    } where
      told_flag : {s : StandingEntry} → Some new_standing ≡ Some s → false ≡ s.told
      told_flag {s} x = let same : new_standing ≡ s = cc x in ap (λ (y : StandingEntry). y.told) same

    knows_mid : KnowsKey p (mailing all mid_view) key (known_at mid key)
    knows_mid = subst (KnowsKey p (mailing all mid_view) key) (sym C.here) knows_new

    spent_here : IsSpentIn p m mid_view key → mid_view.last key ≡ 0
    spent_here s = absurd (let none = s.2 e.version in let both : None ≡ Some home = sym none ∙ present_here in cc both)

    spent_other : (k : ℕ) → owner p k ≡ m → k ≢ key → (w.stopped ≡ false) ⊎ (is_busy w.places.items k ≡ true) → IsSpentIn p m mid_view k → mid_view.last k ≡ 0
    spent_other k own ne which s =
        let none : v.pending k ≡ None = sym (pending_other k ne) ∙ s.3 in
        spent_last p m (mailing all mid_view) k (known_at mid k) (knows_other k own ne which) (ap is_forgettable (C.others k ne) ∙ ⊎_elim (λ r. H.remembers r k own none) (λ busy. O.recalls k own busy none) which) s

    mail_T : IsTidyIn p m (mailing all mid_view) last (told_by all told) dead
    mail_T = mail_tidy p m mid_view all last told dead T

    knows_after : (k : ℕ) → owner p k ≡ m → k ≢ key → (w.stopped ≡ false) ⊎ (is_busy w.places.items k ≡ true) → KnowsKey p (mailing all view) k (known_at ix k)
    knows_after k own ne which = tidied_knows p m (mailing all mid_view) last (told_by all told) dead mail_T mid ix A k own (spent_other k own ne which) (knows_other k own ne which)

    block_now : (k : ℕ) → k ≢ key → block_of (known_at ix k) ≡ block_of (known_at w.index k)
    block_now k ne = change_block (known_at mid k) (known_at ix k) (A.changes k) ∙ ap block_of (C.others k ne)

    block_here : block_of (known_at ix key) ≡ pointer_of e.body
    block_here = change_block (known_at mid key) (known_at ix key) (A.changes key) ∙ ap block_of C.here

    forgets_now : (k : ℕ) → is_forgettable (known_at ix k) ≡ is_forgettable (known_at mid k)
    forgets_now k = forget_by (known_at mid k) (known_at ix k) (λ n. heard_at (core_of p m) (known_at mid k) n) (A.changes k) (A.standing k)

    not_here : (q : ℕ) (s : IsStagedBlock v w.places.items q) → s.slot ≡ slot → ⊥
    not_here q s at = (let both : Posted number key lines ≡ Staged s.number s.entry s.value = sym was ∙ ap (place_at w.places.items) (sym at) ∙ s.place in cc both)

    points_pending : (q : ℕ) → PointsAt (v.pending key) q → e.body ≡ bodies.Pointer q
    points_pending q x = subst (λ (o : Option Pending). PointsAt o q) pends x

    pending_points : (q : ℕ) → e.body ≡ bodies.Pointer q → PointsAt (v.pending key) q
    pending_points q x = subst (λ (o : Option Pending). PointsAt o q) (sym pends) x

    -- the replaced block is none of those that are left
    left_used : (q : ℕ) (d : Block) → mid_view.blocks q ≡ Some d → block_is_used al q ≡ true
    left_used q d is = put_kept w.allocator al (block_of (known_at w.index key)) P q (H.blocks.held q d (blocks_was q d is)).used
        (λ old. let x = value_block v key q (known_at w.index key) (v.cell key) K.cell old in
        O.distinct key q (pending_points q (blocks_new q d is (block_key v q key d x.0 (blocks_was q d is) x.1))) old)

    staged_used : (q : ℕ) (s : IsStagedBlock v w.places.items q) → block_is_used al q ≡ true
    staged_used q s = let y = H.blocks.staged q s in put_kept w.allocator al (block_of (known_at w.index key)) P q y.0.used
        (λ old. let x = value_block v key q (known_at w.index key) (v.cell key) K.cell old in let has = x.1 in let none = y.1 in let both : None ≡ Some (record { key = key; bytes = x.0 }) = sym none ∙ has in cc both)

    used_left : (q : ℕ) (d : Block) → v.blocks q ≡ Some d → block_is_used al q ≡ true → mid_view.blocks q ≡ Some d
    used_left q d is on = ⊎_elim
        (λ same. ⊎_elim
        (λ old. absurd (put_gone w.allocator al (block_of (known_at w.index key)) P q (ap (λ (k : ℕ). block_of (known_at w.index k)) (sym same) ∙ old) on))
        (λ points. own_pointed e.key e.body v.blocks q d is (points_pending q (subst (λ (k : ℕ). PointsAt (v.pending k) q) same points)))
        (O.single q d is))
        (λ ne. blocks_other q d is ne)
        (cases_eq d.key key)

    spelled_now : IsSpelledIndex ix
    spelled_now k r is = by (known_at mid k) refl where
      spelled_as : (x : KeyRecord) → HasSpelling (record { key = k; version = x.version; body = x.body }) → option_map last_change (Some r) ≡ option_map last_change (Some x) → HasSpelling (record { key = k; version = r.version; body = r.body })
      spelled_as x h eq =
          let version : r.version ≡ x.version = change_last (Some x) (Some r) eq in
          let body : r.body ≡ x.body = change_body x r eq in
          subst (λ (b : Body). HasSpelling (record { key = k; version = r.version; body = b })) (sym body) (subst (λ (n : ℕ). HasSpelling (record { key = k; version = n; body = x.body })) (sym version) h)

      mid_spelled : (x : KeyRecord) → known_at mid k ≡ Some x → HasSpelling (record { key = k; version = x.version; body = x.body })
      mid_spelled x at = ⊎_elim
          (λ same. let eq : new_record ≡ x = (let both : Some new_record ≡ Some x = sym C.here ∙ ap (known_at mid) (sym same) ∙ at in cc both) in
          subst (λ (y : KeyRecord). HasSpelling (record { key = k; version = y.version; body = y.body })) eq (subst (λ (i : ℕ). HasSpelling (record { key = i; version = e.version; body = e.body })) (mine ∙ sym same) (O.spelled key _ pends)))
          (λ ne. H.spelled k x (sym (C.others k ne) ∙ at))
          (cases_eq k key)

      by : (o : Option KeyRecord) → known_at mid k ≡ o → HasSpelling (record { key = k; version = r.version; body = r.body })
      by None at = absurd (let eq = A.changes k in let both : Some (last_change r) ≡ None = ap (option_map last_change) (sym is) ∙ eq ∙ ap (option_map last_change) at in cc both)
      by (Some x) at = spelled_as x (mid_spelled x at) (ap (option_map last_change) (sym is) ∙ A.changes k ∙ ap (option_map last_change) at)

    told_still : (k n : ℕ) → view.present k n ≡ None → told k n ≡ false
    told_still k n none = by (told k n) refl where
      before : v.present k n ≡ None
      before = ⊎_elim
          (λ same. ⊎_elim
          (λ at. absurd (let both : None ≡ Some home = sym none ∙ ap (mid_view.present k) at ∙ ap (λ (i : ℕ). mid_view.present i e.version) same ∙ present_here in cc both))
          (λ off. ap (λ (i : ℕ). v.present i n) same ∙ sym (present_older n off) ∙ ap (λ (i : ℕ). mid_view.present i n) (sym same) ∙ none)
          (cases_eq n e.version))
          (λ ne. sym (present_other k n ne) ∙ none)
          (cases_eq k key)

      by : (t : Bool) → told k n ≡ t → told k n ≡ false
      by false is = is
      by true is = absurd (⊎_elim
          (λ had. (let both : true ≡ false = sym had ∙ O.told k n before in cc both))
          (λ x. (let here = x.1 in let both : Some m ≡ None = sym here ∙ none in cc both))
          ((T.tells k n).0 is))

    versions_now : (k n : ℕ) (s : StandingEntry) → standing_at (standing_of (known_at ix k)) n ≡ Some s → n ≤ last_of (known_at ix k)
    versions_now k n s is = by (standing_at (standing_of (known_at mid k)) n) refl where
      last_is : last_of (known_at ix k) ≡ last_of (known_at mid k)
      last_is = change_last (known_at mid k) (known_at ix k) (A.changes k)

      mid_low : (x : StandingEntry) → standing_at (standing_of (known_at mid k)) n ≡ Some x → n ≤ last_of (known_at mid k)
      mid_low x at = ⊎_elim
          (λ same. let last_new : last_of (known_at mid k) ≡ e.version = ap (λ (i : ℕ). last_of (known_at mid i)) same ∙ ap last_of C.here in ⊎_elim
          (λ eq. omega (arith, eq, last_new))
          (λ off.
          let there : standing_at (standing_of (known_at w.index key)) n ≡ Some x = sym (stands_old n off) ∙ ap (λ (o : Option KeyRecord). standing_at (standing_of o) n) (sym C.here) ∙ ap (λ (i : ℕ). standing_at (standing_of (known_at mid i)) n) (sym same) ∙ at in
          let low = O.versions key n x there in let nx = next_here in omega (arith, low, nx, last_new))
          (cases_eq n e.version))
          (λ ne. let low = O.versions k n x (ap (λ (o : Option KeyRecord). standing_at (standing_of o) n) (sym (C.others k ne)) ∙ at) in let eq = ap last_of (C.others k ne) in omega (arith, low, eq))
          (cases_eq k key)

      by : (o : Option StandingEntry) → standing_at (standing_of (known_at mid k)) n ≡ o → n ≤ last_of (known_at ix k)
      by None at = absurd (let eq = A.standing k n in let both : Some s ≡ None = sym is ∙ eq ∙ ap (option_map (heard_at (core_of p m) (known_at mid k) n)) at in cc both)
      by (Some x) at = (let low = mid_low x at in let eq = last_is in omega (arith, low, eq))

    mine_now : (k n : ℕ) (s : StandingEntry) → standing_at (standing_of (known_at ix k)) n ≡ Some s → owner p k ≡ m
    mine_now k n s is = by (standing_at (standing_of (known_at mid k)) n) refl where
      by : (o : Option StandingEntry) → standing_at (standing_of (known_at mid k)) n ≡ o → owner p k ≡ m
      by None at = absurd (let eq = A.standing k n in let both : Some s ≡ None = sym is ∙ eq ∙ ap (option_map (heard_at (core_of p m) (known_at mid k) n)) at in cc both)
      by (Some x) at = ⊎_elim
          (λ same. ap (owner p) same ∙ own_key)
          (λ ne. O.mine k n x (ap (λ (o : Option KeyRecord). standing_at (standing_of o) n) (sym (C.others k ne)) ∙ at))
          (cases_eq k key)

    -- a name of the view after the change is the change's own, or was there
    was_there : (k n h : ℕ) → mid_view.present k n ≡ Some h → ((k ≡ key) × (n ≡ e.version) × (home ≡ h)) ⊎ (v.present k n ≡ Some h)
    was_there k n h is = ⊎_elim
        (λ same. ⊎_elim
        (λ at. inl (same, at, (let both : Some home ≡ Some h = sym present_here ∙ ap (λ (i : ℕ). mid_view.present i e.version) (sym same) ∙ ap (mid_view.present k) (sym at) ∙ is in cc both)))
        (λ off. inr (ap (λ (i : ℕ). v.present i n) same ∙ sym (present_older n off) ∙ ap (λ (i : ℕ). mid_view.present i n) (sym same) ∙ is))
        (cases_eq n e.version))
        (λ ne. inr (sym (present_other k n ne) ∙ is))
        (cases_eq k key)

    -- what stands in the own log stands there still
    here_still : (k n : ℕ) → v.present k n ≡ Some m → mid_view.present k n ≡ Some m
    here_still k n here = ⊎_elim
        (λ same. ⊎_elim
        (λ at. absurd (let both : Some m ≡ None = sym here ∙ (λ i. v.present (same i) (at i)) ∙ none_present in cc both))
        (λ off. ap (λ (i : ℕ). mid_view.present i n) same ∙ present_older n off ∙ ap (λ (i : ℕ). v.present i n) (sym same) ∙ here)
        (cases_eq n e.version))
        (λ ne. present_other k n ne ∙ here)
        (cases_eq k key)

    -- no name that waits stands in the own log
    own_told : (k n : ℕ) → mid_view.present k n ≡ Some m → cond (has all k n) true (v.told k n) ≡ true → v.told k n ≡ true
    own_told k n is t = by (has all k n) refl t where
      by : (b : Bool) → has all k n ≡ b → cond (has all k n) true (v.told k n) ≡ true → v.told k n ≡ true
      by false e t = sym (ap (λ (b : Bool). cond b true (v.told k n)) e) ∙ t
      by true e t = absurd (
          let x = waits_of p m v w.winds_down w.notices.items H.mail k n e in
          ⊎_elim
          (λ y. (let here = x.stands in let both : Some x.to ≡ None = sym here ∙ (λ i. v.present (y.0 i) (y.1 i)) ∙ none_present in cc both))
          (λ was. (let here = x.stands in x.other (let both : Some x.to ≡ Some m = sym here ∙ was in cc both)))
          (was_there k n m is))

    -- what stands in the own log
    module _ (L : KnowsDead m v.kept v.present v.told v.dead w.standing) where
      own_now : (k n : ℕ) → mid_view.present k n ≡ Some m → IsNamedIn v.kept k n
      own_now k n is = ⊎_elim
          (λ x. (e, kept_home x.2, mine ∙ sym x.0, sym x.1))
          (λ before. L.own k n before)
          (was_there k n m is)

      learns : (k n : ℕ) → (v.dead k n ≡ true) ⊎ TellsItselfIn p m mid_view k n → dead k n ≡ true
      learns k n which = (T.learns k n).1 which

      heard_now : (k n : ℕ) → mid_view.present k n ≡ Some m → told k n ≡ true → dead k n ≡ true
      heard_now k n is t = ⊎_elim
          (λ before. ⊎_elim
          (λ x. absurd (let off = O.told key e.version none_present in let both : true ≡ false = sym before ∙ (λ i. v.told (x.0 i) (x.1 i)) ∙ off in cc both))
          (λ was. learns k n (inl (L.heard k n was before)))
          (was_there k n m is))
          (λ x. learns k n (inr x))
          ((T.tells k n).0 t)

      -- who awaited is dead
      told_dies : (k n : ℕ) → is_told st k n ≡ true → dead k n ≡ true
      told_dies k n t = ⊎_elim
          (λ before. learns k n (inl (L.deaths k n before)))
          (λ a. ⊎_elim
          (λ same. learns k n (inr (subst (λ (i : ℕ). TellsItselfIn p m mid_view i n) (sym same) (awaited n (subst (λ (i : ℕ). Awaits (known_at mid i) (core_of p m) n) same a)))))
          (λ ne. absurd (O.heard k n (subst (λ (o : Option KeyRecord). Awaits o (core_of p m) n) (C.others k ne) a)))
          (cases_eq k key))
          (tells.told k n t)
        where
          awaited : (n : ℕ) → Awaits (known_at mid key) (core_of p m) n → TellsItselfIn p m mid_view key n
          awaited n a =
              let at = stands_by (known_at mid key) (core_of p m) n a in
              let h = stands_of p m (mailing all mid_view) key (known_at mid key) knows_mid n (standing_with n (core_of p m) false) at in
              let here = member_of p h.0 m h.2 in
              (own_key, h.1 ∙ ap Some here, dead_is p (mailing all mid_view) key (known_at mid key) knows_mid n (dies_by (known_at mid key) (core_of p m) n a))

      knows_dead : KnowsDead m v.kept mid_view.present told dead st
      knows_dead = record {
        deaths = told_dies;
        buried = λ k n dies. ⊎_elim (λ before. L.buried k n before) (λ x. own_now k n x.1) ((T.learns k n).0 dies);
        own = own_now;
        heard = heard_now;
      }

    -- and by what stands there where the region tells
    module _ (runs : w.stopped ≡ false) (L : KnowsNames m v.kept v.present v.told v.dead w.standing) where
      known : KnowsDead m v.kept v.present v.told v.dead w.standing
      known = record { deaths = λ k n t. sym (L.deaths k n) ∙ t; buried = L.buried; own = L.own; heard = L.heard }

      counted : (k n : ℕ) → IsNamedIn v.kept k n → 0 < count_of w.standing k n
      counted k n is = L.all k n is

      -- and the other way round
      dies_told : (k n : ℕ) → dead k n ≡ true → is_told st k n ≡ true
      dies_told k n dies = ⊎_elim
          (λ before. tells.all k n (counted k n (L.buried k n before)) (inl (L.deaths k n ∙ before)))
          (λ x. tells.all k n (counted k n (own_now known k n x.1)) (by_itself k n x))
          ((T.learns k n).0 dies)
        where
          mid_knows : (k : ℕ) → owner p k ≡ m → KnowsKey p (mailing all mid_view) k (known_at mid k)
          mid_knows k own = ⊎_elim
              (λ same. subst (λ (i : ℕ). KnowsKey p (mailing all mid_view) i (known_at mid i)) (sym same) knows_mid)
              (λ ne. knows_other k own ne (inl runs))
              (cases_eq k key)

          by_itself : (k n : ℕ) → TellsItselfIn p m mid_view k n → (is_told w.standing k n ≡ true) ⊎ Awaits (known_at mid k) (core_of p m) n
          by_itself k n x = by (present_of p m (mailing all mid_view) k (known_at mid k) (mid_knows k x.0) n m x.1).0.told refl where
            by : (b : Bool) → (present_of p m (mailing all mid_view) k (known_at mid k) (mid_knows k x.0) n m x.1).0.told ≡ b → (is_told w.standing k n ≡ true) ⊎ Awaits (known_at mid k) (core_of p m) n
            by true t =
                let K = mid_knows k x.0 in
                let s = present_of p m (mailing all mid_view) k (known_at mid k) K n m x.1 in
                let before : v.told k n ≡ true = own_told k n x.1 (K.told n s.0 s.1 ∙ t) in
                ⊎_elim
                (λ y. absurd (let off = O.told key e.version none_present in let both : true ≡ false = sym before ∙ (λ i. v.told (y.0 i) (y.1 i)) ∙ off in cc both))
                (λ was. inl (L.deaths k n ∙ L.heard k n was before))
                (was_there k n m x.1)
            by false t =
                let K = mid_knows k x.0 in
                let s = present_of p m (mailing all mid_view) k (known_at mid k) K n m x.1 in
                let dies = dead_by p (mailing all mid_view) k (known_at mid k) K n s.0 s.1 x.2 in
                let version = found_version (standing_of (known_at mid k)) n s.0 s.1 in
                let same : s.0 ≡ standing_with n (core_of p m) false = (λ i. standing_with (version i) (s.2 i) (t i)) in
                inr (awaits_by (known_at mid k) (core_of p m) n (s.1 ∙ ap (λ (y : StandingEntry). Some y) same) dies)

      knows_names : KnowsNames m v.kept mid_view.present told dead st
      knows_names = record {
        stands = λ k n some. L.stands k n (let c = tells.counts k n in omega (arith, c, some));
        all = λ k n is. (let c = tells.counts k n in let some = L.all k n is in omega (arith, c, some));
        deaths = λ k n. same_flag (is_told st k n) (dead k n) (told_dies known k n) (dies_told k n);
        buried = λ k n dies. ⊎_elim (λ before. L.buried k n before) (λ x. own_now known k n x.1) ((T.learns k n).0 dies);
        own = own_now known;
        heard = heard_now known;
      }

    pub settles : Frees p m key slot v view w done
    settles = record {
      places = R;
      layout = refl;
      core = refl;
      log = refl;
      cleaning = inl (standing_pledges w st tells.tally);
      cleans = λ had. keeps_seen p m v view done (λ k n is. is) (λ k n is. (T.learns k n).1 (inl is)) (keeps_counts p m v (record w { allocator = al }) st tells.counts (keeps_few p m v w al (let C = put_chunks w.allocator al (block_of (known_at w.index key)) P in fewer_same w.allocator al (chunks_same w.allocator al (same_part w.allocator al C) C.free) C.free C.classes) had));
      runs = λ r. r;
      spelled = spelled_now;
      room = λ k ne. (let a = A.room k in let c = rooms k ne in omega (arith, a, c));
      knows = knows_after;
      knows_here = λ own r. tidied_knows p m (mailing all mid_view) last (told_by all told) dead mail_T mid ix A key own spent_here knows_mid;
      mail = mail_still p m v view w.winds_down w.notices.items (still_then p m v mid_view view (still_finished p m v e home (O.next key _ pends ∙ ap (λ (k : ℕ). v.last k + 1) (sym mine))) (still_tidied p m mid_view last told dead T)) H.mail;
      remembers = λ r k own none. forgets_now k ∙ ⊎_elim
          (λ same. ap (λ (i : ℕ). is_forgettable (known_at mid i)) same ∙ ap is_forgettable C.here ∙ and_no (is_tombstone e.body) (is_empty new_record.standing) (not_empty (standing_of (known_at w.index key)) new_standing))
          (λ ne. ap is_forgettable (C.others k ne) ∙ H.remembers r k own (sym (pending_other k ne) ∙ none))
          (cases_eq k key);
      last = λ k own ne busy. (knows_after k own ne (inr busy)).last ∙ change_last (known_at mid k) (known_at ix k) (A.changes k) ∙ ap last_of (C.others k ne) ∙ sym (H.keys k own (inr busy)).last;
      cell = cell_other;
      pending = pending_other;
      gone = λ q has. absurd (let both : Some q ≡ None = sym has ∙ gone_here key refl in cc both);
      sets = sets;
      chunks = put_chunks w.allocator al (block_of (known_at w.index key)) P;
      less = put_less w.allocator al (block_of (known_at w.index key)) P;
      blocks = blocks_was;
      others = blocks_other;
      held = left_used;
      staged = λ q s ne. staged_used q s;
      only = used_left;
      only_staged = λ q s at on. not_here q s at;
      allows = record { kept = refl; flying = refl; doomed = λ k n d. d; blocks = blocks_was };
      leads = record { seat = H.leads.seat; place = H.leads.place; number = H.leads.number; at = subst (LeadsAt H.leads.seat view) (sym nothing) (let had : LeadsAt H.leads.seat v (leads.Nothing b) = subst (LeadsAt H.leads.seat v) nothing H.leads.at in (had.0, had.1, had.2)) };
      space = λ r. subst (HasSpaceFor (record done { queue = [] })) (sym nothing) tt;
      broken = H.broken;
      lost = H.lost;
      flight = H.flight;
      unlost = λ off. off;
      names = λ s r on telling had. names_heard s m (core_of p m) mid v.kept v.kept v.present mid_view.present v.told told v.dead dead w.log w.standing st w.clearing w.cleaning tells (had r on telling) (knows_names r (had r on telling).knows);
    }

    pub settles_order : FreesInOrder p m key v view w done
    settles_order = record {
      block = block_now;
      forgets = λ k ne. forgets_now k ∙ ap is_forgettable (C.others k ne);
      last = λ k q ne has. ⊎_elim (λ x. absurd (let s = x.0.3 in let both : None ≡ Some q = sym s ∙ pending_other k ne ∙ has in cc both)) (λ same. same ∙ last_other k ne) (T.keeps k);
      heard = A.none;
      told = told_still;
      versions = versions_now;
      mine = mine_now;
      single = λ q d has same. inl (block_here ∙ ap pointer_of (blocks_new q d has same));
      distinct = λ q points is. subst (λ (o : Option Pending). PointsAt o q) (gone_here key refl) points;
      next = λ q has. absurd (let both : Some q ≡ None = sym has ∙ gone_here key refl in cc both);
      answers = room_let_go w done slot key key_was (let eight = H.eight in omega (arith, eight, lt)) R refl refl room O.answers;
      hand = O.hand;
      stops = λ s. subst MayLeadStopped (sym nothing) tt;
      agrees = agrees_tidied p m mid_view last told dead T (record { bodies = O.agrees.bodies; mine = λ k n h is. ⊎_elim (λ x. ap (owner p) x.0 ∙ own_key) (λ before. O.agrees.mine k n h before) (was_there k n h is); dead_told = O.agrees.dead_told; stands = λ k n own dies. here_still k n (O.agrees.stands k n own dies) });
      log = λ r on. knows_dead (O.log r on);
      names = λ r on. (let had = O.names r on in let more = tells.room in omega (arith, had, more));
    }
