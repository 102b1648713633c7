-- Where every core that winds down found nothing to do, nothing is posted or taken any more.
use Rattle.std.proofs.Common.{◌≤◌, true, ◌≡◌, inl, inr, ℕ, ◌+◌, ◌*◌, ◌/◌, ◌%◌, ◌<◌, List, Bool, false, Some, None, refl, sym, ◌∙◌, ap, subst}
use Rattle.std.proofs.lemmas.Nat.{div-mul-add, mod-mul-add}
use Rattle.pm_region.specs.State.{IsTold, MayLeave}
use Rattle.log_entry.specs.declared.entry.Entry.{Entry}
use Rattle.chunk_map.specs.declared.layouts.Geometry.{Geometry}
use Rattle.chunk_map.specs.Layouts.{owner, IsLayout}
use Rattle.store_image.proofs.Clients.{has_layout, superblock_facts}
use Rattle.group_laws.specs.declared.types.Slot.{Slot}
use Rattle.group_laws.specs.declared.types.Seen.{Seen}
use Rattle.group_laws.specs.declared.types.Slot.TheVariants.{Empty, Posted, Taken, Done, Failed}
use Rattle.group_laws.specs.Places.{Place, members}
use Rattle.group_laws.specs.Places as places
use Rattle.group_laws.specs.State.{Group}
use Rattle.group_laws.specs.Invariant.{PendsAt}
use Rattle.group_laws.specs.Regions.{groups_in, place_at, key_group}
use Rattle.group_laws.proofs.Clients.{own_core}
use Rattle.engine_laws.specs.Parts.{group_of, member_of}
use Rattle.engine_laws.specs.WorkerMoves.{Placed}
use Rattle.engine_laws.specs.Engine.{Engine, group_for}
use Rattle.engine_laws.specs.Keys.{KeyStands}
use Rattle.engine_laws.specs.Stands.{Origin, Stands, ShowsPrefix, start_of}
use Rattle.engine_laws.specs.Rooms.{Rooms}
use Rattle.engine_laws.specs.Ceasing.{IsResting, Halts, AllRest, HasCeased}
use Rattle.engine_laws.proofs.Cores.{group_low, some_group, owner_low, member_core}

-- A core that rested does so while another finds nothing to do.
module _ (e f : Engine) (c d : ℕ) (I : Halts e f c) (J : IsResting e d) where
  abbrev l : Geometry
  l = e.layout

  -- a field of a group but what its members loaded
  same_field : {X : Type 0} (get : Group → X) → ((w : Group) (xs : ℕ → List Seen) → get (record w { looked = xs }) ≡ get w) → (g : ℕ) → get (f.group g) ≡ get (e.group g)
  same_field get blind g = ap get (I.groups g).1 ∙ blind (e.group g) (I.groups g).0

  owner_back : (k : ℕ) → owner f.layout k ≡ d → owner l k ≡ d
  owner_back k own = sym (ap (λ (n : Geometry). owner n k) I.layout) ∙ own

  slot_same : (s : ℕ) → (f.group (group_of f.layout d)).slot (member_of f.layout d) s ≡ (e.group (group_of l d)).slot (member_of l d) s
  slot_same s = (λ i. (f.group (group_of (I.layout i) d)).slot (member_of (I.layout i) d) s) ∙ same_field (λ (w : Group). w.slot (member_of l d) s) (λ w xs. refl) (group_of l d)

  holder_same : (f.group (group_of f.layout d)).holder ≡ (e.group (group_of l d)).holder
  holder_same = (λ i. (f.group (group_of (I.layout i) d)).holder) ∙ same_field (λ (w : Group). w.holder) (λ w xs. refl) (group_of l d)

  pending_same : (k : ℕ) → (group_for f k).pending k ≡ (group_for e k).pending k
  pending_same k = (λ i. (f.group (key_group (I.layout i) k)).pending k) ∙ same_field (λ (w : Group). w.pending k) (λ w xs. refl) (key_group l k)

  pub stays_resting : IsResting f d
  stays_resting = record {
    holds = (λ i. (f.group (group_of (I.layout i) d)).holds (member_of (I.layout i) d)) ∙ same_field (λ (w : Group). w.holds (member_of l d)) (λ w xs. refl) (group_of l d) ∙ J.holds;
    taken = λ a s. (λ i. (f.group (group_of (I.layout i) d)).taken (member_of (I.layout i) d) a s) ∙ same_field (λ (w : Group). w.taken (member_of l d) a s) (λ w xs. refl) (group_of l d) ∙ J.taken a s;
    posted = λ k x own at posted p s pend slot. elim (J.posted k x (owner_back k own) (sym (λ i. I.place i k) ∙ at) posted p s (sym (pending_same k) ∙ pend) slot) [
      | inl taken ↦ inl (slot_same s ∙ taken)
      | inr out ↦ inr (out.0, out.1, slot_same s ∙ out.2, holder_same ∙ out.3)
    ];
  }

-- Where each core rests, all that was posted or taken is finished.
module _ (o : Origin) (e : Engine) (S : Stands o e) (rest : AllRest e) where
  is_layout : IsLayout e.layout
  is_layout = subst IsLayout (sym S.layout) (superblock_facts o.region.frame.bytes o.found (has_layout o.region.frame.bytes o.found S.sound)).1

  -- member h of group g, as a core
  rest_member : (g h : ℕ) → g < groups_in e.layout → h < e.layout.group → ((e.group g).holds h ≡ false) × ((a s : ℕ) → (e.group g).taken h a s ≡ None)
  rest_member g h low member =
      let l = e.layout in
      let core : g * l.group + h < l.cores = member_core l is_layout g h low member in
      let I = rest (g * l.group + h) core in
      let at : (g * l.group + h) / l.group ≡ g = div-mul-add g l.group h member in
      let is : (g * l.group + h) % l.group ≡ h = mod-mul-add g l.group h member in
      (sym (λ i. (e.group (at i)).holds (is i)) ∙ I.holds, λ a s. sym (λ i. (e.group (at i)).taken (is i) a s) ∙ I.taken a s)

  no_holder : (g h : ℕ) → g < groups_in e.layout → (e.group g).holder ≡ Some h → ⊥
  no_holder g h low is =
      let member : h < e.layout.group = subst (λ (p : Place). h < members p) (S.groups.place g low) ((S.groups.lawful g low).looks.holder_member h is) in
      let holds = ((S.groups.lawful g low).looks.holds_is h).1 is in
      let off = (rest_member g h low member).0 in
      cc (holds, off)

  no_taken : (g m s : ℕ) → g < groups_in e.layout → (e.group g).slot m s ≡ Taken → ⊥
  no_taken g m s low is =
      let by = (S.groups.lawful g low).slots.taken_by m s is in
      let member : by.0 < e.layout.group = subst (λ (p : Place). by.0 < members p) (S.groups.place g low) ((S.groups.lawful g low).slots.taken_member by.0 m s by.1 by.2) in
      let none = (rest_member g by.0 low member).1 m s in
      let some = by.2 in
      cc (none, some)

  -- no place has a posted change
  none_posted : (k : ℕ) (x : Placed) → e.place k ≡ Some x → x.posted ≡ false
  none_posted k x q = by x.posted refl where
    by : (b : Bool) → x.posted ≡ b → b ≡ false
    by false is = refl
    by true is = absurd (
        let c = owner e.layout k in
        let low = owner_low e.layout is_layout k in
        let h = ((S.keys k).holds.posted x q is).1 in
        elim ((rest c low).posted k x refl q is h.0 h.1 h.2 h.3) [
          | inl taken ↦ no_taken (group_of e.layout c) (member_of e.layout c) h.1 (group_low e.layout is_layout c low) taken
          | inr out ↦ no_holder (group_of e.layout c) out.1 (group_low e.layout is_layout c low) out.3
        ])

  -- a change that stands in a slot is in a place
  no_named : (g m s : ℕ) (d : Entry) → g < groups_in e.layout → m < e.layout.group → PendsAt (e.group g) d (Some s) → places.owner (e.group g).place d.key ≡ m → ⊥
  no_named g m s d low member pend own =
      let l = e.layout in
      let own' : places.owner (place_at l g) d.key ≡ m = sym (ap (λ (p : Place). places.owner p d.key) (S.groups.place g low)) ∙ own in
      let group : key_group l d.key ≡ g = (own_core (place_at l g) d.key (some_group l is_layout) (subst (λ (n : ℕ). n < l.group) (sym own') member)).1 in
      let there : (group_for e d.key).pending d.key ≡ Some (record { entry = d; slot = Some s }) = ap (λ (n : ℕ). (e.group n).pending d.key) group ∙ pend in
      elim ((S.keys d.key).holds.pending (record { entry = d; slot = Some s }) there) [
        | inl held ↦ (let off : held.0.posted ≡ false = none_posted d.key held.0 held.1 in let on : held.0.posted ≡ true = held.2 in cc (on, off))
        | inr doubt ↦ (let none = doubt.0 in cc none)
      ]

  no_slot : (g m s : ℕ) → g < groups_in e.layout → m < e.layout.group → (e.group g).slot m s ≡ Empty
  no_slot g m s low member = by ((e.group g).slot m s) refl where
    by : (x : Slot) → (e.group g).slot m s ≡ x → x ≡ Empty
    by Empty q = refl
    by (Posted d) q = absurd (let n = (S.groups.lawful g low).slots.posted_named m s d q in no_named g m s d low member n.0 n.1)
    by Taken q = absurd (no_taken g m s low q)
    by (Done d h) q = absurd (let n = (S.groups.lawful g low).slots.done_named m s h d q in no_named g m s d low member n.0 n.1)
    by (Failed d) q = absurd (let n = (S.groups.lawful g low).slots.failed_named m s d q in no_named g m s d low member n.0 n.1)

  pub ceased : HasCeased e
  ceased = record { posted = none_posted; slots = no_slot; leads = no_holder }

-- Whether a core accepts the next request is no part of what stands.
module _ (o : Origin) (e : Engine) (t : ℕ → Bool) (S : Stands o e) where
  abbrev f : Engine
  f = record e { takes = t }

  takes_key : (k : ℕ) → KeyStands (start_of o k) f k
  takes_key k =
      let T = S.keys k in
      record {
        served = T.served;
        split = T.split;
        answers = T.answers;
        waiting = T.waiting;
        stamps = T.stamps;
        history = T.history;
        cell = T.cell;
        halted = T.halted;
        holds = record { posted = T.holds.posted; pending = T.holds.pending };
        pending = T.pending;
      }

  takes_crash : (n : ℕ) → IsTold e.region n → o.region.stamp ≤ n → (image : ℕ → ℕ) → MayLeave o.region.frame (e.region.cells n) image → ShowsPrefix o f takes_key n image
  unfolding takes_key
  takes_crash n told from image may = let is = S.crash n told from image may in record { sound = is.sound; layout = is.layout; cells = is.cells }

  takes_rooms : Rooms o f
  takes_rooms =
      let R = S.rooms in
      record {
        small = R.small;
        room = λ c low on more ample. (let T = R.room c low on more ample in record {
          opened = T.opened;
          cuts = T.cuts;
          chunks = T.chunks;
          lines = T.lines;
          small = T.small;
          blocks = T.blocks;
          last = T.last;
          class = T.class;
        });
        posted = R.posted;
        strangers = R.strangers;
        full = R.full;
      }

  pub takes_stands : Stands o f
  unfolding takes_key
  takes_stands = record {
    sound = S.sound;
    first = S.first;
    words = S.words;
    layout = S.layout;
    groups = S.groups;
    run = S.run;
    superblock = S.superblock;
    licensed = S.licensed;
    keys = takes_key;
    unasked = S.unasked;
    crash = takes_crash;
    stopped = S.stopped;
    broken = S.broken;
    causes = S.causes;
    versions = S.versions;
    rooms = takes_rooms;
  }
