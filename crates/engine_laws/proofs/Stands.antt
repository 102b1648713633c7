-- Each move of each core keeps what holds between moves.
use Rattle.std.proofs.Common.{◌≡◌, ◌≢◌, inl, inr, ◌⊎◌, ℕ, ◌+◌, ◌*◌, ◌<◌, ◌≤◌, ◌&&◌, leb, List, [], ◌∷◌, ◌++◌, map, filter, length, take, refl, sym, ◌∙◌, ap, subst, arith, true, false, Bool, cond, Option, Some, None, append_assoc, append-nil, length-append}
use Rattle.std.specs.List.{AllByRecursion, count_by}
use Rattle.std.proofs.lemmas.Bool.{cases_lt, cases_eq, le-leb, leb-true}
use Rattle.std.proofs.lemmas.Nat.{div-mul-add, mod-mul-add}
use Rattle.std.proofs.lemmas.List.{take-append-le, take_all}
use Rattle.std.proofs.lemmas.List.Sums.{sum_by-append, sum_by-cons}
use Rattle.fs_model.specs.declared.model.Request.{Request}
use Rattle.fs_model.specs.declared.model.Reply.{Reply}
use Rattle.fs_model.specs.Cells.{key_of, cell_after}
use Rattle.fs_model.specs.Lawful.{is_finish}
use Rattle.fs_model.specs.Changes.{cell_after_all, IsPrefixCell}
use Rattle.fs_model.proofs.Clients.{changes-append}
use Rattle.pm_region.specs.Cell.{Cell}
use Rattle.pm_region.specs.State.{IsTold, IsTelling, MayLeave, cell_now, Rose}
use Rattle.pm_region.specs.Words.{KeepsOutside}
use Rattle.pm_region.proofs.Clients.{then_on, weaken, at_exit, told_at_entry}
use Rattle.chunk_map.specs.declared.layouts.Geometry.{Geometry}
use Rattle.chunk_map.specs.Layouts.{layout_of, owner, IsLayout, part_first}
use Rattle.store_image.specs.Winners.{recovered}
use Rattle.store_image.proofs.Clients.{has_layout, superblock_facts}
use Rattle.group_laws.specs.Places.{Place, core_of, members}
use Rattle.group_laws.specs.Places as places
use Rattle.group_laws.specs.State.{Group}
use Rattle.group_laws.specs.Invariant.{Lawful}
use Rattle.group_laws.specs.Crashes.{Leaves}
use Rattle.group_laws.specs.Steps.{left_by, bytes_of}
use Rattle.group_laws.proofs.Clients.{run_keeps, run_place}
use Rattle.log_entry.specs.declared.entry.Body.{Body}
use Rattle.log_entry.specs.declared.entry.Body.TheVariants.{Pointer, Embedded, Tombstone}
use Rattle.headline.proofs.Clients.{prefix_grows}
use Rattle.group_laws.specs.MemberViews.{View}
use Rattle.group_laws.specs.Regions.{groups_in, place_at}
use Rattle.engine_laws.specs.Parts.{group_of, member_of, Groups, AllLicensed, HasSuperblock, ShowsGroups}
use Rattle.engine_laws.specs.WorkerMoves.{Placed, Fixed, replied, fixed_of}
use Rattle.engine_laws.specs.Engine.{Engine, group_for, cell_at}
use Rattle.fs_model.specs.declared.model.Reply.TheVariants.{Stopped}
use Rattle.engine_laws.proofs.Histories.{finished-append}
use Rattle.engine_laws.specs.Moves.{Moves}
use Rattle.engine_laws.specs.Keys.{finished, open_change, changes_on, changes_at, Served, pairs, posted_in, is_finish_by, finished_until, KeyStands, KeyGoes}
use Rattle.engine_laws.specs.Stands.{Origin, start_of, ShowsPrefix, Stands}
use Rattle.engine_laws.proofs.RoomsKept.{rooms_on}
use Rattle.engine_laws.proofs.Cores.{group_low, member_core}
use Rattle.engine_laws.proofs.Others.{other_view}
use Rattle.engine_laws.proofs.Licences.{all_licensed, superblock_kept, shows_groups}
use Rattle.engine_laws.proofs.KeyMoves.{own_goes, own_pairs, other_goes, other_pairs, other_last, given, in_own}
use Rattle.headline.specs.Limits.{version_of}
use Rattle.engine_laws.specs.RefusalCauses.{raised_by, HaveCauses}
use Rattle.engine_laws.proofs.CauseLaws.{raised_by_up, raised_append, causes_up, causes_append}
use Rattle.engine_laws.proofs.Numbers.{in_requests}
use Rattle.std.proofs.lemmas.Option.{slice_get_within}

-- counting
count_cons : {X : Type 0} (p : X → Bool) (x : X) (xs : List X) → count_by p (x ∷ xs) ≡ cond (p x) 1 0 + count_by p xs
count_cons p x xs = sum_by-cons (λ y. cond (p y) 1 0) x xs

-- all that was finished was finished by now
pub finished_all : (t : ℕ) (xs : List Served) → AllByRecursion (λ (x : Served). x.answer.stamp ≤ t) xs → finished_until t xs ≡ length (finished (pairs xs))
finished_all t [] h = refl
finished_all t (x ∷ xs) h =
    let first : is_finish_by t x ≡ is_finish x.answer.reply = ap (λ b. is_finish x.answer.reply && b) (le-leb x.answer.stamp t h.0) ∙ and_true (is_finish x.answer.reply) in
    let rest = finished_all t xs h.1 in
    count_cons (is_finish_by t) x xs ∙ (λ i. cond {A = ℕ} (first i) 1 0 + rest i) ∙ by (is_finish x.answer.reply) where
      and_true : (b : Bool) → (b && true) ≡ b
      and_true true = refl
      and_true false = refl

      by : (b : Bool) → cond {A = ℕ} b 1 0 + length (finished (pairs xs)) ≡ length (map (λ (y : Request × Reply). y.0) (cond b ((x.request, x.answer.reply) ∷ filter (λ (y : Request × Reply). is_finish y.1) (pairs xs)) (filter (λ (y : Request × Reply). is_finish y.1) (pairs xs))))
      by true = omega arith
      by false = omega arith

-- what is answered later doesn't count
none_until : (t now : ℕ) (xs : List Served) → AllByRecursion (λ (x : Served). x.answer.stamp ≡ now) xs → t < now → finished_until t xs ≡ 0
none_until t now [] h lt = refl
none_until t now (x ∷ xs) h lt =
    let late : leb x.answer.stamp t ≡ false = not_le x.answer.stamp t (let e = h.0 in omega (arith, e, lt)) in
    let first : is_finish_by t x ≡ false = ap (λ b. is_finish x.answer.reply && b) late ∙ and_false (is_finish x.answer.reply) in
    count_cons (is_finish_by t) x xs ∙ (λ i. cond {A = ℕ} (first i) 1 0 + none_until t now xs h.1 lt i) where
      and_false : (b : Bool) → (b && false) ≡ false
      and_false true = refl
      and_false false = refl

      not_le : (a b : ℕ) → b < a → leb a b ≡ false
      not_le a b less = elim (leb a b) as (λ c. leb a b ≡ c → c ≡ false) [
        | false ↦ λ e. refl
        | true ↦ λ e. (let le = leb-true a b e in absurd (omega (arith, le, less)))
      ] refl

until_append : (t : ℕ) (xs ys : List Served) → finished_until t (xs ++ ys) ≡ finished_until t xs + finished_until t ys
until_append t xs ys = sum_by-append (λ x. cond (is_finish_by t x) 1 0) xs ys

-- no more than all
pub until_few : (t : ℕ) (xs : List Served) → finished_until t xs ≤ length (finished (pairs xs))
until_few t [] = omega arith
until_few t (x ∷ xs) = by (until_few t xs) (is_finish x.answer.reply) (leb x.answer.stamp t) refl refl where
  one : (b d : Bool) → cond {A = ℕ} (b && d) 1 0 ≤ cond {A = ℕ} b 1 0
  one true true = omega arith
  one true false = omega arith
  one false d = omega arith

  two : (b : Bool) → length (map (λ (y : Request × Reply). y.0) (cond b ((x.request, x.answer.reply) ∷ filter (λ (y : Request × Reply). is_finish y.1) (pairs xs)) (filter (λ (y : Request × Reply). is_finish y.1) (pairs xs)))) ≡ cond {A = ℕ} b 1 0 + length (finished (pairs xs))
  two true = omega arith
  two false = omega arith

  by : finished_until t xs ≤ length (finished (pairs xs)) → (b d : Bool) → is_finish x.answer.reply ≡ b → leb x.answer.stamp t ≡ d → finished_until t (x ∷ xs) ≤ length (finished (pairs (x ∷ xs)))
  by rest b d p q =
      let count : finished_until t (x ∷ xs) ≡ cond {A = ℕ} (b && d) 1 0 + finished_until t xs = count_cons (is_finish_by t) x xs ∙ (λ i. cond {A = ℕ} (p i && q i) 1 0 + finished_until t xs) in
      let all : length (finished (pairs (x ∷ xs))) ≡ cond {A = ℕ} b 1 0 + length (finished (pairs xs)) =
      ap (λ c. length (map (λ (y : Request × Reply). y.0) (cond c ((x.request, x.answer.reply) ∷ filter (λ (y : Request × Reply). is_finish y.1) (pairs xs)) (filter (λ (y : Request × Reply). is_finish y.1) (pairs xs))))) p ∙ two b in
      let less = one b d in
      omega (arith, rest, count, all, less)

pub take_front : (xs ys : List Request) (f : ℕ) → f ≡ length xs → take f (xs ++ ys) ≡ xs
take_front xs ys f e = take-append-le f xs ys (omega (arith, e)) ∙ take_all f xs (omega (arith, e))

pub posted_unfinished : (o : Option Placed) → finished (posted_in o) ≡ []
posted_unfinished None = refl
posted_unfinished (Some x) = elim x.posted as (λ b. finished (cond b ((x.request, Stopped) ∷ []) []) ≡ []) [ true ↦ refl | false ↦ refl ]

pub front_of : (start : Option (List ℕ)) (xs ys : List (Request × Reply)) → finished ys ≡ [] → (zs : List Request) × (changes_on start (xs ++ ys) ≡ finished xs ++ zs)
front_of start xs ys none =
    let same : finished (xs ++ ys) ≡ finished xs = finished-append xs ys ∙ ap (λ l. finished xs ++ l) none ∙ append-nil (finished xs) in
    (open_change (cell_after_all (finished (xs ++ ys)) start) (xs ++ ys), ap (λ l. l ++ open_change (cell_after_all (finished (xs ++ ys)) start) (xs ++ ys)) same)

-- What the groups show of a key is its cell after the finished changes, or after the pending one too.
pub shows_key : (start : Option (List ℕ)) (e : Engine) (k t bytes : ℕ) (image : ℕ → ℕ) (S : KeyStands start e k) → AllByRecursion (λ (x : Served). x.answer.stamp ≤ t) S.served → ShowsGroups bytes e.layout e.group image
    → IsPrefixCell start (changes_at start e k S) (finished_until t S.served) (recovered e.layout image k)
shows_key start e k t bytes image S late shown = elim (shown.cells k) [
  | inl is ↦ inl (is ∙ sym S.cell ∙ sym S.history.left ∙ ap (λ l. cell_after_all l start) (sym (take_front (finished (pairs S.served)) _ (finished_until t S.served) (finished_all t S.served late)) ∙ ap (take (finished_until t S.served)) (sym front)))
  | inr next ↦
      let n = S.pending next.0 next.1 in
      let cell : recovered e.layout image k ≡ cell_after n.0 (cell_at e k) = leaves next.0.entry.body _ next.2 ∙ n.3 in
      let cut : take (finished_until t S.served + 1) (changes_at start e k S) ≡ finished (pairs S.served) ++ n.0 ∷ [] =
      ap (take (finished_until t S.served + 1)) (n.2 ∙ sym (append_assoc (finished (pairs S.served)) (n.0 ∷ []) n.1))
      ∙ take_front (finished (pairs S.served) ++ n.0 ∷ []) n.1 (finished_until t S.served + 1) (let all = finished_all t S.served late in let long = length-append (finished (pairs S.served)) (n.0 ∷ []) in omega (arith, all, long)) in
      inr (cell ∙ ap (cell_after n.0) (sym S.cell ∙ sym S.history.left) ∙ sym (changes-append start (finished (pairs S.served)) (n.0 ∷ [])) ∙ ap (λ l. cell_after_all l start) (sym cut))
] where
  -- the changes begin with the finished ones
  begins : (zs : List Request) × (changes_at start e k S ≡ finished (pairs S.served) ++ zs)
  begins = front_of start (pairs S.served) (posted_in (e.place k)) (posted_unfinished (e.place k))

  front : changes_at start e k S ≡ finished (pairs S.served) ++ begins.0
  front = begins.1

  leaves : (b : Body) (c : Option (List ℕ)) → Leaves (λ q. bytes_of ((group_for e k).blocks (places.owner (group_for e k).place k) q)) b c → c ≡ left_by (group_for e k) (places.owner (group_for e k).place k) b
  leaves (Pointer p) c h = h.2 ∙ sym h.1
  leaves (Embedded v) c h = h
  leaves Tombstone c h = h

rose_later : (a b c d : ℕ) → a ≤ b → c ≤ d → Rose b c → Rose a d
rose_later a b c d low high rose = omega (arith, low, high, rose)

-- A move of core c.
module _ (o : Origin) (e f : Engine) (c : ℕ) (accepted : List (ℕ × Request)) (fixed : List Fixed) (S : Stands o e) (M : Moves e f c accepted fixed) where
  abbrev l : Geometry
  l = e.layout

  abbrev g : ℕ
  g = group_of e.layout c

  is_layout : IsLayout l
  is_layout = subst IsLayout (sym S.layout) (superblock_facts o.region.frame.bytes o.found (has_layout o.region.frame.bytes o.found S.sound)).1

  group_is : g < groups_in l
  group_is = group_low l is_layout c M.core

  lawful : Lawful (e.group g)
  lawful = S.groups.lawful g group_is

  -- the causes of the key's refusals, and its last version
  abbrev Caused : (k : ℕ) → KeyGoes (start_of o k) e f k (S.keys k) → Type 0
  Caused k G = HaveCauses (layout_of o.found) (version_of o.found k) (pairs G.new.served) × ((group_for f k).last k ≤ raised_by (version_of o.found k) (pairs G.new.served))

  own_caused : (k : ℕ) (own : owner l k ≡ c) → Caused k (own_goes (start_of o) e f c accepted fixed M S.keys k own lawful)
  own_caused k own =
      let start = version_of o.found k in
      let old = pairs (S.keys k).served in
      let more = map replied (fixed_of k fixed) in
      let same = own_pairs (start_of o) e f c accepted fixed M S.keys k own lawful in
      let R = M.refuses k own in
      let up = raised_by_up more ((group_for e k).last k) (raised_by start old) (S.versions k) in
      let now = R.last_now in
      let whole = raised_append start old more in
      subst (λ (xs : List (Request × Reply)). HaveCauses (layout_of o.found) start xs × ((group_for f k).last k ≤ raised_by start xs)) (sym same) (
        causes_append (layout_of o.found) start old more (S.causes k) (causes_up (layout_of o.found) ((group_for e k).last k) (raised_by start old) more (S.versions k) (subst (λ (m : Geometry). HaveCauses m ((group_for e k).last k) more) S.layout R.causes)),
        omega (arith, up, now, whole),
      )

  other_caused : (k : ℕ) (other : owner l k ≢ c) → Caused k (other_goes (start_of o) e f c accepted fixed M S.keys k other S.groups is_layout)
  other_caused k other =
      let same = other_pairs (start_of o) e f c accepted fixed M S.keys k other S.groups is_layout in
      subst (λ (xs : List (Request × Reply)). HaveCauses (layout_of o.found) (version_of o.found k) xs × ((group_for f k).last k ≤ raised_by (version_of o.found k) xs)) (sym same)
      (S.causes k, subst (λ (n : ℕ). n ≤ raised_by (version_of o.found k) (pairs (S.keys k).served)) (sym (other_last (start_of o) e f c accepted fixed M S.keys k other S.groups is_layout)) (S.versions k))

  both : (k : ℕ) → (G : KeyGoes (start_of o k) e f k (S.keys k)) × Caused k G
  both k = elim (cases_eq (owner l k) c) [
    | inl own ↦ (own_goes (start_of o) e f c accepted fixed M S.keys k own lawful, own_caused k own)
    | inr other ↦ (other_goes (start_of o) e f c accepted fixed M S.keys k other S.groups is_layout, other_caused k other)
  ]

  abbrev goes : (k : ℕ) → KeyGoes (start_of o k) e f k (S.keys k)
  goes k = (both k).0

  -- by e's layout
  groups_there : Groups l f.group
  groups_there = record {
    place = λ h low. elim (cases_eq h g) [
      | inl same ↦ subst (λ (n : ℕ). (f.group n).place ≡ place_at l n) (sym same) (run_place (e.group g) _ (f.group g) M.runs ∙ S.groups.place g group_is)
      | inr other ↦ ap (λ (w : Group). w.place) (M.other_groups h other) ∙ S.groups.place h low
    ];
    lawful = λ h low. elim (cases_eq h g) [
      | inl same ↦ subst (λ (n : ℕ). Lawful (f.group n)) (sym same) (run_keeps (e.group g) _ (f.group g) lawful M.runs)
      | inr other ↦ subst Lawful (sym (M.other_groups h other)) (S.groups.lawful h low)
    ];
  }

  frame_is : e.region.frame ≡ o.region.frame
  frame_is = S.run.frame

  -- at the end of the move
  licensed_there : IsTelling f.region → AllLicensed l f.group (cell_now f.region)
  licensed_there telling = all_licensed l is_layout c e.group f.group M.steps (cell_now e.region) (cell_now f.region) M.other_groups M.runs
      (at_exit e.region f.region (KeepsOutside (cell_now e.region) (part_first l c) (part_first l (c + 1))) M.outside telling) (M.exit telling)
      (S.licensed (told_at_entry e.region f.region (KeepsOutside (cell_now e.region) (part_first l c) (part_first l (c + 1))) M.outside telling))

  superblock_there : IsTelling f.region → HasSuperblock o.found (cell_now f.region)
  superblock_there telling = superblock_kept l c o.found (cell_now e.region) (cell_now f.region)
      (at_exit e.region f.region (KeepsOutside (cell_now e.region) (part_first l c) (part_first l (c + 1))) M.outside telling)
      (S.superblock (told_at_entry e.region f.region (KeepsOutside (cell_now e.region) (part_first l c) (part_first l (c + 1))) M.outside telling))

  -- within it
  licensed_within : (t : ℕ) → IsTold f.region t → e.region.stamp ≤ t → AllLicensed l e.group (f.region.cells t)
  licensed_within t told le = all_licensed l is_layout c e.group e.group [] (cell_now e.region) (f.region.cells t) (λ h ne. refl) refl
      (M.outside.each t told le) (M.moments.each t told le) (S.licensed (M.outside.was t told le))

  superblock_within : (t : ℕ) → IsTold f.region t → e.region.stamp ≤ t → HasSuperblock o.found (f.region.cells t)
  superblock_within t told le = superblock_kept l c o.found (cell_now e.region) (f.region.cells t) (M.outside.each t told le) (S.superblock (M.outside.was t told le))

  -- what the groups show of any image
  shown : (w : ℕ → Group) (cells : ℕ → Cell) (image : ℕ → ℕ) → Groups l w → HasSuperblock o.found cells → AllLicensed l w cells → MayLeave o.region.frame cells image → ShowsGroups o.region.frame.bytes l w image
  shown w cells image G sure all may =
      let there = shows_groups o.region.frame.bytes o.found o.region.frame w cells image (has_layout o.region.frame.bytes o.found S.sound) S.first S.words
      (subst (λ (m : Geometry). Groups m w) S.layout G) sure (subst (λ (m : Geometry). AllLicensed m w cells) S.layout all) may in
      subst (λ (m : Geometry). ShowsGroups o.region.frame.bytes m w image) (sym S.layout) there

  abbrev Prefix : ℕ → ℕ → (ℕ → ℕ) → Type 0
  Prefix k t image = IsPrefixCell (start_of o k) (changes_at (start_of o k) f k (goes k).new) (finished_until t (goes k).new.served) (recovered (layout_of o.found) image k)

  -- what an earlier moment showed it shows still
  lift : (k t : ℕ) (image : ℕ → ℕ) → t < f.region.stamp → IsPrefixCell (start_of o k) (changes_at (start_of o k) e k (S.keys k)) (finished_until t (S.keys k).served) (recovered (layout_of o.found) image k) → Prefix k t image
  lift k t image lt is =
      let step = goes k in
      let same : finished_until t step.new.served ≡ finished_until t (S.keys k).served =
      ap (finished_until t) step.served ∙ until_append t (S.keys k).served step.more ∙ ap (λ n. finished_until t (S.keys k).served + n) (none_until t f.region.stamp step.more step.stamps lt) ∙ (let z : finished_until t (S.keys k).served + 0 ≡ finished_until t (S.keys k).served = omega arith in z) in
      let few = until_few t (S.keys k).served in
      let begins = front_of (start_of o k) (pairs (S.keys k).served) (posted_in (e.place k)) (posted_unfinished (e.place k)) in
      let long : length (changes_at (start_of o k) e k (S.keys k)) ≡ length (finished (pairs (S.keys k).served)) + length begins.0 = ap length begins.1 ∙ length-append (finished (pairs (S.keys k).served)) begins.0 in
      let within : finished_until t (S.keys k).served ≤ length (changes_at (start_of o k) e k (S.keys k)) = omega (arith, few, long) in
      subst (λ n. IsPrefixCell (start_of o k) (changes_at (start_of o k) f k step.new) n (recovered (layout_of o.found) image k)) (sym same)
      (subst (λ xs. IsPrefixCell (start_of o k) xs (finished_until t (S.keys k).served) (recovered (layout_of o.found) image k)) (sym step.grows.1)
      (prefix_grows (start_of o k) (recovered (layout_of o.found) image k) (changes_at (start_of o k) e k (S.keys k)) step.grows.0 (finished_until t (S.keys k).served) within is))

  layout_there : f.layout ≡ layout_of o.found
  layout_there = M.layout ∙ S.layout

  crash_there : (t : ℕ) → IsTold f.region t → o.region.stamp ≤ t → (image : ℕ → ℕ) → MayLeave o.region.frame (f.region.cells t) image → ShowsPrefix o f (λ k. (goes k).new) t image
  crash_there t told from image may = elim (cases_eq t f.region.stamp) [
    | inl now ↦
        let telling : IsTelling f.region = subst (λ (n : ℕ). IsTold f.region n) now told in
        let same : f.region.cells t ≡ cell_now f.region = ap f.region.cells now in
        let is = shown f.group (cell_now f.region) image groups_there (superblock_there telling) (licensed_there telling) (subst (λ (m : ℕ → Cell). MayLeave o.region.frame m image) same may) in
        record {
          sound = is.sound;
          layout = is.layout ∙ S.layout;
          cells = λ k. subst (λ (m : Geometry). IsPrefixCell (start_of o k) (changes_at (start_of o k) f k (goes k).new) (finished_until t (goes k).new.served) (recovered m image k)) layout_there
              (shows_key (start_of o k) f k t o.region.frame.bytes image (goes k).new (subst (λ (n : ℕ). AllByRecursion (λ (x : Served). x.answer.stamp ≤ n) (goes k).new.served) (sym now) (goes k).new.stamps)
              (subst (λ (m : Geometry). ShowsGroups o.region.frame.bytes m f.group image) (sym M.layout) is));
        }
    | inr other ↦ earlier (let seen = told.seen in omega (arith, seen, other)) (cases_lt t e.region.stamp)
  ] where
    earlier : t < f.region.stamp → (t < e.region.stamp) ⊎ (e.region.stamp ≤ t) → ShowsPrefix o f (λ k. (goes k).new) t image
    earlier lt (inl before) =
        let was = M.outside.only t told before in
        let same : f.region.cells t ≡ e.region.cells t = (λ i w. M.outside.same t w was i) in
        let is = S.crash t was from image (subst (λ (m : ℕ → Cell). MayLeave o.region.frame m image) same may) in
        record { sound = is.sound; layout = is.layout; cells = λ k. lift k t image lt (is.cells k) }
    earlier lt (inr le) =
        let is = shown e.group (f.region.cells t) image S.groups (superblock_within t told le) (licensed_within t told le) may in
        record {
          sound = is.sound;
          layout = is.layout ∙ S.layout;
          cells = λ k. lift k t image lt (subst (λ (m : Geometry). IsPrefixCell (start_of o k) (changes_at (start_of o k) e k (S.keys k)) (finished_until t (S.keys k).served) (recovered m image k)) S.layout
              (shows_key (start_of o k) e k t o.region.frame.bytes image (S.keys k) (by_now le (S.keys k).served (S.keys k).stamps) is));
        } where
          by_now : e.region.stamp ≤ t → (xs : List Served) → AllByRecursion (λ (x : Served). x.answer.stamp ≤ e.region.stamp) xs → AllByRecursion (λ (x : Served). x.answer.stamp ≤ t) xs
          by_now le [] h = tt
          by_now le (x ∷ xs) h = (let a = h.0 in omega (arith, a, le), by_now le xs h.1)

  -- causes
  stopped_there : (d : ℕ) → d < l.cores → f.stopped d ≡ true → Rose o.region.faults f.region.faults
  stopped_there d low stop = elim (cases_eq d c) [
    | inl same ↦ elim (M.stops (sym (ap f.stopped same) ∙ stop)) [
      | inl before ↦ later (S.stopped c M.core before)
      | inr (inl rose) ↦ (let up = S.run.faults in rose_later o.region.faults e.region.faults f.region.faults f.region.faults up (omega arith) rose)
      | inr (inr failed) ↦
          let lost = lawful.slots.failed (member_of l c) failed.0 failed.1 failed.2 in
          let h : ℕ = lost.0 in
          let member : h < l.group = subst (λ (p : Place). h < members p) (S.groups.place g group_is) (lawful.logs.group h failed.1 (inr lost.2)).0 in
          let core : g * l.group + h < l.cores = member_core l is_layout g h group_is member in
          let broken : (e.group (group_of l (g * l.group + h))).broken (member_of l (g * l.group + h)) ≡ true =
          (λ i. (e.group (div-mul-add g l.group h member i)).broken (mod-mul-add g l.group h member i)) ∙ lost.1 in
          later (S.stopped (g * l.group + h) core (S.broken (g * l.group + h) core broken))
    ]
    | inr other ↦ later (S.stopped d low (sym (M.other_stops d other) ∙ stop))
  ] where
    later : Rose o.region.faults e.region.faults → Rose o.region.faults f.region.faults
    later rose = let up = M.outside.faults in rose_later o.region.faults o.region.faults e.region.faults f.region.faults (omega arith) up rose

  broken_there : (d : ℕ) → d < l.cores → (f.group (group_of l d)).broken (member_of l d) ≡ true → f.stopped d ≡ true
  broken_there d low broken = elim (cases_eq d c) [
    | inl same ↦ ap f.stopped same ∙ M.breaks (sym (λ i. (f.group (group_of l (same i))).broken (member_of l (same i))) ∙ broken)
    | inr other ↦ M.other_stops d other ∙ S.broken d low (sym (ap (λ (v : View). v.broken) (other_view l c e.group f.group M.steps M.other_groups M.runs d other)) ∙ broken)
  ]

  unasked_there : (n : ℕ) → length f.given ≤ n → f.answer n ≡ None
  unasked_there n past =
      let long : length f.given ≡ length e.given = ap length M.given in
      M.answers.old n (λ y j same.
      let own = M.own_answers y j in
      let asked = in_requests (key_of y.request) e.given (y.number, y.request) (given (start_of o) e f c accepted fixed M S.keys (key_of y.request) own y (in_own (start_of o) e f c accepted fixed M S.keys y j)) in
      let within = slice_get_within e.given y.number y.request asked.0 in
      absurd (omega (arith, within, past, long, same))) ∙ S.unasked n (omega (arith, past, long))

  pub stands_on : Stands o f
  stands_on = record {
    sound = S.sound;
    first = S.first;
    words = S.words;
    layout = layout_there;
    groups = subst (λ (m : Geometry). Groups m f.group) (sym M.layout) groups_there;
    run = then_on o.region e.region f.region (λ cells. Unit) S.run (weaken e.region f.region (KeepsOutside (cell_now e.region) (part_first l c) (part_first l (c + 1))) (λ cells. Unit) (λ t m p. tt) M.outside);
    superblock = superblock_there;
    licensed = λ telling. subst (λ (m : Geometry). AllLicensed m f.group (cell_now f.region)) (sym M.layout) (licensed_there telling);
    keys = λ k. (goes k).new;
    unasked = unasked_there;
    crash = crash_there;
    causes = λ k. (both k).1.0;
    versions = λ k. (both k).1.1;
    rooms = rooms_on o e f c accepted fixed S M M.spends S.rooms;
    stopped = λ d low. stopped_there d (subst (λ (m : Geometry). d < m.cores) M.layout low);
    broken = λ d low b. broken_there d (subst (λ (m : Geometry). d < m.cores) M.layout low) (subst (λ (m : Geometry). (f.group (group_of m d)).broken (member_of m d) ≡ true) M.layout b);
  }
