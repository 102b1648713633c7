-- The pointer of a block of the part is small, and there is a block where a put is not refused.
use Rattle.std.proofs.Common.{◌≡◌, ◌≢◌, inl, ⊎_elim, ℕ, zero, suc, ◌+◌, ◌-◌, ◌*◌, ◌/◌, ◌^◌, ◌<◌, ◌≤◌, ◌==◌, ◌&&◌, ◌||◌, not, Bool, true, false, cond, leb, ltb, List, [], ◌∷◌, length, Option, Some, None, refl, sym, ◌∙◌, subst, arith}
use Rattle.std.specs.Option.{IsSome}
use Rattle.std.specs.List.{AllByRecursion}
use Rattle.std.proofs.lemmas.Nat.{pow_pos, pow-add}
use Rattle.std.proofs.Math.Nat.{mul-le-mul_right, mul-le-mul_left, add-mul}
use Rattle.core_room.proofs.Clients.{class_for_long, class_fits}
use Rattle.chunk_map.specs.Layouts.{has_class}
use Rattle.std.proofs.lemmas.Bool.{le-leb}
use Rattle.std.proofs.lemmas.Bool.{eq-eqb, ne_eqb, and_parts, and_from, or_cases, leb-true, eqb-true, leb-false, ltb-false, lt-ltb, cases_lt}
use Rattle.chunk_map.specs.declared.layouts.Geometry.{Geometry}
use Rattle.chunk_map.specs.Layouts.{IsLayout, is_class}
use Rattle.chunk_map.proofs.Clients.{numbers_of}
use Rattle.store_image.specs.Parts.{chunk_units}
use Rattle.lazy_alloc.specs.Sets.{Sets, AreSets, class_at, chunk_is_free, is_free_block, free_chunk_count, free_block_count, part_unit, Takes}
use Rattle.lazy_alloc.specs.Sets as sets
use Rattle.lazy_alloc.proofs.Clients.{lies_at, count_none}
use Rattle.log_entry.specs.Spelling.{HasSpelling, Fits}
use Rattle.log_entry.specs.declared.entry.Body.{Body}
use Rattle.log_entry.specs.declared.entry.Body.TheVariants as bodies
use Rattle.core_index.specs.Records.{KeyRecord, last_of}
use Rattle.core_index.specs.Index.{known_at}
use Rattle.core_worker.specs.declared.types.Place.{Place}
use Rattle.core_worker.specs.declared.types.Place.TheVariants.{Free, Staged, Posted}
use Rattle.group_laws.specs.Places as group
use Rattle.group_laws.specs.MemberViews.{View}
use Rattle.core_worker.specs.declared.worker.Worker.{Worker}
use Rattle.core_worker.specs.OwnPlaces.{place_at, is_free}
use Rattle.core_worker.specs.KeyTies.{IsPlaced, LeftIn}
use Rattle.core_worker.specs.Refusals.{IsCounted, IsMeasured}
use Rattle.core_room.specs.declared.supply.Supply.{Supply}
use Rattle.core_worker.specs.Supplies.{supply_of, why_put, free_blocks}
use Rattle.core_room.specs.RoomRule.{pledged, lacks_block, lacks_room, may_cut}
use Rattle.core_room.specs.Lengths.{lines_needed, class_for}
use Rattle.core_worker.specs.Plans.{last_version, PutsInBlock}
use Rattle.core_worker.proofs.CleaningKept.{small_way}
use Rattle.core_worker.specs.Beginning.{HoldsAside}

pub each : (ps : List Place) → ((s : ℕ) → s < length ps → IsCounted (place_at ps s)) → AllByRecursion IsCounted ps
each [] h = tt
each (x ∷ xs) h = (h 0 (omega arith), each xs (λ s lt. h (suc s) (omega (arith, lt))))

pub counted : (p : group.Place) (m : ℕ) (v : View) (s : ℕ) (x : Place) → IsPlaced p m v s x → IsCounted x
counted p m v s Free is = tt
counted p m v s (Staged n e u) is = is.3
counted p m v s (Posted n k lines) is = is.6

pub measured : (p : group.Place) (m : ℕ) (v : View) (w : Worker) → HoldsAside p m v w → IsMeasured w
measured p m v w H = record {
  eight = H.eight;
  counted = each w.places.items (λ s lt. let eight = H.eight in let low : s < 8 = omega (arith, lt, eight) in counted p m v s (place_at w.places.items s) (H.placed s low));
  small = small_way p m v (record w { queue = [] }) H.cleaning;
  layout = H.allocator_layout ∙ sym H.layout;
}

pub free_is : (x : Place) → is_free x ≡ true → x ≡ Free
free_is Free e = refl
free_is (Staged n e u) t = absurd (cc t)
free_is (Posted n k l) t = absurd (cc t)

-- what isn't refused
pub refused : {X : Type 0} (b : Bool) (x : X) (o : Option X) → cond b (Some x) o ≡ None → (b ≡ false) × (o ≡ None)
refused true x o e = absurd (cc e)
refused false x o e = (refl, e)

pub record Unrefused (l : Geometry) (s : Supply) (a : Sets) (last n : ℕ) : Type 0 where
  pub short : n ≤ l.chunk_bytes / 4 - 8
  pub unspent : last < 1048574
  pub room : lacks_room s (lines_needed n) ≡ false
  pub block : lacks_block s (lines_needed n) (class_for n) (free_blocks a (class_for n)) ≡ false

pub unrefused : (l : Geometry) (s : Supply) (a : Sets) (last n : ℕ) → why_put l s a last n ≡ None → Unrefused l s a last n
unrefused l s a last n e =
    let one = refused (ltb (l.chunk_bytes / 4 - 8) n) _ _ e in
    let two = refused (leb 1048574 last) _ _ one.1 in
    let three = refused (lacks_room s (lines_needed n)) _ _ two.1 in
    let four = refused (lacks_block s (lines_needed n) (class_for n) (free_blocks a (class_for n))) _ _ three.1 in
    record { short = ltb-false (l.chunk_bytes / 4 - 8) n one.0; unspent = leb-false 1048574 last two.0; room = three.0; block = four.0 }

no_chunks : (a : Sets) → ((j : ℕ) → chunk_is_free a j ≡ false) → free_chunk_count a ≡ 0
no_chunks a none = count_none (chunk_is_free a) 0 a.layout.chunks (λ x low high. none x)

no_blocks : (a : Sets) (class : ℕ) → ((q : ℕ) → is_free_block a class q ≡ false) → free_block_count a class ≡ 0
no_blocks a class none = count_none (is_free_block a class) (part_unit a) (a.layout.chunks * chunk_units a.layout) (λ x low high. none x)

class_not_zero : (l : Geometry) (class : ℕ) → is_class l class ≡ true → class ≡ 0 → ⊥
class_not_zero l class fits zero_is =
    let outer = and_parts (leb 1 class && leb class 12) (leb (1024 * 2 ^ class) l.chunk_bytes) fits in
    let inner = and_parts (leb 1 class) (leb class 12) outer.0 in
    let low = leb-true 1 class inner.0 in
    omega (arith, low, zero_is)

cut_some : (free need room : ℕ) → (leb 3 free || (free == 2 && leb need room)) ≡ true → 2 ≤ free
cut_some free need room e = ⊎_elim (λ three. let h = leb-true 3 free three in omega (arith, h)) (λ two. let h = eqb-true free 2 (and_parts (free == 2) (leb need room) two).0 in omega (arith, h)) (or_cases (leb 3 free) (free == 2 && leb need room) e)

pub take_some : (w : Worker) (new : Sets) (l : Geometry) (class need : ℕ) → is_class l class ≡ true → lacks_block (supply_of w) need class (free_blocks w.allocator class) ≡ false → (o : Option ℕ) → Takes w.allocator new class (may_cut (supply_of w) need) o → IsSome o
take_some w new l class need fits free (Some p) t = refl
take_some w new l class need fits free None t = absurd (⊎_elim lacks (λ none. by (may_cut (supply_of w) need) refl none) t.1) where
  blocks : free_block_count w.allocator class ≡ 0
  blocks = no_blocks w.allocator class t.0

  none_free : free_blocks w.allocator class ≡ 0
  none_free = (λ i. cond (ne_eqb class 0 (class_not_zero l class fits) i) 0 (free_block_count w.allocator class)) ∙ blocks

  lacks : may_cut (supply_of w) need ≡ false → ⊥
  lacks never = let yes : lacks_block (supply_of w) need class (free_blocks w.allocator class) ≡ true = (λ i. not (ne_eqb class 0 (class_not_zero l class fits) i) && eq-eqb (free_blocks w.allocator class) 0 none_free i && not (never i)) in
      let bad : true ≡ false = sym yes ∙ free in cc bad

  by : (b : Bool) → may_cut (supply_of w) need ≡ b → ((j : ℕ) → chunk_is_free w.allocator j ≡ false) → ⊥
  by false q none = lacks q
  by true q none = let two = cut_some (free_chunk_count w.allocator) (pledged (supply_of w) + need) (supply_of w).open_lines q in let zero_is = no_chunks w.allocator none in omega (arith, two, zero_is)

-- a block of the part begins below word 2^33
pub pointer_small : (a : Sets) (q class : ℕ) → AreSets a → IsLayout a.layout → class_at a q ≡ Some class → q < 2 ^ 40
pointer_small a q class are is at =
    let l = lies_at a q class are at in
    let place = l.place in
    let within = l.within in
    let part = are.part_is in
    let last = l.last in
    let pos = pow_pos class in
    let total = (numbers_of a.layout is).total in
    let small : chunk_units a.layout ≤ a.layout.chunk_bytes = omega arith in
    let bytes : (a.layout.cores * a.layout.chunks) * chunk_units a.layout ≤ a.layout.cores * a.layout.chunks * a.layout.chunk_bytes = mul-le-mul_left (a.layout.cores * a.layout.chunks) small in
    let one : ((a.part * a.layout.chunks + sets.chunk_of a q) + 1) * chunk_units a.layout ≡ (a.part * a.layout.chunks + sets.chunk_of a q) * chunk_units a.layout + 1 * chunk_units a.layout = add-mul (a.part * a.layout.chunks + sets.chunk_of a q) 1 (chunk_units a.layout) in
    let low : (a.part * a.layout.chunks + sets.chunk_of a q) + 1 ≤ a.layout.cores * a.layout.chunks = below a.part a.layout.cores a.layout.chunks (sets.chunk_of a q) part within in
    let all : ((a.part * a.layout.chunks + sets.chunk_of a q) + 1) * chunk_units a.layout ≤ (a.layout.cores * a.layout.chunks) * chunk_units a.layout = mul-le-mul_right (chunk_units a.layout) low in
    omega (arith, place, last, pos, all, total, bytes, one)
  where
    below : (c n m j : ℕ) → c < n → j < m → (c * m + j) + 1 ≤ n * m
    below c n m j lt jl = let up : (c + 1) * m ≤ n * m = mul-le-mul_right m (let le : c + 1 ≤ n = omega (arith, lt) in le) in let one : (c + 1) * m ≡ c * m + 1 * m = add-mul c 1 m in omega (arith, up, jl, one)

or_right : (x y : Bool) → y ≡ true → (x || y) ≡ true
or_right true y e = refl
or_right false y e = e

-- a length that gets a block has a class
class_up_to : (n c : ℕ) → 256 ≤ n → n + 8 ≤ 256 * 2 ^ (suc c) → (d : ℕ) × (d ≤ suc c) × (has_class n d ≡ true)
class_up_to n zero long fits = (1, omega arith, and_from _ _ (and_from _ _ (le-leb 256 n long) (le-leb (n + 8) (256 * 2 ^ 1) fits)) refl)
class_up_to n (suc c) long fits = ⊎_elim
    (λ more. (suc (suc c), omega arith, and_from _ _ (and_from _ _ (le-leb 256 n long) (le-leb (n + 8) (256 * 2 ^ (suc (suc c))) fits)) (or_right (suc (suc c) == 1) _ (lt-ltb (128 * 2 ^ (suc (suc c))) (n + 8) more))))
    (λ le. let twice : 2 ^ (suc c + 1) ≡ 2 ^ (suc c) * 2 = pow-add 2 (suc c) 1 in
    let less = class_up_to n c long (omega (arith, le, twice)) in
    let up = less.1 in
    (less.0, omega (arith, up), less.2))
    (cases_lt (128 * 2 ^ (suc (suc c))) (n + 8))

pub class_has : (n : ℕ) → 256 ≤ n → n ≤ 1048568 → has_class n (class_for n) ≡ true
class_has n long short =
    let d = class_up_to n 11 long (omega (arith, short)) in
    subst (λ k. has_class n k ≡ true) (sym (class_for_long n d.0 d.2 d.1)) d.2

-- a put that gets a block
module _ (p : group.Place) (m : ℕ) (v : View) (w : Worker) (H : HoldsAside p m v w) (key : ℕ) (value : List ℕ) (version class : ℕ) (cuts : Bool) (P : PutsInBlock w key value version class cuts) where
  is : IsLayout w.layout
  is = subst IsLayout (sym H.layout) H.place.layout

  U : Unrefused w.layout (supply_of w) w.allocator (last_version w key) (length value)
  U = unrefused w.layout (supply_of w) w.allocator (last_version w key) (length value) P.unrefused

  pub has : has_class (length value) class ≡ true
  has =
      let most = (numbers_of w.layout is).size.1 in
      let short = U.short in
      subst (λ (k : ℕ). has_class (length value) k ≡ true) (sym P.class_is) (class_has (length value) P.long (omega (arith, most, short)))

  pub one_line : lines_needed (length value) ≡ 1
  one_line = (λ i. cond (le-leb 256 (length value) P.long i) 1 ((2 + (length value + 7) / 8 + 7) / 8))

  pub block_class : is_class w.allocator.layout class ≡ true
  block_class = subst (λ (l : Geometry). is_class l class ≡ true) (H.layout ∙ sym H.allocator_layout) (class_fits w.layout is (length value) class U.short has)

  pub block_there : (new : Sets) (o : Option ℕ) → Takes w.allocator new class cuts o → IsSome o
  block_there new o takes = take_some w new w.allocator.layout class (lines_needed (length value)) block_class
      ((λ i. lacks_block (supply_of w) (lines_needed (length value)) (P.class_is i) (free_blocks w.allocator (P.class_is i))) ∙ U.block)
      o (subst (λ (b : Bool). Takes w.allocator new class b o) P.cuts_is takes)

  pub layout_there : IsLayout w.allocator.layout
  layout_there = subst IsLayout (sym H.allocator_layout) H.place.layout

  pub unspent : last_version w key < 1048574
  unspent = U.unspent

  pub room_there : lacks_room (supply_of w) (lines_needed (length value)) ≡ false
  room_there = U.room

-- a key that has a value was changed before, and a delete of it has a number left
live_record : (v : View) (k : ℕ) (o : Option KeyRecord) (cell : Option (List ℕ)) → LeftIn v k o cell → cell ≢ None → ((r : KeyRecord) → o ≡ Some r → HasSpelling (record { key = k; version = r.version; body = r.body })) → (1 ≤ last_of o) × (last_of o ≤ 1048574)
live_record v k None cell left live spelled = absurd (live left)
live_record v k (Some r) cell left live spelled = by r.body left (spelled r refl).fits where
  by : (b : Body) → LeftIn v k (Some (record { version = r.version; body = b; standing = r.standing })) cell → Fits r.version b → (1 ≤ r.version) × (r.version ≤ 1048574)
  by (bodies.Pointer q) l f = (f.0, f.1)
  by (bodies.Embedded u) l f = (f.0, f.1)
  by bodies.Tombstone l f = absurd (live l)

pub live_last : (p : group.Place) (m : ℕ) (v : View) (w : Worker) → HoldsAside p m v w → w.stopped ≡ false → (k : ℕ) → group.owner p k ≡ m → v.cell k ≢ None → (1 ≤ last_of (known_at w.index k)) × (last_of (known_at w.index k) ≤ 1048574)
live_last p m v w H runs k mine live = live_record v k (known_at w.index k) (v.cell k) (H.keys k mine (inl runs)).cell live (λ r e. H.spelled k r e)

pub delete_spelled : (p : group.Place) (m : ℕ) (v : View) (w : Worker) → HoldsAside p m v w → w.stopped ≡ false → (k : ℕ) → group.owner p k ≡ m → v.cell k ≢ None → (version : ℕ) → version ≡ last_of (known_at w.index k) + 1 → k < 2 ^ 64 → HasSpelling (record { key = k; version = version; body = bodies.Tombstone })
delete_spelled p m v w H runs k mine live version next low =
    let l = live_last p m v w H runs k mine live in
    let l0 = l.0 in
    let l1 = l.1 in
    record { key = low; fits = (omega (arith, next, l0), omega (arith, next, l1)) }
