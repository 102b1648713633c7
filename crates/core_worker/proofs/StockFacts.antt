-- What the parts of a call do to what a worker has free.
use Rattle.std.proofs.Common.{◌≡◌, inl, ⊎_elim, ℕ, ◌+◌, ◌-◌, ◌*◌, ◌/◌, ◌^◌, ◌<◌, ◌≤◌, ◌&&◌, leb, ltb, Bool, true, false, cond, List, [], ◌∷◌, length, Option, Some, None, refl, sym, ◌∙◌, ap, subst, arith, length-append}
use Rattle.std.specs.Prelude.{is_some}
use Rattle.std.proofs.lemmas.Bool.{ltb-false, leb-true, le-leb, lt-leb, le-ltb, and_parts, and_from, eq-eqb, ne_eqb, cases_eq}
use Rattle.std.proofs.lemmas.List.Sums.{sum_by-append}
use Rattle.pm_region.specs.Words.{lines_for}
use Rattle.fs_model.specs.declared.model.Request.{Request}
use Rattle.fs_model.specs.declared.model.Request.TheVariants.{Put, Get, Delete}
use Rattle.pm_region.specs.State.{State}
use Rattle.log_entry.specs.declared.entry.Entry.{Entry}
use Rattle.log_entry.specs.declared.entry.Body.{Body}
use Rattle.log_entry.specs.declared.entry.Body.TheVariants as bodies
use Rattle.log_entry.specs.Spelling.{HasSpelling, words_of}
use Rattle.chunk_map.specs.declared.layout_sizes.TheConstants.{GREATEST_CLASS}
use Rattle.chunk_map.specs.declared.layouts.Geometry.{Geometry}
use Rattle.chunk_map.specs.Layouts.{has_class, is_class, payload_lines}
use Rattle.core_room.specs.Lengths.{class_for, lines_needed}
use Rattle.lazy_alloc.specs.Sets.{Sets, AreSets, Takes, TakesBlock, Cuts, class_at, chunk_class, part_unit, free_chunk_count, free_block_count, is_free_block, blocks_in}
use Rattle.lazy_alloc.specs.Written.{WroteValue}
use Rattle.lazy_alloc.proofs.Clients.{blocks_same, free_block, lies_at, count_none}
use Rattle.store_image.specs.Parts.{chunk_units}
use Rattle.batch_leader.specs.declared.taken.Taken.{Taken}
use Rattle.batch_leader.specs.TakenChanges.{entries_taken, spelled}
use Rattle.batch_leader.specs.Rounds.{words_taken}
use Rattle.engine_laws.specs.FreeStock.{Stock, IsAtLeast}
use Rattle.engine_laws.specs.StockChanges.{lines_in, one_if, is_cut_for, puts_in, Spends, lines_of, parts_of}
use Rattle.core_log.specs.Log.{LogState, lines_left, room_of}
use Rattle.core_room.specs.declared.supply.Supply.{Supply}
use Rattle.core_room.specs.declared.types.Shortage.TheVariants as causes
use Rattle.core_room.specs.RoomRule.{may_cut}
use Rattle.engine_laws.specs.RefusalCauses.{is_too_long}
use Rattle.core_worker.specs.declared.worker.Worker.{Worker}
use Rattle.core_worker.specs.Supplies.{supply_of, lacks, why}
use Rattle.core_worker.specs.Beginning.{TakesFor, IsStaged}
use Rattle.group_laws.specs.Places.{Place}
use Rattle.group_laws.specs.MemberViews.{View}
use Rattle.core_worker.specs.Ties.{Holds}
use Rattle.core_worker.specs.WorkerMoves.{Hands, SpendsIn, awaits_chunk, lines_free, stock_of, hands_of}
use Rattle.core_worker.specs.OwnPlaces.{request_by}
use Rattle.core_room.proofs.Clients.{fit_of}
use Rattle.core_worker.proofs.CauseFacts.{class_is, lines_low, lines_same}
use Rattle.core_worker.proofs.RoomKept.{embedded_lines, wrote_chunks}

-- what a change that is begun takes
pub record Stages (l : Geometry) (s t : Stock) (begun : Option (ℕ × Request)) : Type 0 where
  pub cut : Option ℕ
  pub chunks : s.chunks ≤ t.chunks + one_if (is_some cut)
  pub lines : s.lines ≤ t.lines
  pub blocks : (c : ℕ) → s.blocks c + cond (is_cut_for cut c) (blocks_in l c) 0 ≤ t.blocks c + puts_in l c begun
  pub none : (c : ℕ) → cut ≡ Some c → s.blocks c ≡ 0
  pub puts : (c : ℕ) → cut ≡ Some c → puts_in l c begun ≡ 1
  pub class : (c : ℕ) → cut ≡ Some c → is_class l c ≡ true

-- no less is free, and nothing is begun that needs a block
pub stages_none : (l : Geometry) (s t : Stock) (begun : Option (ℕ × Request)) → IsAtLeast s t → Stages l s t begun
stages_none l s t begun A = record {
  cut = None;
  chunks = (let less = A.chunks in omega (arith, less));
  lines = A.lines;
  blocks = λ c. (let less = A.blocks c in omega (arith, less));
  none = λ c is. absurd (cc is);
  puts = λ c is. absurd (cc is);
  class = λ c is. absurd (cc is);
}

-- a value that a block was taken for is a put of that class
put_is : (l : Geometry) (k n : ℕ) (v : List ℕ) → length v ≤ l.chunk_bytes / 4 - 8 → is_class l (class_for (length v)) ≡ true → puts_in l (class_for (length v)) (Some (n, Put k v)) ≡ 1
put_is l k n v short is =
    let inner = and_parts (leb 1 (class_for (length v)) && leb (class_for (length v)) GREATEST_CLASS) (leb (1024 * 2 ^ class_for (length v)) l.chunk_bytes) is in
    let low = leb-true 1 (class_for (length v)) (and_parts (leb 1 (class_for (length v))) (leb (class_for (length v)) GREATEST_CLASS) inner.0).0 in
    let has = (class_is (length v) (λ zero_is. absurd (omega (arith, low, zero_is)))).0 in
    ap one_if (and_from (has_class (length v) (class_for (length v))) (leb (length v) (l.chunk_bytes / 4 - 8)) has (le-leb (length v) (l.chunk_bytes / 4 - 8) short))

abbrev stock_in : Sets → ℕ → Stock
stock_in a lines = record { chunks = free_chunk_count a; lines = lines; blocks = free_block_count a }

module _ (l : Geometry) (old new : Sets) (k n lines : ℕ) (v : List ℕ) (short : length v ≤ l.chunk_bytes / 4 - 8) (S : AreSets old) (T : AreSets new) (layout : old.layout ≡ l) where
  abbrev class : ℕ
  class = class_for (length v)

  took_block : (q : ℕ) → TakesBlock old new class q → is_class l class ≡ true → Stages l (stock_in old lines) (stock_in new lines) (Some (n, Put k v))
  took_block q B is = record {
    cut = None;
    chunks = (let same = B.chunk_count in omega (arith, same));
    lines = omega arith;
    blocks = λ c. ⊎_elim
        (λ same. let count = B.count in let one = put_is l k n v short is in let at = ap (free_block_count old) same in let new_at = ap (free_block_count new) same in let puts = ap (λ d. puts_in l d (Some (n, Put k v))) same in omega (arith, count, one, at, new_at, puts))
        (λ ne. let same = B.others c ne in omega (arith, same))
        (cases_eq c class);
    none = λ c is. absurd (cc is);
    puts = λ c is. absurd (cc is);
    class = λ c is. absurd (cc is);
  }

  cut_chunk : (j q : ℕ) → Cuts old new class j q → Stages l (stock_in old lines) (stock_in new lines) (Some (n, Put k v))
  cut_chunk j q C =
      let is : is_class l class ≡ true = subst (λ (m : Geometry). is_class m class ≡ true) (C.layout_is ∙ layout) (T.cut_in j class C.cut).1 in
      let one = put_is l k n v short is in
      let none : free_block_count old class ≡ 0 = count_none (is_free_block old class) (part_unit old) (old.layout.chunks * chunk_units old.layout) (λ x low high. C.none x) in
      record {
        cut = Some class;
        chunks = (let more = C.chunk_count in omega (arith, more));
        lines = omega arith;
        blocks = λ c. ⊎_elim
            (λ same. let cut = ap (λ b. cond {A = ℕ} b (blocks_in l c) 0) (eq-eqb class c (sym same)) in let bi = ap (blocks_in l) same in let old_bi = ap (λ (m : Geometry). blocks_in m class) layout in let count = C.count in let at = ap (free_block_count old) same in let new_at = ap (free_block_count new) same in let puts = ap (λ d. puts_in l d (Some (n, Put k v))) same in omega (arith, cut, bi, old_bi, count, at, new_at, puts, none, one))
            (λ ne. let cut = ap (λ b. cond {A = ℕ} b (blocks_in l c) 0) (ne_eqb class c (λ e. ne (sym e))) in let same = C.others c ne in omega (arith, cut, same))
            (cases_eq c class);
        none = λ c is. (let at : class ≡ c = cc is in let e = ap (free_block_count old) at in omega (arith, e, none));
        puts = λ c is. (let at : class ≡ c = cc is in let e = ap (λ d. puts_in l d (Some (n, Put k v))) at in omega (arith, e, one));
        class = λ c is. (let at : class ≡ c = cc is in ap (is_class l) (sym at) ∙ subst (λ (m : Geometry). is_class m class ≡ true) (C.layout_is ∙ layout) (T.cut_in j class C.cut).1);
      }

  -- the class that a free block has is one of the layout's
  free_class : (q : ℕ) → is_free_block old class q ≡ true → is_class l class ≡ true
  free_class q is = let at = (free_block old class q is).0 in let j = chunk_there q at in subst (λ (m : Geometry). is_class m class ≡ true) layout (S.cut_in j.0 class j.1).1 where
    chunk_there : (q : ℕ) → class_at old q ≡ Some class → (j : ℕ) × (chunk_class old j ≡ Some class)
    chunk_there q at = (_, (lies_at old q class S at).class_is)

  pub block_stages : (may : Bool) (q : ℕ) → Takes old new class may (Some q) → Stages l (stock_in old lines) (stock_in new lines) (Some (n, Put k v))
  block_stages may q T' = ⊎_elim (λ (B : TakesBlock old new class q). took_block q B (free_class q B.was_free)) (λ c. cut_chunk c.1 q c.2) T'

-- after a value was written, as much is free
pub wrote_stock : (s : State) (old new : Sets) (p class : ℕ) (value : List ℕ) (lines : ℕ) → WroteValue s old new p class value → IsAtLeast (stock_in old lines) (stock_in new lines)
wrote_stock s old new p class value lines W = record {
  chunks = (let same = wrote_chunks s old new p class value W in omega (arith, same));
  lines = omega arith;
  blocks = λ c. (let same = blocks_same old new c (record { layout_is = W.layout_is; part_is = W.part_is }) W.classes W.used in omega (arith, same));
}

-- An entry takes no more lines than its request needs alone.
embedded_needs : (l : Geometry) (k : ℕ) (u : List ℕ) → 4096 ≤ l.chunk_bytes → length u < 256 → lines_needed (length u) ≤ lines_of l (Put k u)
embedded_needs l k u large small =
    let is : lines_of l (Put k u) ≡ parts_of (16 + length u) 64 = (λ i. cond (le-ltb (l.chunk_bytes / 4 - 8) (length u) (omega (arith, small, large)) i) 0 (cond (lt-leb 256 (length u) small i) 1 (parts_of (16 + length u) 64))) in
    let needs : lines_needed (length u) ≡ (2 + (length u + 7) / 8 + 7) / 8 = (λ i. cond (lt-leb 256 (length u) small i) 1 ((2 + (length u + 7) / 8 + 7) / 8)) in
    omega (arith, is, needs)

block_needs : (l : Geometry) (k : ℕ) (u : List ℕ) → 256 ≤ length u → length u ≤ l.chunk_bytes / 4 - 8 → 1 ≤ lines_of l (Put k u)
block_needs l k u long short =
    let is : lines_of l (Put k u) ≡ 1 = (λ i. cond (le-ltb (l.chunk_bytes / 4 - 8) (length u) short i) 0 (cond (le-leb 256 (length u) long i) 1 (parts_of (16 + length u) 64))) in
    omega (arith, is)

pub entry_needs : (l : Geometry) (e : Entry) (value : List ℕ) → 4096 ≤ l.chunk_bytes → HasSpelling e → ((q : ℕ) → e.body ≡ bodies.Pointer q → (256 ≤ length value) × (length value ≤ l.chunk_bytes / 4 - 8)) → lines_for (length (words_of e)) ≤ lines_of l (request_by e.key value e.body)
entry_needs l e value large is points = by e.key e.version e.body is points where
  by : (k n : ℕ) (b : Body) → HasSpelling (record { key = k; version = n; body = b }) → ((q : ℕ) → b ≡ bodies.Pointer q → (256 ≤ length value) × (length value ≤ l.chunk_bytes / 4 - 8)) → lines_for (length (words_of (record { key = k; version = n; body = b }))) ≤ lines_of l (request_by k value b)
  by k n (bodies.Pointer q) is points = let p = points q refl in let one = block_needs l k value p.0 p.1 in omega (arith, one)
  by k n bodies.Tombstone is points = omega arith
  by k n (bodies.Embedded u) is points = let short = is.fits.2 in let lines = embedded_lines k n u (omega (arith, short)) in let needs = embedded_needs l k u large (omega (arith, short)) in omega (arith, lines, needs)

-- a batch takes no more lines than its entries do, each by itself
pub batch_few : (ts : List Taken) → lines_for (words_taken ts) ≤ lines_in (entries_taken ts)
batch_few [] = omega arith
batch_few (t ∷ ts) =
    let rest = batch_few ts in
    let words : words_taken (t ∷ ts) ≡ length (words_of t.change.entry) + words_taken ts = length-append (words_of t.change.entry) (spelled ts) in
    let lines : lines_in (entries_taken (t ∷ ts)) ≡ lines_in (t.change.entry ∷ []) + lines_in (entries_taken ts) = sum_by-append _ (t.change.entry ∷ []) (entries_taken ts) in
    let one : lines_in (t.change.entry ∷ []) ≡ lines_for (length (words_of t.change.entry)) = omega arith in
    omega (arith, rest, words, lines, one)

-- What was spent, from what a change that is begun takes.
pub stages_spend : (l : Geometry) (took flying took' flying' : List Entry) (r s t : Stock) (begun : Option (ℕ × Request)) → IsAtLeast r s → Stages l s t begun → t.lines ≤ payload_lines l → took' ≡ took → flying' ≡ flying → Spends l took flying took' flying' r t begun
stages_spend l took flying took' flying' r s t begun A S small took_is flying_is = record {
  opened = false;
  cut = S.cut;
  chunks = (let less = A.chunks in let now = S.chunks in omega (arith, less, now));
  lines = (let less = A.lines in let now = S.lines in let a = ap lines_in took_is in let b = ap lines_in flying_is in omega (arith, less, now, a, b));
  late = λ is. absurd (cc is);
  small = small;
  blocks = λ c. (let less = A.blocks c in let now = S.blocks c in omega (arith, less, now));
  none = λ c is. (let less = A.blocks c in let none = S.none c is in omega (arith, less, none));
  puts = S.puts;
  class = S.class;
}

-- Nothing was begun, and what was taken into a batch is in flight.
pub still_spend : (l : Geometry) (took flying took' flying' : List Entry) (s t : Stock) → IsAtLeast (record s { lines = 0 }) (record t { lines = 0 }) → t.lines ≤ payload_lines l → s.lines + (lines_in took + lines_in flying') ≤ t.lines + (lines_in took' + lines_in flying) → Spends l took flying took' flying' s t None
still_spend l took flying took' flying' s t A small filled = record {
  opened = false;
  cut = None;
  chunks = (let less = A.chunks in omega (arith, less));
  lines = filled;
  late = λ is. absurd (cc is);
  small = small;
  blocks = λ c. (let less = A.blocks c in omega (arith, less));
  none = λ c is. absurd (cc is);
  puts = λ c is. absurd (cc is);
  class = λ c is. absurd (cc is);
}

-- the free lines of an open chunk are no more than a chunk has
pub room_small : (log : LogState) → room_of log ≤ payload_lines log.layout
room_small log = by log.opened where
  by : (o : Option ℕ) → lines_left log o ≤ payload_lines log.layout
  by None = omega arith
  by (Some j) = omega arith

-- a request that isn't refused is not too long
pub why_short : (l : Geometry) (s : Supply) (a : Sets) (last : ℕ) (cell : Option (List ℕ)) (r : Request) → why l s a last cell r ≡ None → is_too_long l r ≡ false
why_short l s a last cell (Get k) e = refl
why_short l s a last cell (Delete k) e = refl
why_short l s a last cell (Put k v) e = by (ltb (l.chunk_bytes / 4 - 8) (length v)) refl e where
  by : (b : Bool) → ltb (l.chunk_bytes / 4 - 8) (length v) ≡ b → cond b (Some (causes.Length (length v))) (cond (leb 1048574 last) (Some (causes.Versions last)) (lacks s a (lines_needed (length v)) (class_for (length v)))) ≡ None → ltb (l.chunk_bytes / 4 - 8) (length v) ≡ false
  by true p is = absurd (cc is)
  by false p is = p

-- what a change that was staged took
pub staged_stages : (l : Geometry) (w b : Worker) (n : ℕ) (r : Request) (lines : ℕ) → IsStaged w b n r → AreSets w.allocator → AreSets b.allocator → w.allocator.layout ≡ l → is_too_long l r ≡ false → Stages l (stock_in w.allocator lines) (stock_in b.allocator lines) (Some (n, r))
staged_stages l w b n r lines S sets now layout short = subst (λ (q : Request). Stages l (stock_in w.allocator lines) (stock_in b.allocator lines) (Some (n, q))) S.asks (by S.entry.body S.block (subst (λ (q : Request). is_too_long l q ≡ false) (sym S.asks) short)) where
  same : b.allocator ≡ w.allocator → (begun : Option (ℕ × Request)) → Stages l (stock_in w.allocator lines) (stock_in b.allocator lines) begun
  same is begun = stages_none l (stock_in w.allocator lines) (stock_in b.allocator lines) begun (record { chunks = (let e = ap free_chunk_count is in omega (arith, e)); lines = omega arith; blocks = λ c. (let e = ap (λ a. free_block_count a c) is in omega (arith, e)) })

  by : (x : Body) → TakesFor w b (length S.value) x → is_too_long l (request_by S.entry.key S.value x) ≡ false → Stages l (stock_in w.allocator lines) (stock_in b.allocator lines) (Some (n, request_by S.entry.key S.value x))
  by (bodies.Pointer q) takes short = block_stages l w.allocator b.allocator S.entry.key n lines S.value (ltb-false (l.chunk_bytes / 4 - 8) (length S.value) short) sets now layout (may_cut (supply_of w) (lines_needed (length S.value))) q takes
  by (bodies.Embedded u) takes short = same takes (Some (n, Put S.entry.key u))
  by bodies.Tombstone takes short = same takes (Some (n, Delete S.entry.key))

-- a worker has no more lines free than a chunk has
pub stock_small : (p : Place) (m : ℕ) (v : View) (w : Worker) → Holds p m v w → (stock_of w).lines ≤ payload_lines p.layout
stock_small p m v w H = let low = lines_low w in let room = room_small w.log in let at = ap payload_lines H.log_layout in omega (arith, low, room, at)

-- A call that answers nothing, and stages and posts nothing.
pub quiet_in : (p : Place) (m : ℕ) (v u : View) (w x : Hands) (accepted : List (ℕ × Request)) → ((k : ℕ) → x.place k ≡ w.place k) → u.posted ≡ v.posted → (x.stopped ≡ false → Spends p.layout v.took v.flying u.took u.flying w.stock x.stock None) → SpendsIn p m v u w x accepted []
quiet_in p m v u w x accepted places posted spends = record {
  runs = λ y i full. absurd i;
  stays = λ k y own at none. (y, places k ∙ at, refl, λ t. t);
  begun = None;
  begins = λ y is. absurd (cc is);
  posts = inl posted;
  spends = λ on. inl (spends on);
}

-- and makes no step, where as much is free
pub still_stock : (p : Place) (m : ℕ) (v : View) (w x : Worker) → Holds p m v x → stock_of x ≡ stock_of w → Spends p.layout v.took v.flying v.took v.flying (stock_of w) (stock_of x) None
still_stock p m v w x H same =
    still_spend p.layout v.took v.flying v.took v.flying (stock_of w) (stock_of x)
    (record { chunks = (let e = ap (λ (s : Stock). s.chunks) same in omega (arith, e)); lines = omega arith; blocks = λ c. (let e = ap (λ (s : Stock). s.blocks c) same in omega (arith, e)) })
    (stock_small p m v x H) (let e = ap (λ (s : Stock). s.lines) same in omega (arith, e))

pub still_in : (p : Place) (m : ℕ) (v : View) (w x : Worker) (accepted : List (ℕ × Request)) → Holds p m v x → ((k : ℕ) → (hands_of v x).place k ≡ (hands_of v w).place k) → stock_of x ≡ stock_of w → SpendsIn p m v v (hands_of v w) (hands_of v x) accepted []
still_in p m v w x accepted H places same = quiet_in p m v v (hands_of v w) (hands_of v x) accepted places refl (λ runs. still_stock p m v w x H same)

-- a change that was staged, of workers that differ in allocator and places alone
pub staged_stock : (l : Geometry) (w b : Worker) (n : ℕ) (r : Request) → IsStaged w b n r → AreSets w.allocator → AreSets b.allocator → w.allocator.layout ≡ l → is_too_long l r ≡ false → Stages l (stock_of w) (stock_of b) (Some (n, r))
staged_stock l w b n r S sets now layout short =
    subst (λ (lines : ℕ). Stages l (stock_of w) (stock_in b.allocator lines) (Some (n, r))) (sym (lines_same w b S.same.log (ap awaits_chunk S.same.leading)))
    (staged_stages l w b n r (lines_free w) S sets now layout short)

-- a value with a block of the layout is not too long
pub class_short : (l : Geometry) (a : Sets) (q n class : ℕ) → AreSets a → a.layout ≡ l → class_at a q ≡ Some class → has_class n class ≡ true → (256 ≤ n) × (n ≤ l.chunk_bytes / 4 - 8)
class_short l a q n class S layout at has =
    let is : is_class l class ≡ true = subst (λ (m : Geometry). is_class m class ≡ true) layout (S.cut_in _ class (lies_at a q class S at).class_is).1 in
    let fits = leb-true (1024 * 2 ^ class) l.chunk_bytes (and_parts (leb 1 class && leb class GREATEST_CLASS) (leb (1024 * 2 ^ class) l.chunk_bytes) is).1 in
    let f = fit_of n class has in
    let long = f.long in
    let room = f.fits in
    (long, omega (arith, fits, room))

-- of workers that differ in the allocator alone, which has as much free
pub wrote_least : (w x : Worker) → x ≡ record w { allocator = x.allocator } → free_chunk_count x.allocator ≡ free_chunk_count w.allocator → ((c : ℕ) → free_block_count x.allocator c ≡ free_block_count w.allocator c) → IsAtLeast (stock_of w) (stock_of x)
wrote_least w x same chunks blocks = record {
  chunks = omega (arith, chunks);
  lines = (let e = lines_same w x (ap (λ (y : Worker). y.log) same) (ap (λ (y : Worker). awaits_chunk y.leading) same) in omega (arith, e));
  blocks = λ c. (let e = blocks c in omega (arith, e));
}

pub wrote_blocks : (s : State) (old new : Sets) (p k : ℕ) (value : List ℕ) → WroteValue s old new p k value → (c : ℕ) → free_block_count new c ≡ free_block_count old c
wrote_blocks s old new p k value W c = blocks_same old new c (record { layout_is = W.layout_is; part_is = W.part_is }) W.classes W.used
