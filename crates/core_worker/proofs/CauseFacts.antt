-- The cause of a refusal, as whoever runs several workers is told it.
use Rattle.std.proofs.Common.{◌≡◌, ◌≢◌, ◌⊎◌, inl, inr, ⊎_elim, ℕ, zero, suc, ◌+◌, ◌-◌, ◌/◌, ◌<◌, ◌≤◌, ◌==◌, ◌&&◌, ◌||◌, not, leb, ltb, Bool, true, false, cond, List, [], ◌∷◌, length, Option, Some, None, refl, sym, ◌∙◌, ap, subst, arith}
use Rattle.std.specs.Prelude.{find, unwrap_or}
use Rattle.std.specs.List.{AllByRecursion}
use Rattle.std.proofs.lemmas.Bool.{ltb-true, ltb-false, leb-true, le-leb, and_parts, and_from, eqb-true, cases_eq, cases_lt}
use Rattle.fs_model.specs.declared.model.Request.{Request}
use Rattle.fs_model.specs.declared.model.Request.TheVariants.{Put, Get, Delete}
use Rattle.fs_model.specs.declared.model.Reply.{Reply}
use Rattle.fs_model.specs.declared.model.Reply.TheVariants as replies
use Rattle.fs_model.specs.Cells.{answer_to, is_change}
use Rattle.fs_model.specs.Lawful.{is_finish}
use Rattle.chunk_map.specs.declared.layout_sizes.TheConstants.{GREATEST_CLASS}
use Rattle.chunk_map.specs.declared.layouts.Geometry.{Geometry}
use Rattle.chunk_map.specs.Layouts.{has_class, numbers}
use Rattle.store_image.specs.Facts.{In}
use Rattle.lazy_alloc.specs.Sets.{Sets, free_chunk_count, free_block_count, class_at, PutsBack}
use Rattle.core_log.specs.Log.{room_of}
use Rattle.core_room.specs.Lengths.{lines_needed, class_for}
use Rattle.core_room.specs.RoomRule.{pledged, lacks_room, lacks_block, leaves_chunk, counts_at}
use Rattle.core_room.specs.declared.supply.Supply.{Supply}
use Rattle.core_room.specs.declared.types.Shortage.{Shortage}
use Rattle.core_room.specs.declared.types.Shortage.TheVariants as causes
use Rattle.engine_laws.specs.FreeStock.{Stock, IsAtLeast, LacksRoom}
use Rattle.engine_laws.specs.RefusalCauses.{raised, HasCause, HaveCauses}
use Rattle.core_worker.specs.declared.worker.Worker.{Worker}
use Rattle.core_worker.specs.Supplies.{supply_of, lacks, why, free_blocks}
use Rattle.core_worker.specs.Answering.{CountsFor, ShowsNoRoom, ShowsNoBlock, ShowsCause}
use Rattle.core_worker.specs.Refusals.{reply_to}
use Rattle.core_worker.specs.Finishing.{PutsBackIf}
use Rattle.core_worker.specs.WorkerMoves.{awaits_chunk, lines_free, stock_of}

-- no cause is asked of other replies
pub causeless : (l : Geometry) (last : ℕ) (q : Request) (r : Reply) → r ≢ replies.VersionsSpent → r ≢ replies.TooLong → HasCause l last q r
causeless l last q r spent long = record { spent = λ is. absurd (spent is); long = λ is. absurd (long is) }

pub stopped_causeless : (l : Geometry) (last : ℕ) (q : Request) (r : Reply) → r ≡ replies.Stopped → HasCause l last q r
stopped_causeless l last q r is = causeless l last q r (λ e. (let both = sym is ∙ e in cc both)) (λ e. (let both = sym is ∙ e in cc both))

pub all_stopped : (l : Geometry) (last : ℕ) (xs : List (Request × Reply)) → AllByRecursion (λ (x : Request × Reply). x.1 ≡ replies.Stopped) xs → HaveCauses l last xs
all_stopped l last [] h = tt
all_stopped l last (x ∷ xs) h = (stopped_causeless l last x.0 x.1 h.0, all_stopped l (raised last x.1) xs h.1)

-- an answer by the cell is no refusal
answer_is : (r : Request) (cell : Option (List ℕ)) → is_change r cell ≡ false → (answer_to r cell ≢ replies.VersionsSpent) × (answer_to r cell ≢ replies.TooLong) × (answer_to r cell ≢ replies.Full)
answer_is (Put k v) cell e = absurd (cc e)
answer_is (Get k) None e = (λ is. cc is, λ is. cc is, λ is. cc is)
answer_is (Get k) (Some v) e = (λ is. cc is, λ is. cc is, λ is. cc is)
answer_is (Delete k) None e = (λ is. cc is, λ is. cc is, λ is. cc is)
answer_is (Delete k) (Some v) e = absurd (cc e)

pub answer_causeless : (l : Geometry) (last : ℕ) (r : Request) (cell : Option (List ℕ)) → is_change r cell ≡ false → HasCause l last r (answer_to r cell)
answer_causeless l last r cell e = let n = answer_is r cell e in causeless l last r (answer_to r cell) n.0 n.1

pub answer_not_full : (r : Request) (cell : Option (List ℕ)) → is_change r cell ≡ false → answer_to r cell ≢ replies.Full
answer_not_full r cell e = (answer_is r cell e).2

pub finish_causeless : (l : Geometry) (last : ℕ) (q : Request) (r : Reply) → (is_finish r ≡ true) ⊎ (r ≡ replies.Stopped) → HasCause l last q r × (r ≢ replies.Full)
finish_causeless l last q r (inr is) = (stopped_causeless l last q r is, λ e. (let both = sym is ∙ e in cc both))
finish_causeless l last q r (inl f) = (causeless l last q r (λ is. not_one (ap is_finish (sym is) ∙ f)) (λ is. not_one (ap is_finish (sym is) ∙ f)), λ is. not_one (ap is_finish (sym is) ∙ f)) where
  not_one : false ≡ true → ⊥
  not_one e = cc e

-- what a supply and an allocator have free
abbrev pub stock_by : Supply → Sets → Stock
stock_by s a = record { chunks = s.free_chunks; lines = s.open_lines; blocks = free_block_count a }

-- the class of a value that needs a block
find_has : (p : ℕ → Bool) (xs : List ℕ) (x : ℕ) → find p xs ≡ Some x → (p x ≡ true) × In x xs
find_has p [] x e = absurd (cc e)
find_has p (y ∷ ys) x e = by (p y) refl e (λ t. find_has p ys x t) where
  by : (b : Bool) → p y ≡ b → cond b (Some y) (find p ys) ≡ Some x → (find p ys ≡ Some x → (p x ≡ true) × In x ys) → (p x ≡ true) × In x (y ∷ ys)
  by true t e again = let same : y ≡ x = cc e in (ap p (sym same) ∙ t, inl (sym same))
  by false t e again = let r = again e in (r.0, inr r.1)

within : (from n x : ℕ) → In x (numbers from n) → (from ≤ x) × (x < from + n)
within from zero x i = absurd i
within from (suc n) x (inl e) = (omega (arith, e), omega (arith, e))
within from (suc n) x (inr i) = let r = within (suc from) n x i in let low = r.0 in let high = r.1 in (omega (arith, low), omega (arith, high))

pub class_is : (n : ℕ) → class_for n ≢ 0 → (has_class n (class_for n) ≡ true) × (1 ≤ class_for n) × (class_for n ≤ GREATEST_CLASS)
class_is n some = by (find (has_class n) (numbers 1 GREATEST_CLASS)) refl where
  by : (o : Option ℕ) → find (has_class n) (numbers 1 GREATEST_CLASS) ≡ o → (has_class n (class_for n) ≡ true) × (1 ≤ class_for n) × (class_for n ≤ GREATEST_CLASS)
  by None e = absurd (some (ap (λ (o : Option ℕ). unwrap_or o 0) e))
  by (Some c) e =
      let at : class_for n ≡ c = ap (λ (o : Option ℕ). unwrap_or o 0) e in
      let f = find_has (has_class n) (numbers 1 GREATEST_CLASS) c e in
      let w = within 1 GREATEST_CLASS c f.1 in
      let low = w.0 in
      let high = w.1 in
      (ap (has_class n) at ∙ f.0, omega (arith, at, low), omega (arith, at, high))

not_is : (b : Bool) → not b ≡ true → b ≡ false
not_is true e = absurd (cc e)
not_is false e = refl

or_none : (a b : Bool) → a || b ≡ false → a ≡ false
or_none true b e = absurd (cc e)
or_none false b e = refl

leb_false : (a b : ℕ) → leb a b ≡ false → b < a
leb_false a b e = ⊎_elim (λ lt. lt) (λ le. absurd (let both : true ≡ false = sym (le-leb a b le) ∙ e in cc both)) (cases_lt b a)

-- who lacks room has at most one free chunk, and who lacks a block at most two, and no block of the class
room_few : (s : Supply) (need : ℕ) → lacks_room s need ≡ true → s.free_chunks ≤ 1
room_few s need e = let few = ltb-true s.free_chunks 2 (and_parts (ltb s.open_lines (pledged s + need)) (ltb s.free_chunks 2) e).1 in omega (arith, few)

record BlockFew (s : Supply) (class free : ℕ) : Type 0 where
  chunks : s.free_chunks ≤ 2
  some : class ≢ 0
  none : free ≡ 0

block_few : (s : Supply) (need class free : ℕ) → lacks_block s need class free ≡ true → BlockFew s class free
block_few s need class free e =
    let outer = and_parts (not (class == 0) && free == 0) (not (leb 3 s.free_chunks || (s.free_chunks == 2 && leb (pledged s + need) s.open_lines))) e in
    let inner = and_parts (not (class == 0)) (free == 0) outer.0 in
    let cut = not_is (leb 3 s.free_chunks || (s.free_chunks == 2 && leb (pledged s + need) s.open_lines)) outer.1 in
    let few = leb_false 3 s.free_chunks (or_none (leb 3 s.free_chunks) (s.free_chunks == 2 && leb (pledged s + need) s.open_lines) cut) in
    record {
      chunks = omega (arith, few);
      some = λ zero. (let both : true ≡ false = sym (ap (λ (n : ℕ). n == 0) zero) ∙ not_is (class == 0) inner.0 in cc both);
      none = eqb-true free 0 inner.1;
    }

-- where an entry finds no place
abbrev HasFew : Supply → Sets → ℕ → Type 0
HasFew s a class = (s.free_chunks ≤ 1) ⊎ ((s.free_chunks ≤ 2) × (class ≢ 0) × (free_block_count a class ≡ 0))

record Lacks (s : Supply) (a : Sets) (class : ℕ) (c : Shortage) : Type 0 where
  full : reply_to c ≡ replies.Full
  few : HasFew s a class

lacks_as : (s : Supply) (a : Sets) (need class : ℕ) (c : Shortage) → lacks s a need class ≡ Some c → Lacks s a class c
lacks_as s a need class c e = by (lacks_room s need) (lacks_block s need class (free_blocks a class)) refl refl e where
  counted : class ≢ 0 → free_blocks a class ≡ free_block_count a class
  counted some = on (class == 0) refl where
    on : (b : Bool) → (class == 0) ≡ b → free_blocks a class ≡ free_block_count a class
    on true t = absurd (some (eqb-true class 0 t))
    on false t = ap (λ b. cond b 0 (free_block_count a class)) t

  by : (b d : Bool) → lacks_room s need ≡ b → lacks_block s need class (free_blocks a class) ≡ d
      → cond b (Some (causes.Room (counts_at s need class (free_blocks a class)))) (cond d (Some (causes.Block (counts_at s need class (free_blocks a class)))) None) ≡ Some c → Lacks s a class c
  by true d p q is = record { full = (let same : causes.Room (counts_at s need class (free_blocks a class)) ≡ c = cc is in ap reply_to (sym same)); few = inl (room_few s need p) }
  by false true p q is =
      let f = block_few s need class (free_blocks a class) q in
      record {
        full = (let same : causes.Block (counts_at s need class (free_blocks a class)) ≡ c = cc is in ap reply_to (sym same));
        few = inr (f.chunks, f.some, sym (counted f.some) ∙ f.none);
      }
  by false false p q is = absurd (cc is)

full_causeless : (l : Geometry) (last : ℕ) (q : Request) (c : Shortage) → reply_to c ≡ replies.Full → HasCause l last q (reply_to c)
full_causeless l last q c is = causeless l last q (reply_to c) (λ e. (let both = sym is ∙ e in cc both)) (λ e. (let both = sym is ∙ e in cc both))

-- the cause of a refusal is as the reply that it stands for says
pub why_cause : (l : Geometry) (s : Supply) (a : Sets) (last : ℕ) (cell : Option (List ℕ)) (r : Request) (c : Shortage) → why l s a last cell r ≡ Some c → HasCause l last r (reply_to c)
why_cause l s a last cell (Get k) c e = absurd (cc e)
why_cause l s a last None (Delete k) c e = absurd (cc e)
why_cause l s a last (Some v) (Delete k) c e = full_causeless l last (Delete k) c (lacks_as s a 1 0 c e).full
why_cause l s a last cell (Put k v) c e = by (ltb (l.chunk_bytes / 4 - 8) (length v)) (leb 1048574 last) refl refl e where
  by : (b d : Bool) → ltb (l.chunk_bytes / 4 - 8) (length v) ≡ b → leb 1048574 last ≡ d
      → cond b (Some (causes.Length (length v))) (cond d (Some (causes.Versions last)) (lacks s a (lines_needed (length v)) (class_for (length v)))) ≡ Some c → HasCause l last (Put k v) (reply_to c)
  by true d p q is = let same : causes.Length (length v) ≡ c = cc is in record { spent = λ r. absurd (let both = ap reply_to same ∙ r in cc both); long = λ r. p }
  by false true p q is = let same : causes.Versions last ≡ c = cc is in record { spent = λ r. leb-true 1048574 last q; long = λ r. absurd (let both = ap reply_to same ∙ r in cc both) }
  by false false p q is = full_causeless l last (Put k v) c (lacks_as s a (lines_needed (length v)) (class_for (length v)) c is).full

pub why_full : (l : Geometry) (s : Supply) (a : Sets) (last : ℕ) (cell : Option (List ℕ)) (r : Request) (c : Shortage) → why l s a last cell r ≡ Some c → reply_to c ≡ replies.Full → LacksRoom l (stock_by s a) r
why_full l s a last cell (Get k) c e full = absurd (cc e)
why_full l s a last None (Delete k) c e full = absurd (cc e)
why_full l s a last (Some v) (Delete k) c e full = by (lacks_as s a 1 0 c e).few where
  by : HasFew s a 0 → LacksRoom l (stock_by s a) (Delete k)
  by (inl few) = inl few
  by (inr none) = absurd (none.1 refl)
why_full l s a last cell (Put k v) c e full = by (ltb (l.chunk_bytes / 4 - 8) (length v)) (leb 1048574 last) refl refl e where
  room : ltb (l.chunk_bytes / 4 - 8) (length v) ≡ false → HasFew s a (class_for (length v)) → LacksRoom l (stock_by s a) (Put k v)
  room short (inl few) = inl few
  room short (inr none) =
      let is = class_is (length v) none.1 in
      inr (
        none.0,
        record {
          class = class_for (length v);
          needs = record { put = and_from (has_class (length v) (class_for (length v))) (leb (length v) (l.chunk_bytes / 4 - 8)) is.0 (le-leb (length v) (l.chunk_bytes / 4 - 8) (ltb-false (l.chunk_bytes / 4 - 8) (length v) short)); some = is.1; most = is.2 };
          none = none.2;
        },
      )

  by : (b d : Bool) → ltb (l.chunk_bytes / 4 - 8) (length v) ≡ b → leb 1048574 last ≡ d
      → cond b (Some (causes.Length (length v))) (cond d (Some (causes.Versions last)) (lacks s a (lines_needed (length v)) (class_for (length v)))) ≡ Some c → LacksRoom l (stock_by s a) (Put k v)
  by true d p q is = let same : causes.Length (length v) ≡ c = cc is in absurd (let both = ap reply_to same ∙ full in cc both)
  by false true p q is = let same : causes.Versions last ≡ c = cc is in absurd (let both = ap reply_to same ∙ full in cc both)
  by false false p q is = room p (lacks_as s a (lines_needed (length v)) (class_for (length v)) c is).few

-- and its numbers show it
none_of : (b : Bool) (n : ℕ) → n ≡ 0 → cond b 0 n ≡ 0
none_of true n e = refl
none_of false n e = e

room_shows : (s : Supply) (need class free : ℕ) (q : Request) → CountsFor q (counts_at s need class free) → lacks_room s need ≡ true → ShowsNoRoom q (counts_at s need class free)
room_shows s need class free q asks t = record {
  asks = asks;
  lines = ltb-true s.open_lines (pledged s + need) (and_parts (ltb s.open_lines (pledged s + need)) (ltb s.free_chunks 2) t).0;
  chunks = ltb-true s.free_chunks 2 (and_parts (ltb s.open_lines (pledged s + need)) (ltb s.free_chunks 2) t).1;
}

block_shows : (s : Supply) (need class free : ℕ) (q : Request) → CountsFor q (counts_at s need class free) → lacks_block s need class free ≡ true → ShowsNoBlock q (counts_at s need class free)
block_shows s need class free q asks t =
    let f = block_few s need class free t in
    let outer = and_parts (not (class == 0) && free == 0) (not (leaves_chunk s.open_lines s.free_chunks (pledged s + need))) t in
    record {
      asks = asks;
      some = f.some;
      none = none_of (class == 0) free f.none;
      uncut = not_is (leaves_chunk s.open_lines s.free_chunks (pledged s + need)) outer.1;
    }

lacks_shows : (s : Supply) (a : Sets) (need class : ℕ) (q : Request) (c : Shortage) → CountsFor q (counts_at s need class (free_blocks a class)) → lacks s a need class ≡ Some c → ShowsCause q (Some c)
lacks_shows s a need class q c asks e = by (lacks_room s need) (lacks_block s need class (free_blocks a class)) refl refl e where
  by : (b d : Bool) → lacks_room s need ≡ b → lacks_block s need class (free_blocks a class) ≡ d
      → cond b (Some (causes.Room (counts_at s need class (free_blocks a class)))) (cond d (Some (causes.Block (counts_at s need class (free_blocks a class)))) None) ≡ Some c → ShowsCause q (Some c)
  by true d p t is = subst (λ (x : Shortage). ShowsCause q (Some x)) (let same : causes.Room (counts_at s need class (free_blocks a class)) ≡ c = cc is in same) (room_shows s need class (free_blocks a class) q asks p)
  by false true p t is = subst (λ (x : Shortage). ShowsCause q (Some x)) (let same : causes.Block (counts_at s need class (free_blocks a class)) ≡ c = cc is in same) (block_shows s need class (free_blocks a class) q asks t)
  by false false p t is = absurd (cc is)

pub why_shows : (l : Geometry) (s : Supply) (a : Sets) (last : ℕ) (cell : Option (List ℕ)) (r : Request) (c : Shortage) → why l s a last cell r ≡ Some c → ShowsCause r (Some c)
why_shows l s a last cell (Get k) c e = absurd (cc e)
why_shows l s a last None (Delete k) c e = absurd (cc e)
why_shows l s a last (Some v) (Delete k) c e = lacks_shows s a 1 0 (Delete k) c (record { change = refl; lines = refl; class = refl }) e
why_shows l s a last cell (Put k v) c e = by (ltb (l.chunk_bytes / 4 - 8) (length v)) (leb 1048574 last) refl refl e where
  by : (b d : Bool) → ltb (l.chunk_bytes / 4 - 8) (length v) ≡ b → leb 1048574 last ≡ d
      → cond b (Some (causes.Length (length v))) (cond d (Some (causes.Versions last)) (lacks s a (lines_needed (length v)) (class_for (length v)))) ≡ Some c → ShowsCause (Put k v) (Some c)
  by true d p q is = subst (λ (x : Shortage). ShowsCause (Put k v) (Some x)) (let same : causes.Length (length v) ≡ c = cc is in same) refl
  by false true p q is = subst (λ (x : Shortage). ShowsCause (Put k v) (Some x)) (let same : causes.Versions last ≡ c = cc is in same) (refl, leb-true 1048574 last q)
  by false false p q is = lacks_shows s a (lines_needed (length v)) (class_for (length v)) (Put k v) c (record { change = refl; lines = refl; class = refl }) is

-- how many lines of the open chunk count
pub lines_low : (w : Worker) → lines_free w ≤ room_of w.log
lines_low w = by (awaits_chunk w.leading) (ltb 4 (room_of w.log)) refl where
  by : (a b : Bool) → ltb 4 (room_of w.log) ≡ b → cond {A = ℕ} (a && b) 4 (room_of w.log) ≤ room_of w.log
  by true true e = let more = ltb-true 4 (room_of w.log) e in omega (arith, more)
  by true false e = omega arith
  by false b e = omega arith

pub lines_open : (w : Worker) → awaits_chunk w.leading ≡ false → lines_free w ≡ room_of w.log
lines_open w e = ap (λ b. cond {A = ℕ} (b && ltb 4 (room_of w.log)) 4 (room_of w.log)) e

pub lines_few : (w : Worker) → awaits_chunk w.leading ≡ true → lines_free w ≤ 4
lines_few w e = let is = ap (λ b. cond {A = ℕ} (b && ltb 4 (room_of w.log)) 4 (room_of w.log)) e in let few = by (ltb 4 (room_of w.log)) refl in omega (arith, is, few) where
  by : (b : Bool) → ltb 4 (room_of w.log) ≡ b → cond {A = ℕ} b 4 (room_of w.log) ≤ 4
  by true e = omega arith
  by false e = ltb-false 4 (room_of w.log) e

pub lines_same : (w x : Worker) → x.log ≡ w.log → awaits_chunk x.leading ≡ awaits_chunk w.leading → lines_free x ≡ lines_free w
lines_same w x log awaits = (λ i. cond {A = ℕ} (awaits i && ltb 4 (room_of (log i))) 4 (room_of (log i)))

-- a worker has as much free where its log, allocator and what it leads are the same
pub stock_same : (w x : Worker) → x.log ≡ w.log → x.allocator ≡ w.allocator → x.leading ≡ w.leading → stock_of x ≡ stock_of w
stock_same w x log allocator leading = (λ i. record { chunks = free_chunk_count (allocator i); lines = lines_same w x log (ap awaits_chunk leading) i; blocks = free_block_count (allocator i) })

-- and no less where a block is put back
put_blocks : (a b : Sets) (q : ℕ) → PutsBack a b q → (c : ℕ) → free_block_count a c ≤ free_block_count b c
put_blocks a b q P c = by (class_at a q) refl where
  by : (o : Option ℕ) → class_at a q ≡ o → free_block_count a c ≤ free_block_count b c
  by None e = let same = P.others c (λ is. (let both : None ≡ Some c = sym e ∙ is in cc both)) in omega (arith, same)
  by (Some d) e = ⊎_elim
      (λ at. let more = P.count c (e ∙ ap Some at) in omega (arith, more))
      (λ ne. let same = P.others c (λ is. ne (let both : Some d ≡ Some c = sym e ∙ is in cc both)) in omega (arith, same)) (cases_eq d c)

pub stock_put : (w x : Worker) (o : Option ℕ) → lines_free w ≤ lines_free x → PutsBackIf w.allocator x.allocator o → IsAtLeast (stock_of w) (stock_of x)
stock_put w x None lines same = record { chunks = (let e = ap free_chunk_count same in omega (arith, e)); lines = lines; blocks = λ c. (let e = ap (λ a. free_block_count a c) same in omega (arith, e)) }
stock_put w x (Some q) lines P = record { chunks = (let e = P.chunk_count in omega (arith, e)); lines = lines; blocks = λ c. put_blocks w.allocator x.allocator q P c }

-- for want of room only chunks and blocks count
pub lacks_as_stock : (l : Geometry) (w : Worker) (q : Request) → LacksRoom l (stock_by (supply_of w) w.allocator) q → LacksRoom l (stock_of w) q
lacks_as_stock l w q (inl few) = inl few
lacks_as_stock l w q (inr none) = inr (none.0, record { class = none.1.class; needs = none.1.needs; none = none.1.none })
