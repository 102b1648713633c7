-- The blocks that an allocator begins with are those of the view with which a group is opened.
use Rattle.std.proofs.Common.{◌≡◌, ℕ, ◌+◌, ◌*◌, ◌/◌, ◌%◌, ◌<◌, ◌==◌, ◌&&◌, leb, Bool, true, false, cond, List, length, length-take, Option, Some, None, Result, Ok, Err, refl, sym, ◌∙◌, ap, subst, arith}
use Rattle.std.specs.Option.{option_and_then}
use Rattle.std.proofs.lemmas.Bool.{eqb-true, and_parts}
use Rattle.std.proofs.lemmas.Nat.{div-mul-add}
use Rattle.log_entry.specs.declared.entry.Body.TheVariants.{Pointer}
use Rattle.log_entry.specs.Words.{words_for, unpacked, words_from}
use Rattle.log_entry.proofs.Clients.{length-unpacked, length-words}
use Rattle.chunk_map.specs.declared.layouts.Geometry.{Geometry}
use Rattle.chunk_map.specs.declared.heads.Head.{Head}
use Rattle.chunk_map.specs.declared.heads.Head.TheVariants.{Free, Log, Data}
use Rattle.chunk_map.specs.Layouts.{chunk_first, chunk_words, head_at, has_class}
use Rattle.chunk_map.specs.Layouts as layouts
use Rattle.store_image.specs.declared.types.PlacedEntry.{PlacedEntry}
use Rattle.store_image.specs.Facts.{KeepsRules}
use Rattle.store_image.specs.Parts.{chunk_at, unit_at, class_behind, block_class, block_bytes, value_in_block, value_by_class}
use Rattle.store_image.specs.Winners.{winner}
use Rattle.store_image.proofs.Clients.{layout_numbers}
use Rattle.lazy_alloc.specs.Heads.{class_in}
use Rattle.lazy_alloc.specs.Sets.{Sets, start_in, chunk_class, class_at, block_is_used}
use Rattle.recover.specs.Starts.{IsAllocatorOf}
use Rattle.group_laws.specs.declared.types.Block.{Block}
use Rattle.group_laws.specs.Places.{Place, IsPlace, members, core_of, owner}
use Rattle.group_laws.specs.MemberViews.{View}
use Rattle.group_laws.proofs.Clients.{held_there, core_once, own_core, owner_of, some_group, wins as entries_wins, won, is_found}
use Rattle.core_worker.specs.KeyTies.{IsBlockFor}
use Rattle.core_worker.specs.Openings.{opened_view}

core_group : (p : Place) (h : ℕ) → h < members p → core_of p h / p.layout.group ≡ p.group
unfolding core_of
core_group p h low = div-mul-add p.group p.layout.group h low

-- a key of the core is one of the member
pub own_of : (p : Place) (m k : ℕ) → 0 < p.layout.group → m < members p → layouts.owner p.layout k ≡ core_of p m → owner p k ≡ m
own_of p m k some member is =
    let low = owner_of p k some (ap (λ (c : ℕ). c / p.layout.group) is ∙ core_group p m member) in
    core_once p (owner p k) m ((own_core p k some low).0 ∙ is)

length_block : (image : ℕ → ℕ) (q : ℕ) → length (block_bytes image q) ≡ image (32 * q)
length_block image q =
    let n = image (32 * q) in
    let long = length-unpacked (words_from image (32 * q + 1) (words_for n)) in
    let words = length-words image (32 * q + 1) (words_for n) in
    length-take n (unpacked (words_from image (32 * q + 1) (words_for n))) ∙ omega (arith, long, words)

-- a block that holds something has a class, which the length is of
record Held (image : ℕ → ℕ) (q : ℕ) (o : Option ℕ) (v : List ℕ) : Type 0 where
  pub class : ℕ
  pub class_is : o ≡ Some class
  pub fits : has_class (length v) class ≡ true

held_class : (image : ℕ → ℕ) (q : ℕ) (o : Option ℕ) (v : List ℕ) → value_by_class image q o ≡ Some v → Held image q o v
held_class image q None v e = absurd (cc e)
held_class image q (Some class) v e = by (has_class (image (32 * q)) class) refl e where
  by : (b : Bool) → has_class (image (32 * q)) class ≡ b → cond b (Some (block_bytes image q)) None ≡ Some v → Held image q (Some class) v
  by true fits is =
      let bytes : block_bytes image q ≡ v = cc is in
      record { class = class; class_is = refl; fits = ap (λ (n : ℕ). has_class n class) (ap length (sym bytes) ∙ length_block image q) ∙ fits }
  by false fits is = absurd (cc is)

behind_is : (l : Geometry) (u : ℕ) (h : Result Head ℕ) → class_behind l u h ≡ option_and_then (start_in l u) (class_in h)
behind_is l u (Ok Free) = refl
behind_is l u (Ok (Log tail)) = refl
behind_is l u (Ok (Data class)) = refl
behind_is l u (Err rule) = refl

module _ (p : Place) (image : ℕ → ℕ) (place : IsPlace p) (rules : KeepsRules p.layout image) (m : ℕ) (member : m < members p) (a : Sets) (layout_is : a.layout ≡ p.layout) (part_is : a.part ≡ core_of p m) (is : IsAllocatorOf p.layout image (core_of p m) a) where
  abbrev l : Geometry
  l = p.layout

  abbrev c : ℕ
  c = core_of p m

  abbrev v : View
  v = opened_view p m image

  class_here : (q : ℕ) → (leb 16 q && chunk_at l q / l.chunks == c) ≡ true → class_behind l (unit_at l q) (head_at l image (512 + chunk_at l q * chunk_words l)) ≡ option_and_then (start_in l (unit_at l q)) (chunk_class a (chunk_at l q % l.chunks))
  class_here q test =
      let part : chunk_at l q / l.chunks ≡ c = eqb-true (chunk_at l q / l.chunks) c (and_parts (leb 16 q) (chunk_at l q / l.chunks == c) test).1 in
      let many = (layout_numbers l place.layout).chunks in
      let low : chunk_at l q % l.chunks < l.chunks = omega (arith, many) in
      let split : l.chunks * (chunk_at l q / l.chunks) + chunk_at l q % l.chunks ≡ chunk_at l q = omega (arith, many) in
      let number : chunk_at l q ≡ c * l.chunks + chunk_at l q % l.chunks = sym split ∙ ap (λ n. l.chunks * n + chunk_at l q % l.chunks) part ∙ omega arith in
      ap (λ n. class_behind l (unit_at l q) (head_at l image (512 + n * chunk_words l))) number
      ∙ behind_is l (unit_at l q) (head_at l image (chunk_first l c (chunk_at l q % l.chunks)))
      ∙ ap (option_and_then (start_in l (unit_at l q))) (sym (is.class (chunk_at l q % l.chunks) low))

  same_class : (q : ℕ) → block_class l image c q ≡ class_at a q
  same_class q = (elim (leb 16 q && chunk_at l q / l.chunks == c) as (λ b. (leb 16 q && chunk_at l q / l.chunks == c) ≡ b
      → cond b (class_behind l (unit_at l q) (head_at l image (512 + chunk_at l q * chunk_words l))) None ≡ cond b (option_and_then (start_in l (unit_at l q)) (chunk_class a (chunk_at l q % l.chunks))) None) [
        | true ↦ λ test. class_here q test
        | false ↦ λ test. refl
      ] refl)
      ∙ sym (λ i. cond (leb 16 q && chunk_at (layout_is i) q / (layout_is i).chunks == part_is i) (option_and_then (start_in (layout_is i) (unit_at (layout_is i) q)) (chunk_class a (chunk_at (layout_is i) q % (layout_is i).chunks))) None)

  -- whose block it is
  pub record Owned (q : ℕ) (b : Block) : Type 0 where
    pub winner_is : PlacedEntry
    pub wins : winner l image b.key ≡ Some winner_is
    pub points : winner_is.entry.body ≡ Pointer q
    pub own : owner p b.key ≡ m
    pub holds : value_in_block l image c q ≡ Some b.bytes

  pub owned : (q : ℕ) (b : Block) → v.blocks q ≡ Some b → Owned q b
  owned q b t =
      let e = ((is_found p image place rules).blocks m q b).0 t in
      let y = won p image place rules b.key e.0 e.1 in
      record { winner_is = y.0; wins = y.1; points = ap (λ z. z.body) y.2 ∙ e.2; own = e.3; holds = sym (held_there p (λ h. image) m q) ∙ e.4 }

  pub held_block : (q : ℕ) (b : Block) → v.blocks q ≡ Some b → IsBlockFor a q (length b.bytes)
  held_block q b t =
      let o = owned q b t in
      let some = some_group p image place rules in
      let whose : layouts.owner l b.key ≡ c = sym (own_core p b.key some (subst (λ (n : ℕ). n < members p) (sym o.own) member)).0 ∙ ap (core_of p) o.own in
      let h = held_class image q (block_class l image c q) b.bytes o.holds in
      record {
        used = is.all q (record { key = b.key; winner_is = o.winner_is; wins = o.wins; owned = whose; points = o.points });
        class = h.class;
        class_is = sym (same_class q) ∙ h.class_is;
        fits = h.fits;
      }

  pub only_blocks : (q : ℕ) → block_is_used a q ≡ true → (b : Block) × (v.blocks q ≡ Some b)
  only_blocks q used =
      let w = is.won q used in
      let some = some_group p image place rules in
      let own = own_of p m w.key some member w.owned in
      let holds = held_there p (λ h. image) m q ∙ ap (λ (d : ℕ). value_in_block l image d q) (sym w.owned) ∙ rules.holds w.key q w.winner_is w.wins w.points in (
        record { key = w.key; bytes = block_bytes image q },
        ((is_found p image place rules).blocks m q (record { key = w.key; bytes = block_bytes image q })).1
            (w.winner_is.entry, entries_wins p image place rules w.key w.winner_is (subst (λ (n : ℕ). n < members p) (sym own) member) w.wins, w.points, own, holds),
      )
