-- A core has room for what an ample input asks of it.
use Rattle.std.proofs.Common.{◌≡◌, inl, inr, ⊎_elim, ℕ, ◌+◌, ◌-◌, ◌*◌, ◌/◌, ◌≤◌, ◌&&◌, nat_le, List, ◌++◌, length, refl, ◌∙◌, ap, arith, true, false, Bool, cond}
use Rattle.std.specs.List.{count_by, sum_by, enumerate_from}
use Rattle.std.proofs.lemmas.Bool.{cases_eq, eq-eqb}
use Rattle.std.proofs.lemmas.List.Sums.{sum_by-append}
use Rattle.fs_model.specs.declared.model.Request.{Request}
use Rattle.fs_model.specs.declared.model.Request.TheVariants.{Put, Get, Delete}
use Rattle.fs_model.specs.Cells.{key_of}
use Rattle.chunk_map.specs.declared.layout_sizes.TheConstants.{GREATEST_CLASS}
use Rattle.chunk_map.specs.declared.layouts.Geometry.{Geometry}
use Rattle.chunk_map.specs.Chunks.{blocks_in}
use Rattle.chunk_map.specs.Layouts.{layout_of, owner, numbers, has_class, IsLayout}
use Rattle.store_image.specs.Facts.{In}
use Rattle.headline.specs.Ample.{is_put_of, log_bytes, parts_of, data_chunks, IsAmpleFor}
use Rattle.engine_laws.specs.Parts.{group_of, member_of}
use Rattle.engine_laws.specs.FreeStock.{is_put_in, NeedsBlock, LacksRoom}
use Rattle.engine_laws.specs.Engine.{Engine}
use Rattle.engine_laws.specs.Stands.{Origin}
use Rattle.engine_laws.specs.Spending.{lines_in}
use Rattle.engine_laws.specs.Rooms.{is_begun, begun_puts, HasRoom}
use Rattle.engine_laws.proofs.RoomSums.{sum_up, sum_more_at, sum_numbered, numbers_one}
use Rattle.engine_laws.proofs.Ampleness.{parts_least, block_some, few_opened, chunk_big, needed_some}

-- A core has room for a request that it didn't begin, where the input is ample for its part, and its log took no more than the input needs.
module _ (o : Origin) (e : Engine) (layout_is : IsLayout (layout_of o.found)) (c : ℕ) (H : HasRoom (layout_of o.found) o e c) (q : Request) (n : ℕ) (own : owner (layout_of o.found) (key_of q) ≡ c)
    (given : In (n, q) (enumerate_from 0 e.given)) (unbegun : is_begun e (n, q) ≡ false) (lacks : LacksRoom (layout_of o.found) (e.stock c) q) (more : List Request) where
  abbrev L : Geometry
  L = layout_of o.found

  abbrev trace : List Request
  trace = e.given ++ more

  abbrev puts : ℕ → ℕ
  puts class = count_by (is_put_of L c class) trace

  large : 4096 ≤ L.chunk_bytes
  large = chunk_big L layout_is

  -- what was begun is of the trace, and this request besides
  given_puts : (class : ℕ) → count_by (is_put_of L c class) e.given ≤ puts class
  given_puts class = let split = sum_by-append (λ x. cond {A = ℕ} (is_put_of L c class x) 1 0) e.given more in omega (arith, split)

  drop : (a b : Bool) → cond {A = ℕ} (a && b) 1 0 ≤ cond {A = ℕ} a 1 0
  drop true true = omega arith
  drop true false = omega arith
  drop false b = omega arith

  begun_few : (class : ℕ) → begun_puts L e c class ≤ puts class
  begun_few class =
      let le = sum_up (λ (x : ℕ × Request). cond {A = ℕ} (is_put_of L c class x.1 && is_begun e x) 1 0) (λ (x : ℕ × Request). cond {A = ℕ} (is_put_of L c class x.1) 1 0) (enumerate_from 0 e.given) (λ x i. drop (is_put_of L c class x.1) (is_begun e x)) in
      let all = sum_numbered (λ x. cond {A = ℕ} (is_put_of L c class x) 1 0) 0 e.given in
      let up = given_puts class in
      omega (arith, le, all, up)

  begun_fewer : (class : ℕ) → is_put_of L c class q ≡ true → begun_puts L e c class + 1 ≤ puts class
  begun_fewer class is =
      let old : cond {A = ℕ} (is_put_of L c class q && is_begun e (n, q)) 1 0 ≡ 0 = (λ i. cond {A = ℕ} (is i && unbegun i) 1 0) in
      let new = ap (λ b. cond {A = ℕ} b 1 0) is in
      let le = sum_more_at (λ (x : ℕ × Request). cond {A = ℕ} (is_put_of L c class x.1 && is_begun e x) 1 0) (λ (x : ℕ × Request). cond {A = ℕ} (is_put_of L c class x.1) 1 0) (enumerate_from 0 e.given) (n, q) 1 given (λ x i. drop (is_put_of L c class x.1) (is_begun e x)) (omega (arith, old, new)) in
      let all = sum_numbered (λ x. cond {A = ℕ} (is_put_of L c class x) 1 0) 0 e.given in
      let up = given_puts class in
      omega (arith, le, all, up)

  -- so few chunks were cut for a class
  cut_few : (class : ℕ) → H.cuts class ≤ parts_of (puts class) (blocks_in L class)
  cut_few class = ⊎_elim
      (λ none. omega (arith, none))
      (λ some. parts_least (H.cuts class) (puts class) (blocks_in L class) (block_some L class (H.class class some)) (let last = H.last class some in let few = begun_few class in omega (arith, last, few)))
      (cases_eq (H.cuts class) 0)

  all_few : sum_by H.cuts (numbers 1 GREATEST_CLASS) ≤ data_chunks L c trace
  all_few = sum_up H.cuts (λ class. parts_of (puts class) (blocks_in L class)) (numbers 1 GREATEST_CLASS) (λ class i. cut_few class)

  one_fewer : (class : ℕ) → NeedsBlock L class q → (e.stock c).blocks class ≡ 0 → sum_by H.cuts (numbers 1 GREATEST_CLASS) + 1 ≤ data_chunks L c trace
  one_fewer class N none =
      let is = own_put_of class q own ∙ N.put in
      let some = needed_some L large class q N in
      let few = begun_fewer class is in
      let all = H.blocks class in
      let split : (H.cuts class + 1) * blocks_in L class ≡ H.cuts class * blocks_in L class + blocks_in L class = omega arith in
      let here = parts_least (H.cuts class + 1) (puts class) (blocks_in L class) some (omega (arith, split, all, none, few)) in
      let high = N.most in
      numbers_one 1 GREATEST_CLASS class H.cuts (λ k. parts_of (puts k) (blocks_in L k)) N.some (omega (arith, high)) cut_few here where
        own_put_of : (class : ℕ) (x : Request) → owner L (key_of x) ≡ c → is_put_of L c class x ≡ is_put_in L class x
        own_put_of class (Put k v) is = ap (λ b. b && has_class (length v) class && nat_le (length v) (L.chunk_bytes / 4 - 8)) (eq-eqb (owner L k) c is)
        own_put_of class (Get k) is = refl
        own_put_of class (Delete k) is = refl

  pub not_ample : 64 * lines_in ((e.group (group_of L c)).took (member_of L c)) ≤ log_bytes L c trace → IsAmpleFor L o.found trace c → ⊥
  not_ample within ample =
      few_opened L H.opened (lines_in ((e.group (group_of L c)).took (member_of L c))) (e.stock c).lines (log_bytes L c trace) large (let filled = H.lines in omega (arith, filled)) H.small within (opened_many ample lacks) where
        opened_many : IsAmpleFor L o.found trace c → LacksRoom L (e.stock c) q → parts_of (log_bytes L c trace) (L.chunk_bytes - 576) + 2 ≤ H.opened
        opened_many ample (inl few) = let chunks = H.chunks in let cuts = all_few in omega (arith, ample, few, chunks, cuts)
        opened_many ample (inr none) = let chunks = H.chunks in let few = none.0 in let cuts = one_fewer none.1.class none.1.needs none.1.none in omega (arith, ample, few, chunks, cuts)

-- What an ample input leaves free, whatever is asked next: the log opened fewer chunks than it allows for, so that two are free at least.
module _ (o : Origin) (e : Engine) (layout_is : IsLayout (layout_of o.found)) (c : ℕ) (H : HasRoom (layout_of o.found) o e c) (more : List Request) where
  abbrev M : Geometry
  M = layout_of o.found

  drop_test : (a b : Bool) → cond {A = ℕ} (a && b) 1 0 ≤ cond {A = ℕ} a 1 0
  drop_test true true = omega arith
  drop_test true false = omega arith
  drop_test false b = omega arith

  puts_begun : (class : ℕ) → begun_puts M e c class ≤ count_by (is_put_of M c class) (e.given ++ more)
  puts_begun class =
      let le = sum_up (λ (x : ℕ × Request). cond {A = ℕ} (is_put_of M c class x.1 && is_begun e x) 1 0) (λ (x : ℕ × Request). cond {A = ℕ} (is_put_of M c class x.1) 1 0) (enumerate_from 0 e.given) (λ x i. drop_test (is_put_of M c class x.1) (is_begun e x)) in
      let all = sum_numbered (λ x. cond {A = ℕ} (is_put_of M c class x) 1 0) 0 e.given in
      let split = sum_by-append (λ x. cond {A = ℕ} (is_put_of M c class x) 1 0) e.given more in
      omega (arith, le, all, split)

  cuts_few : (class : ℕ) → H.cuts class ≤ parts_of (count_by (is_put_of M c class) (e.given ++ more)) (blocks_in M class)
  cuts_few class = ⊎_elim
      (λ none. omega (arith, none))
      (λ some. parts_least (H.cuts class) (count_by (is_put_of M c class) (e.given ++ more)) (blocks_in M class) (block_some M class (H.class class some)) (let last = H.last class some in let few = puts_begun class in omega (arith, last, few)))
      (cases_eq (H.cuts class) 0)

  pub not_scarce : (e.stock c).chunks ≤ 1 → 64 * lines_in ((e.group (group_of M c)).took (member_of M c)) ≤ log_bytes M c (e.given ++ more) → IsAmpleFor M o.found (e.given ++ more) c → ⊥
  not_scarce few within ample =
      few_opened M H.opened (lines_in ((e.group (group_of M c)).took (member_of M c))) (e.stock c).lines (log_bytes M c (e.given ++ more)) (chunk_big M layout_is) (let filled = H.lines in omega (arith, filled)) H.small within
      (let chunks = H.chunks in let cuts = sum_up H.cuts (λ class. parts_of (count_by (is_put_of M c class) (e.given ++ more)) (blocks_in M class)) (numbers 1 GREATEST_CLASS) (λ class i. cuts_few class) in omega (arith, ample, few, chunks, cuts))
