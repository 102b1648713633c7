-- A worker that is opened on what recovery found has the chunks free that the words found say are free.
use Rattle.std.proofs.Common.{◌≡◌, ℕ, zero, suc, ◌+◌, ◌<◌, Bool, cond, refl, ◌∙◌, ap, arith}
use Rattle.std.specs.List.{count_by}
use Rattle.std.proofs.lemmas.List.Sums.{sum_by-cons}
use Rattle.chunk_map.specs.declared.layouts.Geometry.{Geometry}
use Rattle.chunk_map.specs.Chunks.{is_free}
use Rattle.chunk_map.specs.Layouts.{numbers, chunk_first, head_at}
use Rattle.lazy_alloc.specs.Sets.{Sets, chunk_is_free, free_chunk_count}
use Rattle.recover.specs.declared.types.CoreStart.{CoreStart}
use Rattle.recover.specs.Starts.{IsAllocatorOf}
use Rattle.group_laws.specs.Places.{Place, core_of}
use Rattle.headline.specs.Ample.{free_chunks}
use Rattle.engine_laws.specs.FreeStock.{IsAtLeast}
use Rattle.core_worker.specs.declared.worker.Worker.{Worker}
use Rattle.core_worker.specs.Openings.{IsNew, IsStartAt}
use Rattle.core_worker.specs.WorkerMoves.{stock_of}

count_same : (p q : ℕ → Bool) (from n : ℕ) → ((j : ℕ) → j < from + n → p j ≡ q j) → count_by p (numbers from n) ≡ count_by q (numbers from n)
count_same p q from zero same = refl
count_same p q from (suc n) same =
    let rest = count_same p q (suc from) n (λ j lt. same j (omega (arith, lt))) in
    let first = ap (λ b. cond {A = ℕ} b 1 0) (same from (omega arith)) in
    let a = sum_by-cons (λ j. cond {A = ℕ} (p j) 1 0) from (numbers (suc from) n) in
    let b = sum_by-cons (λ j. cond {A = ℕ} (q j) 1 0) from (numbers (suc from) n) in
    omega (arith, rest, first, a, b)

free_count : (l : Geometry) (image : ℕ → ℕ) (c : ℕ) (a : Sets) → a.layout ≡ l → IsAllocatorOf l image c a → free_chunk_count a ≡ free_chunks l image c
free_count l image c a layout A =
    ap (λ (m : Geometry). count_by (chunk_is_free a) (numbers 0 m.chunks)) layout
    ∙ count_same (chunk_is_free a) (λ j. is_free (head_at l image (chunk_first l c j))) 0 l.chunks (λ j lt. A.free j (omega (arith, lt)))

pub found_free : (p : Place) (m c : ℕ) (image : ℕ → ℕ) (start : CoreStart) (layout : Geometry) (w : Worker) → IsNew start layout w → IsStartAt p m image start → core_of p m ≡ c → IsAtLeast (record { chunks = free_chunks p.layout image c; lines = 0; blocks = λ class. 0 }) (stock_of w)
found_free p m c image start layout w N at core =
    let count = free_count p.layout image (core_of p m) start.allocator at.made.allocator_layout at.found.allocator in
    let own = ap free_chunk_count N.allocator in
    let number = ap (free_chunks p.layout image) core in
    record { chunks = omega (arith, count, own, number); lines = omega arith; blocks = λ class. omega arith }
