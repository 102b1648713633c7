use Rattle.std.proofs.Common.{◌≡◌, ◌<◌, ◌≤◌, ◌==◌, ◌&&◌, ℕ, not, false, None, take}
use Rattle.std.specs.Prelude.{is_none, slice_get}
use Rattle.std.specs.List.{list_any}
use Rattle.lazy_alloc.specs.Sets.{AreSets, class_at, chunk_is_free, chunk_class, chunk_is_due, block_is_used}
use Rattle.lazy_alloc.specs.Heads.{is_free_there, class_there}
use Rattle.lazy_alloc.proofs.allocator.Allocator.rebuild.Given as goal

abbrev pub invariant-loop-chunk : goal.invariant-loop-chunk
invariant-loop-chunk l = record {
  sets : AreSets l.allocator;
  layout_is : l.allocator.layout ≡ l.fn.layout;
  part_is : l.allocator.part ≡ l.part;
  free : (j : ℕ) → j < l.chunk → chunk_is_free l.allocator j ≡ is_free_there (slice_get l.heads j);
  free_past : (j : ℕ) → l.chunk ≤ j → chunk_is_free l.allocator j ≡ false;
  class : (j : ℕ) → j < l.chunk → chunk_class l.allocator j ≡ class_there (slice_get l.heads j);
  class_past : (j : ℕ) → l.chunk ≤ j → chunk_class l.allocator j ≡ None;
  due : (j : ℕ) → chunk_is_due l.allocator j ≡ false;
  used : (p : ℕ) → block_is_used l.allocator p ≡ false;
}

abbrev pub invariant-loop-pointer : goal.invariant-loop-pointer
invariant-loop-pointer l = record {
  sets : AreSets l.allocator;
  layout_is : l.allocator.layout ≡ l.fn.layout;
  part_is : l.allocator.part ≡ l.part;
  free : (j : ℕ) → chunk_is_free l.allocator j ≡ is_free_there (slice_get l.heads j);
  class : (j : ℕ) → chunk_class l.allocator j ≡ class_there (slice_get l.heads j);
  due : (j : ℕ) → chunk_is_due l.allocator j ≡ false;
  used : (p : ℕ) → block_is_used l.allocator p ≡ (list_any (λ q. q == p) (take l.pointer-index l.used) && not (is_none (class_at l.allocator p)));
}
