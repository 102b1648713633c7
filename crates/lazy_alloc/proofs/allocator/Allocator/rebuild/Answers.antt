use Rattle.std.proofs.Common.{⊎_elim, ◌+◌, ◌&&◌, ◌||◌, ◌==◌, ℕ, not, false, Bool, get_or, take, Option, None, sym, ◌∙◌, ap, subst, arith}
use Rattle.std.specs.Prelude.{is_none}
use Rattle.std.specs.List.{list_any}
use Rattle.std.proofs.lemmas.Bool.{cases_lt}
use Rattle.std.proofs.lemmas.Option.{slice_get_past}
use Rattle.chunk_map.specs.declared.layouts.Geometry.{Geometry}
use Rattle.chunk_map.specs.declared.heads.Head.TheVariants.{Free}
use Rattle.chunk_map.specs.Checked.{FitsHead}
use Rattle.lazy_alloc.specs.Sets.{class_at, chunk_is_free, chunk_class, block_is_used}
use Rattle.lazy_alloc.specs.Heads.{is_free_there, class_there}
use Rattle.lazy_alloc.proofs.SetLaws.{class_same, same_part}
use Rattle.lazy_alloc.proofs.RebuildLaws.{all_at, noted, not_yet, at_point, known}
use Rattle.lazy_alloc.proofs.allocator.Allocator.rebuild.Goals as goal

pub loop-chunk-init : goal.loop-chunk-init
loop-chunk-init c =
    let e = c.in_ok-allocator.ensures in
    record {
      sets = e.sets;
      layout_is = e.layout;
      part_is = e.part;
      free = λ j lt. absurd (omega arith);
      free_past = λ j le. e.free j;
      class = λ j lt. absurd (omega arith);
      class_past = λ j le. e.class j;
      due = e.due;
      used = e.used;
    }

pub set_up-requires-clause-fits : goal.set_up-requires-clause-fits
set_up-requires-clause-fits c =
    subst (λ (g : Geometry). FitsHead g (get_or c.args.heads.now c.loop-chunk.chunk Free)) (sym c.loop-chunk.invariant.layout_is) (all_at (FitsHead c.args.layout) c.args.heads.now c.loop-chunk.chunk Free c.requires.classes c.loop-chunk-test.true)

pub loop-chunk-preserved : goal.loop-chunk-preserved
loop-chunk-preserved c =
    let e = c.set_up.ensures in
    let i = c.loop-chunk.invariant in
    let head = get_or c.args.heads.now c.loop-chunk.chunk Free in
    record {
      sets = e.sets;
      layout_is = e.layout ∙ i.layout_is;
      part_is = e.part ∙ i.part_is;
      free = noted is_free_there (chunk_is_free c.set_up.new.self) (chunk_is_free c.loop-chunk.allocator) c.args.heads.now c.loop-chunk.chunk Free c.loop-chunk-test.true e.free i.free;
      free_past = not_yet (chunk_is_free c.set_up.new.self) (chunk_is_free c.loop-chunk.allocator) _ false c.loop-chunk.chunk e.free i.free_past;
      class = noted class_there (chunk_class c.set_up.new.self) (chunk_class c.loop-chunk.allocator) c.args.heads.now c.loop-chunk.chunk Free c.loop-chunk-test.true e.class i.class;
      class_past = not_yet (chunk_class c.set_up.new.self) (chunk_class c.loop-chunk.allocator) _ None c.loop-chunk.chunk e.class i.class_past;
      due = λ j. e.due j ∙ i.due j;
      used = λ p. e.used p ∙ i.used p;
    }

pub loop-pointer-init : goal.loop-pointer-init
loop-pointer-init c =
    let i = c.loop-chunk.invariant in
    let end = c.loop-chunk-test.false in
    record {
      sets = i.sets;
      layout_is = i.layout_is;
      part_is = i.part_is;
      free = λ j. ⊎_elim (λ lt. i.free j lt) (λ ge. i.free_past j ge ∙ sym (ap is_free_there (slice_get_past c.args.heads.now j (omega arith)))) (cases_lt j c.loop-chunk.chunk);
      class = λ j. ⊎_elim (λ lt. i.class j lt) (λ ge. i.class_past j ge ∙ sym (ap class_there (slice_get_past c.args.heads.now j (omega arith)))) (cases_lt j c.loop-chunk.chunk);
      due = i.due;
      used = i.used;
    }

pub loop-pointer-preserved : goal.loop-pointer-preserved
loop-pointer-preserved c =
    let e = c.mark_known.ensures in
    let i = c.loop-pointer.invariant in
    let old = c.loop-pointer.allocator in
    let new = c.mark_known.new.self in
    let same = class_same old new (same_part old new e.chunks) e.chunks.classes in
    record {
      sets = e.sets;
      layout_is = e.chunks.layout_is ∙ i.layout_is;
      part_is = e.chunks.part_is ∙ i.part_is;
      free = λ j. e.chunks.free j ∙ i.free j;
      class = λ j. e.chunks.classes j ∙ i.class j;
      due = λ j. e.chunks.due j ∙ i.due j;
      used = λ p. let x = get_or c.args.used.now c.loop-pointer.pointer-index 0 in
          let some : ℕ → Bool = λ q. not (is_none (class_at old q)) in
          known c.args.used.now c.loop-pointer.pointer-index 0 p (some p) (block_is_used old p) (block_is_used new p) c.loop-pointer-test.true (i.used p) (e.used p ∙ ap (λ (b : Bool). b || block_is_used old p) (at_point p x some))
          ∙ ap (λ (o : Option ℕ). list_any (λ q. q == p) (take (c.loop-pointer.pointer-index + 1) c.args.used.now) && not (is_none o)) (sym (same p));
    }
