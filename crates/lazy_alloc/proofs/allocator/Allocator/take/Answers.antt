use Rattle.std.proofs.Common.{inl, inr, ◌∙◌, ap}
use Rattle.std.specs.Prelude.{is_none}
use Rattle.lazy_alloc.specs.Sets.{Sets, first_block}
use Rattle.lazy_alloc.proofs.SetLaws.{takes_block, free_block}
use Rattle.lazy_alloc.proofs.CutLaws.{cuts_lowest, cut_block, cut_unused}
use Rattle.lazy_alloc.proofs.allocator.Allocator.take.Goals as goal

pub returns-in-Some-clause-takes : goal.returns-in-Some-clause-takes
returns-in-Some-clause-takes c = inl (takes_block c.args.self.now c.mark.new.self c.args.class c.in-Some.pointer c.in-Some.ensures.sets c.mark.ensures.chunks c.in-Some.ensures.lowest.0 c.in-Some.ensures.lowest.1 c.mark.ensures.used)

pub mark-requires : goal.mark-requires
mark-requires c = let f = free_block c.args.self.now c.args.class c.in-Some.pointer c.in-Some.ensures.lowest.0 in record { block = ap is_none f.0; unused = f.1 }

pub mark-requires-2 : goal.mark-requires-2
mark-requires-2 c =
    let first = c.first_block-pointer.ensures.value ∙ ap (λ (s : Sets). first_block s c.in-Some-take_chunk.chunk) c.self.view_is in
    record {
      block = cut_block c.args.self.now c.take_chunk.new.self c.cut.new.self c.args.class c.in-Some-take_chunk.chunk c.first_block-pointer.result c.in_default.ensures.sets c.in-Some-take_chunk.ensures.sets c.cut.ensures.sets c.requires.class c.in-Some-take_chunk.ensures.takes c.cut.ensures.cuts first;
      unused = cut_unused c.args.self.now c.take_chunk.new.self c.cut.new.self c.args.class c.in-Some-take_chunk.chunk c.first_block-pointer.result c.in_default.ensures.sets c.in-Some-take_chunk.ensures.sets c.cut.ensures.sets c.requires.class c.in-Some-take_chunk.ensures.takes c.cut.ensures.cuts first;
    }

pub returns-clause-takes : goal.returns-clause-takes
returns-clause-takes c =
    inr (
      c.if-not-may_cut.false,
      c.in-Some-take_chunk.chunk,
      cuts_lowest c.args.self.now c.take_chunk.new.self c.cut.new.self c.mark-2.new.self c.args.class c.in-Some-take_chunk.chunk c.first_block-pointer.result c.in_default.ensures.sets c.in-Some-take_chunk.ensures.sets c.cut.ensures.sets c.requires.class c.in_default.ensures.lowest c.in-Some-take_chunk.ensures.takes c.cut.ensures.cuts
          (c.first_block-pointer.ensures.value ∙ ap (λ (s : Sets). first_block s c.in-Some-take_chunk.chunk) c.self.view_is) c.mark-2.ensures.chunks c.mark-2.ensures.used,
    )
