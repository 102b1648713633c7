use Rattle.core_worker.proofs.RoomKept.{wrote_chunks}
use Rattle.std.proofs.Common.{ℕ, List, length, true, sym, ◌∙◌, ap, subst}
use Rattle.chunk_map.specs.Layouts.{has_class}
use Rattle.lazy_alloc.specs.Sets.{Sets, free_chunk_count, free_block_count}
use Rattle.core_worker.proofs.StockFacts.{wrote_blocks}
use Rattle.lazy_alloc.specs.Written.{WroteValue}
use Rattle.core_worker.specs.Posting.{IsStagedWith, WouldStand}
use Rattle.core_worker.specs.Ties.{Holds, Stands}
use Rattle.core_worker.proofs.BlockStands.{head_ready, staged_block, holds_written, holds_stopped, stands_block, stands_stopped}
use Rattle.core_worker.proofs.CountedFaults.{stands_counted}
use Rattle.core_worker.proofs.worker.Worker.write_staged.Goals as goal

pub write_for-requires-clause-used : goal.write_for-requires-clause-used
write_for-requires-clause-used g c =
    (staged_block ((g.B.Board.seat c.args.board.now).place) ((g.B.Board.seat c.args.board.now).number) (g.B.Board.view c.args.board.now) c.args.self.now c.requires.holds c.args.slot c.in-Staged.number c.args.pointer c.in-Staged.entry c.in-Staged.value (sym c.place_in.ensures ∙ c.in-Staged.is) c.requires.staged).0.used

pub write_for-requires-clause-class : goal.write_for-requires-clause-class
write_for-requires-clause-class g c =
    let p = (g.B.Board.seat c.args.board.now).place in
    let m = (g.B.Board.seat c.args.board.now).number in
    let v = g.B.Board.view c.args.board.now in
    let is = staged_block p m v c.args.self.now c.requires.holds c.args.slot c.in-Staged.number c.args.pointer c.in-Staged.entry c.in-Staged.value (sym c.place_in.ensures ∙ c.in-Staged.is) c.requires.staged in
    (is.0.class, is.0.class_is, ap (λ (xs : List ℕ). has_class (length xs) is.0.class) c.bytes.ensures ∙ is.0.fits, head_ready (g.R.Region.state c.args.region.now) p m v c.args.self.now c.requires.holds c.requires.stands c.requires.runs c.args.pointer is.0.class is.0.class_is)

pub write_for-requires-clause-unused : goal.write_for-requires-clause-unused
write_for-requires-clause-unused g c =
    (staged_block ((g.B.Board.seat c.args.board.now).place) ((g.B.Board.seat c.args.board.now).number) (g.B.Board.view c.args.board.now) c.args.self.now c.requires.holds c.args.slot c.in-Staged.number c.args.pointer c.in-Staged.entry c.in-Staged.value (sym c.place_in.ensures ∙ c.in-Staged.is) c.requires.staged).1

pub returns-then-faults-before-clause-holds : goal.returns-then-faults-before-clause-holds
returns-then-faults-before-clause-holds g c =
    let p = (g.B.Board.seat c.args.board.now).place in
    let m = (g.B.Board.seat c.args.board.now).number in
    let v = g.B.Board.view c.args.board.now in
    let is = staged_block p m v c.args.self.now c.requires.holds c.args.slot c.in-Staged.number c.args.pointer c.in-Staged.entry c.in-Staged.value (sym c.place_in.ensures ∙ c.in-Staged.is) c.requires.staged in
    holds_written (g.R.Region.state c.write_for.new.region) p m v c.args.self.now c.requires.nothing.0 c.write_for.new.allocator c.args.pointer is.0.class c.bytes.result.now c.requires.holds c.requires.nothing.1 c.write_for.ensures.sets (c.in-Ok.ensures.ok is.0.class is.0.class_is)

pub returns-then-faults-before-clause-ready : goal.returns-then-faults-before-clause-ready
returns-then-faults-before-clause-ready g c same =
    let p = (g.B.Board.seat c.args.board.now).place in
    let m = (g.B.Board.seat c.args.board.now).number in
    let v = g.B.Board.view c.args.board.now in
    let s = g.R.Region.state c.args.region.now in
    let t = g.R.Region.state c.write_for.new.region in
    let was = sym c.place_in.ensures ∙ c.in-Staged.is in
    let is = staged_block p m v c.args.self.now c.requires.holds c.args.slot c.in-Staged.number c.args.pointer c.in-Staged.entry c.in-Staged.value was c.requires.staged in
    let k = is.0.class in
    subst (WouldStand t p m v (record c.args.self.now { allocator = c.write_for.new.allocator }) c.args.slot) (sym was)
    (stands_block s t p m v c.args.self.now c.requires.holds c.requires.stands c.requires.runs c.args.pointer k is.0.class_is is.1 (c.write_for.ensures.others k is.0.class_is) (c.write_for.ensures.head k is.0.class_is)
    c.write_for.new.allocator c.in-Staged.value (subst (λ (xs : List ℕ). WroteValue t c.args.self.now.allocator c.write_for.new.allocator c.args.pointer k xs) c.bytes.ensures (c.in-Ok.ensures.ok k is.0.class_is)) c.args.slot c.in-Staged.entry is.0.fits (subst (λ x. IsStagedWith x c.args.pointer) was c.requires.staged))

pub returns-in-Err-clause-holds : goal.returns-in-Err-clause-holds
returns-in-Err-clause-holds g c =
    let p = (g.B.Board.seat c.args.board.now).place in
    let m = (g.B.Board.seat c.args.board.now).number in
    let v = g.B.Board.view c.args.board.now in
    subst (λ (a : Sets). Holds p m v (record c.args.self.now { allocator = a; stopped = true })) (sym c.in-Err.ensures.err) (holds_stopped p m v c.args.self.now c.requires.holds c.requires.runs)

pub returns-in-Err-clause-stands : goal.returns-in-Err-clause-stands
returns-in-Err-clause-stands g c failed =
    let p = (g.B.Board.seat c.args.board.now).place in
    let m = (g.B.Board.seat c.args.board.now).number in
    let v = g.B.Board.view c.args.board.now in
    let s = g.R.Region.state c.args.region.now in
    let t = g.R.Region.state c.write_for.new.region in
    let is = staged_block p m v c.args.self.now c.requires.holds c.args.slot c.in-Staged.number c.args.pointer c.in-Staged.entry c.in-Staged.value (sym c.place_in.ensures ∙ c.in-Staged.is) c.requires.staged in
    let k = is.0.class in
    subst (λ (a : Sets). Stands t p m v (record c.args.self.now { allocator = a; stopped = true })) (sym c.in-Err.ensures.err)
    (stands_stopped s t p m v c.args.self.now c.requires.holds c.requires.stands c.requires.runs c.args.pointer k is.0.class_is is.1 (c.write_for.ensures.others k is.0.class_is) (c.write_for.ensures.head k is.0.class_is))

pub returns-then-faults-before-clause-chunks : goal.returns-then-faults-before-clause-chunks
returns-then-faults-before-clause-chunks g c =
    let p = (g.B.Board.seat c.args.board.now).place in
    let m = (g.B.Board.seat c.args.board.now).number in
    let v = g.B.Board.view c.args.board.now in
    let is = staged_block p m v c.args.self.now c.requires.holds c.args.slot c.in-Staged.number c.args.pointer c.in-Staged.entry c.in-Staged.value (sym c.place_in.ensures ∙ c.in-Staged.is) c.requires.staged in
    wrote_chunks (g.R.Region.state c.write_for.new.region) c.args.self.now.allocator c.write_for.new.allocator c.args.pointer is.0.class c.bytes.result.now (c.in-Ok.ensures.ok is.0.class is.0.class_is)

pub returns-in-Err-clause-chunks : goal.returns-in-Err-clause-chunks
returns-in-Err-clause-chunks g c = ap free_chunk_count c.in-Err.ensures.err

pub returns-then-faults-before-clause-blocks : goal.returns-then-faults-before-clause-blocks
returns-then-faults-before-clause-blocks g c class =
    let p = (g.B.Board.seat c.args.board.now).place in
    let m = (g.B.Board.seat c.args.board.now).number in
    let v = g.B.Board.view c.args.board.now in
    let is = staged_block p m v c.args.self.now c.requires.holds c.args.slot c.in-Staged.number c.args.pointer c.in-Staged.entry c.in-Staged.value (sym c.place_in.ensures ∙ c.in-Staged.is) c.requires.staged in
    wrote_blocks (g.R.Region.state c.write_for.new.region) c.args.self.now.allocator c.write_for.new.allocator c.args.pointer is.0.class c.bytes.result.now (c.in-Ok.ensures.ok is.0.class is.0.class_is) class

pub returns-in-Err-clause-blocks : goal.returns-in-Err-clause-blocks
returns-in-Err-clause-blocks g c class = ap (λ (a : Sets). free_block_count a class) c.in-Err.ensures.err

-- a fault was counted, and the core stops
pub returns-else-faults-before-clause-holds : goal.returns-else-faults-before-clause-holds
returns-else-faults-before-clause-holds g c =
    let p = (g.B.Board.seat c.args.board.now).place in
    let m = (g.B.Board.seat c.args.board.now).number in
    let v = g.B.Board.view c.args.board.now in
    let s = g.R.Region.state c.args.region.now in
    let t = g.R.Region.state c.write_for.new.region in
    let was = sym c.place_in.ensures ∙ c.in-Staged.is in
    let is = staged_block p m v c.args.self.now c.requires.holds c.args.slot c.in-Staged.number c.args.pointer c.in-Staged.entry c.in-Staged.value was c.requires.staged in
    let k = is.0.class in
    let w = c.args.self.now in
    holds_stopped p m v (record w { allocator = c.write_for.new.allocator })
    (holds_written t p m v w c.requires.nothing.0 c.write_for.new.allocator c.args.pointer k c.bytes.result.now c.requires.holds c.requires.nothing.1 c.write_for.ensures.sets (c.in-Ok.ensures.ok k is.0.class_is))
    c.requires.runs

pub returns-else-faults-before-clause-stands : goal.returns-else-faults-before-clause-stands
returns-else-faults-before-clause-stands g c failed =
    let p = (g.B.Board.seat c.args.board.now).place in
    let m = (g.B.Board.seat c.args.board.now).number in
    let v = g.B.Board.view c.args.board.now in
    let s = g.R.Region.state c.args.region.now in
    let t = g.R.Region.state c.write_for.new.region in
    let was = sym c.place_in.ensures ∙ c.in-Staged.is in
    let is = staged_block p m v c.args.self.now c.requires.holds c.args.slot c.in-Staged.number c.args.pointer c.in-Staged.entry c.in-Staged.value was c.requires.staged in
    let k = is.0.class in
    let w = c.args.self.now in
    stands_counted t p m v w c.write_for.new.allocator
    (stands_block s t p m v w c.requires.holds c.requires.stands c.requires.runs c.args.pointer k is.0.class_is is.1 (c.write_for.ensures.others k is.0.class_is) (c.write_for.ensures.head k is.0.class_is)
    c.write_for.new.allocator c.in-Staged.value (subst (λ (xs : List ℕ). WroteValue t w.allocator c.write_for.new.allocator c.args.pointer k xs) c.bytes.ensures (c.in-Ok.ensures.ok k is.0.class_is)) c.args.slot c.in-Staged.entry is.0.fits (subst (λ x. IsStagedWith x c.args.pointer) was c.requires.staged)).lies
    (stands_stopped s t p m v w c.requires.holds c.requires.stands c.requires.runs c.args.pointer k is.0.class_is is.1 (c.write_for.ensures.others k is.0.class_is) (c.write_for.ensures.head k is.0.class_is))

pub returns-else-faults-before-clause-chunks : goal.returns-else-faults-before-clause-chunks
returns-else-faults-before-clause-chunks g c =
    let p = (g.B.Board.seat c.args.board.now).place in
    let m = (g.B.Board.seat c.args.board.now).number in
    let v = g.B.Board.view c.args.board.now in
    let s = g.R.Region.state c.args.region.now in
    let t = g.R.Region.state c.write_for.new.region in
    let was = sym c.place_in.ensures ∙ c.in-Staged.is in
    let is = staged_block p m v c.args.self.now c.requires.holds c.args.slot c.in-Staged.number c.args.pointer c.in-Staged.entry c.in-Staged.value was c.requires.staged in
    let k = is.0.class in
    wrote_chunks t c.args.self.now.allocator c.write_for.new.allocator c.args.pointer k c.bytes.result.now (c.in-Ok.ensures.ok k is.0.class_is)

pub returns-else-faults-before-clause-blocks : goal.returns-else-faults-before-clause-blocks
returns-else-faults-before-clause-blocks g c class =
    let p = (g.B.Board.seat c.args.board.now).place in
    let m = (g.B.Board.seat c.args.board.now).number in
    let v = g.B.Board.view c.args.board.now in
    let s = g.R.Region.state c.args.region.now in
    let t = g.R.Region.state c.write_for.new.region in
    let was = sym c.place_in.ensures ∙ c.in-Staged.is in
    let is = staged_block p m v c.args.self.now c.requires.holds c.args.slot c.in-Staged.number c.args.pointer c.in-Staged.entry c.in-Staged.value was c.requires.staged in
    let k = is.0.class in
    wrote_blocks t c.args.self.now.allocator c.write_for.new.allocator c.args.pointer k c.bytes.result.now (c.in-Ok.ensures.ok k is.0.class_is) class
