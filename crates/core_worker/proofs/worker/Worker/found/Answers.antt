-- A value in a block is what the view has.
use Rattle.std.proofs.Common.{inr, refl, sym, ◌∙◌, ap}
use Rattle.fs_model.specs.declared.model.Request.TheVariants.{Get}
use Rattle.fs_model.specs.declared.model.Reply.TheVariants.{Value}
use Rattle.fs_model.specs.Cells.{answer_to}
use Rattle.core_worker.proofs.Finding.{read_ready, read_block, cell_found}
use Rattle.core_worker.proofs.worker.Worker.found.Goals as goal

pub read_value-requires-clause-holds : goal.read_value-requires-clause-holds
read_value-requires-clause-holds g c =
    let t = c.requires.tied.0 in
    let h = c.requires.tied.1 in
    read_ready (g.R.Region.state c.args.region.now) t.place t.number t.view c.args.self.now h.holds c.requires.tied.2 c.requires.runs c.args.key c.in-Block.pointer h.own c.in-Block.ensures

pub returns-in_ok-value-in-Block : goal.returns-in_ok-value-in-Block
returns-in_ok-value-in-Block g c t h S = record {
  reply = inr (read_block (g.R.Region.state c.args.region.now) t.place t.number t.view c.args.self.now h.holds S c.requires.runs c.args.key c.in-Block.pointer h.own c.in-Block.ensures, refl);
  known = λ telling. ap Value (c.in_ok-value-in-Block.ensures telling) ∙ ap (answer_to (Get c.args.key)) (sym (cell_found (g.R.Region.state c.args.region.now) t.place t.number t.view c.args.self.now h.holds S c.requires.runs c.args.key c.in-Block.pointer h.own c.in-Block.ensures telling));
}
