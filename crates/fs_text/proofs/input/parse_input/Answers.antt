use Rattle.std.proofs.Common.{arith, sym, ap, ◌∙◌}
use Rattle.fs_text.specs.Input.{lines_of, lines_from, input_of}
use Rattle.fs_text.proofs.Stopping.{with_lines, with_none, goes_on_behind}
use Rattle.fs_text.proofs.input.parse_input.Goals as goal

pub loop-rest-init : goal.loop-rest-init
unfolding input_of
loop-rest-init c = record {
  few = omega arith;
  said = rw (c.new-lines.ensures.items, c.none-totals.ensures) (with_none (lines_from c.args.cores 1 (record { bytes = 0; requests = 0; turns = 0 }) (lines_of c.args.bytes.now)));
}

pub loop-rest-preserved : goal.loop-rest-preserved
loop-rest-preserved c =
    let front = c.loop-rest.lines.items in
    let first = c.first_line-first.result in
    let step = goes_on_behind front c.args.cores c.loop-rest.number c.loop-rest.totals (first.text.now, first.ended) (lines_of first.rest.now)
    (c.in_ok-line.line, c.in_ok-line.next) c.in_ok-line.ensures.exact in
    record {
      few = omega arith;
      said = rw c.in_ok-push.ensures.items (sym step
          ∙ ap (λ xs. with_lines front (lines_from c.args.cores c.loop-rest.number c.loop-rest.totals xs)) (sym c.first_line-first.ensures.lines)
          ∙ c.loop-rest.invariant.said);
    }
