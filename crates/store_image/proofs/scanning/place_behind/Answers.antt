use Rattle.std.proofs.Common.{◌+◌, length, drop, ◌∙◌, sym, ap, arith}
use Rattle.std.proofs.lemmas.List.{length-drop, drop_all, drop-drop}
use Rattle.log_entry.specs.Batches.{scan}
use Rattle.store_image.proofs.Steps.{passes, passes_all}
use Rattle.store_image.proofs.scanning.place_behind.Goals as goal

pub returns-then-left-rest-clause-same : goal.returns-then-left-rest-clause-same
returns-then-left-rest-clause-same c = λ padded.
    let ws = c.args.payload.now in
    let p = c.args.place in
    let left = c.args.left in
    let long = length-drop (p + 1) ws in
    let high = c.if-left-rest.true in
    passes_all left (p + 1) padded (drop (p + 1) ws) (omega (arith, long, high))
    ∙ sym (ap (scan (length ws) 0 padded) (drop_all (length ws) ws (omega arith)))

pub returns-clause-same : goal.returns-clause-same
returns-clause-same c = λ padded.
    let ws = c.args.payload.now in
    let p = c.args.place in
    let left = c.args.left in
    let long = length-drop (p + 1) ws in
    let low = c.if-left-rest.false in
    passes left (p + 1) padded (drop (p + 1) ws) (omega (arith, long, low))
    ∙ ap (scan (p + 1 + left) 0 padded) (drop-drop left (p + 1) ws)
