use Rattle.std.proofs.Common.{arith, length, take, drop, ◌+◌, ◌-◌, ◌≤◌, sym, ◌∙◌, ap}
use Rattle.std.proofs.lemmas.List.{length-drop}
use Rattle.fs_text.proofs.Slices.{handed_out}
use Rattle.fs_text.proofs.feed.Feed.give.Goals as goal

pub returns-clause-gives : goal.returns-clause-gives
returns-clause-gives c =
    let xs = c.self.inside.bytes.items in
    let given = c.copy_from_slice.ensures.after in
    let fits : c.min-count.result ≤ length (drop c.self.inside.at xs) = rw length-drop (omega arith) in
    sym c.self.view_is ∙ handed_out xs _ c.copy_from_slice.new.self c.self.inside.at c.min-count.result
    (c.copy_from_slice.ensures.after ∙ ap (λ ys. take ((c.self.inside.at + c.min-count.result) - c.self.inside.at) (drop c.self.inside.at ys)) c.deref.ensures.value) fits
