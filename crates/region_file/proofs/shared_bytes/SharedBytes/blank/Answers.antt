use Rattle.std.proofs.Common.{◌≡◌, ◌+◌, sym, ◌∙◌, ap, arith}
use Rattle.std.specs.Arc.{arc_value}
use Rattle.region_file.specs.Pages.{stored_byte}
use Rattle.region_file.specs.declared.pages.Pages.{Pages}
use Rattle.region_file.proofs.shared_bytes.SharedBytes.blank.Goals as goal

pub returns : goal.returns
returns c = λ j lt.
    let s = c.args.self.now in
    let at : s.from + (c.args.at + j) ≡ s.from + c.args.at + j = omega arith in
    ap (stored_byte (arc_value s.whole)) at ∙ ap (λ (p : Pages). stored_byte p (s.from + c.args.at + j)) (sym c.deref.ensures) ∙ c.blank.ensures.zeros j lt
