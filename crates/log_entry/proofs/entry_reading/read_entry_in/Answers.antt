use Rattle.std.proofs.Common.{◌≡◌, ◌+◌, drop, get_or-drop, sym, ◌∙◌, ap, subst, arith}
use Rattle.std.proofs.lemmas.List.{take_rest}
use Rattle.log_entry.specs.Reading.{read}
use Rattle.log_entry.specs.Grammar.{IsReading}
use Rattle.log_entry.proofs.Answers.{reading_of}
use Rattle.log_entry.proofs.entry_reading.read_entry_in.Goals as goal

pub returns-clause-reading : goal.returns-clause-reading
returns-clause-reading c =
    let ws = c.args.words.now in
    let at = c.args.at in
    let is : c.in_ok-read.read ≡ read (drop at ws) = c.in_ok-read.ensures ∙ ap read (take_rest ws at) in
    subst (IsReading (drop at ws)) (sym is) (reading_of (drop at ws) (λ i. (let e = get_or-drop at ws i 0 in let small = c.type_inv.words (at + i) in omega (arith, e, small))))
