use Rattle.std.proofs.Common.{sym, ◌∙◌, arith}
use Rattle.log_entry.proofs.Clients.{whole_spelled}
use Rattle.recover.proofs.SpellLaws.{names_lie}
use Rattle.recover.proofs.gather_region.scan_log.Goals as goal

pub returns-clause-places : goal.returns-clause-places
returns-clause-places c = names_lie c.args.words.now c.scan.new.self.entries.items c.in_ok-scan.ensures.0

pub returns-clause-batches : goal.returns-clause-batches
returns-clause-batches c = λ whole lines.
    let bs = whole_spelled c.args.words.now (λ i. (let small = c.type_inv.words i in omega (arith, small))) lines (sym c.in_ok-scan.ensures.1 ∙ whole) in
    record { batches = bs.0; spelled = bs.1 }
