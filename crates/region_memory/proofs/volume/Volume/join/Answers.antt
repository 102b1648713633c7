use Rattle.std.proofs.Common.{get_or, arith}
use Rattle.region_memory.proofs.Joining.{fits, takes, joined, comes}
use Rattle.region_memory.proofs.volume.Volume.join.Goals as goal

pub take_back-complete-requires-clause-fits : goal.take_back-complete-requires-clause-fits
take_back-complete-requires-clause-fits g c =
    let v = c.args.self.now in
    fits (λ p. p.history) v.history v.attached v.parted v.cuts.items v.bytes v.opens v.validations c.args.pieces.now v.at_zero v.within c.requires.count c.requires.pieces c.close.new.self c.close.ensures.same c.close.ensures.journal.steps

pub returns-clause-whole : goal.returns-clause-whole
returns-clause-whole g c =
    let v = c.args.self.now in
    joined (λ p. p.history) v.history v.attached v.parted v.cuts.items v.bytes v.opens v.validations c.args.pieces.now v.at_zero v.within c.requires.count c.requires.pieces
    c.close.new.self c.take_back-complete.new.history c.reopen.new.self c.close.ensures.same c.close.ensures.journal
    c.is_complete-before.result c.take_back-complete.result c.is_complete-before.ensures.yes c.take_back-complete.ensures
    c.latest_stamp-latest.result c.latest_stamp-latest.ensures.low c.latest_stamp-latest.ensures.pieces c.reopen.ensures.journal c.reopen.ensures.same c.clear.new.self.items v.long v.history.journal.last_stamp

pub returns-clause-pieces : goal.returns-clause-pieces
returns-clause-pieces g c =
    let v = c.args.self.now in
    λ i p lt r n m le.
    takes (λ p. p.history) v.history v.attached v.parted v.cuts.items v.bytes v.opens v.validations c.args.pieces.now v.at_zero v.within c.requires.count c.requires.pieces
    c.close.new.self c.take_back-complete.new.history c.reopen.new.self c.close.ensures.same c.close.ensures.journal
    c.is_complete-before.result c.take_back-complete.result c.is_complete-before.ensures.yes c.take_back-complete.ensures
    c.latest_stamp-latest.result c.latest_stamp-latest.ensures.low c.latest_stamp-latest.ensures.pieces c.reopen.ensures.journal c.reopen.ensures.same c.clear.new.self.items r n m le i p lt ((get_or c.args.pieces.now i p).history.journal.last_stamp)

pub returns-clause-next : goal.returns-clause-next
returns-clause-next g c =
    let v = c.args.self.now in
    λ r n r' n' m.
    comes (λ p. p.history) v.history v.attached v.parted v.cuts.items v.bytes v.opens v.validations c.args.pieces.now v.at_zero v.within c.requires.count c.requires.pieces
    c.close.new.self c.take_back-complete.new.history c.reopen.new.self c.close.ensures.same c.close.ensures.journal
    c.is_complete-before.result c.take_back-complete.result c.is_complete-before.ensures.yes c.take_back-complete.ensures
    c.latest_stamp-latest.result c.latest_stamp-latest.ensures.low c.latest_stamp-latest.ensures.pieces c.reopen.ensures.journal c.reopen.ensures.same c.clear.new.self.items
    (let shared = v.shared c.requires.parted in let own = v.history.journal.own_share in let count = c.requires.count in omega arith)
    c.is_complete-before.ensures.no c.latest_stamp-latest.ensures.least r n r' n' m
