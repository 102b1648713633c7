use Rattle.std.proofs.Common.{◌≡◌, ◌<◌, ◌≤◌, sym, ap, ◌∙◌, arith, true, false, length, take, subst, [], ◌∷◌, ◌++◌, get_or}
use Rattle.std.specs.List.{zip}
use Rattle.std.proofs.lemmas.Bool.{iff_false}
use Rattle.std.proofs.lemmas.List.{take_all, get_or_default}
use Rattle.fs_model.specs.declared.model.Reply.TheVariants.{Stored}
use Rattle.fs_model.specs.Cells.{key_of}
use Rattle.fs_model.specs.Lawful.{IsLawfulFor, asked}
use Rattle.run_audit.specs.FirstFault.{cells_in}
use Rattle.run_audit.specs.Shares.{state_at, is_of, AreLawful}
use Rattle.run_audit.proofs.Kept.{Kept, kept_other, kept_own, kept_fault}
use Rattle.run_audit.proofs.Pairing.{length-zip, pair_more}
use Rattle.run_audit.proofs.key_share.first_fault.Goals as goal
use Rattle.run_audit.proofs.key_share.first_fault.Goals.{else-has-via-then-has+in_ok-judge+else-not-branch, else-has-via-else-has}

pub returns-then-not-branch : goal.returns-then-not-branch
returns-then-not-branch c =
    let trace = c.args.trace.now in
    let replies = c.args.replies.now in
    let start = cells_in c.args.start.now in
    let mine = is_of c.args.share.count c.args.share.number in
    let n = c.loop-number.number in
    let q = c.index-trace-number.result in
    let r = c.index-replies-number.result in
    let low : n < length trace = omega arith in
    let low' : n < length replies = omega arith in
    let own : mine (key_of q) ≡ true = ap mine (sym c.key.ensures) ∙ sym c.has.ensures ∙ c.if-has.true in
    let more = pair_more trace replies n q r low low' c.index-trace-number.is c.index-replies-number.is in
    record {
      within = omega (arith, length-zip trace replies);
      lawful = c.loop-number.invariant.lawful;
      key = key_of q;
      is_mine = own;
      unlawful = λ h. kept_fault (state_at c.loop-number.table) start mine (take n (zip trace replies)) q r c.loop-number.invariant own
          (iff_false c.in_ok-judge.ensures.exact c.if-not-branch.true) (subst (λ l. IsLawfulFor (start (key_of q)) false (asked (key_of q) l)) more h);
    }

pub loop-number-preserved : goal.loop-number-preserved
loop-number-preserved c =
    let trace = c.args.trace.now in
    let replies = c.args.replies.now in
    let start = cells_in c.args.start.now in
    let mine = is_of c.args.share.count c.args.share.number in
    let n = c.loop-number.number in
    let q = c.index-trace-number.result in
    let low : n < length trace = omega arith in
    let low' : n < length replies = omega arith in
    elim c.else-has.branch [
      | else-has-via-then-has+in_ok-judge+else-not-branch w ↦
          let r = w.index-replies-number.result in
          let own : mine (key_of q) ≡ true = ap mine (sym c.key.ensures) ∙ sym c.has.ensures ∙ w.if-has.true in
          let more = pair_more trace replies n q r low low' c.index-trace-number.is w.index-replies-number.is in
          subst (λ l. Kept (state_at c.else-has.table) start mine l) (sym more)
          (subst (λ t. Kept (state_at t) start mine (take n (zip trace replies) ++ (q, r) ∷ [])) (sym w.table-is)
          (kept_own (state_at c.loop-number.table) (state_at w.judge.new.table) start mine (take n (zip trace replies)) q r c.loop-number.invariant own
          (w.in_ok-judge.ensures.exact.0 w.if-not-branch.false) (w.in_ok-judge.ensures.moves w.if-not-branch.false)))
      | else-has-via-else-has w ↦
          let r = get_or replies n Stored in
          let other : mine (key_of q) ≡ false = ap mine (sym c.key.ensures) ∙ sym c.has.ensures ∙ w.if-has.false in
          let more = pair_more trace replies n q r low low' c.index-trace-number.is (get_or_default replies n Stored r low') in
          subst (λ l. Kept (state_at c.else-has.table) start mine l) (sym more)
          (subst (λ t. Kept (state_at t) start mine (take n (zip trace replies) ++ (q, r) ∷ [])) (sym w.table-is)
          (kept_other (state_at c.loop-number.table) start mine (take n (zip trace replies)) q r c.loop-number.invariant other))
    ]

pub returns : goal.returns
returns c = λ k own.
    let xs = zip c.args.trace.now c.args.replies.now in
    let all : length xs ≤ c.loop-number.number = omega (arith, length-zip c.args.trace.now c.args.replies.now) in
    subst (λ l. AreLawful (cells_in c.args.start.now) (is_of c.args.share.count c.args.share.number) l) (take_all c.loop-number.number xs all) c.loop-number.invariant.lawful k own
