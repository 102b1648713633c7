use Rattle.std.proofs.Common.{◌≡◌, ◌<◌, ◌≤◌, ◌==◌, cond, sym, ap, ◌∙◌, arith, false, length, take, None, Some}
use Rattle.std.specs.Prelude.{option_map}
use Rattle.std.specs.Option.{option_or, unwrap_or}
use Rattle.std.proofs.lemmas.List.{take_all}
use Rattle.run_audit.specs.FirstFault.{cells_in}
use Rattle.run_audit.specs.Shares.{entry_at, is_of, started}
use Rattle.run_audit.proofs.Kept.{not_own}
use Rattle.run_audit.proofs.Starting.{start_state, entered, unentered, cells_more}
use Rattle.run_audit.proofs.key_share.start_table.Goals as goal
use Rattle.run_audit.proofs.key_share.start_table.Goals.{then-has+in_ok-enter, else-has}

pub loop-cell-preserved : goal.loop-cell-preserved
loop-cell-preserved c = λ k own.
    let start = c.args.start.now in
    let i = c.loop-cell.cell-index in
    let cell = c.cell-item.result in
    let low : i < length start = omega arith in
    let before : entry_at c.loop-cell.table k ≡ option_map started (cells_in (take i start) k) = c.loop-cell.invariant k own in
    let more = ap (λ l. option_map started (cells_in l k)) (sym (cells_more start i cell low c.cell-item.is)) in
    elim c.if-has.branch [
      | then-has+in_ok-enter w ↦ ap (λ t. entry_at t k) w.table-is ∙ w.in_ok-enter.ensures k ∙ ap (λ o. option_or o (cond (cell.key == k) (Some (started cell.value)) None)) before ∙ entered (take i start) cell k ∙ more
      | else-has w ↦ ap (λ t. entry_at t k) w.table-is ∙ before
          ∙ unentered (take i start) cell k (not_own (is_of c.args.share.count c.args.share.number) cell.key k (sym c.has.ensures ∙ w.if-has.false) own) ∙ more
    ]

pub returns : goal.returns
returns c = λ k own.
    let start = c.args.start.now in
    let i = c.loop-cell.cell-index in
    let all : length start ≤ i = omega arith in
    ap (λ o. unwrap_or o (None, false)) (c.loop-cell.invariant k own) ∙ start_state (cells_in (take i start) k)
    ∙ ap (λ l. (cells_in l k, false)) (take_all i start all)
