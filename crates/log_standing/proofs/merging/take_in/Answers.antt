use Rattle.std.proofs.Common.{◌≡◌, ◌+◌, ◌-◌, ◌<◌, ◌≤◌, ◌++◌, ◌∷◌, [], ℕ, List, length, take, get_or, true, false, sym, ◌∙◌, ap, subst, arith, slice_set}
use Rattle.std.proofs.lemmas.List.{get_or_read, get_or-take, length-take-le, take_more_set}
use Rattle.log_standing.specs.declared.name_item.NameItem.{NameItem}
use Rattle.log_standing.specs.NameItems.{is_item, IsCounted, IsMerged}
use Rattle.log_standing.proofs.MergeLaws.{with_chunk, merged_new, merged_more, merged_same, take_write}
use Rattle.log_standing.proofs.merging.take_in.Goals.{then-kept-eq0-via-then-kept-eq0, then-kept-eq0-via-else-kept-eq0+then-not-is_same_name}
use Rattle.log_standing.proofs.merging.take_in.Goals as goal

-- the last one of those that are kept
last_is : (xs : List NameItem) (kept : ℕ) (d : NameItem) → kept < length xs → 0 < kept → get_or (take kept xs) (length (take kept xs) - 1) d ≡ get_or xs (kept - 1) d
last_is xs kept d lt some = let n = length-take-le kept xs (omega (arith, lt)) in ap (λ (m : ℕ). get_or (take kept xs) (m - 1) d) n ∙ get_or-take kept xs (kept - 1) d (omega (arith, some))

pub returns-then-kept-eq0-clause-merged : goal.returns-then-kept-eq0-clause-merged
returns-then-kept-eq0-clause-merged c = λ xs merged ordered.
    let items = c.args.items.now.items in
    let kept = c.args.kept in
    let y = c.args.item in
    let lt = c.requires.within in
    let n : length (take kept items) ≡ kept = length-take-le kept items (omega (arith, lt)) in
    let new : (d : NameItem) → 0 < length (take kept items) → is_item y.key y.version (get_or (take kept items) (length (take kept items) - 1) d) ≡ false = λ d some. elim c.then-kept-eq0.branch [
      | then-kept-eq0-via-then-kept-eq0 w ↦ let zero = w.if-kept-eq0.true in absurd (omega (arith, some, n, zero))
      | then-kept-eq0-via-else-kept-eq0+then-not-is_same_name w ↦
          let read : w.index.result.now ≡ get_or items (kept - 1) d = get_or_read items (kept - 1) w.index.result.now (omega (arith, lt)) w.index.ensures d in
          ap (is_item y.key y.version) (last_is items kept d lt (omega (arith, some, n)) ∙ sym read) ∙ sym w.is_same_name.ensures ∙ w.if-not-is_same_name.true
    ] in
    subst (λ (l : List NameItem). IsMerged (xs ++ y ∷ []) l) (ap (λ (z : NameItem). take kept items ++ z ∷ []) (sym c.first_of.ensures) ∙ sym (take_more_set items kept c.first_of.result lt))
    (merged_new xs (take kept items) y merged ordered new)

pub with_chunk-requires-clause-few : goal.with_chunk-requires-clause-few
with_chunk-requires-clause-few c =
    let items = c.args.items.now.items in
    let kept = c.args.kept in
    let lt = c.requires.within in
    let some = c.if-kept-eq0.false in
    let n : length (take kept items) ≡ kept = length-take-le kept items (omega (arith, lt)) in
    let d = c.index-last.result.now in
    let counted : IsCounted (get_or (take kept items) (kept - 1) d) = c.requires.counted (kept - 1) d (omega (arith, n, some)) in
    let most = counted.most in
    subst (λ (x : NameItem). x.count ≤ x.chunk + 1) (get_or-take kept items (kept - 1) d (omega (arith, some)) ∙ sym c.index-last.ensures) most

pub with_chunk-requires-clause-within : goal.with_chunk-requires-clause-within
with_chunk-requires-clause-within c =
    let items = c.args.items.now.items in
    let kept = c.args.kept in
    let lt = c.requires.within in
    let some = c.if-kept-eq0.false in
    let n : length (take kept items) ≡ kept = length-take-le kept items (omega (arith, lt)) in
    let d = c.index-last.result.now in
    let counted : IsCounted (get_or (take kept items) (kept - 1) d) = c.requires.counted (kept - 1) d (omega (arith, n, some)) in
    let most = counted.chunk in
    subst (λ (x : NameItem). x.chunk < 64) (get_or-take kept items (kept - 1) d (omega (arith, some)) ∙ sym c.index-last.ensures) most

pub returns-then-last-item-clause-merged : goal.returns-then-last-item-clause-merged
returns-then-last-item-clause-merged c = λ xs merged ordered.
    let items = c.args.items.now.items in
    let kept = c.args.kept in
    let y = c.args.item in
    let lt = c.requires.within in
    let some = c.if-kept-eq0.false in
    let n : length (take kept items) ≡ kept = length-take-le kept items (omega (arith, lt)) in
    let d = y in
    let first : c.index.result.now ≡ get_or items (kept - 1) d = get_or_read items (kept - 1) c.index.result.now (omega (arith, lt)) c.index.ensures d in
    let read : c.index-last.result.now ≡ get_or items (kept - 1) d = get_or_read items (kept - 1) c.index-last.result.now (omega (arith, lt)) c.index-last.ensures d in
    let is : get_or (take kept items) (length (take kept items) - 1) d ≡ get_or items (kept - 1) d = last_is items kept d lt (omega (arith, some)) in
    let same : is_item y.key y.version (get_or (take kept items) (length (take kept items) - 1) d) ≡ true = ap (is_item y.key y.version) (is ∙ sym first) ∙ sym c.is_same_name.ensures ∙ c.if-not-is_same_name.false in
    let out = merged_more xs (take kept items) y merged ordered d (omega (arith, n, some)) same (λ e. c.if-last-item.true (ap (λ (x : NameItem). x.chunk) (read ∙ sym is) ∙ e)) in
    let z : with_chunk (get_or (take kept items) (length (take kept items) - 1) d) y.chunk ≡ c.with_chunk.result = ap (λ (x : NameItem). with_chunk x y.chunk) (is ∙ sym read) ∙ sym c.with_chunk.ensures in
    subst (λ (l : List NameItem). IsMerged (xs ++ y ∷ []) l) ((λ i. slice_set (take kept items) (n i - 1) (z i)) ∙ sym (take_write items (kept - 1) kept c.with_chunk.result (omega (arith, some)))) out

pub returns-else-last-item-clause-merged : goal.returns-else-last-item-clause-merged
returns-else-last-item-clause-merged c = λ xs merged ordered.
    let items = c.args.items.now.items in
    let kept = c.args.kept in
    let y = c.args.item in
    let lt = c.requires.within in
    let some = c.if-kept-eq0.false in
    let n : length (take kept items) ≡ kept = length-take-le kept items (omega (arith, lt)) in
    let d = y in
    let first : c.index.result.now ≡ get_or items (kept - 1) d = get_or_read items (kept - 1) c.index.result.now (omega (arith, lt)) c.index.ensures d in
    let read : c.index-last.result.now ≡ get_or items (kept - 1) d = get_or_read items (kept - 1) c.index-last.result.now (omega (arith, lt)) c.index-last.ensures d in
    let is : get_or (take kept items) (length (take kept items) - 1) d ≡ get_or items (kept - 1) d = last_is items kept d lt (omega (arith, some)) in
    let same : is_item y.key y.version (get_or (take kept items) (length (take kept items) - 1) d) ≡ true = ap (is_item y.key y.version) (is ∙ sym first) ∙ sym c.is_same_name.ensures ∙ c.if-not-is_same_name.false in
    merged_same xs (take kept items) y merged ordered d (omega (arith, n, some)) same (ap (λ (x : NameItem). x.chunk) (is ∙ sym read) ∙ c.if-last-item.false)
