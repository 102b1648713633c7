use Rattle.std.proofs.Common.{◌≡◌, ◌<◌, ◌≤◌, ◌==◌, List, false, sym, ◌∙◌, ap, subst, arith, rules}
use Rattle.std.specs.List.{All, count_by}
use Rattle.std.proofs.lemmas.List.Elements.{recursion_from_All}
use Rattle.std.proofs.lemmas.List.Sorted.{answers_always, All-permutation}
use Rattle.core_log.specs.declared.types.LogChunk.{LogChunk}
use Rattle.log_standing.specs.declared.name_item.NameItem.{NameItem}
use Rattle.log_standing.specs.declared.types.Copies.{Copies}
use Rattle.log_standing.specs.NameCounts.{count_in, copies_with}
use Rattle.log_standing.specs.NameItems.{item_spot, live, copies_among, IsCounted}
use Rattle.log_standing.proofs.ItemLaws.{each_live, none_told}
use Rattle.log_standing.proofs.OrderLaws.{sorted_order, same_notes}
use Rattle.log_standing.proofs.name_table.NameTable.of.Goals as goal

pub merge-requires : goal.merge-requires
merge-requires c =
    let was = c.args.items.items in
    let now = c.sort_unstable_by_key.new.self.items in
    sorted_order was now c.sort_unstable_by_key.ensures.permutation (c.sort_unstable_by_key.ensures.sorted (λ (x : NameItem). (x.key, x.version, x.chunk)) (answers_always _ _ _ (λ f a r g h. search rules))) c.requires

pub returns-clause-counts : goal.returns-clause-counts
returns-clause-counts c = λ cs are k v.
    let was = c.args.items.items in
    let now = c.sort_unstable_by_key.new.self.items in
    let moved = c.sort_unstable_by_key.ensures.permutation in
    ap (λ (l : List NameItem). count_in (copies_among (live l) k v)) c.shrink_to_fit.ensures.items
    ∙ c.merge.ensures.counts cs (All-permutation (λ (x : NameItem). count_by (λ (j : LogChunk). j.chunk == x.chunk) cs ≡ 1) was now moved are) k v
    ∙ same_notes was now moved cs k v

pub returns-clause-untold : goal.returns-clause-untold
returns-clause-untold c = λ k v.
    let out = c.shrink_to_fit.new.self.items in
    let each = subst (λ (l : List NameItem). All IsCounted l) (sym c.shrink_to_fit.ensures.items) c.merge.ensures.each in
    let P : Copies → Type 0 = λ c. c.dead ≡ false in
    let all = recursion_from_All (λ (x : NameItem). P (copies_with x.count x.dead (item_spot x))) out (λ j d lt. (each j d lt).untold) in
    none_told (copies_among (live out) k v) (each_live P out all k v)

pub returns-clause-small : goal.returns-clause-small
returns-clause-small c = λ k v.
    let out = c.shrink_to_fit.new.self.items in
    let each = subst (λ (l : List NameItem). All IsCounted l) (sym c.shrink_to_fit.ensures.items) c.merge.ensures.each in
    let P : Copies → Type 0 = λ c. (0 < c.count) × (c.count ≤ 255) in
    let all = recursion_from_All (λ (x : NameItem). P (copies_with x.count x.dead (item_spot x))) out (λ j d lt. let is = each j d lt in let most = is.most in let chunk = is.chunk in (is.some, omega (arith, most, chunk))) in
    each_live P out all k v
