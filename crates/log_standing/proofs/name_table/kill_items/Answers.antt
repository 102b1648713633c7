use Rattle.std.proofs.Common.{◌≡◌, ◌+◌, ◌*◌, ◌||◌, ◌<◌, slice_set, map, length, get_or, sym, ◌∙◌, ap, arith}
use Rattle.std.proofs.lemmas.List.{length-set, get_or_read, map-set, get_or-map, set-get_or}
use Rattle.std.proofs.lemmas.List.Edits.{map_over_more}
use Rattle.log_standing.specs.declared.name_item.NameItem.{NameItem}
use Rattle.log_standing.specs.Killing.{dead_by, all_dead}
use Rattle.log_standing.proofs.ItemLaws.{rises_set}
use Rattle.log_standing.proofs.name_table.kill_items.Goals as goal

pub loop-i-preserved : goal.loop-i-preserved
loop-i-preserved g c =
    let inv = c.loop-i.invariant in
    let xs = c.loop-i.items.items in
    let i = c.loop-i.i in
    let x = c.index_mut.result.now in
    let here : x ≡ get_or xs i x = c.index_mut.ensures.value in
    let long = inv.long in
    let count = c.len-i-end.ensures in
    let test = c.loop-i-test.true in
    let lt : i < length xs = omega (arith, long, count, test) in
    let same : (y : NameItem) → y ≡ get_or xs i y → y ≡ x = λ y is. get_or_read xs i y lt is x ∙ sym here in
    let name : c.index.result.now ≡ x = same c.index.result.now c.index.ensures in
    let version : c.index-in-loop-i.result.now ≡ x = same c.index-in-loop-i.result.now c.index-in-loop-i.ensures in
    let dead : c.index-in-loop-i-2.result.now ≡ x = same c.index-in-loop-i-2.result.now c.index-in-loop-i-2.ensures in
    let z : NameItem = record { key = x.key; version = x.version; count = x.count; chunk = x.chunk; words = x.words; dead = c.index-in-loop-i-2.result.now.dead || c.dead.result } in
    record {
      long = length-set xs i z ∙ inv.long;
      rises = λ rises. rises_set xs i z x (ap (λ (y : NameItem). y.key * 4294967296 + y.version) here) (inv.rises rises);
      same = map-set all_dead xs i z ∙ ap (λ (y : NameItem). slice_set (map all_dead xs) i y) (ap all_dead here ∙ sym (get_or-map all_dead xs i x x lt)) ∙ set-get_or (map all_dead xs) i x ∙ inv.same;
      killed = λ f says.
          let told : c.dead.result ≡ f x.key x.version = says _ _ c.dead.ensures ∙ (λ t. f (name t).key (version t).version) in
          let is : z ≡ dead_by f x = λ t. record { key = x.key; version = x.version; count = x.count; chunk = x.chunk; words = x.words; dead = (dead t).dead || told t } in
          ap (λ y. slice_set xs i y) is ∙ map_over_more (dead_by f) c.args.items.now.items xs i x (omega (arith, long, lt)) (inv.killed f says) here;
    }
