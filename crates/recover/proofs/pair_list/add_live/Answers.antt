use Rattle.std.proofs.Common.{◌≡◌, ◌<◌, length, get_or, sym, ◌∙◌, ap, arith}
use Rattle.std.specs.Prelude.{slice_index_or}
use Rattle.std.specs.Ordering.{nat_cmp}
use Rattle.std.specs.BTreeSet.{contains}
use Rattle.log_entry.specs.declared.entry.EntryName.{EntryName}
use Rattle.core_index.specs.Noted.{name_with}
use Rattle.recover.proofs.PairLaws.{set_kept, names_added}
use Rattle.recover.proofs.pair_list.add_live.Goals as goal

pub loop-name-preserved : goal.loop-name-preserved
loop-name-preserved c =
    let names = c.deref-name-items.result.now in
    let n = c.loop-name.name-index in
    let x : EntryName = record { key = 0; version = 0 } in
    let old = c.loop-name.keys in
    let new = c.insert.new.self in
    let inv = c.loop-name.invariant in
    record {
      kept = λ k has. set_kept old new (get_or names n x).key c.in_ok-insert.ensures.updates k (inv.kept k has);
      added = names_added old new names n x c.loop-name-test.true c.in_ok-insert.ensures.updates inv.added;
    }

pub returns-clause-live : goal.returns-clause-live
returns-clause-live c = λ k v is.
    let names = c.deref-name-items.result.now in
    let n = name_with k v in
    let there = (c.in_ok-names.ensures.each k v).1 is in
    let long = ap length c.deref-name-items.ensures.value in
    let low = there.1 in
    let lt : there.0 < c.loop-name.name-index = omega (arith, low, long, c.loop-name-test.false) in
    let at : slice_index_or names there.0 n ≡ n = ap (λ xs. slice_index_or xs there.0 n) c.deref-name-items.ensures.value ∙ there.2 in
    sym (ap (λ (m : EntryName). contains nat_cmp c.loop-name.keys m.key) at) ∙ c.loop-name.invariant.added there.0 n lt
