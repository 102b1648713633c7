use Rattle.std.proofs.Common.{◌≡◌, ℕ, ◌<◌, true}
use Rattle.std.specs.Prelude.{slice_index_or}
use Rattle.std.specs.Ordering.{nat_cmp}
use Rattle.std.specs.BTreeSet.{contains}
use Rattle.log_entry.specs.declared.entry.EntryName.{EntryName}
use Rattle.recover.proofs.pair_list.add_live.Given as goal

-- the keys from before, and those of the names so far
abbrev pub invariant-loop-name : goal.invariant-loop-name
invariant-loop-name l = record {
  kept : (k : ℕ) → contains nat_cmp l.fn.keys k ≡ true → contains nat_cmp l.keys k ≡ true;
  added : (i : ℕ) (d : EntryName) → i < l.name-index → contains nat_cmp l.keys (slice_index_or l.name-items i d).key ≡ true;
}
