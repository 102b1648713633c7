use Rattle.std.proofs.Common.{ℕ, List, map, sym, ◌∙◌, ap, subst}
use Rattle.log_entry.specs.declared.entry.EntryName.{EntryName}
use Rattle.store_image.specs.Listing.{IsRising}
use Rattle.core_index.specs.Records.{live_version}
use Rattle.core_index.specs.Index.{known_at}
use Rattle.range_scan.specs.Keys.{has}
use Rattle.range_scan.proofs.NameLaws.{rises, named_keys}
use Rattle.range_scan.proofs.keys_of_cores.keys_in.Goals as goal

pub returns : goal.returns
returns c =
    let names = c.in_ok-names.names.items in
    let is = c.in_ok-keys.ensures ∙ ap (λ (ns : List EntryName). map (λ (n : EntryName). n.key) ns) c.deref.ensures.value in
    record {
      rising = subst IsRising (sym is) (rises (map (λ (n : EntryName). n.key) names) c.in_ok-names.ensures.rising);
      each = λ k. ap (λ (ks : List ℕ). has ks k) is ∙ named_keys names (λ (k : ℕ). live_version (known_at c.args.index.now k)) c.in_ok-names.ensures.each k;
    }
