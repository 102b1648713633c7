use Rattle.std.proofs.Common.{ℕ, List, length, ◌∙◌, ap}
use Rattle.std.specs.List.{count_by}
use Rattle.std.proofs.lemmas.List.Sums.{length-filter}
use Rattle.range_scan.specs.Ranges.{is_within}
use Rattle.range_scan.proofs.PairLaws.{count_kept}
use Rattle.range_scan.proofs.directory.Directory.count.Goals as goal

pub returns-clause-keys : goal.returns-clause-keys
returns-clause-keys c =
    ap (λ (ks : List ℕ). length ks) c.keys_within.ensures ∙ length-filter (is_within c.args.lo c.args.hi) c.deref.result.now ∙ ap (count_by (is_within c.args.lo c.args.hi)) (c.deref.ensures.value ∙ c.self.view_is)

pub returns-clause-pairs : goal.returns-clause-pairs
returns-clause-pairs c = λ pairs is. returns-clause-keys c ∙ count_kept c.args.lo c.args.hi c.args.self.now pairs is
