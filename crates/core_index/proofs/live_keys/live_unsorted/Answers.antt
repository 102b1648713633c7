use Rattle.std.proofs.Common.{◌++◌, ◌∙◌, List, ap, subst, sym}
use Rattle.std.specs.List.Sorted.{IsPermutation}
use Rattle.std.proofs.lemmas.List.Sorted.{IsPermutation-append_left}
use Rattle.core_index.specs.declared.types.LiveKey.{LiveKey}
use Rattle.core_index.specs.Index.{live_names}
use Rattle.core_index.specs.Listing.{start_names}
use Rattle.core_index.proofs.live_keys.live_unsorted.Goals as goal

pub returns-clause-names : goal.returns-clause-names
returns-clause-names c =
    let es = c.args.slots.now.entries in
    let rest = start_names es c.args.live.now.items in
    let names = c.in_ok-names.names.items in
    let all = c.in_ok-add_started.ensures ∙ ap (λ (xs : List LiveKey). names ++ start_names es xs) c.items.ensures.items in
    subst (IsPermutation (live_names es ++ rest)) (sym all) (IsPermutation-append_left rest (live_names es) names c.in_ok-names.ensures.names)
