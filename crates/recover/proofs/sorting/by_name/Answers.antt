use Rattle.std.proofs.Common.{rules}
use Rattle.std.proofs.lemmas.List.Sorted.{answers_always}
use Rattle.recover.proofs.SortLaws.{key_of, named_order, sorted_in_place, words_keep_at}
use Rattle.recover.proofs.sorting.by_name.Goals as goal

pub returns-clause-order : goal.returns-clause-order
returns-clause-order c = named_order c.sort_unstable_by_key.new.self.items (c.sort_unstable_by_key.ensures.sorted key_of (answers_always _ _ _ (λ f a r g h. search rules)))

pub returns-clause-names : goal.returns-clause-names
returns-clause-names c = λ rise.
    sorted_in_place c.args.found.items c.sort_unstable_by_key.new.self.items c.sort_unstable_by_key.ensures.permutation
    (c.sort_unstable_by_key.ensures.sorted key_of (answers_always _ _ _ (λ f a r g h. search rules))) rise

pub returns-clause-words : goal.returns-clause-words
returns-clause-words c = words_keep_at c.sort_unstable_by_key.new.self.items (c.sort_unstable_by_key.ensures.sorted key_of (answers_always _ _ _ (λ f a r g h. search rules)))
