use Rattle.std.proofs.Common.{ℕ, ◌+◌, ◌-◌, ◌*◌, ◌/◌, ◌%◌, ◌<◌, List, get_or, sym, ◌∙◌, ap, subst, arith}
use Rattle.pm_region.specs.Bytes.{word_at}
use Rattle.region_file.proofs.Paging.{count_is, same_items}
use Rattle.region_file.proofs.Storing.{own_word, other_words}
use Rattle.region_file.proofs.file_bytes.FileBytes.set_word.Goals as goal

pub overflow_mul-place : goal.overflow_mul-place
overflow_mul-place c = let n = count_is _ c.self.inside.own c.self.inside.base c.self.inside.len c.self.view_is in omega (arith, n, c.requires.within, c.self.invariant.most)

pub make_own-requires-clause-within : goal.make_own-requires-clause-within
make_own-requires-clause-within c = let n = count_is _ c.self.inside.own c.self.inside.base c.self.inside.len c.self.view_is in omega (arith, n, c.requires.within, c.self.invariant.all)

pub make_own-requires-clause-low : goal.make_own-requires-clause-low
make_own-requires-clause-low c = let n = count_is _ c.self.inside.own c.self.inside.base c.self.inside.len c.self.view_is in omega (arith, n, c.requires.within, c.self.invariant.most)

pub returns-clause-this : goal.returns-clause-this
returns-clause-this c =
    let n = count_is _ c.self.inside.own c.self.inside.base c.self.inside.len c.self.view_is in
    let own = c.make_own.new.own in
    let slots = c.set_word.ensures.slots in
    own_word c.self.inside.base c.self.inside.len c.set_word.new.self c.args.place (subst (λ v. 0 < get_or v.items (8 * c.args.place / 32768) 0) (sym slots) c.make_own.ensures.own) (omega (arith, n, c.requires.within))
    ∙ ap (λ v. word_at c.set_word.new.self.bytes.items (4096 * (get_or v.items (8 * c.args.place / 32768) 0 - 1) + c.args.place % 4096)) slots ∙ c.set_word.ensures.this

pub returns-clause-others : goal.returns-clause-others
returns-clause-others c = λ k ne.
    let n = count_is _ c.self.inside.own c.self.inside.base c.self.inside.len c.self.view_is in
    let own = c.make_own.new.own in
    other_words c.self.inside.base c.self.inside.len own c.set_word.new.self c.set_word.ensures.slots c.args.place own.kept (ap (λ (m : ℕ). m % 8) (sym n) ∙ c.requires.whole) c.make_own.ensures.own c.set_word.ensures.others k ne
    ∙ ap (λ (l : List ℕ). word_at l k) (same_items c.self.inside.own own c.self.inside.base c.self.inside.base c.self.inside.len (λ i lt. c.make_own.ensures.bytes i)) ∙ ap (λ v. word_at v.items k) c.self.view_is
