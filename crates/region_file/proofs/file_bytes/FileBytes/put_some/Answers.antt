use Rattle.std.proofs.Common.{◌≡◌, inl, inr, ⊎_elim, ℕ, List, length, get_or, take, sym, ◌∙◌, ap, arith, rules}
use Rattle.std.proofs.lemmas.List.{get_or-take, length-take-le}
use Rattle.region_file.proofs.Paging.{count_is, same_items}
use Rattle.region_file.proofs.Storing.{put_inner, put_outer, store_inner, store_outer}
use Rattle.region_file.proofs.file_bytes.FileBytes.put_some.Goals as goal

pub returns-then-eq-clause-inner : goal.returns-then-eq-clause-inner
returns-then-eq-clause-inner c = λ j lt.
    let here = c.rest-here.result.now in
    let n = c.min-count.result in
    let same : take n here ≡ take n c.args.bytes.now = search rules in
    sym (c.rest-here.ensures.bytes j (omega (arith, lt))) ∙ sym (get_or-take n here j 0 lt) ∙ ap (λ (l : List ℕ). get_or l j 0) same ∙ get_or-take n c.args.bytes.now j 0 lt

pub store-requires-clause-within : goal.store-requires-clause-within
store-requires-clause-within c = let n = count_is _ c.self.inside.own c.self.inside.base c.self.inside.len c.self.view_is in omega (arith, n, c.requires.within, c.requires.some, c.self.invariant.all)

pub returns-then-not-has-clause-inner : goal.returns-then-not-has-clause-inner
returns-then-not-has-clause-inner c = λ j lt.
    let n = count_is _ c.self.inside.own c.self.inside.base c.self.inside.len c.self.view_is in
    let bytes = c.args.bytes.now in
    store_inner c.self.inside.base c.self.inside.len c.store.new.self c.args.low (take 32768 bytes) c.if-low-eq0.true (omega (arith, n, c.requires.within)) c.store.ensures.stored c.store.ensures.this j lt
    ∙ get_or-take 32768 bytes j 0 lt

pub returns-then-not-has-clause-outer : goal.returns-then-not-has-clause-outer
returns-then-not-has-clause-outer c = λ k out.
    store_outer c.self.inside.base c.self.inside.len c.self.inside.own c.store.new.self c.args.low c.if-low-eq0.true c.store.ensures.others c.store.ensures.other_bytes k out
    ∙ ap (λ v. get_or v.items k 0) c.self.view_is

pub make_own-requires-clause-within : goal.make_own-requires-clause-within
make_own-requires-clause-within c = let n = count_is _ c.self.inside.own c.self.inside.base c.self.inside.len c.self.view_is in omega (arith, n, c.requires.within, c.requires.some, c.self.invariant.all)

pub make_own-requires-clause-low : goal.make_own-requires-clause-low
make_own-requires-clause-low c = let n = count_is _ c.self.inside.own c.self.inside.base c.self.inside.len c.self.view_is in omega (arith, n, c.requires.within, c.self.invariant.most)

pub returns-clause-inner : goal.returns-clause-inner
returns-clause-inner c = λ j lt.
    let n = count_is _ c.self.inside.own c.self.inside.base c.self.inside.len c.self.view_is in
    let m = c.min-count.result in
    let bytes = take m c.args.bytes.now in
    let size : length bytes ≡ m = length-take-le m c.args.bytes.now (omega arith) in
    put_inner c.self.inside.base c.self.inside.len c.make_own.new.own c.put.new.self c.put.ensures.slots c.args.low bytes c.make_own.ensures.own (omega (arith, size, c.rest-here.ensures.page)) (omega (arith, n, size, c.requires.within)) c.put.ensures.this j (omega (arith, size, lt))
    ∙ get_or-take m c.args.bytes.now j 0 lt

pub returns-clause-outer : goal.returns-clause-outer
returns-clause-outer c = λ k out.
    let own = c.make_own.new.own in
    let m = c.min-count.result in
    let size : length (take m c.args.bytes.now) ≡ m = length-take-le m c.args.bytes.now (omega arith) in
    put_outer c.self.inside.base c.self.inside.len own c.put.new.self c.put.ensures.slots c.args.low (length (take m c.args.bytes.now)) c.put.ensures.others k (⊎_elim (λ lt. inl lt) (λ le. inr (omega (arith, size, le))) out)
    ∙ ap (λ (l : List ℕ). get_or l k 0) (same_items c.self.inside.own own c.self.inside.base c.self.inside.base c.self.inside.len (λ i lt. c.make_own.ensures.bytes i)) ∙ ap (λ v. get_or v.items k 0) c.self.view_is
