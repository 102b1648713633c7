use Rattle.std.proofs.Common.{◌≡◌, inl, inr, ⊎_elim, ◌+◌, length, take, sym, ◌∙◌, arith}
use Rattle.std.proofs.lemmas.Bool.{cases_eq}
use Rattle.std.proofs.lemmas.List.{get_or-take, length-take-le}
use Rattle.region_file.proofs.Paging.{count_is, item_is}
use Rattle.region_file.proofs.file_bytes.FileBytes.rest.Goals as goal

pub overflow_sub-self-inside : goal.overflow_sub-self-inside
overflow_sub-self-inside c = let n = count_is _ c.self.inside.own c.self.inside.base c.self.inside.len c.self.view_is in omega (arith, n, c.requires)

pub own_or_under-part-requires : goal.own_or_under-part-requires
own_or_under-part-requires c = let n = count_is _ c.self.inside.own c.self.inside.base c.self.inside.len c.self.view_is in omega (arith, n, c.requires, c.self.invariant.most)

size : (c : goal.After-min) → length (take c.min.result c.own_or_under-part.result.now) ≡ c.min.result
size c = length-take-le c.min.result c.own_or_under-part.result.now (omega arith)

pub returns-clause-some : goal.returns-clause-some
returns-clause-some c = let n = count_is _ c.self.inside.own c.self.inside.base c.self.inside.len c.self.view_is in let s = size c in omega (arith, n, s, c.requires)

pub returns-clause-within : goal.returns-clause-within
returns-clause-within c = let n = count_is _ c.self.inside.own c.self.inside.base c.self.inside.len c.self.view_is in let s = size c in omega (arith, n, s, c.requires)

pub returns-clause-end : goal.returns-clause-end
returns-clause-end c =
    let n = count_is _ c.self.inside.own c.self.inside.base c.self.inside.len c.self.view_is in
    let s = size c in
    ⊎_elim (λ e. inr e) (λ ne. inl (omega (arith, n, s, c.requires, ne))) (cases_eq (c.args.low + length (take c.min.result c.own_or_under-part.result.now)) (length c.args.self.now.items))

pub returns-clause-bytes : goal.returns-clause-bytes
returns-clause-bytes c = λ j lt.
    let n = count_is _ c.self.inside.own c.self.inside.base c.self.inside.len c.self.view_is in
    let s = size c in
    get_or-take c.min.result c.own_or_under-part.result.now j 0 (omega (arith, s, lt)) ∙ c.own_or_under-part.ensures.bytes j (omega (arith, s, lt)) (omega (arith, s, lt))
    ∙ sym (item_is _ c.self.inside.own c.self.inside.base c.self.inside.len (c.args.low + j) c.self.view_is (omega (arith, n, s, lt, c.requires)))
