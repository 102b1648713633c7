use Rattle.std.proofs.Common.{◌≡◌, ◌-◌, ◌<◌, length, get_or, sym, ◌∙◌, ap, arith}
use Rattle.std.proofs.lemmas.Bool.{ltb-true}
use Rattle.std.proofs.lemmas.Option.{get_or_from_slice_get}
use Rattle.core_index.specs.Tombs.{key_of, bare_tombstone}
use Rattle.core_index.proofs.TombLaws.{all_less}
use Rattle.core_index.proofs.tombstone_list.are_less.Goals as goal

pub returns-in-Some : goal.returns-in-Some
returns-in-Some c = λ lt.
    let xs = c.args.items.now in
    let read : get_or xs (length xs - 1) bare_tombstone ≡ c.in-Some.last.now = get_or_from_slice_get xs (length xs - 1) c.in-Some.last.now bare_tombstone (sym c.in-Some.ensures.value) in
    let below : c.key_of.result < c.args.key = ltb-true c.key_of.result c.args.key lt in
    let is : c.key_of.result ≡ key_of (get_or xs (length xs - 1) bare_tombstone) = c.key_of.ensures ∙ ap key_of (sym read) in
    all_less xs c.args.key bare_tombstone c.requires (λ some. omega (arith, below, is))
