use Rattle.std.proofs.Common.{◌≡◌, ◌-◌, ◌<◌, length, get_or, sym, ◌∙◌, ap, arith}
use Rattle.std.proofs.lemmas.Bool.{ltb-true}
use Rattle.std.proofs.lemmas.Option.{get_or_from_slice_get}
use Rattle.core_index.specs.Lives.{live_key}
use Rattle.core_index.proofs.LiveLaws.{all_less, bare_live}
use Rattle.core_index.proofs.live_list.all_less.Goals as goal

pub returns-in-Some : goal.returns-in-Some
returns-in-Some c = λ lt.
    let xs = c.args.items.now in
    let read : get_or xs (length xs - 1) bare_live ≡ c.in-Some.last.now = get_or_from_slice_get xs (length xs - 1) c.in-Some.last.now bare_live (sym c.in-Some.ensures.value) in
    let below : c.key_of.result < c.args.key = ltb-true c.key_of.result c.args.key lt in
    let is : c.key_of.result ≡ live_key (get_or xs (length xs - 1) bare_live) = c.key_of.ensures ∙ ap live_key (sym read) in
    all_less xs c.args.key bare_live c.requires (λ some. omega (arith, below, is))
