use Rattle.std.proofs.Common.{◌≡◌, ◌+◌, ◌*◌, rules}
use Rattle.pm_region.specs.Words.{lasts}
use Rattle.log_entry.specs.Words.{words_from}
use Rattle.log_entry.proofs.Clients.{words_loaded}
use Rattle.lazy_alloc.proofs.values.value_in.Goals as goal

pub returns : goal.returns
returns g c = λ telling.
    let f = lasts (g.R.Region.state c.args.region.now) in
    let words : c.in_ok-words.words.items ≡ words_from f (32 * c.args.pointer + 1) c.words_for.result =
    words_loaded f (32 * c.args.pointer + 1) c.words_for.result c.in_ok-words.words.items c.in_ok-words.ensures.long (c.in_ok-words.ensures.words telling) in
    search (rules, words)
