use Rattle.std.proofs.Common.{◌∙◌, ap}
use Rattle.pm_region.specs.Words.{lasts}
use Rattle.log_entry.specs.Reading.{size_of}
use Rattle.log_entry.specs.Words.{words_from}
use Rattle.log_entry.proofs.Clients.{words_loaded}
use Rattle.recover.proofs.reading.words_there.Goals as goal

pub returns-clause-told : goal.returns-clause-told
returns-clause-told g c = λ telling.
    let image = lasts (g.R.Region.state c.args.region.now) in
    words_loaded image c.args.at c.size_of-size.result c.fill_words.new.words.items c.in_ok-fill_words.ensures.long (c.in_ok-fill_words.ensures.words telling)
    ∙ ap (words_from image c.args.at) (c.size_of-size.ensures.value ∙ ap size_of (c.load.ensures telling))
