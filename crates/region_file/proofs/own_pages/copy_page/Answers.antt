use Rattle.std.proofs.Common.{ℕ, arith}
use Rattle.std.proofs.lemmas.List.{length-replicate}
use Rattle.region_file.proofs.Paging.{page_copied}
use Rattle.region_file.proofs.own_pages.copy_page.Goals as goal

pub returns-clause-bytes : goal.returns-clause-bytes
returns-clause-bytes c = λ k.
    page_copied c.args.own.now c.store.new.self c.args.base.now c.args.page c.copy_under.new.room c.requires.none c.store.ensures.stored c.store.ensures.this c.store.ensures.others c.store.ensures.other_bytes (λ j lt. c.copy_under.ensures.bytes j (omega (arith, lt, c.copy_under.ensures.count, length-replicate {A = ℕ} 32768 0))) k
