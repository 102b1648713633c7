use Rattle.std.proofs.Common.{◌==◌, ℕ, Bool, not, length, take, refl, ap, arith, length-append}
use Rattle.std.proofs.lemmas.List.{length-take-le}
use Rattle.std.proofs.lemmas.List.Filters.{length-filter_both}
use Rattle.log_entry.specs.declared.entry.EntryName.{EntryName}
use Rattle.chunk_map.specs.Layouts.{owner}
use Rattle.group_board.specs.Names.{NameList}
use Rattle.core_worker.specs.GoneMail.{names_of}
use Rattle.core_worker.proofs.gone_mail.file_names.Goals as goal

pub push-requires : goal.push-requires
push-requires c =
    let i = c.loop-name.name-index in
    let had = ap {B = ℕ} (λ (g : NameList). length g.names) c.loop-name.invariant in
    let same = ap {B = ℕ} (λ (g : NameList). g.room) c.loop-name.invariant in
    let here : EntryName → Bool = λ x. owner c.args.layout.now x.key == c.args.core in
    let all = length-filter_both here (λ x. not (here x)) (λ x. refl) (take i c.args.names.now) in
    let long = length-append c.args.gone.now.names (names_of c.args.layout.now c.args.core (take i c.args.names.now)) in
    let low = c.loop-name-test.true in
    let few = length-take-le i c.args.names.now (omega (arith, low)) in
    let places = c.requires.places in
    omega (arith, had, same, all, long, few, low, places)
