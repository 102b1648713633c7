use Rattle.std.proofs.Common.{◌≡◌, ◌<◌, ◌+◌, ℕ, Some, sym, ◌∙◌, ap, subst, arith}
use Rattle.std.specs.Prelude.{option_map}
use Rattle.pm_region.specs.Words.{lasts}
use Rattle.log_entry.specs.Reading.{size_of, version_of}
use Rattle.log_entry.specs.Words.{words_from}
use Rattle.log_entry.specs.Batches.{scan_of}
use Rattle.log_entry.proofs.Clients.{length-words}
use Rattle.core_log.specs.Walking.{IsBetween, peek_at}
use Rattle.core_log.proofs.WalkLaws.{none_left, found, next_is_between, next_is_spelled, word_of, entry_fits, entry_fields, peek_is}
use Rattle.core_log.proofs.walking.peek_from.Goals as goal

pub returns-then-at-tail-clause-told : goal.returns-then-at-tail-clause-told
returns-then-at-tail-clause-told g c = λ telling.
    let s = g.R.Region.state c.args.region.now in
    let f = lasts s in
    let ws = words_from f c.args.first c.args.tail in
    let long = length-words f c.args.first c.args.tail in
    let skip = c.skip_zeros-at.ensures in
    let i = c.skip_zeros-at.result in
    let end = skip.end in
    let past = c.if-at-tail.true in
    ap (option_map (peek_at c.args.first)) (sym (none_left ws (c.requires.spelled telling) c.args.place (c.requires.between telling) (omega (arith, long, c.requires.place)) i skip.from
    (λ k low lt. word_of f c.args.first c.args.tail k (omega (arith, lt, end)) ∙ skip.zeros telling k low lt) (omega (arith, long, end, past))))

pub returns-then-size-tail-clause-told : goal.returns-then-size-tail-clause-told
returns-then-size-tail-clause-told g c = λ telling.
    let s = g.R.Region.state c.args.region.now in
    let f = lasts s in
    let ws = words_from f c.args.first c.args.tail in
    let long = length-words f c.args.first c.args.tail in
    let skip = c.skip_zeros-at.ensures in
    let i = c.skip_zeros-at.result in
    let end = skip.end in
    let below = c.if-at-tail.false in
    let here : i < c.args.tail = omega (arith, below) in
    let it = found ws (c.requires.spelled telling) c.args.place (c.requires.between telling) (omega (arith, long, c.requires.place)) i skip.from
    (λ k low lt. word_of f c.args.first c.args.tail k (omega (arith, lt, end)) ∙ skip.zeros telling k low lt) (λ zero. skip.some telling here (sym (word_of f c.args.first c.args.tail i here) ∙ zero)) in
    let spelled = next_is_spelled ws (c.requires.spelled telling) c.args.place (c.requires.between telling) (omega (arith, long, c.requires.place)) (i, it.entry) it.next in
    let fits = entry_fits f c.args.first c.args.tail (i, it.entry) spelled in
    let fields = entry_fields f c.args.first c.args.tail (i, it.entry) spelled in
    let size : c.size_of-size.result ≡ size_of (f (c.args.first + i)) = c.size_of-size.ensures.value ∙ ap size_of (c.load-word.ensures telling) in
    let more = c.if-size-tail.true in
    absurd (omega (arith, fits, fields.0, size, more))

pub returns-clause-told : goal.returns-clause-told
returns-clause-told g c = λ telling.
    let s = g.R.Region.state c.args.region.now in
    let f = lasts s in
    let ws = words_from f c.args.first c.args.tail in
    let long = length-words f c.args.first c.args.tail in
    let skip = c.skip_zeros-at.ensures in
    let i = c.skip_zeros-at.result in
    let end = skip.end in
    let below = c.if-at-tail.false in
    let here : i < c.args.tail = omega (arith, below) in
    let it = found ws (c.requires.spelled telling) c.args.place (c.requires.between telling) (omega (arith, long, c.requires.place)) i skip.from
    (λ k low lt. word_of f c.args.first c.args.tail k (omega (arith, lt, end)) ∙ skip.zeros telling k low lt) (λ zero. skip.some telling here (sym (word_of f c.args.first c.args.tail i here) ∙ zero)) in
    let spelled = next_is_spelled ws (c.requires.spelled telling) c.args.place (c.requires.between telling) (omega (arith, long, c.requires.place)) (i, it.entry) it.next in
    let size : c.size_of-size.result ≡ size_of (f (c.args.first + i)) = c.size_of-size.ensures.value ∙ ap size_of (c.load-word.ensures telling) in
    let version : c.version_of.result ≡ version_of (f (c.args.first + i)) = c.version_of.ensures ∙ ap version_of (c.load-word.ensures telling) in
    (λ j. Some (record { name = record { key = c.load.ensures telling j; version = version j }; place = i; next = i + size j; at = c.args.first + i }))
    ∙ peek_is f c.args.first c.args.tail (i, it.entry) spelled ∙ ap (option_map (peek_at c.args.first)) (sym it.next)

pub returns-clause-next : goal.returns-clause-next
returns-clause-next g c = λ telling.
    let s = g.R.Region.state c.args.region.now in
    let f = lasts s in
    let ws = words_from f c.args.first c.args.tail in
    let long = length-words f c.args.first c.args.tail in
    let skip = c.skip_zeros-at.ensures in
    let i = c.skip_zeros-at.result in
    let end = skip.end in
    let below = c.if-at-tail.false in
    let here : i < c.args.tail = omega (arith, below) in
    let it = found ws (c.requires.spelled telling) c.args.place (c.requires.between telling) (omega (arith, long, c.requires.place)) i skip.from
    (λ k low lt. word_of f c.args.first c.args.tail k (omega (arith, lt, end)) ∙ skip.zeros telling k low lt) (λ zero. skip.some telling here (sym (word_of f c.args.first c.args.tail i here) ∙ zero)) in
    let spelled = next_is_spelled ws (c.requires.spelled telling) c.args.place (c.requires.between telling) (omega (arith, long, c.requires.place)) (i, it.entry) it.next in
    let fields = entry_fields f c.args.first c.args.tail (i, it.entry) spelled in
    let size : c.size_of-size.result ≡ size_of (f (c.args.first + i)) = c.size_of-size.ensures.value ∙ ap size_of (c.load-word.ensures telling) in
    let next = next_is_between ws (c.requires.spelled telling) c.args.place (c.requires.between telling) (omega (arith, long, c.requires.place)) (i, it.entry) it.next in
    subst (λ (n : ℕ). IsBetween (i + n) (scan_of ws).entries) (fields.0 ∙ sym size) next
