use Rattle.std.proofs.Common.{◌≡◌, ℕ, ◌++◌, List, [], ◌∷◌, length, sym, ◌∙◌, ap, arith, append_assoc, append-nil, length-append, lit<, lit≤}
use Rattle.std.specs.List.{flat_map, AllByRecursion}
use Rattle.log_entry.specs.declared.entry.Entry.{Entry}
use Rattle.log_entry.specs.declared.entry.Body.TheVariants.{Tombstone}
use Rattle.log_entry.specs.Spelling.{words_of, HasSpelling}
use Rattle.core_log_tests.proofs.append_tests.tombstones.Goals as goal

-- the words of one entry more
moved : (es : List Entry) (e : Entry) → flat_map words_of (es ++ e ∷ []) ≡ flat_map words_of es ++ words_of e
moved [] e = append-nil (words_of e)
moved (x ∷ es) e = ap (λ (l : List ℕ). words_of x ++ l) (moved es e) ∙ sym (append_assoc (words_of x) (flat_map words_of es) (words_of e))

all_more : (es : List Entry) (e : Entry) → AllByRecursion HasSpelling es → HasSpelling e → AllByRecursion HasSpelling (es ++ e ∷ [])
all_more [] e all is = (is, tt)
all_more (x ∷ es) e all is = (all.0, all_more es e all.1 is)

pub loop-preserved : goal.loop-preserved
loop-preserved c =
    let was = c.loop.invariant in
    let e : Entry = record { key = 5; version = 2; body = Tombstone } in
    let words : c.write_entry.new.buf.words ≡ c.loop.batch.words ++ words_of e = c.write_entry.ensures.words in
    let more = length-append was.entries (e ∷ []) in
    let long = ap length words ∙ length-append c.loop.batch.words (words_of e) in
    let many = was.many in
    let before = was.long in
    record {
      entries = was.entries ++ e ∷ [];
      words = words ∙ ap (λ (l : List ℕ). l ++ words_of e) was.words ∙ sym (moved was.entries e);
      many = omega (arith, more, many);
      long = omega (arith, long, before);
      each = all_more was.entries e was.each (record { key = lit< tt; fits = (lit≤ tt, lit≤ tt) });
      room_is = c.write_entry.ensures.room ∙ was.room_is;
    }
