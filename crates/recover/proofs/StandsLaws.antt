-- What is read where an entry was found.
use Rattle.std.proofs.Common.{◌≡◌, ℕ, suc, ◌+◌, ◌/◌, ◌<◌, ◌≤◌, ◌==◌, Bool, true, false, cond, List, [], ◌∷◌, length, drop, get_or, Option, Some, None, refl, sym, ◌∙◌, ap, arith, append-nil}
use Rattle.std.proofs.lemmas.Bool.{eq-eqb}
use Rattle.log_entry.specs.declared.entry.Entry.{Entry}
use Rattle.log_entry.specs.declared.entry.Read.{Read}
use Rattle.log_entry.specs.declared.entry.Read.TheVariants as reads
use Rattle.log_entry.specs.Words.{words_from}
use Rattle.log_entry.specs.declared.entry.Body.{Body}
use Rattle.log_entry.specs.declared.entry.Body.TheVariants.{Pointer, Embedded, Tombstone}
use Rattle.core_index.specs.Records.{pointer_of}
use Rattle.log_entry.specs.Spelling.{words_of, body_words, HasSpelling}
use Rattle.log_entry.specs.Reading.{size_of, entry_rule, entry_of, body_of, read_by, read}
use Rattle.log_entry.proofs.Clients.{read_spelled}
use Rattle.chunk_map.specs.declared.layouts.Geometry.{Geometry}
use Rattle.chunk_map.specs.Layouts.{total_bytes}
use Rattle.core_log.proofs.Clients.{first_is, fields_read, word_of}
use Rattle.recover.specs.declared.found_entries.Found.{Found}
use Rattle.recover.specs.FoundEntries.{body_at, entry_at, Stands, HasWords, body_named}

-- the words of an entry are read as it is
pub alone : (e : Entry) → HasSpelling e → read (words_of e) ≡ reads.Entry e (length (words_of e))
alone e has = ap read (sym (append-nil (words_of e))) ∙ read_spelled e has []

pub body_read : (ws : List ℕ) (e : Entry) (n : ℕ) → read ws ≡ reads.Entry e n → body_of ws ≡ e.body
unfolding read
body_read ws e n is = by_zero (get_or ws 0 0 == 0) is
  where
    by_rule : (r : Option ℕ) → read_by ws r ≡ reads.Entry e n → body_of ws ≡ e.body
    by_rule None same = let f : entry_of ws ≡ e = cc same in ap (λ (x : Entry). x.body) f
    by_rule (Some rule) same = absurd (cc same)

    by_zero : (b : Bool) → cond b reads.Padding (read_by ws (entry_rule ws)) ≡ reads.Entry e n → body_of ws ≡ e.body
    by_zero true same = absurd (cc same)
    by_zero false same = by_rule (entry_rule ws) same

module _ (image : ℕ → ℕ) (at : ℕ) (e : Entry) (has : HasSpelling e) (words : words_from image at (length (words_of e)) ≡ words_of e) where
  pub size_there : length (words_of e) ≡ size_of (image at)
  size_there =
      let is = fields_read (words_of e) e (length (words_of e)) (alone e has) in
      let two = (first_is e).0 in
      let zero_at : at + 0 ≡ at = omega arith in
      let head : get_or (words_of e) 0 0 ≡ image at = ap (λ (l : List ℕ). get_or l 0 0) (sym words) ∙ word_of image at (length (words_of e)) 0 (omega (arith, two)) ∙ ap image zero_at in
      is.0 ∙ ap size_of head

  pub words_there : words_from image at (size_of (image at)) ≡ words_of e
  words_there = ap (words_from image at) (sym size_there) ∙ words

  pub body_there : body_at image at ≡ e.body
  unfolding body_at
  body_there = ap body_of words_there ∙ body_read (words_of e) e (length (words_of e)) (alone e has)

-- an entry that stands there is read
module _ (l : Geometry) (image : ℕ → ℕ) (f : Found) (stands : Stands l image f) where
  pub stands_read : (ws : List ℕ) → ws ≡ words_from image f.at (size_of (image f.at)) → read (drop 0 ws) ≡ reads.Entry (entry_at image f) (length (words_of (entry_at image f)))
  stands_read ws is = ap read (is ∙ words_there image f.at (entry_at image f) stands.spelling stands.words) ∙ alone (entry_at image f) stands.spelling

  pub not_out : (ws : List ℕ) → HasWords image (total_bytes l / 8) f.at false ws → ⊥
  not_out ws out = let size = size_there image f.at (entry_at image f) stands.spelling stands.words in let low = stands.within in omega (arith, out, size, low)

  pub body_found : (r : Read) → r ≡ reads.Entry (entry_at image f) (length (words_of (entry_at image f))) → body_named r f ≡ Some (body_at image f.at)
  body_found r is = ap (λ r. body_named r f) is ∙ rw (eq-eqb f.key f.key refl, eq-eqb f.version f.version refl) refl

  -- one of two words is read from these
  pub two_read : (one two : ℕ) → one ≡ image f.at → two ≡ image (f.at + 1) → size_of (image f.at) ≡ 2 → read (one ∷ two ∷ []) ≡ reads.Entry (entry_at image f) (length (words_of (entry_at image f)))
  two_read one two first second size =
      let next : f.at + 1 ≡ suc f.at = omega arith in
      let words : one ∷ two ∷ [] ≡ words_from image f.at 2 = λ i. first i ∷ (second ∙ ap image next) i ∷ [] in
      stands_read (one ∷ two ∷ []) (words ∙ ap (words_from image f.at) (sym size))

  -- one with a value beside it has no pointer, and each has two words
  pub none_beside : 2 < size_of (image f.at) → None ≡ pointer_of (body_at image f.at)
  none_beside more = by_body (body_at image f.at) (size_there image f.at (entry_at image f) stands.spelling stands.words) where
    by_body : (b : Body) → length (body_words f.key f.version b) ≡ size_of (image f.at) → None ≡ pointer_of b
    by_body (Pointer p) size = let two : length (body_words f.key f.version (Pointer p)) ≡ 2 = refl in absurd (omega (arith, size, two, more))
    by_body (Embedded v) size = refl
    by_body Tombstone size = refl

  pub words_left : f.at + 2 ≤ total_bytes l / 8
  words_left = let low = (first_is (entry_at image f)).0 in let within = stands.within in omega (arith, low, within)

  pub pointer_read : (r : Read) → r ≡ reads.Entry (entry_at image f) (length (words_of (entry_at image f))) → (e : Entry) (n : ℕ) → r ≡ reads.Entry e n → pointer_of e.body ≡ pointer_of (body_at image f.at)
  pointer_read r is e n read_is = let same : e ≡ entry_at image f = cc (sym read_is ∙ is) in ap (λ (x : Entry). pointer_of x.body) same
