-- The answer of reading is right, and the only right one.
use Rattle.std.proofs.Common.{◌≡◌, ◌≢◌, ℕ, List, ◌++◌, length, get_or, refl, sym, ◌∙◌, ap, append-nil, ◌==◌, true, false, Bool, cond, Option, Some, None}
use Rattle.std.proofs.lemmas.Bool.{eqb-true, eqb-false, eq-eqb}
use Rattle.log_entry.specs.declared.entry.Entry.{Entry}
use Rattle.log_entry.specs.declared.entry.Read.{Read}
use Rattle.log_entry.specs.declared.entry.Read.TheVariants as reads
use Rattle.log_entry.specs.Spelling.{words_of, HasSpelling}
use Rattle.log_entry.specs.Reading.{read, read_by, entry_rule}
use Rattle.log_entry.specs.Grammar.{Tells, IsReading, IsNoPrefix}
use Rattle.log_entry.proofs.Bytes.{AreWords}
use Rattle.log_entry.proofs.Spellings.{read_spelled}
use Rattle.log_entry.proofs.Exact.{read_exact}

-- a bad entry is one by its first broken rule, and no zero word
read_bad : (ws : List ℕ) (rule : ℕ) → read ws ≡ reads.BadEntry rule → (get_or ws 0 0 ≢ 0) × (entry_rule ws ≡ Some rule)
unfolding read
read_bad ws rule is = by_zero (get_or ws 0 0 == 0) refl is where
  by_rule : (r : Option ℕ) → entry_rule ws ≡ r → read_by ws r ≡ reads.BadEntry rule → entry_rule ws ≡ Some rule
  by_rule None e q = cc q
  by_rule (Some x) e q = let same : x ≡ rule = cc q in e ∙ ap Some same

  by_zero : (b : Bool) → (get_or ws 0 0 == 0) ≡ b → cond b reads.Padding (read_by ws (entry_rule ws)) ≡ reads.BadEntry rule → (get_or ws 0 0 ≢ 0) × (entry_rule ws ≡ Some rule)
  by_zero true z q = cc q
  by_zero false z q = (eqb-false (get_or ws 0 0) 0 z, by_rule (entry_rule ws) refl q)

zero_is_padding : (ws : List ℕ) → get_or ws 0 0 ≡ 0 → read ws ≡ reads.Padding
unfolding read
zero_is_padding ws z = let e : (get_or ws 0 0 == 0) ≡ true = eq-eqb (get_or ws 0 0) 0 z in rw e refl

padding_is_zero : (ws : List ℕ) → read ws ≡ reads.Padding → get_or ws 0 0 ≡ 0
unfolding read
padding_is_zero ws is = by_zero (get_or ws 0 0 == 0) refl is where
  no_rule : (r : Option ℕ) → read_by ws r ≡ reads.Padding → ⊥
  no_rule None e = cc e
  no_rule (Some r) e = cc e

  by_zero : (b : Bool) → (get_or ws 0 0 == 0) ≡ b → cond b reads.Padding (read_by ws (entry_rule ws)) ≡ reads.Padding → get_or ws 0 0 ≡ 0
  by_zero true z q = eqb-true (get_or ws 0 0) 0 z
  by_zero false z q = absurd (no_rule (entry_rule ws) q)

read_front : (ws : List ℕ) (e : Entry) → HasSpelling e → (rest : List ℕ) → ws ≡ words_of e ++ rest → read ws ≡ reads.Entry e (length (words_of e))
read_front ws e has rest is = ap read is ∙ read_spelled e has rest

tells : (ws : List ℕ) → AreWords ws → (r : Read) → read ws ≡ r → Tells ws r
tells ws words (reads.Entry e n) is = let s = read_exact ws e n words is in record { spelling = s.0; size = s.1; front = s.2 }
tells ws words reads.Padding is = padding_is_zero ws is
tells ws words (reads.BadEntry rule) is =
    let bad = read_bad ws rule is in
    (bad.0, bad.1, record { none = λ e has rest front. (let q : reads.BadEntry rule ≡ reads.Entry e (length (words_of e)) = sym is ∙ read_front ws e has rest front in cc q) })

pub reading_of : (ws : List ℕ) → AreWords ws → IsReading ws (read ws)
reading_of ws words = record {
  spelled = read_front ws;
  padding = zero_is_padding ws;
  tells = tells ws words (read ws) refl;
}

-- no spelling is a proper prefix of another's
pub no_prefix : (e : Entry) → HasSpelling e → IsNoPrefix e
no_prefix e has = record {
  alone = λ f spelled rest front.
      (let q : reads.Entry f (length (words_of f)) ≡ reads.Entry e (length (words_of e)) = sym (read_spelled f spelled _) ∙ ap read (append-nil (words_of f) ∙ front) ∙ read_spelled e has rest in cc q);
}
