-- One step of a scan, at a place of a list.
use Rattle.std.proofs.Common.{◌≡◌, ◌≢◌, ℕ, zero, suc, ◌+◌, ◌-◌, ◌%◌, ◌<◌, ◌≤◌, List, [], ◌∷◌, length, drop, get_or, refl, sym, ◌∙◌, ap, arith, ◌==◌, ◌&&◌, not, true, false, Bool}
use Rattle.std.proofs.lemmas.List.{drop_more}
use Rattle.std.proofs.lemmas.Bool.{ne_eqb, eq-eqb}
use Rattle.log_entry.specs.declared.entry.Entry.{Entry}
use Rattle.log_entry.specs.declared.entry.Read.TheVariants as reads
use Rattle.log_entry.specs.Reading.{read}
use Rattle.log_entry.specs.Batches.{ended, broken, with_entry, scan}

module _ (ws : List ℕ) (p : ℕ) (within : p < length ws) where
  more : drop p ws ≡ get_or ws p 0 ∷ drop (p + 1) ws
  more = drop_more ws p 0 within

  module _ (padded : Bool) (inside : (padded && not (p % 8 == 0)) ≡ true) where
    pub stops_at : get_or ws p 0 ≢ 0 → scan p 0 padded (drop p ws) ≡ broken
    stops_at some = let ne : (get_or ws p 0 == 0) ≡ false = ne_eqb (get_or ws p 0) 0 some in ap (scan p 0 padded) more ∙ rw (inside, ne) refl

    pub zero_at : get_or ws p 0 ≡ 0 → scan p 0 padded (drop p ws) ≡ scan (p + 1) 0 true (drop (p + 1) ws)
    zero_at none = let e : (get_or ws p 0 == 0) ≡ true = eq-eqb (get_or ws p 0) 0 none in ap (scan p 0 padded) more ∙ rw (inside, e) refl

  module _ (padded : Bool) (outside : (padded && not (p % 8 == 0)) ≡ false) where
    pub entry_at : (e : Entry) (n : ℕ) → read (drop p ws) ≡ reads.Entry e n → scan p 0 padded (drop p ws) ≡ with_entry p e (scan (p + 1) (n - 1) false (drop (p + 1) ws))
    entry_at e n is = let front : read (get_or ws p 0 ∷ drop (p + 1) ws) ≡ reads.Entry e n = ap read (sym more) ∙ is in ap (scan p 0 padded) more ∙ rw (outside, front) refl

    pub bad_at : (rule : ℕ) → read (drop p ws) ≡ reads.BadEntry rule → scan p 0 padded (drop p ws) ≡ broken
    bad_at rule is = let front : read (get_or ws p 0 ∷ drop (p + 1) ws) ≡ reads.BadEntry rule = ap read (sym more) ∙ is in ap (scan p 0 padded) more ∙ rw (outside, front) refl

    pub line_at : read (drop p ws) ≡ reads.Padding → p % 8 ≡ 0 → scan p 0 padded (drop p ws) ≡ broken
    line_at is line = let front : read (get_or ws p 0 ∷ drop (p + 1) ws) ≡ reads.Padding = ap read (sym more) ∙ is in let at : (p % 8 == 0) ≡ true = eq-eqb (p % 8) 0 line in ap (scan p 0 padded) more ∙ rw outside (rw (front, at) refl)

    pub pad_at : read (drop p ws) ≡ reads.Padding → p % 8 ≢ 0 → scan p 0 padded (drop p ws) ≡ scan (p + 1) 0 true (drop (p + 1) ws)
    pad_at is line = let front : read (get_or ws p 0 ∷ drop (p + 1) ws) ≡ reads.Padding = ap read (sym more) ∙ is in let at : (p % 8 == 0) ≡ false = ne_eqb (p % 8) 0 line in ap (scan p 0 padded) more ∙ rw outside (rw (front, at) refl)

-- The same of what the code knows.
module _ (ws : List ℕ) (p : ℕ) (padded : Bool) (within : p < length ws) (outside : (padded && not (p % 8 == 0)) ≡ false) where
  pub finds : (e : Entry) (n : ℕ) → reads.Entry e n ≡ read (drop p ws) → scan p 0 padded (drop p ws) ≡ with_entry p e (scan (p + 1) (n - 1) false (drop (p + 1) ws))
  finds e n is = entry_at ws p within padded outside e n (sym is)

  pub refuses : (rule : ℕ) → reads.BadEntry rule ≡ read (drop p ws) → scan p 0 padded (drop p ws) ≡ broken
  refuses rule is = bad_at ws p within padded outside rule (sym is)

  pub pads : reads.Padding ≡ read (drop p ws) → p % 8 ≢ 0 → scan p 0 padded (drop p ws) ≡ scan (p + 1) 0 true (drop (p + 1) ws)
  pads is line = pad_at ws p within padded outside (sym is) line

  pub ends_line : reads.Padding ≡ read (drop p ws) → p % 8 ≡ 0 → scan p 0 padded (drop p ws) ≡ broken
  ends_line is line = line_at ws p within padded outside (sym is) line

-- Words that are left of an entry are passed over.
pub passes : (left p : ℕ) (padded : Bool) (xs : List ℕ) → left ≤ length xs → scan p left padded xs ≡ scan (p + left) 0 padded (drop left xs)
passes zero p padded xs within = let e : p ≡ p + 0 = omega arith in ap (λ n. scan n 0 padded xs) e
passes (suc left) p padded [] within = let bad : ⊥ = omega (arith, within) in absurd bad
passes (suc left) p padded (w ∷ ws) within =
    let e : p + 1 + left ≡ p + suc left = omega arith in
    passes left (p + 1) padded ws (omega (arith, within)) ∙ ap (λ n. scan n 0 padded (drop left ws)) e

-- With as many words left as there are, or more, the end is reached.
pub passes_all : (left p : ℕ) (padded : Bool) (xs : List ℕ) → length xs ≤ left → scan p left padded xs ≡ ended
passes_all left p padded [] within = refl
passes_all zero p padded (w ∷ ws) within = let bad : ⊥ = omega (arith, within) in absurd bad
passes_all (suc left) p padded (w ∷ ws) within = passes_all left (p + 1) padded ws (omega (arith, within))
