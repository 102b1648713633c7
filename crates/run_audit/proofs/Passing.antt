-- The lines before the line `replies`, passed one by one.
use Rattle.std.proofs.Common.{◌≡◌, ℕ, ◌+◌, ◌-◌, ◌<◌, inl, inr, Bool, true, false, List, [], ◌∷◌, ◌++◌, length, take, refl, sym, ap, ◌∙◌, subst, arith, length-append, append_assoc}
use Rattle.std.specs.Prelude.{◌⊎◌, bytes_eq, codes}
use Rattle.std.specs.List.{AllByRecursion}
use Rattle.std.proofs.lemmas.List.{append-nil, take_at, nil_from_length}
use Rattle.fs_text.specs.Input.{lines_of}
use Rattle.fs_text.specs.Output.{ended}
use Rattle.run_audit.specs.declared.parted_line.PartedLine.{PartedLine}
use Rattle.run_audit.specs.declared.parting.Parts.{Parts}
use Rattle.run_audit.specs.Parting.{IsParted, IsPartedAtReplies}
use Rattle.run_audit.specs.Replies.{is_replies, before_replies, from_replies}
use Rattle.run_audit.proofs.Lines.{lines_of_line}

abbrev pub Free : List (List ℕ × Bool) → Type 0
Free ls = AllByRecursion (λ x. is_replies x ≡ false) ls

-- What follows a whole text has lines of its own.
abbrev pub IsWhole : List ℕ → Type 0
IsWhole p = (more : List ℕ) → lines_of (p ++ more) ≡ lines_of p ++ lines_of more

-- so much of the text was passed, in so many lines
pub record Passed (bytes rest : List ℕ) (lines : ℕ) : Type 0 where
  pub front : List ℕ
  pub all : bytes ≡ front ++ rest
  pub parted : lines_of bytes ≡ lines_of front ++ lines_of rest
  pub whole : IsWhole front ⊎ (rest ≡ [])
  pub free : Free (lines_of front)
  pub count : lines ≡ length (lines_of front)

pub passed_none : (bytes : List ℕ) → Passed bytes bytes 0
passed_none bytes = record { front = []; all = refl; parted = refl; whole = inl (λ more. refl); free = tt; count = refl }

free_push : (ls : List (List ℕ × Bool)) (x : List ℕ × Bool) → Free ls → is_replies x ≡ false → Free (ls ++ x ∷ [])
free_push [] x h e = (e, tt)
free_push (l ∷ ls) x h e = (h.0, free_push ls x h.1 e)

pub free_before : (ls ms : List (List ℕ × Bool)) → Free ls → before_replies (ls ++ ms) ≡ ls ++ before_replies ms
free_before [] ms h = refl
free_before (l ∷ ls) ms h = rw h.0 (ap (λ k. l ∷ k) (free_before ls ms h.1))

pub free_from : (ls ms : List (List ℕ × Bool)) → Free ls → from_replies (ls ++ ms) ≡ from_replies ms
free_from [] ms h = refl
free_from (l ∷ ls) ms h = rw h.0 (free_from ls ms h.1)

-- one line with its newline behind a whole text
whole_line : (p line : List ℕ) → IsWhole p → ((more : List ℕ) → lines_of (ended line ++ more) ≡ (line, true) ∷ lines_of more)
    → (lines_of (p ++ ended line) ≡ lines_of p ++ (line, true) ∷ []) × IsWhole (p ++ ended line)
whole_line p line w one =
    let alone : lines_of (p ++ ended line) ≡ lines_of p ++ (line, true) ∷ [] = w (ended line) ∙ ap (λ l. lines_of p ++ l) (ap lines_of (sym (append-nil (ended line))) ∙ one []) in (
      alone,
      λ more. ap lines_of (append_assoc p (ended line) more) ∙ w (ended line ++ more) ∙ ap (λ l. lines_of p ++ l) (one more)
          ∙ sym (append_assoc (lines_of p) ((line, true) ∷ []) (lines_of more)) ∙ ap (λ l. l ++ lines_of more) (sym alone),
    )

pub passed_line : (bytes rest : List ℕ) (lines : ℕ) (x : PartedLine) → Passed bytes rest lines → 0 < length rest → IsParted rest x → bytes_eq x.text.now (codes "replies") ≡ false
    → Passed bytes x.rest.now (lines + 1)
passed_line bytes rest lines x p some parted other = elim p.whole [
  | inl w ↦ by_end w x.ended refl
  | inr none ↦ (let h : length rest ≡ 0 = ap length none in absurd (omega arith))
]
  where
    by_end : IsWhole p.front → (t : Bool) → x.ended ≡ t → Passed bytes x.rest.now (lines + 1)
    by_end w true e =
        let one = whole_line p.front x.text.now w (λ more. lines_of_line x.text.now more parted.short) in
        let all : bytes ≡ (p.front ++ ended x.text.now) ++ x.rest.now = p.all ∙ ap (λ l. p.front ++ l) (parted.line e) ∙ sym (append_assoc p.front (ended x.text.now) x.rest.now) in
        record {
          front = p.front ++ ended x.text.now;
          all = all;
          parted = ap lines_of all ∙ one.1 x.rest.now;
          whole = inl one.1;
          free = subst Free (sym one.0) (free_push (lines_of p.front) (x.text.now, true) p.free other);
          count = rw (p.count, one.0) (sym (length-append (lines_of p.front) ((x.text.now, true) ∷ [])));
        }
    by_end w false e =
        let last = parted.last e in
        let lines_are : lines_of bytes ≡ lines_of p.front ++ (x.text.now, false) ∷ [] =
        p.parted ∙ ap (λ l. lines_of p.front ++ l) (parted.lines ∙ rw (e, last.1) refl) in
        record {
          front = bytes;
          all = rw last.1 (sym (append-nil bytes));
          parted = rw last.1 (sym (append-nil (lines_of bytes)));
          whole = inr last.1;
          free = subst Free (sym lines_are) (free_push (lines_of p.front) (x.text.now, false) p.free other);
          count = rw (p.count, lines_are) (sym (length-append (lines_of p.front) ((x.text.now, false) ∷ [])));
        }

-- what is left begins with the line `replies`, or is nothing
abbrev pub IsStop : List ℕ → Type 0
IsStop rest = (before_replies (lines_of rest) ≡ []) × (from_replies (lines_of rest) ≡ lines_of rest)

pub stop_nothing : (rest : List ℕ) → length rest ≡ 0 → IsStop rest
stop_nothing rest h = rw (nil_from_length rest h) (refl, refl)

pub stop_replies : (rest : List ℕ) (x : PartedLine) → IsParted rest x → bytes_eq x.text.now (codes "replies") ≡ true → IsStop rest
stop_replies rest x parted here = rw (parted.lines, here) (refl, refl)

pub passed_all : (bytes rest : List ℕ) (lines : ℕ) (x : Parts) → Passed bytes rest lines → IsStop rest
    → x.trace.now ≡ take (length bytes - length rest) bytes → x.rest.now ≡ rest → x.lines ≡ lines → IsPartedAtReplies bytes x
passed_all bytes rest lines x p stop trace left count =
    let sizes : length p.front + length rest ≡ length bytes = sym (ap length p.all ∙ length-append p.front rest) in
    let n : length p.front ≡ length bytes - length rest = omega arith in
    let cut : x.trace.now ≡ p.front = trace ∙ ap (λ l. take (length bytes - length rest) l) p.all ∙ take_at p.front rest (length bytes - length rest) n in
    record {
      trace = ap lines_of cut ∙ sym (append-nil (lines_of p.front)) ∙ ap (λ l. lines_of p.front ++ l) (sym stop.0) ∙ sym (free_before (lines_of p.front) (lines_of rest) p.free) ∙ ap before_replies (sym p.parted);
      rest = ap lines_of left ∙ sym stop.1 ∙ sym (free_from (lines_of p.front) (lines_of rest) p.free) ∙ ap from_replies (sym p.parted);
      lines = count ∙ p.count ∙ ap (λ l. length (lines_of l)) (sym cut);
      sizes = rw (cut, left) sizes;
    }
