-- How the lines of replies are read, one by one.
use Rattle.std.proofs.Common.{◌≡◌, ℕ, ◌+◌, ◌≤◌, Bool, true, List, [], ◌∷◌, ◌++◌, length, Result, Ok, Err, refl, sym, ap, ◌∙◌, arith, append_assoc, cond, length-append}
use Rattle.std.specs.Prelude.{nat_le}
use Rattle.std.specs.List.{AllByRecursion, sum_by}
use Rattle.std.proofs.lemmas.Bool.{cond-true, le-leb}
use Rattle.std.proofs.lemmas.List.Sums.{sum_by-cons}
use Rattle.fs_model.specs.declared.model.Reply.{Reply}
use Rattle.fs_text.specs.Input.{lines_of, size_with}
use Rattle.fs_text.specs.Output.{ended, reply_line, replies_text}
use Rattle.fs_text.specs.Reading.{numbered}
use Rattle.fs_text.proofs.Limits.{guarded, le_true, ok_no_error}
use Rattle.run_audit.specs.Parting.{IsWritable}
use Rattle.run_audit.specs.Replies.{reply_at, reply_of, known, replies_from, with_reply}
use Rattle.run_audit.proofs.Lines.{lines_of_line}
use Rattle.run_audit.proofs.Texts.{read_back}

-- replies that were read, and what is said of the rest
abbrev pub with_replies : List Reply → Result (List Reply) (ℕ × ℕ) → Result (List Reply) (ℕ × ℕ)
with_replies front (Ok rs) = Ok (front ++ rs)
with_replies front (Err e) = Err e

pub with_none : (r : Result (List Reply) (ℕ × ℕ)) → with_replies [] r ≡ r
with_none (Ok rs) = refl
with_none (Err e) = refl

with_more : (front : List Reply) (x : Reply) (r : Result (List Reply) (ℕ × ℕ)) → with_replies front (with_reply x r) ≡ with_replies (front ++ x ∷ []) r
with_more front x (Ok rs) = ap Ok (sym (append_assoc front (x ∷ []) rs))
with_more front x (Err e) = refl

un_numbered : (number : ℕ) (r : Result Reply ℕ) (y : Reply) → numbered number r ≡ Ok y → r ≡ Ok y
un_numbered number (Ok x) y h = cc h
un_numbered number (Err rule) y h = cc h

broken_at : (number : ℕ) (r : Result Reply ℕ) (e : ℕ × ℕ) → numbered number r ≡ Err e → (rule : ℕ) × (r ≡ Err rule) × ((number, rule) ≡ e)
broken_at number (Ok x) e h = cc h
broken_at number (Err rule) e h = (rule, refl, cc h)

pub reads_on : (front : List Reply) (number bytes replies : ℕ) (x : List ℕ × Bool) (xs : List (List ℕ × Bool)) (r : Reply)
    → numbered number (reply_at (bytes + size_with x) (replies + 1) x.0) ≡ Ok r
    → with_replies front (replies_from number bytes replies (x ∷ xs)) ≡ with_replies (front ++ r ∷ []) (replies_from (number + 1) (bytes + size_with x) (replies + 1) xs)
reads_on front number bytes replies x xs r h =
    let e = un_numbered number (reply_at (bytes + size_with x) (replies + 1) x.0) r h in
    rw (with_replies, e) (with_more front r (replies_from (number + 1) (bytes + size_with x) (replies + 1) xs))

pub reads_stop : (front : List Reply) (number bytes replies : ℕ) (x : List ℕ × Bool) (xs : List (List ℕ × Bool)) (stop : ℕ × ℕ)
    → numbered number (reply_at (bytes + size_with x) (replies + 1) x.0) ≡ Err stop
    → with_replies front (replies_from number bytes replies (x ∷ xs)) ≡ Err stop
reads_stop front number bytes replies x xs stop h =
    let (rule, e, is) = broken_at number (reply_at (bytes + size_with x) (replies + 1) x.0) stop h in
    rw (with_replies, e) (ap (λ (p : ℕ × ℕ). Err p) is)

goes_on : (number bytes replies : ℕ) (x : List ℕ × Bool) (xs : List (List ℕ × Bool)) (r : Reply) → reply_at (bytes + size_with x) (replies + 1) x.0 ≡ Ok r
    → replies_from number bytes replies (x ∷ xs) ≡ with_reply r (replies_from (number + 1) (bytes + size_with x) (replies + 1) xs)
goes_on number bytes replies x xs r e = rw (replies_from, e) refl

breaks : (number bytes replies : ℕ) (x : List ℕ × Bool) (xs : List (List ℕ × Bool)) (rule : ℕ) → reply_at (bytes + size_with x) (replies + 1) x.0 ≡ Err rule
    → replies_from number bytes replies (x ∷ xs) ≡ Err (number, rule)
breaks number bytes replies x xs rule e = rw (replies_from, e) refl

-- the text of a reply keeps the rules where they are kept
good_line : (bytes replies : ℕ) (r : Reply) → bytes ≤ 67108864 → length (reply_line r) ≤ 1048640 → replies ≤ 1000000 → reply_at bytes replies (reply_line r) ≡ Ok r
good_line bytes replies r small short few =
    cond-true (nat_le bytes 67108864) _ (Err 1) (le-leb bytes 67108864 small)
    ∙ cond-true (nat_le (length (reply_line r)) 1048640) _ (Err 2) (le-leb (length (reply_line r)) 1048640 short)
    ∙ cond-true (nat_le replies 1000000) (known (reply_of (reply_line r))) (Err 33) (le-leb replies 1000000 few)
    ∙ ap known (read_back r)

-- Replies that were written are read.
pub all_read : (number bytes replies : ℕ) (rs : List Reply) → AllByRecursion IsWritable rs → bytes + length (replies_text rs) ≤ 67108864 → replies + length rs ≤ 1000000
    → replies_from number bytes replies (lines_of (replies_text rs)) ≡ Ok rs
all_read number bytes replies [] each small few = refl
all_read number bytes replies (r ∷ rs) each small few =
    let sizes = length-append (ended (reply_line r)) (replies_text rs) in
    let line = length-append (reply_line r) (10 ∷ []) in
    let lines : lines_of (replies_text (r ∷ rs)) ≡ (reply_line r, true) ∷ lines_of (replies_text rs) = lines_of_line (reply_line r) (replies_text rs) each.0.0 in
    let more : bytes + size_with (reply_line r, true) + length (replies_text rs) ≤ 67108864 = omega arith in
    let good : reply_at (bytes + size_with (reply_line r, true)) (replies + 1) (reply_line r) ≡ Ok r = good_line (bytes + size_with (reply_line r, true)) (replies + 1) r (omega arith) each.0.1 (omega arith) in
    ap (λ ls. replies_from number bytes replies ls) lines
    ∙ goes_on number bytes replies (reply_line r, true) (lines_of (replies_text rs)) r good
    ∙ ap (λ s. with_reply r s) (all_read (number + 1) (bytes + size_with (reply_line r, true)) (replies + 1) rs each.1 more (omega arith))

front_ok : (r : Reply) (s : Result (List Reply) (ℕ × ℕ)) (rs : List Reply) → with_reply r s ≡ Ok rs → (tail : List Reply) × (s ≡ Ok tail)
front_ok r (Ok tail) rs h = (tail, refl)
front_ok r (Err e) rs h = absurd (ok_no_error rs e (sym h))

-- Lines that keep the rules lie within the limit.
pub replies_fit : (number bytes replies : ℕ) (ls : List (List ℕ × Bool)) (rs : List Reply) → bytes ≤ 67108864 → replies_from number bytes replies ls ≡ Ok rs → bytes + sum_by size_with ls ≤ 67108864
replies_fit number bytes replies [] rs small h = omega arith
replies_fit number bytes replies (x ∷ xs) rs small h =
    by_line (λ tail fits e. replies_fit (number + 1) (bytes + size_with x) (replies + 1) xs tail fits e) (reply_at (bytes + size_with x) (replies + 1) x.0) refl
  where
    by_line : ((tail : List Reply) → bytes + size_with x ≤ 67108864 → replies_from (number + 1) (bytes + size_with x) (replies + 1) xs ≡ Ok tail → bytes + size_with x + sum_by size_with xs ≤ 67108864)
        → (said : Result Reply ℕ) → reply_at (bytes + size_with x) (replies + 1) x.0 ≡ said → bytes + sum_by size_with (x ∷ xs) ≤ 67108864
    by_line again (Err rule) e = let f : Err (number, rule) ≡ Ok rs = sym (breaks number bytes replies x xs rule e) ∙ h in absurd (ok_no_error rs (number, rule) (sym f))
    by_line again (Ok r) e =
        let inner = cond (nat_le (length x.0) 1048640) (cond (nat_le (replies + 1) 1000000) (known (reply_of x.0)) (Err 33)) (Err 2) in
        let fits : bytes + size_with x ≤ 67108864 = le_true (bytes + size_with x) 67108864 (guarded (nat_le (bytes + size_with x) 67108864) inner 1 r e).0 in
        let (tail, rest) = front_ok r (replies_from (number + 1) (bytes + size_with x) (replies + 1) xs) rs (sym (goes_on number bytes replies x xs r e) ∙ h) in
        let later = again tail fits rest in
        omega (arith, sum_by-cons size_with x xs)
