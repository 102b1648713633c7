-- The whole input of an audit.
use Rattle.std.proofs.Common.{◌≡◌, ℕ, ◌+◌, ◌<◌, ◌≤◌, inl, inr, Bool, true, false, List, [], ◌∷◌, ◌++◌, length, take, Option, Some, None, Result, Ok, Err, refl, sym, ap, ◌∙◌, subst, arith, cond, length-append}
use Rattle.std.specs.Prelude.{◌⊎◌, nat_le, codes, IfSome, OnOk, IsErrAnd}
use Rattle.std.specs.List.{filter_map, sum_by}
use Rattle.std.specs.Cmp.Lexicographic.{bytes_decides}
use Rattle.std.proofs.lemmas.Bool.{cond-true, cond-false, le-leb, lt-leb}
use Rattle.std.proofs.lemmas.List.Sums.{sum_by-cons}
use Rattle.std.proofs.lemmas.List.{take_all, take_at, append-nil}
use Rattle.fs_model.specs.declared.model.Request.{Request}
use Rattle.fs_model.specs.declared.model.Reply.{Reply}
use Rattle.fs_text.specs.declared.line.Line.{Line}
use Rattle.fs_text.specs.declared.input.InputError.{InputError}
use Rattle.fs_text.specs.declared.input.InputError.TheVariants as inputs
use Rattle.fs_text.specs.Input.{Before, lines_of, lines_from, line_at, line_by, count_line, input_of, request_in, size_with, cut, with_front}
use Rattle.fs_text.specs.Output.{ended, replies_text}
use Rattle.fs_text.specs.Reading.{Answers}
use Rattle.fs_text.specs.Streams.{Gives, IsAtEnd}
use Rattle.fs_text.proofs.Limits.{guarded, le_true, goes_on, breaks, ok_no_error}
use Rattle.run_audit.specs.declared.parting.Parts.{Parts}
use Rattle.run_audit.specs.declared.audit_input.AuditInput.{AuditInput}
use Rattle.run_audit.specs.Parting.{IsPartedAtReplies, IsWritten, listed}
use Rattle.run_audit.specs.Replies.{is_replies, before_replies, from_replies, replies_behind, replies_from, traced, audit_lines, audit_input_of}
use Rattle.run_audit.proofs.Lines.{lines_of_line, sizes_of_lines}
use Rattle.run_audit.proofs.Passing.{Free, free_before, free_from}
use Rattle.run_audit.proofs.RepliesRead.{all_read, replies_fit}

-- by the parts of an input that isn't too long
pub audit_parts : (cores : ℕ) (bytes : List ℕ) (x : Parts) → length bytes ≤ 67108865 → IsPartedAtReplies bytes x
    → audit_input_of cores bytes ≡ traced (input_of cores x.trace.now) (replies_behind (lines_of x.trace.now) (lines_of x.rest.now))
unfolding audit_input_of input_of
audit_parts cores bytes x small parted = rw (take_all 67108865 bytes small, parted.trace, parted.rest) refl

pub err_traced : (e : InputError) (i : Result (List Line) (ℕ × ℕ)) (r : Result (List Reply) (ℕ × ℕ)) → Answers {A = List Line} (Err e) i → Answers {A = List Request × List Reply} (Err e) (traced i r)
err_traced (inputs.BadInput line rule) i r h = rw h refl
err_traced inputs.SourceFault i r h = tt
err_traced inputs.Memory i r h = tt

pub err_replies : (e : InputError) (lines : List Line) (i : Result (List Line) (ℕ × ℕ)) (r : Result (List Reply) (ℕ × ℕ)) → i ≡ Ok lines → Answers {A = List Reply} (Err e) r → Answers {A = List Request × List Reply} (Err e) (traced i r)
err_replies (inputs.BadInput line rule) lines i r is h = rw (is, h) refl
err_replies inputs.SourceFault lines i r is h = tt
err_replies inputs.Memory lines i r is h = tt

pub ok_traced : (lines : List Line) (rs : List Reply) (i : Result (List Line) (ℕ × ℕ)) (r : Result (List Reply) (ℕ × ℕ)) → i ≡ Ok lines → r ≡ Ok rs → traced i r ≡ Ok (filter_map request_in lines, rs)
ok_traced lines rs i r is h = rw (is, h) refl

-- ---- what was read of a source, and what it told
abbrev MostOf : List ℕ → Option (List ℕ) → Type 0
MostOf v left = (length v < 67108865 → IsAtEnd left) × (length v ≤ 67108865)

same_input : (cores : ℕ) (v ys : List ℕ) → MostOf v (Some ys) → audit_input_of cores v ≡ audit_input_of cores (v ++ ys)
unfolding audit_input_of
same_input cores v ys most = at_size (cut_or_whole (length v) most.1)
  where
    cut_or_whole : (n : ℕ) → n ≤ 67108865 → (n < 67108865) ⊎ (n ≡ 67108865)
    cut_or_whole n h = grind arith

    at_size : (length v < 67108865) ⊎ (length v ≡ 67108865) → audit_lines cores (lines_of (take 67108865 v)) ≡ audit_lines cores (lines_of (take 67108865 (v ++ ys)))
    at_size (inl h) = let none : ys ≡ [] = most.0 h in rw none (ap (λ l. audit_lines cores (lines_of (take 67108865 l))) (sym (append-nil v)))
    at_size (inr h) = ap (λ l. audit_lines cores (lines_of l)) (take_all 67108865 v most.1 ∙ sym (take_at v ys 67108865 h))

pub told_audit : (coming left : Option (List ℕ)) (v : List ℕ) (cores : ℕ) (r : Result (List Request × List Reply) InputError) → Gives coming left v
    → (length v < 67108865 → IsAtEnd left) → length v ≤ 67108865 → Answers r (audit_input_of cores v) → IfSome coming (λ bytes. Answers r (audit_input_of cores bytes))
told_audit None left v cores r gives end most said = tt
told_audit (Some xs) None v cores r gives end most said = absurd gives
told_audit (Some xs) (Some ys) v cores r gives end most said =
    subst (λ s. Answers r s) (same_input cores v ys (end, most) ∙ ap (λ l. audit_input_of cores l) (sym gives)) said

-- ---- an input that keeps the rules lies within the limit
abbrev start : Before
start = record { bytes = 0; requests = 0; turns = 0 }

traced_ok : (i : Result (List Line) (ℕ × ℕ)) (r : Result (List Reply) (ℕ × ℕ)) (y : List Request × List Reply) → traced i r ≡ Ok y → (rs : List Reply) × (r ≡ Ok rs)
traced_ok (Ok lines) (Ok rs) y h = (rs, refl)
traced_ok (Ok lines) (Err e) y h = absurd (ok_no_error y e (sym h))
traced_ok (Err e) r y h = absurd (ok_no_error y e (sym h))

parts_size : (ls : List (List ℕ × Bool)) → sum_by size_with (before_replies ls) + sum_by size_with (from_replies ls) ≡ sum_by size_with ls
parts_size [] = refl
parts_size (l ∷ ls) = by_test (parts_size ls) (is_replies l) refl
  where
    by_test : sum_by size_with (before_replies ls) + sum_by size_with (from_replies ls) ≡ sum_by size_with ls → (t : Bool) → is_replies l ≡ t → sum_by size_with (before_replies (l ∷ ls)) + sum_by size_with (from_replies (l ∷ ls)) ≡ sum_by size_with (l ∷ ls)
    by_test h true e = rw e (omega arith)
    by_test h false e = rw e (omega (arith, sum_by-cons size_with l (before_replies ls), sum_by-cons size_with l ls))

behind_fits : (front rest : List (List ℕ × Bool)) (rs : List Reply) → replies_behind front rest ≡ Ok rs → sum_by size_with front + sum_by size_with rest ≤ 67108864
behind_fits front [] rs h = absurd (ok_no_error rs _ (sym h))
behind_fits front (x ∷ xs) rs h = by_test (nat_le (sum_by size_with front + size_with x) 67108864) refl
  where
    by_test : (t : Bool) → nat_le (sum_by size_with front + size_with x) 67108864 ≡ t → sum_by size_with front + sum_by size_with (x ∷ xs) ≤ 67108864
    by_test true e =
        let fits = le_true (sum_by size_with front + size_with x) 67108864 e in
        let read : replies_from (length front + 2) (sum_by size_with front + size_with x) 0 xs ≡ Ok rs = rw e at h in
        let all = replies_fit (length front + 2) (sum_by size_with front + size_with x) 0 xs rs fits read in
        omega (arith, sum_by-cons size_with x xs)
    by_test false e = let f : Err (length front + 1, 1) ≡ Ok rs = rw e at h in absurd (ok_no_error rs (length front + 1, 1) (sym f))

lines_fit : (cores : ℕ) (ls : List (List ℕ × Bool)) (y : List Request × List Reply) → audit_lines cores ls ≡ Ok y → sum_by size_with ls ≤ 67108864
lines_fit cores ls y h =
    let (rs, read) = traced_ok (lines_from cores 1 start (before_replies ls)) (replies_behind (before_replies ls) (from_replies ls)) y h in
    let fits = behind_fits (before_replies ls) (from_replies ls) rs read in
    let sizes = parts_size ls in
    omega arith

pub audit_fits : (cores : ℕ) (bytes : List ℕ) (y : List Request × List Reply) → length bytes ≤ 67108865 → audit_input_of cores bytes ≡ Ok y → length bytes < 67108865
unfolding audit_input_of
audit_fits cores bytes y most h =
    let good : audit_lines cores (lines_of bytes) ≡ Ok y = ap (λ l. audit_lines cores (lines_of l)) (sym (take_all 67108865 bytes most)) ∙ h in
    let fits = lines_fit cores (lines_of bytes) y good in
    let sizes = sizes_of_lines bytes in
    omega arith

pub ended_audit : (left : Option (List ℕ)) (v : List ℕ) (cores : ℕ) (r : Result (List Request × List Reply) InputError)
    → (length v < 67108865 → IsAtEnd left) → length v ≤ 67108865 → Answers r (audit_input_of cores v) → OnOk r (IsAtEnd left)
ended_audit left v cores (Err e) end most said = tt
ended_audit left v cores (Ok y) end most said = end (audit_fits cores v y most said)

-- ---- what was written is read
unread : (cores : ℕ) (b : Before) (x : List ℕ × Bool) (y : Line × Before) → line_at cores b x ≡ Ok y → is_replies x ≡ false
unread cores b x y h = by_test (is_replies x) refl
  where
    by_test : (t : Bool) → is_replies x ≡ t → t ≡ false
    by_test false e = refl
    by_test true e =
        let is : x.0 ≡ codes "replies" = (bytes_decides x.0 (codes "replies")).0 e in
        let one = guarded (nat_le (b.bytes + size_with x) 67108864) (cond (nat_le (length x.0) 1048640) (count_line b (size_with x) (line_by cores (cut x.0))) (Err 2)) 1 y h in
        let two = guarded (nat_le (length x.0) 1048640) (count_line b (size_with x) (line_by cores (cut x.0))) 2 y one.1 in
        let three : count_line b (size_with x) (line_by cores (cut (codes "replies"))) ≡ Ok y = ap (λ l. count_line b (size_with x) (line_by cores (cut l))) (sym is) ∙ two.1 in
        absurd (ok_no_error y 3 (sym three))

front_ok : (x : Line) (r : Result (List Line) (ℕ × ℕ)) (lines : List Line) → with_front x r ≡ Ok lines → (tail : List Line) × (r ≡ Ok tail)
front_ok x (Ok tail) lines h = (tail, refl)
front_ok x (Err e) lines h = absurd (ok_no_error lines e (sym h))

pub read_free : (cores number : ℕ) (b : Before) (ls : List (List ℕ × Bool)) (lines : List Line) → lines_from cores number b ls ≡ Ok lines → Free ls
read_free cores number b [] lines h = tt
read_free cores number b (x ∷ xs) lines h =
    by_line (λ c tail e. read_free cores (number + 1) c xs tail e) (line_at cores b x) refl
  where
    by_line : ((c : Before) (tail : List Line) → lines_from cores (number + 1) c xs ≡ Ok tail → Free xs) → (r : Result (Line × Before) ℕ) → line_at cores b x ≡ r → Free (x ∷ xs)
    by_line again (Err rule) e = absurd (ok_no_error lines (number, rule) (sym h ∙ breaks cores number b x xs rule e))
    by_line again (Ok y) e =
        let (tail, rest) = front_ok y.0 (lines_from cores (number + 1) y.1 xs) lines (sym (goes_on cores number b x xs y e) ∙ h) in
        (unread cores b x y e, again y.1 tail rest)

abbrev word : List ℕ × Bool
word = (codes "replies", true)

behind_written : (front : List (List ℕ × Bool)) (rs : List Reply) (n : ℕ) → sum_by size_with front ≡ n → n + 8 ≤ 67108864 → replies_from (length front + 2) (n + 8) 0 (lines_of (replies_text rs)) ≡ Ok rs
    → replies_behind front (word ∷ lines_of (replies_text rs)) ≡ Ok rs
behind_written front rs n is small read =
    rw is (cond-true (nat_le (n + 8) 67108864) (replies_from (length front + 2) (n + 8) 0 (lines_of (replies_text rs))) (Err (length front + 1, 1)) (le-leb (n + 8) 67108864 small) ∙ read)

pub written_read : (cores : ℕ) (bytes : List ℕ) (lines : List Line) (rs : List Reply) → IsWritten cores bytes lines rs → audit_input_of cores bytes ≡ Ok (filter_map request_in lines, rs)
unfolding audit_input_of input_of
written_read cores bytes lines rs w =
    let t = w.trace in
    let text = replies_text rs in
    let small : (length t + 8) + length text ≤ 67108864 = w.writable.small in
    let size : length bytes ≡ (length t + 8) + length text = ap length w.all ∙ length-append t (ended (codes "replies") ++ text) ∙ omega (arith, length-append (ended (codes "replies")) text) in
    let one : lines_of (ended (codes "replies") ++ text) ≡ word ∷ lines_of text = lines_of_line (codes "replies") text
    (λ e. absurd (omega arith), (λ e. absurd (omega arith), (λ e. absurd (omega arith), (λ e. absurd (omega arith), (λ e. absurd (omega arith), (λ e. absurd (omega arith), (λ e. absurd (omega arith), tt))))))) in
    let all : lines_of bytes ≡ lines_of t ++ word ∷ lines_of text = ap lines_of w.all ∙ w.whole (ended (codes "replies") ++ text) ∙ ap (λ l. lines_of t ++ l) one in
    let free = read_free cores 1 start (lines_of t) lines w.good in
    let before : before_replies (lines_of t ++ word ∷ lines_of text) ≡ lines_of t = free_before (lines_of t) (word ∷ lines_of text) free ∙ append-nil (lines_of t) in
    let behind : from_replies (lines_of t ++ word ∷ lines_of text) ≡ word ∷ lines_of text = free_from (lines_of t) (word ∷ lines_of text) free in
    let read = all_read (length (lines_of t) + 2) (length t + 8) 0 rs w.writable.each small (omega (arith, w.writable.few)) in
    let replies : replies_behind (lines_of t) (word ∷ lines_of text) ≡ Ok rs = behind_written (lines_of t) rs (length t) (sizes_of_lines t) (omega arith) read in
    ap (λ l. audit_lines cores (lines_of l)) (take_all 67108865 bytes (omega arith)) ∙ ap (λ ls. audit_lines cores ls) all
    ∙ rw (before, behind, w.good, replies) refl

-- ---- the part behind the trace, by its first line
pub behind_over : (front xs : List (List ℕ × Bool)) (x : List ℕ × Bool) → 67108864 < sum_by size_with front + size_with x → replies_behind front (x ∷ xs) ≡ Err (length front + 1, 1)
behind_over front xs x big = cond-false (nat_le (sum_by size_with front + size_with x) 67108864) _ (Err (length front + 1, 1)) (lt-leb (sum_by size_with front + size_with x) 67108864 big)

pub behind_on : (front xs : List (List ℕ × Bool)) (x : List ℕ × Bool) → sum_by size_with front + size_with x ≤ 67108864
    → replies_behind front (x ∷ xs) ≡ replies_from (length front + 2) (sum_by size_with front + size_with x) 0 xs
behind_on front xs x fits = cond-true (nat_le (sum_by size_with front + size_with x) 67108864) _ (Err (length front + 1, 1)) (le-leb (sum_by size_with front + size_with x) 67108864 fits)

pub told_written : (coming : Option (List ℕ)) (cores : ℕ) (r : Result (List Request × List Reply) InputError) → IfSome coming (λ bytes. Answers r (audit_input_of cores bytes))
    → IfSome coming (λ bytes. (lines : List Line) (rs : List Reply) → IsWritten cores bytes lines rs → Answers r (Ok (filter_map request_in lines, rs)))
told_written None cores r h = tt
told_written (Some bytes) cores r h = λ lines rs w. subst (λ s. Answers r s) (written_read cores bytes lines rs w) h

pub on_listed : (P : Type 0) (r : Result AuditInput InputError) → OnOk (listed r) P → OnOk r P
on_listed P (Ok x) h = h
on_listed P (Err e) h = tt

-- the error of a part is that of the whole
pub handed_on : {T E : Type 0} (P : Result T E → Type 0) (r : Result T E) (e : E) → IsErrAnd r (λ d. d ≡ e) → P (Err e) → P r
handed_on P (Ok x) e h g = absurd h
handed_on P (Err d) e h g = subst (λ x. P (Err x)) (sym h) g
