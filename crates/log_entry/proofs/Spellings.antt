-- What is spelled is read, and what is read was spelled.
use Rattle.std.proofs.Common.{◌≡◌, ℕ, zero, suc, ◌+◌, ◌-◌, ◌*◌, ◌%◌, ◌^◌, ◌≤◌, ◌<◌, ◌≢◌, leb, List, [], ◌∷◌, ◌++◌, length, take, drop, get_or, replicate, refl, ◌∙◌, ap, arith, length-append, ◌==◌, true, false, cond, None}
use Rattle.std.proofs.lemmas.List.{take_at, drop_at}
use Rattle.std.proofs.lemmas.Bool.{and_from, ne_eqb, cond-true, cond-false, le-leb, lt-ltb}
use Rattle.std.specs.List.{list_all}
use Rattle.log_entry.specs.declared.entry.Body.{Body}
use Rattle.log_entry.specs.declared.entry.Body.TheVariants.{Pointer, Embedded, Tombstone}
use Rattle.log_entry.specs.declared.entry.Entry.{Entry}
use Rattle.log_entry.specs.declared.entry.Read.TheVariants as reads
use Rattle.log_entry.specs.Words.{words_for, packed, unpacked}
use Rattle.log_entry.specs.Spelling.{first_word, body_words, words_of, Fits, HasSpelling}
use Rattle.log_entry.specs.Reading.{op_of, form_of, version_of, high_of, length_of, size_of, has_known_op, has_form_of_op, has_version_of_op, has_no_stray_bits, ends_in_zeros, tail_bytes, entry_rule, body_of, entry_of, read}
use Rattle.log_entry.proofs.Bytes.{are_bytes, unpacked-packed, length-packed_in, all_zero-replicate}

-- the fields of the word that was put together
module _ (op form v high : ℕ) (o : op < 4) (f : form < 4) (w : v < 2 ^ 20) where
  op_is : op_of (first_word op form v high) ≡ op
  op_is = omega (arith, o, f, w)

  form_is : form_of (first_word op form v high) ≡ form
  form_is = omega (arith, o, f, w)

  version_is : version_of (first_word op form v high) ≡ v
  version_is = omega (arith, o, f, w)

  high_is : high_of (first_word op form v high) ≡ high
  high_is = omega (arith, o, f, w)

-- what keeps all six rules is an entry
pub read_kept : (ws : List ℕ) → get_or ws 0 0 ≢ 0 → has_known_op (get_or ws 0 0) ≡ true → has_form_of_op (get_or ws 0 0) ≡ true → has_version_of_op (get_or ws 0 0) ≡ true → has_no_stray_bits (get_or ws 0 0) ≡ true
    → size_of (get_or ws 0 0) ≤ length ws → ends_in_zeros ws ≡ true → read ws ≡ reads.Entry (entry_of ws) (size_of (get_or ws 0 0))
unfolding read
read_kept ws some k1 k2 k3 k4 size k6 =
    let not_zero : (get_or ws 0 0 == 0) ≡ false = ne_eqb (get_or ws 0 0) 0 some in
    let within : leb (size_of (get_or ws 0 0)) (length ws) ≡ true = le-leb (size_of (get_or ws 0 0)) (length ws) size in
    let none : entry_rule ws ≡ None = rw (k1, k2, k3, k4, within, k6) refl in
    rw (not_zero, none) refl

no_zeros : (n : ℕ) → list_all (λ b. b == 0) (drop {A = ℕ} n []) ≡ true
no_zeros zero = refl
no_zeros (suc n) = refl

body_read : (k v : ℕ) (b : Body) → Fits v b → (rest : List ℕ) → read (body_words k v b ++ rest) ≡ reads.Entry (record { key = k; version = v; body = b }) (length (body_words k v b))
body_read k v (Pointer p) fits rest =
    let w = first_word 1 0 v p in
    let ws : List ℕ = w ∷ k ∷ rest in
    let o : op_of w ≡ 1 = op_is 1 0 v p (omega arith) (omega arith) (omega (arith, fits)) in
    let f : form_of w ≡ 0 = form_is 1 0 v p (omega arith) (omega arith) (omega (arith, fits)) in
    let n : version_of w ≡ v = version_is 1 0 v p (omega arith) (omega arith) (omega (arith, fits)) in
    let h : high_of w ≡ p = high_is 1 0 v p (omega arith) (omega arith) (omega (arith, fits)) in
    let some : w ≢ 0 = omega (arith, o) in
    let k1 : has_known_op w ≡ true = rw o refl in
    let k2 : has_form_of_op w ≡ true = rw f refl in
    let k3 : has_version_of_op w ≡ true = rw (o, n) (and_from _ _ (le-leb 1 v fits.0) (le-leb v 1048574 fits.1)) in
    let k4 : has_no_stray_bits w ≡ true = rw (o, f) refl in
    let s : size_of w ≡ 2 = rw f refl in
    let k6 : ends_in_zeros ws ≡ true = rw s (no_zeros (length_of w)) in
    let size : size_of w ≤ length ws = rw s (omega arith) in
    let body : body_of ws ≡ Pointer p = rw (o, f, h) refl in
    read_kept ws some k1 k2 k3 k4 size k6 ∙ (λ t. reads.Entry (record { key = k; version = n t; body = body t }) (s t))
body_read k v Tombstone fits rest =
    let w = first_word 2 0 v 0 in
    let ws : List ℕ = w ∷ k ∷ rest in
    let o : op_of w ≡ 2 = op_is 2 0 v 0 (omega arith) (omega arith) (omega (arith, fits)) in
    let f : form_of w ≡ 0 = form_is 2 0 v 0 (omega arith) (omega arith) (omega (arith, fits)) in
    let n : version_of w ≡ v = version_is 2 0 v 0 (omega arith) (omega arith) (omega (arith, fits)) in
    let h : high_of w ≡ 0 = high_is 2 0 v 0 (omega arith) (omega arith) (omega (arith, fits)) in
    let some : w ≢ 0 = omega (arith, o) in
    let k1 : has_known_op w ≡ true = rw o refl in
    let k2 : has_form_of_op w ≡ true = rw f refl in
    let k3 : has_version_of_op w ≡ true = rw (o, n) (le-leb 2 v fits.0) in
    let k4 : has_no_stray_bits w ≡ true = rw (o, h) refl in
    let s : size_of w ≡ 2 = rw f refl in
    let k6 : ends_in_zeros ws ≡ true = rw s (no_zeros (length_of w)) in
    let size : size_of w ≤ length ws = rw s (omega arith) in
    let body : body_of ws ≡ Tombstone = rw o refl in
    read_kept ws some k1 k2 k3 k4 size k6 ∙ (λ t. reads.Entry (record { key = k; version = n t; body = body t }) (s t))
body_read k v (Embedded bytes) fits rest =
    let len = length bytes in
    let w = first_word 1 1 v len in
    let ws : List ℕ = w ∷ k ∷ (packed bytes ++ rest) in
    let o : op_of w ≡ 1 = op_is 1 1 v len (omega arith) (omega arith) (omega (arith, fits.0, fits.1)) in
    let f : form_of w ≡ 1 = form_is 1 1 v len (omega arith) (omega arith) (omega (arith, fits.0, fits.1)) in
    let n : version_of w ≡ v = version_is 1 1 v len (omega arith) (omega arith) (omega (arith, fits.0, fits.1)) in
    let h : high_of w ≡ len = high_is 1 1 v len (omega arith) (omega arith) (omega (arith, fits.0, fits.1)) in
    let l : length_of w ≡ len = let small = fits.2 in ap (λ x. x % 256) h ∙ omega (arith, small) in
    let some : w ≢ 0 = omega (arith, o) in
    let k1 : has_known_op w ≡ true = rw o refl in
    let k2 : has_form_of_op w ≡ true = rw (f, o) refl in
    let k3 : has_version_of_op w ≡ true = rw (o, n) (and_from _ _ (le-leb 1 v fits.0) (le-leb v 1048574 fits.1)) in
    let k4 : has_no_stray_bits w ≡ true = let small : len < 256 = (let lt = fits.2 in omega (arith, lt)) in rw (o, f, h) (lt-ltb len 256 small) in
    let s : size_of w ≡ 2 + words_for len = rw (f, l) refl in
    let m = words_for len in
    let front : take (size_of w - 2) (packed bytes ++ rest) ≡ packed bytes = let e : size_of w - 2 ≡ m = omega (arith, s) in ap (λ x. take x (packed bytes ++ rest)) e ∙ take_at (packed bytes) rest m (length-packed_in m bytes) in
    let zeros = replicate {A = ℕ} (8 * m - len) 0 in
    let tail : tail_bytes ws ≡ bytes ++ zeros = ap unpacked front ∙ unpacked-packed bytes (are_bytes bytes fits.3) in
    let k6 : ends_in_zeros ws ≡ true = ap (λ xs. list_all (λ b. b == 0) (drop (length_of w) xs)) tail ∙ ap (λ x. list_all (λ b. b == 0) (drop x (bytes ++ zeros))) l ∙ ap (λ xs. list_all (λ b. b == 0) xs) (drop_at bytes zeros len refl) ∙ all_zero-replicate (8 * m - len) in
    let long : length (packed bytes ++ rest) ≡ m + length rest = length-append (packed bytes) rest ∙ ap (λ x. x + length rest) (length-packed_in m bytes) in
    let size : size_of w ≤ length ws = omega (arith, s, long) in
    let value : take (length_of w) (tail_bytes ws) ≡ bytes = ap (λ xs. take (length_of w) xs) tail ∙ ap (λ x. take x (bytes ++ zeros)) l ∙ take_at bytes zeros len refl in
    let is_embedded : body_of ws ≡ Embedded (take (length_of w) (tail_bytes ws)) = cond-false (op_of w == 2) Tombstone (cond (form_of w == 1) (Embedded (take (length_of w) (tail_bytes ws))) (Pointer (high_of w))) (ap (λ (x : ℕ). x == 2) o) ∙ cond-true (form_of w == 1) (Embedded (take (length_of w) (tail_bytes ws))) (Pointer (high_of w)) (ap (λ (x : ℕ). x == 1) f) in
    let body : body_of ws ≡ Embedded bytes = is_embedded ∙ ap Embedded value in
    let whole : size_of w ≡ suc (suc (length (packed bytes))) = let q = length-packed_in m bytes in omega (arith, s, q) in
    read_kept ws some k1 k2 k3 k4 size k6 ∙ (λ t. reads.Entry (record { key = k; version = n t; body = body t }) (whole t))

-- an entry that has a spelling is read from it, whatever follows
pub read_spelled : (e : Entry) → HasSpelling e → (rest : List ℕ) → read (words_of e ++ rest) ≡ reads.Entry e (length (words_of e))
read_spelled e has rest = body_read e.key e.version e.body has.fits rest
