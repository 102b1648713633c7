-- The texts of replies are read as they are written.
use Rattle.std.proofs.Common.{◌≡◌, ℕ, List, ◌++◌, take, drop, refl, sym, ◌∙◌, ap, Bool, true, false, cond, Option, Some, None}
use Rattle.std.specs.Prelude.{bytes_eq, codes, Result, Ok, Err, IfOk}
use Rattle.fs_model.specs.declared.memory.Memory.{Memory}
use Rattle.std.specs.Cmp.Lexicographic.{bytes_decides}
use Rattle.std.proofs.lemmas.List.{take-append-drop}
use Rattle.fs_model.specs.declared.model.Reply.{Reply}
use Rattle.fs_model.specs.declared.model.Reply.TheVariants.{Stored, Value, Absent, Deleted, Full, VersionsSpent, TooLong, Stopped}
use Rattle.fs_text.specs.Output.{reply_line}
use Rattle.run_audit.specs.Replies.{reply_of, value_of, IsTextOf}

pub read_back : (r : Reply) → reply_of (reply_line r) ≡ Some r
read_back Stored = refl
read_back (Value v) = refl
read_back Absent = refl
read_back Deleted = refl
read_back Full = refl
read_back VersionsSpent = refl
read_back TooLong = refl
read_back Stopped = refl

none_some : (r : Reply) → None ≡ Some r → ⊥
none_some r e = cc e

-- the choice of a test
chosen : {P : Type 0} (b : Bool) (x y : Option Reply) (r : Reply) → cond b x y ≡ Some r → (b ≡ true → x ≡ Some r → P) → (y ≡ Some r → P) → P
chosen true x y r e h g = h refl e
chosen false x y r e h g = g e

same_text : (text word : List ℕ) → bytes_eq text word ≡ true → text ≡ word
same_text text word h = (bytes_decides text word).0 h

plain : (text : List ℕ) (word : List ℕ) (x r : Reply) (rest : Option Reply) → reply_line x ≡ word → cond (bytes_eq text word) (Some x) rest ≡ Some r
    → (rest ≡ Some r → reply_line r ≡ text) → reply_line r ≡ text
plain text word x r rest is e later =
    chosen (bytes_eq text word) (Some x) rest r e
    (λ t f. let same : x ≡ r = cc f in ap reply_line (sym same) ∙ is ∙ sym (same_text text word t)) later

value_line : (text : List ℕ) (r : Reply) → value_of text ≡ Some r → reply_line r ≡ text
value_line text r e =
    chosen (bytes_eq (take 6 text) (codes "value ")) (Some (Value (drop 6 text))) None r e
    (λ t f. let same : Value (drop 6 text) ≡ r = cc f in
    ap reply_line (sym same) ∙ ap (λ l. l ++ drop 6 text) (sym (same_text (take 6 text) (codes "value ") t)) ∙ take-append-drop 6 text)
    (λ f. absurd (none_some r f))

pub line_back : (text : List ℕ) (r : Reply) → reply_of text ≡ Some r → reply_line r ≡ text
line_back text r e =
    plain text (codes "stored") Stored r _ refl e
    (λ e1. plain text (codes "absent") Absent r _ refl e1
    (λ e2. plain text (codes "deleted") Deleted r _ refl e2
    (λ e3. plain text (codes "full") Full r _ refl e3
    (λ e4. plain text (codes "versions spent") VersionsSpent r _ refl e4
    (λ e5. plain text (codes "too long") TooLong r _ refl e5
    (λ e6. plain text (codes "stopped") Stopped r (value_of text) refl e6
    (λ e7. value_line text r e7)))))))

pub is_text_of : (text : List ℕ) (o : Option Reply) → o ≡ reply_of text → IsTextOf o text
is_text_of text (Some r) h = line_back text r (sym h)
is_text_of text None h = λ r e. let f : reply_of text ≡ Some r = ap reply_of (sym e) ∙ read_back r in absurd (none_some r (h ∙ f))

pub ok_text : (text : List ℕ) (r : Result (Option Reply) Memory) → IfOk r (λ o. o ≡ reply_of text) → IfOk r (λ o. IsTextOf o text)
ok_text text (Ok o) h = is_text_of text o h
ok_text text (Err e) h = tt
