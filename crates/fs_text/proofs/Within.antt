-- The lines of an input are within the rules.
use Rattle.std.proofs.Common.{◌≡◌, ℕ, suc, ◌+◌, ◌-◌, ◌≤◌, ◌⊎◌, inl, inr, Bool, true, false, List, [], ◌∷◌, length, Option, Some, None, Result, Ok, Err, refl, sym, ◌∙◌, cond, subst, arith}
use Rattle.std.specs.Prelude.{IfSome, IfOk, nat_le, ◌==◌, ◌&&◌, bytes_eq, codes}
use Rattle.std.specs.List.{AllByRecursion, filter_map, sum_by}
use Rattle.std.proofs.lemmas.List.Sums.{sum_by-cons}
use Rattle.fs_model.specs.declared.model.Request.{Request}
use Rattle.fs_model.specs.declared.model.Request.TheVariants.{Put, Get, Delete}
use Rattle.fs_text.specs.declared.line.Line.{Line}
use Rattle.fs_text.specs.declared.line.Line.TheVariants.{Ask, Go}
use Rattle.fs_text.specs.declared.input.InputError.{InputError}
use Rattle.fs_text.specs.Reading.{Answers}
use Rattle.fs_text.specs.Bounds.{IsShort, IsLine, IsWithin, turns_in}
use Rattle.fs_text.specs.Input.{Before, cut, push_front, within, map_ok, key_at, lone_key, key_line, lone_field, put_fields, put_line, go_core, core_at, number_of, go_rest, go_fields, go_line, line_by, with_line, counted, count_line, size_with, line_at, with_front, lines_of, lines_from, input_of, request_in}
use Rattle.fs_text.proofs.Limits.{guarded, counted_ok, le_true, goes_on, breaks, ok_no_error}

either : {A : Type 0} (b : Bool) (x y z : A) → cond b x y ≡ z → (x ≡ z) ⊎ (y ≡ z)
either true x y z h = inl h
either false x y z h = inr h

and_left : (a b : Bool) → (a && b) ≡ true → a ≡ true
and_left true b h = refl
and_left false b h = cc

and_right : (a b : Bool) → (a && b) ≡ true → b ≡ true
and_right true b h = h
and_right false b h = cc

within_ok : (low high rule : ℕ) (o : Option ℕ) (n : ℕ) → within low high rule o ≡ Ok n → (low ≤ n) × (n ≤ high)
within_ok low high rule None n h = absurd (ok_no_error n rule (sym h))
within_ok low high rule (Some m) n h =
    let (test, same) = guarded (nat_le low m && nat_le m high) (Ok m) rule n h in
    let e : m ≡ n = cc same in (
      le_true low n (subst (λ k. nat_le low k ≡ true) e (and_left (nat_le low m) (nat_le m high) test)),
      le_true n high (subst (λ k. nat_le k high ≡ true) e (and_right (nat_le low m) (nat_le m high) test)),
    )

abbrev RestFits : ℕ → List ℕ × Option (List ℕ) → Type 0
RestFits n p = IfSome p.1 (λ v. length v ≤ n)

push_fits : (b n : ℕ) (p : List ℕ × Option (List ℕ)) → RestFits n p → RestFits (suc n) (push_front b p)
push_fits b n (w, None) h = tt
push_fits b n (w, Some v) h = omega arith

cut_fits : (xs : List ℕ) → RestFits (length xs) (cut xs)
cut_fits [] = tt
cut_fits (x ∷ xs) = by_test (x == 32) (cut_fits xs)
  where
    by_test : (t : Bool) → RestFits (length xs) (cut xs) → RestFits (suc (length xs)) (cond t ([], Some xs) (push_front x (cut xs)))
    by_test true h = omega arith
    by_test false h = push_fits x (length xs) (cut xs) h

map_asked : (ask : ℕ → Request) (r : Result ℕ ℕ) (line : Line) → map_ok (λ k. Ask (ask k)) r ≡ Ok line → (k : ℕ) × (Ask (ask k) ≡ line)
map_asked ask (Ok k) line h = (k, cc)
map_asked ask (Err rule) line h = absurd (ok_no_error line rule (sym h))

put_within : (cores n : ℕ) (p : List ℕ × Option (List ℕ)) (line : Line) → n ≤ 1048640 → RestFits n p → put_fields p ≡ Ok line → IsLine cores line
put_within cores n (k, None) line small fits h = absurd (ok_no_error line 4 (sym h))
put_within cores n (k, Some v) line small fits h =
    let (key, e) = map_asked (λ k. Put k v) (key_at k) line h in
    let short : length v ≤ 1048640 = omega arith in
    subst (λ l. IsLine cores l) e short

put_line_within : (cores n : ℕ) (rest : Option (List ℕ)) (line : Line) → n ≤ 1048640 → IfSome rest (λ v. length v ≤ n) → put_line rest ≡ Ok line → IsLine cores line
put_line_within cores n None line small fits h = absurd (ok_no_error line 4 (sym h))
put_line_within cores n (Some bs) line small fits h = put_within cores (length bs) (cut bs) line (omega arith) (cut_fits bs) h

go_core_ok : (r t : Result ℕ ℕ) (line : Line) → go_core r t ≡ Ok line → (core : ℕ) × (turns : ℕ) × (r ≡ Ok core) × (t ≡ Ok turns) × (Go core turns ≡ line)
go_core_ok (Ok core) (Ok turns) line h = (core, turns, refl, refl, cc)
go_core_ok (Ok core) (Err rule) line h = absurd (ok_no_error line rule (sym h))
go_core_ok (Err rule) t line h = absurd (ok_no_error line rule (sym h))

go_both : (cores : ℕ) (core turns : List ℕ) (line : Line) → go_core (core_at cores core) (within 1 1000000 7 (number_of turns)) ≡ Ok line → IsLine cores line
go_both cores core turns line h =
    let (c, t, one, two, e) = go_core_ok (core_at cores core) (within 1 1000000 7 (number_of turns)) line h in
    let low = within_ok 0 (cores - 1) 6 (number_of core) c one in
    let high = within_ok 1 1000000 7 (number_of turns) t two in
    subst (λ l. IsLine cores l) e (low.1, high.0, high.1)

go_one : (cores : ℕ) (core : List ℕ) (line : Line) → go_core (core_at cores core) (Ok 1) ≡ Ok line → IsLine cores line
go_one cores core line h =
    let (c, t, one, two, e) = go_core_ok (core_at cores core) (Ok 1) line h in
    let low = within_ok 0 (cores - 1) 6 (number_of core) c one in
    let same : 1 ≡ t = cc two in
    subst (λ l. IsLine cores l) e (low.1, omega arith, omega arith)

go_rest_within : (cores : ℕ) (core : List ℕ) (p : List ℕ × Option (List ℕ)) (line : Line) → go_rest cores core p ≡ Ok line → IsLine cores line
go_rest_within cores core (turns, None) line h = go_both cores core turns line h
go_rest_within cores core (turns, Some more) line h = absurd (ok_no_error line 4 (sym h))

go_fields_within : (cores : ℕ) (p : List ℕ × Option (List ℕ)) (line : Line) → go_fields cores p ≡ Ok line → IsLine cores line
go_fields_within cores (core, None) line h = go_one cores core line h
go_fields_within cores (core, Some more) line h = go_rest_within cores core (cut more) line h

go_line_within : (cores : ℕ) (rest : Option (List ℕ)) (line : Line) → go_line cores rest ≡ Ok line → IsLine cores line
go_line_within cores None line h = absurd (ok_no_error line 4 (sym h))
go_line_within cores (Some bs) line h = go_fields_within cores (cut bs) line h

key_line_within : (cores : ℕ) (ask : ℕ → Request) (field : Option (List ℕ)) (line : Line) → ((k : ℕ) → IsShort (ask k)) → key_line ask field ≡ Ok line → IsLine cores line
key_line_within cores ask field line short h =
    let (k, e) = map_asked ask (lone_key field) line h in subst (λ l. IsLine cores l) e (short k)

line_by_within : (cores n : ℕ) (p : List ℕ × Option (List ℕ)) (line : Line) → n ≤ 1048640 → RestFits n p → line_by cores p ≡ Ok line → IsLine cores line
line_by_within cores n (word, rest) line small fits h =
    let puts = put_line rest in
    let gets = key_line (λ k. Get k) (lone_field rest) in
    let deletes = key_line (λ k. Delete k) (lone_field rest) in
    let goes = go_line cores rest in
    elim (either (bytes_eq word (codes "put")) puts
    (cond (bytes_eq word (codes "get")) gets (cond (bytes_eq word (codes "delete")) deletes (cond (bytes_eq word (codes "go")) goes (Err 3)))) (Ok line) h) [
      | inl e ↦ put_line_within cores n rest line small fits e
      | inr e ↦ after_put e
    ]
  where
    after_delete : cond (bytes_eq word (codes "go")) (go_line cores rest) (Err 3) ≡ Ok line → IsLine cores line
    after_delete e = go_line_within cores rest line (guarded (bytes_eq word (codes "go")) (go_line cores rest) 3 line e).1

    after_get : cond (bytes_eq word (codes "delete")) (key_line (λ k. Delete k) (lone_field rest)) (cond (bytes_eq word (codes "go")) (go_line cores rest) (Err 3)) ≡ Ok line → IsLine cores line
    after_get e = elim (either (bytes_eq word (codes "delete")) (key_line (λ k. Delete k) (lone_field rest)) (cond (bytes_eq word (codes "go")) (go_line cores rest) (Err 3)) (Ok line) e) [
      | inl f ↦ key_line_within cores (λ k. Delete k) (lone_field rest) line (λ k. tt) f
      | inr f ↦ after_delete f
    ]

    after_put : cond (bytes_eq word (codes "get")) (key_line (λ k. Get k) (lone_field rest)) (cond (bytes_eq word (codes "delete")) (key_line (λ k. Delete k) (lone_field rest)) (cond (bytes_eq word (codes "go")) (go_line cores rest) (Err 3))) ≡ Ok line → IsLine cores line
    after_put e = elim (either (bytes_eq word (codes "get")) (key_line (λ k. Get k) (lone_field rest)) (cond (bytes_eq word (codes "delete")) (key_line (λ k. Delete k) (lone_field rest)) (cond (bytes_eq word (codes "go")) (go_line cores rest) (Err 3))) (Ok line) e) [
      | inl f ↦ key_line_within cores (λ k. Get k) (lone_field rest) line (λ k. tt) f
      | inr f ↦ after_get f
    ]

pub record GoesBy (cores : ℕ) (b : Before) (y : Line × Before) : Type 0 where
  pub line : IsLine cores y.0
  pub count : (size : ℕ) × (y.1 ≡ with_line b size y.0)
  pub requests : y.1.requests ≤ 1000000
  pub turns : y.1.turns ≤ 16777216

counted_within : (b : Before) (line : Line) (y : Line × Before) → counted b line ≡ Ok y → (b.requests ≤ 1000000) × (b.turns ≤ 16777216)
counted_within b line y h =
    let one = guarded (nat_le b.requests 1000000) (cond (nat_le b.turns 16777216) (Ok (line, b)) (Err 9)) 8 y h in
    let two = guarded (nat_le b.turns 16777216) (Ok (line, b)) 9 y one.1 in
    (le_true b.requests 1000000 one.0, le_true b.turns 16777216 two.0)

count_line_within : (cores : ℕ) (b : Before) (size : ℕ) (r : Result Line ℕ) (y : Line × Before) → ((line : Line) → r ≡ Ok line → IsLine cores line)
    → count_line b size r ≡ Ok y → GoesBy cores b y
count_line_within cores b size (Err rule) y good h = absurd (ok_no_error y rule (sym h))
count_line_within cores b size (Ok line) y good h =
    let same : (line, with_line b size line) ≡ y = sym (counted_ok (with_line b size line) line y h) in
    let bounds = counted_within (with_line b size line) line y h in
    subst (λ z. GoesBy cores b z) same (record { line = good line refl; count = (size, refl); requests = bounds.0; turns = bounds.1 })

goes_by : (cores : ℕ) (b : Before) (x : List ℕ × Bool) (y : Line × Before) → line_at cores b x ≡ Ok y → GoesBy cores b y
goes_by cores b x y h =
    let said = line_by cores (cut x.0) in
    let one = guarded (nat_le (b.bytes + size_with x) 67108864) (cond (nat_le (length x.0) 1048640) (count_line b (size_with x) said) (Err 2)) 1 y h in
    let two = guarded (nat_le (length x.0) 1048640) (count_line b (size_with x) said) 2 y one.1 in
    let small = le_true (length x.0) 1048640 two.0 in
    count_line_within cores b (size_with x) said y (λ line e. line_by_within cores (length x.0) (cut x.0) line small (cut_fits x.0) e) two.1

-- What stands before the lines goes on with them.
pub record LeavesRoom (cores : ℕ) (b : Before) (lines : List Line) : Type 0 where
  pub each : AllByRecursion (IsLine cores) lines
  pub requests : b.requests + length (filter_map request_in lines) ≤ 1000000
  pub turns : b.turns + sum_by turns_in lines ≤ 16777216

one_before : (cores : ℕ) (b : Before) (size : ℕ) (line : Line) (lines : List Line) → IsLine cores line → LeavesRoom cores (with_line b size line) lines → LeavesRoom cores b (line ∷ lines)
one_before cores b size (Ask q) lines good h =
    record { each = (good, h.each); requests = omega arith; turns = omega (arith, sum_by-cons turns_in (Ask q) lines) }
one_before cores b size (Go core turns) lines good h =
    record { each = (good, h.each); requests = omega arith; turns = omega (arith, sum_by-cons turns_in (Go core turns) lines) }

front_ok : (x : Line) (r : Result (List Line) (ℕ × ℕ)) (lines : List Line) → with_front x r ≡ Ok lines → (tail : List Line) × (r ≡ Ok tail) × (x ∷ tail ≡ lines)
front_ok x (Ok tail) lines h = (tail, refl, cc)
front_ok x (Err e) lines h = absurd (ok_no_error lines e (sym h))

lines_within : (cores number : ℕ) (b : Before) (xs : List (List ℕ × Bool)) (lines : List Line) → b.requests ≤ 1000000 → b.turns ≤ 16777216
    → lines_from cores number b xs ≡ Ok lines → LeavesRoom cores b lines
lines_within cores number b [] lines few slow h =
    let none : [] ≡ lines = cc h in
    subst (λ ls. LeavesRoom cores b ls) none (record { each = tt; requests = omega arith; turns = omega arith })
lines_within cores number b (x ∷ xs) lines few slow h =
    by_line (λ c tail less least e. lines_within cores (number + 1) c xs tail less least e) (line_at cores b x) refl
  where
    by_line : ((c : Before) (tail : List Line) → c.requests ≤ 1000000 → c.turns ≤ 16777216 → lines_from cores (number + 1) c xs ≡ Ok tail → LeavesRoom cores c tail)
        → (r : Result (Line × Before) ℕ) → line_at cores b x ≡ r → LeavesRoom cores b lines
    by_line again (Err rule) e = absurd (ok_no_error lines (number, rule) (sym h ∙ breaks cores number b x xs rule e))
    by_line again (Ok y) e =
        let facts = goes_by cores b x y e in
        let (tail, rest, same) = front_ok y.0 (lines_from cores (number + 1) y.1 xs) lines (sym (goes_on cores number b x xs y e) ∙ h) in
        let (size, next) = facts.count in
        let later = again y.1 tail facts.requests facts.turns rest in
        subst (λ ls. LeavesRoom cores b ls) same
        (one_before cores b size y.0 tail facts.line (subst (λ c. LeavesRoom cores c tail) next later))

pub input_within : (cores : ℕ) (bytes : List ℕ) (lines : List Line) → input_of cores bytes ≡ Ok lines → IsWithin cores lines
unfolding input_of
input_within cores bytes lines h =
    let room = lines_within cores 1 (record { bytes = 0; requests = 0; turns = 0 }) (lines_of bytes) lines (omega arith) (omega arith) h in
    record { each = room.each; requests = omega arith; turns = omega arith }

pub answer_within : (cores : ℕ) (bytes : List ℕ) (r : Result (List Line) InputError) → Answers r (input_of cores bytes) → IfOk r (λ lines. IsWithin cores lines)
answer_within cores bytes (Ok lines) h = input_within cores bytes lines h
answer_within cores bytes (Err e) h = tt
