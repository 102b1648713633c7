-- Faults of shares together, and the verdict.
use Rattle.std.proofs.Common.{◌≡◌, ℕ, ◌+◌, ◌<◌, ◌≤◌, ◌%◌, List, length, take, min, refl, sym, ◌∙◌, subst, arith, inl, inr, Bool, true, false, Option, Some, None}
use Rattle.std.specs.Prelude.{◌⊎◌}
use Rattle.std.specs.List.{zip}
use Rattle.std.proofs.lemmas.Bool.{cases_lt, lt-ltb, ltb-true, eq-eqb, eqb-true}
use Rattle.std.proofs.lemmas.List.{length-take-le}
use Rattle.fs_model.specs.declared.model.Request.{Request}
use Rattle.fs_model.specs.declared.model.Reply.{Reply}
use Rattle.fs_model.specs.Lawful.{IsLawfulFor, asked}
use Rattle.run_audit.specs.declared.verdict.Verdict.TheVariants.{Lawful, Unlawful}
use Rattle.run_audit.specs.FirstFault.{IsLawfulFront, Judges}
use Rattle.run_audit.specs.Shares.{AreLawful, IsFaultOf, IsFaultAmong, earlier, is_of, is_before}
use Rattle.run_audit.proofs.Kept.{lawful_begin, lawful_less}
use Rattle.run_audit.proofs.Pairing.{length-zip, zip-take}

-- These keys are those of the two shares.
pub record Joins (mine one other : ℕ → Bool) : Type 0 where
  pub each : (k : ℕ) → mine k ≡ true → (one k ≡ true) ⊎ (other k ≡ true)
  pub left : (k : ℕ) → one k ≡ true → mine k ≡ true
  pub right : (k : ℕ) → other k ≡ true → mine k ≡ true

join_lawful : (start : ℕ → Option (List ℕ)) (mine one other : ℕ → Bool) (xs : List (Request × Reply)) → Joins mine one other → AreLawful start one xs → AreLawful start other xs → AreLawful start mine xs
join_lawful start mine one other xs j a b k own = elim (j.each k own) [ inl h ↦ a k h | inr h ↦ b k h ]

at_left : (start : ℕ → Option (List ℕ)) (mine one other : ℕ → Bool) (xs : List (Request × Reply)) (n : ℕ) → Joins mine one other → IsFaultOf start one xs n → AreLawful start other (take n xs) → IsFaultOf start mine xs n
at_left start mine one other xs n j f b = record {
  within = f.within;
  lawful = join_lawful start mine one other (take n xs) j f.lawful b;
  key = f.key;
  is_mine = j.left f.key f.is_mine;
  unlawful = f.unlawful;
}

at_right : (start : ℕ → Option (List ℕ)) (mine one other : ℕ → Bool) (xs : List (Request × Reply)) (n : ℕ) → Joins mine one other → AreLawful start one (take n xs) → IsFaultOf start other xs n → IsFaultOf start mine xs n
at_right start mine one other xs n j a f = record {
  within = f.within;
  lawful = join_lawful start mine one other (take n xs) j a f.lawful;
  key = f.key;
  is_mine = j.right f.key f.is_mine;
  unlawful = f.unlawful;
}

pub join_faults : (start : ℕ → Option (List ℕ)) (mine one other : ℕ → Bool) (xs : List (Request × Reply)) (a b : Option ℕ) → Joins mine one other
    → IsFaultAmong start one xs a → IsFaultAmong start other xs b → IsFaultAmong start mine xs (earlier a b)
join_faults start mine one other xs None None j f g = join_lawful start mine one other xs j f g
join_faults start mine one other xs None (Some n) j f g = at_right start mine one other xs n j (lawful_begin start one n xs f) g
join_faults start mine one other xs (Some m) None j f g = at_left start mine one other xs m j f (lawful_begin start other m xs g)
join_faults start mine one other xs (Some m) (Some n) j f g = elim (cases_lt m n) [
  | inl low ↦ let e : min m n ≡ m = omega arith in
      subst (λ i. IsFaultOf start mine xs i) (sym e) (at_left start mine one other xs m j f (lawful_less start other m n xs (omega arith) g.lawful))
  | inr high ↦ let e : min m n ≡ n = omega arith in
      subst (λ i. IsFaultOf start mine xs i) (sym e) (at_right start mine one other xs n j (lawful_less start one n m xs (omega arith) f.lawful) g)
]

abbrev all : ℕ → Bool
all k = true

front : (start : ℕ → Option (List ℕ)) (trace : List Request) (replies : List Reply) (n : ℕ) → n ≤ length trace → n ≤ length replies
    → AreLawful start all (take n (zip trace replies)) → IsLawfulFront start trace replies n
front start trace replies n a b h = record {
  asked = a;
  answered = b;
  lawful = record {
    count = length-take-le n replies b ∙ sym (length-take-le n trace a);
    each = λ k. subst (λ l. IsLawfulFor (start k) false (asked k l)) (sym (zip-take n trace replies)) (h k refl);
  };
}

front_each : (start : ℕ → Option (List ℕ)) (trace : List Request) (replies : List Reply) (n : ℕ) → IsLawfulFront start trace replies n
    → AreLawful start all (take n (zip trace replies))
front_each start trace replies n h k own = subst (λ l. IsLawfulFor (start k) false (asked k l)) (zip-take n trace replies) (h.lawful.each k)

pub judged_fault : (start : ℕ → Option (List ℕ)) (trace : List Request) (replies : List Reply) (n : ℕ) → IsFaultOf start all (zip trace replies) n → Judges start trace replies (Unlawful n)
judged_fault start trace replies n f =
    let long = length-zip trace replies in
    let within : n < length (zip trace replies) = f.within in
    let never : (AreLawful start all (take (n + 1) (zip trace replies)) → ⊥) = λ h. f.unlawful (h f.key refl) in (
      λ h. never (lawful_begin start all (n + 1) (zip trace replies) (λ k own. h.each k)),
      record {
        unlawful = λ h. never (front_each start trace replies (n + 1) h);
        least = λ m low. front start trace replies (m + 1) (omega arith) (omega arith) (lawful_less start all (m + 1) n (zip trace replies) (omega arith) f.lawful);
      },
    )

pub judged_short : (start : ℕ → Option (List ℕ)) (trace : List Request) (replies : List Reply) → AreLawful start all (zip trace replies) → (length trace ≡ length replies → ⊥)
    → Judges start trace replies (Unlawful (min (length trace) (length replies)))
judged_short start trace replies h uneven = (
  λ l. uneven (sym l.count),
  record {
    unlawful = λ f. let a = f.asked in let b = f.answered in uneven (omega arith);
    least = λ m low. front start trace replies (m + 1) (omega arith) (omega arith) (lawful_begin start all (m + 1) (zip trace replies) h);
  },
)

pub judged_lawful : (start : ℕ → Option (List ℕ)) (trace : List Request) (replies : List Reply) → AreLawful start all (zip trace replies) → length trace ≡ length replies → Judges start trace replies Lawful
judged_lawful start trace replies h even = record { count = sym even; each = λ k. h k refl }

-- ---- the shares in order
pub before_more : (workers i : ℕ) → Joins (is_before workers (i + 1)) (is_before workers i) (is_of workers i)
before_more workers i = record {
  each = λ k own. let low : k % workers < i + 1 = ltb-true (k % workers) (i + 1) own in elim (cases_lt (k % workers) i) [
    | inl h ↦ inl (lt-ltb (k % workers) i h)
    | inr h ↦ inr (eq-eqb (k % workers) i (omega arith))
  ];
  left = λ k h. let low = ltb-true (k % workers) i h in lt-ltb (k % workers) (i + 1) (omega arith);
  right = λ k h. let is = eqb-true (k % workers) i h in lt-ltb (k % workers) (i + 1) (omega arith);
}

pub before_none : (start : ℕ → Option (List ℕ)) (workers : ℕ) (xs : List (Request × Reply)) → IsFaultAmong start (is_before workers 0) xs None
before_none start workers xs k own = absurd (let low = ltb-true (k % workers) 0 own in omega arith)

-- all shares have all keys
pub before_all : (start : ℕ → Option (List ℕ)) (workers n : ℕ) (xs : List (Request × Reply)) (o : Option ℕ) → 0 < workers → n ≡ workers → IsFaultAmong start (is_before workers n) xs o → IsFaultAmong start (λ k. true) xs o
before_all start workers n xs o some is h =
    let same : is_before workers n ≡ (λ k. true) = (λ t k. lt-ltb (k % workers) n (omega arith) t) in
    subst (λ (m : ℕ → Bool). IsFaultAmong start m xs o) same h
