-- One write to a map by numbers, or by pairs of numbers.
use Rattle.std.proofs.Common.{◌≡◌, ℕ, Bool, true, false, cond, ◌&&◌, eqb, List, [], ◌∷◌, length, arith, Option, Some, None, refl, ap, ◌∙◌, sym, inl, inr}
use Rattle.std.specs.declared.cmp.Ordering.{Ordering}
use Rattle.std.specs.declared.cmp.Ordering.TheVariants.{Less, Equal, Greater}
use Rattle.std.specs.Cmp.{unsigned_tied}
use Rattle.std.specs.Ordering.{nat_cmp, ordering_then, is_eq}
use Rattle.std.specs.Map.{lookup}
use Rattle.std.specs.BTreeMap.{BTreeMap, get, is_at, Updates}
use Rattle.std.proofs.lemmas.Bool.{cases_eq, eq-eqb, ne_eqb}
use Rattle.group_laws.specs.Updates.{put, put2}
use Rattle.group_machine.specs.Shows.{pair_cmp}

pub swapped : (a b : ℕ) → eqb a b ≡ eqb b a
swapped a b = elim (cases_eq a b) [
  | inl e ↦ eq-eqb a b e ∙ sym (eq-eqb b a (sym e))
  | inr ne ↦ ne_eqb a b ne ∙ sym (ne_eqb b a (λ e. ne (sym e)))
]

pub number_at : (a b : ℕ) → is_at (nat_cmp a) b ≡ eqb b a
number_at a b = unsigned_tied a b ∙ swapped a b

both_eq : (x y : Ordering) → is_eq (ordering_then x y) ≡ (is_eq x && is_eq y)
both_eq Less y = refl
both_eq Equal y = refl
both_eq Greater y = refl

pub pair_at : (a s b t : ℕ) → is_at (pair_cmp (a, s)) (b, t) ≡ (eqb b a && eqb t s)
pair_at a s b t = both_eq (nat_cmp a b) (nat_cmp s t) ∙ (λ i. number_at a b i && number_at s t i)

inside : {X Y : Type 0} (f : X → Y) (b : Bool) (x y : X) → f (cond b x y) ≡ cond b (f x) (f y)
inside f true x y = refl
inside f false x y = refl

-- what is read by f of each key, after a write of o
pub number_put : {X Y : Type 0} (f : Option X → Y) (m n : BTreeMap ℕ X) (a : ℕ) (o : Option X) → Updates nat_cmp m n a o → (b : ℕ) → f (get nat_cmp n b) ≡ put (λ b. f (get nat_cmp m b)) a (f o) b
number_put f m n a o u b = ap f (u.0 b) ∙ inside f (is_at (nat_cmp a) b) o (get nat_cmp m b) ∙ ap (λ (t : Bool). cond t (f o) (f (get nat_cmp m b))) (number_at a b)

pub pair_put : {X Y : Type 0} (f : Option X → Y) (m n : BTreeMap (ℕ × ℕ) X) (a s : ℕ) (o : Option X) → Updates pair_cmp m n (a, s) o → (b t : ℕ) → f (get pair_cmp n (b, t)) ≡ put2 (λ b t. f (get pair_cmp m (b, t))) a s (f o) b t
pair_put f m n a s o u b t = ap f (u.0 (b, t)) ∙ inside f (is_at (pair_cmp (a, s)) (b, t)) o (get pair_cmp m (b, t)) ∙ ap (λ (q : Bool). cond q (f o) (f (get pair_cmp m (b, t)))) (pair_at a s b t)

-- a map with no entry has nothing, and only such a map
pub none_there : {X : Type 0} (m : BTreeMap (ℕ × ℕ) X) → m.entries ≡ [] → (b t : ℕ) → get pair_cmp m (b, t) ≡ None
none_there m e b t = ap (lookup (is_at (pair_cmp (b, t)))) e

no_entry : {X : Type 0} (es : List ((ℕ × ℕ) × X)) → ((b t : ℕ) → lookup (is_at (pair_cmp (b, t))) es ≡ None) → es ≡ []
no_entry [] none = refl
no_entry (e ∷ es) none =
    let here : is_at (pair_cmp (e.0.0, e.0.1)) (e.0.0, e.0.1) ≡ true = pair_at e.0.0 e.0.1 e.0.0 e.0.1 ∙ (λ i. eq-eqb e.0.0 e.0.0 refl i && eq-eqb e.0.1 e.0.1 refl i) in
    let found = ap (λ (b : Bool). cond b (Some e.1) (lookup (is_at (pair_cmp (e.0.0, e.0.1))) es)) here in
    let nothing = none e.0.0 e.0.1 in
    absurd (cc (found, nothing))

pub nothing_there : {X : Type 0} (m : BTreeMap (ℕ × ℕ) X) → ((b t : ℕ) → get pair_cmp m (b, t) ≡ None) → m.entries ≡ []
nothing_there m none = no_entry m.entries none

pub no_items : {X : Type 0} (xs : List X) → length xs ≡ 0 → xs ≡ []
no_items [] e = refl
no_items (x ∷ xs) e = absurd (omega (arith, e))
