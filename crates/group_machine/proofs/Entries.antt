-- A loop over a map: each entry that a look-up finds was met, or is still to come.
use Rattle.std.proofs.Common.{◌≡◌, ℕ, Bool, true, eqb, List, [], ◌∷◌, Some, sym, ◌∙◌, inl, inr, ◌⊎◌, subst}
use Rattle.std.proofs.lemmas.Bool.{eqb-true, and_parts}
use Rattle.std.specs.Ordering.{nat_cmp}
use Rattle.std.specs.BTreeMap.{is_at}
use Rattle.std.specs.Map.{lookup}
use Rattle.group_laws.proofs.Clients.{cond_cases}
use Rattle.group_machine.specs.Shows.{pair_cmp}
use Rattle.group_machine.proofs.Pairs.{number_at, pair_at}

pub number_key : (q p : ℕ) → is_at (nat_cmp q) p ≡ true → p ≡ q
number_key q p t = eqb-true p q (sym (number_at q p) ∙ t)

pub pair_key : (q p : ℕ × ℕ) → is_at (pair_cmp q) p ≡ true → p ≡ q
pair_key q p t =
    let both = and_parts (eqb p.0 q.0) (eqb p.1 q.1) (sym (pair_at q.0 q.1 p.0 p.1) ∙ t) in
    let one = eqb-true p.0 q.0 both.0 in
    let two = eqb-true p.1 q.1 both.1 in
    λ i. (one i, two i)

-- one entry on
pub met : {K X : Type 0} (cmp : K → K → Bool) → ((q p : K) → cmp q p ≡ true → p ≡ q) → (P : K → X → Type 0) (p : K) (d : X) (rest it : List (K × X)) (q : K) (b : X) → it ≡ (p, d) ∷ rest → P p d → lookup (cmp q) it ≡ Some b → P q b ⊎ (lookup (cmp q) rest ≡ Some b)
met cmp exact P p d rest it q b e here l =
    elim (cond_cases (λ u. u ≡ Some b) (cmp q p) (Some d) (lookup (cmp q) rest) (subst (λ (xs : List (_ × _)). lookup (cmp q) xs ≡ Some b) e l)) [
      | inl i ↦ inl (let key = exact q p i.0 in let same : d ≡ b = cc (i.1) in subst (λ (k : _). P k b) key (subst (λ (x : _). P p x) same here))
      | inr i ↦ inr i.1
    ]

pub ended : {K X A : Type 0} (test : K → Bool) (it : List (K × X)) (b : X) → it ≡ [] → lookup test it ≡ Some b → A
ended test it b e l = absurd (let none = subst (λ (xs : List (_ × _)). lookup test xs ≡ Some b) e l in cc none)
