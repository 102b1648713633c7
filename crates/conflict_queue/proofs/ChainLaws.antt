-- Chains of places: what a write leaves of them.
use Rattle.std.proofs.Common.{◌≡◌, ◌≢◌, ℕ, zero, suc, ◌≤◌, ◌<◌, List, [], ◌∷◌, ◌++◌, length, get_or, Option, Some, None, refl, sym, ◌∙◌, ap, subst, arith, option_to_list}
use Rattle.std.proofs.lemmas.List.{append_assoc}
use Rattle.fs_model.specs.Cells.{key_of}
use Rattle.conflict_queue.specs.declared.types.Held.{Held}
use Rattle.conflict_queue.specs.declared.nodes.Node.{Node}
use Rattle.conflict_queue.specs.Chains.{IsChain, followed, held_at, next_of, key_held, held_in, last_of, bare, IsNotIn}

pub followed_is : (ns : List Node) (k at : Option ℕ) (xs : List ℕ) (n : ℕ) → IsChain ns k at xs → length xs ≤ n → followed ns n at ≡ xs
followed_is ns k at [] zero is le = refl
followed_is ns k at [] (suc n) is le = ap (followed ns (suc n)) is
followed_is ns k at (x ∷ xs) zero is le = absurd (omega (arith, le))
followed_is ns k at (x ∷ xs) (suc n) is le = ap (followed ns (suc n)) is.0 ∙ ap (λ (ys : List ℕ). x ∷ ys) (followed_is ns k (next_of ns x) xs n is.3 (omega (arith, le)))

-- a place whose holding has another key is not in the chain
pub not_in_key : (ns : List Node) (k at : Option ℕ) (xs : List ℕ) (i : ℕ) → key_held (held_at ns i) ≢ k → IsChain ns k at xs → IsNotIn i xs
not_in_key ns k at [] i ne is = tt
not_in_key ns k at (x ∷ xs) i ne is = (λ e. ne (ap (λ (n : ℕ). key_held (held_at ns n)) (sym e) ∙ is.2), not_in_key ns k (next_of ns x) xs i ne is.3)

pub same_chain : (ns : List Node) (k j at : Option ℕ) (xs ys : List ℕ) → IsChain ns k at xs → IsChain ns j at ys → xs ≡ ys
same_chain ns k j at [] [] is other = refl
same_chain ns k j at [] (y ∷ ys) is other = let a = other.0 in absurd (cc (is, a))
same_chain ns k j at (x ∷ xs) [] is other = let a = is.0 in absurd (cc (a, other))
same_chain ns k j at (x ∷ xs) (y ∷ ys) is other =
    let a = is.0 in
    let b = other.0 in
    let e : x ≡ y = cc (a, b) in
    let rest : IsChain ns j (next_of ns x) ys = subst (λ (n : ℕ). IsChain ns j (next_of ns n) ys) (sym e) other.3 in
    let f : xs ≡ ys = same_chain ns k j (next_of ns x) xs ys is.3 rest in
    cc (e, f)

-- a chain that is shorter than the one from a place does not have that place
pub not_in_tail : (ns : List Node) (k at : Option ℕ) (xs zs : List ℕ) (i : ℕ) → IsChain ns k (Some i) zs → length xs < length zs → IsChain ns k at xs → IsNotIn i xs
not_in_tail ns k at [] zs i whole lt is = tt
not_in_tail ns k at (x ∷ xs) zs i whole lt is = (
  λ e. let a : at ≡ Some i = is.0 ∙ ap (λ (n : ℕ). Some n) e in
      let same : (x ∷ xs) ≡ zs = same_chain ns k k (Some i) (x ∷ xs) zs (subst (λ (o : Option ℕ). IsChain ns k o (x ∷ xs)) a is) whole in
      let l : length (x ∷ xs) ≡ length zs = ap length same in
      omega (arith, lt, l),
  not_in_tail ns k (next_of ns x) xs zs i whole (omega (arith, lt)) is.3,
)

-- a chain stays where the places with its key stay, but for one that it does not have
pub chain_kept : (ns ms : List Node) (k at : Option ℕ) (xs : List ℕ) (i : ℕ) → length ms ≡ length ns → ((y : ℕ) → key_held (held_at ns y) ≡ k → y ≢ i → get_or ms y bare ≡ get_or ns y bare) → IsNotIn i xs → IsChain ns k at xs → IsChain ms k at xs
chain_kept ns ms k at [] i l same out is = is
chain_kept ns ms k at (x ∷ xs) i l same out is =
    let e : get_or ms x bare ≡ get_or ns x bare = same x is.2 out.0 in (
      is.0,
      subst (λ (n : ℕ). x < n) (sym l) is.1,
      ap (λ (n : Node). key_held n.held) e ∙ is.2,
      subst (λ (o : Option ℕ). IsChain ms k o xs) (ap (λ (n : Node). n.next) (sym e)) (chain_kept ns ms k (next_of ns x) xs i l same out.1 is.3),
    )

-- so does what its places hold
pub held_kept : (ns ms : List Node) (k at : Option ℕ) (xs : List ℕ) (i : ℕ) → ((y : ℕ) → key_held (held_at ns y) ≡ k → y ≢ i → held_at ms y ≡ held_at ns y) → IsNotIn i xs → IsChain ns k at xs → held_in ms xs ≡ held_in ns xs
held_kept ns ms k at [] i same out is = refl
held_kept ns ms k at (x ∷ xs) i same out is =
    let e : held_at ms x ≡ held_at ns x = same x is.2 out.0 in
    let f = held_kept ns ms k (next_of ns x) xs i same out.1 is.3 in
    ap (λ (o : Option Held). option_to_list o ++ held_in ms xs) e ∙ ap (λ (hs : List Held). option_to_list (held_at ns x) ++ hs) f

pub last_next : (ns : List Node) (k at : Option ℕ) (x : ℕ) (xs : List ℕ) → IsChain ns k at (x ∷ xs) → next_of ns (last_of x xs) ≡ None
last_next ns k at x [] is = is.3
last_next ns k at x (y ∷ ys) is = last_next ns k (next_of ns x) y ys is.3

pub last_key : (ns : List Node) (k at : Option ℕ) (x : ℕ) (xs : List ℕ) → IsChain ns k at (x ∷ xs) → key_held (held_at ns (last_of x xs)) ≡ k
last_key ns k at x [] is = is.2
last_key ns k at x (y ∷ ys) is = last_key ns k (next_of ns x) y ys is.3

pub last_within : (ns : List Node) (k at : Option ℕ) (x : ℕ) (xs : List ℕ) → IsChain ns k at (x ∷ xs) → last_of x xs < length ns
last_within ns k at x [] is = is.1
last_within ns k at x (y ∷ ys) is = last_within ns k (next_of ns x) y ys is.3

-- what an added place j, to which the last one is linked, makes of the places
pub record Links (ns ms : List Node) (k : Option ℕ) (l j : ℕ) : Type 0 where
  pub lengths : length ms ≡ length ns
  pub nexts : (y : ℕ) → y ≢ j → y ≢ l → next_of ms y ≡ next_of ns y
  pub helds : (y : ℕ) → y ≢ j → held_at ms y ≡ held_at ns y
  pub linked : next_of ms l ≡ Some j
  pub ends : next_of ms j ≡ None
  pub key : key_held (held_at ms j) ≡ k
  pub within : j < length ms

pub chain_more : (ns ms : List Node) (k at : Option ℕ) (x : ℕ) (xs : List ℕ) (l j : ℕ) → Links ns ms k l j → last_of x xs ≡ l → IsNotIn j (x ∷ xs) → IsChain ns k at (x ∷ xs) → IsChain ms k at ((x ∷ xs) ++ j ∷ [])
chain_more ns ms k at x [] l j links last out is = (
  is.0,
  subst (λ (n : ℕ). x < n) (sym links.lengths) is.1,
  ap key_held (links.helds x out.0) ∙ is.2,
  (ap (next_of ms) last ∙ links.linked, links.within, links.key, links.ends),
)
chain_more ns ms k at x (y ∷ ys) l j links last out is =
    let ends : next_of ns l ≡ None = ap (next_of ns) (sym last) ∙ last_next ns k at x (y ∷ ys) is in
    let goes = is.3.0 in
    let isnt : x ≢ l = λ e. let f : next_of ns x ≡ next_of ns l = ap (next_of ns) e in cc (ends, goes, f) in
    let next : next_of ms x ≡ next_of ns x = links.nexts x out.0 isnt in (
      is.0,
      subst (λ (n : ℕ). x < n) (sym links.lengths) is.1,
      ap key_held (links.helds x out.0) ∙ is.2,
      subst (λ (o : Option ℕ). IsChain ms k o ((y ∷ ys) ++ j ∷ [])) (sym next) (chain_more ns ms k (next_of ns x) y ys l j links last out.1 is.3),
    )

pub last_more : (x : ℕ) (xs : List ℕ) (j : ℕ) → last_of x (xs ++ j ∷ []) ≡ j
last_more x [] j = refl
last_more x (y ∷ ys) j = last_more y ys j

pub held_append : (ns : List Node) (xs ys : List ℕ) → held_in ns (xs ++ ys) ≡ held_in ns xs ++ held_in ns ys
held_append ns [] ys = refl
held_append ns (x ∷ xs) ys = ap (λ (hs : List Held). option_to_list (held_at ns x) ++ hs) (held_append ns xs ys) ∙ sym (append_assoc (option_to_list (held_at ns x)) (held_in ns xs) (held_in ns ys))

-- what a place of a key's chain holds
pub some_held : (o : Option Held) (k : ℕ) → key_held o ≡ Some k → (h : Held) × (o ≡ Some h) × (key_of h.request ≡ k)
some_held None k is = absurd (cc is)
some_held (Some h) k is = (h, refl, cc is)

pub held_length : (ns : List Node) (k : ℕ) (at : Option ℕ) (xs : List ℕ) → IsChain ns (Some k) at xs → length (held_in ns xs) ≡ length xs
held_length ns k at [] is = refl
held_length ns k at (x ∷ xs) is =
    let some = some_held (held_at ns x) k is.2 in
    let rest = held_length ns k (next_of ns x) xs is.3 in
    ap (λ (o : Option Held). length (option_to_list o ++ held_in ns xs)) some.1 ∙ ap (λ (n : ℕ). suc n) rest
