-- Entries of one name, and what contradicts them.
use Rattle.std.proofs.Common.{◌≡◌, inl, inr, List, [], ◌∷◌, ◌++◌, refl, sym, ◌∙◌, ap, subst, ◌==◌, ◌&&◌, ◌||◌, not, true, false, cond, Bool, Some, append_assoc, append-nil}
use Rattle.std.proofs.lemmas.Bool.{eqb-true, eq-eqb, and_parts, not-false}
use Rattle.std.proofs.lemmas.Slice.Eq.{bytes_eq-Decides}
use Rattle.std.specs.List.{list_any}
use Rattle.log_entry.specs.declared.entry.Body.{Body}
use Rattle.log_entry.specs.declared.entry.Body.TheVariants.{Pointer, Embedded, Tombstone}
use Rattle.store_image.specs.declared.types.PlacedEntry.{PlacedEntry}
use Rattle.store_image.specs.Soundness.{same_body, contradicts, clash_after}
use Rattle.store_image.specs.Facts.{In, Agree}
use Rattle.store_image.proofs.Clients.{same_bodies, in_front, in_back}
use Rattle.recover.specs.Clashes.{HasName}

-- what an entry that contradicts another is, and what one is that doesn't
pub contradicts_name : (x y : PlacedEntry) → contradicts x y ≡ true → HasName x.entry.key x.entry.version y
contradicts_name x y is =
    let parts = and_parts (x.entry.key == y.entry.key && x.entry.version == y.entry.version) (not (same_body x.entry.body y.entry.body && x.core == y.core)) is in
    let names = and_parts (x.entry.key == y.entry.key) (x.entry.version == y.entry.version) parts.0 in
    record { key = sym (eqb-true x.entry.key y.entry.key names.0); version = sym (eqb-true x.entry.version y.entry.version names.1) }

pub agrees : (x y : PlacedEntry) → contradicts x y ≡ false → HasName x.entry.key x.entry.version y → (x.entry.body ≡ y.entry.body) × (x.core ≡ y.core)
agrees x y is name =
    let rest : not (same_body x.entry.body y.entry.body && x.core == y.core) ≡ false = sym (rw (eq-eqb x.entry.key y.entry.key (sym name.key), eq-eqb x.entry.version y.entry.version (sym name.version)) refl) ∙ is in
    let both = and_parts (same_body x.entry.body y.entry.body) (x.core == y.core) (not-false _ rest) in
    (same_bodies x.entry.body y.entry.body both.0, eqb-true x.core y.core both.1)

pub any_in : {X : Type 0} (test : X → Bool) (xs : List X) (x : X) → In x xs → test x ≡ true → list_any test xs ≡ true
any_in test [] x h is = absurd h
any_in test (y ∷ ys) x (inl p) is = rw (sym (ap test p) ∙ is) refl
any_in test (y ∷ ys) x (inr h) is = elim (test y) as (λ b. (b || list_any test ys) ≡ true) [
  | true ↦ refl
  | false ↦ any_in test ys x h is
]

none_any : {X : Type 0} (test : X → Bool) (xs : List X) → ((x : X) → In x xs → test x ≡ false) → list_any test xs ≡ false
none_any test [] none = refl
none_any test (y ∷ ys) none = rw (none y (inl refl)) (none_any test ys (λ x h. none x (inr h)))

pub true_or_false : (b : Bool) → (b ≡ true → ⊥) → b ≡ false
true_or_false true h = absurd (h refl)
true_or_false false h = refl

-- entries of one body and part don't contradict each other
same_itself : (b : Body) → same_body b b ≡ true
same_itself (Pointer p) = eq-eqb p p refl
same_itself (Embedded v) = (bytes_eq-Decides v v).1 refl
same_itself Tombstone = refl

pub no_contradiction : (x y : PlacedEntry) → x.entry.body ≡ y.entry.body → x.core ≡ y.core → contradicts x y ≡ false
no_contradiction x y body core =
    let b : same_body x.entry.body y.entry.body ≡ true = ap (same_body x.entry.body) (sym body) ∙ same_itself x.entry.body in
    let c = eq-eqb x.core y.core core in
    (λ t. (x.entry.key == y.entry.key && x.entry.version == y.entry.version && not (b t && c t))) ∙ never (x.entry.key == y.entry.key && x.entry.version == y.entry.version) where
      never : (b : Bool) → (b && false) ≡ false
      never true = refl
      never false = refl

-- the first that contradicts one before it
pub clash_at : (before xs ys : List PlacedEntry) (x : PlacedEntry) → Agree (before ++ xs) → list_any (contradicts x) (before ++ xs) ≡ true → clash_after before (xs ++ x ∷ ys) ≡ Some x
clash_at before [] ys x both any = ap (λ b. cond b (Some x) (clash_after (before ++ x ∷ []) ys)) (sym (ap (list_any (contradicts x)) (append-nil before)) ∙ any)
clash_at before (z ∷ zs) ys x both any =
    let own = none_here before z zs both in
    let again = clash_at (before ++ z ∷ []) zs ys x (subst Agree (sym (append_assoc before (z ∷ []) zs)) both) (ap (list_any (contradicts x)) (append_assoc before (z ∷ []) zs) ∙ any) in
    ap (λ b. cond b (Some z) (clash_after (before ++ z ∷ []) (zs ++ x ∷ ys))) own ∙ again where
      not_both : (b : Bool) → b ≡ true → b ≡ false → ⊥
      not_both b is isnt = cc (sym is ∙ isnt)

      fine : (z y : PlacedEntry) → (z.entry.key ≡ y.entry.key → z.entry.version ≡ y.entry.version → (z.entry.body ≡ y.entry.body) × (z.core ≡ y.core)) → contradicts z y ≡ false
      fine z y r = true_or_false (contradicts z y) (λ is. (let name = contradicts_name z y is in let same = r (sym name.key) (sym name.version) in not_both (contradicts z y) is (no_contradiction z y same.0 same.1)))

      none_here : (before : List PlacedEntry) (z : PlacedEntry) (zs : List PlacedEntry) → Agree (before ++ z ∷ zs) → list_any (contradicts z) before ≡ false
      none_here before z zs both = none_any (contradicts z) before (λ y h. (let r = both z y (in_back z before (z ∷ zs) (inl refl)) (in_front y before (z ∷ zs) h) in fine z y r))
