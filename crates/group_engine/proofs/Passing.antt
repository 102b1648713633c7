-- The loops of a drain, a move and a core at a time.
use Rattle.std.proofs.Common.{if◌then◌else◌, ◌≡◌, ◌≢◌, ℕ, zero, suc, ◌+◌, ◌<◌, ◌≤◌, Bool, true, false, refl, ◌∙◌, ap, subst, arith}
use Rattle.core_worker.specs.declared.types.Turn.{Turn}
use Rattle.core_worker.specs.declared.types.Turn.TheVariants.{Moved, Idle}
use Rattle.engine_laws.specs.Ran.{Until, Pass, Drains, Goes}
use Rattle.group_engine.specs.Passes.{is_some, Settles, SettlesSoFar, Passes, PassSoFar, DrainSoFar, GoesSoFar}

pub no_higher : (turn : Turn) (x y : ℕ) → (turn ≡ Moved → x < y) → (turn ≡ Idle → x ≤ y) → x ≤ y
no_higher Moved x y less idle = let lt = less refl in omega (arith, lt)
no_higher Idle x y less idle = idle refl

some_sum : (n m : ℕ) (a b : Bool) → a ≡ is_some n → b ≡ is_some m → (if b then true else a) ≡ is_some (n + m)
some_sum n zero a b p q = (λ i. if q i then true else a) ∙ p ∙ (let z : n ≡ n + zero = omega arith in ap is_some z)
some_sum n (suc m) a b p q = (λ i. if q i then true else a) ∙ (let z : suc (n + m) ≡ n + suc m = omega arith in ap is_some z)

module _ {S : Type 0} (Move : S → ℕ → Bool → S → Type 0) where
  pub no_moves : (c : ℕ) (e : S) → SettlesSoFar Move c false e e
  no_moves c e = record { count = 0; moved_is = refl; rest = λ n f u. (let z : n ≡ 0 + n = omega arith in subst (λ m. Until Move c m e f) z u) }

  pub more_moves : (c : ℕ) (b : Bool) (e now next : S) → SettlesSoFar Move c b e now → Move now c true next → SettlesSoFar Move c true e next
  more_moves c b e now next S move = record {
    count = suc S.count;
    moved_is = refl;
    rest = λ n f u. (let s : S.count + suc n ≡ suc S.count + n = omega arith in subst (λ m. Until Move c m e f) s (S.rest (suc n) f (next, move, u)));
  }

  pub settled : (c : ℕ) (b : Bool) (e now next : S) → SettlesSoFar Move c b e now → Move now c false next → Settles Move c b e next
  settled c b e now next S move = (S.count, S.moved_is, (let z : S.count + 0 ≡ S.count = omega arith in subst (λ m. Until Move c m e next) z (S.rest 0 next move)))

  pub no_cores : (cores : ℕ) (e : S) → PassSoFar Move cores 0 false e e
  no_cores cores e = record { count = 0; moved_is = refl; rest = λ left n f same p. (let z : n ≡ 0 + n = omega arith in subst (λ m. Pass Move 0 cores m e f) z (subst (λ k. Pass Move 0 k n e f) (omega (arith, same)) p)) }

  pub more_cores : (cores at : ℕ) (a b : Bool) (e now next : S) → PassSoFar Move cores at a e now → at < cores → Settles Move at b now next → PassSoFar Move cores (at + 1) (if b then true else a) e next
  more_cores cores at a b e now next S low step = record {
    count = S.count + step.0;
    moved_is = some_sum S.count step.0 a b S.moved_is step.1;
    rest = λ left n f same p.
        let more : Pass Move at (suc left) (step.0 + n) now f = (step.0, n, refl, next, step.2, p) in
        let sum : S.count + (step.0 + n) ≡ S.count + step.0 + n = omega arith in
        subst (λ m. Pass Move 0 cores m e f) sum (S.rest (suc left) (step.0 + n) f (omega (arith, same)) more);
  }

  pub passed : (cores at : ℕ) (a : Bool) (e now : S) → PassSoFar Move cores at a e now → at ≡ cores → Passes Move cores a e now
  passed cores at a e now S end = (S.count, S.moved_is, (let z : S.count + 0 ≡ S.count = omega arith in subst (λ m. Pass Move 0 cores m e now) z (S.rest 0 0 now (omega (arith, end)) (refl, refl))))

  pub no_passes : (cores : ℕ) (e : S) → DrainSoFar Move cores e e
  no_passes cores e = record { count = 0; rest = λ n f d. (let z : n ≡ 0 + n = omega arith in subst (λ m. Drains Move cores m e f) z d) }

  pub more_passes : (cores : ℕ) (e now next : S) → DrainSoFar Move cores e now → Passes Move cores true now next → DrainSoFar Move cores e next
  more_passes cores e now next S step = record {
    count = suc S.count;
    rest = λ n f d. (let s : S.count + suc n ≡ suc S.count + n = omega arith in subst (λ m. Drains Move cores m e f) s (S.rest (suc n) f (step.0, some step.0 step.1, next, step.2, d)));
  } where
    some : (n : ℕ) → true ≡ is_some n → n ≢ 0
    some zero q e = cc q
    some (suc n) q e = omega (arith, e)

  pub drained : (cores : ℕ) (e now next : S) → DrainSoFar Move cores e now → Passes Move cores false now next → (passes : ℕ) × Drains Move cores passes e next
  drained cores e now next S step = (S.count, (let z : S.count + 0 ≡ S.count = omega arith in subst (λ m. Drains Move cores m e next) z (S.rest 0 next (subst (λ m. Pass Move 0 cores m now next) (none step.0 step.1) step.2)))) where
    none : (n : ℕ) → false ≡ is_some n → n ≡ 0
    none zero q = refl
    none (suc n) q = absurd (cc q)

  pub no_goes : (c : ℕ) (e : S) → GoesSoFar Move c 0 e e
  no_goes c e = λ n f g. let z : n ≡ 0 + n = omega arith in subst (λ m. Goes Move c m e f) z g

  pub more_goes : (c count : ℕ) (b : Bool) (e now next : S) → GoesSoFar Move c count e now → Move now c b next → GoesSoFar Move c (count + 1) e next
  more_goes c count b e now next S move = λ n f g. let z : count + suc n ≡ count + 1 + n = omega arith in subst (λ m. Goes Move c m e f) z (S (suc n) f (b, next, move, g))

  pub gone : (c count turns : ℕ) (e now : S) → GoesSoFar Move c count e now → count ≡ turns → Goes Move c turns e now
  gone c count turns e now S end = subst (λ m. Goes Move c m e now) (let z : count + 0 ≡ turns = omega (arith, end) in z) (S 0 now refl)
