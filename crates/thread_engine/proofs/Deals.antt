-- Requests dealt to cores, some after others.
use Rattle.std.proofs.Common.{◌≡◌, ◌≢◌, ◌⊎◌, inl, inr, ℕ, zero, suc, ◌+◌, ◌%◌, ◌<◌, ◌==◌, cond, List, [], ◌∷◌, ◌++◌, length, filter, slice_index_or, slice_set, refl, sym, ◌∙◌, ap, subst, append-nil, append_assoc, arith}
use Rattle.std.specs.List.{enumerate_from}
use Rattle.std.specs.Global.{Global}
use Rattle.std.specs.declared.collections.VecDeque.{VecDeque}
use Rattle.std.proofs.lemmas.Bool.{cases_eq, eq-eqb, ne_eqb}
use Rattle.std.proofs.lemmas.List.Elements.{filter-append}
use Rattle.fs_model.specs.declared.model.Request.{Request}
use Rattle.fs_model.specs.Cells.{key_of}
use Rattle.headline.proofs.Clients.{enumerate-append}
use Rattle.thread_engine.specs.declared.core_job.CoreJob.{CoreJob}
use Rattle.thread_engine.specs.Windows.{dealt_from, IsDealt, AreDealt}

-- a place that is set, and another one
pub set_count : {X : Type 0} (ys : List X) (i : ℕ) (x : X) → length (slice_set ys i x) ≡ length ys
set_count [] i x = refl
set_count (y ∷ ys) zero x = refl
set_count (y ∷ ys) (suc i) x = (let r = set_count ys i x in omega (arith, r))

pub set_here : {X : Type 0} (ys : List X) (i : ℕ) (x d : X) → i < length ys → slice_index_or (slice_set ys i x) i d ≡ x
set_here [] i x d low = absurd (omega (arith, low))
set_here (y ∷ ys) zero x d low = refl
set_here (y ∷ ys) (suc i) x d low = set_here ys i x d (omega (arith, low))

pub set_other : {X : Type 0} (ys : List X) (i c : ℕ) (x d : X) → c ≢ i → slice_index_or (slice_set ys i x) c d ≡ slice_index_or ys c d
set_other [] i c x d ne = refl
set_other (y ∷ ys) zero zero x d ne = absurd (ne refl)
set_other (y ∷ ys) zero (suc c) x d ne = refl
set_other (y ∷ ys) (suc i) zero x d ne = refl
set_other (y ∷ ys) (suc i) (suc c) x d ne = set_other ys i c x d (λ e. ne (ap suc e))

-- within the list the item for none there doesn't matter
pub index_any : {X : Type 0} (ys : List X) (i : ℕ) (d e : X) → i < length ys → slice_index_or ys i d ≡ slice_index_or ys i e
index_any [] i d e low = absurd (omega (arith, low))
index_any (y ∷ ys) zero d e low = refl
index_any (y ∷ ys) (suc i) d e low = index_any ys i d e (omega (arith, low))

-- the requests of more
pub dealt-append : (cores c n : ℕ) (xs ys : List Request) → dealt_from cores c n (xs ++ ys) ≡ dealt_from cores c n xs ++ dealt_from cores c (n + length xs) ys
dealt-append cores c n xs ys = ap (filter (λ (x : ℕ × Request). (key_of x.1 % cores) == c)) (enumerate-append n xs ys) ∙ filter-append (λ (x : ℕ × Request). (key_of x.1 % cores) == c) (enumerate_from n xs) (enumerate_from (n + length xs) ys)

module _ {B P : Type 0} where
  pub is_none : (x : CoreJob B P) → IsDealt [] x x
  is_none x = record { seat = refl; piece = refl; worker = refl; queue = sym (append-nil x.queue.items) }

  pub is_more : (xs ys : List (ℕ × Request)) (x y z : CoreJob B P) → IsDealt xs x y → IsDealt ys y z → IsDealt (xs ++ ys) x z
  is_more xs ys x y z D E = record {
    seat = E.seat ∙ D.seat;
    piece = E.piece ∙ D.piece;
    worker = E.worker ∙ D.worker;
    queue = E.queue ∙ ap (λ q. q ++ ys) D.queue ∙ append_assoc x.queue.items xs ys;
  }

  pub none_dealt : (n : ℕ) (jobs : List (CoreJob B P)) → AreDealt n [] jobs jobs
  none_dealt n jobs = record { count = refl; each = λ c d low. is_none (slice_index_or jobs c d) }

  pub more_dealt : (n : ℕ) (xs ys : List Request) (a b e : List (CoreJob B P)) → AreDealt n xs a b → AreDealt (n + length xs) ys b e → AreDealt n (xs ++ ys) a e
  more_dealt n xs ys a b e D E = record {
    count = E.count ∙ D.count;
    each = λ c d low.
        let same = D.count in
        let later = subst (λ m. IsDealt (dealt_from m c (n + length xs) ys) (slice_index_or b c d) (slice_index_or e c d)) same (E.each c d (omega (arith, low, same))) in
        subst (λ q. IsDealt q (slice_index_or a c d) (slice_index_or e c d)) (sym (dealt-append (length a) c n xs ys))
        (is_more (dealt_from (length a) c n xs) (dealt_from (length a) c (n + length xs) ys) (slice_index_or a c d) (slice_index_or b c d) (slice_index_or e c d) (D.each c d low) later);
  }

  -- One core's queue was changed.
  module _ (jobs : List (CoreJob B P)) (i : ℕ) (low : i < length jobs) (x : CoreJob B P) (x_is : (d : CoreJob B P) → slice_index_or jobs i d ≡ x) (queue : VecDeque (ℕ × Request) Global) where
    abbrev changed : List (CoreJob B P)
    changed = slice_set jobs i (record x { queue = queue })

    -- a request joined
    pub one_dealt : (n : ℕ) (r : Request) → (key_of r % length jobs) ≡ i → queue.items ≡ x.queue.items ++ (n, r) ∷ [] → AreDealt n (r ∷ []) jobs changed
    one_dealt n r own is = record { count = set_count jobs i (record x { queue = queue }); each = λ c d at. each c d at (cases_eq c i) } where
      each : (c : ℕ) (d : CoreJob B P) → c < length jobs → (c ≡ i) ⊎ (c ≢ i) → IsDealt (dealt_from (length jobs) c n (r ∷ [])) (slice_index_or jobs c d) (slice_index_or changed c d)
      each c d at (inl same) = subst (λ m. IsDealt (dealt_from (length jobs) m n (r ∷ [])) (slice_index_or jobs m d) (slice_index_or changed m d)) (sym same)
          (subst (λ (y : CoreJob B P). IsDealt (dealt_from (length jobs) i n (r ∷ [])) (slice_index_or jobs i d) y) (sym (set_here jobs i (record x { queue = queue }) d low))
          (subst (λ (y : CoreJob B P). IsDealt (dealt_from (length jobs) i n (r ∷ [])) y (record x { queue = queue })) (sym (x_is d)) (record {
            seat = refl;
            piece = refl;
            worker = refl;
            queue = is ∙ ap (λ b. x.queue.items ++ cond b ((n, r) ∷ []) []) (sym (eq-eqb (key_of r % length jobs) i own));
          })))
      each c d at (inr ne) =
          subst (λ (y : CoreJob B P). IsDealt (dealt_from (length jobs) c n (r ∷ [])) (slice_index_or jobs c d) y) (sym (set_other jobs i c (record x { queue = queue }) d ne))
          (subst (λ b. IsDealt (cond b ((n, r) ∷ []) []) (slice_index_or jobs c d) (slice_index_or jobs c d)) (sym (ne_eqb (key_of r % length jobs) c (λ e. ne (sym e ∙ own)))) (is_none (slice_index_or jobs c d)))

    -- none did
    pub none_more : (n : ℕ) → queue.items ≡ x.queue.items → AreDealt n [] jobs changed
    none_more n is = record { count = set_count jobs i (record x { queue = queue }); each = λ c d at. each c d at (cases_eq c i) } where
      each : (c : ℕ) (d : CoreJob B P) → c < length jobs → (c ≡ i) ⊎ (c ≢ i) → IsDealt [] (slice_index_or jobs c d) (slice_index_or changed c d)
      each c d at (inl same) = subst (λ m. IsDealt [] (slice_index_or jobs m d) (slice_index_or changed m d)) (sym same)
          (subst (λ (y : CoreJob B P). IsDealt [] (slice_index_or jobs i d) y) (sym (set_here jobs i (record x { queue = queue }) d low))
          (subst (λ (y : CoreJob B P). IsDealt [] y (record x { queue = queue })) (sym (x_is d)) (record {
            seat = refl;
            piece = refl;
            worker = refl;
            queue = is ∙ sym (append-nil x.queue.items);
          })))
      each c d at (inr ne) = subst (λ (y : CoreJob B P). IsDealt [] (slice_index_or jobs c d) y) (sym (set_other jobs i c (record x { queue = queue }) d ne)) (is_none (slice_index_or jobs c d))
