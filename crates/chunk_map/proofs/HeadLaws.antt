-- The head of a chunk is read while it is set.
use Rattle.std.proofs.Common.{◌≡◌, ◌≢◌, inl, inr, ⊎_elim, ℕ, ◌+◌, ◌*◌, ◌/◌, ◌%◌, ◌==◌, ◌&&◌, nat_le, cond, Result, Ok, Err, refl, sym, ◌∙◌, ap, subst, arith}
use Rattle.std.proofs.lemmas.Bool.{cases_eq, and_from, eq-eqb, ne_eqb, le-leb, cond-true, cond-false}
use Rattle.pm_region.specs.Cell.{MayBe}
use Rattle.pm_region.specs.State.{State, IsTelling, cell_now, During}
use Rattle.pm_region.specs.Words.{EachIn}
use Rattle.pm_region.proofs.Clients.{weaken, may_be_last}
use Rattle.chunk_map.specs.declared.layouts.Geometry.{Geometry}
use Rattle.chunk_map.specs.declared.heads.Head.{Head}
use Rattle.chunk_map.specs.declared.heads.Head.TheVariants.{Free, Log, Data}
use Rattle.chunk_map.specs.Layouts.{payload_words, is_class, head_by}
use Rattle.chunk_map.specs.Checked.{FitsHead}
use Rattle.chunk_map.specs.Setting.{HeadTurns, HasHead, HasEitherHead}

-- the words of a head that fits are read as it
pub log_read : (l : Geometry) (tail : ℕ) → FitsHead l (Log tail) → head_by l 1 tail ≡ Ok (Log tail)
log_read l tail fits = cond-true (tail % 8 == 0 && nat_le tail (payload_words l)) (Ok (Log tail)) (Err 5) (and_from _ _ (eq-eqb (tail % 8) 0 fits.0) (le-leb tail (payload_words l) fits.1))

-- the tail word is read of a Log alone
pub tail_unread : (l : Geometry) (kind tail other : ℕ) → kind ≢ 1 → head_by l kind tail ≡ head_by l kind other
tail_unread l kind tail other ne =
    let no_log = ne_eqb kind 1 ne in
    ap (λ (r : Result Head ℕ). cond (kind == 0) (Ok Free) r) (cond-false (kind == 1) (cond (tail % 8 == 0 && nat_le tail (payload_words l)) (Ok (Log tail)) (Err 5)) (cond (kind % 256 == 2 && is_class l (kind / 256)) (Ok (Data (kind / 256))) (Err 4)) no_log
    ∙ sym (cond-false (kind == 1) (cond (other % 8 == 0 && nat_le other (payload_words l)) (Ok (Log other)) (Err 5)) (cond (kind % 256 == 2 && is_class l (kind / 256)) (Ok (Data (kind / 256))) (Err 4)) no_log))

pub data_read : (l : Geometry) (class tail : ℕ) → FitsHead l (Data class) → head_by l (2 + 256 * class) tail ≡ Ok (Data class)
data_read l class tail fits =
    let kind = 2 + 256 * class in
    let rest : kind % 256 ≡ 2 = omega arith in
    let number : kind / 256 ≡ class = omega arith in
    cond-false (kind == 0) (Ok Free) _ (ne_eqb kind 0 (λ e. omega (arith, e)))
    ∙ cond-false (kind == 1) _ _ (ne_eqb kind 1 (λ e. omega (arith, e)))
    ∙ cond-true (kind % 256 == 2 && is_class l (kind / 256)) (Ok (Data (kind / 256))) (Err 4) (and_from _ _ (eq-eqb (kind % 256) 2 rest) (ap (is_class l) number ∙ fits))
    ∙ ap (λ (n : ℕ). Ok (Data n)) number

module _ (s : State) (l : Geometry) (at : ℕ) (before : Result Head ℕ) (was : EachIn at (at + 2) (HasHead l at before) (cell_now s)) where
  -- two words that a crash might leave at entry are read as the head was
  old_words : (kind tail : ℕ) → MayBe (cell_now s at) kind → MayBe (cell_now s (at + 1)) tail → head_by l kind tail ≡ before
  old_words kind tail may may' =
      let P : ℕ → ℕ = λ w. cond (w == at) kind tail in
      let first : P at ≡ kind = cond-true (at == at) kind tail (eq-eqb at at refl) in
      let second : P (at + 1) ≡ tail = cond-false (at + 1 == at) kind tail (ne_eqb (at + 1) at (λ e. omega (arith, e))) in
      sym (λ i. head_by l (first i) (second i))
      ∙ was P (λ w low high. ⊎_elim
      (λ here. subst (λ (n : ℕ). MayBe (cell_now s n) (P n)) (sym here) (subst (λ (v : ℕ). MayBe (cell_now s at) v) (sym first) may))
      (λ other. let next : w ≡ at + 1 = omega (arith, low, high, other) in subst (λ (n : ℕ). MayBe (cell_now s n) (P n)) (sym next) (subst (λ (v : ℕ). MayBe (cell_now s (at + 1)) v) (sym second) may'))
      (cases_eq w at))

  either : (head : Head) → FitsHead l head → (image : ℕ → ℕ) → HeadTurns (cell_now s) at head image → HasEitherHead l at before head image
  either Free fits image is = ⊎_elim
      (λ old. inl (old_words (image at) (image (at + 1)) old is.1))
      (λ new. inr (ap (λ (n : ℕ). head_by l n (image (at + 1))) new)) is.0
  either (Log tail) fits image is = ⊎_elim
      (λ old. ⊎_elim
      (λ same. inl (old_words (image at) (image (at + 1)) old.0 same))
      (λ new. ⊎_elim
      (λ one. inr ((λ i. head_by l (one i) (new i)) ∙ log_read l tail fits))
      (λ other. inl (tail_unread l (image at) (image (at + 1)) (cell_now s (at + 1)).last other ∙ old_words (image at) (cell_now s (at + 1)).last old.0 (may_be_last (cell_now s (at + 1)) (cell_now s (at + 1)).last refl)))
      (cases_eq (image at) 1)) old.1)
      (λ new. inr ((λ i. head_by l (new.0 i) (new.1 i)) ∙ log_read l tail fits)) is
  either (Data class) fits image is = ⊎_elim
      (λ old. inl (old_words (image at) (image (at + 1)) old is.1))
      (λ new. inr (ap (λ (n : ℕ). head_by l n (image (at + 1))) new ∙ data_read l class (image (at + 1)) fits)) is.0

pub either_head : (s t : State) (at : ℕ) (head : Head) → During s t (EachIn at (at + 2) (HeadTurns (cell_now s) at head)) → (l : Geometry) (before : Result Head ℕ) → FitsHead l head
    → (IsTelling s → EachIn at (at + 2) (HasHead l at before) (cell_now s)) → During s t (EachIn at (at + 2) (HasEitherHead l at before head))
either_head s t at head run l before fits was = weaken s t (EachIn at (at + 2) (HeadTurns (cell_now s) at head)) (EachIn at (at + 2) (HasEitherHead l at before head))
    (λ telling m each image may. either s l at before (was telling) head fits image (each image may)) run
