-- The pairs of winners are the live pairs.
use Rattle.std.proofs.Common.{◌≡◌, ℕ, List, [], ◌∷◌, ◌++◌, refl, sym, ◌∙◌, ap, subst, Option, Some, None}
use Rattle.std.specs.Prelude.{Result, Ok, Err, Vec}
use Rattle.std.specs.Global.{Global}
use Rattle.std.specs.Option.{option_to_list, option_and_then}
use Rattle.std.specs.List.{flat_map}
use Rattle.fs_model.specs.declared.model.Pair.{Pair}
use Rattle.chunk_map.specs.declared.layouts.Geometry.{Geometry}
use Rattle.chunk_map.specs.Layouts.{owner}
use Rattle.store_image.specs.declared.types.PlacedEntry.{PlacedEntry}
use Rattle.store_image.specs.Parts.{all_entries, value_in_block}
use Rattle.store_image.specs.Soundness.{damage}
use Rattle.store_image.specs.Winners.{winner_in, keys_of, cell_by, recovered}
use Rattle.store_image.specs.Listing.{ListsCells, with_pair}
use Rattle.store_image.proofs.Clients.{winner_is, pairs_of, lists_pairs}
use Rattle.recover.specs.declared.types.RecoverError.{RecoverError}
use Rattle.store_image.specs.declared.types.Fault.{Fault}
use Rattle.recover.specs.Causes.{HasCause}
use Rattle.recover.specs.Gathering.{AreAgreed}
use Rattle.recover.specs.Judging.{winners_fault}
use Rattle.recover.proofs.NameLaws.{winners_same}
use Rattle.recover.proofs.JudgeLaws.{by_winners}
use Rattle.recover.specs.Winning.{winners_of}
use Rattle.recover.specs.Live.{pairs_by, HasLeft, Lists}

module _ (l : Geometry) (image : ℕ → ℕ) where
  abbrev es : List PlacedEntry
  es = all_entries l image

  left_at : (ks : List ℕ) → pairs_by l image (flat_map (λ k. option_to_list (winner_in k es)) ks) ≡ pairs_of (recovered l image) ks
  left_at [] = refl
  left_at (k ∷ ks) = by_winner (left_at ks) (winner_in k es) refl where
    by_winner : pairs_by l image (flat_map (λ k. option_to_list (winner_in k es)) ks) ≡ pairs_of (recovered l image) ks → (o : Option PlacedEntry) → winner_in k es ≡ o
        → pairs_by l image (option_to_list (winner_in k es) ++ flat_map (λ k. option_to_list (winner_in k es)) ks) ≡ with_pair k (option_and_then (λ x. cell_by (value_in_block l image (owner l k)) x.entry.body) (winner_in k es)) (pairs_of (recovered l image) ks)
    by_winner rest None won =
        ap (λ o. pairs_by l image (option_to_list o ++ flat_map (λ k. option_to_list (winner_in k es)) ks)) won
        ∙ rest
        ∙ sym (ap (λ o. with_pair k (option_and_then (λ x. cell_by (value_in_block l image (owner l k)) x.entry.body) o) (pairs_of (recovered l image) ks)) won)
    by_winner rest (Some x) won =
        let key = (winner_is k es x won).1 in
        ap (λ o. pairs_by l image (option_to_list o ++ flat_map (λ k. option_to_list (winner_in k es)) ks)) won
        ∙ (λ i. with_pair (key i) (cell_by (value_in_block l image (owner l (key i))) x.entry.body) (rest i))
        ∙ sym (ap (λ o. with_pair k (option_and_then (λ x. cell_by (value_in_block l image (owner l k)) x.entry.body) o) (pairs_of (recovered l image) ks)) won)

  pub winners_list : (ws : List PlacedEntry) (ps : List Pair) → ws ≡ winners_of es → ps ≡ pairs_by l image ws → ListsCells (recovered l image) ps
  winners_list ws ps won left = subst (ListsCells (recovered l image)) (sym (left ∙ ap (pairs_by l image) won ∙ left_at (keys_of es))) (lists_pairs l image)

  -- the pairs of more winners
  pairs_append : (ws vs : List PlacedEntry) → pairs_by l image (ws ++ vs) ≡ pairs_by l image ws ++ pairs_by l image vs
  pairs_append [] vs = refl
  pairs_append (x ∷ ws) vs =
      let v = cell_by (value_in_block l image (owner l x.entry.key)) x.entry.body in
      ap (with_pair x.entry.key v) (pairs_append ws vs) ∙ before v (pairs_by l image ws) (pairs_by l image vs)
    where
      before : (o : Option (List ℕ)) (ps qs : List Pair) → with_pair x.entry.key o (ps ++ qs) ≡ with_pair x.entry.key o ps ++ qs
      before None ps qs = refl
      before (Some v) ps qs = refl

  -- those of one winner more
  pub left_more : (now more : List Pair) (ws all : List PlacedEntry) (x : PlacedEntry) → now ≡ pairs_by l image ws → more ≡ now ++ pairs_by l image (x ∷ []) → all ≡ ws ++ x ∷ [] → more ≡ pairs_by l image all
  left_more now more ws all x so_far push is = push ∙ ap (λ ps. ps ++ pairs_by l image (x ∷ [])) so_far ∙ sym (pairs_append ws (x ∷ [])) ∙ ap (pairs_by l image) (sym is)

  -- what was listed of winners
  pub left_lists : (xs : List PlacedEntry) → AreAgreed l image xs → (r : Result (Vec Pair Global) RecoverError) → HasLeft l image xs r → Lists l image r
  left_lists xs agreed r left = by_result r left where
    same : winners_of xs ≡ winners_of es
    same = winners_same (all_entries l image) xs agreed.all

    first : damage l image ≡ winners_fault l image [] (winners_of xs)
    first = by_winners l image (all_entries l image) refl agreed.chunks (winners_fault l image [] (winners_of xs)) (winners_of xs) (sym agreed.clash) same refl

    by_result : (r : Result (Vec Pair Global) RecoverError) → HasLeft l image xs r → Lists l image r
    by_result (Ok pairs) left = (first ∙ left.0, winners_list (winners_of xs) pairs.items same left.1)
    by_result (Err e) left = subst (λ (f : Option Fault). HasCause f e) (sym first) left
