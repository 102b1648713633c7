-- What a crash recovers, while the run goes on.
use Rattle.std.proofs.Common.{◌≡◌, ◌⊎◌, inl, inr, ℕ, ◌+◌, ◌<◌, ◌≤◌, List, [], ◌∷◌, ◌++◌, length, refl, sym, ◌∙◌, ap, subst, arith, true, false, Option, Some, None, take, length-append, append-nil, append_assoc, not, ◌&&◌, cond}
use Rattle.std.proofs.lemmas.List.{take-append-le, take_all}
use Rattle.std.specs.List.{AllByRecursion, find}
use Rattle.std.specs.Option.{option_or, option_to_list}
use Rattle.fs_model.specs.declared.model.Request.{Request}
use Rattle.fs_model.specs.declared.model.Reply.{Reply}
use Rattle.fs_model.specs.Changes.{names, finished_changes, unfinished_change, cell_after_all, finished_by, IsPrefixCell}
use Rattle.headline.specs.Headline.{Told, finished_in, refused_in, changes_in, cells_of, Recovers}
use Rattle.fs_model.specs.Cells.{key_of, is_change, cell_after}
use Rattle.fs_model.specs.Changes.{requests_in, behind_last, requests_of}
use Rattle.fs_model.proofs.Clients.{changes-append}
use Rattle.store_image.specs.Soundness.{IsSound}
use Rattle.headline.specs.Run.{Answered, Recorded, HoldsCells}
use Rattle.headline.proofs.Lists.{each_number, any_none}
use Rattle.headline.proofs.Run.{changes_grow, prefix_grows, finished_by-append, each_finish, recorded, stopped_changes, waiting-append, is_waiting, own, own_is, none_found, with_finish, own_changes, other_changes, by_before, by_key, unnamed}

-- An image recovers a prefix of the changes also when more requests came, none of them named.
pub recovers_grow : (Known : Type 0) (bytes : ℕ) (start : ℕ → Option (List ℕ)) (done more : List Request) (replies : List Reply) (r : Told) (t : ℕ) (image : ℕ → ℕ) → Recorded Known start done replies r
    → Recovers bytes start done r (λ k. finished_by k done r.finishes t) image → Recovers bytes start (done ++ more) r (λ k. finished_by k (done ++ more) r.finishes t) image
recovers_grow Known bytes start done more replies r t image R is = record {
  sound = is.sound;
  cells = λ k lt.
      let g = changes_grow (start k) k done more (finished_in r) (refused_in r) R.finishes in
      let same = finished_by-append k t done more r.finishes (each_finish (length done) r.finishes R.finishes) in
      let long = length-append (finished_changes k done (finished_in r)) (unfinished_change (start k) k done (finished_in r) (refused_in r)) in
      let few = R.counted k t in
      let within : finished_by k done r.finishes t ≤ length (changes_in start done r k) = omega (arith, long, few) in
      subst (λ f. IsPrefixCell (start k) (changes_in start (done ++ more) r k) f (cells_of image k)) (sym same)
      (subst (λ xs. IsPrefixCell (start k) xs (finished_by k done r.finishes t) (cells_of image k)) (sym g.1)
      (prefix_grows (start k) (cells_of image k) (changes_in start done r k) g.0 (finished_by k done r.finishes t) within (is.cells k lt)));
}

take_front : (xs ys : List Request) (f : ℕ) → f ≡ length xs → take f (xs ++ ys) ≡ xs
take_front xs ys f e = take-append-le f xs ys (omega (arith, e)) ∙ take_all f xs (omega (arith, e))

module _ (Known : Type 0) (bytes : ℕ) (start : ℕ → Option (List ℕ)) (done : List Request) (replies : List Reply) (r : Told) (now : ℕ) (cell : ℕ → Option (List ℕ)) (A : Answered Known start done replies r now cell) where
  abbrev finished : ℕ → List Request
  finished k = finished_changes k done (finished_in r)

  -- an image that holds the cells recovers all changes
  pub holds_all : (t : ℕ) (image : ℕ → ℕ) → now ≤ t → HoldsCells bytes cell image → Recovers bytes start done r (λ k. finished_by k done r.finishes t) image
  holds_all t image low is = record {
    sound = is.sound;
    cells = λ k lt. inl (is.cells k ∙ sym (A.left k) ∙ ap (λ l. cell_after_all l (start k)) (sym (take_front (finished k) (unfinished_change (start k) k done (finished_in r) (refused_in r)) (finished_by k done r.finishes t) (A.whole k t low))));
  }

  -- where the changes and the counts stay as they are
  pub recovers_still : (Known' : Type 0) (done' : List Request) (replies' : List Reply) (r' : Told) (now' : ℕ) (cell' : ℕ → Option (List ℕ)) → Answered Known' start done' replies' r' now' cell'
      → ((k : ℕ) → finished_changes k done' (finished_in r') ≡ finished k) → ((k t : ℕ) → finished_by k done' r'.finishes t ≡ finished_by k done r.finishes t)
      → (t : ℕ) (image : ℕ → ℕ) → Recovers bytes start done r (λ k. finished_by k done r.finishes t) image → Recovers bytes start done' r' (λ k. finished_by k done' r'.finishes t) image
  recovers_still Known' done' replies' r' now' cell' B same counts t image is = record {
    sound = is.sound;
    cells = λ k lt.
        let changes : changes_in start done' r' k ≡ changes_in start done r k = (λ i. same k i ++ B.settled k i) ∙ ap (λ l. finished k ++ l) (sym (A.settled k)) in
        subst (λ f. IsPrefixCell (start k) (changes_in start done' r' k) f (cells_of image k)) (sym (counts k t))
        (subst (λ xs. IsPrefixCell (start k) xs (finished_by k done r.finishes t) (cells_of image k)) (sym changes) (is.cells k lt));
  }

  module _ (q : Request) where
    -- The request changes its key's cell, and either image holds the cells before it or after it.
    module _ (next : ℕ → Option (List ℕ)) (own_next : next (key_of q) ≡ cell_after q (cell (key_of q))) (others : (k : ℕ) → (key_of q ≡ k → ⊥) → next k ≡ cell k) where
      -- with the request as the unfinished change of its key, where such it is
      prefix_of : (changes : ℕ → List Request) → ((k : ℕ) → (ys : List Request) × (changes k ≡ finished k ++ ys)) → ((ys : List Request) × (changes (key_of q) ≡ finished (key_of q) ++ (q ∷ ys)))
          → (f : ℕ → ℕ) → ((k : ℕ) → f k ≡ length (finished k)) → (image : ℕ → ℕ) → HoldsCells bytes cell image ⊎ HoldsCells bytes next image → (k : ℕ) → IsPrefixCell (start k) (changes k) (f k) (cells_of image k)
      prefix_of changes front own_front f all image (inl is) = λ k.
          let g = front k in
          inl (is.cells k ∙ sym (A.left k) ∙ ap (λ l. cell_after_all l (start k)) (sym (ap (take (f k)) g.1 ∙ take_front (finished k) g.0 (f k) (all k))))
      prefix_of changes front own_front f all image (inr is) = by_key (λ k. IsPrefixCell (start k) (changes k) (f k) (cells_of image k)) (key_of q)
          (let cut : take (f (key_of q) + 1) (changes (key_of q)) ≡ finished (key_of q) ++ q ∷ [] =
          ap (take (f (key_of q) + 1)) (own_front.1 ∙ sym (append_assoc (finished (key_of q)) (q ∷ []) own_front.0))
          ∙ take_front (finished (key_of q) ++ q ∷ []) own_front.0 (f (key_of q) + 1) (let long = length-append (finished (key_of q)) (q ∷ []) in let e = all (key_of q) in omega (arith, long, e)) in
          inr (is.cells (key_of q) ∙ own_next ∙ ap (cell_after q) (sym (A.left (key_of q))) ∙ sym (changes-append (start (key_of q)) (finished (key_of q)) (q ∷ [])) ∙ ap (λ l. cell_after_all l (start (key_of q))) (sym cut)))
          (λ k ne.
          let g = front k in
          inl (is.cells k ∙ others k ne ∙ sym (A.left k) ∙ ap (λ l. cell_after_all l (start k)) (sym (ap (take (f k)) g.1 ∙ take_front (finished k) g.0 (f k) (all k)))))

      sound_of : (image : ℕ → ℕ) → HoldsCells bytes cell image ⊎ HoldsCells bytes next image → IsSound bytes image
      sound_of image (inl is) = is.sound
      sound_of image (inr is) = is.sound

      -- The change failed: it is the unfinished one of its key.
      pub recovers_failed : is_change q (cell (key_of q)) ≡ true → (t : ℕ) (image : ℕ → ℕ) → now ≤ t → HoldsCells bytes cell image ⊎ HoldsCells bytes next image
          → Recovers bytes start (done ++ q ∷ []) r (λ k. finished_by k (done ++ q ∷ []) r.finishes t) image
      recovers_failed changes t image low is =
          let R = recorded Known start done replies r now cell A in
          let same : (k : ℕ) → finished_changes k (done ++ q ∷ []) (finished_in r) ≡ finished k = stopped_changes Known start done replies r q R in
          record {
            sound = sound_of image is;
            cells = λ k lt. prefix_of (changes_in start (done ++ q ∷ []) r)
                (λ k. (unfinished_change (start k) k (done ++ q ∷ []) (finished_in r) (refused_in r), ap (λ l. l ++ unfinished_change (start k) k (done ++ q ∷ []) (finished_in r) (refused_in r)) (same k)))
                ([], (λ i. same (key_of q) i ++ waits i))
                (λ k. finished_by k (done ++ q ∷ []) r.finishes t)
                (λ k. finished_by-append k t done (q ∷ []) r.finishes (each_finish (length done) r.finishes A.finishes) ∙ A.whole k t low)
                image is k;
          } where
            waits : unfinished_change (start (key_of q)) (key_of q) (done ++ q ∷ []) (finished_in r) (refused_in r) ≡ q ∷ []
            waits =
                let k = key_of q in
                let R = recorded Known start done replies r now cell A in
                let above : AllByRecursion (λ (x : ℕ × Request). names (finished_in r) x.0 ≡ false) (own done q k) =
                each_number (λ m. names (finished_in r) m ≡ false) k (length done) (q ∷ []) (λ m low high. subst (λ m. names (finished_in r) m ≡ false) (let e : length done ≡ m = omega (arith, low, high) in e) (unnamed (finished_in r) (length done) A.finishes)) in
                let before : find (is_waiting (cell k) (refused_in r)) (behind_last (λ x. names (finished_in r) x.0) (requests_of k done)) ≡ None =
                ap (λ c. find (is_waiting c (refused_in r)) (behind_last (λ x. names (finished_in r) x.0) (requests_of k done))) (sym (A.left k)) ∙ none_found _ (A.settled k) in
                let here : find (is_waiting (cell k) (refused_in r)) (own done q k) ≡ Some (length done, q) =
                ap (find (is_waiting (cell k) (refused_in r))) (own_is done q k refl)
                ∙ (λ i. cond (changes i && not (unnamed (refused_in r) (length done) A.refusals i)) (Some (length done, q)) None) in
                ap (λ l. requests_in (option_to_list (find (is_waiting (cell_after_all l (start k)) (refused_in r)) (behind_last (λ x. names (finished_in r) x.0) (requests_of k (done ++ q ∷ [])))))) (stopped_changes Known start done replies r q R k)
                ∙ ap (λ c. requests_in (option_to_list (find (is_waiting c (refused_in r)) (behind_last (λ x. names (finished_in r) x.0) (requests_of k (done ++ q ∷ [])))))) (A.left k)
                ∙ ap (λ o. requests_in (option_to_list o)) (waiting-append done (q ∷ []) (finished_in r) (finished_in r) (refused_in r) (refused_in r) (λ m lt. refl) (λ m lt. refl) k (cell k) (any_none (λ (x : ℕ × Request). names (finished_in r) x.0) (own done q k) above)
                ∙ (λ i. option_or (before i) (here i)))

      -- The change is finished at a stamp: before it, the image holds the cells or the next ones; an image from before the call recovers what it did.
      module _ (reply : Reply) (later : ℕ) (low : now ≤ later) where
        abbrev after : Told
        after = with_finish Known start done replies r now cell q reply A later low

        grown : (k : ℕ) → (ys : List Request) × (changes_in start (done ++ q ∷ []) after k ≡ finished k ++ ys)
        grown = by_key (λ k. (ys : List Request) × (changes_in start (done ++ q ∷ []) after k ≡ finished k ++ ys)) (key_of q)
            (q ∷ unfinished_change (start (key_of q)) (key_of q) (done ++ q ∷ []) (finished_in after) (refused_in after), own_grown)
            (λ k ne. (
              unfinished_change (start k) k (done ++ q ∷ []) (finished_in after) (refused_in after),
              ap (λ l. l ++ unfinished_change (start k) k (done ++ q ∷ []) (finished_in after) (refused_in after)) (other_changes Known start done replies r now cell q reply A later low k ne),
            )) where
              own_grown : changes_in start (done ++ q ∷ []) after (key_of q) ≡ finished (key_of q) ++ (q ∷ unfinished_change (start (key_of q)) (key_of q) (done ++ q ∷ []) (finished_in after) (refused_in after))
              own_grown = ap (λ l. l ++ unfinished_change (start (key_of q)) (key_of q) (done ++ q ∷ []) (finished_in after) (refused_in after)) (own_changes Known start done replies r now cell q reply A later low)
                  ∙ append_assoc (finished (key_of q)) (q ∷ []) (unfinished_change (start (key_of q)) (key_of q) (done ++ q ∷ []) (finished_in after) (refused_in after))

        pub recovers_before : (t : ℕ) (image : ℕ → ℕ) → t < later → Recovers bytes start done r (λ k. finished_by k done r.finishes t) image
            → Recovers bytes start (done ++ q ∷ []) after (λ k. finished_by k (done ++ q ∷ []) after.finishes t) image
        recovers_before t image lt is = record {
          sound = is.sound;
          cells = λ k small.
              let g = grown k in
              let none : changes_in start done r k ≡ finished k = ap (λ l. finished k ++ l) (A.settled k) ∙ append-nil (finished k) in
              let few = A.counted k t in
              subst (λ f. IsPrefixCell (start k) (changes_in start (done ++ q ∷ []) after k) f (cells_of image k)) (sym (by_before Known start done replies r now cell q reply A later low k t lt))
              (subst (λ xs. IsPrefixCell (start k) xs (finished_by k done r.finishes t) (cells_of image k)) (sym g.1)
              (prefix_grows (start k) (cells_of image k) (finished k) g.0 (finished_by k done r.finishes t) few
              (subst (λ xs. IsPrefixCell (start k) xs (finished_by k done r.finishes t) (cells_of image k)) none (is.cells k small))));
        }

        pub recovers_during : (t : ℕ) (image : ℕ → ℕ) → now ≤ t → t < later → HoldsCells bytes cell image ⊎ HoldsCells bytes next image
            → Recovers bytes start (done ++ q ∷ []) after (λ k. finished_by k (done ++ q ∷ []) after.finishes t) image
        recovers_during t image from lt is = record {
          sound = sound_of image is;
          cells = λ k small. prefix_of (changes_in start (done ++ q ∷ []) after) grown (
            unfinished_change (start (key_of q)) (key_of q) (done ++ q ∷ []) (finished_in after) (refused_in after),
            ap (λ l. l ++ unfinished_change (start (key_of q)) (key_of q) (done ++ q ∷ []) (finished_in after) (refused_in after)) (own_changes Known start done replies r now cell q reply A later low)
                ∙ append_assoc (finished (key_of q)) (q ∷ []) (unfinished_change (start (key_of q)) (key_of q) (done ++ q ∷ []) (finished_in after) (refused_in after)),
          )
              (λ k. finished_by k (done ++ q ∷ []) after.finishes t)
              (λ k. by_before Known start done replies r now cell q reply A later low k t lt ∙ A.whole k t from)
              image is k;
        }
