-- The rules on blocks, told of the list of winners.
use Rattle.std.proofs.Common.{◌≡◌, inl, ℕ, ◌*◌, ◌<◌, ltb, List, [], ◌∷◌, ◌++◌, map, refl, sym, ◌∙◌, ap, subst, arith, ◌&&◌, ◌||◌, false, cond, Bool, Option, Some, None, append_assoc, append-nil}
use Rattle.std.specs.Prelude.{option_map}
use Rattle.std.specs.Option.{option_or, option_to_list}
use Rattle.std.specs.List.{flat_map, list_any, AllByRecursion}
use Rattle.std.proofs.lemmas.Bool.{lt-ltb, le-ltb}
use Rattle.log_entry.specs.declared.entry.Body.{Body}
use Rattle.log_entry.specs.declared.entry.Body.TheVariants.{Pointer, Embedded, Tombstone}
use Rattle.chunk_map.specs.declared.layouts.Geometry.{Geometry}
use Rattle.chunk_map.specs.Layouts.{owner, has_class}
use Rattle.store_image.specs.declared.types.PlacedEntry.{PlacedEntry}
use Rattle.store_image.specs.declared.types.Fault.{Fault}
use Rattle.store_image.specs.Parts.{block_class, all_entries}
use Rattle.store_image.specs.Winners.{winner_in, keys_of}
use Rattle.store_image.specs.Listing.{IsRising}
use Rattle.store_image.specs.Soundness.{first_some, damaged, points_to, pointer_rule, body_rule, winner_fault, block_fault, chunk_fault, clash_fault, damage}
use Rattle.store_image.proofs.Clients.{in_back, winner_is, rising_keys, chunks_decide, clash_decides, blocks_decide}
use Rattle.recover.specs.ByName.{IsByName}
use Rattle.store_image.specs.Facts.{Agree}
use Rattle.pm_region.specs.State.{Frame}
use Rattle.recover.specs.declared.found_entries.Found.{Found}
use Rattle.recover.specs.Regions.{Covers}
use Rattle.recover.specs.FoundEntries.{core_at, chunk_there, found_of, entries_at, Stands, AreFound, AreByName}
use Rattle.recover.specs.declared.types.RecoverError.{RecoverError}
use Rattle.recover.specs.declared.types.RecoverError.TheVariants as errors
use Rattle.recover.specs.Causes.{HasCause}
use Rattle.recover.specs.Gathering.{AllSpell, AreAgreed}
use Rattle.recover.proofs.NameLaws.{no_clash}
use Rattle.recover.proofs.FoundEntryLaws.{by_name_at, all_by_name, in_first, in_sorted}
use Rattle.recover.specs.FirstClash.{IsFirstClash}
use Rattle.recover.proofs.FirstClashLaws.{clash_found}
use Rattle.recover.proofs.WordOrderLaws.{words_rise}
use Rattle.recover.proofs.ReadBackLaws.{found_back, found_stand}
use Rattle.recover.specs.Winning.{winners_of}
use Rattle.recover.specs.Judging.{is_taken, rule_beside, body_beside, fault_beside, winners_fault}
use Rattle.recover.proofs.WinningLaws.{above_in}

-- no key behind is a smaller one
none_above : (f : ℕ → Bool) (k : ℕ) (xs : List ℕ) → AllByRecursion (λ y. k < y) xs → list_any (λ j. ltb j k && f j) xs ≡ false
none_above f k [] all = refl
none_above f k (x ∷ xs) all = let lt = all.0 in rw (le-ltb x k (omega (arith, lt))) (none_above f k xs all.1)

module _ (es : List PlacedEntry) where
  -- the winners of these keys
  abbrev pub winners_at : List ℕ → List PlacedEntry
  winners_at ks = flat_map (λ k. option_to_list (winner_in k es)) ks

  at_append : (a b : List ℕ) → winners_at (a ++ b) ≡ winners_at a ++ winners_at b
  at_append [] b = refl
  at_append (k ∷ a) b = ap (λ l. option_to_list (winner_in k es) ++ l) (at_append a b) ∙ sym (append_assoc (option_to_list (winner_in k es)) (winners_at a) (winners_at b))

  taken_first : (p : ℕ) (o : Option PlacedEntry) (ws : List PlacedEntry) → is_taken p (option_to_list o ++ ws) ≡ (points_to p o || is_taken p ws)
  taken_first p None ws = refl
  taken_first p (Some x) ws = refl

  -- a winner of a smaller key is one of the keys in front
  any_before : (p : ℕ) (done : List ℕ) (k : ℕ) (rest : List ℕ) → IsRising (done ++ k ∷ rest) → list_any (λ j. ltb j k && points_to p (winner_in j es)) (done ++ k ∷ rest) ≡ is_taken p (winners_at done)
  any_before p [] k rest is = rw (le-ltb k k (omega arith)) (none_above (λ j. points_to p (winner_in j es)) k rest is.0)
  any_before p (d ∷ done) k rest is =
      let less = above_in d k (done ++ k ∷ rest) is.0 (in_back k done (k ∷ rest) (inl refl)) in
      rw (lt-ltb d k less) (ap (λ b. points_to p (winner_in d es) || b) (any_before p done k rest is.1)) ∙ sym (taken_first p (winner_in d es) (winners_at done))

  module _ (l : Geometry) (image : ℕ → ℕ) where
    -- a winner breaks what its key's winner breaks
    same_rule : (k p : ℕ) (before : List PlacedEntry) (o : Option ℕ) → list_any (λ j. ltb j k && points_to p (winner_in j es)) (keys_of es) ≡ is_taken p before → rule_beside image before p o ≡ pointer_rule image es k p o
    same_rule k p before None same = refl
    same_rule k p before (Some class) same = ap (λ b. cond (has_class (image (32 * p)) class) (cond b (Some 11) None) (Some 10)) (sym same)

    same_body_rule : (k : ℕ) (before : List PlacedEntry) (b : Body) → ((p : ℕ) → list_any (λ j. ltb j k && points_to p (winner_in j es)) (keys_of es) ≡ is_taken p before) → body_beside l image before k b ≡ body_rule l image es k b
    same_body_rule k before (Pointer p) same = same_rule k p before (block_class l image (owner l k) p) (same p)
    same_body_rule k before (Embedded v) same = refl
    same_body_rule k before Tombstone same = refl

    decide : (done rest : List ℕ) → done ++ rest ≡ keys_of es → winners_fault l image (winners_at done) (winners_at rest) ≡ first_some (λ k. winner_fault l image es k (winner_in k es)) rest
    decide done [] all = refl
    decide done (k ∷ rest) all = by_winner (decide (done ++ k ∷ []) rest (append_assoc done (k ∷ []) rest ∙ all)) (winner_in k es) refl where
      before : (p : ℕ) → list_any (λ j. ltb j k && points_to p (winner_in j es)) (keys_of es) ≡ is_taken p (winners_at done)
      before p = ap (list_any (λ j. ltb j k && points_to p (winner_in j es))) (sym all) ∙ any_before p done k rest (subst IsRising (sym all) (rising_keys es))

      more : (o : Option PlacedEntry) → winner_in k es ≡ o → winners_at (done ++ k ∷ []) ≡ winners_at done ++ option_to_list o
      more o won = at_append done (k ∷ []) ∙ ap (λ p. winners_at done ++ (option_to_list p ++ [])) won ∙ ap (λ l. winners_at done ++ l) (append-nil (option_to_list o))

      by_winner : winners_fault l image (winners_at (done ++ k ∷ [])) (winners_at rest) ≡ first_some (λ k. winner_fault l image es k (winner_in k es)) rest → (o : Option PlacedEntry) → winner_in k es ≡ o → winners_fault l image (winners_at done) (option_to_list (winner_in k es) ++ winners_at rest) ≡ option_or (winner_fault l image es k (winner_in k es)) (first_some (λ k. winner_fault l image es k (winner_in k es)) rest)
      by_winner again None won =
          ap (λ p. winners_fault l image (winners_at done) (option_to_list p ++ winners_at rest)) won
          ∙ ap (λ ws. winners_fault l image ws (winners_at rest)) (sym (more None won ∙ append-nil (winners_at done)))
          ∙ again
          ∙ ap (λ p. option_or (winner_fault l image es k p) (first_some (λ k. winner_fault l image es k (winner_in k es)) rest)) (sym won)
      by_winner again (Some x) won =
          let key : x.entry.key ≡ k = (winner_is k es x won).1 in
          let own : fault_beside l image (winners_at done) x ≡ winner_fault l image es k (Some x) =
          ap (option_map (damaged x.core x.chunk)) (ap (λ j. body_beside l image (winners_at done) j x.entry.body) key ∙ same_body_rule k (winners_at done) x.entry.body before) in
          ap (λ p. winners_fault l image (winners_at done) (option_to_list p ++ winners_at rest)) won
          ∙ ap (λ f. option_or f (winners_fault l image (winners_at done ++ x ∷ []) (winners_at rest))) own
          ∙ ap (option_or (winner_fault l image es k (Some x))) (ap (λ ws. winners_fault l image ws (winners_at rest)) (sym (more (Some x) won)) ∙ again)
          ∙ ap (λ p. option_or (winner_fault l image es k p) (first_some (λ k. winner_fault l image es k (winner_in k es)) rest)) (sym won)

    pub winners_decide : winners_fault l image [] (winners_of es) ≡ block_fault l image es
    winners_decide = decide [] (keys_of es) refl

-- what the steps find one after another decides
module _ (l : Geometry) (image : ℕ → ℕ) where
  pub by_chunks : (e : RecoverError) → HasCause (chunk_fault l image) e → HasCause (damage l image) e
  by_chunks (errors.Fault f) is = sym (chunks_decide l image (all_entries l image) refl (Some f) (sym is) refl)
  by_chunks errors.Memory is = tt

  module _ (es : List PlacedEntry) (is : es ≡ all_entries l image) (whole : chunk_fault l image ≡ None) where
    pub by_clash : (f : Fault) → Some f ≡ clash_fault es → damage l image ≡ Some f
    by_clash f found = sym (clash_decides l image es is (Some f) None (sym whole) refl found refl)

    pub by_winners : (f : Option Fault) (ws : List PlacedEntry) → None ≡ clash_fault es → ws ≡ winners_of es → f ≡ winners_fault l image [] ws → damage l image ≡ f
    by_winners f ws none won found = sym (blocks_decide l image es is f None None (sym whole) refl none refl (found ∙ ap (winners_fault l image []) won ∙ winners_decide es l image))

-- all entries that break none of rules 4 to 8, as they are found
module _ (f : Frame) (l : Geometry) (covers : Covers f l) (image : ℕ → ℕ) (fs xs : List Found) (is : fs ≡ map (found_of l) (all_entries l image)) (whole : chunk_fault l image ≡ None) (spells : AllSpell l image) (sorted : AreByName fs xs) where
  -- they stand there
  pub stand_sorted : AreFound l image xs
  stand_sorted = all_by_name (Stands l image) fs xs sorted (found_stand f l covers image spells fs is)

  by_name_all : IsByName (all_entries l image) (entries_at l image xs)
  by_name_all = subst (λ (es : List PlacedEntry). IsByName es (entries_at l image xs)) (found_back f l covers image spells fs is) (by_name_at l image fs xs sorted)

  -- where none contradicts one before it
  pub none_clash : clash_fault (all_entries l image) ≡ None → AreAgreed l image (entries_at l image xs) × AllSpell l image × AreFound l image xs
  none_clash none = (record { all = by_name_all; chunks = whole; clash = none }, spells, stand_sorted)

  -- where the sorted ones agree
  pub sorted_agree : Agree (entries_at l image xs) → AreAgreed l image (entries_at l image xs) × AllSpell l image × AreFound l image xs
  sorted_agree both = none_clash (no_clash (all_entries l image) (entries_at l image xs) by_name_all both)

  -- where two of them contradict each other
  pub first_clash : (w : ℕ) → IsFirstClash l image xs w → damage l image ≡ Some (damaged (core_at l w) (chunk_there l w) 8)
  first_clash w first =
      let back = found_back f l covers image spells fs is in
      let rise = words_rise l covers.layout image spells fs is in
      by_clash l image (entries_at l image fs) back whole (damaged (core_at l w) (chunk_there l w) 8) (clash_found l image fs xs rise w first (in_first fs xs sorted) (in_sorted fs xs sorted))
