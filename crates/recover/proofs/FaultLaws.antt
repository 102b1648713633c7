-- Winners are judged run by run.
use Rattle.std.proofs.Common.{◌≡◌, ℕ, ◌≤◌, List, [], ◌∷◌, ◌++◌, length, take, get_or, Option, Some, None, refl, sym, ◌∙◌, ap, subst, append_assoc, append-nil}
use Rattle.std.specs.Option.{option_or}
use Rattle.std.specs.BTreeSet.{BTreeSet}
use Rattle.std.proofs.lemmas.List.{take_all}
use Rattle.chunk_map.specs.declared.layouts.Geometry.{Geometry}
use Rattle.store_image.specs.declared.types.PlacedEntry.{PlacedEntry}
use Rattle.store_image.specs.declared.types.Fault.{Fault}
use Rattle.recover.specs.declared.found_entries.Found.{Found}
use Rattle.recover.specs.declared.key_runs.KeyRun.{KeyRun}
use Rattle.recover.specs.declared.types.RecoverError.{RecoverError}
use Rattle.recover.specs.declared.types.RecoverError.TheVariants as errors
use Rattle.recover.specs.Causes.{HasCause}
use Rattle.recover.specs.Judging.{fault_beside, winners_fault, HasPointers}
use Rattle.recover.specs.Winning.{winners_of}
use Rattle.recover.specs.FoundEntries.{placed_at, entries_at, AreInOrder}
use Rattle.recover.specs.KeyRuns.{IsRun}
use Rattle.recover.proofs.RunLaws.{Begins, run_begins, run_wins, cut_wins}

or_assoc : {Y : Type 0} (a b c : Option Y) → option_or (option_or a b) c ≡ option_or a (option_or b c)
or_assoc None b c = refl
or_assoc (Some x) b c = refl

-- a first fault of a list that is told in two parts
winners_split : (l : Geometry) (image : ℕ → ℕ) (before xs ys : List PlacedEntry) → winners_fault l image before (xs ++ ys) ≡ option_or (winners_fault l image before xs) (winners_fault l image (before ++ xs) ys)
winners_split l image before [] ys = ap (λ b. winners_fault l image b ys) (sym (append-nil before))
winners_split l image before (x ∷ xs) ys =
    ap (option_or (fault_beside l image before x)) (winners_split l image (before ++ x ∷ []) xs ys ∙ ap (λ b. option_or (winners_fault l image (before ++ x ∷ []) xs) (winners_fault l image b ys)) (append_assoc before (x ∷ []) xs))
    ∙ sym (or_assoc (fault_beside l image before x) (winners_fault l image (before ++ x ∷ []) xs) (winners_fault l image (before ++ x ∷ xs) ys))

-- these winners break nothing, and the set has their pointers
pub record NoneSoFar (l : Geometry) (image : ℕ → ℕ) (taken : BTreeSet ℕ) (ws : List PlacedEntry) : Type 0 where
  pub pointers : HasPointers taken ws
  pub none : winners_fault l image [] ws ≡ None

module _ (l : Geometry) (image : ℕ → ℕ) (ws : List PlacedEntry) (none : winners_fault l image [] ws ≡ None) (x : PlacedEntry) (f : Option Fault) (is : f ≡ fault_beside l image ws x) where
  with_one : winners_fault l image [] (ws ++ x ∷ []) ≡ f
  with_one = winners_split l image [] ws (x ∷ []) ∙ ap (λ o. option_or o (option_or (fault_beside l image ws x) None)) none ∙ or_none (fault_beside l image ws x) ∙ sym is
    where
      or_none : (o : Option Fault) → option_or o None ≡ o
      or_none None = refl
      or_none (Some y) = refl

module _ (l : Geometry) (image : ℕ → ℕ) (fs : List Found) (rising : AreInOrder fs) (at : ℕ) (begins : Begins fs at) (r : KeyRun) (run : IsRun fs at r) (d : Found) where
  -- a key more
  pub none_more : (old new : BTreeSet ℕ) → NoneSoFar l image old (winners_of (entries_at l image (take at fs)))
      → fault_beside l image (winners_of (entries_at l image (take at fs))) (placed_at l image (get_or fs r.winner d)) ≡ None
      → HasPointers new (winners_of (entries_at l image (take at fs)) ++ placed_at l image (get_or fs r.winner d) ∷ [])
      → NoneSoFar l image new (winners_of (entries_at l image (take r.end fs)))
  none_more old new so_far none pointers = subst (NoneSoFar l image new) (sym (run_wins l image fs rising at begins r run d)) (record {
    pointers = pointers;
    none = with_one l image (winners_of (entries_at l image (take at fs))) so_far.none (placed_at l image (get_or fs r.winner d)) None (sym none);
  })

  -- a key whose winner breaks a rule
  fault_there : (old : BTreeSet ℕ) → NoneSoFar l image old (winners_of (entries_at l image (take at fs))) → (y : Fault)
      → fault_beside l image (winners_of (entries_at l image (take at fs))) (placed_at l image (get_or fs r.winner d)) ≡ Some y
      → winners_fault l image [] (winners_of (entries_at l image fs)) ≡ Some y
  fault_there old so_far y is =
      let ws = winners_of (entries_at l image (take at fs)) in
      let x = placed_at l image (get_or fs r.winner d) in
      let cut = cut_wins l image fs rising r.end (run_begins l image fs rising at begins r run) run.end in
      ap (winners_fault l image []) (cut.1 ∙ ap (λ ws. ws ++ cut.0) (run_wins l image fs rising at begins r run d))
      ∙ winners_split l image [] (ws ++ x ∷ []) cut.0
      ∙ ap (λ o. option_or o (winners_fault l image (ws ++ x ∷ []) cut.0)) (with_one l image ws so_far.none x (Some y) (sym is))

  pub fault_found : (old : BTreeSet ℕ) → NoneSoFar l image old (winners_of (entries_at l image (take at fs))) → (e : RecoverError)
      → HasCause (fault_beside l image (winners_of (entries_at l image (take at fs))) (placed_at l image (get_or fs r.winner d))) e
      → HasCause (winners_fault l image [] (winners_of (entries_at l image fs))) e
  fault_found old so_far (errors.Fault y) is = fault_there old so_far y is
  fault_found old so_far errors.Memory is = tt

-- all keys
pub none_at_all : (l : Geometry) (image : ℕ → ℕ) (fs : List Found) (at : ℕ) (taken : BTreeSet ℕ) → length fs ≤ at → NoneSoFar l image taken (winners_of (entries_at l image (take at fs))) → winners_fault l image [] (winners_of (entries_at l image fs)) ≡ None
none_at_all l image fs at taken le so_far = ap (λ xs. winners_fault l image [] (winners_of (entries_at l image xs))) (sym (take_all at fs le)) ∙ so_far.none
