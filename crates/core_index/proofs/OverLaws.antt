-- Two lists of places, of which the first one counts.
use Rattle.std.proofs.Common.{◌≡◌, ◌≢◌, ℕ, ◌+◌, Bool, true, false, cond, List, [], ◌∷◌, ◌++◌, Option, Some, None, option_map, refl, sym, ◌∙◌, ap, subst, arith}
use Rattle.std.specs.Prelude.{is_some}
use Rattle.std.specs.List.{sum_by}
use Rattle.std.specs.Map.{values_of}
use Rattle.std.specs.BTreeMap.{is_at}
use Rattle.std.specs.Ordering.{nat_cmp}
use Rattle.std.proofs.lemmas.List.Sums.{sum_by-append}
use Rattle.log_entry.specs.declared.entry.EntryName.{EntryName}
use Rattle.core_index.specs.Records.{KeyRecord, Awaits, told_in}
use Rattle.core_index.specs.Slots.{Place}
use Rattle.core_index.specs.Index.{place_at, known_in, room_in, known_at, untold_in, all_untold, over, ToldAt}

pub place_both : (es ps : List (ℕ × Place)) (k : ℕ) → place_at (es ++ ps) k ≡ over (place_at es k) (place_at ps k)
place_both [] ps k = refl
place_both (e ∷ es) ps k = by (is_at (nat_cmp k) e.0) (place_both es ps k)
  where
    by : (b : Bool) → place_at (es ++ ps) k ≡ over (place_at es k) (place_at ps k) → cond b (Some e.1) (place_at (es ++ ps) k) ≡ over (cond b (Some e.1) (place_at es k)) (place_at ps k)
    by true rest = refl
    by false rest = rest

pub first_place : (es ps : List (ℕ × Place)) (k : ℕ) (o : Option Place) → place_at es k ≡ o → place_at (es ++ ps) k ≡ over o (place_at ps k)
first_place es ps k o is = place_both es ps k ∙ ap (λ (p : Option Place). over p (place_at ps k)) is

pub both_kept : (es fs ps qs : List (ℕ × Place)) (j : ℕ) → place_at fs j ≡ place_at es j → place_at qs j ≡ place_at ps j → place_at (fs ++ qs) j ≡ place_at (es ++ ps) j
both_kept es fs ps qs j one two = place_both fs qs j ∙ ap (λ (o : Option Place). over o (place_at qs j)) one ∙ ap (over (place_at es j)) two ∙ sym (place_both es ps j)

values_both : (es ps : List (ℕ × Place)) → values_of (es ++ ps) ≡ values_of es ++ values_of ps
values_both [] ps = refl
values_both (e ∷ es) ps = ap (λ (xs : List Place). e.1 ∷ xs) (values_both es ps)

pub untold_both : (es ps : List (ℕ × Place)) → all_untold (es ++ ps) ≡ all_untold es + all_untold ps
untold_both es ps = ap (sum_by untold_in) (values_both es ps) ∙ sum_by-append untold_in (values_of es) (values_of ps)

-- a death that is told in the second list, of a key that the first one doesn't have
pub told_second : (es ps qs : List (ℕ × Place)) (home : ℕ) (n : EntryName) → place_at es n.key ≡ None → ToldAt ps qs home n → ToldAt (es ++ ps) (es ++ qs) home n
told_second es ps qs home n none is =
    let was : known_at (es ++ ps) n.key ≡ known_at ps n.key = ap known_in (first_place es ps n.key None none) in
    let now : known_at (es ++ qs) n.key ≡ known_at qs n.key = ap known_in (first_place es qs n.key None none) in
    let same : (j : ℕ) → j ≢ n.key → place_at (es ++ qs) j ≡ place_at (es ++ ps) j = λ j ne. both_kept es es ps qs j refl (is.others j ne) in
    record {
      tells = record {
        waited = subst (λ (o : Option KeyRecord). Awaits o home n.version) (sym was) is.tells.waited;
        change = record { here = now ∙ is.tells.change.here ∙ ap (option_map (told_in n.version)) (sym was); others = λ j ne. ap known_in (same j ne) };
        room = λ j. ap room_in (place_both es qs j) ∙ by j (place_at es j) ∙ sym (ap room_in (place_both es ps j));
      };
      others = same;
      waits = λ w h after. let both = is.waits w h (subst (λ (o : Option KeyRecord). Awaits o h w) now after) in (both.0, subst (λ (o : Option KeyRecord). Awaits o h w) (sym was) both.1);
      fewer = let x = untold_both es qs in let y = untold_both es ps in let z = is.fewer in omega (arith, x, y, z);
    }
  where
    by : (j : ℕ) (o : Option Place) → room_in (over o (place_at qs j)) ≡ room_in (over o (place_at ps j))
    by j None = is.tells.room j
    by j (Some p) = refl

-- What a test says of a place.

pub some_of : {A : Type 0} (o : Option A) → is_some o ≡ true → (x : A) × (o ≡ Some x)
some_of None is = absurd (cc is)
some_of (Some x) is = (x, refl)

pub none_of : {A : Type 0} (o : Option A) → is_some o ≡ false → o ≡ None
none_of None is = refl
none_of (Some x) is = absurd (cc is)
