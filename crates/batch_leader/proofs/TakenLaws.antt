-- Lists of what was taken.
use Rattle.std.proofs.Common.{◌≡◌, ◌≢◌, inl, inr, ℕ, ◌<◌, ◌==◌, ◌&&◌, Bool, true, false, cond, List, [], ◌∷◌, ◌++◌, length, Some, None, refl, sym, ◌∙◌, subst, arith}
use Rattle.std.specs.List.{AllByRecursion}
use Rattle.std.proofs.lemmas.Bool.{eqb-true, and_parts}
use Rattle.log_entry.specs.declared.entry.Entry.{Entry}
use Rattle.log_entry.specs.Spelling.{HasSpelling}
use Rattle.log_entry.specs.Batches.{IsBatch}
use Rattle.store_image.specs.Facts.{In}
use Rattle.group_laws.specs.Places.{Place}
use Rattle.group_laws.specs.Updates.{put2}
use Rattle.group_laws.proofs.Clients.{if2_into, In-append_right}
use Rattle.group_laws.specs.MemberViews.{View}
use Rattle.group_board.specs.Views.{after_commit}
use Rattle.batch_leader.specs.declared.taken.Taken.{Taken}
use Rattle.batch_leader.specs.TakenChanges.{entries_taken, taken_in, IsTaken, HasOut}

spelled_all : (p : Place) (ts : List Taken) → AllByRecursion (IsTaken p) ts → AllByRecursion HasSpelling (entries_taken ts)
spelled_all p [] each = tt
spelled_all p (t ∷ ts) each = (each.0.spelled, spelled_all p ts each.1)

some_all : (ts : List Taken) → ts ≢ [] → 0 < length (entries_taken ts)
some_all [] some = absurd (some refl)
some_all (t ∷ ts) some = omega arith

pub batch_of : (p : Place) (ts : List Taken) → AllByRecursion (IsTaken p) ts → ts ≢ [] → IsBatch (entries_taken ts)
batch_of p ts each some = record { some = some_all ts some; each = spelled_all p ts each }

-- each entry of the list is one of a list that has them all
pub all_among : (ts : List Taken) (es : List Entry) → ((e : Entry) → In e (entries_taken ts) → In e es) → AllByRecursion (λ t. In t.change.entry es) ts
all_among [] es in_all = tt
all_among (t ∷ ts) es in_all = (in_all t.change.entry (inl refl), all_among ts es (λ e i. in_all e (inr i)))

pub all_flying : (ts : List Taken) (es : List Entry) → es ≡ entries_taken ts → AllByRecursion (λ t. In t.change.entry es) ts
all_flying ts es is = all_among ts es (λ e i. subst (λ (xs : List Entry). In e xs) (sym is) i)

pub all_committed : (ts : List Taken) (v : View) → v.flying ≡ entries_taken ts → AllByRecursion (λ t. In t.change.entry (after_commit v).kept) ts
all_committed ts v is = all_among ts (v.kept ++ v.flying) (λ e i. In-append_right e v.kept v.flying (subst (λ (xs : List Entry). In e xs) (sym is) i))

-- the first one is given back
pub rest_out : (p : Place) (v u : View) (t : Taken) (ts : List Taken) → HasOut p v (t ∷ ts) → ((a s : ℕ) → u.taken a s ≡ put2 v.taken t.member t.slot None a s) → HasOut p u ts
rest_out p v u t ts out gone = record {
  each = out.each.1;
  taken = λ a s. gone a s ∙ if2_into (λ x. x ≡ taken_in ts a s) t.member t.slot None (v.taken a s) a s
      (λ here there. sym ((λ i. taken_in ts (here i) (there i)) ∙ out.apart.0))
      (λ ne. out.taken a s ∙ other a s ne);
  apart = out.apart.1;
}
  where
    other : (a s : ℕ) → (a ≡ t.member → s ≡ t.slot → ⊥) → taken_in (t ∷ ts) a s ≡ taken_in ts a s
    other a s ne = by_test (t.member == a && t.slot == s) refl where
      by_test : (b : Bool) → (t.member == a && t.slot == s) ≡ b → cond b (Some t.change.entry) (taken_in ts a s) ≡ taken_in ts a s
      by_test false e = refl
      by_test true e = let both = and_parts (t.member == a) (t.slot == s) e in absurd (ne (sym (eqb-true t.member a both.0)) (sym (eqb-true t.slot s both.1)))
