-- Names that are gone are put into the notices for the owners of their keys, one member after another.
use Rattle.std.proofs.Common.{◌≡◌, ◌≢◌, ⊎_elim, ℕ, ◌+◌, ◌*◌, ◌%◌, ◌-◌, ◌≤◌, ◌<◌, List, length, option_map, refl, sym, ◌∙◌, ap, subst, arith}
use Rattle.std.specs.Prelude.{slice_get}
use Rattle.std.proofs.lemmas.Option.{slice_get_past}
use Rattle.std.proofs.lemmas.Bool.{cases_eq, cases_lt}
use Rattle.std.proofs.lemmas.Nat.{mod-mul-add}
use Rattle.log_entry.specs.declared.entry.EntryName.{EntryName}
use Rattle.chunk_map.specs.declared.layouts.Geometry.{Geometry}
use Rattle.group_board.specs.declared.names.Notices.{Notices}
use Rattle.group_laws.specs.Places.{Place, members, core_of}
use Rattle.core_worker.specs.GoneMail.{with_gone, FilesGone}

-- The notices for the members below a number have the names of their keys, but for one core's; the others are as they were.
pub record FiledUpto (l : Geometry) (first core : ℕ) (ns : List EntryName) (upto : ℕ) (old new : List Notices) : Type 0 where
  pub count : length new ≡ length old
  pub later : (h : ℕ) → upto ≤ h → slice_get new h ≡ slice_get old h
  pub mine : (h : ℕ) → first + h ≡ core → slice_get new h ≡ slice_get old h
  pub done : (h : ℕ) → h < upto → first + h ≢ core → slice_get new h ≡ option_map (with_gone l (first + h) ns) (slice_get old h)

pub filed_none : (l : Geometry) (first core : ℕ) (ns : List EntryName) (boxes : List Notices) → FiledUpto l first core ns 0 boxes boxes
filed_none l first core ns boxes = record {
  count = refl;
  later = λ h le. refl;
  mine = λ h is. refl;
  done = λ h lt ne. absurd (omega (arith, lt));
}

pub filed_own : (l : Geometry) (first core : ℕ) (ns : List EntryName) (upto : ℕ) (old new : List Notices) → first + upto ≡ core → FiledUpto l first core ns upto old new → FiledUpto l first core ns (upto + 1) old new
filed_own l first core ns upto old new here F = record {
  count = F.count;
  later = λ h le. F.later h (omega (arith, le));
  mine = F.mine;
  done = λ h lt ne. F.done h (⊎_elim (λ (is : h ≡ upto). absurd (ne (ap (λ (i : ℕ). first + i) is ∙ here))) (λ (other : h ≢ upto). omega (arith, lt, other)) (cases_eq h upto)) ne;
}

pub filed_on : (l : Geometry) (first core : ℕ) (ns : List EntryName) (upto : ℕ) (old mid new : List Notices) → first + upto ≢ core → FiledUpto l first core ns upto old mid → length new ≡ length mid
    → slice_get new upto ≡ option_map (with_gone l (first + upto) ns) (slice_get mid upto) → ((h : ℕ) → h ≢ upto → slice_get new h ≡ slice_get mid h) → FiledUpto l first core ns (upto + 1) old new
filed_on l first core ns upto old mid new other F count here others = record {
  count = count ∙ F.count;
  later = λ h le. others h (λ is. omega (arith, is, le)) ∙ F.later h (omega (arith, le));
  mine = λ h is. others h (λ same. other (ap (λ (i : ℕ). first + i) (sym same) ∙ is)) ∙ F.mine h is;
  done = λ h lt ne. ⊎_elim
      (λ (is : h ≡ upto). subst (λ (i : ℕ). slice_get new i ≡ option_map (with_gone l (first + i) ns) (slice_get old i)) (sym is) (here ∙ ap (option_map (with_gone l (first + upto) ns)) (F.later upto (omega arith))))
      (λ (away : h ≢ upto). others h away ∙ F.done h (omega (arith, lt, away)) ne)
      (cases_eq h upto);
}

less_self : (a b : ℕ) → a + b - b ≡ a
less_self a b = omega arith

cancel : (a b c : ℕ) → a + b ≡ a + c → b ≡ c
cancel a b c e = omega (arith, e)

first_of : (p : Place) (m : ℕ) → m < members p → core_of p m - core_of p m % p.layout.group ≡ p.group * p.layout.group
unfolding core_of
first_of p m low = ap (λ (r : ℕ). p.group * p.layout.group + m - r) (mod-mul-add p.group p.layout.group m low) ∙ less_self (p.group * p.layout.group) m

pub core_at : (p : Place) (h : ℕ) → core_of p h ≡ p.group * p.layout.group + h
unfolding core_of
core_at p h = refl

-- all are done
pub filed_all : (l : Geometry) (core : ℕ) (ns : List EntryName) (old new : List Notices) → length old ≡ l.group → FiledUpto l (core - core % l.group) core ns l.group old new
    → (p : Place) (m : ℕ) → l ≡ p.layout → core ≡ core_of p m → m < members p → FilesGone p m ns old new
filed_all l core ns old new count F p m layout at low = record {
  count = F.count;
  own = F.mine m (first m ∙ sym at);
  others = λ h ne. ⊎_elim
      (λ (lt : h < l.group). F.done h lt (λ is. ne (same h is)) ∙ ap (λ (c : Geometry × ℕ). option_map (with_gone c.0 c.1 ns) (slice_get old h)) (λ i. (layout i, first h i)))
      (λ (le : l.group ≤ h). F.later h le ∙ slice_get_past old h (omega (arith, count, le)) ∙ sym (ap (option_map (with_gone p.layout (core_of p h) ns)) (slice_get_past old h (omega (arith, count, le)))))
      (cases_lt h l.group);
} where
  first : (h : ℕ) → (core - core % l.group) + h ≡ core_of p h
  first h = (λ i. (at i - at i % (layout i).group) + h) ∙ ap (λ (n : ℕ). n + h) (first_of p m low) ∙ sym (core_at p h)

  same : (h : ℕ) → (core - core % l.group) + h ≡ core → h ≡ m
  same h is = cancel (p.group * p.layout.group) h m (sym (core_at p h) ∙ sym (first h) ∙ is ∙ at ∙ core_at p m)
