-- Who is told dead is dead in the view, also once another member's notices were taken in.
use Rattle.std.proofs.Common.{◌≡◌, ◌≢◌, ◌⊎◌, inl, inr, ⊎_elim, ℕ, ◌&&◌, eqb, Bool, true, false, cond, List, Option, Some, None, option_map, refl, sym, ◌∙◌, ap, subst}
use Rattle.std.proofs.lemmas.Bool.{cases_eq}
use Rattle.log_entry.specs.declared.entry.EntryName.{EntryName}
use Rattle.core_index.specs.Index.{known_at}
use Rattle.core_index.specs.Records.{Awaits, standing_with}
use Rattle.core_index.specs.Slots as slots
use Rattle.log_standing.specs.declared.types.Copies.{Copies}
use Rattle.log_standing.specs.NameCounts.{StandingState, copies_at, count_in, count_of, is_told, killed}
use Rattle.log_standing.specs.NameCounts as counts
use Rattle.group_laws.specs.State.{Notices}
use Rattle.group_laws.specs.Updates.{has}
use Rattle.group_laws.specs.Places.{Place, core_of, owner}
use Rattle.group_laws.specs.MemberViews.{View}
use Rattle.group_board.specs.Views.{IsTidyIn, TellsItselfIn, after_receive}
use Rattle.group_board.specs.Assurances.{IsHeard}
use Rattle.core_worker.specs.declared.types.Place as places
use Rattle.core_worker.specs.KeyTies.{KnowsKey}
use Rattle.core_worker.specs.StandingTies.{IsNamedIn, HearsOwn, KnowsDead}
use Rattle.core_worker.specs.GoneNames.{KnowsAll, LetsNamesGo}
use Rattle.core_worker.specs.LogNames.{KillsNames}
use Rattle.core_worker.proofs.HeardNames.{stands_by, dies_by}
use Rattle.core_worker.proofs.Tidied.{member_of, stands_of, dead_is}
use Rattle.core_worker.proofs.GoneKeys.{tidy_settled, knows_settled, known_other}

-- an own dead name that awaited is told by the two rules
module _ (p : Place) (m : ℕ) (x : View) (last : ℕ → ℕ) (told dead : ℕ → ℕ → Bool) (T : IsTidyIn p m x last told dead) (mid : List (ℕ × slots.Place)) (K : (k : ℕ) → owner p k ≡ m → KnowsKey p x k (known_at mid k))
    (foreign : (k n : ℕ) → owner p k ≢ m → Awaits (known_at mid k) (core_of p m) n → ⊥) (st st1 : StandingState) (tells : HearsOwn (core_of p m) mid st st1) (D : KnowsDead m x.kept x.present x.told x.dead st) where
  learns : (k n : ℕ) → (x.dead k n ≡ true) ⊎ TellsItselfIn p m x k n → dead k n ≡ true
  learns k n which = (T.learns k n).1 which

  awaited : (k n : ℕ) → owner p k ≡ m → Awaits (known_at mid k) (core_of p m) n → TellsItselfIn p m x k n
  awaited k n own a =
      let at = stands_by (known_at mid k) (core_of p m) n a in
      let h = stands_of p m x k (known_at mid k) (K k own) n (standing_with n (core_of p m) false) at in
      let here = member_of p h.0 m h.2 in
      (own, h.1 ∙ ap Some here, dead_is p x k (known_at mid k) (K k own) n (dies_by (known_at mid k) (core_of p m) n a))

  pub dead_told : KnowsDead m x.kept x.present told dead st1
  dead_told = record {
    deaths = λ k n t. ⊎_elim
        (λ before. learns k n (inl (D.deaths k n before)))
        (λ a. ⊎_elim (λ own. learns k n (inr (awaited k n own a))) (λ ne. absurd (foreign k n ne a)) (cases_eq (owner p k) m))
        (tells.told k n t);
    buried = λ k n dies. ⊎_elim (λ before. D.buried k n before) (λ y. D.own k n y.1) ((T.learns k n).0 dies);
    own = D.own;
    heard = λ k n is t. ⊎_elim (λ before. learns k n (inl (D.heard k n is before))) (λ y. learns k n (inr y)) ((T.tells k n).0 t);
  }

-- names of the own log are told dead
killed_was : (o : Option Copies) → counts.told_in o ≡ true → counts.told_in (option_map killed o) ≡ true
killed_was None t = t
killed_was (Some c) t = refl

module _ (ns : List EntryName) (old new : StandingState) (X : KillsNames ns old new) where
  pub killed_count : (k i : ℕ) → count_of new k i ≡ count_of old k i
  killed_count k i = ap count_in (X.copies k i) ∙ by (has ns k i) (copies_at old k i) where
    by : (b : Bool) (o : Option Copies) → count_in (cond b (option_map killed o) o) ≡ count_in o
    by true None = refl
    by true (Some c) = refl
    by false o = refl

  pub killed_up : (k i : ℕ) → is_told old k i ≡ true → is_told new k i ≡ true
  killed_up k i t = ap counts.told_in (X.copies k i) ∙ by (has ns k i) where
    by : (b : Bool) → counts.told_in (cond b (option_map killed (copies_at old k i)) (copies_at old k i)) ≡ true
    by true = killed_was (copies_at old k i) t
    by false = t

  pub killed_told : (k i : ℕ) → is_told new k i ≡ true → (has ns k i ≡ true) ⊎ (is_told old k i ≡ true)
  killed_told k i t = by (has ns k i) refl (sym (ap counts.told_in (X.copies k i)) ∙ t) where
    by : (b : Bool) → has ns k i ≡ b → counts.told_in (cond (has ns k i) (option_map killed (copies_at old k i)) (copies_at old k i)) ≡ true → (has ns k i ≡ true) ⊎ (is_told old k i ≡ true)
    by true e y = inl e
    by false e y = inr (sym (ap (λ (b : Bool). counts.told_in (cond b (option_map killed (copies_at old k i)) (copies_at old k i))) e) ∙ y)

some_was : (b : Bool) (o : Option ℕ) (h : ℕ) → cond b None o ≡ Some h → o ≡ Some h
some_was true o h e = absurd (cc e)
some_was false o h e = e

told_was : (b t : Bool) → cond b false t ≡ true → t ≡ true
told_was true t e = absurd (cc e)
told_was false t e = e

dead_more : (b t : Bool) → t ≡ true → cond b true t ≡ true
dead_more true t e = refl
dead_more false t e = e

pub dead_killed : (p : Place) (m from : ℕ) (n : Notices) (v : View) (old new : StandingState) → KnowsDead m v.kept v.present v.told v.dead old → IsHeard p m from v n → KillsNames n.dead old new
    → KnowsDead m (after_receive p m n v).kept (after_receive p m n v).present (after_receive p m n v).told (after_receive p m n v).dead new
dead_killed p m from n v old new D A X = record {
  deaths = λ k i t. ⊎_elim
      (λ here. ap (λ (b : Bool). cond b true (v.dead k i)) here)
      (λ before. dead_more (has n.dead k i) (v.dead k i) (D.deaths k i before))
      (killed_told n.dead old new X k i t);
  buried = λ k i dies. by k i (has n.dead k i) refl dies;
  own = λ k i is. D.own k i (some_was (eqb (owner p k) m && has n.gone k i) (v.present k i) m is);
  heard = λ k i is t. dead_more (has n.dead k i) (v.dead k i) (D.heard k i (some_was (eqb (owner p k) m && has n.gone k i) (v.present k i) m is) (told_was (eqb (owner p k) m && has n.gone k i) (v.told k i) t));
} where
  by : (k i : ℕ) (b : Bool) → has n.dead k i ≡ b → cond (has n.dead k i) true (v.dead k i) ≡ true → IsNamedIn v.kept k i
  by k i true e dies = A.dead k i e
  by k i false e dies = D.buried k i (sym (ap (λ (b : Bool). cond b true (v.dead k i)) e) ∙ dies)

-- what both come to
module _ (p : Place) (m : ℕ) (ns : List EntryName) (v v' u : View) (ps qs : List places.Place) (es ix : List (ℕ × slots.Place)) (Q : KnowsAll p m v ps es) (G : LetsNamesGo p m ns v v' u ps qs es ix) (st st1 : StandingState) (tells : HearsOwn (core_of p m) G.mid st st1) (D : KnowsDead m v'.kept v'.present v'.told v'.dead st) where
  abbrev at : View
  at = record v' { last = G.tidied.0 }

  pub dead_after : KnowsDead m u.kept u.present u.told u.dead st1
  dead_after = subst (λ (x : View). KnowsDead m x.kept x.present x.told x.dead st1) (sym G.tidied.4)
      (dead_told p m at G.tidied.0 G.tidied.1 G.tidied.2
      (tidy_settled p m v v' ns G.loses G.tidied.0 G.tidied.1 G.tidied.2 G.tidied.3 ps qs es G.names.mid G.mid G.names.lacks G.names.forgets Q.keys Q.quiet Q.posted Q.remembers)
      G.mid
      (knows_settled p m v v' ns G.loses G.tidied.0 G.tidied.1 G.tidied.2 G.tidied.3 ps qs es G.names.mid G.mid G.names.lacks G.names.forgets Q.keys Q.quiet Q.posted Q.remembers)
      (λ k n ne a. Q.heard k n (subst (λ (o : Option _). Awaits o (core_of p m) n) (known_other p m ns v v' u ps qs es ix Q G k ne) a))
      st st1 tells D)
