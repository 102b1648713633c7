-- Once names that are gone are put into the outbox, what waits there may be told still.
use Rattle.std.proofs.Common.{◌≡◌, ◌≢◌, inl, inr, ⊎_elim, ℕ, zero, suc, ◌+◌, ◌*◌, ◌<◌, ◌≤◌, ◌==◌, ◌||◌, Bool, true, false, List, [], ◌∷◌, ◌++◌, length, Option, Some, None, option_map, refl, sym, ◌∙◌, ap, subst, arith}
use Rattle.std.specs.Prelude.{slice_get}
use Rattle.std.proofs.lemmas.Bool.{cases_eq, eqb-true, and_parts}
use Rattle.std.proofs.lemmas.Option.{slice_get_within}
use Rattle.log_entry.specs.declared.entry.EntryName.{EntryName}
use Rattle.chunk_map.specs.Layouts as layouts
use Rattle.chunk_map.proofs.Clients.{numbers_of}
use Rattle.group_board.specs.declared.names.Notices.{Notices}
use Rattle.group_laws.specs.Places.{Place, IsPlace, members, core_of, owner}
use Rattle.group_laws.specs.Updates.{has}
use Rattle.group_laws.specs.MemberViews.{View}
use Rattle.core_worker.specs.CleaningLeft.{box_left}
use Rattle.core_worker.specs.GoneMail.{names_of, with_gone, FilesGone}
use Rattle.core_worker.specs.Outbox.{waiting_dead, HasSpare, KeepsMail, MayTell}
use Rattle.core_worker.proofs.Dooming.{has_chosen}
use Rattle.core_worker.proofs.FiledLeft.{box_few}
use Rattle.core_worker.proofs.Filing.{core_at}
use Rattle.core_worker.proofs.ListedNames.{has_append}
use Rattle.core_worker.proofs.MailKept.{nothing_sends}
use Rattle.core_worker.proofs.StartBlocks.{own_of}

-- what waits of dead names is the same where each list of them is
waiting_same : (xs ys : List Notices) → length ys ≡ length xs → ((h : ℕ) → option_map (λ (n : Notices). n.dead.names) (slice_get ys h) ≡ option_map (λ (n : Notices). n.dead.names) (slice_get xs h)) → waiting_dead ys ≡ waiting_dead xs
waiting_same [] [] e at = refl
waiting_same [] (y ∷ ys) e at = absurd (omega (arith, e))
waiting_same (x ∷ xs) [] e at = absurd (omega (arith, e))
waiting_same (x ∷ xs) (y ∷ ys) e at =
    let head : y.dead.names ≡ x.dead.names = (let both : Some y.dead.names ≡ Some x.dead.names = at zero in cc both) in
    let rest = waiting_same xs ys (omega (arith, e)) (λ h. at (suc h)) in
    (λ i. head i ++ rest i)

dead_same : (p : Place) (home : ℕ) (ns : List EntryName) (o : Option Notices) → option_map (λ (n : Notices). n.dead.names) (option_map (with_gone p.layout home ns) o) ≡ option_map (λ (n : Notices). n.dead.names) o
dead_same p home ns None = refl
dead_same p home ns (Some n) = refl

module _ (p : Place) (m : ℕ) (ns : List EntryName) (old new : List Notices) (F : FilesGone p m ns old new) where
  pub waiting_is : waiting_dead new ≡ waiting_dead old
  waiting_is = waiting_same old new F.count (λ h. ⊎_elim
      (λ (here : h ≡ m). ap (λ (i : ℕ). option_map (λ (n : Notices). n.dead.names) (slice_get new i)) here ∙ ap (option_map (λ (n : Notices). n.dead.names)) F.own ∙ ap (λ (i : ℕ). option_map (λ (n : Notices). n.dead.names) (slice_get old i)) (sym here))
      (λ (ne : h ≢ m). ap (option_map (λ (n : Notices). n.dead.names)) (F.others h ne) ∙ dead_same p (core_of p h) ns (slice_get old h))
      (cases_eq h m))

  -- no more waits than names are gone
  pub few_more : box_left new ≤ box_left old + length ns
  few_more = box_few p.layout (p.group * p.layout.group) ns old new F.count (λ h. ⊎_elim
      (λ (here : h ≡ m). inl (ap (slice_get new) here ∙ F.own ∙ ap (slice_get old) (sym here)))
      (λ (ne : h ≢ m). inr (F.others h ne ∙ ap (λ (c : ℕ). option_map (with_gone p.layout c ns) (slice_get old h)) (core_at p h)))
      (cases_eq h m))

  module _ (place : IsPlace p) (u : View) (winds : Bool) (M : KeepsMail p m u winds old) (leaves : (k i : ℕ) → owner p k ≢ m → has ns k i ≡ true → u.leaving k i ≡ true) where
    -- the notices for another member, as they were
    was : (h : ℕ) (n : Notices) → h ≢ m → slice_get new h ≡ Some n → (o : Notices) × (slice_get old h ≡ Some o) × (n ≡ with_gone p.layout (core_of p h) ns o)
    was h n ne is = by (slice_get old h) refl where
      by : (b : Option Notices) → slice_get old h ≡ b → (o : Notices) × (slice_get old h ≡ Some o) × (n ≡ with_gone p.layout (core_of p h) ns o)
      by None at = absurd (let both : None ≡ Some n = sym (F.others h ne ∙ ap (option_map (with_gone p.layout (core_of p h) ns)) at) ∙ is in cc both)
      by (Some o) at = (o, at, (let both : Some (with_gone p.layout (core_of p h) ns o) ≡ Some n = sym (F.others h ne ∙ ap (option_map (with_gone p.layout (core_of p h) ns)) at) ∙ is in let same : with_gone p.layout (core_of p h) ns o ≡ n = cc both in sym same))

    tells : (h : ℕ) (o : Notices) → h ≢ m → h < members p → MayTell p m h u o → MayTell p m h u (with_gone p.layout (core_of p h) ns o)
    tells h o ne low A = record {
      dead = A.dead;
      gone = λ k i t. by k i (has o.gone.names k i) refl (sym (has_append o.gone.names (names_of p.layout (core_of p h) ns) k i) ∙ t);
    } where
      by : (k i : ℕ) (b : Bool) → has o.gone.names k i ≡ b → (has o.gone.names k i || has (names_of p.layout (core_of p h) ns) k i) ≡ true → (u.leaving k i ≡ true) × (owner p k ≡ h)
      by k i true e t = A.gone k i e
      by k i false e t =
          let here = sym (ap (λ (b : Bool). b || has (names_of p.layout (core_of p h) ns) k i) e) ∙ t in
          let both = and_parts (layouts.owner p.layout k == core_of p h) (has ns k i) (sym (has_chosen (λ (j : ℕ). layouts.owner p.layout j == core_of p h) ns k i) ∙ here) in
          let own = own_of p h k (let some = (numbers_of p.layout place.layout).group_low in omega (arith, some)) low (eqb-true (layouts.owner p.layout k) (core_of p h) both.0) in
          (leaves k i (λ mine. ne (sym own ∙ mine)) both.1, own)

    pub mail_filed : KeepsMail p m u winds new
    mail_filed = record {
      count = F.count ∙ M.count;
      each = λ h n is. ⊎_elim
          (λ (here : h ≡ m). nothing_sends p m h u n (M.own n (sym F.own ∙ ap (slice_get new) (sym here) ∙ is)))
          (λ (ne : h ≢ m). let o = was h n ne is in subst (MayTell p m h u) (sym o.2) (tells h o.0 ne (let low = slice_get_within old h o.0 o.1 in let count = M.count in omega (arith, low, count)) (M.each h o.0 o.1)))
          (cases_eq h m);
      own = λ n is. M.own n (sym F.own ∙ is);
      spare = λ on h n is. ⊎_elim
          (λ (here : h ≡ m). M.spare on h n (ap (slice_get old) here ∙ sym F.own ∙ ap (slice_get new) (sym here) ∙ is))
          (λ (ne : h ≢ m). let o = was h n ne is in subst HasSpare (sym o.2) (M.spare on h o.0 o.1))
          (cases_eq h m);
    }
