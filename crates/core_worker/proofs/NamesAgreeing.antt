-- What a view has of names agrees still, once a batch is certain and once the two rules on its keys were followed.
use Rattle.std.proofs.Common.{◌≡◌, inl, inr, ⊎_elim, ℕ, Bool, List, [], ◌∷◌, ◌++◌, Option, sym, ◌∙◌}
use Rattle.std.specs.List.{AllByRecursion}
use Rattle.log_entry.specs.declared.entry.Entry.{Entry}
use Rattle.store_image.specs.Facts.{In}
use Rattle.group_laws.specs.Places.{Place}
use Rattle.group_laws.specs.MemberViews.{View}
use Rattle.group_laws.proofs.Clients.{In-append}
use Rattle.group_board.specs.Assurances.{LacksName}
use Rattle.group_board.specs.Views.{IsTidyIn}
use Rattle.batch_leader.specs.declared.taken.Taken.{Taken}
use Rattle.batch_leader.specs.TakenChanges.{entries_taken}
use Rattle.batch_leader.specs.Leading.{AreUnlogged, AreNamedApart}
use Rattle.core_worker.specs.StandingTies.{NamesAgree}

-- of entries of different names those of one name are one
one_name : (es : List Entry) → AreNamedApart es → (e f : Entry) → In e es → In f es → e.key ≡ f.key → e.version ≡ f.version → e ≡ f
one_name [] apart e f has_e has_f key version = absurd has_e
one_name (x ∷ es) apart e f has_e has_f key version = ⊎_elim
    (λ first. ⊎_elim
    (λ also. first ∙ sym also)
    (λ later. absurd (apart.0 f later (sym key ∙ (λ i. (first i).key)) (sym version ∙ (λ i. (first i).version))))
    has_f)
    (λ later. ⊎_elim
    (λ first. absurd (apart.0 e later (key ∙ (λ i. (first i).key)) (version ∙ (λ i. (first i).version))))
    (λ also. one_name es apart.1 e f later also key version)
    has_f)
    has_e

lacks : (kept es : List Entry) → AllByRecursion (LacksName kept) es → (e f : Entry) → In e kept → In f es → e.key ≡ f.key → e.version ≡ f.version → ⊥
lacks kept [] all e f has_e has_f key version = absurd has_f
lacks kept (x ∷ es) all e f has_e has_f key version = ⊎_elim
    (λ first. all.0 e has_e (key ∙ (λ i. (first i).key)) (version ∙ (λ i. (first i).version)))
    (λ later. lacks kept es all.1 e f has_e later key version)
    has_f

-- none of what was taken has the name of a certain entry
pub lacks_taken : (m : ℕ) (v : View) (ts : List Taken) → AreUnlogged m v ts → AllByRecursion (LacksName v.kept) (entries_taken ts)
lacks_taken m v [] all = all
lacks_taken m v (t ∷ ts) all = (all.0.new, lacks_taken m v ts all.1)

-- a batch is certain
pub agrees_added : (p : Place) (m : ℕ) (kept es : List Entry) (present : ℕ → ℕ → Option ℕ) (told dead : ℕ → ℕ → Bool) → NamesAgree p m kept present told dead → AllByRecursion (LacksName kept) es → AreNamedApart es → NamesAgree p m (kept ++ es) present told dead
agrees_added p m kept es present told dead A new apart = record {
  bodies = λ e f has_e has_f key version. ⊎_elim
      (λ old. ⊎_elim
      (λ also. A.bodies e f old also key version)
      (λ added. absurd (lacks kept es new e f old added key version))
      (In-append f kept es has_f))
      (λ added. ⊎_elim
      (λ old. absurd (lacks kept es new f e old added (sym key) (sym version)))
      (λ also. one_name es apart e f added also key version)
      (In-append f kept es has_f))
      (In-append e kept es has_e);
  mine = A.mine;
  dead_told = A.dead_told;
  stands = A.stands;
}

-- the two rules were followed
pub agrees_tidied : (p : Place) (m : ℕ) (v : View) (last : ℕ → ℕ) (told dead : ℕ → ℕ → Bool) → IsTidyIn p m v last told dead → NamesAgree p m v.kept v.present v.told v.dead → NamesAgree p m v.kept v.present told dead
agrees_tidied p m v last told dead T A = record {
  bodies = A.bodies;
  mine = A.mine;
  dead_told = λ k n own dies. (T.tells k n).1 (⊎_elim (λ before. inl (A.dead_told k n own before)) (λ itself. inr itself) ((T.learns k n).0 dies));
  stands = λ k n own dies. ⊎_elim (λ before. A.stands k n own before) (λ itself. itself.1) ((T.learns k n).0 dies);
}
