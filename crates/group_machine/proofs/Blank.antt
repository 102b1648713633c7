-- The state with empty views is the opened state of the words of a region in which each chunk is free.
use Rattle.std.proofs.Common.{◌≡◌, ℕ, Bool, false, ◌&&◌, true, ◌==◌, List, [], Option, None, unwrap_or, refl, sym, ap, ◌∙◌}
use Rattle.std.specs.Prelude.{option_map}
use Rattle.std.specs.List.{AllByRecursion}
use Rattle.std.specs.Ordering.{nat_cmp}
use Rattle.std.specs.BTreeMap.{BTreeMap, IsEmpty, get}
use Rattle.log_entry.specs.declared.entry.EntryName.{EntryName}
use Rattle.group_laws.specs.declared.types.Slot.{Slot}
use Rattle.group_laws.specs.declared.types.Slot.TheVariants.{Empty}
use Rattle.group_laws.specs.Places.{Place, IsPlace, owner}
use Rattle.group_laws.specs.Updates.{has}
use Rattle.group_laws.specs.OpeningImages.{opened, IsBlank}
use Rattle.group_laws.proofs.Clients.{no_block, no_cell, no_death, no_home, no_last, no_log}
use Rattle.group_board.specs.declared.names.Notices.{Notices}
use Rattle.group_board.specs.Mailing.{notices_of}
use Rattle.group_machine.specs.declared.state.MemberView.{MemberView}
use Rattle.group_machine.specs.Shows.{pair_cmp, no_notices, last_in, mailed_in, group_at, IsEmptyView}
use Rattle.group_machine.proofs.Empties.{read, nothing_at, none_at}

and_none : (b : Bool) → (b && false) ≡ false
and_none true = refl
and_none false = refl

module _ (p : Place) (place : IsPlace p) (image : ℕ → ℕ) (blank : IsBlank p.layout image) where
  module _ (slots : BTreeMap (ℕ × ℕ) Slot) (mail : BTreeMap (ℕ × ℕ) Notices) (vs : List MemberView) (no_slots : IsEmpty slots) (no_mail : IsEmpty mail) (all : AllByRecursion IsEmptyView vs) where
    slot : (m s : ℕ) → unwrap_or (get pair_cmp slots (m, s)) Empty ≡ Empty
    slot m s = ap (λ (o : Option Slot). unwrap_or o Empty) (none_at slots no_slots m s)

    pub is_opened : group_at p None slots mail vs ≡ opened p image
    is_opened t =
        record {
          place = p;
          holder = None;
          slot = λ m s. slot m s t;
          mail = λ a b. ap (option_map notices_of) (none_at mail no_mail a b) t;
          kept = λ h. (read (λ v. v.kept.items) [] (λ v e. e.kept) vs all h ∙ sym (no_log p place image blank h)) t;
          flying = λ h. read (λ v. v.flying.items) [] (λ v e. e.flying) vs all h t;
          taken = λ h a s. read (λ v. get pair_cmp v.taken (a, s)) None (λ v e. none_at v.taken e.taken a s) vs all h t;
          broken = λ h. read (λ v. v.broken) false (λ v e. e.broken) vs all h t;
          holds = λ h. read (λ v. v.holds) false (λ v e. e.holds) vs all h t;
          looked = λ h. read (λ v. v.looked.items) [] (λ v e. e.looked) vs all h t;
          last = λ k. (read (λ v. last_in v k) 0 (λ v e. ap (λ (o : Option ℕ). unwrap_or o 0) (nothing_at v.last e.last k)) vs all (owner p k) ∙ sym (no_last p place image blank k)) t;
          cell = λ k. (read (λ v. get nat_cmp v.cell k) None (λ v e. nothing_at v.cell e.cell k) vs all (owner p k) ∙ sym (no_cell p place image blank k)) t;
          pending = λ k. read (λ v. get nat_cmp v.pending k) None (λ v e. nothing_at v.pending e.pending k) vs all (owner p k) t;
          present = λ k n. (read (λ v. get pair_cmp v.present (k, n)) None (λ v e. none_at v.present e.present k n) vs all (owner p k) ∙ sym (no_home p place image blank k n)) t;
          told = λ k n. (read (λ v. has v.told.items k n) false (λ v e. ap (λ (xs : List EntryName). has xs k n) e.told) vs all (owner p k) ∙ sym (no_death p place image blank k n)) t;
          dead = λ h k n. (read (λ v. has v.dead.items k n) false (λ v e. ap (λ (xs : List EntryName). has xs k n) e.dead) vs all h ∙ sym (ap (λ (b : Bool). h == owner p k && b) (no_death p place image blank k n) ∙ and_none (h == owner p k))) t;
          doomed = λ h k n. read (λ v. has v.doomed.items k n) false (λ v e. ap (λ (xs : List EntryName). has xs k n) e.doomed) vs all h t;
          leaving = λ h k n. read (λ v. has v.leaving.items k n) false (λ v e. ap (λ (xs : List EntryName). has xs k n) e.leaving) vs all h t;
          mailed = λ a b. read (λ v. mailed_in v b) no_notices (λ v e. ap (λ (o : Option Notices). unwrap_or (option_map notices_of o) no_notices) (nothing_at v.mailed e.mailed b)) vs all a t;
          blocks = λ h q. (read (λ v. get nat_cmp v.blocks q) None (λ v e. nothing_at v.blocks e.blocks q) vs all h ∙ sym (no_block p place image blank h q)) t;
          posted = λ h. read (λ v. v.posted.items) [] (λ v e. e.posted) vs all h t;
          took = λ h. read (λ v. v.took.items) [] (λ v e. e.took) vs all h t;
        }
