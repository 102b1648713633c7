-- What a deed adds to the steps that a seat made.
use Rattle.std.proofs.Common.{◌≡◌, ℕ, List, ◌∷◌, true, refl, sym, ◌∙◌, ap, Option, Some, None}
use Rattle.log_entry.specs.declared.entry.Entry.{Entry}
use Rattle.group_laws.specs.Runs.{Kind}
use Rattle.group_laws.specs.declared.types.Seen.{Seen}
use Rattle.group_board.specs.Journals.{kind_seen}
use Rattle.group_board.specs.Trails.{step_with}
use Rattle.group_board.specs.Views.{after_find}
use Rattle.atomic_board.specs.declared.seat_data.Deed.{Deed}
use Rattle.atomic_board.specs.declared.seat_data.Deed.TheVariants.{Found}
use Rattle.atomic_board.specs.declared.seat_data.MailHold.{MailHold}
use Rattle.atomic_board.specs.declared.seat_data.SeatData.{SeatData}
use Rattle.atomic_board.specs.declared.seat_data.SeatData.TheVariants.{Store, Own, Spent}
use Rattle.atomic_board.specs.Deeds.{kind_of, view_by, trail_by, at_or, committed_at}
use Rattle.atomic_board.specs.StepTells.{is_own, done_in, view_in, trail_in, did, gripping, over}

-- a deed more
pub trail_did : (d : Deed) (x new : SeatData) → is_own x ≡ true → new ≡ did d x → trail_in new ≡ step_with (kind_of d) (view_in new) ∷ trail_in x
trail_did d (Store k b l) new e is = absurd (cc e)
trail_did d (Own m q b ds) new e is = ap trail_in is ∙ ap (λ z. step_with (kind_of d) (view_in z) ∷ trail_by b m ds) (sym is)
trail_did d Spent new e is = absurd (cc e)

-- a load and then a store, of one call at a mailbox
pub trail_both : (d : Deed) (g : Option MailHold) (s : Seen) (x new : SeatData) → is_own x ≡ true → new ≡ gripping None (did d (gripping g (did (Found s) x))) → trail_in new ≡ step_with (kind_of d) (view_in new) ∷ step_with (kind_seen s) (after_find s (view_in x)) ∷ trail_in x
trail_both d g s (Store k b l) new e is = absurd (cc e)
trail_both d g s (Own m q b ds) new e is = ap trail_in is ∙ ap (λ z. step_with (kind_of d) (view_in z) ∷ step_with (kind_seen s) (after_find s (view_by b m ds)) ∷ trail_by b m ds) (sym is)
trail_both d g s Spent new e is = absurd (cc e)

pub over_kind : (t : ℕ) (e : Entry) (home : Option ℕ) → kind_of (over t e home) ≡ Kind.Finish t
over_kind t e None = refl
over_kind t e (Some h) = refl

-- a step that was handed the region
pub committed_did : (at : ℕ) (d : Deed) → ((n : ℕ) → at_or n d ≡ at) → (x new : SeatData) → is_own x ≡ true → new ≡ did d x → committed_at (done_in new) ≡ at
committed_did at d gives (Store k b l) new e is = absurd (cc e)
committed_did at d gives (Own m q b ds) new e is = ap (λ z. committed_at (done_in z)) is ∙ gives (committed_at ds)
committed_did at d gives Spent new e is = absurd (cc e)
