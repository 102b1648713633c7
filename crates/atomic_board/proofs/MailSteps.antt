-- The steps at mailboxes, on the group that the views show: what a member's own view and its loads say suffices for the machine's conditions, so the state stays lawful. The words of the mailboxes are not here.
use Rattle.std.proofs.Common.{◌≡◌, ℕ, suc, ◌<◌, ◌&&◌, true, false, eqb, List, ◌∷◌, sym, refl, ap, ◌∙◌, subst, Some, None}
use mathlib.Core.Option.{some}
use lib.ListN.{get_elem?}
use Rattle.log_entry.specs.declared.entry.EntryName.{EntryName}
use Rattle.store_image.specs.Facts.{In}
use Rattle.group_laws.specs.declared.types.Seen.TheVariants as loads
use Rattle.group_laws.specs.Places.{owner}
use Rattle.group_laws.specs.Updates.{put2, has}
use Rattle.group_laws.specs.State.{Group, Notices, is_full}
use Rattle.group_laws.specs.Steps.{finds, sends, receives}
use Rattle.group_laws.specs.Runs as runs
use Rattle.group_laws.specs.Invariant.{IsDead}
use Rattle.atomic_board.proofs.Reaches.{more, step_reaches}
use Rattle.group_laws.specs.MemberViews.{View}
use Rattle.group_board.specs.Views.{after_receive, IsDeadIn}
use Rattle.group_board.specs.Conditions.{MaySend}
use Rattle.group_board.proofs.Clients.{covers_less}
use Rattle.atomic_board.specs.declared.seat_data.Origin.{Origin}
use Rattle.atomic_board.specs.declared.seat_data.Holding.{Holding}
use Rattle.atomic_board.specs.declared.seat_data.Deed.{Deed}
use Rattle.atomic_board.specs.declared.seat_data.Deed.TheVariants.{Found, Send, Receive}
use Rattle.atomic_board.specs.declared.seat_data.SeatData.TheVariants.{Own}
use Rattle.atomic_board.specs.Deeds.{group_of, alike, place_of, size, names_of, names_by, after_deed, view_by}
use Rattle.atomic_board.specs.ShownState.{TableState, deeds_at, views_of, IsReached, ShowsLawful}
use Rattle.atomic_board.proofs.ViewSteps.{moved, find_shows}
use Rattle.atomic_board.proofs.SettleSteps.{send_shows, receive_shows}
use Rattle.atomic_board.proofs.RuleKept.{known, own_by}
use Rattle.atomic_board.proofs.GivingKept.{tidied_law, covers}

module _ (b : Origin) (s : TableState) (o : ShowsLawful b s) (m : ℕ) (q : Holding) (ds : List Deed) (me : get_elem? s.views (suc m) ≡ some (Own m q b ds)) (near : m < size b) where
  abbrev w : Group
  w = group_of (place_of b) o.holder o.slot o.mail (views_of b s.views)

  same : views_of b s.views m ≡ view_by b m ds
  same = known b s o m q ds me near

  -- a load of the mailbox from a to c
  pub look_mail_law : (a c : ℕ) → a < size b → c < size b → IsReached b (more (deeds_at s.views) m (Found (loads.Mail a c (is_full (o.mail a c))))) (moved (place_of b) o.holder o.slot o.mail (views_of b s.views) m (after_deed (names_by (names_of b) (Found (loads.Mail a c (is_full (o.mail a c))) ∷ ds)) (place_of b) m (Found (loads.Mail a c (is_full (o.mail a c))))))
  look_mail_law a c low less = subst (IsReached b _) (sym (find_shows (place_of b) o.holder o.slot o.mail (views_of b s.views) m (loads.Mail a c (is_full (o.mail a c)))))
      (step_reaches b (deeds_at s.views) o.holder o.slot o.mail m (Found (loads.Mail a c (is_full (o.mail a c)))) (finds w m (loads.Mail a c (is_full (o.mail a c)))) o.reached (near, low, less, refl))

  -- what is dead by the own view is dead
  dead_by : (k i : ℕ) → owner (place_of b) k ≡ m → IsDeadIn (view_by b m ds) k i → IsDead w k i
  dead_by k i own d = subst (λ j. Dead (views_of b s.views j)) (sym own) (subst Dead (sym same) d) where
    Dead : View → Type 0
    Dead v = IsDeadIn v k i

  pub send_law : (to : ℕ) (dead gone : List EntryName) → MaySend (place_of b) m (view_by b m ds) to (record { dead = dead; gone = gone }) → In (loads.Mail m to false) (view_by b m ds).looked
      → IsReached b (more (deeds_at s.views) m (Send to dead gone)) (moved (place_of b) o.holder o.slot (put2 o.mail m to (Some (record { dead = dead; gone = gone }))) (views_of b s.views) m (after_deed (names_by (names_of b) (Send to dead gone ∷ ds)) (place_of b) m (Send to dead gone)))
  send_law to dead gone may saw = let n : Notices = record { dead = dead; gone = gone } in
      subst (IsReached b _) (sym (send_shows (place_of b) o.holder o.slot o.mail (views_of b s.views) m to n (λ k i h. (may.dead k i h).0)))
      (step_reaches b (deeds_at s.views) o.holder o.slot o.mail m (Send to dead gone) (sends w m to n) o.reached (
        record {
          member = near;
          receiver = may.receiver;
          other = may.other;
          seen = subst (λ (u : View). In (loads.Mail m to false) u.looked) (sym same) saw;
          dead = λ k i h. let d = may.dead k i h in (d.0, dead_by k i d.0 d.1, own_by b s o m q ds me near k (λ (u : View). u.present k i) d.0 ∙ d.2, own_by b s o m q ds me near k (λ (u : View). u.told k i) d.0 ∙ d.3);
          gone = λ k i h. (ap (λ (u : View). u.leaving k i) same ∙ (may.gone k i h).0, (may.gone k i h).1);
        },
        refl,
      ))

  pub receive_law : (from : ℕ) (dead gone : List EntryName) → from < size b → In (loads.Mail from m true) (view_by b m ds).looked → o.mail from m ≡ Some (record { dead = dead; gone = gone })
      → IsReached b (more (deeds_at s.views) m (Receive from dead gone)) (moved (place_of b) o.holder o.slot (put2 o.mail from m None) (views_of b s.views) m (after_deed (names_by (names_of b) (Receive from dead gone ∷ ds)) (place_of b) m (Receive from dead gone)))
  receive_law from dead gone low saw there = let n : Notices = record { dead = dead; gone = gone } in
      let y = tidied_law b s o m q ds me near o.holder o.slot (put2 o.mail from m None) (after_receive (place_of b) m n) (receives w m from n) (names_by (names_of b) ds)
      (covers_less (alike (place_of b) (views_of b s.views m)) (names_by (names_of b) ds) (covers b s o m q ds me near) (λ k i. eqb (owner (place_of b) k) m && has gone k i)) (receive_shows (place_of b) o.holder o.slot o.mail (views_of b s.views) m from n) in
      subst (IsReached b _) y.1 (step_reaches b (deeds_at s.views) o.holder o.slot o.mail m (Receive from dead gone) y.0 o.reached (n, record { member = near; sender = low; seen = subst (λ (u : View). In (loads.Mail from m true) u.looked) (sym same) saw; full = there }, y.2))
