-- A look at a mailbox, and the step that it allows.
use Rattle.std.proofs.Common.{◌≡◌, ℕ, ◌<◌, Bool, true, false, cond, [], ◌∷◌, ◌++◌, Some, None, inl, refl, sym, ap, ◌∙◌, subst}
use Rattle.store_image.specs.Facts.{In}
use Rattle.group_laws.specs.declared.types.Seen.{Seen}
use Rattle.group_laws.specs.declared.types.Seen.TheVariants as loads
use Rattle.group_laws.specs.Places.{members}
use Rattle.group_laws.specs.State.{Notices, Group, is_full}
use Rattle.group_laws.specs.Steps.{finds, sends, receives, CanSend}
use Rattle.group_laws.specs.Tidying.{Tidied}
use Rattle.group_laws.specs.Runs.{IsStep}
use Rattle.group_laws.specs.Runs as runs
use Rattle.group_laws.proofs.Clients.{In-append_right, step_keeps}
use Rattle.group_laws.specs.MemberViews.{View, view_of}
use Rattle.group_board.specs.Views.{after_find, after_send, after_receive, TidiedIn}
use Rattle.group_board.specs.Conditions.{MaySend}
use Rattle.group_laws.specs.Invariant.{Lawful}
use Rattle.group_board.specs.Assurances.{IsHeard}
use Rattle.group_board.specs.Told.{AreSteps}
use Rattle.group_board.proofs.Picks.{here}
use Rattle.group_board.proofs.Views as views
use Rattle.group_board.proofs.Views.{own_is}

-- what was just found is among what was looked at
just_seen : (w : Group) (m : ℕ) (x : Seen) → In x ((finds w m x).looked m)
just_seen w m x = subst (λ b. In x (cond b (w.looked m ++ x ∷ []) (w.looked m))) (sym (here m)) (In-append_right x (w.looked m) (x ∷ []) (inl refl))

module _ (w mid : Group) (m a b : ℕ) (full : Bool) (is : mid ≡ finds w m (loads.Mail a b full)) where
  pub seen_in : In (loads.Mail a b full) (mid.looked m)
  seen_in = subst (λ (g : Group). In (loads.Mail a b full) (g.looked m)) (sym is) (just_seen w m (loads.Mail a b full))

  pub mail_step : m < members w.place → a < members w.place → b < members w.place → full ≡ is_full (w.mail a b) → IsStep w m (runs.Kind.LookMail a b) mid
  mail_step p q r found = (p, q, r, is ∙ ap (λ x. finds w m (loads.Mail a b x)) found)

  pub mail_place : mid.place ≡ w.place
  mail_place = ap (λ g. g.place) is

  pub mail_view : view_of mid m ≡ after_find (loads.Mail a b full) (view_of w m)
  mail_view = ap (λ g. view_of g m) is ∙ views.view_finds w m (loads.Mail a b full)

module _ (w mid : Group) (m to : ℕ) (n : Notices) (is : mid ≡ finds w m (loads.Mail m to false)) (may : MaySend w.place m (view_of w m) to n) where
  pub can_send : CanSend mid m to n
  can_send = subst (λ g. CanSend g m to n) (sym is) (record {
    member = may.member;
    receiver = may.receiver;
    other = may.other;
    seen = just_seen w m (loads.Mail m to false);
    dead = λ k v t. let d = may.dead k v t in (d.0, views.dead_of w m k v d.0 d.1, sym (own_is w.place m k (w.present k v) None d.0) ∙ d.2, sym (own_is w.place m k (w.told k v) false d.0) ∙ d.3);
    gone = may.gone;
  })

  pub send_steps : (u : Group) → u ≡ sends mid m to n → false ≡ is_full (w.mail m to) → AreSteps w m (runs.Kind.LookMail m to) (runs.Kind.Send to n) u
  send_steps u e found = (mid, mail_step w mid m m to false is may.member may.member may.receiver found, (can_send, e))

  pub send_place : (u : Group) → u ≡ sends mid m to n → u.place ≡ w.place
  send_place u e = ap (λ g. g.place) e ∙ ap (λ g. g.place) is

  pub send_view : (u : Group) → u ≡ sends mid m to n → view_of u m ≡ after_send to n (view_of w m)
  send_view u e = ap (λ g. view_of g m) e
      ∙ (ap (λ g. view_of (sends g m to n) m) is
      ∙ (views.view_sends (finds w m (loads.Mail m to false)) m to n (λ k v t. (may.dead k v t).0)
      ∙ ap (after_send to n) (views.view_finds w m (loads.Mail m to false))))

module _ (w mid : Group) (m from : ℕ) (n : Notices) (is : mid ≡ finds w m (loads.Mail from m true)) where
  pub receive_steps : (u : Group) → m < members w.place → from < members w.place → mid.mail from m ≡ Some n → Tidied (receives mid m from n) m u → true ≡ is_full (w.mail from m) → AreSteps w m (runs.Kind.LookMail from m) (runs.Kind.Receive from) u
  receive_steps u p q there t found =
      let place = sym (ap (λ (g : Group). members g.place) is) in (
        mid,
        mail_step w mid m from m true is p q p found,
        (
          n,
          record {
            member = subst (λ (k : ℕ). m < k) place p;
            sender = subst (λ (k : ℕ). from < k) place q;
            seen = seen_in w mid m from m true is;
            full = there;
          },
          t,
        ),
      )

  tidied_from : (u : Group) → Tidied (receives mid m from n) m u → Tidied (receives (finds w m (loads.Mail from m true)) m from n) m u
  tidied_from u t = subst (λ g. Tidied (receives g m from n) m u) is t

  pub receive_view : (u : Group) → Tidied (receives mid m from n) m u → TidiedIn w.place m (after_receive w.place m n (view_of w m)) (view_of u m)
  receive_view u t =
      subst (λ (x : View). TidiedIn w.place m x (view_of u m))
      (views.view_receives (finds w m (loads.Mail from m true)) m from n ∙ ap (after_receive w.place m n) (views.view_finds w m (loads.Mail from m true)))
      (views.view_tidied (receives (finds w m (loads.Mail from m true)) m from n) m u (tidied_from u t))

  pub receive_place : (u : Group) → Tidied (receives mid m from n) m u → u.place ≡ w.place
  receive_place u t = ap (λ g. g.place) t.4 ∙ ap (λ g. g.place) is

-- two steps keep the invariant
pub steps_lawful : (w : Group) (m : ℕ) (first second : runs.Kind) (u : Group) → AreSteps w m first second u → Lawful w → Lawful u
steps_lawful w m first second u s L = step_keeps s.0 m second u (step_keeps w m first s.0 L s.1) s.2

-- what a member hears it hears of the state before its look, too
pub heard_before : (w mid : Group) (m from : ℕ) (x : Seen) (n : Notices) → mid ≡ finds w m x → IsHeard mid.place m from (view_of mid m) n → IsHeard w.place m from (view_of w m) n
heard_before w mid m from x n is h =
    let told = subst (λ (g : Group). IsHeard g.place m from (view_of g m) n) is h in
    record { other = told.other; dead = told.dead; theirs = told.theirs; own = told.own; told = told.told; stood = told.stood }
