-- A change in doubt stays so, and its entry leaves what it left.
use Rattle.std.proofs.Common.{◌≡◌, ◌≢◌, ℕ, cond, List, [], ◌∷◌, Option, Some, None, inl, inr, refl, sym, ap, ◌∙◌}
use Rattle.std.proofs.lemmas.Bool.{ne_eqb}
use Rattle.log_entry.specs.declared.entry.Entry.{Entry}
use Rattle.group_laws.specs.declared.types.Pending.{Pending}
use Rattle.group_laws.specs.Places.{owner}
use Rattle.group_laws.specs.Updates.{put}
use Rattle.group_laws.specs.State.{Group}
use Rattle.group_laws.specs.Invariant.{Lawful}
use Rattle.group_laws.specs.Posts.{offered, offer_by}
use Rattle.group_laws.specs.Steps.{left_by}
use Rattle.group_laws.specs.Runs.{IsStep, Kind, Runs}
use Rattle.group_laws.specs.Runs.Kind.{Split, Join, Post, Lock, Look, LookMail, Take, Unlock, Commit, Mark, Finish, Fail, Withdraw, Doom, Retire, Send, Receive}
use Rattle.group_laws.proofs.Posted.{offers_on}
use Rattle.group_laws.proofs.Runs.{step_keeps}

abbrev doubt : Entry → Pending
doubt d = record { entry = d; slot = None }

module _ (k : ℕ) (d : Entry) (w : Group) (L : Lawful w) (is : w.pending k ≡ Some (doubt d)) where
  -- pending as it is at another key than this
  keeps : (j : ℕ) (x : Option Pending) → k ≢ j → put w.pending j x k ≡ Some (doubt d)
  keeps j x ne = ap (λ b. cond b x (w.pending k)) (ne_eqb k j ne) ∙ is

  -- a change that stands in a slot isn't in doubt
  named : (e : Entry) (s : ℕ) → w.pending e.key ≡ Some (record { entry = e; slot = Some s }) → k ≢ e.key
  named e s q same = let both = sym is ∙ ap w.pending same ∙ q in absurd (none both) where
    none : Some (doubt d) ≡ Some (record { entry = e; slot = Some s }) → ⊥
    none b = let p : doubt d ≡ record { entry = e; slot = Some s } = cc b in let slots = ap (λ (x : Pending). x.slot) p in cc slots

  from : (u v : Group) → u ≡ v → v.pending k ≡ Some (doubt d) → u.pending k ≡ Some (doubt d)
  from u v e q = ap (λ (x : Group). x.pending k) e ∙ q

  stays : (m : ℕ) (kind : Kind) (u : Group) → IsStep w m kind u → u.pending k ≡ Some (doubt d)
  stays m Split u s = from u _ s.1 is
  stays m Join u s = from u _ s.1 is
  stays m (Post n e v) u s = from u _ s.1 (keeps e.key _ (λ same. absurd (let idle = s.0.idle in let both = sym is ∙ ap w.pending same ∙ idle in cc both)))
  stays m Lock u s = elim s.1 [ inl free ↦ from u _ free.1 is | inr held ↦ from u _ held.2 is ]
  stays m (Look a n) u s = from u _ s.2 is
  stays m (LookMail a b) u s = from u _ s.3 is
  stays m (Take a n) u s = from u _ s.2 is
  stays m Unlock u s = from u _ s.1 is
  stays m Commit u s = from u _ s.1 is
  stays m (Mark a n) u s = from u _ s.2 is
  stays m (Finish n) u (inl s) = from u _ s.3.4 (keeps s.0.key _ (named s.0 n (L.slots.done_named m n s.1 s.0 s.2.done).0))
  stays m (Finish n) u (inr s) = from u _ s.2.4 (keeps s.0.key _ (named s.0 n (L.slots.failed_named m n s.0 s.1.failed).0))
  stays m (Fail a n) u s = from u _ s.2 is
  stays m (Withdraw n) u s = from u _ s.2 (keeps s.0.key _ (named s.0 n (L.slots.posted_named m n s.0 s.1.posted).0))
  stays m (Doom ns) u s = from u _ s.1 is
  stays m (Retire ns) u s = from u _ s.1.4 is
  stays m (Send to n) u s = from u _ s.1 is
  stays m (Receive from') u s = from u _ s.2.4 is

  abbrev offer : Option (List ℕ)
  offer = left_by w (owner w.place k) d.body

  offers : (p : Pending) → w.pending k ≡ Some p → left_by w (owner w.place k) p.entry.body ≡ offer
  offers p q = let both : Some p ≡ Some (doubt d) = sym q ∙ is in let same : p ≡ doubt d = cc both in ap (λ (x : Pending). left_by w (owner w.place k) x.entry.body) same

  same_offer : (m : ℕ) (kind : Kind) (u : Group) → IsStep w m kind u → offered k kind offer ≡ offer
  same_offer m Split u s = refl
  same_offer m Join u s = refl
  same_offer m (Post n e v) u s = ap (λ b. cond b (offer_by v e.body) offer) (ne_eqb k e.key (λ same. absurd (let idle = s.0.idle in let both = sym is ∙ ap w.pending same ∙ idle in cc both)))
  same_offer m Lock u s = refl
  same_offer m (Look a n) u s = refl
  same_offer m (LookMail a b) u s = refl
  same_offer m (Take a n) u s = refl
  same_offer m Unlock u s = refl
  same_offer m Commit u s = refl
  same_offer m (Mark a n) u s = refl
  same_offer m (Finish n) u s = refl
  same_offer m (Fail a n) u s = refl
  same_offer m (Withdraw n) u s = refl
  same_offer m (Doom ns) u s = refl
  same_offer m (Retire ns) u s = refl
  same_offer m (Send to n) u s = refl
  same_offer m (Receive from') u s = refl

  pub step_doubt : (m : ℕ) (kind : Kind) (u : Group) → IsStep w m kind u → (u.pending k ≡ Some (doubt d)) × (left_by u (owner u.place k) d.body ≡ left_by w (owner w.place k) d.body)
  step_doubt m kind u s =
      let on = offers_on k offer w L offers m kind u s (doubt d) (stays m kind u s) in
      (stays m kind u s, on ∙ same_offer m kind u s)

pub run_doubt : (k : ℕ) (d : Entry) (w : Group) (steps : List (ℕ × Kind)) (u : Group) → Lawful w → Runs w steps u → w.pending k ≡ Some (doubt d)
    → (u.pending k ≡ Some (doubt d)) × (left_by u (owner u.place k) d.body ≡ left_by w (owner w.place k) d.body)
run_doubt k d w [] u L r is = (ap (λ (x : Group). x.pending k) r ∙ is, ap (λ (x : Group). left_by x (owner x.place k) d.body) r)
run_doubt k d w (x ∷ xs) u L r is =
    let first = step_doubt k d w L is x.0 x.1 r.0 r.1 in
    let rest = run_doubt k d r.0 xs u (step_keeps w x.0 x.1 r.0 L r.1) r.2 first.0 in
    (rest.0, rest.1 ∙ first.1)
