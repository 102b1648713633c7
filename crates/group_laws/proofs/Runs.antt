-- Every step, and so every run, keeps the invariant.
use Rattle.std.proofs.Common.{◌≡◌, ℕ, zero, suc, true, false, List, [], ◌∷◌, Option, Some, None, inl, inr, refl, sym, subst}
use Rattle.group_laws.specs.Opening.{AllTidied}
use Rattle.group_laws.specs.State.{Notices, Group, is_full, word_shown}
use Rattle.group_laws.specs.Invariant.{Lawful}
use Rattle.group_laws.specs.Tidying.{Tidied, tidies}
use Rattle.group_laws.specs.Runs.{IsStep, Kind, Runs}
use Rattle.group_laws.specs.declared.types.Seen.TheVariants.{Slot as SeenSlot, Mail as SeenMail, Holder as SeenHolder}
use Rattle.group_laws.specs.Runs.Kind.{Split, Join, Post, Lock, Look, LookMail, Take, Unlock, Commit, Mark, Finish, Fail, Withdraw, Doom, Retire, Send, Receive}
use Rattle.group_laws.proofs.Post as post
use Rattle.group_laws.proofs.Lock as lock
use Rattle.group_laws.proofs.Take as take
use Rattle.group_laws.proofs.Commit as commit
use Rattle.group_laws.proofs.Mark as mark
use Rattle.group_laws.proofs.Fail as fail
use Rattle.group_laws.proofs.Finish as finish
use Rattle.group_laws.proofs.GiveUp as give_up
use Rattle.group_laws.proofs.Withdraw as withdraw
use Rattle.group_laws.proofs.Doom as doom
use Rattle.group_laws.proofs.Retire as retire
use Rattle.group_laws.proofs.Send as send
use Rattle.group_laws.proofs.Receive as receive
use Rattle.group_laws.proofs.Tidy as tidy

along : (u v : Group) → u ≡ v → Lawful v → Lawful u
along u v e L = subst Lawful (sym e) L

tidied : (base : Group) (m : ℕ) (u : Group) → Lawful base → Tidied base m u → Lawful u
tidied base m u L t = along u (tidies base t.0 t.1 t.2) t.4 (tidy.keeps base m t.0 t.1 t.2 L t.3)

-- what a load of a mailbox word finds
full_is : (o : Option Notices) → (is_full o ≡ true → o ≡ None → ⊥) × (is_full o ≡ false → o ≡ None)
full_is None = (λ t _. absurd (cc t), λ _. refl)
full_is (Some n) = (λ _ z. absurd (cc z), λ f. absurd (cc f))

pub step_keeps : (w : Group) (m : ℕ) (k : Kind) (u : Group) → Lawful w → IsStep w m k u → Lawful u
step_keeps w m Split u L s = along u w s.1 L
step_keeps w m Join u L s = along u w s.1 L
step_keeps w m (Post n e v) u L s = along _ _ s.1 (post.keeps w m n e v L s.0)
step_keeps w m Lock u L s = elim s.1 [
  | inl free ↦ along _ _ free.1 (lock.locks_keeps w m L s.0.member free.0)
  | inr held ↦ along _ _ held.2 (lock.finds_keeps w m (SeenHolder held.0) L held.1)
]
step_keeps w m (Look a n) u L s = along _ _ s.2 (lock.finds_keeps w m (SeenSlot a n (word_shown (w.slot a n))) L refl)
step_keeps w m (LookMail a b) u L s = along _ _ s.3 (lock.finds_keeps w m (SeenMail a b (is_full (w.mail a b))) L (full_is (w.mail a b)))
step_keeps w m (Take a n) u L s = along _ _ s.2 (take.keeps w m a n s.0 L s.1)
step_keeps w m Unlock u L s = along _ _ s.1 (lock.unlocks_keeps w m L s.0)
step_keeps w m Commit u L s = along _ _ s.1 (commit.keeps w m L s.0.whole)
step_keeps w m (Mark a n) u L s = along _ _ s.2 (mark.keeps w m a n s.0 L s.1)
step_keeps w m (Finish n) u L (inl s) = tidied _ m u (finish.keeps w m n s.0 s.1 L s.2) s.3
step_keeps w m (Finish n) u L (inr s) = tidied _ m u (give_up.keeps w m n s.0 L s.1) s.2
step_keeps w m (Fail a n) u L s = along _ _ s.2 (fail.keeps w m a n s.0 L s.1)
step_keeps w m (Withdraw n) u L s = along _ _ s.2 (withdraw.keeps w m n s.0 L s.1)
step_keeps w m (Doom ns) u L s = along _ _ s.1 (doom.keeps w m ns L s.0)
step_keeps w m (Retire ns) u L s = tidied _ m u (retire.keeps w m ns L s.0) s.1
step_keeps w m (Send to n) u L s = along _ _ s.1 (send.keeps w m to n L s.0)
step_keeps w m (Receive from) u L s = tidied _ m u (receive.keeps w m from s.0 L s.1) s.2

pub tidied_keeps : (n : ℕ) (w u : Group) → Lawful w → AllTidied n w u → Lawful u
tidied_keeps zero w u L t = along u w t L
tidied_keeps (suc n) w u L t = tidied t.0 n u (tidied_keeps n w t.0 L t.1) t.2

pub run_keeps : (w : Group) (xs : List (ℕ × Kind)) (u : Group) → Lawful w → Runs w xs u → Lawful u
run_keeps w [] u L r = along u w r L
run_keeps w (x ∷ xs) u L r = run_keeps r.0 xs u (step_keeps w x.0 x.1 r.0 L r.1) r.2
