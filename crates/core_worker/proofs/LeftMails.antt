-- What is under way falls where a mailbox is emptied, and rises where one is filled.
use Rattle.std.proofs.Common.{◌≡◌, ◌≢◌, ℕ, zero, suc, ◌+◌, ◌<◌, ◌≤◌, ◌&&◌, eqb, cond, Option, Some, None, refl, ◌∙◌, ap, arith}
use Rattle.std.proofs.lemmas.Bool.{eq-eqb, ne_eqb}
use Rattle.group_laws.specs.Places.{members}
use Rattle.group_laws.specs.State.{Group, Notices}
use Rattle.group_laws.specs.Updates.{sum_below, put2}
use Rattle.group_laws.specs.MemberViews.{View}
use Rattle.group_laws.specs.Runs.{Kind}
use Rattle.group_laws.specs.Steps.{receives, CanReceive, sends}
use Rattle.group_laws.specs.Tidying.{Tidied}
use Rattle.group_board.specs.Told.{MakesBoth}
use Rattle.core_worker.specs.declared.worker.Worker.{Worker}
use Rattle.core_worker.specs.CleaningLeft.{notices_left, mailbox_left, mail_left}
use Rattle.core_worker.specs.Left.{left, group_left, Lowers}
use Rattle.core_worker.proofs.LeftSums.{sum_with}

abbrev Mail : Type 0
Mail = ℕ → ℕ → Option Notices

row_same : (n : ℕ) (f g : ℕ → ℕ) → ((h : ℕ) → f h ≡ g h) → sum_below n f ≡ sum_below n g
row_same zero f g e = refl
row_same (suc n) f g e = let below = row_same n f g e in let here = e n in omega (arith, below, here)

put_here : (f : Mail) (m s : ℕ) (x : Option Notices) → put2 f m s x m s ≡ x
put_here f m s x = ap (λ b. cond (b && eqb s s) x (f m s)) (eq-eqb m m refl) ∙ ap (λ b. cond b x (f m s)) (eq-eqb s s refl)

put_member : (f : Mail) (m s : ℕ) (x : Option Notices) (a t : ℕ) → a ≢ m → put2 f m s x a t ≡ f a t
put_member f m s x a t ne = ap (λ b. cond (b && eqb t s) x (f a t)) (ne_eqb a m ne)

put_other : (f : Mail) (m s : ℕ) (x : Option Notices) (t : ℕ) → t ≢ s → put2 f m s x m t ≡ f m t
put_other f m s x t ne = ap (λ b. cond (b && eqb t s) x (f m t)) (eq-eqb m m refl) ∙ ap (λ b. cond b x (f m t)) (ne_eqb t s ne)

pub mail_with : (n m s : ℕ) (f : Mail) (x : Option Notices) → m < n → s < n → mail_left n (put2 f m s x) + mailbox_left (f m s) ≡ mail_left n f + mailbox_left x
unfolding mail_left
mail_with n m s f x member other =
    let row = sum_with n s (λ t. mailbox_left (put2 f m s x m t)) (λ t. mailbox_left (f m t)) other (λ t ne. ap mailbox_left (put_other f m s x t ne)) in
    let all = sum_with n m (λ a. sum_below n (λ t. mailbox_left (put2 f m s x a t))) (λ a. sum_below n (λ t. mailbox_left (f a t))) member (λ a ne. row_same n (λ t. mailbox_left (put2 f m s x a t)) (λ t. mailbox_left (f a t)) (λ t. ap mailbox_left (put_member f m s x a t ne))) in
    let here = ap mailbox_left (put_here f m s x) in
    omega (arith, row, all, here)

pub receives_way : (w u : Group) (m from : ℕ) (n : Notices) → CanReceive w m from n → Tidied (receives w m from n) m u → group_left u + (1 + notices_left n) ≡ group_left w
receives_way w u m from n can tidied =
    let sum = mail_with (members w.place) from m w.mail None can.sender can.member in
    let was = ap mailbox_left can.full in
    let same = ap group_left tidied.4 in
    omega (arith, sum, was, same)

pub sends_way : (w : Group) (m to : ℕ) (n : Notices) → m < members w.place → to < members w.place → group_left (sends w m to n) ≤ group_left w + (1 + notices_left n)
sends_way w m to n mine theirs =
    let sum = mail_with (members w.place) m to w.mail (Some n) mine theirs in
    omega (arith, sum)

-- what is received is less to do, where the core itself has no more
pub receives_lower : (before after : Option Group) (m from : ℕ) (v : View) (w x : Worker) → MakesBoth before m (Kind.LookMail from m) (Kind.Receive from) after v → left x ≤ left w → Lowers before after w x
receives_lower None after m from v w x made low = tt
receives_lower (Some a) None m from v w x made low = absurd made
receives_lower (Some a) (Some b) m from v w x made low =
    let steps = made.0 in
    let looked = ap group_left steps.1.3 in
    let way = receives_way steps.0 b m from steps.2.0 steps.2.1 steps.2.2 in
    omega (arith, looked, way, low)

-- and so is what is sent, which counts more where it waits
pub sends_lower : (before after : Option Group) (m to : ℕ) (n : Notices) (v : View) (w x : Worker) → MakesBoth before m (Kind.LookMail m to) (Kind.Send to n) after v → left x + (1 + notices_left n) < left w → Lowers before after w x
sends_lower None after m to n v w x made low = tt
sends_lower (Some a) None m to n v w x made low = absurd made
sends_lower (Some a) (Some b) m to n v w x made low =
    let steps = made.0 in
    let looked = ap group_left steps.1.3 in
    let can = steps.2.0 in
    let now = ap group_left steps.2.1 in
    let way = sends_way steps.0 m to n can.member can.receiver in
    omega (arith, looked, now, way, low)
