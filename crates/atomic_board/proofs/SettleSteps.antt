-- The same for the steps that settle a change, and for those of cleaning.
use Rattle.std.proofs.Common.{◌≡◌, ℕ, Bool, true, false, cond, ◌&&◌, not, eqb, List, [], Option, Some, None, refl, sym, ap, ◌∙◌, eq-eqb, eqb-true}
use Rattle.log_entry.specs.declared.entry.Body.{Body}
use Rattle.log_entry.specs.declared.entry.Body.TheVariants.{Pointer, Embedded, Tombstone}
use Rattle.log_entry.specs.declared.entry.Entry.{Entry}
use Rattle.log_entry.specs.declared.entry.EntryName.{EntryName}
use Rattle.group_laws.specs.declared.types.Slot.{Slot}
use Rattle.group_laws.specs.declared.types.Slot.TheVariants.{Empty}
use Rattle.group_laws.specs.Places.{Place, owner}
use Rattle.group_laws.specs.Updates.{put2, has, without}
use Rattle.group_laws.specs.State.{Notices}
use Rattle.group_laws.specs.Steps.{left_by, finishes, retires, sends, receives}
use Rattle.group_laws.specs.MemberViews.{View}
use Rattle.group_board.specs.Views.{left_in, after_finish, after_retire, after_send, after_receive}
use Rattle.atomic_board.specs.Deeds.{group_of}
use Rattle.atomic_board.proofs.ViewSteps.{moved, own_key, finish_row}

retire_row : (p : Place) (m : ℕ) (ns : List EntryName) (b : Bool) (v : View)
    → cond b (after_retire p m ns v) v ≡ record v {
      kept = cond b (without ns v.kept) v.kept;
      dead = λ k n. cond (b && has ns k n) false (v.dead k n);
      doomed = λ k n. cond (b && has ns k n) false (v.doomed k n);
      present = λ k n. cond (b && (eqb (owner p k) m && has ns k n)) None (v.present k n);
      told = λ k n. cond (b && (eqb (owner p k) m && has ns k n)) false (v.told k n);
      leaving = λ k n. cond (b && (not (eqb (owner p k) m) && has ns k n)) true (v.leaving k n);
      looked = cond b [] v.looked;
    }
retire_row p m ns true v = refl
retire_row p m ns false v = refl

send_row : (to : ℕ) (n : Notices) (b : Bool) (v : View)
    → cond b (after_send to n v) v ≡ record v {
      told = λ k i. cond (b && has n.dead k i) true (v.told k i);
      leaving = λ k i. cond (b && has n.gone k i) false (v.leaving k i);
      mailed = λ c. cond (b && eqb c to) n (v.mailed c);
      looked = cond b [] v.looked;
    }
send_row to n true v = refl
send_row to n false v = refl

receive_row : (p : Place) (m : ℕ) (n : Notices) (b : Bool) (v : View)
    → cond b (after_receive p m n v) v ≡ record v {
      dead = λ k i. cond (b && has n.dead k i) true (v.dead k i);
      present = λ k i. cond (b && (eqb (owner p k) m && has n.gone k i)) None (v.present k i);
      told = λ k i. cond (b && (eqb (owner p k) m && has n.gone k i)) false (v.told k i);
      looked = cond b [] v.looked;
    }
receive_row p m n true v = refl
receive_row p m n false v = refl

and_twice : (b c : Bool) → b && (b && c) ≡ b && c
and_twice true c = refl
and_twice false c = refl

and_assoc : (a b c : Bool) → a && (b && c) ≡ (a && b) && c
and_assoc true b c = refl
and_assoc false b c = refl

and_none : (b : Bool) → b && false ≡ false
and_none true = refl
and_none false = refl

and_all : (b : Bool) → b && true ≡ b
and_all true = refl
and_all false = refl

-- a test that only keys of m pass
own_all : (b c : Bool) → (c ≡ true → b ≡ true) → b && c ≡ c
own_all b true h = and_all b ∙ h refl
own_all b false h = and_none b

left_same : (w : Rattle.group_laws.specs.State.Group) (m : ℕ) (b : Body) → left_in (w.blocks m) b ≡ left_by w m b
left_same w m (Pointer p) = refl
left_same w m (Embedded v) = refl
left_same w m Tombstone = refl

module _ (p : Place) (holder : Option ℕ) (slot : ℕ → ℕ → Slot) (mail : ℕ → ℕ → Option Notices) (view : ℕ → View) (m : ℕ) where
  cell_key : (e : Entry) → owner p e.key ≡ m → (k : ℕ) → cond (eqb (owner p k) m && eqb k e.key) (left_in (view (owner p k)).blocks e.body) ((view (owner p k)).cell k) ≡ cond (eqb k e.key) (left_by (group_of p holder slot mail view) m e.body) ((view (owner p k)).cell k)
  cell_key e o k = ap (λ c. cond c (left_in (view (owner p k)).blocks e.body) ((view (owner p k)).cell k)) (own_key p m e.key o k) ∙ by_test (eqb k e.key) refl where
    by_test : (c : Bool) → eqb k e.key ≡ c → cond (eqb k e.key) (left_in (view (owner p k)).blocks e.body) ((view (owner p k)).cell k) ≡ cond (eqb k e.key) (left_by (group_of p holder slot mail view) m e.body) ((view (owner p k)).cell k)
    by_test true t = ap (λ x. cond (eqb k e.key) x ((view (owner p k)).cell k)) (ap (λ j. left_in (view j).blocks e.body) (ap (owner p) (eqb-true k e.key t) ∙ o) ∙ left_same (group_of p holder slot mail view) m e.body)
    by_test false t = ap (λ c. cond c (left_in (view (owner p k)).blocks e.body) ((view (owner p k)).cell k)) t ∙ sym (ap (λ c. cond c (left_by (group_of p holder slot mail view) m e.body) ((view (owner p k)).cell k)) t)

  pub finish_shows : (s : ℕ) (e : Entry) (home : ℕ) → owner p e.key ≡ m → moved p holder (put2 slot m s Empty) mail view m (after_finish e home) ≡ finishes (group_of p holder slot mail view) m s e home
  finish_shows s e home o = (λ i. group_of p holder (put2 slot m s Empty) mail (λ h. finish_row e home (eqb h m) (view h) i))
      ∙ (λ i. record (finishes (group_of p holder slot mail view) m s e home) {
        last = λ k. cond (own_key p m e.key o k i) e.version ((view (owner p k)).last k);
        cell = λ k. cell_key e o k i;
        present = λ k n. cond ((and_assoc (eqb (owner p k) m) (eqb k e.key) (eqb n e.version) ∙ ap (λ c. c && eqb n e.version) (own_key p m e.key o k)) i) (Some home) ((view (owner p k)).present k n);
        pending = λ k. cond (own_key p m e.key o k i) None ((view (owner p k)).pending k);
      })

  pub retire_shows : (ns : List EntryName) → moved p holder slot mail view m (after_retire p m ns) ≡ retires (group_of p holder slot mail view) m ns
  retire_shows ns = (λ i. group_of p holder slot mail (λ h. retire_row p m ns (eqb h m) (view h) i))
      ∙ (λ i. record (retires (group_of p holder slot mail view) m ns) {
        present = λ k n. cond (and_twice (eqb (owner p k) m) (has ns k n) i) None ((view (owner p k)).present k n);
        told = λ k n. cond (and_twice (eqb (owner p k) m) (has ns k n) i) false ((view (owner p k)).told k n);
      })

  pub send_shows : (to : ℕ) (n : Notices) → ((k i : ℕ) → has n.dead k i ≡ true → owner p k ≡ m) → moved p holder slot (put2 mail m to (Some n)) view m (after_send to n) ≡ sends (group_of p holder slot mail view) m to n
  send_shows to n own = (λ i. group_of p holder slot (put2 mail m to (Some n)) (λ h. send_row to n (eqb h m) (view h) i))
      ∙ (λ i. record (sends (group_of p holder slot mail view) m to n) {
        told = λ k x. cond (own_all (eqb (owner p k) m) (has n.dead k x) (λ t. eq-eqb (owner p k) m (own k x t)) i) true ((view (owner p k)).told k x);
      })

  pub receive_shows : (from : ℕ) (n : Notices) → moved p holder slot (put2 mail from m None) view m (after_receive p m n) ≡ receives (group_of p holder slot mail view) m from n
  receive_shows from n = (λ i. group_of p holder slot (put2 mail from m None) (λ h. receive_row p m n (eqb h m) (view h) i))
      ∙ (λ i. record (receives (group_of p holder slot mail view) m from n) {
        present = λ k x. cond (and_twice (eqb (owner p k) m) (has n.gone k x) i) None ((view (owner p k)).present k x);
        told = λ k x. cond (and_twice (eqb (owner p k) m) (has n.gone k x) i) false ((view (owner p k)).told k x);
      })
