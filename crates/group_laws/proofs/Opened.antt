-- An opened state is lawful.
use Rattle.std.proofs.Common.{◌≡◌, ◌<◌, ℕ, zero, suc, Bool, true, false, List, Option, Some, None, inl, inr, arith, refl, sym, ap, ◌∙◌, subst}
use Rattle.std.proofs.lemmas.Bool.{cases_eq}
use Rattle.log_entry.specs.declared.entry.Body.{Body}
use Rattle.log_entry.specs.declared.entry.Body.TheVariants.{Pointer, Embedded, Tombstone}
use Rattle.log_entry.specs.declared.entry.Entry.{Entry}
use Rattle.group_laws.proofs.Places.{parts_rise}
use Rattle.group_laws.specs.declared.types.Seen.{Seen}
use Rattle.group_laws.specs.declared.types.Slot.{Slot}
use Rattle.group_laws.specs.declared.types.Slot.TheVariants.{Empty}
use Rattle.store_image.specs.Facts.{In}
use Rattle.group_laws.proofs.Runs.{tidied_keeps}
use Rattle.group_laws.specs.Places.{Place, members, owner}
use Rattle.group_laws.specs.Updates.{sum_below, times}
use Rattle.group_laws.specs.State.{Group}
use Rattle.group_laws.specs.Invariant.{Gives, IsLast, IsLogged, Lawful, times_taken}
use Rattle.group_laws.specs.Crashes.{Contents, IsWinner, Leaves}
use Rattle.group_laws.specs.Opening.{AllTidied, IsFound, IsOpened, IsSound}
use Rattle.group_laws.proofs.Times.{sum_same}

sum_none : (n : ℕ) → sum_below n (λ h. 0) ≡ 0
sum_none zero = refl
sum_none (suc n) = let below = sum_none n in omega (arith, below)

is_none : {X : Type 0} (o : Option X) → ((x : X) → o ≡ Some x → ⊥) → o ≡ None
is_none None ne = refl
is_none (Some x) ne = absurd (ne x refl)

clash : {A : Type 0} {b : Bool} → b ≡ false → b ≡ true → A
clash f t = absurd (cc (f, t))

nothing : {A X : Type 0} {o : Option X} {x : X} → o ≡ None → o ≡ Some x → A
nothing n s = absurd (cc (n, s))

module _ (w : Group) (x : Contents) (sound : IsSound w.place x) (open_ : IsFound w x) where
  no_flight : (h : ℕ) (e : Entry) → In e (w.flying h) → ⊥
  no_flight h e i = subst (In e) (open_.flying h) i

  stands : (h : ℕ) (e : Entry) → IsLogged w h e → x.entries h e ≡ true
  stands h e (inl i) = (open_.kept h e).0 i
  stands h e (inr i) = absurd (no_flight h e i)

  unlooked : (h : ℕ) (s : Seen) → In s (w.looked h) → ⊥
  unlooked h s i = subst (In s) (open_.looked h) i

  empty : {A : Type 0} (m s : ℕ) (u : Slot) → w.slot m s ≡ u → (u ≡ Empty → ⊥) → A
  empty m s u q ne = absurd (ne (sym q ∙ open_.slot m s))

  home : (k : ℕ) (e : Entry) (W : IsWinner x k e) → w.last k ≡ e.version → IsLast w k e
  home k e W l = (W.home, (open_.present k (w.last k) W.home).1 (e, W.stands, W.key, sym l), (open_.kept W.home e).1 W.stands, W.key, sym l, open_.doomed W.home k (w.last k))

  gives : (k : ℕ) (e : Entry) (body : Body) (v : List ℕ) → IsWinner x k e → e.body ≡ body → Leaves (x.holds (owner w.place k)) body (Some v) → Gives w e v body
  gives k e (Embedded u) v W b l = cc (sym l)
  gives k e Tombstone v W b l = absurd (cc l)
  gives k e (Pointer p) v W b l = (open_.blocks (owner w.place e.key) p _).1 (e, subst (λ (j : ℕ). IsWinner x j e) (sym W.key) W, b, refl, rw (W.key) (l.1 ∙ sym l.2))

  buried : (holds : ℕ → Option (List ℕ)) (body : Body) → Leaves holds body None → body ≡ Tombstone
  buried holds (Embedded u) l = absurd (cc l)
  buried holds (Pointer p) l = let z = l.2 in absurd (cc z)
  buried holds Tombstone l = refl

  -- an entry of the last version is the winner
  winner_is : (k h : ℕ) (e f : Entry) (W : IsWinner x k e) → x.entries h f ≡ true → f.key ≡ k → f.version ≡ e.version → f ≡ e
  winner_is k h e f W s i j = (sound.one_body h W.home f e s W.stands (i ∙ sym W.key) j).1

  no_times : (e : Entry) → times_taken w e ≡ 0
  no_times e = sum_same (members w.place) (λ h. times e (w.took h)) (λ h. 0) (λ h. ap (times e) (open_.took h)) ∙ sum_none (members w.place)

  top : (k : ℕ) (e f : Entry) → IsWinner x k e → IsWinner x k f → e.version ≡ f.version
  top k e f V W = let a = V.greatest W.home f W.stands W.key in let b = W.greatest V.home e V.stands V.key in omega (arith, a, b)

  live_cell : (k p m : ℕ) (e : Entry) (v : List ℕ) (body : Body) (c : Option (List ℕ)) → body ≡ Pointer p → owner w.place k ≡ m → x.holds m p ≡ Some v → Leaves (x.holds (owner w.place k)) body c → c ≡ Some v
  live_cell k p m e v (Pointer q) c b o h l = let same : q ≡ p = cc b in let held = l.1 in l.2 ∙ (let here : x.holds m p ≡ Some l.0 = rw (o, same) at held in cc (here, h))
  live_cell k p m e v (Embedded u) c b o h l = absurd (cc b)
  live_cell k p m e v Tombstone c b o h l = absurd (cc b)

  pub lawful : Lawful w
  lawful = record {
    place = open_.place;
    keys = record {
      under_key = λ k p q. nothing (open_.pending k) q;
      next_version = λ k p q. nothing (open_.pending k) q;
      spelled = λ k p q. nothing (open_.pending k) q;
      not_above = λ k v h p. let e = (open_.present k v h).0 p in elim (open_.last k) [
        | inl i ↦ absurd (i.0 h e.0 e.1 e.2)
        | inr i ↦ let top = i.1.greatest h e.0 e.1 e.2 in let l = i.2 in let n = e.3 in omega (arith, top, l, n)
      ];
      no_cell = λ k z. elim (open_.last k) [ inl i ↦ i.2 | inr i ↦ absurd (let one = sound.from_one i.1.home i.0 i.1.stands in let l = i.2 in omega (arith, one, l, z)) ];
      no_names = λ k v z. is_none _ (λ h p. let e = (open_.present k v h).0 p in elim (open_.last k) [
        | inl i ↦ i.0 h e.0 e.1 e.2
        | inr i ↦ absurd (let one = sound.from_one i.1.home i.0 i.1.stands in let l = i.2 in omega (arith, one, l, z))
      ]);
      told_present = λ k v t. clash (open_.told k v) t;
    };
    slots = record {
      posted_named = λ m s e q. empty m s _ q (λ z. absurd (cc z));
      done_named = λ m s h e q. empty m s _ q (λ z. absurd (cc z));
      failed_named = λ m s e q. empty m s _ q (λ z. absurd (cc z));
      taken_named = λ h m s e q. nothing (open_.taken h m s) q;
      taken_by = λ m s q. empty m s _ q (λ z. absurd (cc z));
      taken_once = λ h i m s e f p q. nothing (open_.taken h m s) p;
      taken_member = λ h m s e q. nothing (open_.taken h m s) q;
      in_slot = λ k s e q. nothing (open_.pending k) q;
      once = λ k l s e f p. nothing (open_.pending k) p;
      failed = λ m s e q. empty m s _ q (λ z. absurd (cc z));
      in_doubt = λ k e q. nothing (open_.pending k) q;
    };
    looks = record {
      holder_member = λ h q. nothing open_.holder q;
      holds_is = λ m. (λ t. clash (open_.holds m) t, λ h. nothing open_.holder h);
      posted_seen = λ m a s o h. nothing open_.holder h;
      done_seen = λ m s h q. absurd (unlooked m _ q);
      failed_seen = λ m s q. absurd (unlooked m _ q);
      empty_seen = λ m b q. absurd (unlooked m _ q);
      full_seen = λ m a q. absurd (unlooked m _ q);
    };
    logs = record {
      group = λ h e l. sound.group h e (stands h e l);
      known = λ h e l. inl ((open_.present e.key e.version h).1 (e, stands h e l, refl, refl));
      one_log = λ h i e f p q. sound.one_body h i e f (stands h e p) (stands i f q);
      apart = λ h e p q. no_flight h e q;
      not_posted = λ h m s e q. empty m s _ q (λ z. absurd (cc z));
      done_kept = λ h m s e q. empty m s _ q (λ z. absurd (cc z));
    };
    standing = record {
      stands = λ k v h p. let e = (open_.present k v h).0 p in inl (e.0, (open_.kept h e.0).1 e.1, e.2, e.3);
      away = λ h k v q. elim q [ inl i ↦ clash (open_.leaving h k v) i | inr i ↦ nothing (open_.mail h (owner w.place k)) i.1 ];
      gone_home = λ a b n y q. nothing (open_.mail a b) q;
      leaving_other = λ h k v q. clash (open_.leaving h k v) q;
      not_both = λ h k v q. clash (open_.leaving h k v) q;
      full = λ a b n q. nothing (open_.mail a b) q;
      no_self = λ m. open_.mail m m;
    };
    cells = record {
      value = λ k v c. elim (open_.last k) [
        | inl i ↦ nothing i.2 c
        | inr i ↦ (i.0, home k i.0 i.1 i.2, gives k i.0 i.0.body v i.1 refl (subst (Leaves (x.holds (owner w.place k)) i.0.body) c i.3))
      ];
      tombs = λ k h e c l i j. elim (open_.last k) [
        | inl z ↦ absurd (z.0 h e (stands h e l) i)
        | inr z ↦ ap (λ (y : Entry). y.body) (winner_is k h z.0 e z.1 (stands h e l) i (j ∙ z.2)) ∙ buried (x.holds (owner w.place k)) z.0.body (subst (Leaves (x.holds (owner w.place k)) z.0.body) c z.3)
      ];
      grave = λ k c z. elim (open_.last k) [ inl i ↦ absurd (z i.1) | inr i ↦ inl (i.0, home k i.0 i.1 i.2) ];
    };
    deaths = record {
      doomed_dead = λ h k v q. clash (open_.doomed h k v) q;
      dead_kept = λ h k v q. clash (open_.dead h k v) q;
      dead_is = λ h k v q. clash (open_.dead h k v) q;
      mail_is = λ a h n y q. nothing (open_.mail a h) q;
      mail_from = λ a h n y q. nothing (open_.mail a h) q;
    };
    blocks = record {
      lies = λ m p b q. let e = (open_.blocks m p b).0 q in (sound.lies m p b.bytes e.4, e.3, subst (λ (o : ℕ). o < members w.place) (ap (owner w.place) e.1.key ∙ e.3) (sound.group e.1.home e.0 e.1.stands).1);
      distinct = λ m n p q b c i j ne. let e = (open_.blocks m p b).0 i in let f = (open_.blocks n q c).0 j in elim (cases_eq m n) [
        | inl s ↦ sound.apart n p q b.bytes c.bytes (rw s at e.4) f.4 (ne s)
        | inr d ↦ let a = sound.lies m p b.bytes e.4 in let z = sound.lies n q c.bytes f.4 in let up = parts_rise w.place m n in let down = parts_rise w.place n m in grind (arith, a, z, up, down, d)
      ];
      used = λ m p b q. let e = (open_.blocks m p b).0 q in elim (open_.last b.key) [
        | inl i ↦ absurd (i.0 e.1.home e.0 e.1.stands e.1.key)
        | inr i ↦ let same = winner_is b.key e.1.home i.0 e.0 i.1 e.1.stands e.1.key (top b.key e.0 i.0 e.1 i.1) in
            inl (live_cell b.key p m i.0 b.bytes i.0.body (w.cell b.key) (ap (λ (y : Entry). y.body) (sym same) ∙ e.2) e.3 e.4 i.3, (i.0, home b.key i.0 i.1 i.2, ap (λ (y : Entry). y.body) (sym same) ∙ e.2))
      ];
      awaited = λ k p q. nothing (open_.pending k) q.1;
      differ = λ k p v i q. nothing (open_.pending k) q.1;
    };
    counts = record {
      taken = λ e. let none = no_times e in omega (arith, none);
      waiting = λ m s e q. empty m s _ q (λ z. absurd (cc z));
    };
  }

all_place : (n : ℕ) (w u : Group) → AllTidied n w u → u.place ≡ w.place
all_place zero w u t = ap (λ (v : Group). v.place) t
all_place (suc n) w u t = let last = t.2 in ap (λ (v : Group). v.place) last.4 ∙ all_place n w t.0 t.1

pub opened : (u : Group) (x : Contents) → IsSound u.place x → IsOpened u x → Lawful u
opened u x sound o = tidied_keeps (members o.0.place) o.0 u (lawful o.0 x (subst (λ (p : Place). IsSound p x) (all_place _ o.0 u o.2) sound) o.1) o.2
