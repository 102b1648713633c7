-- A Doom keeps the invariant.
use Rattle.std.proofs.Common.{◌≡◌, ℕ, true, false, List, [], Some, inl, inr, arith}
use Rattle.std.proofs.lemmas.Bool.{false_from_ne_true, cases_Bool}
use Rattle.log_entry.specs.declared.entry.Entry.{Entry}
use Rattle.log_entry.specs.declared.entry.EntryName.{EntryName}
use Rattle.group_laws.specs.declared.types.Seen.{Seen}
use Rattle.store_image.specs.Facts.{In}
use Rattle.group_laws.specs.Updates.{has}
use Rattle.group_laws.specs.State.{Group}
use Rattle.group_laws.specs.Invariant.{IsLast, Lawful}
use Rattle.group_laws.specs.Steps.{CanDoom, dooms}
use Rattle.group_laws.proofs.Facts.{not_dead}
use Rattle.group_laws.proofs.Names.{guard_cases, guard_into}
use Rattle.group_laws.proofs.Puts.{if_cases}

module _ (w : Group) (m : ℕ) (ns : List EntryName) (L : Lawful w) (can : CanDoom w m ns) where
  abbrev new : Group
  new = dooms w m ns

  doomed_dead : (h k v : ℕ) → new.doomed h k v ≡ true → w.dead h k v ≡ true
  doomed_dead h k v d = elim (guard_cases (λ b. b ≡ true) m (has ns k v) true (w.doomed h k v) h d) [
    | inl i ↦ rw (i.0) (can.dead k v i.1)
    | inr i ↦ L.deaths.doomed_dead h k v i.1
  ]

  spared : (h k v : ℕ) → (w.dead h k v ≡ true → ⊥) → new.doomed h k v ≡ false
  spared h k v ne = false_from_ne_true _ (λ d. ne (doomed_dead h k v d))

  was_spared : (h k v : ℕ) → new.doomed h k v ≡ false → w.doomed h k v ≡ false
  was_spared h k v f = false_from_ne_true _ (λ d. absurd (guard_into (λ b. b ≡ false → ⊥) m (has ns k v) true (w.doomed h k v) h (λ _ _ q. absurd (cc q)) (λ _ q. absurd (cc (q, d))) f))

  live_last : (k : ℕ) (v : List ℕ) (x : Entry) → w.cell k ≡ Some v → IsLast w k x → IsLast new k x
  live_last k v x c q = (q.0, q.1, q.2, q.3, q.4, spared q.0 k _ (λ d. elim (L.deaths.dead_is q.0 k _ d).2 [ inl i ↦ absurd (omega (arith, i)) | inr i ↦ absurd (let n = i.1 in cc (n, c)) ]))

  was_last : (k : ℕ) (x : Entry) → IsLast new k x → IsLast w k x
  was_last k x q = (q.0, q.1, q.2, q.3, q.4, was_spared q.0 k _ q.5)

  looked_was : (n : ℕ) (x : Seen) → In x (new.looked n) → In x (w.looked n)
  looked_was n x q = elim (if_cases (In x) m [] (w.looked n) n q) [ inl p ↦ absurd p.1 | inr p ↦ p.1 ]

  pub keeps : Lawful new
  keeps = record {
    place = L.place;
    keys = assumption;
    slots = assumption;
    standing = assumption;
    counts = assumption;
    looks = record {
      holder_member = L.looks.holder_member;
      holds_is = L.looks.holds_is;
      posted_seen = λ n b t o h q. L.looks.posted_seen n b t o h (looked_was n _ q);
      done_seen = λ n t h q. L.looks.done_seen n t h (looked_was n _ q);
      failed_seen = λ n t q. L.looks.failed_seen n t (looked_was n _ q);
      empty_seen = λ n b q. L.looks.empty_seen n b (looked_was n _ q);
      full_seen = λ n b q. L.looks.full_seen n b (looked_was n _ q);
    };
    logs = record {
      group = L.logs.group;
      known = L.logs.known;
      one_log = L.logs.one_log;
      apart = L.logs.apart;
      not_posted = L.logs.not_posted;
      done_kept = λ h n t x q. ((L.logs.done_kept h n t x q).0, spared h _ _ (not_dead w L h x (Some t) (L.slots.done_named n t h x q).0));
    };
    cells = record {
      value = λ k v c. let old = L.cells.value k v c in (old.0, live_last k v old.0 c old.1, old.2);
      tombs = L.cells.tombs;
      grave = λ k c n. elim (L.cells.grave k c n) [
        | inr alone ↦ inr alone
        | inl x ↦ let q = x.1 in elim (cases_Bool (w.dead q.0 k (w.last k))) [
          | inl d ↦ elim (L.deaths.dead_is q.0 k _ d).2 [ inl i ↦ absurd (omega (arith, i)) | inr i ↦ inr i.2 ]
          | inr d ↦ inl (x.0, (q.0, q.1, q.2, q.3, q.4, spared q.0 k _ (λ t. absurd (cc (t, d)))))
        ]
      ];
    };
    deaths = record { doomed_dead = doomed_dead; dead_kept = L.deaths.dead_kept; dead_is = L.deaths.dead_is; mail_is = L.deaths.mail_is; mail_from = L.deaths.mail_from };
    blocks = record {
      lies = L.blocks.lies;
      distinct = L.blocks.distinct;
      awaited = L.blocks.awaited;
      used = λ n p b q. elim (L.blocks.used n p b q) [ inl i ↦ inl (i.0, (i.1.0, live_last b.key b.bytes i.1.0 i.0 i.1.1, i.1.2)) | inr i ↦ inr i ];
      differ = λ k p v i. L.blocks.differ k p v (i.0, (i.1.0, was_last k i.1.0 i.1.1, i.1.2));
    };
  }
