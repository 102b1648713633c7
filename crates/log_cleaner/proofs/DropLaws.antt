-- Each name of a list is dropped, one after another.
use Rattle.std.proofs.Common.{◌≡◌, ℕ, ◌+◌, ◌≤◌, ◌<◌, ◌==◌, ◌&&◌, Bool, true, false, cond, List, length, get_or, take, refl, sym, ◌∙◌, ap, arith}
use Rattle.std.proofs.lemmas.Bool.{eq-eqb, ne_eqb, cond-true, cond-false}
use Rattle.std.proofs.lemmas.List.Sums.{count_by_more_yes, count_by_more_no, sum_by-take-le}
use Rattle.log_entry.specs.declared.entry.EntryName.{EntryName}
use Rattle.log_standing.specs.NameCounts.{StandingState, name_eq, copies_at, count_in, count_of, times_in, Changes}
use Rattle.log_standing.proofs.Clients.{same_name}
use Rattle.log_cleaner.specs.Dropping.{lowered, lone_in, Drops}

-- one name of the list more was dropped
pub dropped_on : (old mid new : StandingState) (ns : List EntryName) (i : ℕ) (d : EntryName) → i < length ns → ((k v : ℕ) → times_in ns k v ≤ 1) → Drops old mid (take i ns)
    → (let n = get_or ns i d in Changes mid new n.key n.version (lowered (copies_at mid n.key n.version))) → Drops old new (take (i + 1) ns)
dropped_on old mid new ns i d lt once before changes k v = let n = get_or ns i d in elim (name_eq (n.key, n.version) (k, v)) as (λ b. name_eq (n.key, n.version) (k, v) ≡ b → copies_at new k v ≡ cond (times_in (take (i + 1) ns) k v == 0) (copies_at old k v) (lowered (copies_at old k v))) [
  | true ↦ λ is.
      let e = same_name n.key n.version k v is in
      let p : EntryName → Bool = λ m. name_eq (m.key, m.version) (k, v) in
      let more = count_by_more_yes p ns i d lt is in
      let within = sum_by-take-le (λ (m : EntryName). cond (p m) 1 0) ns (i + 1) in
      let one = once k v in
      let none : times_in (take i ns) k v ≡ 0 = omega (arith, more, within, one) in
      let some : (times_in (take (i + 1) ns) k v == 0) ≡ false = ne_eqb (times_in (take (i + 1) ns) k v) 0 (λ zero_is. omega (arith, more, zero_is)) in
      let was : copies_at mid n.key n.version ≡ copies_at old k v = (λ t. copies_at mid (e.0 t) (e.1 t)) ∙ before k v ∙ cond-true (times_in (take i ns) k v == 0) (copies_at old k v) (lowered (copies_at old k v)) (eq-eqb (times_in (take i ns) k v) 0 none) in
      changes k v ∙ cond-true (name_eq (n.key, n.version) (k, v)) (lowered (copies_at mid n.key n.version)) (copies_at mid k v) is ∙ ap lowered was ∙ sym (cond-false (times_in (take (i + 1) ns) k v == 0) (copies_at old k v) (lowered (copies_at old k v)) some)
  | false ↦ λ isnt.
      let p : EntryName → Bool = λ m. name_eq (m.key, m.version) (k, v) in
      let same = count_by_more_no p ns i d lt isnt in
      changes k v ∙ cond-false (name_eq (n.key, n.version) (k, v)) (lowered (copies_at mid n.key n.version)) (copies_at mid k v) isnt ∙ before k v ∙ sym (ap (λ (t : ℕ). cond (t == 0) (copies_at old k v) (lowered (copies_at old k v))) same)
] refl

same_self : (k v : ℕ) → name_eq (k, v) (k, v) ≡ true
same_self k v = λ i. eq-eqb k k refl i && eq-eqb v v refl i

-- a name that was not dropped yet has as many copies as before
not_yet : (old mid : StandingState) (ns : List EntryName) (i : ℕ) (d : EntryName) → i < length ns → ((k v : ℕ) → times_in ns k v ≤ 1) → Drops old mid (take i ns) → (let n = get_or ns i d in count_of mid n.key n.version ≡ count_of old n.key n.version)
not_yet old mid ns i d lt once before =
    let n = get_or ns i d in
    let p : EntryName → Bool = λ m. name_eq (m.key, m.version) (n.key, n.version) in
    let more = count_by_more_yes p ns i d lt (same_self n.key n.version) in
    let within = sum_by-take-le (λ (m : EntryName). cond (p m) 1 0) ns (i + 1) in
    let one = once n.key n.version in
    let none : times_in (take i ns) n.key n.version ≡ 0 = omega (arith, more, within, one) in
    ap count_in (before n.key n.version ∙ cond-true (times_in (take i ns) n.key n.version == 0) (copies_at old n.key n.version) (lowered (copies_at old n.key n.version)) (eq-eqb (times_in (take i ns) n.key n.version) 0 none))

-- with each name that had one copy there is a name less
pub lone_on : (old mid new : StandingState) (ns : List EntryName) (i : ℕ) (d : EntryName) → i < length ns → ((k v : ℕ) → times_in ns k v ≤ 1) → Drops old mid (take i ns) → length mid.entries + lone_in old (take i ns) ≤ length old.entries
    → (let n = get_or ns i d in length new.entries + cond {A = ℕ} (count_of mid n.key n.version == 1) 1 0 ≤ length mid.entries) → length new.entries + lone_in old (take (i + 1) ns) ≤ length old.entries
lone_on old mid new ns i d lt once before had less =
    let n = get_or ns i d in
    let lone : EntryName → Bool = λ x. count_of old x.key x.version == 1 in
    let same = ap (λ (c : ℕ). c == 1) (not_yet old mid ns i d lt once before) in
    elim (count_of old n.key n.version == 1) as (λ b. (count_of old n.key n.version == 1) ≡ b → length new.entries + lone_in old (take (i + 1) ns) ≤ length old.entries) [
      | true ↦ λ is. (let more = count_by_more_yes lone ns i d lt is in let one = ap (λ (b : Bool). cond {A = ℕ} b 1 0) (same ∙ is) in omega (arith, had, less, more, one))
      | false ↦ λ isnt. (let more = count_by_more_no lone ns i d lt isnt in omega (arith, had, less, more))
    ] refl
