-- What a worker knows of its keys at the start is what its view has of them once the group is opened.
use Rattle.std.proofs.Common.{◌≡◌, inl, inr, ℕ, ◌-◌, ◌*◌, ◌<◌, ◌≤◌, ◌==◌, ◌&&◌, ◌||◌, nat_lt, eqb, not, Bool, true, false, cond, List, [], ◌∷◌, Option, Some, None, option_map, refl, sym, ◌∙◌, ap, subst, arith}
use Rattle.std.specs.Prelude.{unwrap_or, is_none}
use Rattle.std.specs.Option.{option_and_then}
use Rattle.std.proofs.lemmas.Bool.{eqb-true, eq-eqb, ne_eqb, and_parts, and_from, or_cases, or_left, or_right, cases_eq}
use Rattle.log_entry.specs.declared.entry.Body.{Body}
use Rattle.log_entry.specs.declared.entry.Body.TheVariants.{Pointer, Embedded, Tombstone}
use Rattle.chunk_map.specs.Layouts as layouts
use Rattle.store_image.specs.declared.types.PlacedEntry.{PlacedEntry}
use Rattle.store_image.specs.Facts.{In, KeepsRules}
use Rattle.store_image.specs.Parts.{all_entries, value_in_block, block_bytes}
use Rattle.store_image.specs.Winners.{winner, recovered, cell_by}
use Rattle.store_image.proofs.Clients.{winner_some, winner_max, winner_is}
use Rattle.core_index.specs.declared.types.StandingEntry.{StandingEntry}
use Rattle.core_index.specs.Index.{known_at}
use Rattle.core_index.specs.Records.{KeyRecord, last_of, block_of, standing_of, standing_at, standing_with, stands_alone, is_tombstone, is_empty, is_forgettable}
use Rattle.core_index.specs.Records as records
use Rattle.core_index.specs.Slots as slots
use Rattle.recover.specs.Starts.{KnownAs, IsIndexOf, named_in}
use Rattle.group_laws.specs.Places.{Place, IsPlace, members, core_of, owner}
use Rattle.group_laws.specs.MemberViews.{View}
use Rattle.group_laws.specs.OpeningImages.{winner_of, home_of, is_own, is_at, is_dead, is_own_dead, alone}
use Rattle.group_laws.specs.OpeningImages as images
use Rattle.group_laws.proofs.Clients.{held_there, core_back, own_core, found_is, finds_one, all_true, all_from, home as entries_home, some_group, wins, is_found, own_true}
use Rattle.core_worker.specs.KeyTies.{KnowsKey, Left, LeftIn}
use Rattle.core_worker.specs.Hearing.{is_dead_by, heard_at, last_change, HearsAll}
use Rattle.core_worker.specs.Openings.{opened_view}

-- what the last change was is the same where version and body are

pub changed : (o n : Option KeyRecord) → option_map last_change n ≡ option_map last_change o → (r q : KeyRecord) → o ≡ Some r → n ≡ Some q → (q.version ≡ r.version) × (q.body ≡ r.body)
changed o n e r q is now =
    let both : Some (q.version, q.body) ≡ Some (r.version, r.body) = ap (option_map last_change) (sym now) ∙ e ∙ ap (option_map last_change) is in
    let pair : (q.version, q.body) ≡ (r.version, r.body) = cc both in
    (ap (λ (x : ℕ × Body). x.0) pair, ap (λ (x : ℕ × Body). x.1) pair)

pub same_last : (o n : Option KeyRecord) → option_map last_change n ≡ option_map last_change o → last_of n ≡ last_of o
same_last None None e = refl
same_last None (Some q) e = absurd (cc e)
same_last (Some r) None e = absurd (cc e)
same_last (Some r) (Some q) e = (changed (Some r) (Some q) e r q refl refl).0

pub same_block : (o n : Option KeyRecord) → option_map last_change n ≡ option_map last_change o → block_of n ≡ block_of o
same_block None None e = refl
same_block None (Some q) e = absurd (cc e)
same_block (Some r) None e = absurd (cc e)
same_block (Some r) (Some q) e = ap records.pointer_of (changed (Some r) (Some q) e r q refl refl).1

same_left : (v : View) (k : ℕ) (cell : Option (List ℕ)) (o n : Option KeyRecord) → option_map last_change n ≡ option_map last_change o → LeftIn v k o cell → LeftIn v k n cell
same_left v k cell None None e left = left
same_left v k cell None (Some q) e left = absurd (cc e)
same_left v k cell (Some r) None e left = absurd (cc e)
same_left v k cell (Some r) (Some q) e left = subst (λ (b : Body). Left v k b cell) (sym (changed (Some r) (Some q) e r q refl refl).1) left

-- entries of a list as a map from versions

-- each version that stands is n, where each version that is found is
all_are : (ss : List StandingEntry) (n : ℕ) → ((v : ℕ) (s : StandingEntry) → standing_at ss v ≡ Some s → v ≡ n) → stands_alone ss n ≡ true
all_are [] n each = refl
all_are (x ∷ ss) n each =
    let first : x.version ≡ n = each x.version x (ap (λ (b : Bool). cond b (Some x) (standing_at ss x.version)) (eq-eqb x.version x.version refl)) in
    and_from (x.version == n) (stands_alone ss n) (eq-eqb x.version n first) (all_are ss n (λ v s at. elim (cases_eq x.version v) [
      | inl same ↦ sym same ∙ first
      | inr ne ↦ each v s (ap (λ (b : Bool). cond b (Some x) (standing_at ss v)) (ne_eqb x.version v ne) ∙ at)
    ]))

found_are : (ss : List StandingEntry) (n : ℕ) → stands_alone ss n ≡ true → (v : ℕ) (s : StandingEntry) → standing_at ss v ≡ Some s → v ≡ n
found_are [] n all v s at = absurd (cc at)
found_are (x ∷ ss) n all v s at = by (found_are ss n (and_parts (x.version == n) (stands_alone ss n) all).1 v s) (x.version == v) refl at where
  by : (standing_at ss v ≡ Some s → v ≡ n) → (b : Bool) → (x.version == v) ≡ b → cond b (Some x) (standing_at ss v) ≡ Some s → v ≡ n
  by again true e here = sym (eqb-true x.version v e) ∙ eqb-true x.version n (and_parts (x.version == n) (stands_alone ss n) all).0
  by again false e rest = again rest

none_of_empty : (ss : List StandingEntry) (v : ℕ) (s : StandingEntry) → standing_at ss v ≡ Some s → is_empty ss ≡ false
none_of_empty [] v s at = absurd (cc at)
none_of_empty (x ∷ ss) v s at = refl

abbrev is_named : ℕ → ℕ → PlacedEntry → Bool
is_named k v x = x.entry.key == k && x.entry.version == v

-- two tests that hold together
same_bool : (a b : Bool) → (a ≡ true → b ≡ true) → (b ≡ true → a ≡ true) → a ≡ b
same_bool true true f g = refl
same_bool true false f g = sym (f refl)
same_bool false true f g = g refl
same_bool false false f g = refl

and_no : (b : Bool) → (b && false) ≡ false
and_no true = refl
and_no false = refl

told_by : (b : Bool) (v home : ℕ) → (cond b (standing_with v home true) (standing_with v home false)).told ≡ b
told_by true v home = refl
told_by false v home = refl

home_by : (b : Bool) (v home : ℕ) → (cond b (standing_with v home true) (standing_with v home false)).home ≡ home
home_by true v home = refl
home_by false v home = refl

module _ (p : Place) (image : ℕ → ℕ) (place : IsPlace p) (rules : KeepsRules p.layout image) (m : ℕ) (member : m < members p) (old : List (ℕ × slots.Place)) (is : IsIndexOf p.layout image (core_of p m) old) where
  abbrev es : List PlacedEntry
  es = all_entries p.layout image

  abbrev v : View
  v = opened_view p m image

  abbrev base : ℕ
  base = p.group * p.layout.group

  module _ (k : ℕ) (own : owner p k ≡ m) where
    low : owner p k < members p
    low = subst (λ (n : ℕ). n < members p) (sym own) member

    pub core_is : core_of p m ≡ layouts.owner p.layout k
    core_is = ap (core_of p) (sym own) ∙ (own_core p k (some_group p image place rules) low).0

    known : KnownAs (winner p.layout image k) (known_at old k)
    known = is.known k (sym core_is)

    stood : (n : ℕ) → standing_at (standing_of (known_at old k)) n ≡ option_map (λ (x : PlacedEntry). standing_with n x.core false) (named_in k n es)
    stood n = is.standing k n (sym core_is)

    group_own : is_own p k ≡ true
    group_own = own_true p image place rules k low

    mine : eqb (owner p k) m ≡ true
    mine = eq-eqb (owner p k) m own

    last_by : (w : Option PlacedEntry) (o : Option KeyRecord) → KnownAs w o → unwrap_or (option_map (λ (x : PlacedEntry). x.entry.version) w) 0 ≡ last_of o
    last_by None o e = sym (ap last_of e)
    last_by (Some x) None e = absurd e
    last_by (Some x) (Some r) e = sym e.0

    last_is : images.last_of p image k ≡ last_of (known_at old k)
    last_is = ap (λ (b : Bool). unwrap_or (option_map (λ (x : PlacedEntry). x.entry.version) (cond b (winner p.layout image k) None)) 0) group_own ∙ last_by (winner p.layout image k) (known_at old k) known

    cell_is : images.cell_of p image k ≡ recovered p.layout image k
    cell_is = ap (λ (b : Bool). cond b (recovered p.layout image k) None) group_own

    block_there : (q : ℕ) (x : PlacedEntry) → winner p.layout image k ≡ Some x → x.entry.body ≡ Pointer q → v.blocks q ≡ Some (record { key = k; bytes = block_bytes image q })
    block_there q x w body =
        let holds = held_there p (λ h. image) m q ∙ ap (λ (c : ℕ). value_in_block p.layout image c q) core_is ∙ rules.holds k q x w body in
        ((is_found p image place rules).blocks m q (record { key = k; bytes = block_bytes image q })).1 (x.entry, wins p image place rules k x low w, body, own, holds)

    left_body : (x : PlacedEntry) → winner p.layout image k ≡ Some x → (b : Body) → x.entry.body ≡ b → Left v k b (cell_by (value_in_block p.layout image (layouts.owner p.layout k)) b)
    left_body x w (Pointer q) e = (block_bytes image q, rules.holds k q x w e, block_there q x w e)
    left_body x w (Embedded u) e = refl
    left_body x w Tombstone e = refl

    left_by : (w : Option PlacedEntry) → winner p.layout image k ≡ w → (o : Option KeyRecord) → KnownAs w o → LeftIn v k o (option_and_then (λ (x : PlacedEntry). cell_by (value_in_block p.layout image (layouts.owner p.layout k)) x.entry.body) w)
    left_by None w o e = subst (λ (z : Option KeyRecord). LeftIn v k z None) (sym e) refl
    left_by (Some x) w None e = absurd e
    left_by (Some x) w (Some r) e = subst (λ (b : Body). Left v k b (cell_by (value_in_block p.layout image (layouts.owner p.layout k)) x.entry.body)) (sym e.1) (left_body x w x.entry.body refl)

    left : LeftIn v k (known_at old k) (recovered p.layout image k)
    left = left_by (winner p.layout image k) refl (known_at old k) known

    -- the entry of a name is one of the key, in a log of the group
    home_core : (x : PlacedEntry) → In x es → x.entry.key ≡ k → core_of p (x.core - base) ≡ x.core
    home_core x i key =
        let at = entries_home p image place rules x i (subst (λ (j : ℕ). owner p j < members p) (sym key) low) in
        ap (core_of p) (ap (λ (c : ℕ). c - base) at.3 ∙ core_back p at.0) ∙ sym at.3

    named : (n : ℕ) (x : PlacedEntry) → named_in k n es ≡ Some x → In x es × (x.entry.key ≡ k) × (x.entry.version ≡ n)
    named n x e =
        let there = found_is (is_named k n) es x e in
        let both = and_parts (x.entry.key == k) (x.entry.version == n) there.1 in
        (there.0, eqb-true x.entry.key k both.0, eqb-true x.entry.version n both.1)

    name_of : (x : PlacedEntry) → In x es → x.entry.key ≡ k → (z : PlacedEntry) × (named_in k x.entry.version es ≡ Some z)
    name_of x i key = finds_one (is_named k x.entry.version) es x i (and_from (x.entry.key == k) (x.entry.version == x.entry.version) (eq-eqb x.entry.key k key) (eq-eqb x.entry.version x.entry.version refl))

    stands_as : (n : ℕ) (x : PlacedEntry) → named_in k n es ≡ Some x → standing_at (standing_of (known_at old k)) n ≡ Some (standing_with n x.core false)
    stands_as n x e = stood n ∙ ap (option_map (λ (y : PlacedEntry). standing_with n y.core false)) e

    entry_of : (n : ℕ) (s : StandingEntry) → standing_at (standing_of (known_at old k)) n ≡ Some s → (x : PlacedEntry) × (named_in k n es ≡ Some x) × (s ≡ standing_with n x.core false)
    entry_of n s at = by (named_in k n es) refl where
      by : (o : Option PlacedEntry) → named_in k n es ≡ o → (x : PlacedEntry) × (named_in k n es ≡ Some x) × (s ≡ standing_with n x.core false)
      by None e = absurd (let none : None ≡ Some s = sym (stood n ∙ ap (option_map (λ (y : PlacedEntry). standing_with n y.core false)) e) ∙ at in cc none)
      by (Some x) e = (x, e, (let same : Some s ≡ Some (standing_with n x.core false) = sym at ∙ stands_as n x e in cc same))

    alone_is : (n : ℕ) → alone p image k n ≡ stands_alone (standing_of (known_at old k)) n
    alone_is n = same_bool _ _
        (λ t. all_are (standing_of (known_at old k)) n (λ u s at.
        let x = entry_of u s at in
        let is = named u x.0 x.1 in
        sym is.2 ∙ elim (or_cases (not (x.0.entry.key == k)) (x.0.entry.version == n) (all_true (λ (y : PlacedEntry). not (y.entry.key == k) || y.entry.version == n) es x.0 t is.0)) [
          | inl other ↦ absurd (let same = eq-eqb x.0.entry.key k is.1 in cc (other, same))
          | inr version ↦ eqb-true x.0.entry.version n version
        ]))
        (λ t. all_from (λ (y : PlacedEntry). not (y.entry.key == k) || y.entry.version == n) es (λ y i. elim (cases_eq y.entry.key k) [
          | inl key ↦
              let z = name_of y i key in
              or_right (not (y.entry.key == k)) (y.entry.version == n) (eq-eqb y.entry.version n (found_are (standing_of (known_at old k)) n t y.entry.version _ (stands_as y.entry.version z.0 z.1)))
          | inr ne ↦ or_left (not (y.entry.key == k)) (y.entry.version == n) (ap not (ne_eqb y.entry.key k ne))
        ]))

    none_is : (b : Body) (cell : Option (List ℕ)) → Left v k b cell → is_none cell ≡ is_tombstone b
    none_is (Pointer q) cell l = ap is_none l.1
    none_is (Embedded u) cell l = ap is_none l
    none_is Tombstone cell l = ap is_none l

    dead_is : (o : Option KeyRecord) → known_at old k ≡ o → (n : ℕ) (s : StandingEntry) → standing_at (standing_of o) n ≡ Some s → is_dead p image k n ≡ is_dead_by o n
    dead_is None e n s at = absurd (let none : None ≡ Some s = at in cc none)
    dead_is (Some r) e n s at =
        let last : images.last_of p image k ≡ r.version = last_is ∙ ap last_of e in
        let tomb : is_none (images.cell_of p image k) ≡ is_tombstone r.body = ap is_none cell_is ∙ none_is r.body (recovered p.layout image k) (subst (λ (z : Option KeyRecord). LeftIn v k z (recovered p.layout image k)) e left) in
        let one : alone p image k n ≡ stands_alone r.standing n = alone_is n ∙ ap (λ (z : Option KeyRecord). stands_alone (standing_of z) n) e in
        λ i. nat_lt n (last i) || (n == last i && (tomb i && one i))

    module _ (new : List (ℕ × slots.Place)) (core : ℕ) (at : core ≡ core_of p m) (heard : HearsAll core old new) where
      heard_as : (n : ℕ) (s : StandingEntry) → standing_at (standing_of (known_at new k)) n ≡ Some s → (x : PlacedEntry) × (named_in k n es ≡ Some x) × (s ≡ heard_at core (known_at old k) n (standing_with n x.core false))
      heard_as n s now = by (named_in k n es) refl where
        told_as : (o : Option PlacedEntry) → named_in k n es ≡ o → standing_at (standing_of (known_at new k)) n ≡ option_map (heard_at core (known_at old k) n) (option_map (λ (y : PlacedEntry). standing_with n y.core false) o)
        told_as o e = heard.standing k n ∙ ap (option_map (heard_at core (known_at old k) n)) (stood n ∙ ap (option_map (λ (y : PlacedEntry). standing_with n y.core false)) e)

        by : (o : Option PlacedEntry) → named_in k n es ≡ o → (x : PlacedEntry) × (named_in k n es ≡ Some x) × (s ≡ heard_at core (known_at old k) n (standing_with n x.core false))
        by None e = absurd (let none : None ≡ Some s = sym (told_as None e) ∙ now in cc none)
        by (Some x) e = (x, e, (let same : Some s ≡ Some (heard_at core (known_at old k) n (standing_with n x.core false)) = sym now ∙ told_as (Some x) e in cc same))

      home_now : (n : ℕ) → option_map (core_of p) (home_of p image k n) ≡ option_map (λ (s : StandingEntry). s.home) (standing_at (standing_of (known_at new k)) n)
      home_now n = ap (λ (b : Bool). option_map (core_of p) (cond b (option_map (λ (x : PlacedEntry). x.core - base) (named_in k n es)) None)) group_own
          ∙ by (named_in k n es) refl
          ∙ sym (ap (option_map (λ (s : StandingEntry). s.home)) (heard.standing k n ∙ ap (option_map (heard_at core (known_at old k) n)) (stood n))) where
            by : (o : Option PlacedEntry) → named_in k n es ≡ o → option_map (core_of p) (option_map (λ (x : PlacedEntry). x.core - base) o) ≡ option_map (λ (s : StandingEntry). s.home) (option_map (heard_at core (known_at old k) n) (option_map (λ (y : PlacedEntry). standing_with n y.core false) o))
            by None e = refl
            by (Some x) e = (let is = named n x e in ap Some (home_core x is.0 is.1 ∙ sym (home_by (x.core == core && is_dead_by (known_at old k) n) n x.core)))

      at_home : (n : ℕ) (x : PlacedEntry) → named_in k n es ≡ Some x → is_at (owner p k) (home_of p image k n) ≡ (x.core == core)
      at_home n x e =
          let is = named n x e in
          ap (λ (b : Bool). is_at (owner p k) (cond b (option_map (λ (y : PlacedEntry). y.core - base) (named_in k n es)) None)) group_own
          ∙ ap (λ (o : Option PlacedEntry). is_at (owner p k) (option_map (λ (y : PlacedEntry). y.core - base) o)) e
          ∙ same_bool _ _
          (λ t. eq-eqb x.core core (sym (home_core x is.0 is.1) ∙ ap (core_of p) (eqb-true (x.core - base) (owner p k) t ∙ own) ∙ sym at))
          (λ t. eq-eqb (x.core - base) (owner p k) (ap (λ (c : ℕ). c - base) (eqb-true x.core core t ∙ at) ∙ core_back p m ∙ sym own))

      told_now : (n : ℕ) (s : StandingEntry) → standing_at (standing_of (known_at new k)) n ≡ Some s → is_own_dead p image k n ≡ s.told
      told_now n s now =
          let x = heard_as n s now in
          let was = stands_as n x.0 x.1 in
          let here = at_home n x.0 x.1 in
          let dies = dead_is (known_at old k) refl n (standing_with n x.0.core false) was in
          (λ i. here i && dies i) ∙ sym (ap (λ (t : StandingEntry). t.told) x.2 ∙ told_by (x.0.core == core && is_dead_by (known_at old k) n) n x.0.core)

      pub knows : KnowsKey p v k (known_at new k)
      knows = record {
        last = ap (λ (b : Bool). cond b (images.last_of p image k) 0) mine ∙ last_is ∙ sym (same_last (known_at old k) (known_at new k) (heard.changes k));
        cell = subst (LeftIn v k (known_at new k)) (sym (ap (λ (b : Bool). cond b (images.cell_of p image k) None) mine ∙ cell_is)) (same_left v k (recovered p.layout image k) (known_at old k) (known_at new k) (heard.changes k) left);
        present = λ n. ap (λ (b : Bool). option_map (core_of p) (cond b (home_of p image k n) None)) mine ∙ home_now n;
        told = λ n s now. ap (λ (b : Bool). cond b (is_own_dead p image k n) false) mine ∙ told_now n s now;
      }

      -- no entry stands above the last version
      pub below : (n : ℕ) (s : StandingEntry) → standing_at (standing_of (known_at new k)) n ≡ Some s → n ≤ last_of (known_at new k)
      below n s now =
          let x = heard_as n s now in
          let is = named n x.0 x.1 in
          subst (λ (l : ℕ). n ≤ l) (sym (same_last (known_at old k) (known_at new k) (heard.changes k))) (subst (λ (u : ℕ). u ≤ last_of (known_at old k)) is.2 (by x.0 is.0 is.1 (winner p.layout image k) refl (known_at old k) known)) where
            by : (x : PlacedEntry) → In x es → x.entry.key ≡ k → (w : Option PlacedEntry) → winner p.layout image k ≡ w → (o : Option KeyRecord) → KnownAs w o → x.entry.version ≤ last_of o
            by x i key None e o ties = absurd (winner_some k es x i key e)
            by x i key (Some y) e None ties = absurd ties
            by x i key (Some y) e (Some r) ties = let most = winner_max k es y x e i key in let version = ties.0 in omega (arith, most, version)

      -- and a key with a record has an entry that stands
      pub remembers : is_forgettable (known_at new k) ≡ false
      remembers = by (known_at new k) refl (known_at old k) refl (heard.changes k) where
        some_entry : (r : KeyRecord) → known_at old k ≡ Some r → (w : Option PlacedEntry) → winner p.layout image k ≡ w → KnownAs w (Some r) → (n : ℕ) × (s : StandingEntry) × (standing_at (standing_of (known_at new k)) n ≡ Some s)
        some_entry r e None w ties = absurd (cc ties)
        some_entry r e (Some y) w ties =
            let is = winner_is k es y w in
            let z = name_of y is.0 is.1 in
            (y.entry.version, _, heard.standing k y.entry.version ∙ ap (option_map (heard_at core (known_at old k) y.entry.version)) (stands_as y.entry.version z.0 z.1))

        by : (n : Option KeyRecord) → known_at new k ≡ n → (o : Option KeyRecord) → known_at old k ≡ o → option_map last_change (known_at new k) ≡ option_map last_change (known_at old k) → is_forgettable n ≡ false
        by None now o was e = refl
        by (Some q) now None was e = absurd (let none : Some (last_change q) ≡ None = sym (ap (option_map last_change) now) ∙ e ∙ ap (option_map last_change) was in cc none)
        by (Some q) now (Some r) was e =
            let some = some_entry r was (winner p.layout image k) refl (subst (KnownAs (winner p.layout image k)) was known) in
            let filled : is_empty q.standing ≡ false = none_of_empty q.standing some.0 some.1 (sym (ap (λ (o : Option KeyRecord). standing_at (standing_of o) some.0) now) ∙ some.2) in
            ap (λ (b : Bool). is_tombstone q.body && b) filled ∙ and_no (is_tombstone q.body)
