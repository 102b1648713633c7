-- The shares of the cores, key by key.
use Rattle.std.proofs.Common.{◌≡◌, ◌≢◌, ◌⊎◌, inl, inr, ⊎_elim, ℕ, ◌<◌, ◌≤◌, ◌==◌, ◌||◌, List, [], ◌∷◌, ◌++◌, length, get_or, set, map, Bool, true, false, Option, Some, refl, sym, ◌∙◌, ap, subst}
use Rattle.std.specs.Prelude.{option_map, slice_index_or, Result, Ok, Err, Vec}
use Rattle.std.specs.Global.{Global}
use Rattle.std.specs.Option.{option_to_list}
use Rattle.std.specs.List.{list_any, AllByRecursion}
use Rattle.std.proofs.lemmas.List.{get_or_read, get_or-set_same, get_or-set_other}
use Rattle.std.proofs.lemmas.Bool.{eqb-true, eq-eqb, cases_eq, or_cases}
use Rattle.log_entry.specs.declared.entry.Body.{Body}
use Rattle.log_entry.specs.declared.entry.Body.TheVariants.{Pointer, Embedded, Tombstone}
use Rattle.log_entry.specs.Spelling.{HasSpelling}
use Rattle.chunk_map.specs.declared.layouts.Geometry.{Geometry}
use Rattle.chunk_map.specs.Layouts.{owner}
use Rattle.store_image.specs.declared.types.PlacedEntry.{PlacedEntry}
use Rattle.store_image.specs.declared.types.Fault.{Fault}
use Rattle.store_image.specs.Parts.{all_entries}
use Rattle.store_image.specs.Soundness.{damage}
use Rattle.store_image.specs.Winners.{winner_in}
use Rattle.store_image.proofs.Clients.{winner_is}
use Rattle.core_index.specs.declared.types.Standee.{Standee}
use Rattle.core_index.specs.Records.{KeyRecord, standing_at, standing_of, standing_with, opened_with, pointer_of, untold}
use Rattle.core_index.specs.Index.{known_at, room_at, EntersAs}
use Rattle.core_index.proofs.Clients.{opened_at}
use Rattle.recover.specs.declared.found_entries.Found.{Found}
use Rattle.recover.specs.declared.shares.Share.{Share}
use Rattle.recover.specs.declared.types.RecoverError.{RecoverError}
use Rattle.recover.specs.Starts.{KnownAs, named_in}
use Rattle.recover.specs.ByName.{IsByName}
use Rattle.recover.specs.Standing.{standee_at}
use Rattle.recover.specs.Gathering.{AllSpell, AreAgreed}
use Rattle.recover.specs.Causes.{HasCause}
use Rattle.recover.specs.Winning.{winners_of}
use Rattle.recover.specs.Judging.{winners_fault}
use Rattle.recover.specs.Shares.{PointsFor, Shares, GivesShares, IsShare, AreShares, AreSpelledShares, IsEmpty, AreEmpty, Enters, Gives}
use Rattle.recover.proofs.ListLaws.{any_append, all_at}
use Rattle.recover.proofs.NameLaws.{winner_same, winners_same, named_same}
use Rattle.recover.proofs.JudgeLaws.{by_winners}
use Rattle.recover.proofs.KeyLaws.{LacksKey, HaveKey, winner_behind, winner_front, named_behind, named_front}

-- the pointer of a body in a list of it
pointed_by : (p : ℕ) (b : Body) → list_any (λ q. q == p) (option_to_list (pointer_of b)) ≡ true → b ≡ Pointer p
pointed_by p (Pointer q) is = ap Pointer (eqb-true q p (first (q == p) is)) where
  first : (b : Bool) → (b || false) ≡ true → b ≡ true
  first true e = refl
  first false e = e
pointed_by p (Embedded v) is = absurd (cc is)
pointed_by p Tombstone is = absurd (cc is)

points_to : (p : ℕ) (b : Body) → b ≡ Pointer p → list_any (λ q. q == p) (option_to_list (pointer_of b)) ≡ true
points_to p b is = ap (λ (b : Body). list_any (λ q. q == p) (option_to_list (pointer_of b))) is ∙ ap (λ t. t || false) (eq-eqb p p refl)

either : (a b : Bool) → (a ≡ true) ⊎ (b ≡ true) → (a || b) ≡ true
either true b h = refl
either false b (inl e) = absurd (cc e)
either false b (inr e) = e

known_by : (x : PlacedEntry) (ss : List Standee) (o : Option PlacedEntry) (p : Option KeyRecord) → o ≡ Some x → p ≡ Some (opened_with x.entry.version x.entry.body ss) → KnownAs o p
known_by x ss o p won known = subst (λ q. KnownAs q p) (sym won) (subst (KnownAs (Some x)) (sym known) (refl, refl))

-- all entries of one key more, of which x wins
module _ (l : Geometry) (es xs : List PlacedEntry) (x : PlacedEntry) (ss : List Standee) (fresh : LacksKey x.entry.key es) (own : HaveKey x.entry.key xs) (wins : winner_in x.entry.key xs ≡ Some x)
    (stand : (v : ℕ) → standing_at (map untold ss) v ≡ option_map (λ (x : PlacedEntry). standing_with v x.core false) (named_in x.entry.key v xs)) where
  abbrev k : ℕ
  k = x.entry.key

  abbrev all : List PlacedEntry
  all = es ++ xs

  lacks : (j : ℕ) → (j ≡ k → ⊥) → LacksKey j xs
  lacks j ne y h e = ne (sym e ∙ own y h)

  won_here : winner_in k all ≡ Some x
  won_here = winner_behind k es xs fresh ∙ wins

  won_there : (j : ℕ) → (j ≡ k → ⊥) → winner_in j all ≡ winner_in j es
  won_there j ne = winner_front j es xs (lacks j ne)

  -- which keys have pointers
  kept : (c p : ℕ) → PointsFor l es c p → PointsFor l all c p
  kept c p w =
      let is = winner_is w.key es w.winner_is w.wins in
      record { key = w.key; winner_is = w.winner_is; wins = won_there w.key (λ e. fresh w.winner_is is.0 (is.1 ∙ e)) ∙ w.wins; owned = w.owned; points = w.points }

  new_one : (c p : ℕ) → owner l k ≡ c → x.entry.body ≡ Pointer p → PointsFor l all c p
  new_one c p owned points = record { key = k; winner_is = x; wins = won_here; owned = owned; points = points }

  was : (c p : ℕ) → PointsFor l all c p → (PointsFor l es c p) ⊎ ((owner l k ≡ c) × (x.entry.body ≡ Pointer p))
  was c p w = ⊎_elim
      (λ (e : w.key ≡ k). (let same : w.winner_is ≡ x = cc (sym w.wins ∙ ap (λ j. winner_in j all) e ∙ won_here) in
      inr (ap (owner l) (sym e) ∙ w.owned, sym (ap (λ (y : PlacedEntry). y.entry.body) same) ∙ w.points)))
      (λ (ne : w.key ≢ k). inl (record { key = w.key; winner_is = w.winner_is; wins = sym (won_there w.key ne) ∙ w.wins; owned = w.owned; points = w.points }))
      (cases_eq w.key k)

  -- a core that doesn't own the key
  share_there : (c : ℕ) (share : Share) → (owner l k ≡ c → ⊥) → IsShare l es c share → IsShare l all c share
  share_there c share other is = record {
    others = is.others;
    known = λ j owned. subst (λ o. KnownAs o (known_at share.index j)) (sym (won_there j (ne j owned))) (is.known j owned);
    standing = λ j v owned. is.standing j v owned ∙ ap (option_map (λ (x : PlacedEntry). standing_with v x.core false)) (sym (named_front j v es xs (lacks j (ne j owned))));
    room = is.room;
    points = λ p t. kept c p (is.points p t);
    pointed = λ p w. ⊎_elim (λ old. is.pointed p old) (λ new. absurd (other new.0)) (was c p w);
  } where
    ne : (j : ℕ) → owner l j ≡ c → j ≡ k → ⊥
    ne j owned e = other (ap (owner l) (sym e) ∙ owned)

  -- the one that owns it
  module _ (old new : Share) (is : IsShare l es (owner l k) old) (enters : EntersAs old.index new.index k (opened_with x.entry.version x.entry.body ss)) (pointers : new.pointers.items ≡ old.pointers.items ++ option_to_list (pointer_of x.entry.body)) where
    abbrev of_key : KeyRecord
    of_key = opened_with x.entry.version x.entry.body ss

    any_pointer : (p : ℕ) → list_any (λ q. q == p) new.pointers.items ≡ (list_any (λ q. q == p) old.pointers.items || list_any (λ q. q == p) (option_to_list (pointer_of x.entry.body)))
    any_pointer p = ap (list_any (λ q. q == p)) pointers ∙ any_append (λ q. q == p) old.pointers.items (option_to_list (pointer_of x.entry.body))

    share_here : IsShare l all (owner l k) new
    share_here = record {
      others = λ j other. enters.change.others j (λ e. other (ap (owner l) e)) ∙ is.others j other;
      known = λ j owned. ⊎_elim
          (λ (e : j ≡ k). known_by x ss (winner_in j all) (known_at new.index j) (ap (λ n. winner_in n all) e ∙ won_here) (ap (known_at new.index) e ∙ enters.change.here))
          (λ (ne : j ≢ k). subst (λ o. KnownAs o (known_at new.index j)) (sym (won_there j ne)) (subst (KnownAs (winner_in j es)) (sym (enters.change.others j ne)) (is.known j owned)))
          (cases_eq j k);
      standing = λ j v owned. ⊎_elim
          (λ (e : j ≡ k). ap (λ o. standing_at (standing_of o) v) (ap (known_at new.index) e ∙ enters.change.here) ∙ opened_at ss v ∙ stand v
          ∙ ap (option_map (λ (x : PlacedEntry). standing_with v x.core false)) (sym (ap (λ n. named_in n v all) e ∙ named_behind k v es xs fresh)))
          (λ (ne : j ≢ k). ap (λ o. standing_at (standing_of o) v) (enters.change.others j ne) ∙ is.standing j v owned
          ∙ ap (option_map (λ (x : PlacedEntry). standing_with v x.core false)) (sym (named_front j v es xs (lacks j ne))))
          (cases_eq j k);
      room = λ j. ⊎_elim
          (λ (e : j ≡ k). ap (room_at new.index) e ∙ enters.none)
          (λ (ne : j ≢ k). enters.room j ne ∙ is.room j)
          (cases_eq j k);
      points = λ p t. ⊎_elim
          (λ before. kept (owner l k) p (is.points p before))
          (λ now. new_one (owner l k) p refl (pointed_by p x.entry.body now))
          (or_cases (list_any (λ q. q == p) old.pointers.items) (list_any (λ q. q == p) (option_to_list (pointer_of x.entry.body))) (sym (any_pointer p) ∙ t));
      pointed = λ p w. any_pointer p ∙ either (list_any (λ q. q == p) old.pointers.items) (list_any (λ q. q == p) (option_to_list (pointer_of x.entry.body)))
          (⊎_elim (λ before. inl (is.pointed p before)) (λ now. inr (points_to p x.entry.body now.1)) (was (owner l k) p w));
    }

  -- all cores
  pub shares_more : (old new : List Share) (f : Found) → f.key ≡ k → f.version ≡ x.entry.version → Gives l old new f x.entry.body ss → AreShares l es old → AreShares l all new
  shares_more old new f key version gives are c d lt = ⊎_elim
      (λ (e : c ≡ owner l f.key). (let got = gives.owner_gets d in
      let own_core : owner l k ≡ owner l f.key = ap (owner l) (sym key) in
      let index : EntersAs (slice_index_or old (owner l k) d).index (slice_index_or new (owner l k) d).index k (opened_with x.entry.version x.entry.body ss) =
      subst (λ (n : ℕ). EntersAs (slice_index_or old (owner l k) d).index (slice_index_or new (owner l k) d).index k (opened_with n x.entry.body ss)) version
      (subst (λ (n : ℕ). EntersAs (slice_index_or old (owner l n) d).index (slice_index_or new (owner l n) d).index n (opened_with f.version x.entry.body ss)) key got.index) in
      let pointers : (slice_index_or new (owner l k) d).pointers.items ≡ (slice_index_or old (owner l k) d).pointers.items ++ option_to_list (pointer_of x.entry.body) =
      subst (λ (n : ℕ). (slice_index_or new (owner l n) d).pointers.items ≡ (slice_index_or old (owner l n) d).pointers.items ++ option_to_list (pointer_of x.entry.body)) key got.pointers in
      let at : c ≡ owner l k = e ∙ sym own_core in
      subst (λ (n : ℕ). IsShare l all n (slice_index_or new n d)) (sym at)
      (share_here (slice_index_or old (owner l k) d) (slice_index_or new (owner l k) d) (subst (λ (n : ℕ). IsShare l es n (slice_index_or old n d)) at (are c d lt)) index pointers)))
      (λ (ne : c ≢ owner l f.key). subst (IsShare l all c) (sym (gives.others c d ne)) (share_there c (slice_index_or old c d) (λ e. ne (sym e ∙ ap (owner l) (sym key))) (are c d lt)))
      (cases_eq c (owner l f.key))

-- nothing was given yet
no_points : (l : Geometry) (c p : ℕ) → PointsFor l [] c p → ⊥
no_points l c p w = cc w.wins

pub shares_none : (l : Geometry) (shares : List Share) → length shares ≡ l.cores → AreEmpty shares → AreShares l [] shares
shares_none l shares count empty c d lt =
    let none = all_at IsEmpty shares c d empty (subst (λ (n : ℕ). c < n) (sym count) lt) in
    record {
      others = λ k other. none.known k;
      known = λ k owned. none.known k;
      standing = λ k v owned. ap (λ o. standing_at (standing_of o) v) (none.known k);
      room = none.room;
      points = λ p t. absurd (cc (sym t ∙ ap (list_any (λ q. q == p)) none.pointers));
      pointed = λ p w. absurd (no_points l c p w);
    }

pub spelled_none : (l : Geometry) (shares : List Share) → length shares ≡ l.cores → AreEmpty shares → AreSpelledShares l shares
spelled_none l shares count empty c d lt k r is =
    let none = all_at IsEmpty shares c d empty (subst (λ (n : ℕ). c < n) (sym count) lt) in
    absurd (cc (sym is ∙ none.known k))

-- one share was written
pub given_one : (l : Geometry) (old : List Share) (f : Found) (body : Body) (ss : List Standee) (o : ℕ) (before after : Share) → o ≡ owner l f.key → o < length old → before ≡ get_or old o before
    → EntersAs before.index after.index f.key (opened_with f.version body ss) → after.pointers.items ≡ before.pointers.items ++ option_to_list (pointer_of body) → Gives l old (set old o after) f body ss
given_one l old f body ss o before after own lt was index pointers = record {
  owner_gets = λ d. subst (λ (n : ℕ). Enters (get_or old n d) (get_or (set old o after) n d) f body ss) own
      (subst (λ (s : Share). Enters s (get_or (set old o after) o d) f body ss) (get_or_read old o before lt was d)
      (subst (λ (s : Share). Enters before s f body ss) (sym (get_or-set_same old o after d lt)) (record { index = index; pointers = pointers })));
  others = λ c d other. get_or-set_other old o c after d (λ e. other (e ∙ own));
}

-- words can spell what one core was given
pub spelled_more : (l : Geometry) (old new : List Share) (f : Found) (body : Body) (ss : List Standee) → HasSpelling (record { key = f.key; version = f.version; body = body }) → Gives l old new f body ss → AreSpelledShares l old → AreSpelledShares l new
spelled_more l old new f body ss spelled gives are c d lt k r is = ⊎_elim
    (λ (e : c ≡ owner l f.key).
    (let got = gives.owner_gets d in
    let here = subst (λ (n : ℕ). EntersAs (slice_index_or old n d).index (slice_index_or new n d).index f.key (opened_with f.version body ss)) (sym e) got.index in
    ⊎_elim
    (λ (same : k ≡ f.key). (let known : opened_with f.version body ss ≡ r = cc (sym here.change.here ∙ ap (known_at (slice_index_or new c d).index) (sym same) ∙ is) in
    subst (λ (q : KeyRecord). HasSpelling (record { key = k; version = q.version; body = q.body })) known (subst (λ (n : ℕ). HasSpelling (record { key = n; version = f.version; body = body })) (sym same) spelled)))
    (λ (ne : k ≢ f.key). are c d lt k r (sym (here.change.others k ne) ∙ is))
    (cases_eq k f.key)))
    (λ (ne : c ≢ owner l f.key). are c d lt k r (ap (λ (s : Share). known_at s.index k) (sym (gives.others c d ne)) ∙ is))
    (cases_eq c (owner l f.key))

-- what is a share of entries is one of them in another order of names
module _ (l : Geometry) (es xs : List PlacedEntry) (is : IsByName es xs) where
  points_same : (c p : ℕ) → PointsFor l xs c p → PointsFor l es c p
  points_same c p w = record { key = w.key; winner_is = w.winner_is; wins = sym (winner_same es xs is w.key) ∙ w.wins; owned = w.owned; points = w.points }

  points_back : (c p : ℕ) → PointsFor l es c p → PointsFor l xs c p
  points_back c p w = record { key = w.key; winner_is = w.winner_is; wins = winner_same es xs is w.key ∙ w.wins; owned = w.owned; points = w.points }

  pub shares_same : (shares : List Share) → AreShares l xs shares → AreShares l es shares
  shares_same shares are c d lt =
      let s = are c d lt in
      record {
        others = s.others;
        known = λ k owned. subst (λ o. KnownAs o (known_at (slice_index_or shares c d).index k)) (winner_same es xs is k) (s.known k owned);
        standing = λ k v owned. s.standing k v owned ∙ ap (option_map (λ (x : PlacedEntry). standing_with v x.core false)) (named_same es xs is k v);
        room = s.room;
        points = λ p t. points_same c p (s.points p t);
        pointed = λ p w. s.pointed p (points_back c p w);
      }

-- what is below a version is so in the list of standing entries
pub below_map : (l : Geometry) (n : ℕ) (fs : List Found) → AllByRecursion (λ f. f.version ≤ n) fs → AllByRecursion (λ s. s.version ≤ n) (map (standee_at l) fs)
below_map l n [] all = tt
below_map l n (f ∷ fs) all = (all.0, below_map l n fs all.1)

-- what judged entries give
pub judged_shares : (l : Geometry) (image : ℕ → ℕ) (xs : List PlacedEntry) → AreAgreed l image xs → AllSpell l image → (r : Result (Vec Share Global) RecoverError) → GivesShares l image xs r → Shares l image r
judged_shares l image xs agreed spell r given = by_result r given where
  first : damage l image ≡ winners_fault l image [] (winners_of xs)
  first = by_winners l image (all_entries l image) refl agreed.chunks (winners_fault l image [] (winners_of xs)) (winners_of xs) (sym agreed.clash) (winners_same (all_entries l image) xs agreed.all) refl

  by_result : (r : Result (Vec Share Global) RecoverError) → GivesShares l image xs r → Shares l image r
  by_result (Ok shares) given = (first ∙ given.0, spell, shares_same l (all_entries l image) xs agreed.all shares.items given.1)
  by_result (Err e) given = subst (λ (f : Option Fault). HasCause f e) (sym first) given
