-- Changes of the map at one key.
use Rattle.std.proofs.Common.{◌≡◌, ◌≢◌, ⊎_elim, ℕ, ◌+◌, ◌-◌, ◌*◌, ◌<◌, ◌≤◌, ◌==◌, ◌&&◌, true, false, List, Option, Some, None, is_none, option_map, refl, sym, ◌∙◌, ap, subst, arith}
use Rattle.std.specs.List.{sum_by}
use Rattle.std.specs.Option.{unwrap_or}
use Rattle.std.specs.Map.{values_of, keys_of, remove_entry}
use Rattle.std.specs.BTreeMap.{is_at, insert_entry}
use Rattle.std.specs.Ordering.{nat_cmp}
use Rattle.std.specs.Cmp.{unsigned_tied, nat_cmp_total}
use Rattle.std.specs.List.Sorted.{IsStrictlySortedBy}
use Rattle.std.proofs.lemmas.Map.Entries.{sum_by-insert_entry, sum_by-remove_entry}
use Rattle.std.proofs.lemmas.Bool.{ne_eqb, eqb-true}
use Rattle.std.specs.Prelude.{Result, Ok, Err, IfOk, OnOk, OnErr}
use Rattle.std.proofs.lemmas.Bool.{cases_eq}
use Rattle.log_entry.specs.declared.entry.EntryName.{EntryName}
use Rattle.core_index.specs.declared.types.TheConstants.{NAMES_OF_CHANGE}
use Rattle.core_index.specs.Records.{KeyRecord, Awaits, with_told, told_in, count_untold, standing_of}
use Rattle.core_index.specs.Slots.{Place, mortal, TellsOne}
use Rattle.core_index.specs.Index.{place_at, known_in, room_in, known_at, room_at, mortal_in, all_mortal, untold_in, untold_of, all_untold, Step, Changes, SameRoom, ToldAt, Forgets, GivesBack}
use Rattle.core_index.proofs.StandingLaws.{fewer_untold}

pub apart : (k q : ℕ) → q ≢ k → is_at (nat_cmp k) q ≡ false
apart k q ne = unsigned_tied k q ∙ ne_eqb k q (λ e. ne (sym e))

count_in : (o : Option Place) → unwrap_or (option_map mortal o) 0 ≡ mortal_in o
count_in None = refl
count_in (Some p) = refl

untold_count : (o : Option Place) → unwrap_or (option_map untold_in o) 0 ≡ untold_of o
untold_count None = refl
untold_count (Some p) = refl

-- a key that is put in, or gets another value
pub step_insert : (es fs : List (ℕ × Place)) (k : ℕ) (w : Place) → IsStrictlySortedBy nat_cmp (keys_of es) → fs ≡ insert_entry nat_cmp es k w → place_at fs k ≡ Some w → ((q : ℕ) → is_at (nat_cmp k) q ≡ false → place_at fs q ≡ place_at es q) → Step es fs k (Some w)
step_insert es fs k w sorted is here others = record {
  here = here;
  others = λ j ne. others j (apart k j ne);
  count =
      let sum = sum_by-insert_entry mortal nat_cmp_total es k w sorted in
      let a : all_mortal fs ≡ sum_by mortal (values_of (insert_entry nat_cmp es k w)) = ap all_mortal is in
      let b = count_in (place_at es k) in
      omega (arith, sum, a, b);
  untold =
      let sum = sum_by-insert_entry untold_in nat_cmp_total es k w sorted in
      let a : all_untold fs ≡ sum_by untold_in (values_of (insert_entry nat_cmp es k w)) = ap all_untold is in
      let b = untold_count (place_at es k) in
      omega (arith, sum, a, b);
}

-- a key that is taken out
pub step_remove : (es fs : List (ℕ × Place)) (k : ℕ) → fs ≡ remove_entry (is_at (nat_cmp k)) es → place_at fs k ≡ None → ((q : ℕ) → is_at (nat_cmp k) q ≡ false → place_at fs q ≡ place_at es q) → Step es fs k None
step_remove es fs k is here others = record {
  here = here;
  others = λ j ne. others j (apart k j ne);
  count =
      let sum = sum_by-remove_entry mortal (is_at (nat_cmp k)) es in
      let a : all_mortal fs ≡ sum_by mortal (values_of (remove_entry (is_at (nat_cmp k)) es)) = ap all_mortal is in
      let b = count_in (place_at es k) in
      omega (arith, sum, a, b);
  untold =
      let sum = sum_by-remove_entry untold_in (is_at (nat_cmp k)) es in
      let a : all_untold fs ≡ sum_by untold_in (values_of (remove_entry (is_at (nat_cmp k)) es)) = ap all_untold is in
      let b = untold_count (place_at es k) in
      omega (arith, sum, a, b);
}

-- nothing changed
pub step_none : (es : List (ℕ × Place)) (k : ℕ) → Step es es k (place_at es k)
step_none es k = record { here = refl; others = λ j ne. refl; count = refl; untold = refl }

pub on_ok : {T E P Q : Type 0} (r : Result T E) → (P → Q) → OnOk r P → OnOk r Q
on_ok (Ok x) f p = f p
on_ok (Err e) f p = tt

-- what holds either way
pub either_way : {T E P : Type 0} (r : Result T E) → OnOk r P → OnErr r P → P
either_way (Ok x) p q = p
either_way (Err e) p q = q

pub if_ok_is : {T E P : Type 0} (r : Result T E) → P → IfOk r (λ x. P)
if_ok_is (Ok x) p = p
if_ok_is (Err e) p = tt

pub err_is : {T E P : Type 0} (r : Result T E) → P → OnErr r P
err_is (Ok x) p = tt
err_is (Err e) p = p

pub on_err : {T E P Q : Type 0} (r : Result T E) → (P → Q) → OnErr r P → OnErr r Q
on_err (Ok x) f p = tt
on_err (Err e) f p = f p

-- What a step says of records and room.

pub step_known : (es fs : List (ℕ × Place)) (k : ℕ) (now : Option Place) → Step es fs k now → Changes es fs k (known_in now)
step_known es fs k now step = record { here = ap known_in step.here; others = λ j ne. ap known_in (step.others j ne) }

pub step_room : (es fs : List (ℕ × Place)) (k : ℕ) (now : Option Place) → Step es fs k now → room_in now ≡ room_at es k → SameRoom es fs
step_room es fs k now step same = λ j. ⊎_elim (λ (e : j ≡ k). ap (room_at fs) e ∙ ap room_in step.here ∙ same ∙ ap (room_at es) (sym e)) (λ (ne : j ≢ k). ap room_in (step.others j ne)) (cases_eq j k)

-- who is told is one less to be told
fewer_of : (v w : Place) (home n : ℕ) → TellsOne v w home n → untold_in w + 1 ≡ untold_in v
fewer_of v w home n one =
    let waits = one.waited in
    let was : v.known ≡ Some waits.found = waits.has in
    let now : untold_in w ≡ count_untold (with_told waits.found.standing n) = ap untold_in one.told ∙ ap (λ (o : Option KeyRecord). count_untold (standing_of (option_map (told_in n) o))) was in
    let before : untold_in v ≡ count_untold waits.found.standing = ap (λ (o : Option KeyRecord). count_untold (standing_of o)) was in
    let less = fewer_untold waits.found.standing n home waits.stands in
    omega (arith, now, before, less)

pub told_at : (es fs : List (ℕ × Place)) (home : ℕ) (n : EntryName) (v w : Place) → place_at es n.key ≡ Some v → Step es fs n.key (Some w) → TellsOne v w home n.version → ToldAt es fs home n
told_at es fs home n v w at step one =
    let known : known_at es n.key ≡ v.known = ap known_in at in
    let room : room_at es n.key ≡ v.room = ap room_in at in
    let now : known_at fs n.key ≡ w.known = ap known_in step.here in
    record {
      tells = record {
        waited = subst (λ (o : Option KeyRecord). Awaits o home n.version) (sym known) one.waited;
        change = record { here = now ∙ ap (λ (p : Place). p.known) one.told ∙ ap (option_map (told_in n.version)) (sym known); others = λ j ne. ap known_in (step.others j ne) };
        room = step_room es fs n.key (Some w) step (ap (λ (p : Place). p.room) one.told ∙ sym room);
      };
      others = step.others;
      waits = λ v' h after.
          let both = one.others v' h (subst (λ (o : Option KeyRecord). Awaits o h v') now after) in
          (both.0, subst (λ (o : Option KeyRecord). Awaits o h v') (sym known) both.1);
      fewer =
          let sum = step.untold in
          let a : untold_of (place_at es n.key) ≡ untold_in v = ap untold_of at in
          let e = fewer_of v w home n.version one in
          omega (arith, sum, a, e);
    }

pub told_mortal : (es fs : List (ℕ × Place)) (k : ℕ) (v w : Place) → place_at es k ≡ Some v → Step es fs k (Some w) → mortal w ≤ mortal v → all_mortal fs ≤ all_mortal es
told_mortal es fs k v w at step le = let sum = step.count in let a : mortal_in (place_at es k) ≡ mortal v = ap mortal_in at in omega (arith, sum, a, le)

room_mortal : (o : Option Place) → NAMES_OF_CHANGE * room_in o ≤ mortal_in o
room_mortal None = omega arith
room_mortal (Some p) = omega arith

pub forgets_keeping : (es fs : List (ℕ × Place)) (k : ℕ) → Step es fs k (Some (record { known = None; room = room_at es k })) → Forgets es fs k
forgets_keeping es fs k step = record {
  here = ap known_in step.here;
  others = step.others;
  room = step_room es fs k (Some (record { known = None; room = room_at es k })) step refl;
  count = let sum = step.count in let le = room_mortal (place_at es k) in omega (arith, sum, le);
  untold = let sum = step.untold in omega (arith, sum);
}

pub forgets_all : (es fs gs : List (ℕ × Place)) (k : ℕ) → Step es fs k (Some (record { known = None; room = room_at es k })) → Step fs gs k None → room_at es k ≡ 0 → Forgets es gs k
forgets_all es fs gs k first second none =
    let a = forgets_keeping es fs k first in
    let room : room_in None ≡ room_at fs k = sym (ap room_in first.here ∙ none) in
    record {
      here = ap known_in second.here;
      others = λ j ne. second.others j ne ∙ a.others j ne;
      room = λ j. step_room fs gs k None second room j ∙ a.room j;
      count = let sum = second.count in let le = a.count in omega (arith, sum, le);
      untold = let sum = second.untold in let le = a.untold in omega (arith, sum, le);
    }

-- Room that is given back.

lowered : (o : Option Place) → 0 < room_in o → mortal_in (Some (record { known = known_in o; room = room_in o - 1 })) + NAMES_OF_CHANGE ≡ mortal_in o
lowered None some = absurd (omega (arith, some))
lowered (Some p) some = omega (arith, some)

-- what is to be told of a key is so whatever its room
untold_there : (o : Option Place) (n : ℕ) → untold_of (Some (record { known = known_in o; room = n })) ≡ untold_of o
untold_there None n = refl
untold_there (Some p) n = refl

pub bare_is : (o : Option KeyRecord) (n : ℕ) → (is_none o && (n == 0)) ≡ true → (o ≡ None) × (n ≡ 0)
bare_is None n is = (refl, eqb-true n 0 is)
bare_is (Some r) n is = absurd (cc is)

pub gives_keeping : (es fs : List (ℕ × Place)) (k : ℕ) → 0 < room_at es k → Step es fs k (Some (record { known = known_at es k; room = room_at es k - 1 })) → GivesBack es fs k
gives_keeping es fs k some step = record {
  here = ap known_in step.here;
  room = let now : room_at fs k ≡ room_at es k - 1 = ap room_in step.here in omega (arith, now, some);
  others = step.others;
  count = let sum = step.count in let one = lowered (place_at es k) some in omega (arith, sum, one);
  untold = let sum = step.untold in let same = untold_there (place_at es k) (room_at es k - 1) in omega (arith, sum, same);
}

pub gives_all : (es fs gs : List (ℕ × Place)) (k : ℕ) → 0 < room_at es k → Step es fs k (Some (record { known = known_at es k; room = room_at es k - 1 })) → Step fs gs k None → known_at es k ≡ None → room_at es k - 1 ≡ 0 → GivesBack es gs k
gives_all es fs gs k some first second none last =
    let a = gives_keeping es fs k some first in
    record {
      here = ap known_in second.here ∙ sym none;
      room = let now : room_at gs k ≡ 0 = ap room_in second.here in omega (arith, now, last, some);
      others = λ j ne. second.others j ne ∙ a.others j ne;
      count = let sum = second.count in let le = a.count in omega (arith, sum, le);
      untold = let sum = second.untold in let le = a.untold in omega (arith, sum, le);
    }

-- one step of a key after another
pub step_over : (es fs gs : List (ℕ × Place)) (k : ℕ) (p : Place) (now : Option Place) → Step es fs k (Some p) → Step fs gs k now → Step es gs k now
step_over es fs gs k p now first second = record {
  here = second.here;
  others = λ j ne. second.others j ne ∙ first.others j ne;
  count =
      let a = first.count in
      let b = second.count in
      let at : mortal_in (place_at fs k) ≡ mortal p = ap mortal_in first.here in
      omega (arith, a, b, at);
  untold =
      let a = first.untold in
      let b = second.untold in
      let at : untold_of (place_at fs k) ≡ untold_in p = ap untold_of first.here in
      omega (arith, a, b, at);
}
