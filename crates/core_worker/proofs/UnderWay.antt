-- What a worker goes on with when it stops or winds down, and what room it pledges then.
use Rattle.std.proofs.Common.{◌≡◌, ◌⊎◌, inl, inr, ⊎_elim, ℕ, min, ◌≤◌, ◌||◌, Bool, true, false, cond, Option, Some, None, refl, sym, ◌∙◌, ap, subst, arith}
use Rattle.chunk_map.specs.Layouts.{payload_lines}
use Rattle.core_log.specs.Log.{room_of}
use Rattle.lazy_alloc.specs.Sets.{free_chunk_count}
use Rattle.core_room.specs.declared.supply.Supply.{Supply}
use Rattle.core_room.specs.RoomRule.{KeepsRoom, pledged}
use Rattle.core_worker.specs.declared.types.Cleaning.{Cleaning}
use Rattle.core_worker.specs.declared.types.Cleaning.TheVariants.{Nothing, Copying, Doomed}
use Rattle.core_worker.specs.declared.worker.Worker.{Worker}
use Rattle.core_worker.specs.OwnPlaces.{own}
use Rattle.std.specs.Prelude.{option_map}
use Rattle.std.proofs.Math.Nat.{le-min, min-le_left, min-le_right}
use Rattle.log_standing.specs.Tallies.{TallyState}
use Rattle.log_cleaner.specs.Tallied.{KeepsTally}
use Rattle.log_standing.specs.declared.types.Amount.{Amount}
use Rattle.log_standing.specs.NameCounts.{StandingState}
use Rattle.log_cleaner.specs.declared.types.Victim.{Victim}
use Rattle.core_worker.specs.Supplies.{supply_of, room_for, rest, under_way, counted_by, left_in, no_more_than, KeepsRule, HasKeptRoom}
use Rattle.core_room.specs.Lengths.{lines_to_copy}

-- where none is under way, none is whatever else becomes of the worker but that it goes on again
pub still_nothing : (c : Cleaning) (stopped winds stopped' winds' : Bool) → (stopped' ≡ false → stopped ≡ false) → (winds' ≡ false → winds ≡ false) → cond (stopped || winds) Nothing c ≡ Nothing → cond (stopped' || winds') Nothing c ≡ Nothing
still_nothing c stopped winds true winds' runs works none = refl
still_nothing c stopped winds false true runs works none = refl
still_nothing c stopped winds false false runs works none =
    let way : cond (stopped || winds) Nothing c ≡ c = (λ i. cond (runs refl i || works refl i) Nothing c) in
    sym way ∙ none

pub none_way : (w : Worker) → w.cleaning ≡ Nothing → under_way w ≡ Nothing
none_way w none = (λ i. cond (w.stopped || w.winds_down) Nothing (counted_by (left_in w.standing) (none i))) ∙ by (w.stopped || w.winds_down) where
  by : (b : Bool) → cond b Nothing Nothing ≡ Nothing
  by true = refl
  by false = refl

-- who winds down goes on with nothing
pub wound_way : (w : Worker) → under_way (record w { winds_down = true }) ≡ Nothing
wound_way w = by w.stopped where
  by : (b : Bool) → cond (b || true) Nothing (counted_by (left_in w.standing) w.cleaning) ≡ Nothing
  by true = refl
  by false = refl

pub nothing_raw : (o : Option Amount) (c : Cleaning) → counted_by o c ≡ Nothing → c ≡ Nothing
nothing_raw o Nothing none = refl
nothing_raw o (Copying v first) none = absurd (cc none)
nothing_raw o (Doomed j) none = absurd (cc none)

-- nothing is nothing, whatever is counted
pub counted_nothing : (a b : Option Amount) (c : Cleaning) → counted_by a c ≡ Nothing → counted_by b c ≡ Nothing
counted_nothing a b Nothing none = refl
counted_nothing a b (Copying v first) none = absurd (cc none)
counted_nothing a b (Doomed j) none = absurd (cc none)

-- where none is under way, none is whatever names stand
pub none_standing : (w : Worker) (st : StandingState) → under_way w ≡ Nothing → under_way (record w { standing = st }) ≡ Nothing
none_standing w st none = by (w.stopped || w.winds_down) none where
  by : (b : Bool) → cond b Nothing (counted_by (left_in w.standing) w.cleaning) ≡ Nothing → cond b Nothing (counted_by (left_in st) w.cleaning) ≡ Nothing
  by true none = refl
  by false none = counted_nothing (left_in w.standing) (left_in st) w.cleaning none

pub fewer_lines : (a b c d : ℕ) → a ≤ c → b ≤ d → lines_to_copy a b ≤ lines_to_copy c d
fewer_lines a b c d x y = omega (arith, x, y)

-- No more is left than is counted, and a cleaning of which less is left pledges less.
pub left_fewer : (o : Option Amount) (v : Victim) → ((no_more_than o v).entries ≤ v.entries) × ((no_more_than o v).words ≤ v.words)
left_fewer None v = (omega arith, omega arith)
left_fewer (Some a) v = (min-le_left v.entries a.entries, min-le_left v.words a.words)

pub left_chunk : (o : Option Amount) (v : Victim) → (no_more_than o v).chunk ≡ v.chunk
left_chunk None v = refl
left_chunk (Some a) v = refl

pub counted_rest : (o : Option Amount) (c : Cleaning) → rest (counted_by o c) ≤ rest c
counted_rest o Nothing = omega arith
counted_rest o (Copying v first) = let less = left_fewer o v in fewer_lines (no_more_than o v).entries (no_more_than o v).words v.entries v.words less.0 less.1
counted_rest o (Doomed j) = omega arith

-- where the names that stand count the same, so it is
pub same_counted : (w : Worker) (st : StandingState) → st.tally ≡ w.standing.tally → under_way (record w { standing = st }) ≡ under_way w
same_counted w st same = λ i. cond (w.stopped || w.winds_down) Nothing (counted_by (option_map (λ (t : TallyState). t.left) (same i)) w.cleaning)

-- A cleaning that pledges no more than another, and asks no more of the room rule.
pub record Pledges (c d : Cleaning) : Type 0 where
  pub lines : rest c ≤ rest d
  pub rule : (s : Supply) → KeepsRule d s → KeepsRule c s

pub pledges_itself : (c d : Cleaning) → c ≡ d → Pledges c d
pledges_itself c d same = subst (λ (x : Cleaning). Pledges x d) (sym same) (record { lines = omega arith; rule = λ s k. k })

counted_fewer : (old new : StandingState) → KeepsTally old new → (v : Victim) → ((no_more_than (left_in new) v).entries ≤ (no_more_than (left_in old) v).entries) × ((no_more_than (left_in new) v).words ≤ (no_more_than (left_in old) v).words)
counted_fewer old new keeps v = by old.tally refl where
  by : (o : Option TallyState) → old.tally ≡ o → ((no_more_than (left_in new) v).entries ≤ (no_more_than (left_in old) v).entries) × ((no_more_than (left_in new) v).words ≤ (no_more_than (left_in old) v).words)
  by None e = subst (λ (o : Option TallyState). ((no_more_than (left_in new) v).entries ≤ (no_more_than (option_map (λ (t : TallyState). t.left) o) v).entries) × ((no_more_than (left_in new) v).words ≤ (no_more_than (option_map (λ (t : TallyState). t.left) o) v).words)) (sym e) (left_fewer (left_in new) v)
  by (Some t) e =
      let less = keeps.less t e in
      let a = less.entries in
      let b = less.words in
      subst (λ (o : Option TallyState). ((no_more_than (left_in new) v).entries ≤ (no_more_than (option_map (λ (t : TallyState). t.left) o) v).entries) × ((no_more_than (left_in new) v).words ≤ (no_more_than (option_map (λ (t : TallyState). t.left) o) v).words)) (sym e)
      (subst (λ (o : Option TallyState). ((no_more_than (option_map (λ (t : TallyState). t.left) o) v).entries ≤ min v.entries t.left.entries) × ((no_more_than (option_map (λ (t : TallyState). t.left) o) v).words ≤ min v.words t.left.words)) (sym less.is) (
        le-min (min-le_left v.entries less.tally.left.entries) (let c = min-le_right v.entries less.tally.left.entries in omega (arith, a, c)),
        le-min (min-le_left v.words less.tally.left.words) (let c = min-le_right v.words less.tally.left.words in omega (arith, b, c)),
      ))

-- names told dead make it pledge less
pub counted_pledges : (old new : StandingState) → KeepsTally old new → (c : Cleaning) → Pledges (counted_by (left_in new) c) (counted_by (left_in old) c)
counted_pledges old new keeps Nothing = record { lines = omega arith; rule = λ s k. k }
counted_pledges old new keeps (Copying v true) = record {
  lines = (let less = counted_fewer old new keeps v in fewer_lines (no_more_than (left_in new) v).entries (no_more_than (left_in new) v).words (no_more_than (left_in old) v).entries (no_more_than (left_in old) v).words less.0 less.1);
  rule = λ s k. k;
}
counted_pledges old new keeps (Copying v false) = record {
  lines = (let less = counted_fewer old new keeps v in fewer_lines (no_more_than (left_in new) v).entries (no_more_than (left_in new) v).words (no_more_than (left_in old) v).entries (no_more_than (left_in old) v).words less.0 less.1);
  rule = λ s k. k;
}
counted_pledges old new keeps (Doomed j) = record { lines = omega arith; rule = λ s k. k }

pub standing_pledges : (w : Worker) (st : StandingState) → KeepsTally w.standing st → Pledges (under_way (record w { standing = st })) (under_way w)
standing_pledges w st keeps = by (w.stopped || w.winds_down) where
  by : (b : Bool) → Pledges (cond b Nothing (counted_by (left_in st) w.cleaning)) (cond b Nothing (counted_by (left_in w.standing) w.cleaning))
  by true = record { lines = omega arith; rule = λ s k. k }
  by false = counted_pledges w.standing st keeps w.cleaning

-- less is pledged, and no cleaning is under way any more
less_pledged : (c : Cleaning) (s t : Supply) → t.own_lines ≤ s.own_lines → t.rest_lines ≡ 0 → t.open_lines ≡ s.open_lines → t.free_chunks ≡ s.free_chunks → KeepsRule c s → KeepsRoom t
less_pledged Nothing s t own none lines chunks k = ⊎_elim (λ a. inl (omega (arith, a, own, none, lines))) (λ a. inr (omega (arith, a, chunks))) k
less_pledged (Copying v true) s t own none lines chunks k = ⊎_elim (λ r. ⊎_elim (λ a. inl (omega (arith, a, own, none, lines))) (λ a. inr (omega (arith, a, chunks))) r) (λ r. inl (let a = r.0 in omega (arith, a, own, none, lines))) k
less_pledged (Copying v false) s t own none lines chunks k = ⊎_elim (λ a. inl (omega (arith, a, own, none, lines))) (λ a. inr (omega (arith, a, chunks))) k
less_pledged (Doomed j) s t own none lines chunks k = ⊎_elim (λ a. inl (omega (arith, a, own, none, lines))) (λ a. inr (omega (arith, a, chunks))) k

-- less is pledged, and nothing else differs
fewer : (s t : Supply) → t.own_lines ≤ s.own_lines → t.rest_lines ≤ s.rest_lines → t.open_lines ≡ s.open_lines → t.free_chunks ≡ s.free_chunks → KeepsRoom s → KeepsRoom t
fewer s t own rest lines chunks k = ⊎_elim (λ a. inl (omega (arith, a, own, rest, lines))) (λ a. inr (omega (arith, a, chunks))) k

pub room_fewer : (w u : Worker) → own u.places.items ≤ own w.places.items → free_chunk_count u.allocator ≡ free_chunk_count w.allocator → u.log ≡ w.log → Pledges (under_way u) (under_way w) ⊎ (under_way u ≡ Nothing) → HasKeptRoom w → HasKeptRoom u
room_fewer w u less chunks log way h = ⊎_elim
    (λ same. same.rule (supply_of u) (by (under_way w) h same.lines))
    (λ none. subst (λ (c : Cleaning). KeepsRule c (supply_of u)) (sym none) (less_pledged (under_way w) (supply_of w) (supply_of u) less (ap rest none) (ap room_of log) chunks h))
    way
  where
    by : (c : Cleaning) → KeepsRule c (supply_of w) → rest (under_way u) ≤ rest (under_way w) → KeepsRule c (supply_of u)
    by Nothing k r = fewer (supply_of w) (supply_of u) less r (ap room_of log) chunks k
    by (Copying v true) k r = (let o = ap room_of log in ⊎_elim (λ a. inl (fewer (supply_of w) (supply_of u) less r o chunks a)) (λ a. inr ((let a0 = a.0 in omega (arith, a0, less, o)), (let a1 = a.1 in omega (arith, a1, chunks)))) k)
    by (Copying v false) k r = fewer (supply_of w) (supply_of u) less r (ap room_of log) chunks k
    by (Doomed j) k r = fewer (supply_of w) (supply_of u) less r (ap room_of log) chunks k

pub room_less : (w u : Worker) → own u.places.items ≤ own w.places.items → free_chunk_count u.allocator ≡ free_chunk_count w.allocator → u.log ≡ w.log → (under_way u ≡ under_way w) ⊎ (under_way u ≡ Nothing) → HasKeptRoom w → HasKeptRoom u
room_less w u less chunks log way h = room_fewer w u less chunks log (⊎_elim (λ same. inl (pledges_itself (under_way u) (under_way w) same)) (λ none. inr none) way) h

-- and where the names that stand count the same
pub room_counted : (w : Worker) (st : StandingState) → st.tally ≡ w.standing.tally → HasKeptRoom w → HasKeptRoom (record w { standing = st })
room_counted w st same h = room_less w (record w { standing = st }) (omega arith) refl refl (inl (same_counted w st same)) h

-- the rule is kept by who winds down, or perhaps
pub room_wound : (w : Worker) → HasKeptRoom w → HasKeptRoom (record w { winds_down = true })
room_wound w h = room_less w (record w { winds_down = true }) (omega arith) refl refl (inr (wound_way w)) h

pub room_winds : (w : Worker) (b : Bool) → (b ≡ false → w.winds_down ≡ false) → HasKeptRoom w → HasKeptRoom (record w { winds_down = b })
room_winds w true works h = room_wound w h
room_winds w false works h = subst (λ (b : Bool). HasKeptRoom (record w { winds_down = b })) (works refl) h

-- a leader is told of the same room
pub room_same : (w : Worker) (st : StandingState) (winds : Bool) → under_way (record w { standing = st; winds_down = winds }) ≡ under_way w → room_for (record w { standing = st; winds_down = winds }) ≡ room_for w
room_same w st winds same = λ i. record {
  open_lines = room_of w.log;
  free_chunks = free_chunk_count w.allocator;
  pledged_lines = pledged (record { free_chunks = free_chunk_count w.allocator; open_lines = room_of w.log; own_lines = own w.places.items; rest_lines = rest (same i) });
  payload_lines = payload_lines w.log.layout;
}

-- and where the names count the same
pub told_same : (w : Worker) (st : StandingState) → st.tally ≡ w.standing.tally → room_for (record w { standing = st }) ≡ room_for w
told_same w st same = room_same w st w.winds_down (same_counted w st same)
