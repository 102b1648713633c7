-- A place is freed: what is left of the order.
use Rattle.std.proofs.Common.{◌≡◌, ◌≢◌, ◌⊎◌, inl, inr, ⊎_elim, ℕ, ◌+◌, ◌<◌, ◌≤◌, Bool, true, false, cond, List, [], ◌∷◌, length, Option, Some, None, refl, sym, ◌∙◌, ap, subst, arith}
use Rattle.std.specs.List.{filter}
use Rattle.std.proofs.lemmas.Bool.{cases_eq}
use Rattle.log_entry.specs.Spelling.{HasSpelling}
use Rattle.conflict_queue.specs.declared.types.Held.{Held}
use Rattle.core_index.specs.Index.{known_at}
use Rattle.core_index.specs.Records.{Awaits, last_of, standing_of, standing_at, block_of, is_forgettable}
use Rattle.core_index.specs.declared.types.StandingEntry.{StandingEntry}
use Rattle.group_laws.specs.declared.types.Block.{Block}
use Rattle.group_laws.specs.declared.types.Pending.{Pending}
use Rattle.group_laws.specs.Places.{Place, core_of, owner}
use Rattle.group_laws.specs.MemberViews.{View}
use Rattle.core_worker.specs.declared.types.Place.TheVariants.{Free}
use Rattle.core_worker.specs.declared.types.Place as places
use Rattle.core_worker.specs.declared.worker.Worker.{Worker}
use Rattle.core_worker.specs.OwnPlaces.{place_at, key_in, is_busy, Replaces}
use Rattle.core_worker.specs.Refusals.{HasAnswerRoom}
use Rattle.core_worker.specs.Beginning.{HoldsAside}
use Rattle.core_worker.specs.Order.{PointsAt, unanswered, MayLeadStopped, InOrder}
use Rattle.core_worker.specs.StandingTies.{KnowsDead, NamesAgree, most_names}
use Rattle.core_worker.proofs.Serving.{count_with, one_in, hands}
use Rattle.core_worker.proofs.Posts.{busy_by, busy_has}
use Rattle.core_worker.proofs.Freeing.{Frees}

-- what else they have in common, and what is left of the key itself
pub record FreesInOrder (p : Place) (m key : ℕ) (v u : View) (w x : Worker) : Type 0 where
  pub block : (k : ℕ) → k ≢ key → block_of (known_at x.index k) ≡ block_of (known_at w.index k)
  pub forgets : (k : ℕ) → k ≢ key → is_forgettable (known_at x.index k) ≡ is_forgettable (known_at w.index k)
  pub last : (k : ℕ) (q : Pending) → k ≢ key → v.pending k ≡ Some q → u.last k ≡ v.last k
  pub heard : (k n : ℕ) → Awaits (known_at x.index k) (core_of p m) n → ⊥
  pub told : (k n : ℕ) → u.present k n ≡ None → u.told k n ≡ false
  pub versions : (k n : ℕ) (s : StandingEntry) → standing_at (standing_of (known_at x.index k)) n ≡ Some s → n ≤ last_of (known_at x.index k)
  pub mine : (k n : ℕ) (s : StandingEntry) → standing_at (standing_of (known_at x.index k)) n ≡ Some s → owner p k ≡ m
  pub single : (q : ℕ) (b : Block) → u.blocks q ≡ Some b → b.key ≡ key → (block_of (known_at x.index key) ≡ Some q) ⊎ PointsAt (u.pending key) q
  pub distinct : (q : ℕ) → PointsAt (u.pending key) q → block_of (known_at x.index key) ≡ Some q → ⊥
  pub next : (q : Pending) → u.pending key ≡ Some q → (q.entry.version ≡ u.last key + 1) × HasSpelling q.entry
  pub answers : HasAnswerRoom (unanswered x) x
  pub hand : x.winds_down ≡ false → x.in_hand ≡ None
  pub stops : x.stopped ≡ true → MayLeadStopped x.leading
  pub agrees : NamesAgree p m u.kept u.present u.told u.dead
  pub log : x.stopped ≡ false → x.winds_down ≡ false → KnowsDead m u.kept u.present u.told u.dead x.standing
  pub names : x.stopped ≡ false → x.winds_down ≡ false → most_names ≤ x.standing.room

module _ (p : Place) (m key slot : ℕ) (v u : View) (w x : Worker) (H : HoldsAside p m v w) (was : key_in (place_at w.places.items slot) ≡ Some key) (F : Frees p m key slot v u w x) (O : InOrder p m v w) (G : FreesInOrder p m key v u w x) where
  busy_then : (k : ℕ) → is_busy x.places.items k ≡ true → (k ≢ key) × (is_busy w.places.items k ≡ true)
  busy_then k busy =
      let at = busy_has x.places.items k busy in
      let ne : at.0 ≢ slot = λ same. (let both : None ≡ Some k = sym (ap key_in F.places.here) ∙ ap (λ (n : ℕ). key_in (place_at x.places.items n)) (sym same) ∙ at.2 in cc both) in
      let there : key_in (place_at w.places.items at.0) ≡ Some k = ap key_in (sym (F.places.others at.0 ne)) ∙ at.2 in
      (λ same. ne (H.apart at.0 slot k there (was ∙ ap Some (sym same))), busy_by w.places.items k at.0 there)

  pub freed_order : InOrder p m u x
  freed_order = record {
    owned = λ q b has. O.owned q b (F.blocks q b has);
    single = λ q b has. ⊎_elim
        (λ same. subst (λ (k : ℕ). (block_of (known_at x.index k) ≡ Some q) ⊎ PointsAt (u.pending k) q) (sym same) (G.single q b has same))
        (λ ne. ⊎_elim (λ is. inl (G.block b.key ne ∙ is)) (λ points. inr (subst (λ (o : Option Pending). PointsAt o q) (sym (F.pending b.key ne)) points)) (O.single q b (F.blocks q b has)))
        (cases_eq b.key key);
    distinct = λ k q points is. ⊎_elim
        (λ same. G.distinct q (subst (λ (n : ℕ). PointsAt (u.pending n) q) same points) (ap (λ (n : ℕ). block_of (known_at x.index n)) (sym same) ∙ is))
        (λ ne. O.distinct k q (subst (λ (o : Option Pending). PointsAt o q) (F.pending k ne) points) (sym (G.block k ne) ∙ is))
        (cases_eq k key);
    heard = G.heard;
    told = G.told;
    agrees = G.agrees;
    log = G.log;
    names = G.names;
    versions = G.versions;
    mine = G.mine;
    next = λ k q has. ⊎_elim
        (λ same. (G.next q (ap u.pending (sym same) ∙ has)).0 ∙ ap (λ (n : ℕ). u.last n + 1) (sym same))
        (λ ne. let before = sym (F.pending k ne) ∙ has in O.next k q before ∙ ap (λ (n : ℕ). n + 1) (sym (G.last k q ne before)))
        (cases_eq k key);
    spelled = λ k q has. ⊎_elim
        (λ same. (G.next q (ap u.pending (sym same) ∙ has)).1)
        (λ ne. O.spelled k q (sym (F.pending k ne) ∙ has))
        (cases_eq k key);
    recalls = λ k own busy none. let b = busy_then k busy in G.forgets k b.0 ∙ O.recalls k own b.1 (sym (F.pending k b.0) ∙ none);
    answers = G.answers;
    hand = G.hand;
    stops = G.stops;
  }

-- a change less, and an answer more
pub room_let_go : (w x : Worker) (slot key : ℕ) → key_in (place_at w.places.items slot) ≡ Some key → slot < length w.places.items → Replaces w.places.items x.places.items slot Free → x.queue ≡ w.queue → x.in_hand ≡ w.in_hand
    → ((n : ℕ) → HasAnswerRoom (n + 1) w → HasAnswerRoom n x) → HasAnswerRoom (unanswered w) w → HasAnswerRoom (unanswered x) x
room_let_go w x slot key was lt R queue hand room had =
    let all = count_with w.places.items x.places.items slot Free R lt in
    let one : one_in (place_at w.places.items slot) ≡ 1 = taken (place_at w.places.items slot) was in
    let q : length x.queue ≡ length w.queue = ap (λ (hs : List Held). length hs) queue in
    let h : hands x.in_hand ≡ hands w.in_hand = ap hands hand in
    room (unanswered x) (omega (arith, had, all, one, q, h))
  where
    taken : (y : places.Place) → key_in y ≡ Some key → one_in y ≡ 1
    taken Free e = absurd (cc e)
    taken (places.TheVariants.Staged n d u) e = refl
    taken (places.TheVariants.Posted n k l) e = refl

-- of one key no more wait than of all
pub waiting_few : (p : Held → Bool) (hs : List Held) → length (filter p hs) ≤ length hs
waiting_few p [] = omega arith
waiting_few p (h ∷ hs) = by (p h) (waiting_few p hs) where
  by : (b : Bool) → length (filter p hs) ≤ length hs → length (cond b (h ∷ filter p hs) (filter p hs)) ≤ length (h ∷ hs)
  by true le = omega (arith, le)
  by false le = omega (arith, le)
