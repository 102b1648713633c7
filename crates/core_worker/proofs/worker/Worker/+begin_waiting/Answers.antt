-- One waiting request is begun, and then the others.
use Rattle.std.specs.Prelude.{Some}
use Rattle.std.proofs.Common.{◌≡◌, inl, inr, ⊎_elim, ℕ, ◌+◌, ◌<◌, List, length, true, false, Result, Ok, Err, OnOk, OnErr, refl, sym, ◌∙◌, ap, subst, arith}
use Rattle.std.specs.Prelude.{Vec}
use Rattle.std.specs.Global.{Global}
use Rattle.core_worker.specs.declared.types.Place as places
use Rattle.core_worker.specs.Refusals.{HasAnswerRoom}
use Rattle.conflict_queue.specs.declared.types.Held.{Held}
use Rattle.conflict_queue.specs.Waiting.{waiting}
use Rattle.core_index.specs.Index.{room_at}
use Rattle.pm_region.specs.State.{IsTelling}
use Rattle.core_worker.specs.declared.worker.Worker.{Worker}
use Rattle.core_worker.specs.OwnPlaces.{is_busy}
use Rattle.core_worker.specs.Beginning.{HasFree, HoldsAside, StandsAside, Begins, BeginsAll, BeginsShort, UsesRoom}
use Rattle.core_worker.specs.Ties.{Stands}
use Rattle.core_worker.specs.Serving.{LeadsNothingYet, KeepsLine, OthersWait}
use Rattle.core_worker.proofs.Serving.{order_begun, order_in_hand, others_begun, all_wait}
use Rattle.core_worker.proofs.UnderWay.{room_wound}
use Rattle.core_worker.proofs.Waiters.{first_key, aside_other, stands_other, taken_aside, taken_stands}
use Rattle.core_worker.proofs.worker.Worker.+begin_waiting.Goals as goal

map_ok : {X Y : Type 0} (r : Result X Y) (P Q : Type 0) → (P → Q) → OnOk r P → OnOk r Q
map_ok (Ok x) P Q f h = f h
map_ok (Err y) P Q f h = h

map_err : {X Y : Type 0} (r : Result X Y) (P Q : Type 0) → (P → Q) → OnErr r P → OnErr r Q
map_err (Ok x) P Q f h = h
map_err (Err y) P Q f h = f h

pub begin-requires-clause-idle : goal.begin-requires-clause-idle
begin-requires-clause-idle g t c =
    let w = c.args.self.now in
    let q = c.release.new.self in
    let h = c.in-Some.held in
    let T = c.in-Some.ensures.taken in
    let fk = first_key w.queue q c.args.key h T in
    ap (is_busy w.places.items) fk ∙ c.requires.idle

pub begin-requires-clause-room : goal.begin-requires-clause-room
begin-requires-clause-room g t c =
    let w = c.args.self.now in
    let q = c.release.new.self in
    let h = c.in-Some.held in
    let T = c.in-Some.ensures.taken in
    let fk = first_key w.queue q c.args.key h T in
    let one = ap length T.key in
    let room = c.requires.room in
    λ change. subst (λ (k : ℕ). 0 < room_at w.index k) (sym fk) (omega (arith, one, room))

pub returns-in-Err-clause-keeps : goal.returns-in-Err-clause-keeps
returns-in-Err-clause-keeps g t c x a =
    let p = x.place in
    let m = x.number in
    let v = x.view in
    let w = c.args.self.now in
    let q = c.release.new.self in
    let same = sym c.in-Err.ensures.unchanged in
    record {
      holds = aside_other p m v c.begin.new.self c.begin.new.self.queue _ true (λ on. absurd (cc on)) (subst (λ (y : Worker). HoldsAside p m v y) same (aside_other p m v w q w.in_hand w.winds_down (λ on. on) a.holds));
      stands = λ s S. stands_other s p m v c.begin.new.self c.begin.new.self.queue _ true (λ on. absurd (cc on)) (subst (λ (y : Worker). Stands s p m v y) same (stands_other s p m v w q w.in_hand w.winds_down (λ on. on) S));
    }

pub returns-then-is_busy-clause-begins : goal.returns-then-is_busy-clause-begins
returns-then-is_busy-clause-begins g t c x a S =
    let v = x.view in
    let w = c.args.self.now in
    let q = c.release.new.self in
    let h = c.in-Some.held in
    let T = c.in-Some.ensures.taken in
    let fk = first_key w.queue q c.args.key h T in
    let b = c.begin.new.self in
    let u : Worker = record w { queue = q } in
    let begun : Begins (IsTelling (g.R.Region.state c.args.region.now)) u b (v.cell c.args.key) h.number h.request = subst (λ (k : ℕ). Begins (IsTelling (g.R.Region.state c.args.region.now)) u b (v.cell k) h.number h.request) fk (c.in-Ok.ensures.begins x (taken_aside w q c.args.key h T x a) (taken_stands (g.R.Region.state c.args.region.now) x w q S)) in
    subst (λ (hs : List Held). BeginsAll (IsTelling (g.R.Region.state c.args.region.now)) hs w b (v.cell c.args.key) c.args.key) (sym T.key) (u, b, T, refl, c.begin.ensures.rest, begun, subst (UsesRoom u b) fk c.in-Ok.ensures.uses, inl (sym c.is_busy.ensures ∙ c.if-is_busy.true, refl))

pub begin_waiting-requires : goal.begin_waiting-requires
begin_waiting-requires g t c κs within =
    let w = c.args.self.now in
    let q = c.release.new.self in
    let h = c.in-Some.held in
    let T = c.in-Some.ensures.taken in
    let fk = first_key w.queue q c.args.key h T in
    let b = c.begin.new.self in
    let u : Worker = record w { queue = q } in
    let x = c.requires.tied.0 in
    let a = taken_aside w q c.args.key h T x c.requires.tied.1 in
    let K = c.in-Ok.ensures.keeps x a in
    let s = g.R.Region.state c.args.region.now in
    let one = ap length T.key in
    let all = T.together in
    let queue : b.queue ≡ q = ap (λ (x : Worker). x.queue) c.begin.ensures.rest in
    let same = ap (λ (x : List Held). length (waiting x c.args.key)) queue in
    let count = ap (λ (x : List Held). length x) queue in
    let uses : UsesRoom u b c.args.key = subst (UsesRoom u b) fk c.in-Ok.ensures.uses in
    let room = c.requires.room in
    let d = c.decreases in
    let idle : is_busy b.places.items c.args.key ≡ false = sym c.is_busy.ensures ∙ c.if-is_busy.false in
    let index = uses.answered idle in
    let had = c.requires.answers in
    let more : HasAnswerRoom (length (waiting q c.args.key) + 1) u = omega (arith, had, one) in
    let tied : StandsAside s b c.args.key = (x, record { holds = K.holds; own = c.requires.tied.1.own }, K.stands s (taken_stands s x w q c.requires.tied.2)) in
    let free = ⊎_elim (λ stay. subst (λ (y : Vec places.Place Global). HasFree y.items) (sym stay) c.requires.place) (λ busy. absurd (let both : true ≡ false = sym busy ∙ ap (is_busy b.places.items) fk ∙ idle in cc both)) c.in-Ok.ensures.places in
    let nothing : LeadsNothingYet b = λ runs. (let had = c.requires.nothing (sym (ap (λ (y : Worker). y.stopped) c.begin.ensures.rest) ∙ runs) in (had.0, ap (λ (y : Worker). y.leading) c.begin.ensures.rest ∙ had.1)) in
    let line : KeepsLine u b c.args.key = subst (λ (k : ℕ). KeepsLine u b k) fk c.in-Ok.ensures.line in
    let others = others_begun w b q c.args.key h T c.begin.ensures.rest uses.others c.in-Ok.ensures.busy line c.requires.others in
    let hand = ap (λ (y : Worker). y.in_hand) c.begin.ensures.rest ∙ c.requires.hand in
    let answers = subst (λ (n : ℕ). HasAnswerRoom n b) (sym same) (c.in-Ok.ensures.room (length (waiting q c.args.key)) more) in (
      omega (arith, d, all, count),
      (within, (tied, (nothing, (idle, (omega (arith, same, one, index, room), (free, (answers, (others, hand)))))))),
    )

pub begin-requires-clause-tied : goal.begin-requires-clause-tied
begin-requires-clause-tied g t c =
    let w = c.args.self.now in
    let x = c.requires.tied.0 in (
      x,
      taken_aside w c.release.new.self c.args.key c.in-Some.held c.in-Some.ensures.taken x c.requires.tied.1,
      taken_stands (g.R.Region.state c.args.region.now) x w c.release.new.self c.requires.tied.2,
    )

pub returns-then-is_busy-clause-keeps : goal.returns-then-is_busy-clause-keeps
returns-then-is_busy-clause-keeps g t c x a =
    let w = c.args.self.now in
    let q = c.release.new.self in
    let K = c.in-Ok.ensures.keeps x (taken_aside w q c.args.key c.in-Some.held c.in-Some.ensures.taken x a) in
    record { holds = K.holds; stands = λ s S. K.stands s (taken_stands s x w q S) }

pub returns-in-Ok-clause-keeps : goal.returns-in-Ok-clause-keeps
returns-in-Ok-clause-keeps g t c x a =
    let w = c.args.self.now in
    let q = c.release.new.self in
    let K = c.in-Ok.ensures.keeps x (taken_aside w q c.args.key c.in-Some.held c.in-Some.ensures.taken x a) in
    let L = c.begin_waiting.ensures.keeps x (record { holds = K.holds; own = a.own }) in
    record { holds = L.holds; stands = λ s S. L.stands s (K.stands s (taken_stands s x w q S)) }

pub returns-in-Ok-clause-begins : goal.returns-in-Ok-clause-begins
returns-in-Ok-clause-begins g t c =
    let w = c.args.self.now in
    let q = c.release.new.self in
    let h = c.in-Some.held in
    let T = c.in-Some.ensures.taken in
    let fk = first_key w.queue q c.args.key h T in
    let b = c.begin.new.self in
    let u : Worker = record w { queue = q } in
    let z = c.begin_waiting.new.self in
    let s = g.R.Region.state c.args.region.now in
    map_ok c.begin_waiting.result _ _ (λ rest x a S.
    let v = x.view in
    let a' = taken_aside w q c.args.key h T x a in
    let S' = taken_stands s x w q S in
    let K = c.in-Ok.ensures.keeps x a' in
    let begun : Begins (IsTelling (g.R.Region.state c.args.region.now)) u b (v.cell c.args.key) h.number h.request = subst (λ (k : ℕ). Begins (IsTelling (g.R.Region.state c.args.region.now)) u b (v.cell k) h.number h.request) fk (c.in-Ok.ensures.begins x a' S') in
    let more : BeginsAll (IsTelling (g.R.Region.state c.args.region.now)) (waiting q c.args.key) b z (v.cell c.args.key) c.args.key = subst (λ (y : List Held). BeginsAll (IsTelling (g.R.Region.state c.args.region.now)) (waiting y c.args.key) b z (v.cell c.args.key) c.args.key) (ap (λ (y : Worker). y.queue) c.begin.ensures.rest) (rest x (record { holds = K.holds; own = a.own }) (K.stands s S')) in
    subst (λ (hs : List Held). BeginsAll (IsTelling (g.R.Region.state c.args.region.now)) hs w z (v.cell c.args.key) c.args.key) (sym T.key) (u, b, T, refl, c.begin.ensures.rest, begun, subst (UsesRoom u b) fk c.in-Ok.ensures.uses, inr (sym c.is_busy.ensures ∙ c.if-is_busy.false, more))) c.begin_waiting.ensures.begins

pub returns-in-Err-clause-rule : goal.returns-in-Err-clause-rule
returns-in-Err-clause-rule g t c h = room_wound c.begin.new.self (c.begin.ensures.rule h)

pub returns-then-is_busy-clause-rule : goal.returns-then-is_busy-clause-rule
returns-then-is_busy-clause-rule g t c h = c.begin.ensures.rule h

pub returns-in-Ok-clause-rule : goal.returns-in-Ok-clause-rule
returns-in-Ok-clause-rule g t c h = c.begin_waiting.ensures.rule (c.begin.ensures.rule h)

pub returns-in-Err-clause-order : goal.returns-in-Err-clause-order
returns-in-Err-clause-order g t c x a O =
    let w = c.args.self.now in
    let q = c.release.new.self in
    order_in_hand x.place x.number x.view w w q c.args.key c.in-Some.held c.in-Some.ensures.taken c.requires.hand O c.begin.new.self c.in-Err.ensures.unchanged _

pub returns-then-is_busy-clause-waits : goal.returns-then-is_busy-clause-waits
returns-then-is_busy-clause-waits g t c =
    let w = c.args.self.now in
    let q = c.release.new.self in
    let h = c.in-Some.held in
    let T = c.in-Some.ensures.taken in
    let fk = first_key w.queue q c.args.key h T in
    let b = c.begin.new.self in
    let u : Worker = record w { queue = q } in
    let line : KeepsLine u b c.args.key = subst (λ (k : ℕ). KeepsLine u b k) fk c.in-Ok.ensures.line in
    let uses : UsesRoom u b c.args.key = subst (UsesRoom u b) fk c.in-Ok.ensures.uses in
    let others : OthersWait b c.args.key = others_begun w b q c.args.key h T c.begin.ensures.rest uses.others c.in-Ok.ensures.busy line c.requires.others in
    let one = ap length T.key in
    let room = c.requires.room in
    let same = ap (λ (x : Worker). length (waiting x.queue c.args.key)) c.begin.ensures.rest in
    let busy : is_busy b.places.items c.args.key ≡ true = sym c.is_busy.ensures ∙ c.if-is_busy.true in
    let index = uses.staged busy in
    all_wait b c.args.key others (λ is. omega (arith, one, room, same, index)) (λ on idle. absurd (let both : true ≡ false = sym busy ∙ idle in cc both))

pub returns-then-is_busy-clause-order : goal.returns-then-is_busy-clause-order
returns-then-is_busy-clause-order g t c x a O =
    let w = c.args.self.now in
    let q = c.release.new.self in
    let h = c.in-Some.held in
    let T = c.in-Some.ensures.taken in
    let fk = first_key w.queue q c.args.key h T in
    let b = c.begin.new.self in
    let u : Worker = record w { queue = q } in
    let line : KeepsLine u b c.args.key = subst (λ (k : ℕ). KeepsLine u b k) fk c.in-Ok.ensures.line in
    order_begun x.place x.number x.view w b q c.args.key h T c.requires.hand O a.holds c.begin.ensures.rest c.in-Ok.ensures.uses.records line

pub returns-in-Ok-clause-order : goal.returns-in-Ok-clause-order
returns-in-Ok-clause-order g t c x a O =
    let w = c.args.self.now in
    let q = c.release.new.self in
    let h = c.in-Some.held in
    let T = c.in-Some.ensures.taken in
    let fk = first_key w.queue q c.args.key h T in
    let b = c.begin.new.self in
    let u : Worker = record w { queue = q } in
    let line : KeepsLine u b c.args.key = subst (λ (k : ℕ). KeepsLine u b k) fk c.in-Ok.ensures.line in
    let K = c.in-Ok.ensures.keeps x (taken_aside w q c.args.key h T x a) in
    c.begin_waiting.ensures.order x (record { holds = K.holds; own = a.own }) (order_begun x.place x.number x.view w b q c.args.key h T c.requires.hand O a.holds c.begin.ensures.rest c.in-Ok.ensures.uses.records line)

pub returns-in-Err-clause-short : goal.returns-in-Err-clause-short
returns-in-Err-clause-short g t c x a S =
    let w = c.args.self.now in
    let q = c.release.new.self in
    let h = c.in-Some.held in
    let T = c.in-Some.ensures.taken in
    let u : Worker = record w { queue = q } in
    let same = c.in-Err.ensures.unchanged in
    let back = c.in-Err.ensures.given_back in
    subst (λ (hs : List Held). BeginsShort (IsTelling (g.R.Region.state c.args.region.now)) hs w (record c.begin.new.self { in_hand = Some (record { number = h.number; request = c.in-Err.back.request }); winds_down = true }) (x.view.cell c.args.key) c.args.key) (sym T.key)
    (u, T, refl, inl (λ i. record (same i) { in_hand = Some (record { number = h.number; request = back i }); winds_down = true }))

pub returns-in-Ok-clause-short : goal.returns-in-Ok-clause-short
returns-in-Ok-clause-short g t c =
    let w = c.args.self.now in
    let q = c.release.new.self in
    let h = c.in-Some.held in
    let T = c.in-Some.ensures.taken in
    let fk = first_key w.queue q c.args.key h T in
    let b = c.begin.new.self in
    let u : Worker = record w { queue = q } in
    let z = c.begin_waiting.new.self in
    let s = g.R.Region.state c.args.region.now in
    map_err c.begin_waiting.result _ _ (λ rest x a S.
    let v = x.view in
    let a' = taken_aside w q c.args.key h T x a in
    let S' = taken_stands s x w q S in
    let K = c.in-Ok.ensures.keeps x a' in
    let begun : Begins (IsTelling (g.R.Region.state c.args.region.now)) u b (v.cell c.args.key) h.number h.request = subst (λ (k : ℕ). Begins (IsTelling (g.R.Region.state c.args.region.now)) u b (v.cell k) h.number h.request) fk (c.in-Ok.ensures.begins x a' S') in
    let more : BeginsShort (IsTelling (g.R.Region.state c.args.region.now)) (waiting q c.args.key) b z (v.cell c.args.key) c.args.key = subst (λ (y : List Held). BeginsShort (IsTelling (g.R.Region.state c.args.region.now)) (waiting y c.args.key) b z (v.cell c.args.key) c.args.key) (ap (λ (y : Worker). y.queue) c.begin.ensures.rest) (rest x (record { holds = K.holds; own = a.own }) (K.stands s S')) in
    subst (λ (hs : List Held). BeginsShort (IsTelling (g.R.Region.state c.args.region.now)) hs w z (v.cell c.args.key) c.args.key) (sym T.key) (u, T, refl, inr (b, c.begin.ensures.rest, begun, subst (UsesRoom u b) fk c.in-Ok.ensures.uses, sym c.is_busy.ensures ∙ c.if-is_busy.false, more))) c.begin_waiting.ensures.short
