use Rattle.std.proofs.Common.{◌≡◌, ℕ, ◌-◌, ◌<◌, ◌≤◌, List, length, map, slice_index_or, Ok, refl, sym, ◌∙◌, ap, subst, arith}
use Rattle.pm_region.specs.State.{State}
use Rattle.pm_region.specs.Split.{AreCuts, IsPiece, Parted, Joined, Refuses}
use Rattle.thread_engine.proofs.Assembly.{cuts_are, crew_is, all_rest, tokens_back, pieces_back, run_ran}
use Rattle.engine_core.specs.Reports.{reply_in}
use Rattle.thread_engine.specs.Collected.{blanks, restamped, any_stopped, had_memory}
use Rattle.thread_engine.specs.Noted.{IsNoted}
use Rattle.thread_engine.specs.Outlets.{IsAsked, HandsOut}
use Rattle.thread_engine.proofs.Handing.{blanks_long, are_blank, same_replies, end_memory}
use Rattle.thread_engine.proofs.NotedAnswers.{noted_restamped, twice_restamped}
use Rattle.thread_engine.proofs.Looks.{as_passed}
use Rattle.thread_engine.proofs.Rejoining.{region_cuts, still_parted}
use Rattle.thread_engine.proofs.run_apart.run_supplied.Goals as goal

-- what was split and joined was not refused
as_joined : {A B : Type 0} (s p mid t : State) (cuts : List ℕ) (a : A) (b : B) → Parted s p cuts → IsAsked p mid → Joined mid t → Refuses {T = A} s p (Ok a) → Refuses {T = B} s t (Ok b)
as_joined s p mid t cuts a b D L X R = record {
  later = (let up = X.faults in let more = L.later in let same = D.faults in omega (arith, up, more, same));
  fault = λ is. absurd (cc is);
  else_same = λ no_. X.refusals ∙ L.refusals ∙ R.else_same (λ is. cc is);
  no_fall = (let same = X.refusals in let asked = L.refusals in let low = R.no_fall in omega (arith, same, asked, low));
}

pub split-requires-clause-cuts : goal.split-requires-clause-cuts
split-requires-clause-cuts g c =
    let s = g.R.Region.state c.args.region.now in
    let word = g.R.ReadRegion.word c.args.region.now in
    let z = c.requires.supplied in
    let given = g.Q.Requests.left c.args.requests.now in
    subst (λ cs. AreCuts s.frame.words cs) (sym c.deref.ensures.value)
    (region_cuts s word z.1 z.0 z.2 z.3 c.args.supplies.cuts.items (cuts_are g.R.Piece.Region.state (g.G.Gate.may_refuse c.args.gate.now) s word z.0 z.1 given (length given) c.args.supplies z.2 z.3 z.4))

pub returns-in_err-pieces-clause-cause : goal.returns-in_err-pieces-clause-cause
returns-in_err-pieces-clause-cause g c =
    as_passed (g.R.Region.state c.args.region.now) (g.R.Region.state c.split.new.self) c.in_err-pieces.field-0.0 c.in_err-pieces.ensures.cause c.from_residual-in_err-pieces.result c.from_residual-in_err-pieces.ensures.1

pub work_apart-back-requires-clause-crew : goal.work_apart-back-requires-clause-crew
work_apart-back-requires-clause-crew g c κs within =
    let s = g.R.Region.state c.args.region.now in
    let word = g.R.ReadRegion.word c.args.region.now in
    let state = g.R.Piece.Region.state in
    let refused = g.G.Gate.may_refuse c.args.gate.now in
    let x = c.args.supplies in
    let z = c.requires.supplied in
    let given = g.Q.Requests.left c.args.requests.now in
    let ps = c.in_ok-pieces.pieces.items in
    let count = c.in_ok-pieces.ensures.count ∙ ap (λ (cs : List ℕ). length cs - 1) c.deref.ensures.value in
    let piece = subst (λ (cs : List ℕ). (i : ℕ) (p : g.row.R-Piece.Denot) → i < length ps → IsPiece s cs i (state (slice_index_or ps i p))) c.deref.ensures.value c.in_ok-pieces.ensures.pieces in
    crew_is state refused s word z.0 z.1 given (length given) x z.2 z.3 z.4 ps count piece

pub work_apart-back-requires-clause-rest : goal.work_apart-back-requires-clause-rest
work_apart-back-requires-clause-rest g c κs within =
    let s = g.R.Region.state c.args.region.now in
    let word = g.R.ReadRegion.word c.args.region.now in
    let state = g.R.Piece.Region.state in
    let refused = g.G.Gate.may_refuse c.args.gate.now in
    let x = c.args.supplies in
    let z = c.requires.supplied in
    let given = g.Q.Requests.left c.args.requests.now in
    let ps = c.in_ok-pieces.pieces.items in
    let count = c.in_ok-pieces.ensures.count ∙ ap (λ (cs : List ℕ). length cs - 1) c.deref.ensures.value in
    let piece = subst (λ (cs : List ℕ). (i : ℕ) (p : g.row.R-Piece.Denot) → i < length ps → IsPiece s cs i (state (slice_index_or ps i p))) c.deref.ensures.value c.in_ok-pieces.ensures.pieces in
    all_rest state refused s word z.0 z.1 given (length given) x z.2 z.3 z.4 ps count piece c.every_opening.ensures.doubts

pub close_tables-requires-clause-tokens : goal.close_tables-requires-clause-tokens
close_tables-requires-clause-tokens g c =
    let s = g.R.Region.state c.args.region.now in
    let word = g.R.ReadRegion.word c.args.region.now in
    let state = g.R.Piece.Region.state in
    let refused = g.G.Gate.may_refuse c.args.gate.now in
    let x = c.args.supplies in
    let z = c.requires.supplied in
    let left = g.Q.Requests.left c.args.requests.now in
    let I = c.work_apart-back.ensures.went in
    let ps = c.in_ok-pieces.pieces.items in
    let count = c.in_ok-pieces.ensures.count ∙ ap (λ (cs : List ℕ). length cs - 1) c.deref.ensures.value in
    let piece = subst (λ (cs : List ℕ). (i : ℕ) (p : g.row.R-Piece.Denot) → i < length ps → IsPiece s cs i (state (slice_index_or ps i p))) c.deref.ensures.value c.in_ok-pieces.ensures.pieces in
    tokens_back state refused s word z.0 z.1 I.given (length left) x z.2 z.3 z.4 ps count piece c.work_apart-back.result.0 (length I.hands.windows) c.work_apart-back.result.1.all (blanks (length I.given)) I.kept I.did

pub join-requires-clause-parted : goal.join-requires-clause-parted
join-requires-clause-parted g c = c.work_apart-back.ensures.asked.stays.parted ∙ c.in_ok-pieces.ensures.ok.parted

pub join-requires-clause-count : goal.join-requires-clause-count
join-requires-clause-count g c =
    let cuts = ap (λ (cs : List ℕ). length cs - 1) (c.work_apart-back.ensures.asked.stays.cuts ∙ c.in_ok-pieces.ensures.ok.cuts_are) in
    c.work_apart-back.ensures.went.did.pieces_count ∙ c.in_ok-pieces.ensures.count ∙ sym cuts

pub join-requires-clause-pieces : goal.join-requires-clause-pieces
join-requires-clause-pieces g c =
    let s = g.R.Region.state c.args.region.now in
    let word = g.R.ReadRegion.word c.args.region.now in
    let state = g.R.Piece.Region.state in
    let refused = g.G.Gate.may_refuse c.args.gate.now in
    let x = c.args.supplies in
    let z = c.requires.supplied in
    let left = g.Q.Requests.left c.args.requests.now in
    let I = c.work_apart-back.ensures.went in
    let ps = c.in_ok-pieces.pieces.items in
    let count = c.in_ok-pieces.ensures.count ∙ ap (λ (cs : List ℕ). length cs - 1) c.deref.ensures.value in
    let piece = subst (λ (cs : List ℕ). (i : ℕ) (p : g.row.R-Piece.Denot) → i < length ps → IsPiece s cs i (state (slice_index_or ps i p))) c.deref.ensures.value c.in_ok-pieces.ensures.pieces in
    let split = g.R.Region.state c.split.new.self in
    let mid = g.R.Region.state c.work_apart-back.new.region in
    let parted = still_parted s split mid x.cuts.items (subst (λ (cs : List ℕ). Parted s split cs) c.deref.ensures.value c.in_ok-pieces.ensures.ok) c.work_apart-back.ensures.asked in
    pieces_back state refused s word z.0 z.1 I.given (length left) x z.2 z.3 z.4 ps count piece c.work_apart-back.result.0 (length I.hands.windows) c.work_apart-back.result.1.all (blanks (length I.given)) I.kept I.did mid parted

pub work_apart-back-requires-clause-cleared : goal.work_apart-back-requires-clause-cleared
work_apart-back-requires-clause-cleared g c κs within = (let z = c.requires.supplied in z.4.cleared)

pub work_apart-back-requires-clause-window : goal.work_apart-back-requires-clause-window
work_apart-back-requires-clause-window g c κs within = (let z = c.requires.supplied in z.4.window)

pub work_apart-back-requires-clause-blank : goal.work_apart-back-requires-clause-blank
work_apart-back-requires-clause-blank g c κs within = (let z = c.requires.supplied in z.4.blank)

pub work_apart-back-requires-clause-notes : goal.work_apart-back-requires-clause-notes
work_apart-back-requires-clause-notes g c κs within = (let z = c.requires.supplied in z.4.room)

pub returns-clause-ran : goal.returns-clause-ran
returns-clause-ran g c = λ o r F B S.
    let left = g.Q.Requests.left c.args.requests.now in
    let s = g.R.Region.state c.args.region.now in
    let word = g.R.ReadRegion.word c.args.region.now in
    let state = g.R.Piece.Region.state in
    let refused = g.G.Gate.may_refuse c.args.gate.now in
    let x = c.args.supplies in
    let ps = c.in_ok-pieces.pieces.items in
    let count = c.in_ok-pieces.ensures.count ∙ ap (λ (cs : List ℕ). length cs - 1) c.deref.ensures.value in
    let piece = subst (λ (cs : List ℕ). (i : ℕ) (p : g.row.R-Piece.Denot) → i < length ps → IsPiece s cs i (state (slice_index_or ps i p))) c.deref.ensures.value c.in_ok-pieces.ensures.pieces in
    let split = g.R.Region.state c.split.new.self in
    let mid = g.R.Region.state c.work_apart-back.new.region in
    let t = g.R.Region.state c.join.new.self in
    let cut = subst (λ (cs : List ℕ). Parted s split cs) c.deref.ensures.value c.in_ok-pieces.ensures.ok in
    let asked = c.work_apart-back.ensures.asked in
    let I = c.work_apart-back.ensures.went in
    let course = c.work_apart-back.result.1 in
    let kept = I.kept in
    let places = blanks (length I.given) in
    let all = sym (ap had_memory c.run_end.ensures ∙ end_memory course.all (any_stopped c.work_apart-back.result.0.workers.items)) in
    let ran = run_ran state refused s word o r I.given (length left) x F B S ps count piece c.work_apart-back.result.0 (length I.hands.windows) course.all places kept I.did c.close_tables.ensures t c.join.ensures.pieces c.every_chain.ensures c.every_opening.ensures.keys c.every_opening.ensures.doubts
    (blanks_long (length I.given)) (are_blank (length I.given))
    mid (still_parted s split mid x.cuts.items cut asked) c.join.ensures.whole c.join.ensures.next c.requires.whole (asked.opens ∙ c.in_ok-pieces.ensures.opens) (asked.refusals ∙ c.in_ok-pieces.ensures.cause.else_same (λ is. cc is)) c.join.ensures.opens c.every_refusal.ensures c.every_moment.ensures c.every_cut.ensures
    c.run_end.result c.run_end.ensures in
    let kept_are = ran.3 in
    let replies = sym (ap (map reply_in) kept_are ∙ same_replies t.stamp kept) in
    let notes = c.work_apart-back.new.answers.notes in
    let new = c.work_apart-back.new.outlet in
    let hands = subst (λ b. (H : HandsOut g.O.Outlet.takes b course.heard (map reply_in ran.0.kept) split c.args.outlet.now mid new) × (H.windows ≡ I.hands.windows)) all
    (subst (λ rs. (H : HandsOut g.O.Outlet.takes course.all course.heard rs split c.args.outlet.now mid new) × (H.windows ≡ I.hands.windows)) replies (I.hands, refl)) in
    record {
      given = I.given;
      more = I.more;
      split = I.split;
      whole = I.whole;
      ran = ran.0;
      comes = record {
        noted = subst (λ ks. IsNoted ks notes) (sym kept_are) (noted_restamped t.stamp kept notes I.noted);
        stamp = c.stamp.ensures;
        alike = subst (λ ks. restamped t.stamp ks ≡ ks) (sym kept_are) (twice_restamped t.stamp kept);
      };
      before = split;
      behind = mid;
      parted = (let same = cut.faults in omega (arith, same));
      looks = asked;
      joined = c.join.ensures.whole.faults;
      unasked = c.in_ok-pieces.ensures.validations;
      asked_since = c.join.ensures.validations;
      hands = hands.0;
      between = λ i low. ran.1 i (subst (λ ws. i ≤ length ws) hands.1 low);
      ended = λ is. ran.2 (all ∙ is);
    }

pub returns-clause-cause : goal.returns-clause-cause
returns-clause-cause g c =
    let D = c.in_ok-pieces.ensures.ok in
    let asked = c.work_apart-back.ensures.asked in
    as_joined (g.R.Region.state c.args.region.now) (g.R.Region.state c.split.new.self) (g.R.Region.state c.work_apart-back.new.region) (g.R.Region.state c.join.new.self) c.deref.result.now c.in_ok-pieces.pieces _ D asked c.join.ensures.whole c.in_ok-pieces.ensures.cause
