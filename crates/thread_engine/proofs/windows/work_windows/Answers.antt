use Rattle.std.proofs.Common.{◌≡◌, ◌⊎◌, inl, inr, ◌≤◌, suc, ◌+◌, ◌-◌, [], ◌∷◌, ◌++◌, length, length-append, map, take, drop, true, false, refl, sym, ◌∙◌, ap, subst, append-nil, append_assoc, arith}
use Rattle.std.proofs.lemmas.List.{nil_from_length}
use Rattle.engine_core.specs.Reports.{reply_in}
use Rattle.thread_engine.specs.Collected.{blanks}
use Rattle.thread_engine.specs.Desks.{IsCleared}
use Rattle.thread_engine.specs.Noted.{IsNoted}
use Rattle.thread_engine.specs.Outlets.{all_replies}
use Rattle.thread_engine.specs.Windows.{WorksThrough, AllRested}
use Rattle.thread_engine.specs.Takings.{both_outs, TakenAs}
use Rattle.thread_engine.proofs.KeptAnswers.{stored_long}
use Rattle.thread_engine.proofs.NotedAnswers.{fewer_room}
use Rattle.thread_engine.proofs.Handing.{all_more, full_more, takes_more, unasked, asked_again, taken_front, own, own_long, handed_more, handed_short, blanks_long, are_blank, take_blanks, with_window, taken_as, window_is, front_is, all_is, ahead_blank}
use Rattle.thread_engine.proofs.Takings.{nothing_taken, more_taken, taken_below}
use Rattle.thread_engine.proofs.WindowWork.{none_went, at_work_on}
use Rattle.thread_engine.proofs.Resting.{none_rested, window_rested, next_rested, wound_rested}
use Rattle.thread_engine.proofs.WindingDown.{wound_ended, wound_given, wound_all}
use Rattle.thread_engine.specs.WorkStates.{sight_by}
use Rattle.thread_engine.proofs.windows.work_windows.Goals as goal

pub loop-init : goal.loop-init
loop-init g c =
    let count = c.count-count.ensures in (
      tt,
      tt,
      record {
        dealt = [];
        outs = [];
        split = refl;
        number = refl;
        count = omega (arith, count);
        all = count;
        kept = blanks c.count-count.result;
        places = blanks_long c.count-count.result;
        went = none_went g.B.Board.seat (sight_by g.B.Board.view g.B.Board.trail g.B.Board.at) g.P.Region.state (g.G.Gate.may_refuse c.args.gate.now) 0 c.args.jobs.now c.requires.rest;
        rest = c.requires.rest;
        taken = nothing_taken 0 0 0 (blanks c.count-count.result);
        noted = c.requires.blank;
        room = c.requires.room;
        cleared = c.requires.cleared;
        window = c.requires.window;
        windows = [];
        begun = refl;
        rested = none_rested g.B.Board.seat (sight_by g.B.Board.view g.B.Board.trail g.B.Board.at) g.P.Region.state (g.G.Gate.may_refuse c.args.gate.now) c.args.jobs.now (none_went g.B.Board.seat (sight_by g.B.Board.view g.B.Board.trail g.B.Board.at) g.P.Region.state (g.G.Gate.may_refuse c.args.gate.now) 0 c.args.jobs.now c.requires.rest) c.requires.rest;
        full = tt;
        handed = refl;
        heard = (refl, refl);
        asked = unasked (g.R.Region.state c.args.region.now);
      },
    )

pub work_window-all-requires-clause-some : goal.work_window-all-requires-clause-some
work_window-all-requires-clause-some g c =
    let some_ = c.requires.some in
    let same = c.loop.invariant.2.went.count in
    omega (arith, some_, same)

pub work_window-all-requires-clause-parts : goal.work_window-all-requires-clause-parts
work_window-all-requires-clause-parts g c =
    let few = c.requires.parts in
    let same = c.loop.invariant.2.went.count in
    omega (arith, few, same)

pub work_window-all-requires-clause-rest : goal.work_window-all-requires-clause-rest
work_window-all-requires-clause-rest g c κs within = c.loop.invariant.2.rest

pub note_window-requires-clause-places : goal.note_window-requires-clause-places
note_window-requires-clause-places g c =
    let count = c.work_window-all.ensures.count in
    let few = c.window_end-to.ensures.few in
    omega (arith, count, few)

pub note_window-requires-clause-room : goal.note_window-requires-clause-room
note_window-requires-clause-room g c =
    let within = c.window_end-to.ensures.within in
    let all = c.loop.invariant.2.count in
    fewer_room (c.window_end-to.result - c.loop.from) (length (g.Q.Requests.left c.loop.requests)) c.loop.answers.notes (omega (arith, within, all)) c.loop.invariant.2.room

pub note_none-requires : goal.note_none-requires
note_none-requires g c =
    let within = c.window_end-to.ensures.within in
    let after = c.window_end-to.ensures.after in
    let all = c.loop.invariant.2.count in
    record {
      room = c.note_window.ensures.room (c.count-count.result - c.window_end-to.result)
          (fewer_room (c.window_end-to.result - c.loop.from + (c.count-count.result - c.window_end-to.result)) (length (g.Q.Requests.left c.loop.requests)) c.loop.answers.notes (omega (arith, within, all, after)) c.loop.invariant.2.room);
    }

pub wind_all_down-requires : goal.wind_all_down-requires
wind_all_down-requires g c =
    let S = c.work_window-all.ensures.some_ in
    let refused = g.G.Gate.may_refuse c.args.gate.now in
    at_work_on g.B.Board.seat (sight_by g.B.Board.view g.B.Board.trail g.B.Board.at) g.P.Region.state refused c.loop.from S.dealt S.outs c.loop.jobs c.work_window-all.new.jobs S.went

pub hand_window-heard-requires-clause-places : goal.hand_window-heard-requires-clause-places
hand_window-heard-requires-clause-places g c =
    let count = c.work_window-all.ensures.count in
    let few = c.window_end-to.ensures.few in
    let same = ap length c.note_window.ensures.window in
    omega (arith, count, few, same)

pub returns-then-not-all-clause-works : goal.returns-then-not-all-clause-works
returns-then-not-all-clause-works g c =
    let seat = g.B.Board.seat in
    let sight = sight_by g.B.Board.view g.B.Board.trail g.B.Board.at in
    let state = g.P.Region.state in
    let I = c.loop.invariant.2 in
    let S = c.work_window-all.ensures.some_ in
    let refused = g.G.Gate.may_refuse c.args.gate.now in
    let outs = both_outs I.outs S.outs in
    let begun = I.begun in
    let number = I.number in
    let went = window_rested seat sight state refused c.loop.from (length I.windows) I.dealt S.dealt I.outs S.outs c.args.jobs.now c.loop.jobs c.work_window-all.new.jobs I.number (omega (arith, begun, number)) (I.went, I.rested) S.went in
    let W = c.wind_all_down.ensures in
    let ended = wound_rested seat sight state refused (length I.windows) (I.dealt ++ S.dealt) outs c.args.jobs.now c.work_window-all.new.jobs c.wind_all_down.new.jobs W went in
    let from = c.loop.from in
    let to = c.window_end-to.result in
    let count = c.count-count.result in
    let after = c.window_end-to.ensures.after in
    let within = c.window_end-to.ensures.within in
    let all = I.all in
    let left = g.Q.Requests.left c.args.requests.now in
    let window = c.work_window-all.new.window.items in
    let a = I.kept in
    let places = I.places in
    let T = taken_as from to after S.outs window S.taken a in
    let b = with_window from to after S.outs window S.taken a in
    let blank = ahead_blank from I.outs (blanks count) a (are_blank count) I.taken in
    let low : to ≤ length a = omega (arith, within, places) in
    record {
      given = left;
      more = [];
      split = sym (append-nil left);
      whole = λ heard. refl;
      kept = b;
      noted = subst (λ ks. IsNoted ks c.note_none.new.self) (ap (λ n. (take from a ++ take (to - from) window) ++ blanks (n - to)) (sym places) ∙ all_is from to after S.outs window S.taken a blank low)
          (c.note_none.ensures.notes (take from a ++ take (to - from) window) (c.note_window.ensures.notes (take from a) I.noted));
      did = subst (λ n. WorksThrough seat sight state refused left (length I.windows) false c.args.jobs.now c.wind_all_down.new.jobs (blanks n) b) all (record {
        dealt = I.dealt ++ S.dealt;
        rest = S.rest;
        split = I.split ∙ ap (λ xs. I.dealt ++ xs) S.split ∙ sym (append_assoc I.dealt S.dealt S.rest);
        outs = outs;
        went = ended.0;
        within = (let long = length-append I.dealt S.dealt in omega (arith, begun, number, long));
        rested = ended.1;
        ended = wound_ended seat sight state c.work_window-all.new.jobs c.wind_all_down.new.jobs W S.ended;
        none = wound_given seat sight state c.work_window-all.new.jobs c.wind_all_down.new.jobs W S.none;
        taken = taken_below 0 0 to (length left) outs (blanks count) b (omega (arith, within, all))
            (more_taken 0 0 from to I.outs S.outs (blanks count) a b (omega arith) after I.taken T);
        whole = λ all. absurd (cc all);
        memory = λ all. absurd (cc all);
        wound = λ short. wound_all seat sight state c.work_window-all.new.jobs c.wind_all_down.new.jobs W;
      });
      hands = record {
        windows = I.windows;
        full = I.full;
        last = [];
        few = omega arith;
        rest = map reply_in (drop from b);
        split = handed_short from to after S.outs a b T I.windows I.handed;
        at = g.R.Region.state c.loop.region;
        mid = c.loop.outlet;
        taken = I.heard;
        whole = λ all. absurd (cc all);
        short = λ none. (refl, refl, refl, refl);
      };
    }

pub returns-then-not-heard-clause-works : goal.returns-then-not-heard-clause-works
returns-then-not-heard-clause-works g c =
    let seat = g.B.Board.seat in
    let sight = sight_by g.B.Board.view g.B.Board.trail g.B.Board.at in
    let state = g.P.Region.state in
    let refused = g.G.Gate.may_refuse c.args.gate.now in
    let I = c.loop.invariant.2 in
    let S = c.work_window-all.ensures.all c.if-not-all.false in
    let new = g.Q.Requests.left c.work_window-all.new.requests in
    let from = c.loop.from in
    let to = c.window_end-to.result in
    let count = c.count-count.result in
    let after = c.window_end-to.ensures.after in
    let within = c.window_end-to.ensures.within in
    let few = c.window_end-to.ensures.few in
    let window = c.work_window-all.new.window.items in
    let a = I.kept in
    let places = I.places in
    let T = taken_as from to after S.outs window S.taken a in
    let b = with_window from to after S.outs window S.taken a in
    let blank = ahead_blank from I.outs (blanks count) a (are_blank count) I.taken in
    let low : to ≤ length a = omega (arith, within, places) in
    let w = own from to after S.outs a b T in
    let number = I.number in
    let given = I.dealt ++ S.dealt in
    let long : length given ≡ to = (let l = length-append I.dealt S.dealt in let d = S.end in omega (arith, l, d, number)) in
    let taken = taken_front 0 0 to (both_outs I.outs S.outs) (blanks count) b (more_taken 0 0 from to I.outs S.outs (blanks count) a b (omega arith) after I.taken T) in
    let begun = I.begun in
    let went = window_rested seat sight state refused from (length I.windows) I.dealt S.dealt I.outs S.outs c.args.jobs.now c.loop.jobs c.work_window-all.new.jobs I.number (omega (arith, begun, number)) (I.went, I.rested) S.went in
    let same = ap length T.kept ∙ stored_long T.taken 0 a in
    record {
      given = given;
      more = new;
      split = I.split ∙ ap (λ xs. I.dealt ++ xs) S.split ∙ sym (append_assoc I.dealt S.dealt new);
      whole = λ heard. nil_from_length new (
          let l = ap length S.split ∙ length-append S.dealt new in
          let k = I.count in
          let d = S.end in
          let e = last c.then-not-heard.either heard in
          omega (arith, l, k, d, e));
      kept = take to b;
      noted = subst (λ ks. IsNoted ks c.note_window.new.answers.notes) (front_is from to after S.outs window S.taken a blank low) (c.note_window.ensures.notes (take from a) I.noted);
      did = record {
        dealt = given;
        rest = [];
        split = sym (append-nil given);
        outs = both_outs I.outs S.outs;
        went = went.0;
        within = omega (arith, begun, long, after);
        rested = went.1;
        ended = λ i d low. (S.rest.rest i d low).ended;
        none = λ i d low. (S.rest.rest i d low).none;
        taken = subst (λ n. TakenAs 0 0 n (both_outs I.outs S.outs) (blanks n) (take to b)) (sym long) (subst (λ ys. TakenAs 0 0 to (both_outs I.outs S.outs) ys (take to b)) (take_blanks to count within) taken);
        whole = λ all. refl;
        memory = λ all i d low. (S.rest.rest i d low).runs;
        wound = λ short. absurd (cc short);
      };
      hands = record {
        windows = I.windows;
        full = I.full;
        last = w;
        few = (let l = own_long from to after S.outs a b T (omega (arith, same, low)) in omega (arith, l, few));
        rest = [];
        split = handed_more from to after S.outs a b T I.windows I.handed ∙ ap (λ l. all_replies I.windows ++ l) (sym (append-nil w));
        at = g.R.Region.state c.loop.region;
        mid = c.loop.outlet;
        taken = I.heard;
        whole = λ all. (
          refl,
          subst (λ rs. g.O.Outlet.takes (g.R.Region.state c.loop.region) c.loop.outlet rs c.hand_window-heard.result (g.R.Region.state c.hand_window-heard.new.region) c.hand_window-heard.new.outlet)
              (ap (λ ys. map reply_in (take (to - from) ys)) c.note_window.ensures.window ∙ ap (map reply_in) (window_is from to after S.outs window S.taken a blank low)) c.hand_window-heard.ensures.took,
        );
        short = λ none. absurd (cc none);
      };
    }
  where
    last : (c.hand_window-heard.result ≡ false) ⊎ ((c.hand_window-heard.result ≡ true) × (c.window_end-to.result ≡ c.count-count.result)) → c.hand_window-heard.result ≡ true → c.window_end-to.result ≡ c.count-count.result
    last (inl no_) yes_ = absurd (let both : false ≡ true = sym no_ ∙ yes_ in cc both)
    last (inr end) yes_ = end.1

pub returns-then-not-heard-clause-asked : goal.returns-then-not-heard-clause-asked
returns-then-not-heard-clause-asked g c =
    asked_again (g.R.Region.state c.args.region.now) (g.R.Region.state c.loop.region) (g.R.Region.state c.hand_window-heard.new.region) c.loop.invariant.2.asked c.hand_window-heard.ensures.asked

pub loop-preserved : goal.loop-preserved
loop-preserved g c =
    let seat = g.B.Board.seat in
    let sight = sight_by g.B.Board.view g.B.Board.trail g.B.Board.at in
    let state = g.P.Region.state in
    let refused = g.G.Gate.may_refuse c.args.gate.now in
    let I = c.loop.invariant.2 in
    let S = c.work_window-all.ensures.all c.if-not-all.false in
    let number = I.number in
    let new = g.Q.Requests.left c.work_window-all.new.requests in
    let from = c.loop.from in
    let to = c.window_end-to.result in
    let count = c.count-count.result in
    let after = c.window_end-to.ensures.after in
    let within = c.window_end-to.ensures.within in
    let places = I.places in
    let window = c.work_window-all.new.window.items in
    let a = I.kept in
    let T = taken_as from to after S.outs window S.taken a in
    let b = with_window from to after S.outs window S.taken a in
    let blank = ahead_blank from I.outs (blanks count) a (are_blank count) I.taken in
    let low : to ≤ length a = omega (arith, within, places) in
    let w = own from to after S.outs a b T in
    let same = ap length T.kept ∙ stored_long T.taken 0 a in
    let full = c.window_end-to.ensures.full (let not_yet = c.if-to-count.false in omega (arith, not_yet, within)) in
    let begun = I.begun in
    let rest_long = ap length S.split ∙ length-append S.dealt new in
    let went = window_rested seat sight state refused from (length I.windows) I.dealt S.dealt I.outs S.outs c.args.jobs.now c.loop.jobs c.work_window-all.new.jobs I.number (omega (arith, begun, number)) (I.went, I.rested) S.went in
    let more : length (I.windows ++ w ∷ []) ≡ suc (length I.windows) = (let long = length-append I.windows (w ∷ []) in omega (arith, long)) in (
      tt,
      tt,
      record {
        dealt = I.dealt ++ S.dealt;
        outs = both_outs I.outs S.outs;
        split = I.split ∙ ap (λ xs. I.dealt ++ xs) S.split ∙ sym (append_assoc I.dealt S.dealt new);
        number = (let a = length-append I.dealt S.dealt in let d = S.end in omega (arith, a, d, number));
        count = (let b = I.count in let d = S.end in omega (arith, rest_long, b, d));
        all = I.all;
        kept = b;
        places = omega (arith, same, places);
        went = went.0;
        rest = S.rest;
        taken = more_taken 0 0 from to I.outs S.outs (blanks count) a b (omega arith) after I.taken T;
        noted = subst (λ ks. IsNoted ks c.note_window.new.answers.notes) (front_is from to after S.outs window S.taken a blank low) (c.note_window.ensures.notes (take from a) I.noted);
        room = c.note_window.ensures.room (length new)
            (fewer_room (to - from + length new) (length (g.Q.Requests.left c.loop.requests)) c.loop.answers.notes (let d = S.end in omega (arith, rest_long, d)) I.room);
        cleared = subst IsCleared (sym c.note_window.ensures.desk) c.work_window-all.ensures.cleared;
        window = record {
          blank = c.clear_window.ensures.blank;
          count = (let long = c.clear_window.ensures.count in let kept_ = ap length c.note_window.ensures.window in let had = c.work_window-all.ensures.count in omega (arith, long, kept_, had));
        };
        windows = I.windows ++ w ∷ [];
        begun = omega (arith, begun, full, more);
        rested = subst (λ n. AllRested seat sight state refused n (I.dealt ++ S.dealt) (both_outs I.outs S.outs) c.args.jobs.now c.work_window-all.new.jobs went.0) (sym more)
            (next_rested seat sight state refused (I.dealt ++ S.dealt) (both_outs I.outs S.outs) c.args.jobs.now c.work_window-all.new.jobs went.0 S.rest (length I.windows)
            (let a = length-append I.dealt S.dealt in let d = S.end in omega (arith, a, d, number, begun, full)) went.1);
        full = full_more I.windows w I.full (let long = own_long from to after S.outs a b T (omega (arith, same, low)) in omega (arith, long, full));
        handed = handed_more from to after S.outs a b T I.windows I.handed ∙ sym (all_more I.windows w);
        heard = takes_more g.O.Outlet.takes I.windows w (g.R.Region.state c.args.region.now) c.args.outlet.now (g.R.Region.state c.loop.region) c.loop.outlet (g.R.Region.state c.hand_window-heard.new.region) c.hand_window-heard.new.outlet I.heard
            (subst (λ rs. g.O.Outlet.takes (g.R.Region.state c.loop.region) c.loop.outlet rs true (g.R.Region.state c.hand_window-heard.new.region) c.hand_window-heard.new.outlet)
            (ap (λ ys. map reply_in (take (to - from) ys)) c.note_window.ensures.window ∙ ap (map reply_in) (window_is from to after S.outs window S.taken a blank low))
            (subst (λ h. g.O.Outlet.takes (g.R.Region.state c.loop.region) c.loop.outlet (map reply_in (take (to - from) c.note_window.new.answers.window.items)) h (g.R.Region.state c.hand_window-heard.new.region) c.hand_window-heard.new.outlet) c.if-not-heard.false c.hand_window-heard.ensures.took));
        asked = asked_again (g.R.Region.state c.args.region.now) (g.R.Region.state c.loop.region) (g.R.Region.state c.hand_window-heard.new.region) I.asked c.hand_window-heard.ensures.asked;
      },
    )
