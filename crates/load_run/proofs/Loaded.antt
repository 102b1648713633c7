-- The tally of a run, by what its windows added.
use Rattle.std.proofs.Common.{◌≡◌, ℕ, suc, ◌+◌, ◌^◌, ◌<◌, ◌≤◌, List, [], ◌∷◌, ◌++◌, length, length-append, map, Bool, true, false, Ok, Err, refl, sym, ◌∙◌, ap, subst, append-nil, append_assoc, arith}
use Rattle.fs_model.specs.declared.model.Reply.{Reply}
use Rattle.fs_model.specs.declared.model.Request.{Request}
use Rattle.fs_text.specs.declared.line.LoadTally.{LoadTally}
use Rattle.pm_region.specs.State.{State}
use Rattle.pm_region.specs.Split.{Refuses}
use Rattle.pm_region.specs.declared.split.AttachError.{AttachError}
use Rattle.pm_region.specs.declared.split.AttachError.TheVariants as errors
use Rattle.recover.specs.declared.types.Recovered.{Recovered}
use Rattle.engine_core.specs.Reports.{reply_in}
use Rattle.load_tally.specs.Tallied.{tally_of}
use Rattle.thread_engine.specs.Collected.{had_memory}
use Rattle.thread_engine.specs.Outlets.{all_replies, TakesAll}
use Rattle.thread_engine.specs.RanApart.{RanInWindows}
use Rattle.thread_engine.specs.declared.run_apart.HandedRun.{HandedRun}
use Rattle.load_run.specs.Counted.{CountsMore}
use Rattle.load_run.specs.Loaded.{RanLoad}

-- a refusal of one call is one of the other
pub as_err : {A B : Type 0} (s t : State) (e : AttachError) → Refuses {T = A} s t (Err e) → Refuses {T = B} s t (Err e)
as_err s t e R = record {
  later = R.later;
  fault = λ is. R.fault (let q : e ≡ errors.RegionFault = cc is in ap Err q);
  else_same = λ no_. R.else_same (λ is. no_ (let q : e ≡ errors.RegionFault = cc is in ap Err q));
  no_fall = R.no_fall;
}

pub as_ok : {A B : Type 0} (s t : State) (a : A) (b : B) → Refuses {T = A} s t (Ok a) → Refuses {T = B} s t (Ok b)
as_ok s t a b R = record {
  later = R.later;
  fault = λ is. absurd (cc is);
  else_same = λ no_. R.else_same (λ is. cc is);
  no_fall = R.no_fall;
}

map_long : {X Y : Type 0} (f : X → Y) (xs : List X) → length (map f xs) ≡ length xs
map_long f [] = refl
map_long f (x ∷ xs) = ap suc (map_long f xs)

pub map_both : {X Y : Type 0} (f : X → Y) (xs ys : List X) → map f (xs ++ ys) ≡ map f xs ++ map f ys
map_both f [] ys = refl
map_both f (x ∷ xs) ys = ap (λ l. f x ∷ l) (map_both f xs ys)

module _ {T : Type 0} (tally : T → LoadTally) where
  abbrev pub counting : State → T → List Reply → Bool → State → T → Type 0
  counting s old rs heard t new = (t ≡ s) × CountsMore (tally old) rs heard (tally new)

  -- behind full windows
  counted_all : (ws : List (List Reply)) (s : State) (a : T) (t : State) (b : T) → TakesAll counting ws s a t b → (rs : List Reply) → tally a ≡ tally_of rs [] → tally b ≡ tally_of (rs ++ all_replies ws) []
  counted_all [] s a t b (same, stays) rs is = ap tally stays ∙ is ∙ ap (λ l. tally_of l []) (sym (append-nil rs))
  counted_all (w ∷ ws) s a t b (mid, next, (asked, C), rest) rs is =
      counted_all ws mid next t b rest (rs ++ w) (C.counts refl rs is) ∙ ap (λ l. tally_of l []) (append_assoc rs w (all_replies ws))

  module _ {s : State} {word : ℕ → ℕ} {refused : Bool} {r : Recovered} {asked : List Request} {t : State} {x : HandedRun} {a b : T} (W : RanInWindows counting s word refused r asked t x a b)
      (first : tally a ≡ tally_of [] []) (few : length asked < 2 ^ 63) where
    abbrev replies : List Reply
    replies = map reply_in W.ran.kept

    -- there is a reply for each request
    replies_long : length replies ≡ length W.given
    replies_long = map_long reply_in W.ran.kept ∙ W.ran.keeps.count ∙ ap length W.ran.given

    replies_few : length replies ≤ length asked
    replies_few = (let long = replies_long in let sum = ap length W.split ∙ length-append W.given W.more in omega (arith, long, sum))

    front : tally W.hands.mid ≡ tally_of (all_replies W.hands.windows) []
    front = counted_all W.hands.windows W.before a W.hands.at W.hands.mid W.hands.taken [] first

    whole_text : W.hands.rest ≡ [] → replies ≡ all_replies W.hands.windows ++ W.hands.last
    whole_text none = W.hands.split ∙ ap (λ r. all_replies W.hands.windows ++ (W.hands.last ++ r)) none ∙ ap (λ l. all_replies W.hands.windows ++ l) (append-nil W.hands.last)

    -- none is left out
    heard_all : x.heard ≡ true
    heard_all = by (had_memory x.outcome.end) x.heard refl refl where
      by : (m h : Bool) → had_memory x.outcome.end ≡ m → x.heard ≡ h → x.heard ≡ true
      by m true e f = f
      by false false e f = (W.hands.short e).1
      by true false e f = absurd (
          let H = W.hands.whole e in
          let many = H.1.1.many f (all_replies W.hands.windows) front in
          let sum = ap length (whole_text H.0) ∙ length-append (all_replies W.hands.windows) W.hands.last in
          let low = replies_few in
          omega (arith, many, sum, low, few))

    counted_once : had_memory x.outcome.end ≡ true → tally b ≡ tally_of replies []
    counted_once e =
        let H = W.hands.whole e in
        H.1.1.counts heard_all (all_replies W.hands.windows) front ∙ ap (λ l. tally_of l []) (sym (whole_text H.0))

    pub ran_load : RanLoad s word refused r asked t (record { outcome = x.outcome; tally = tally b })
    ran_load = subst (λ xs. RanLoad s word refused r xs t (record { outcome = x.outcome; tally = tally b })) (sym (W.split ∙ ap (λ m. W.given ++ m) (W.whole heard_all) ∙ append-nil W.given))
        (record { ran = W.ran; comes = W.comes; tally = counted_once })
