-- What an outlet over a sink wrote, window by window.
use Rattle.std.proofs.Common.{◌≡◌, ◌≢◌, inl, inr, ℕ, ◌≤◌, List, [], ◌∷◌, ◌++◌, length, map, Bool, true, false, Option, Some, None, refl, sym, ◌∙◌, ap, subst, append-nil, append_assoc, arith}
use Rattle.fs_model.specs.declared.model.Reply.{Reply}
use Rattle.fs_model.specs.declared.model.Request.{Request}
use Rattle.pm_region.specs.State.{State, Rose, counted}
use Rattle.pm_region.specs.Split.{IsRevalidated, IsOutOfPlace}
use Rattle.fs_text.specs.Output.{ended, reply_line, replies_text}
use Rattle.fs_text.specs.Streams.{Takes, TakesPrefix}
use Rattle.fs_text.proofs.Streaming.{prefix_longer, prefix_none, prefix_of, takes_more, takes_none}
use Rattle.thread_engine.specs.declared.text_outlet.Unwritten.{Unwritten}
use Rattle.thread_engine.specs.declared.text_outlet.Unwritten.TheVariants.{Astray, SinkFault, Memory}
use Rattle.recover.specs.declared.types.Recovered.{Recovered}
use Rattle.engine_core.specs.Reports.{reply_in}
use Rattle.thread_engine.specs.declared.run_apart.HandedRun.{HandedRun}
use Rattle.thread_engine.specs.Collected.{had_memory}
use Rattle.thread_engine.specs.Outlets.{IsAsked, all_replies, TakesAll, HandsOut}
use Rattle.thread_engine.specs.Printed.{WhyUnwritten, WritesWindow, Prints, PrintsFront, IsOutInWindows, HasPrinted, RanToSink}
use Rattle.thread_engine.specs.RanApart.{RanInWindows}
use Rattle.thread_engine.proofs.Handing.{unasked, asked_again}
use Rattle.thread_engine.proofs.Looks.{asked_there}

-- the text of some replies and of others behind them
text_both : (xs ys : List Reply) → replies_text (xs ++ ys) ≡ replies_text xs ++ replies_text ys
text_both [] ys = refl
text_both (x ∷ xs) ys = ap (λ l. ended (reply_line x) ++ l) (text_both xs ys) ∙ sym (append_assoc (ended (reply_line x)) (replies_text xs) (replies_text ys))

-- behind what was taken comes a beginning of more
prefix_behind : (a b c : Option (List ℕ)) (xs ys : List ℕ) → Takes a b xs → TakesPrefix b c ys → TakesPrefix a c (xs ++ ys)
prefix_behind a b c xs ys h (rest, (front, e, k)) = (rest, (xs ++ front, ap (λ l. xs ++ l) e ∙ sym (append_assoc xs front rest), takes_more a b c xs front h k))

-- a count that rose after it did not fall
rose_later : (a b c : ℕ) → a ≤ b → Rose b c → Rose a c
rose_later a b c low rose = omega (arith, low, rose)

-- it was found in its place one time more
found_once : (s t : State) → IsRevalidated s t → t.frame.validations ≡ counted s.frame.validations
found_once s t e = ap (λ (z : State). z.frame.validations) e

module _ {T S : Type 0} (handle : T → ℕ) (sink : T → S) (cause : T → Option Unwritten) (taken : S → Option (List ℕ)) (flushed : S → Bool) (count : S → ℕ) where
  abbrev pub printing : State → T → List Reply → Bool → State → T → Type 0
  printing s old replies heard t new = (handle new ≡ handle old) × WritesWindow taken flushed count s (sink old) replies heard t (sink new) (cause new)

  wrote_all : (ws : List (List Reply)) (s : State) (a : T) (t : State) (b : T) → TakesAll printing ws s a t b → Takes (taken (sink a)) (taken (sink b)) (replies_text (all_replies ws)) × (count (sink a) ≤ count (sink b)) × IsAsked s t × (handle b ≡ handle a)
  wrote_all [] s a t b (same, stays) = (subst (λ z. Takes (taken (sink a)) (taken (sink z)) []) (sym stays) (takes_none (taken (sink a))), subst (λ z. count (sink a) ≤ count (sink z)) (sym stays) (omega arith), subst (IsAsked s) (sym same) (unasked s), ap handle stays)
  wrote_all (w ∷ ws) s a t b (mid, next, (named, W), rest) =
      let R = wrote_all ws mid next t b rest in
      let here = W.all refl in (
        subst (Takes (taken (sink a)) (taken (sink b))) (sym (text_both w (all_replies ws))) (takes_more (taken (sink a)) (taken (sink next)) (taken (sink b)) (replies_text w) (replies_text (all_replies ws)) here.1 R.0),
        (let low = W.later in let more = R.1 in omega (arith, low, more)),
        asked_again s mid t (asked_there s mid here.0) R.2,
        R.3 ∙ named,
      )

  -- behind each window's look
  out_all : (ws : List (List Reply)) (s : State) (a : T) (t : State) (b : T) → TakesAll printing ws s a t b → TakesAll Prints ws s (taken (sink a)) t (taken (sink b))
  out_all [] s a t b (same, stays) = (same, ap (λ z. taken (sink z)) stays)
  out_all (w ∷ ws) s a t b (mid, next, (named, W), rest) = (mid, taken (sink next), (let here = W.all refl in (here.0, here.1)), out_all ws mid next t b rest)

  -- a look that found it there, behind any number of them
  found_more : (ws : List (List Reply)) (s : State) (a : T) (t : State) (b : T) (u : State) → TakesAll printing ws s a t b → IsRevalidated t u → Rose s.frame.validations u.frame.validations
  found_more [] s a t b u (same, stays) look = (let one = found_once t u look in let v = ap (λ (z : State). z.frame.validations) same in omega (arith, one, v))
  found_more (w ∷ ws) s a t b u (mid, next, (named, W), rest) look =
      let one = found_once s mid (W.all refl).0 in
      let more = found_more ws mid next t b u rest look in
      omega (arith, one, more)

  module _ (all heard : Bool) (replies : List Reply) (s : State) (a : T) (t : State) (b : T) (H : HandsOut printing all heard replies s a t b) where
    abbrev Done : Type 0
    Done = HasPrinted taken flushed count all heard replies s (sink a) t (sink b) (cause b)

    R : Takes (taken (sink a)) (taken (sink H.mid)) (replies_text (all_replies H.windows)) × (count (sink a) ≤ count (sink H.mid)) × IsAsked s H.at × (handle H.mid ≡ handle a)
    R = wrote_all H.windows s a H.at H.mid H.taken

    abbrev front : List ℕ
    front = replies_text (all_replies H.windows)

    text_whole : H.rest ≡ [] → replies_text replies ≡ front ++ replies_text H.last
    text_whole none = ap replies_text (H.split ∙ ap (λ r. all_replies H.windows ++ (H.last ++ r)) none ∙ ap (λ r. all_replies H.windows ++ r) (append-nil H.last)) ∙ text_both (all_replies H.windows) H.last

    -- what is out, with what became of the last window
    out_with : PrintsFront H.at (taken (sink H.mid)) H.last t (taken (sink b)) → IsOutInWindows s t (taken (sink a)) (taken (sink b)) replies
    out_with front_is = record {
      windows = H.windows;
      full = H.full;
      last = H.last;
      few = H.few;
      rest = H.rest;
      split = H.split;
      at = H.at;
      mid = taken (sink H.mid);
      whole = out_all H.windows s a H.at H.mid H.taken;
      front = front_is;
    }

    -- all windows were taken
    went : all ≡ true → heard ≡ true → Done
    went e f =
        let W = (H.whole e).1.1 in
        let out = W.all f in
        let took = subst (Takes (taken (sink a)) (taken (sink b))) (sym (text_whole (H.whole e).0)) (takes_more (taken (sink a)) (taken (sink H.mid)) (taken (sink b)) front (replies_text H.last) R.0 out.1) in
        record {
          later = (let low = R.1 in let more = W.later in omega (arith, low, more));
          begins = prefix_of (taken (sink a)) (taken (sink b)) (replies_text replies) took;
          out = out_with (inl (out.0, prefix_of (taken (sink H.mid)) (taken (sink b)) (replies_text H.last) out.1));
          found = λ all_is here. found_more H.windows s a H.at H.mid t H.taken out.0;
          writes = λ all_is heard_is. (took, out.2);
          fails = λ no_. absurd (let both : true ≡ false = sym f ∙ no_ in cc both);
          sunk = λ no_ why. absurd (let both : true ≡ false = sym f ∙ no_ in cc both);
          astray = λ no_ why. absurd (let both : true ≡ false = sym f ∙ no_ in cc both);
        }

    -- the last one was not
    front_by : (why : Unwritten) → WhyUnwritten taken count H.at (sink H.mid) H.last t (sink b) why → PrintsFront H.at (taken (sink H.mid)) H.last t (taken (sink b))
    front_by Astray w = inr (inl w.0, ap taken w.1)
    front_by SinkFault w = inl (w.0, w.2)
    front_by Memory w = inl w

    looked : (why : Unwritten) → WhyUnwritten taken count H.at (sink H.mid) H.last t (sink b) why → why ≢ Astray → IsRevalidated H.at t
    looked Astray w not = absurd (not refl)
    looked SinkFault w not = w.0
    looked Memory w not = w.0

    last_front : (why : Unwritten) → WhyUnwritten taken count H.at (sink H.mid) H.last t (sink b) why → TakesPrefix (taken (sink H.mid)) (taken (sink b)) (replies_text H.last)
    last_front Astray w = subst (λ z. TakesPrefix (taken (sink H.mid)) (taken z) (replies_text H.last)) (sym w.1) (prefix_none (taken (sink H.mid)) (taken (sink H.mid)) (replies_text H.last) (takes_none (taken (sink H.mid))))
    last_front SinkFault w = w.2
    last_front Memory w = w.1

    rose : (why : Unwritten) → WhyUnwritten taken count H.at (sink H.mid) H.last t (sink b) why → why ≡ SinkFault → Rose (count (sink a)) (count (sink b))
    rose Astray w is = absurd (cc is)
    rose SinkFault w is = rose_later (count (sink a)) (count (sink H.mid)) (count (sink b)) R.1 w.1
    rose Memory w is = absurd (cc is)

    lost : (why : Unwritten) → WhyUnwritten taken count H.at (sink H.mid) H.last t (sink b) why → why ≡ Astray → (at : State) × IsAsked s at × IsOutOfPlace at t
    lost Astray w is = (H.at, R.2, w.0)
    lost SinkFault w is = absurd (cc is)
    lost Memory w is = absurd (cc is)

    stopped : all ≡ true → heard ≡ false → Done
    stopped e f =
        let W = (H.whole e).1.1 in
        let F = W.front f in
        record {
          later = (let low = R.1 in let more = W.later in omega (arith, low, more));
          begins = subst (TakesPrefix (taken (sink a)) (taken (sink b))) (sym (text_whole (H.whole e).0)) (prefix_behind (taken (sink a)) (taken (sink H.mid)) (taken (sink b)) front (replies_text H.last) R.0 (last_front F.0 F.2));
          out = out_with (front_by F.0 F.2);
          found = λ all_is here. found_more H.windows s a H.at H.mid t H.taken (looked F.0 F.2 (λ is. here f (F.1 ∙ ap Some is)));
          writes = λ all_is heard_is. absurd (let both : false ≡ true = sym f ∙ heard_is in cc both);
          fails = λ no_. (F.0, F.1);
          sunk = λ no_ is. rose F.0 F.2 (cc (sym F.1 ∙ is));
          astray = λ no_ is. lost F.0 F.2 (cc (sym F.1 ∙ is));
        }

    -- memory ran out in a window
    short : all ≡ false → Done
    short e =
        let S = H.short e in
        let took = subst (λ z. Takes (taken (sink a)) (taken (sink z)) front) (sym S.3) R.0 in
        record {
          later = subst (λ z. count (sink a) ≤ count (sink z)) (sym S.3) R.1;
          begins = subst (TakesPrefix (taken (sink a)) (taken (sink b))) (sym (ap replies_text H.split ∙ text_both (all_replies H.windows) (H.last ++ H.rest))) (prefix_longer (taken (sink a)) (taken (sink b)) front (replies_text (H.last ++ H.rest)) (prefix_of (taken (sink a)) (taken (sink b)) front took));
          out = out_with (inr (inr S.2, ap (λ z. taken (sink z)) S.3));
          found = λ all_is here. absurd (let both : false ≡ true = sym e ∙ all_is in cc both);
          writes = λ all_is heard_is. absurd (let both : false ≡ true = sym e ∙ all_is in cc both);
          fails = λ no_. absurd (let both : true ≡ false = sym S.1 ∙ no_ in cc both);
          sunk = λ no_ why. absurd (let both : true ≡ false = sym S.1 ∙ no_ in cc both);
          astray = λ no_ why. absurd (let both : true ≡ false = sym S.1 ∙ no_ in cc both);
        }

    pub one_sink : handle b ≡ handle a
    one_sink = by all refl where
      by : (x : Bool) → all ≡ x → handle b ≡ handle a
      by true e = (H.whole e).1.0 ∙ R.3
      by false e = ap handle (H.short e).3 ∙ R.3

    -- what is out are the windows that were taken
    pub printed : (x : Done) × (x.out.windows ≡ H.windows)
    unfolding went stopped short out_with
    printed = by all heard refl refl where
      by : (x y : Bool) → all ≡ x → heard ≡ y → (d : Done) × (d.out.windows ≡ H.windows)
      by true true e f = (went e f, refl)
      by true false e f = (stopped e f, refl)
      by false y e f = (short e, refl)

    abbrev pub has_printed : Done
    has_printed = printed.0

  -- What a run came to whose outlet wrote to a sink, with the cause where a window's text is not out.
  module _ {s : State} {word : ℕ → ℕ} {refused : Bool} {r : Recovered} {asked : List Request} {t : State} {x : HandedRun} {a b : T} (W : RanInWindows printing s word refused r asked t x a b) (why : Option Unwritten)
      (none : x.heard ≡ true → why ≡ None) (some_ : x.heard ≡ false → why ≡ cause b) where
    abbrev all : Bool
    all = had_memory x.outcome.end

    P : HasPrinted taken flushed count all x.heard (map reply_in W.ran.kept) W.before (sink a) W.behind (sink b) (cause b)
    P = has_printed all x.heard (map reply_in W.ran.kept) W.before a W.behind b W.hands

    windows_are : P.out.windows ≡ W.hands.windows
    unfolding P
    windows_are = (printed all x.heard (map reply_in W.ran.kept) W.before a W.behind b W.hands).1

    -- a window's text is out, or there is a cause
    heard_by : why ≡ None → x.heard ≡ true
    heard_by is = by x.heard refl where
      by : (h : Bool) → x.heard ≡ h → x.heard ≡ true
      by true e = e
      by false e = absurd (let F = P.fails e in let both : None ≡ Some F.0 = sym is ∙ some_ e ∙ F.1 in cc both)

    unheard_by : (w : Unwritten) → why ≡ Some w → (x.heard ≡ false) × (cause b ≡ Some w)
    unheard_by w is = by x.heard refl where
      by : (h : Bool) → x.heard ≡ h → (x.heard ≡ false) × (cause b ≡ Some w)
      by true e = absurd (let both : None ≡ Some w = sym (none e) ∙ is in cc both)
      by false e = (e, sym (some_ e) ∙ is)

    pub ran_to_sink : RanToSink (taken (sink a)) (taken (sink b)) (flushed (sink b)) (count (sink a)) (count (sink b)) s word refused r asked t (record { outcome = x.outcome; unwritten = why })
    ran_to_sink = record {
      given = W.given;
      more = W.more;
      split = W.split;
      whole = λ is. W.whole (heard_by is);
      ran = W.ran;
      comes = W.comes;
      memory = λ m. none ((W.hands.short (ap had_memory m)).1);
      later = P.later;
      begins = P.begins;
      parted = W.before;
      behind = W.behind;
      unasked = W.unasked;
      asked_since = W.asked_since;
      out = P.out;
      between = λ i low. W.between i (subst (λ ws. i ≤ length ws) windows_are low);
      ended = W.ended;
      writes = λ whole is. P.writes whole (heard_by is);
      sunk = λ is. (let U = unheard_by SinkFault is in P.sunk U.0 U.1);
      found = λ whole here. (let rose = P.found whole (λ e is. here (some_ e ∙ is)) in let first = W.unasked in let last = W.asked_since in omega (arith, rose, first, last));
      astray = λ is. (let U = unheard_by Astray is in let L = P.astray U.0 U.1 in let low = W.parted in let asked_ = L.1.later in let rose = L.2.faulted in let up = W.joined in omega (arith, low, asked_, rose, up));
    }
