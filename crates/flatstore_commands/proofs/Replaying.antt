-- From the last state of a replay to what the program promises.
use Rattle.std.proofs.Common.{◌≡◌, ◌≢◌, ◌⊎◌, inl, ℕ, ◌/◌, ◌<◌, ◌≤◌, List, [], ◌∷◌, ◌++◌, length, refl, sym, ◌∙◌, ap, subst, arith, true, false, length-append}
use Rattle.pm_region.specs.State.{State, Frame, IsTelling, MayLeave, Rose}
use Rattle.pm_region.specs.Split.{Attached, IsOpenedOnceMore, Stays}
use Rattle.pm_region.specs.Words.{lasts}
use Rattle.fs_model.specs.declared.model.Request.{Request}
use Rattle.fs_text.specs.Output.{replies_text}
use Rattle.fs_text.specs.Streams.{TakesPrefix}
use Rattle.chunk_map.specs.Layouts.{layout_of}
use Rattle.engine_laws.specs.Engine.{Engine}
use Rattle.engine_laws.specs.Stands.{Origin, opening, given_to}
use Rattle.engine_laws.specs.Promises.{AnyTurn}
use Rattle.engine_laws.specs.Ran.{Ran}
use Rattle.engine_core.specs.declared.run_outcome.End.TheVariants as ends
use Rattle.engine_core.specs.declared.run_outcome.Outcome.{Outcome}
use Rattle.engine_core.specs.Endings.{listed_in}
use Rattle.engine_core.specs.Reports.{ReportsOn, as_told, told_by}
use Rattle.engine_laws.proofs.Clients.{ran_given}
use Rattle.flatstore_commands.specs.Finished.{finishes_of}
use Rattle.flatstore_commands.specs.Attaching.{Runs, Asks}
use Rattle.flatstore_commands.specs.Ends.{SourceUse, SinkUse, CountsFaults}
use Rattle.flatstore_commands.specs.LastStates.{told_in, RanTo}
use Rattle.flatstore_commands.specs.Promise.{IsInput, Replays, TakesReplies, TakesFront, asked_in}
use Rattle.flatstore_commands.specs.Played.{Played, HasAnswered, EndsAs, is_ended}
use Rattle.flatstore_commands.specs.declared.report.CommandReport.{CommandReport}
use Rattle.flatstore_commands.proofs.Causing.{HasCauses}
use Rattle.flatstore_commands.proofs.Inputs.{read_trace}
use Rattle.flatstore_commands.proofs.Running as running
use Rattle.flatstore_commands.proofs.Serving.{Known, serves, in_order, ends_then, counts_faults, cut_end}
use Rattle.flatstore_commands.proofs.Standing.{origin_cores}
use Rattle.flatstore_commands.proofs.Staying.{asks_stays, asks_later, asks_none, asks_rose}
use Rattle.flatstore_commands.proofs.Texts.{silent_front}
use Rattle.flatstore_commands.proofs.Written.{front_written, ended_so, unplaced_same, cut_same}

none_behind : {X : Type 0} (xs ys : List X) → xs ≡ xs ++ ys → ys ≡ []
none_behind xs [] e = refl
none_behind xs (y ∷ ys) e = absurd (let n = ap length e in let sum = length-append xs (y ∷ ys) in omega (arith, n, sum))

-- The promise, with the input and the number of cores.
module _ (old s t : State) (found word : ℕ → ℕ) (A : Attached old s s.frame.bytes found) (once : IsOpenedOnceMore old s) (granted : s.frame.refusals ≡ old.frame.refusals) (low : old.faults ≤ s.faults) (source : SourceUse) (x : Outcome)
    (P : Played s word t source x) where
  abbrev o : Origin
  o = P.ran.origin

  abbrev f : Engine
  f = P.ran.last.engine

  abbrev cores : ℕ
  cores = P.recovered.layout.cores

  abbrev input : List ℕ
  input = P.ready.read.input

  began : o.region ≡ s
  began = P.ran.begins.region

  abbrev trace : List Request
  trace = asked_in cores input

  count : (layout_of o.found).cores ≡ cores
  count = origin_cores s word P.recovered P.ready.stands o P.ran.begins.reads

  -- Calls of the region led there from where it was attached.
  pub onward : Runs s t
  onward = running.on old s t found word A once granted P.recovered P.ready.stands cores input P.lines P.ready.read.good x P.ran count

  engine_ran : x.end ≢ ends.Memory → Ran AnyTurn given_to cores P.lines (opening o) f
  engine_ran = running.engine_ran old s t found word A once granted P.recovered P.ready.stands cores input P.lines P.ready.read.good x P.ran count

  given_whole : x.end ≢ ends.Memory → P.ran.given.0 ≡ []
  given_whole not_cut = none_behind f.given P.ran.given.0 (ran_given AnyTurn (λ e g c b m. m.0) cores P.lines (opening o) f (engine_ran not_cut) ∙ P.ran.given.1)

  causes : HasCauses o.found (f.given ++ P.ran.given.0) f.answer
  causes =
      let more = P.ran.given.0 in
      let C = P.ran.promised.causes in
      record {
        full = λ n k a is why asked. C.full more n k a is why asked;
        spent = λ n a is why k asked. C.spent more n k a is why asked;
        kinds = (P.ran.promised.replies more).each;
        long = λ n a is why q asked. C.long more n q a is why asked;
      }

  low_stamp : (n : ℕ) → o.region.stamp ≤ n
  low_stamp n = let same = ap (λ (z : State). z.stamp) began in let stamp = A.stamp in omega (arith, same, stamp)

  pub known : Known old found cores trace o f x.end (listed_in x)
  known = record {
    attached = subst (λ (z : State). Attached old z z.frame.bytes found) (sym began) A;
    origin = P.ran.begins.is;
    was = λ n told. P.ran.stands.run.was n told (low_stamp n);
    bytes = ap (λ (fr : Frame). fr.bytes) P.ran.stands.run.frame;
    leaves = λ cells image may. subst (λ fr. MayLeave fr cells image) P.ran.stands.run.frame may;
    kept = P.ran.stands.run.faults;
    low = let same = ap (λ (z : State). z.faults) began in omega (arith, low, same);
    words = subst (λ z. IsTelling z → (w : ℕ) → w < z.frame.bytes / 8 → o.found w ≡ lasts z w) (sym began) P.ran.begins.tells;
    count = count;
    promised = P.ran.promised;
    more = P.ran.given.0;
    given = read_trace cores input P.lines P.ready.read.good ∙ P.ran.given.1;
    all_given = given_whole;
    reports = subst (λ z. ReportsOn z o f (listed_in x)) (sym P.ran.region) P.ran.reports;
    done = P.ran.done;
    fault = P.ran.fault;
    whole = P.ran.complete;
    ceased = P.ran.ceased;
    causes = causes;
  }

  -- The report is on the last state of the run, behind which the region was asked whether it is in its place.
  module _ (u : State) (sink : SinkUse) (r : CommandReport) (W : HasAnswered x sink r.in_place r.status) (asks : Asks r.complete r.in_place t u)
      (finishes : finishes_of r.finishes ≡ x.finishes.items) (refusals : r.refusals.items ≡ x.refusals.items) (begun : r.began ≡ true) (complete_is : r.complete ≡ is_ended x.end) where
    report_told : told_in r ≡ told_by (listed_in x)
    report_told i = as_told (finishes i) (refusals i)

    asks_last : Asks r.complete r.in_place f.region u
    asks_last = subst (λ z. Asks r.complete r.in_place z u) (sym P.ran.region) asks

    still : Stays f.region u
    still = asks_stays r.complete r.in_place f.region u asks_last

    later : (n : ℕ) → n ≤ f.region.faults → Rose n f.region.faults → Rose n u.faults
    later = asks_later r.complete r.in_place f.region u asks_last

    lost : r.complete ≡ true → r.in_place ≡ false → Rose old.faults u.faults
    lost complete gone =
        let rose = asks_rose r.complete r.in_place f.region u asks_last complete gone in
        let low = known.low in
        let kept = known.kept in
        omega (arith, rose, low, kept)

    ended : EndsAs (TakesReplies sink x.replies.items) (TakesFront sink x.replies.items) x.end sink r.in_place r.status
    ended = ended_so x sink r.status r.in_place W

    front : TakesPrefix sink.before sink.now (replies_text x.replies.items)
    front = front_written x sink r.status r.in_place W

    held : is_ended x.end ≡ false → (sink.now ≡ sink.before) ⊎ (known.more ≡ [])
    held cut = inl (cut_same x sink r.status r.in_place W cut)

    unasked : r.complete ≡ false → f.region ≡ u
    unasked = asks_none r.complete r.in_place f.region u asks_last

    replays : Replays old u found source cores input sink r
    replays = record {
      order = in_order old u found cores trace o f x.end (listed_in x) known still later (TakesReplies sink) (TakesFront sink) sink (silent_front sink) r ended front held lost unasked report_told refusals begun complete_is source input P.lines P.ready.read.good P.ready.read.whole;
      serves = serves old u found cores trace o f x.end (listed_in x) known still later (TakesReplies sink) (TakesFront sink) sink (silent_front sink) r ended front held lost unasked report_told refusals begun complete_is;
      kept_back = λ whole gone. unplaced_same x sink r.status r.in_place W gone;
      ends = ends_then old u found cores trace o f x.end (listed_in x) known still later (TakesReplies sink) (TakesFront sink) sink (silent_front sink) r ended front held lost unasked report_told refusals begun complete_is;
      run = λ whole. running.ran_to old s t found word A once granted P.recovered P.ready.stands cores input P.lines P.ready.read.good x P.ran count u (asks_stays r.complete r.in_place t u asks) r finishes refusals sink W complete_is whole
          (subst (λ b. Asks b r.in_place t u) whole asks);
      broke = λ began cut. running.breaks_off old s t found word A once granted P.recovered P.ready.stands cores input P.lines P.ready.read.good x P.ran count u (asks_stays r.complete r.in_place t u asks) r finishes refusals (cut_end x.end (sym complete_is ∙ cut)) (subst (λ b. Asks b r.in_place t u) cut asks);
    }

    pub replay_counts : CountsFaults old u source sink r.status
    replay_counts = counts_faults old u found cores trace o f x.end (listed_in x) known still later (TakesReplies sink) (TakesFront sink) sink (silent_front sink) r ended front held lost unasked report_told refusals begun complete_is source

    pub promise : (input : List ℕ) × (cores : ℕ) × IsInput source.coming input × Replays old u found source cores input sink r
    promise = (input, cores, P.ready.read.is_input, replays)
