-- From what the cores did, each in a thread of its own, to what is known of their last state.
use Rattle.std.proofs.Common.{◌≡◌, ℕ, ◌/◌, ◌<◌, ◌≤◌, List, [], ◌++◌, sym, ◌∙◌, ap, subst, arith, true, false, Bool, append-nil, refl}
use Rattle.fs_model.specs.declared.model.Request.{Request}
use Rattle.pm_region.specs.Cell.{Cell}
use Rattle.pm_region.specs.State.{State, IsTold, IsTelling, MayLeave, Rose, cell_now}
use Rattle.pm_region.specs.Split.{Attached, Stays, IsOpenedOnceMore}
use Rattle.pm_region.specs.Words.{lasts}
use Rattle.chunk_map.specs.Layouts.{layout_of}
use Rattle.recover.specs.declared.types.Recovered.{Recovered}
use Rattle.engine_laws.specs.Engine.{Engine}
use Rattle.engine_laws.specs.Parts.{AllLicensed}
use Rattle.engine_laws.specs.Stands.{Origin}
use Rattle.engine_core.specs.declared.run_outcome.End.{End}
use Rattle.engine_core.specs.RunStarts.{StandsAsFound}
use Rattle.engine_core.specs.Reports.{Listed, ReportsOn, listed_of, finishes_in, refusals_in, as_told, told_by}
use Rattle.thread_engine.specs.RanApart.{RanApart, Rejoined}
use Rattle.flatstore_commands.specs.Finished.{finishes_of}
use Rattle.flatstore_commands.specs.Attaching.{Asks, GoesOnBy}
use Rattle.flatstore_commands.specs.LastStates.{told_in}
use Rattle.flatstore_commands.specs.ThreadRuns.{CoresRan}
use Rattle.flatstore_commands.specs.declared.report.CommandReport.{CommandReport}
use Rattle.flatstore_commands.proofs.Causing.{HasCauses}
use Rattle.flatstore_commands.proofs.Serving.{Known, words_found}
use Rattle.flatstore_commands.proofs.Standing.{origin_cores}
use Rattle.flatstore_commands.proofs.Staying.{asks_stays, asks_later}

module _ (old s t : State) (found word : ℕ → ℕ) (A : Attached old s s.frame.bytes found) (once : IsOpenedOnceMore old s) (granted : s.frame.refusals ≡ old.frame.refusals) (low : old.faults ≤ s.faults) (refused : Bool)
    (recovered : Recovered) (stands : StandsAsFound s word recovered) (asked : List Request) (end : End) (R : RanApart s word refused recovered asked t end) where
  -- what its answers list
  abbrev pub x : Listed
  x = listed_of R.kept

  abbrev pub o : Origin
  o = R.origin

  abbrev pub f : Engine
  f = R.last

  abbrev pub cores : ℕ
  cores = recovered.layout.cores

  pub began : o.region ≡ s
  began = R.begins.region

  pub count : (layout_of o.found).cores ≡ cores
  count = origin_cores s word recovered stands o R.begins.reads

  -- the joined region tells one moment
  told_last : (n : ℕ) → IsTold t n → IsTelling s
  told_last n told =
      let since = R.rejoined.since in
      let low = told.since in
      let seen = told.seen in
      let is : n ≡ t.stamp = omega (arith, since, low, seen) in
      R.rejoined.tells (subst (IsTold t) is told)

  there : (cells : ℕ → Cell) (image : ℕ → ℕ) → MayLeave t.frame cells image → MayLeave s.frame cells image
  there cells image may w inside =
      let first = R.rejoined.first in
      let words = R.rejoined.words in
      let low = inside.low in
      let high = inside.high in
      may w (record { low = omega (arith, first, low); high = omega (arith, first, words, high) })

  all_given : f.given ++ [] ≡ f.given
  all_given = append-nil f.given

  causes : HasCauses o.found (f.given ++ []) f.answer
  causes =
      let C = R.promised.causes in
      record {
        full = λ n k a is why asked. C.full [] n k a is why asked;
        spent = λ n a is why k asked. C.spent [] n k a is why asked;
        kinds = (R.promised.replies []).each;
        long = λ n a is why q asked. C.long [] n q a is why asked;
      }

  pub known : Known old found cores asked o f end x
  known = record {
    attached = subst (λ (z : State). Attached old z z.frame.bytes found) (sym began) A;
    origin = R.begins.is;
    low = let same = ap (λ (z : State). z.faults) began in omega (arith, low, same);
    kept = let first = ap (λ (z : State). z.faults) began in let last = ap (λ (z : State). z.faults) R.region in let rose = R.rejoined.faults in omega (arith, first, last, rose);
    words = subst (λ z. IsTelling z → (w : ℕ) → w < z.frame.bytes / 8 → o.found w ≡ lasts z w) (sym began) R.begins.tells;
    count = count;
    was = λ n told. subst IsTelling (sym began) (told_last n (subst (λ z. IsTold z n) R.region told));
    bytes = ap (λ (z : State). z.frame.bytes) R.region ∙ R.rejoined.bytes ∙ ap (λ (z : State). z.frame.bytes) (sym began);
    leaves = λ cells image may. subst (λ (z : State). MayLeave z.frame cells image) (sym began) (there cells image (subst (λ (z : State). MayLeave z.frame cells image) R.region may));
    promised = R.promised;
    more = [];
    given = sym R.given ∙ sym all_given;
    all_given = λ not_cut. refl;
    reports = subst (λ z. ReportsOn z o f x) (sym R.region) R.reports;
    done = R.done;
    fault = R.fault;
    whole = R.complete;
    ceased = R.ceased;
    causes = causes;
  }

  -- all requests were given
  pub none_more : known.more ≡ []
  unfolding known
  none_more = refl

  pub bytes : t.frame.bytes ≡ s.frame.bytes
  bytes = R.rejoined.bytes

  pub same : Asks false true f.region t
  same = sym R.region

  pub stays : Stays f.region t
  stays = asks_stays false true f.region t same

  pub later : (n : ℕ) → n ≤ f.region.faults → Rose n f.region.faults → Rose n t.faults
  later = asks_later false true f.region t same

  abbrev pub from : GoesOnBy Rejoined old f.region t.frame.bytes found
  from = record { at = s; attached = subst (λ n. Attached old s n found) (sym bytes) A; once = once; granted = granted; on = subst (λ z. Rejoined s z) (sym R.region) R.rejoined }

  pub licensed_last : IsTelling f.region → AllLicensed f.layout f.group (cell_now f.region)
  licensed_last = subst (λ z. IsTelling z → AllLicensed f.layout f.group (cell_now z)) (sym R.region) R.licensed

  -- of a report on it
  module _ (r : CommandReport) (finishes : finishes_of r.finishes ≡ finishes_in 0 R.kept) (refusals : r.refusals.items ≡ refusals_in 0 R.kept) where
    pub report_told : told_in r ≡ told_by x
    report_told i = as_told (finishes i) (refusals i)

    abbrev pub cores_ran : CoresRan old t found refused cores asked r
    cores_ran = record {
      f = f;
      from = from;
      start = record {
        word = word;
        recovered = recovered;
        stands = stands;
        origin = o;
        begins = R.begins;
        words = subst (λ (z : State). IsTelling z → (w : ℕ) → w < z.frame.bytes / 8 → o.found w ≡ found w) began
            (words_found old t found cores asked o f end x known stays later);
        count = count;
      };
      given = R.given;
      ran = R.ran;
      inside = R.inside;
      ends = same;
      next = R.next;
      kept = R.kept;
      keeps = R.keeps;
      once = R.once;
      finishes = finishes;
      refusals = refusals;
      told_is = report_told ∙ R.reports.told_is;
      licensed = subst (λ z. IsTelling z → AllLicensed f.layout f.group (cell_now z)) R.region licensed_last;
    }
