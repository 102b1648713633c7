-- The promises of a state, and the moves that keep them.
use Rattle.std.proofs.Common.{◌≡◌, ℕ, zero, suc, ◌<◌, List, [], ◌∷◌, Bool, refl, ap, arith}
use Rattle.fs_model.specs.declared.model.Request.{Request}
use Rattle.fs_text.specs.declared.line.Line.{Line}
use Rattle.pm_region.specs.State.{Rose}
use Rattle.fs_text.specs.declared.line.Line.TheVariants.{Ask, Go}
use Rattle.chunk_map.specs.declared.layouts.Geometry.{Geometry}
use Rattle.chunk_map.specs.Layouts.{layout_of}
use Rattle.engine_laws.specs.Engine.{Engine}
use Rattle.engine_laws.specs.Idle.{IsIdle}
use Rattle.engine_laws.specs.Ran.{Pass, Drains, Ran}
use Rattle.engine_laws.specs.Stands.{Origin, Stands, StandsNow, given_to, opening}
use Rattle.engine_laws.specs.Causes.{Causes}
use Rattle.engine_laws.specs.Promises.{IsOrigin, HasStopped, Promised, IsDone, AnyMove, AnyTurn}
use Rattle.engine_laws.proofs.Stands.{stands_on}
use Rattle.engine_laws.proofs.Begins.{opens, gives}
use Rattle.engine_laws.proofs.Drained.{still_pass, drained, drained_answered}
use Rattle.engine_laws.proofs.Promises.{stands_now, crashes, blocks, answers, recovers_all}
use Rattle.engine_laws.proofs.WhyRefused.{causes}
use Rattle.engine_laws.proofs.Ran.{Delivers, goes, pass, ran}

pub promised_now : (o : Origin) (e : Engine) → StandsNow o e → Causes o e → (HasStopped e → Rose o.region.faults e.region.faults) → Promised o e
promised_now o e S why cause = record {
  crash = λ more t told from image may. crashes o e S more t told from image may;
  blocks = λ t told from image may. blocks o e S t told from image may;
  replies = λ more. answers o e S more;
  causes = why;
  cause = cause;
  last = λ all going telling image may k. recovers_all o e S all going telling image may k;
}

pub promised : (o : Origin) (e : Engine) → Stands o e → Promised o e
promised o e S = promised_now o e (stands_now o e S) (causes o e S) (λ h. S.stopped h.0 h.1 h.2)

pub any_delivers : Delivers AnyMove
any_delivers e f c b m = m

-- What a run keeps, up to its last pass, in which nothing moved.
module _ (Move : Engine → ℕ → Bool → Engine → Type 0) (P : Engine → Type 0) (moves : (e : Engine) (c : ℕ) (b : Bool) (f : Engine) → P e → Move e c b f → P f) (asks : (e : Engine) (q : Request) → P e → P (given_to e q)) (cores : ℕ) where
  last_drain : (passes : ℕ) (e f : Engine) → P e → Drains Move cores passes e f → (mid : Engine) × P mid × Pass Move 0 cores 0 mid f
  last_drain zero e f p r = (e, p, r)
  last_drain (suc passes) e f p r = last_drain passes r.2 f (pass Move P moves 0 cores r.0 e r.2 p r.3) r.4

  pub last_pass : (ls : List Line) (e f : Engine) → P e → Ran Move given_to cores ls e f → (mid : Engine) × P mid × Pass Move 0 cores 0 mid f
  last_pass [] e f p r = last_drain r.0 e f p r.1
  last_pass (Ask q ∷ ls) e f p r = last_pass ls (given_to e q) f (asks e q p) r
  last_pass (Go c turns ∷ ls) e f p r = last_pass ls r.0 f (goes Move P moves c turns e r.0 p r.1) r.2

turn_stands : (o : Origin) (e : Engine) (c : ℕ) (b : Bool) (f : Engine) → Stands o e → AnyTurn e c b f → Stands o f
turn_stands o e c b f S m = stands_on o e f c m.0.0 m.0.1 S m.0.2

-- A run whose idle turns are idle ends with everything answered.
pub done : (o : Origin) (ls : List Line) (e : Engine) → IsOrigin o → Ran AnyTurn given_to (layout_of o.found).cores ls (opening o) e → IsDone o e
done o ls e is r =
    let cores : ℕ = (layout_of o.found).cores in
    let first : Stands o (opening o) = opens o is.sound is.first is.words is.certain in
    let end = ran AnyTurn (Stands o) (turn_stands o) given_to (gives o) cores ls (opening o) e first r in
    let last = last_pass AnyTurn (Stands o) (turn_stands o) (gives o) cores ls (opening o) e first r in
    let idle : (c : ℕ) → c < e.layout.cores → IsIdle e c = (λ c low.
    still_pass AnyTurn (λ x y d m. m.2 refl) 0 cores last.0 e (λ d none. absurd (omega (arith, none))) last.2 c (let same : e.layout.cores ≡ cores = ap (λ (l : Geometry). l.cores) end.layout in omega (arith, low, same))) in
    let D = drained o e end idle in
    record { promised = promised o e end; answered = drained_answered o e end D; drained = D }
