-- A region that was opened once, or not at all.
use Rattle.std.proofs.Common.{◌≡◌, ℕ, sym, ◌∙◌, ap, subst, true, false, Bool, Result, Ok, Err}
use Rattle.pm_region.specs.State.{State, Frame}
use Rattle.pm_region.specs.Split.{Attached, Refuses, IsOpenedOnceMore}
use Rattle.pm_region.specs.declared.split.AttachError.{AttachError}
use Rattle.pm_region.specs.declared.split.AttachError.TheVariants.{RegionFault}
use Rattle.pm_region.proofs.Clients.{over_started}
use Rattle.chunk_map.specs.declared.layouts.Geometry.{Geometry}
use Rattle.chunk_map.specs.Layouts.{total_bytes}
use Rattle.flatstore_commands.specs.Attaching.{Runs, GoesOnFrom, Asks, Attaches, AttachesToRun, Creates}
use Rattle.flatstore_commands.specs.declared.report.CommandReport.{CommandReport}
use Rattle.flatstore_commands.proofs.Staying.{asks_stays}

both : (b : Bool) {P : Type 0} → b ≡ true → b ≡ false → P
both b t f = cc (sym t ∙ f)

pub no_more : (s : State) → Runs s s
no_more s = over_started s _ (λ telling. tt)

-- an attach that was answered
pub granted_by : {T : Type 0} (old new : State) (r : Result T AttachError) (x : T) → r ≡ Ok x → Refuses old new r → new.frame.refusals ≡ old.frame.refusals
granted_by old new r x is R = R.else_same (λ err. no_fault (sym is ∙ err)) where
  no_fault : Ok x ≡ Err RegionFault → ⊥
  no_fault e = cc e

pub goes_on : {T : Type 0} (old at new : State) (bytes : ℕ) (image : ℕ → ℕ) (result : Result T AttachError) (x : T) → result ≡ Ok x → Refuses old at result → Attached old at bytes image → IsOpenedOnceMore old at → Runs at new
    → GoesOnFrom old new bytes image
goes_on old at new bytes image result x is R A once on = record {
  at = at;
  attached = A;
  once = once;
  granted = granted_by old at result x is R;
  on = on;
}

pub attaches_once : {T : Type 0} (old at new : State) (found : ℕ → ℕ) (result : Result T AttachError) (x : T) → result ≡ Ok x → Refuses old at result → Attached old at at.frame.bytes found → IsOpenedOnceMore old at → Runs at new
    → (r : CommandReport) → r.attached ≡ true → Attaches old new found r
attaches_once old at new found result x is R A once on r opened = record {
  attached = λ attached. goes_on old at new new.frame.bytes found result x is R (subst (λ (f : Frame). Attached old at f.bytes found) (sym on.frame) A) once on;
  unattached = λ isnt. both r.attached opened isnt;
  cause = λ isnt. both r.attached opened isnt;
}

-- and of which it was asked behind the run whether it is in its place
pub attaches_to_run : {T : Type 0} (old at left new : State) (found : ℕ → ℕ) (result : Result T AttachError) (x : T) → result ≡ Ok x → Refuses old at result → Attached old at at.frame.bytes found → IsOpenedOnceMore old at → Runs at left
    → (r : CommandReport) → r.attached ≡ true → Asks r.complete r.in_place left new → AttachesToRun old new found r
attaches_to_run old at left new found result x is R A once on r opened asks = record {
  attached = λ attached. record {
    at = at;
    attached = subst (λ n. Attached old at n found) (sym ((asks_stays r.complete r.in_place left new asks).bytes ∙ ap (λ (f : Frame). f.bytes) on.frame)) A;
    once = once;
    granted = granted_by old at result x is R;
    on = record { left = left; done = on; asks = asks };
  };
  unattached = λ isnt. both r.attached opened isnt;
  cause = λ isnt. both r.attached opened isnt;
}

-- a region that is created
pub creates_once : {T : Type 0} (old at new : State) (l : Geometry) (result : Result T AttachError) (x : T) → result ≡ Ok x → Refuses old at result → Attached old at (total_bytes l) (λ w. 0) → IsOpenedOnceMore old at → Runs at new
    → (r : CommandReport) → r.attached ≡ true → Creates old new l r
creates_once old at new l result x is R A once on r opened = record {
  created = λ created. goes_on old at new (total_bytes l) (λ w. 0) result x is R A once on;
  uncreated = λ isnt. both r.attached opened isnt;
  cause = λ isnt. both r.attached opened isnt;
}
