-- What errors say of a region.
use Rattle.std.proofs.Common.{◌≡◌, ℕ, Option, None, refl, sym, ◌∙◌, ap, subst}
use Rattle.std.specs.Prelude.{Result, Ok, Err, IsErrAnd, Vec}
use Rattle.std.specs.Global.{Global}
use Rattle.std.proofs.lemmas.Result.{err_from_is_err_and}
use Rattle.chunk_map.specs.declared.layouts.Geometry.{Geometry}
use Rattle.chunk_map.specs.declared.superblock.NotARegion.{NotARegion}
use Rattle.chunk_map.specs.Layouts.{layout_of, superblock_rule}
use Rattle.chunk_map.specs.Checked.{checked_superblock}
use Rattle.fs_model.specs.declared.model.Pair.{Pair}
use Rattle.store_image.specs.declared.types.Fault.{Fault}
use Rattle.store_image.specs.declared.types.Fault.TheVariants as faults
use Rattle.store_image.specs.declared.types.PlacedEntry.{PlacedEntry}
use Rattle.store_image.specs.Parts.{all_entries}
use Rattle.store_image.specs.Winners.{recovered}
use Rattle.store_image.specs.Listing.{ListsCells}
use Rattle.store_image.specs.Soundness.{damage, first_fault}
use Rattle.store_image.proofs.Clients.{judged, not_a_region}
use Rattle.recover.specs.declared.types.Recovered.{Recovered}
use Rattle.recover.specs.declared.types.RecoverError.{RecoverError}
use Rattle.recover.specs.declared.types.RecoverError.TheVariants as errors
use Rattle.recover.specs.Causes.{HasCause}
use Rattle.recover.specs.Recovering.{IsOf, Restores, Recovers}
use Rattle.recover.specs.Live.{Lists, ListsLive}
use Rattle.recover.specs.Logged.{Logs, ListsLogs}
use Rattle.recover.proofs.FoundLaws.{superblock_broken, store_found}

-- an error that is handed on as another one
pub handed_on : {T E : Type 0} (P : Result T E → Type 0) (r : Result T E) (e : E) → IsErrAnd r (λ d. d ≡ e) → P (Err e) → P r
handed_on P r e is at = let d = err_from_is_err_and r is in subst P (sym (d.1 ∙ ap Err d.2)) at

-- want of memory has no cause in the image
pub memory_cause : (first : Option Fault) (e : RecoverError) → e ≡ errors.Memory → HasCause first e
memory_cause first e is = subst (HasCause first) (sym is) tt

module _ (bytes : ℕ) (image : ℕ → ℕ) where
  -- a superblock that breaks a rule
  pub superblock_cause : (bad : NotARegion) → Err bad ≡ checked_superblock bytes image → HasCause (first_fault bytes image) (errors.Fault (faults.NotARegion bad.rule))
  superblock_cause bad is = sym (not_a_region bytes image bad.rule (superblock_broken bytes image bad is))

  pub recovers_err : (e : RecoverError) → HasCause (first_fault bytes image) e → Recovers bytes image (Err e)
  recovers_err (errors.Fault fault) is = is
  recovers_err errors.Memory is = tt

  pub live_err : (e : RecoverError) → HasCause (first_fault bytes image) e → ListsLive bytes image (Err e)
  live_err (errors.Fault fault) is = is
  live_err errors.Memory is = tt

  pub logs_err : (e : RecoverError) → HasCause (first_fault bytes image) e → ListsLogs bytes image (Err e)
  logs_err (errors.Fault fault) is = is
  logs_err errors.Memory is = tt

  -- behind a superblock that breaks none
  module _ (l : Geometry) (kept : superblock_rule bytes image ≡ None) (is : l ≡ layout_of image) where
    pub region_cause : (e : RecoverError) → HasCause (damage l image) e → HasCause (first_fault bytes image) e
    region_cause e has = subst (λ (first : Option Fault). HasCause first e) (judged bytes image l (damage l image) kept is refl) has

    pub region_whole : damage l image ≡ None → first_fault bytes image ≡ None
    region_whole none = sym (judged bytes image l None kept is (sym none))

    pub restored : (r : Result Recovered RecoverError) → Restores l image r → Recovers bytes image r
    restored (Ok r) told = record {
      sound = store_found bytes image l kept is told.0;
      is_of = subst (λ (k : Geometry). IsOf k image r) is told.1;
    }
    restored (Err e) told = recovers_err e (region_cause e told)

    pub listed : (r : Result (Vec Pair Global) RecoverError) → Lists l image r → ListsLive bytes image r
    listed (Ok pairs) told = (store_found bytes image l kept is told.0, subst (λ (k : Geometry). ListsCells (recovered k image) pairs.items) is told.1)
    listed (Err e) told = live_err e (region_cause e told)

    pub logged : (r : Result (Vec PlacedEntry Global) RecoverError) → Logs l image r → ListsLogs bytes image r
    logged (Ok es) told = (store_found bytes image l kept is told.0, told.1 ∙ ap (λ (k : Geometry). all_entries k image) is)
    logged (Err e) told = logs_err e (region_cause e told)
