-- Where a replay stands: what holds between any two moves.
use Rattle.std.specs.Prelude.{◌≡◌, ℕ, ◌/◌, ◌≤◌, ◌<◌, [], ◌∷◌, ◌++◌, length, true, false, None}
use Rattle.pm_region.specs.declared.region_sizes.TheConstants.{WORD_BYTES}
use Rattle.fs_model.specs.declared.model.Request.{Request}
use Rattle.fs_model.specs.Cells.{key_of}
use Rattle.fs_model.specs.Changes.{IsPrefixCell}
use Rattle.pm_region.specs.State.{During, IsTold, IsTelling, MayLeave, cell_now, Faulted}
use Rattle.chunk_map.specs.Layouts.{layout_of, owner}
use Rattle.store_image.specs.Soundness.{IsSound}
use Rattle.store_image.specs.Winners.{recovered}
use Rattle.group_laws.specs.OpeningImages.{opened}
use Rattle.group_laws.specs.Updates.{change}
use Rattle.group_laws.specs.Regions.{place_at}
use Rattle.engine_laws.specs.Parts.{Groups, AllLicensed, HasSuperblock, group_of, member_of}
use Rattle.headline.specs.Limits.{version_of}
pub use Rattle.engine_laws.specs.Origins.{Origin, start_of, stock_found}
use Rattle.engine_laws.specs.Rooms.{Rooms}
use Rattle.engine_laws.specs.RefusalCauses.{HaveCauses, raised_by}
use Rattle.engine_laws.specs.Engine.{Engine, group_for}
use Rattle.engine_laws.specs.Keys.{KeyStands, changes_at, finished_until, pairs}

-- An image of the stamp t: it is sound, and recovers for each key the cell after the changes that were finished by then, or after one more.
pub record ShowsPrefix (o : Origin) (e : Engine) (keys : (k : ℕ) → KeyStands (start_of o k) e k)
    (t : ℕ) (image : ℕ → ℕ) : Type 0 where
  pub sound : IsSound o.region.frame.bytes image
  pub layout : layout_of image ≡ layout_of o.found
  pub cells : (k : ℕ) → IsPrefixCell (start_of o k) (changes_at (start_of o k) e k (keys k))
      (finished_until t (keys k).served) (recovered (layout_of o.found) image k)

pub record Stands (o : Origin) (e : Engine) : Type 0 where
  pub sound : IsSound o.region.frame.bytes o.found
  pub first : o.region.frame.first ≡ 0
  pub words : o.region.frame.words ≡ o.region.frame.bytes / WORD_BYTES
  pub layout : e.layout ≡ layout_of o.found
  -- the groups are lawful, and each part is licensed
  pub groups : Groups e.layout e.group
  pub run : During o.region e.region (λ cells. Unit {0})
  pub superblock : IsTelling e.region → HasSuperblock o.found (cell_now e.region)
  pub licensed : IsTelling e.region → AllLicensed e.layout e.group (cell_now e.region)
  -- the keys
  pub keys : (k : ℕ) → KeyStands (start_of o k) e k
  pub unasked : (n : ℕ) → length e.given ≤ n → e.answer n ≡ None
  -- what a crash may have left at each told moment so far
  pub crash : (t : ℕ) → IsTold e.region t → o.region.stamp ≤ t → (image : ℕ → ℕ)
      → MayLeave o.region.frame (e.region.cells t) image → ShowsPrefix o e keys t image
  -- why requests were refused, and how far the versions are
  pub causes : (k : ℕ) → HaveCauses (layout_of o.found) (version_of o.found k)
      (pairs (keys k).served)
  pub versions : (k : ℕ) → (group_for e k).last k ≤ raised_by (version_of o.found k)
      (pairs (keys k).served)
  pub rooms : Rooms o e
  -- who has stopped has a cause
  pub stopped : (c : ℕ) → c < e.layout.cores → e.stopped c ≡ true
      → Faulted o.region e.region
  pub broken : (c : ℕ) → c < e.layout.cores → (e.group (group_of e.layout c)).broken
      (member_of e.layout c) ≡ true → e.stopped c ≡ true

-- What holds at one moment, however the region came there: each group is lawful, each part licensed, and each key where its answers led it. At each told moment since the origin each image is sound and shows a prefix.
pub record StandsNow (o : Origin) (e : Engine) : Type 0 where
  pub sound : IsSound o.region.frame.bytes o.found
  pub first : o.region.frame.first ≡ 0
  pub words : o.region.frame.words ≡ o.region.frame.bytes / WORD_BYTES
  pub layout : e.layout ≡ layout_of o.found
  pub groups : Groups e.layout e.group
  pub superblock : IsTelling e.region → HasSuperblock o.found (cell_now e.region)
  pub licensed : IsTelling e.region → AllLicensed e.layout e.group (cell_now e.region)
  pub keys : (k : ℕ) → KeyStands (start_of o k) e k
  pub unasked : (n : ℕ) → length e.given ≤ n → e.answer n ≡ None
  pub crash : (t : ℕ) → IsTold e.region t → o.region.stamp ≤ t → (image : ℕ → ℕ)
      → MayLeave o.region.frame (e.region.cells t) image → ShowsPrefix o e keys t image

-- A request is given to its owner.
abbrev pub given_to : Engine → Request → Engine
given_to e q = record e {
  given = e.given ++ q ∷ [];
  backlog = change e.backlog (owner e.layout (key_of q)) (λ xs. xs ++ (length e.given, q) ∷ []);
}

-- the first state: the groups open on what was found
abbrev pub opening : Origin → Engine
opening o = record {
  layout = layout_of o.found;
  region = o.region;
  group = λ g. opened (place_at (layout_of o.found) g) o.found;
  given = [];
  backlog = λ c. [];
  takes = λ c. true;
  stopped = λ c. false;
  stock = stock_found o;
  place = λ k. None;
  waits = λ k. [];
  answer = λ n. None;
}
