-- The group that a state shows.
use Rattle.std.specs.Prelude.{◌≡◌, ℕ, false, List, [], Option, Some, None, unwrap_or, option_map, slice_get}
use Rattle.std.specs.declared.cmp.Ordering.{Ordering}
use Rattle.std.specs.Ordering.{nat_cmp, ordering_then}
use Rattle.std.specs.BTreeMap.{BTreeMap, IsEmpty, get}
use Rattle.group_laws.specs.declared.types.Slot.{Slot}
use Rattle.group_laws.specs.declared.types.Slot.TheVariants.{Empty}
use Rattle.group_laws.specs.Places.{Place, owner}
use Rattle.group_laws.specs.Updates.{has}
use Rattle.group_laws.specs.State as laws
use Rattle.group_laws.specs.State.{Group}
use Rattle.group_board.specs.declared.names.Notices.{Notices}
use Rattle.group_board.specs.Mailing.{notices_of}
use Rattle.group_machine.specs.declared.state.MemberView.{MemberView}
use Rattle.group_machine.specs.declared.state.GroupState.{GroupState}

-- how pairs of numbers are ordered
abbrev pub pair_cmp : ℕ × ℕ → ℕ × ℕ → Ordering
pair_cmp x y = ordering_then (nat_cmp x.0 y.0) (nat_cmp x.1 y.1)

-- f of what is there, or d
abbrev pub of : {V X : Type 0} → (V → X) → X → Option V → X
of f d None = d
of f d (Some v) = f v

abbrev pub no_notices : laws.Notices
no_notices = record { dead = []; gone = [] }

abbrev pub last_in : MemberView → ℕ → ℕ
last_in v k = unwrap_or (get nat_cmp v.last k) 0

abbrev pub mailed_in : MemberView → ℕ → laws.Notices
mailed_in v b = unwrap_or (option_map notices_of (get nat_cmp v.mailed b)) no_notices

-- the group at this place with this holder, slots, mailboxes and views
abbrev pub group_at : Place → Option ℕ → BTreeMap (ℕ × ℕ) Slot → BTreeMap (ℕ × ℕ) Notices
    → List MemberView → Group
group_at p holder slots mail vs =
    record {
      place = p;
      holder = holder;
      slot = λ a s. unwrap_or (get pair_cmp slots (a, s)) Empty;
      mail = λ a b. option_map notices_of (get pair_cmp mail (a, b));
      kept = λ h. of (λ v. v.kept.items) [] (slice_get vs h);
      flying = λ h. of (λ v. v.flying.items) [] (slice_get vs h);
      taken = λ h a s. of (λ v. get pair_cmp v.taken (a, s)) None (slice_get vs h);
      broken = λ h. of (λ v. v.broken) false (slice_get vs h);
      holds = λ h. of (λ v. v.holds) false (slice_get vs h);
      looked = λ h. of (λ v. v.looked.items) [] (slice_get vs h);
      last = λ k. of (λ v. last_in v k) 0 (slice_get vs (owner p k));
      cell = λ k. of (λ v. get nat_cmp v.cell k) None (slice_get vs (owner p k));
      pending = λ k. of (λ v. get nat_cmp v.pending k) None (slice_get vs (owner p k));
      present = λ k n. of (λ v. get pair_cmp v.present (k, n)) None (slice_get vs (owner p k));
      told = λ k n. of (λ v. has v.told.items k n) false (slice_get vs (owner p k));
      dead = λ h k n. of (λ v. has v.dead.items k n) false (slice_get vs h);
      doomed = λ h k n. of (λ v. has v.doomed.items k n) false (slice_get vs h);
      leaving = λ h k n. of (λ v. has v.leaving.items k n) false (slice_get vs h);
      mailed = λ a b. of (λ v. mailed_in v b) no_notices (slice_get vs a);
      blocks = λ h q. of (λ v. get nat_cmp v.blocks q) None (slice_get vs h);
      posted = λ h. of (λ v. v.posted.items) [] (slice_get vs h);
      took = λ h. of (λ v. v.took.items) [] (slice_get vs h);
    }

abbrev pub place_of : GroupState → Place
place_of g = record { layout = g.layout; group = g.group }

abbrev pub group_of : GroupState → Group
group_of g = group_at (place_of g) g.holder g.slots g.mail g.views.items

-- nothing is known, and nothing was done
pub record IsEmptyView (v : MemberView) : Type 0 where
  pub kept : v.kept.items ≡ []
  pub flying : v.flying.items ≡ []
  pub taken : IsEmpty v.taken
  pub broken : v.broken ≡ false
  pub holds : v.holds ≡ false
  pub looked : v.looked.items ≡ []
  pub last : IsEmpty v.last
  pub cell : IsEmpty v.cell
  pub pending : IsEmpty v.pending
  pub present : IsEmpty v.present
  pub told : v.told.items ≡ []
  pub dead : v.dead.items ≡ []
  pub doomed : v.doomed.items ≡ []
  pub leaving : v.leaving.items ≡ []
  pub mailed : IsEmpty v.mailed
  pub blocks : IsEmpty v.blocks
  pub posted : v.posted.items ≡ []
  pub took : v.took.items ≡ []
