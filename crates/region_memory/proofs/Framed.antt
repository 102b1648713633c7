-- What a call of a history says of the region or piece over it.
use Rattle.std.proofs.Common.{◌≡◌, ℕ, ◌≤◌, ◌&&◌, not, Bool, false, List, [], if◌then◌else◌, refl, sym, subst}
use Rattle.pm_region.specs.Cell.{Cell}
use Rattle.pm_region.specs.State.{Frame, Goes}
use Rattle.region_memory.specs.Moves.{Moves, history_state}
use Rattle.region_memory.specs.Volumes.{frame_of, state_with, part_frame, part_state, volume_state, VolumeMoves}
use Rattle.region_memory.specs.declared.history.History.{History}
use Rattle.region_memory.specs.declared.volume.Volume.{Volume}

-- the frame of the region stays, however it is made
framed : (old new : History) (f f' : Frame) (n n' : ℕ) (change : ℕ → Cell → Cell) → Moves old new change → f.since ≡ old.journal.since → f' ≡ f → n ≤ n' → Goes (history_state f n old) (history_state f' n' new) change
framed old new f f' n n' change moves from same le = subst (λ x. Goes (history_state f n old) (history_state x n' new) change) (sym same) (moves.goes f n n' from le)

pub part_goes : (old new : History) (n n' : ℕ) (change : ℕ → Cell → Cell) → Moves old new change → n ≤ n' → Goes (part_state old n) (part_state new n') change
part_goes old new n n' change moves le =
    framed old new (part_frame old) (part_frame new) n n' change moves refl
    (λ i. record { first = moves.first i; words = moves.length i; since = moves.since i; parted = false; cuts = []; bytes = 0; refusals = 0; opens = 0; validations = 0 }) le

pub volume_goes : (old new : History) (attached parted : Bool) (cuts : List ℕ) (bytes o a r n n' : ℕ) (change : ℕ → Cell → Cell) → Moves old new change → n ≤ n'
    → Goes (state_with old attached parted cuts bytes o a r n) (state_with new attached parted cuts bytes o a r n') change
volume_goes old new attached parted cuts bytes o a r n n' change moves le =
    framed old new (frame_of old attached parted cuts bytes o a r) (frame_of new attached parted cuts bytes o a r) n n' change moves refl
    (λ i. record { first = 0; words = if attached && not parted then moves.length i else 0; since = moves.since i; parted = parted; cuts = cuts; bytes = bytes; refusals = r; opens = o; validations = a }) le

-- whatever the counts
pub goes_by : (old new : Volume) (r n r' n' : ℕ) (change : ℕ → Cell → Cell) → VolumeMoves old new change → r' ≡ r → n ≤ n' → Goes (volume_state old r n) (volume_state new r' n') change
goes_by old new r n r' n' change moves same le = subst (λ (x : ℕ). Goes (volume_state old r n) (volume_state new x n') change) (sym same) (moves r n n' le)
