-- What a retirement leaves of a view, as a licence asks for it.
use Rattle.std.proofs.Common.{◌≡◌, ℕ, ◌<◌, true, false, List, is_some, sym, ◌∙◌, ap, cond}
use Rattle.log_entry.specs.declared.entry.EntryName.{EntryName}
use Rattle.core_log.specs.Log.{LogState, IsOwn, tail_of, tail_in}
use Rattle.core_log.proofs.Clients.{own_chunk, is_tail}
use Rattle.group_laws.specs.Updates.{has}
use Rattle.group_laws.specs.Places.{Place}
use Rattle.group_laws.specs.MemberViews.{View}
use Rattle.group_board.specs.Views.{after_retire, TidiedIn}
use Rattle.licence.specs.ViewChanges.{Forgets}

pub forgets_by : (p : Place) (m : ℕ) (ns : List EntryName) (v u : View) → TidiedIn p m (after_retire p m ns v) u → Forgets ns v u
forgets_by p m ns v u T = record {
  kept = ap (λ (x : View). x.kept) T.4;
  flying = ap (λ (x : View). x.flying) T.4;
  doomed = λ k n off was. ap (λ (x : View). x.doomed k n) T.4 ∙ ap (λ (b : _). cond b false (v.doomed k n)) off ∙ was;
  blocks = λ q b is. sym (ap (λ (x : View). x.blocks q) T.4) ∙ is;
}

-- a chunk of the log is one of the part
pub chunk_within : (log : LogState) → IsOwn log → (j : ℕ) → is_some (tail_of log.chunks j) ≡ true → j < log.layout.chunks
chunk_within log own j has = (own_chunk log own j (tail_in log j) (is_tail (tail_of log.chunks j) has)).within
