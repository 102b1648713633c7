-- Beginning the requests of a key that waited, once nothing of the key is in a place.
use Rattle.std.specs.Prelude.{◌≡◌, ◌≢◌, ℕ, List, ◌++◌, map, Some, None, true, false}
use Rattle.std.specs.List.{AllByRecursion}
use Rattle.fs_model.specs.declared.model.Reply.TheVariants.{Stopped}
use Rattle.fs_model.specs.Lawful.{IsLawfulFor, cell_of}
use Rattle.group_laws.specs.MemberViews.{View}
use Rattle.engine_laws.specs.WorkerMoves.{Placed, Hands, line_in, Fixed, asked, replied}

-- The waiting requests of an own key, with nothing of it in a place, are begun in order: each is answered, by the cell or with a refusal that leaves it, until one is staged or none waits. A stopped core answers all of them Stopped.
pub record BeginsKey (v : View) (w x : Hands) (k : ℕ) (fixed : List Fixed) : Type 0 where
  pub idle : w.place k ≡ None
  pub order : w.waits k ≡ map asked fixed ++ line_in x k
  pub stopped : x.stopped ≡ w.stopped
  pub runs : w.stopped ≡ false → IsLawfulFor (v.cell k) false (map replied fixed)
      × (cell_of (v.cell k) (map replied fixed) ≡ v.cell k)
      × AllByRecursion (λ y. y.reply ≢ Stopped) fixed
  pub ends : w.stopped ≡ true → AllByRecursion (λ y. y.reply ≡ Stopped) fixed × (x.place k ≡ None)
  pub staged : (y : Placed) → x.place k ≡ Some y → y.posted ≡ false
