-- A put that is short enough and has a version left is refused for want of room alone.
use Rattle.std.proofs.Common.{◌≡◌, ℕ, ◌-◌, ◌/◌, ◌<◌, ◌≤◌, cond, List, length, Option, Some, sym, ◌∙◌}
use Rattle.std.proofs.lemmas.Bool.{le-ltb, lt-leb}
use Rattle.chunk_map.specs.declared.layouts.Geometry.{Geometry}
use Rattle.lazy_alloc.specs.Sets.{Sets}
use Rattle.core_room.specs.declared.supply.Supply.{Supply}
use Rattle.core_room.specs.declared.types.Shortage.TheVariants as causes
use Rattle.core_room.specs.Lengths.{lines_needed, class_for}
use Rattle.core_room.specs.declared.types.Shortage.{Shortage}
use Rattle.core_worker.specs.declared.worker.Worker.{Worker}
use Rattle.core_worker.specs.Supplies.{supply_of, lacks, why_put}
use Rattle.core_worker.specs.Plans.{last_version}

pub put_by : (l : Geometry) (s : Supply) (a : Sets) (last n : ℕ) → n ≤ l.chunk_bytes / 4 - 8 → last < 1048574 → why_put l s a last n ≡ lacks s a (lines_needed n) (class_for n)
put_by l s a last n short left = (λ i. cond (le-ltb (l.chunk_bytes / 4 - 8) n short i) (Some (causes.Length n)) (cond (lt-leb 1048574 last left i) (Some (causes.Versions last)) (lacks s a (lines_needed n) (class_for n))))

-- the same of a worker, by what it counted
pub put_found : (w : Worker) (key : ℕ) (value : List ℕ) (n lines class : ℕ) → n ≡ length value → lines ≡ lines_needed n → class ≡ class_for n → n ≤ w.layout.chunk_bytes / 4 - 8 → last_version w key < 1048574
    → (o : Option Shortage) → lacks (supply_of w) w.allocator lines class ≡ o → why_put w.layout (supply_of w) w.allocator (last_version w key) (length value) ≡ o
put_found w key value n lines class count lines_is class_is short left o e =
    (λ i. why_put w.layout (supply_of w) w.allocator (last_version w key) (sym count i))
    ∙ put_by w.layout (supply_of w) w.allocator (last_version w key) n short left
    ∙ (λ i. lacks (supply_of w) w.allocator (sym lines_is i) (sym class_is i)) ∙ e
