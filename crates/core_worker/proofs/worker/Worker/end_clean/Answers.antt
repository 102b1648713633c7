-- The turn that ends a cleaning.
use Rattle.std.proofs.Common.{true, List, [], ◌∷◌, length, refl, sym, ◌∙◌, ap, subst, arith}
use Rattle.pm_region.specs.State.{Frame, cell_now}
use Rattle.log_entry.specs.declared.entry.EntryName.{EntryName}
use Rattle.lazy_alloc.specs.Written.{PartLies}
use Rattle.chunk_map.specs.declared.layouts.Geometry.{Geometry}
use Rattle.licence.specs.Licence.{Licensed}
use Rattle.group_laws.proofs.Clients.{core_low}
use Rattle.group_laws.specs.MemberViews.{View}
use Rattle.group_laws.specs.Runs as runs
use Rattle.group_board.specs.Trails.{step_with}
use Rattle.core_worker.specs.declared.types.Cleaning.TheVariants.{Nothing}
use Rattle.core_worker.specs.EndsCleaning.{EndsCleaning, EndsInRegion}
use Rattle.core_worker.specs.GoneMail.{HasPlacesFor, FilesGone}
use Rattle.core_worker.specs.LogNames.{AreOwnOf}
use Rattle.core_worker.specs.Turning.Did.{clears, loses_clearing}
use Rattle.core_worker.proofs.EndedItem as ended
use Rattle.core_worker.proofs.LeftFair.{starts_nothing, starts_stopped}
use Rattle.core_worker.proofs.LeftItems.{lowers_still}
use Rattle.core_worker.proofs.Made.{one_step}
use Rattle.core_worker.proofs.worker.Worker.end_clean.Goals as goal

pub end_cleaning-requires-clause-ready : goal.end_cleaning-requires-clause-ready
end_cleaning-requires-clause-ready g c =
    let seat = g.B.Board.seat c.args.board.now in
    let s = g.R.Region.state c.args.region.now in
    let v = g.B.Board.view c.args.board.now in
    let w = c.args.self.now in
    let y = c.in-Some.clearing in
    let H = c.requires.tied.holds in
    let S = c.requires.tied.stands in
    let O = c.requires.tied.order in
    let D = c.requires.dooms in
    let is = sym c.in-Some.ensures.value in
    record {
      begins = ended.begins s seat.place seat.number v w H S O D;
      member = H.member;
      has = ended.has_chunk s seat.place seat.number v w H S O D y is;
      closed = ended.is_closed s seat.place seat.number v w H S O D y is;
      ready = ended.ready s seat.place seat.number v w H S O D y is;
      standing = ended.counted s seat.place seat.number v w H S O D;
      agrees = ended.agrees s seat.place seat.number v w H S O D;
      may = ended.may_go s seat.place seat.number v w H S O D y is;
      others = ended.others s seat.place seat.number v w H S O D;
      layout = H.allocator_layout ∙ sym H.log_layout;
      taken = ended.is_taken s seat.place seat.number v w H S O D y is;
      uncut = ended.is_uncut s seat.place seat.number v w H S O D y is;
    }

pub end_cleaning-requires-clause-owned : goal.end_cleaning-requires-clause-owned
end_cleaning-requires-clause-owned g c =
    let seat = g.B.Board.seat c.args.board.now in
    subst (λ (ns : List EntryName). AreOwnOf seat.place seat.number c.in-Some.clearing.doomed ns) (sym c.as_slice.ensures.value)
    (ended.owned (g.R.Region.state c.args.region.now) seat.place seat.number (g.B.Board.view c.args.board.now) c.args.self.now c.requires.tied.holds c.requires.tied.stands c.requires.tied.order c.requires.dooms c.in-Some.clearing (sym c.in-Some.ensures.value))

pub file_gone-requires-clause-core : goal.file_gone-requires-clause-core
file_gone-requires-clause-core g c =
    let seat = g.B.Board.seat c.args.board.now in
    let H = c.requires.tied.holds in
    let low = core_low seat.place H.place seat.number H.member in
    let core = H.core in
    let cores = ap (λ (l : Geometry). l.cores) H.layout in
    omega (arith, low, core, cores)

pub file_gone-requires-clause-count : goal.file_gone-requires-clause-count
file_gone-requires-clause-count g c = c.requires.tied.holds.mail.count ∙ sym (ap (λ (l : Geometry). l.group) c.requires.tied.holds.layout)

pub file_gone-requires-clause-places : goal.file_gone-requires-clause-places
file_gone-requires-clause-places g c =
    let seat = g.B.Board.seat c.args.board.now in
    subst (λ (ns : List EntryName). HasPlacesFor (length ns) c.args.self.now.notices.items) (sym (c.as_slice-in-Ok.ensures.value ∙ c.in-Ok.ensures.gone))
    (ended.boxes_places (g.R.Region.state c.args.region.now) seat.place seat.number (g.B.Board.view c.args.board.now) c.args.self.now c.requires.tied.holds c.requires.tied.stands c.requires.tied.order c.requires.dooms c.in-Some.clearing (sym c.in-Some.ensures.value))

pub returns-in-Ok : goal.returns-in-Ok
returns-in-Ok g c =
    let seat = g.B.Board.seat c.args.board.now in
    let s = g.R.Region.state c.args.region.now in
    let t = g.R.Region.state c.end_cleaning.new.region in
    let before = g.B.Board.whole c.args.board.now in
    let after = g.B.Board.whole c.end_cleaning.new.board in
    let v = g.B.Board.view c.args.board.now in
    let u = g.B.Board.view c.end_cleaning.new.board in
    let w = c.args.self.now in
    let x = record w { log = c.end_cleaning.new.log; allocator = c.end_cleaning.new.allocator; places = c.end_cleaning.new.places; index = c.end_cleaning.new.index; standing = c.end_cleaning.new.standing; notices = c.file_gone.new.boxes; cleaning = Nothing; clearing = c.replace.new.dest } in
    let y = c.in-Some.clearing in
    let E = ended.ends_in s seat.place seat.number v w c.requires.tied.holds c.requires.tied.stands c.requires.tied.order c.requires.dooms y (sym c.in-Some.ensures.value) u x c.in-Ok.ensures.tidied (subst (λ (ns : List EntryName). EndsCleaning w.core c.in-Some.clearing ns w.log c.end_cleaning.new.log w.allocator c.end_cleaning.new.allocator w.places.items c.end_cleaning.new.places.items w.index c.end_cleaning.new.index w.standing c.end_cleaning.new.standing) c.as_slice.ensures.value c.in-Ok.ensures.ended) (subst (λ (ns : List EntryName). FilesGone seat.place seat.number ns w.notices.items c.file_gone.new.boxes.items) (c.as_slice-in-Ok.ensures.value ∙ c.in-Ok.ensures.gone) (c.file_gone.ensures.files seat.place seat.number c.requires.tied.holds.layout c.requires.tied.holds.core c.requires.tied.holds.member)) (λ i. record w { log = c.end_cleaning.new.log; allocator = c.end_cleaning.new.allocator; places = c.end_cleaning.new.places; index = c.end_cleaning.new.index; standing = c.end_cleaning.new.standing; notices = c.file_gone.new.boxes; cleaning = Nothing; clearing = c.replace.ensures.after i }) in
    let R : EndsInRegion s t seat.place seat.number u w x y = record { retired = c.in-Ok.ensures.retired; outside = c.end_cleaning.ensures.head; exit = c.end_cleaning.ensures.exit; names = ended.names s seat.place seat.number v w c.requires.tied.holds c.requires.tied.stands c.requires.tied.order c.requires.dooms y (sym c.in-Some.ensures.value) u x E; counted = c.in-Ok.ensures.counted; read = c.in-Ok.ensures.read; floors = c.in-Ok.ensures.floors } in
    let mid = g.B.Board.view c.args.board.now in
    let way = ended.way_is s seat.place seat.number v w c.requires.tied.holds c.requires.tied.stands c.requires.tied.order c.requires.dooms in
    let C = ended.cleans (g.R.Region.state c.args.region.now) seat.place seat.number (g.B.Board.view c.args.board.now) w c.requires.tied.holds c.requires.tied.stands c.requires.tied.order c.requires.dooms in
    record {
      seat = c.end_cleaning.ensures.seat;
      keeps =
          ended.keeps_ended seat s t before after v u w x y c.requires.tied.holds c.requires.tied.stands c.requires.tied.order E R c.end_cleaning.ensures.moments c.end_cleaning.ensures.outside
          (runs.Kind.Retire y.doomed ∷ [], one_step before after seat.number (runs.Kind.Retire y.doomed) u c.in-Ok.ensures.made);
      did = λ refused before v entry passed passes mail sending.
          clears (record {
            mid = mid;
            before = passes;
            post = passed;
            mail = mail;
            ready = w;
            sending = sending;
            clearing = c.in-Some.clearing;
            is = sym c.in-Some.ensures.value;
            ends = ended.ends_in s seat.place seat.number mid w c.requires.tied.holds c.requires.tied.stands c.requires.tied.order c.requires.dooms c.in-Some.clearing (sym c.in-Some.ensures.value) u x c.in-Ok.ensures.tidied (subst (λ (ns : List EntryName). EndsCleaning w.core c.in-Some.clearing ns w.log c.end_cleaning.new.log w.allocator c.end_cleaning.new.allocator w.places.items c.end_cleaning.new.places.items w.index c.end_cleaning.new.index w.standing c.end_cleaning.new.standing) c.as_slice.ensures.value c.in-Ok.ensures.ended) (subst (λ (ns : List EntryName). FilesGone seat.place seat.number ns w.notices.items c.file_gone.new.boxes.items) (c.as_slice-in-Ok.ensures.value ∙ c.in-Ok.ensures.gone) (c.file_gone.ensures.files seat.place seat.number c.requires.tied.holds.layout c.requires.tied.holds.core c.requires.tied.holds.member)) (λ i. record w { log = c.end_cleaning.new.log; allocator = c.end_cleaning.new.allocator; places = c.end_cleaning.new.places; index = c.end_cleaning.new.index; standing = c.end_cleaning.new.standing; notices = c.file_gone.new.boxes; cleaning = Nothing; clearing = c.replace.ensures.after i });
          });
      less =
          ended.ended_lower (g.B.Board.whole c.args.board.now) (g.B.Board.whole c.end_cleaning.new.board) seat.number y.doomed u w x c.in-Ok.ensures.made (g.met.B.Board.lawful c.args.board.now)
          (ended.ended_less seat.place seat.number v u w x y c.requires.dooms.0 way E c.end_cleaning.ensures.untold);
      starts = starts_nothing (record w { log = c.end_cleaning.new.log; allocator = c.end_cleaning.new.allocator; places = c.end_cleaning.new.places; index = c.end_cleaning.new.index; standing = c.end_cleaning.new.standing; notices = c.file_gone.new.boxes; cleaning = Nothing; clearing = c.replace.new.dest }) C.idle;
      works = refl;
      steps = λ passes. record { made = step_with (runs.Kind.Retire c.in-Some.clearing.doomed) (g.B.Board.view c.end_cleaning.new.board) ∷ []; more = c.in-Ok.ensures.steps.0; loads = tt; ends = refl; last = record { handed = λ _. c.in-Ok.ensures.steps.1; alone = λ _ no. absurd (cc no) }; asks = λ no. absurd (cc no) };
    }

pub returns-in-Err : goal.returns-in-Err
returns-in-Err g c =
    let seat = g.B.Board.seat c.args.board.now in
    let s = g.R.Region.state c.args.region.now in
    let t = g.R.Region.state c.end_cleaning.new.region in
    let v = g.B.Board.view c.args.board.now in
    let u = g.B.Board.view c.end_cleaning.new.board in
    let w = c.args.self.now in
    let k = c.in-Err.ensures.kept in
    let x = record w { log = c.end_cleaning.new.log; allocator = c.end_cleaning.new.allocator; places = c.end_cleaning.new.places; index = c.end_cleaning.new.index; standing = c.end_cleaning.new.standing; clearing = c.replace.new.dest; stopped = true } in
    record {
      seat = c.end_cleaning.ensures.seat;
      keeps =
          ended.keeps_lost seat s t (g.B.Board.whole c.args.board.now) (g.B.Board.whole c.end_cleaning.new.board) v u w x c.requires.tied.holds c.requires.tied.stands c.requires.tied.order
          (ended.cleans s seat.place seat.number v w c.requires.tied.holds c.requires.tied.stands c.requires.tied.order c.requires.dooms)
          (λ i. record w { log = k.1 i; allocator = k.2 i; standing = k.3 i; places = k.4 i; index = k.5 i; clearing = c.replace.ensures.after i; stopped = true }) k.0 c.in-Err.ensures.made
          (subst (λ (f : Frame). PartLies f w.allocator) (sym c.end_cleaning.ensures.head.frame) c.requires.tied.stands.lies)
          (λ telling. subst (λ (z : View). Licensed seat.place seat.number z (cell_now t)) k.0 (c.end_cleaning.ensures.exit telling))
          c.end_cleaning.ensures.moments c.end_cleaning.ensures.outside c.in-Err.ensures.cause;
      did = λ refused before v entry passed passes mail sending.
          loses_clearing (record {
            mid = g.B.Board.view c.args.board.now;
            before = passes;
            post = passed;
            mail = mail;
            ready = w;
            sending = sending;
            runs = ended.runs (g.R.Region.state c.args.region.now) seat.place seat.number (g.B.Board.view c.args.board.now) w c.requires.tied.holds c.requires.tied.stands c.requires.tied.order c.requires.dooms;
            dooms = c.requires.dooms;
            view = k.0;
            same = (λ i. record w { log = k.1 i; allocator = k.2 i; standing = k.3 i; places = k.4 i; index = k.5 i; clearing = c.replace.ensures.after i; stopped = true });
          });
      less =
          lowers_still (g.B.Board.whole c.args.board.now) (g.B.Board.whole c.end_cleaning.new.board) w x c.in-Err.ensures.made
          (ended.lost_less w x (λ i. record w { log = k.1 i; allocator = k.2 i; standing = k.3 i; places = k.4 i; index = k.5 i; clearing = c.replace.ensures.after i; stopped = true })
          (ended.runs (g.R.Region.state c.args.region.now) seat.place seat.number (g.B.Board.view c.args.board.now) w c.requires.tied.holds c.requires.tied.stands c.requires.tied.order c.requires.dooms));
      starts = starts_stopped (record c.args.self.now { log = c.end_cleaning.new.log; allocator = c.end_cleaning.new.allocator; places = c.end_cleaning.new.places; index = c.end_cleaning.new.index; standing = c.end_cleaning.new.standing; clearing = c.replace.new.dest; stopped = true }) refl;
      works = refl;
      steps = λ passes. record { made = []; more = c.in-Err.ensures.steps; loads = tt; ends = c.in-Err.ensures.kept.0; last = tt; asks = tt };
    }
