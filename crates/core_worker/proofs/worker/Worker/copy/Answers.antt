-- The turn that copies on.
use Rattle.std.proofs.Common.{◌≡◌, ℕ, ◌&&◌, Bool, true, false, List, [], ◌∷◌, length, Option, None, inl, inr, refl, sym, ◌∙◌, ap, subst}
use Rattle.pm_region.specs.State.{cell_now}
use Rattle.core_room.specs.CleaningRoom.{needs_fresh}
use Rattle.core_room.specs.declared.supply.Supply.{Supply}
use Rattle.group_laws.specs.MemberViews.{View}
use Rattle.group_laws.specs.Runs as runs
use Rattle.group_board.specs.Trails.{step_with}
use Rattle.licence.specs.Licence.{Licensed}
use Rattle.batch_leader.proofs.Clients.{no_loads, no_steps, turn_of_loads}
use Rattle.core_worker.specs.declared.types.Cleaning.TheVariants.{Nothing, Copying}
use Rattle.std.specs.Prelude.{IsSome}
use Rattle.log_cleaner.specs.CopyBatch.{copied_in}
use Rattle.batch_leader.specs.Persisting.{opened_for}
use Rattle.core_worker.specs.CopyItems.{CopiesOn, LosesCopies, MisreadsCopies, needs_chunk}
use Rattle.core_worker.specs.CopyTurns.{left_of, CopiesBatch, CopiesInRegion}
use Rattle.core_worker.specs.TakenChunks.{TakesChunkIf}
use Rattle.core_worker.specs.declared.worker.Worker.{Worker}
use Rattle.core_worker.specs.Turning.Did.{copies, loses_copies}
use Rattle.core_worker.proofs.CopiedItem as copied
use Rattle.core_worker.proofs.DoomedHolds as cleaning
use Rattle.core_worker.proofs.LeftFair.{starts_nothing, starts_still, starts_stopped}
use Rattle.core_worker.proofs.LeftItems.{lowers_still}
use Rattle.core_worker.proofs.Made.{one_step}
use Rattle.core_worker.proofs.worker.Worker.copy.Goals as goal

pub supply-supply-requires : goal.supply-supply-requires
supply-supply-requires g c =
    let seat = g.B.Board.seat c.args.board.now in
    copied.measured_there seat.place seat.number (g.B.Board.view c.args.board.now) c.args.self.now c.requires.tied.holds

pub copy_into-requires-clause-room : goal.copy_into-requires-clause-room
copy_into-requires-clause-room g c =
    let seat = g.B.Board.seat c.args.board.now in
    let s = g.R.Region.state c.args.region.now in
    let v = g.B.Board.view c.args.board.now in
    let w = c.args.self.now in
    let victim = c.args.victim in
    let first = c.args.first in
    let H = c.requires.tied.holds in
    let f_is : c.needs_chunk-needed.result ≡ needs_chunk first w = c.needs_chunk-needed.ensures ∙ ap (λ (y : Supply). first && needs_fresh y) c.supply-supply.ensures.supply in
    let takes : TakesChunkIf (needs_chunk first w) w.allocator c.chunk_for-fresh.new.allocator c.chunk_for-fresh.result = subst (λ (b : Bool). TakesChunkIf b w.allocator c.chunk_for-fresh.new.allocator c.chunk_for-fresh.result) f_is c.chunk_for-fresh.ensures.takes in
    copied.has_room s seat.place seat.number v w victim first H c.requires.tied.stands c.requires.way (needs_chunk first w) c.chunk_for-fresh.new.allocator c.chunk_for-fresh.result takes
    (λ none. copied.fits_of w victim first c.requires.way c.supply-supply.result c.supply-supply.ensures.supply (c.lacks_lines.ensures.fits c.if-lacks_lines.false none))

pub returns-then-lacks_lines : goal.returns-then-lacks_lines
returns-then-lacks_lines g c =
    let seat = g.B.Board.seat c.args.board.now in
    let s = g.R.Region.state c.args.region.now in
    let v = g.B.Board.view c.args.board.now in
    let w = c.args.self.now in
    let victim = c.args.victim in
    let first = c.args.first in
    let H = c.requires.tied.holds in
    let f_is : c.needs_chunk-needed.result ≡ needs_chunk first w = c.needs_chunk-needed.ensures ∙ ap (λ (y : Supply). first && needs_fresh y) c.supply-supply.ensures.supply in
    let takes : TakesChunkIf (needs_chunk first w) w.allocator c.chunk_for-fresh.new.allocator c.chunk_for-fresh.result = subst (λ (b : Bool). TakesChunkIf b w.allocator c.chunk_for-fresh.new.allocator c.chunk_for-fresh.result) f_is c.chunk_for-fresh.ensures.takes in
    let none = (c.lacks_lines.ensures.lacks c.if-lacks_lines.true).0 in
    let still = copied.none_same (needs_chunk first w) w.allocator c.chunk_for-fresh.new.allocator c.chunk_for-fresh.result takes none in
    let x = c.leave_chunk.new.self in
    let same : c.leave_chunk.new.self ≡ record c.args.self.now { cleaning = Nothing; clearing = None } = c.leave_chunk.ensures ∙ (λ i. record w { allocator = still i; cleaning = Nothing; clearing = None }) in
    let before = g.B.Board.whole c.args.board.now in
    let takes_none : TakesChunkIf (needs_chunk first w) w.allocator w.allocator None = subst (λ (a : _). TakesChunkIf (needs_chunk first w) w.allocator a None) still (subst (λ (o : _). TakesChunkIf (needs_chunk first w) w.allocator c.chunk_for-fresh.new.allocator o) none takes) in
    record {
      seat = refl;
      keeps = copied.keeps_left seat s before v w x victim first H c.requires.tied.stands c.requires.tied.order c.requires.way same ([], no_steps before seat.number seat.place v (g.met.B.Board.agrees c.args.board.now));
      did = λ refused start from entry passed passes mail sending.
          copies (record {
            mid = v;
            before = passes;
            post = passed;
            mail = mail;
            ready = w;
            sending = sending;
            runs = (cleaning.cleans seat.place seat.number v w H victim first c.requires.way).runs;
            victim = victim;
            first = first;
            way = c.requires.way;
            some = c.requires.some;
            copies = inr (inl (record { none = takes_none; lacks = copied.lacks_of w victim first c.requires.way c.supply-supply.result c.supply-supply.ensures.supply (c.lacks_lines.ensures.lacks c.if-lacks_lines.true).1; same = same }, refl));
          });
      less = lowers_still before before w x refl (copied.leaves_lower s seat.place seat.number v w x victim first H c.requires.tied.stands c.requires.tied.order c.requires.way same);
      starts = starts_still w x (ap (λ (z : Worker). z.leading) same) (cleaning.cleans seat.place seat.number v w H victim first c.requires.way).idle;
      works = ap (λ (z : Worker). z.winds_down) same;
      steps = λ passes. turn_of_loads passes s s _ _ _ _ _ _ (no_loads v (g.B.Board.trail c.args.board.now));
    }

pub returns-in-Some : goal.returns-in-Some
returns-in-Some g c =
    let seat = g.B.Board.seat c.args.board.now in
    let s = g.R.Region.state c.args.region.now in
    let v = g.B.Board.view c.args.board.now in
    let w = c.args.self.now in
    let victim = c.args.victim in
    let first = c.args.first in
    let H = c.requires.tied.holds in
    let f_is : c.needs_chunk-needed.result ≡ needs_chunk first w = c.needs_chunk-needed.ensures ∙ ap (λ (y : Supply). first && needs_fresh y) c.supply-supply.ensures.supply in
    let takes : TakesChunkIf (needs_chunk first w) w.allocator c.chunk_for-fresh.new.allocator c.chunk_for-fresh.result = subst (λ (b : Bool). TakesChunkIf b w.allocator c.chunk_for-fresh.new.allocator c.chunk_for-fresh.result) f_is c.chunk_for-fresh.ensures.takes in
    let t = g.R.Region.state c.copy_into.new.region in
    let u = g.B.Board.view c.copy_into.new.board in
    let before = g.B.Board.whole c.args.board.now in
    let after = g.B.Board.whole c.copy_into.new.board in
    let words = c.copy_into.new.buffer.words.words in
    let x = record w { log = c.copy_into.new.log; allocator = c.chunk_for-fresh.new.allocator; standing = c.copy_into.new.standing; copies = c.copy_into.new.buffer; cleaning = Copying c.left_of-left.result false } in
    let left_is : c.left_of-left.result ≡ left_of victim c.in-Some.count (length words) = c.left_of-left.ensures ∙ ap (λ (ws : List ℕ). left_of victim c.in-Some.count (length ws)) c.words.ensures.words in
    let K : CopiesOn victim first w x = record {
      fresh = c.chunk_for-fresh.result;
      takes = takes;
      sets = c.chunk_for-fresh.ensures.sets;
      fits = λ none. copied.fits_of w victim first c.requires.way c.supply-supply.result c.supply-supply.ensures.supply (c.lacks_lines.ensures.fits c.if-lacks_lines.false none);
      count = c.in-Some.count;
      words = words;
      batch = subst (λ (n : Option ℕ). CopiesBatch victim (opened_for w.log c.chunk_for-fresh.result) c.copy_into.new.log w.standing c.copy_into.new.standing (copied_in n) words) c.in-Some.is c.in-Ok.ensures.copies;
      same = (λ i. record w { log = c.copy_into.new.log; allocator = c.chunk_for-fresh.new.allocator; standing = c.copy_into.new.standing; copies = c.copy_into.new.buffer; cleaning = Copying (left_is i) false });
    } in
    let own = (c.requires.tied.stands.log (cleaning.cleans seat.place seat.number v w H victim first c.requires.way).runs).own in
    let T = copied.keeps_copied seat s t before after v u w x victim first H c.requires.tied.stands c.requires.tied.order own c.requires.way c.requires.some K (subst (λ (n : Option ℕ). CopiesInRegion s t victim w.log c.copy_into.new.log w.standing c.copy_into.new.standing (copied_in n) words) c.in-Some.is c.in-Ok.ensures.tells) c.copy_into.ensures.chunk c.in-Ok.ensures.view c.copy_into.ensures.exit c.copy_into.ensures.moments c.copy_into.ensures.outside
    (runs.Kind.Commit ∷ [], one_step before after seat.number runs.Kind.Commit u c.in-Ok.ensures.made) in
    let view : u ≡ record v { looked = [] } = c.in-Ok.ensures.view ∙ copied.view_still v (copied.flying_none seat.place seat.number v w H victim first c.requires.way) in
    record {
      seat = c.copy_into.ensures.seat;
      keeps = T;
      did = λ refused start from entry passed passes mail sending.
          copies (record {
            mid = v;
            before = passes;
            post = passed;
            mail = mail;
            ready = w;
            sending = sending;
            runs = (cleaning.cleans seat.place seat.number v w H victim first c.requires.way).runs;
            victim = victim;
            first = first;
            way = c.requires.way;
            some = c.requires.some;
            copies = inl (K, c.in-Ok.ensures.view);
          });
      less =
          copied.copied_lower before after seat.number u w x c.in-Ok.ensures.made (g.met.B.Board.lawful c.args.board.now)
          (copied.copied_less seat.place seat.number v u w x victim first H c.requires.way c.requires.some K view T.holds);
      starts = starts_nothing x (cleaning.cleans seat.place seat.number v w H victim first c.requires.way).idle;
      works = refl;
      steps = λ passes. record { made = step_with runs.Kind.Commit (g.B.Board.view c.copy_into.new.board) ∷ []; more = c.in-Ok.ensures.steps.0; loads = tt; ends = refl; last = record { handed = λ _. c.in-Ok.ensures.steps.1; alone = λ _ no. absurd (cc no) }; asks = λ no. absurd (cc no) };
    }

pub returns-in-None : goal.returns-in-None
returns-in-None g c =
    let seat = g.B.Board.seat c.args.board.now in
    let s = g.R.Region.state c.args.region.now in
    let v = g.B.Board.view c.args.board.now in
    let w = c.args.self.now in
    let victim = c.args.victim in
    let first = c.args.first in
    let H = c.requires.tied.holds in
    let f_is : c.needs_chunk-needed.result ≡ needs_chunk first w = c.needs_chunk-needed.ensures ∙ ap (λ (y : Supply). first && needs_fresh y) c.supply-supply.ensures.supply in
    let takes : TakesChunkIf (needs_chunk first w) w.allocator c.chunk_for-fresh.new.allocator c.chunk_for-fresh.result = subst (λ (b : Bool). TakesChunkIf b w.allocator c.chunk_for-fresh.new.allocator c.chunk_for-fresh.result) f_is c.chunk_for-fresh.ensures.takes in
    let t = g.R.Region.state c.copy_into.new.region in
    let u = g.B.Board.view c.copy_into.new.board in
    let before = g.B.Board.whole c.args.board.now in
    let after = g.B.Board.whole c.copy_into.new.board in
    let words = c.copy_into.new.buffer.words.words in
    let mid = record w { log = c.copy_into.new.log; allocator = c.chunk_for-fresh.new.allocator; standing = c.copy_into.new.standing; copies = c.copy_into.new.buffer; cleaning = Copying (left_of victim 0 (length words)) false } in
    let K : CopiesOn victim first w mid = record {
      fresh = c.chunk_for-fresh.result;
      takes = takes;
      sets = c.chunk_for-fresh.ensures.sets;
      fits = λ none. copied.fits_of w victim first c.requires.way c.supply-supply.result c.supply-supply.ensures.supply (c.lacks_lines.ensures.fits c.if-lacks_lines.false none);
      count = 0;
      words = words;
      batch = subst (λ (n : Option ℕ). CopiesBatch victim (opened_for w.log c.chunk_for-fresh.result) c.copy_into.new.log w.standing c.copy_into.new.standing (copied_in n) words) c.in-None.is c.in-Ok.ensures.copies;
      same = refl;
    } in
    let M : MisreadsCopies t victim first w c.leave_chunk-in-None.new.self = record {
      mid = mid;
      copies = K;
      none = refl;
      untold = λ telling. (let some = c.in-Ok.ensures.told telling in let both : false ≡ true = subst (λ (o : Option ℕ). IsSome o) c.in-None.is some in cc both);
      same = c.leave_chunk-in-None.ensures;
    } in
    let own = (c.requires.tied.stands.log (cleaning.cleans seat.place seat.number v w H victim first c.requires.way).runs).own in
    let T = copied.keeps_copied seat s t before after v u w mid victim first H c.requires.tied.stands c.requires.tied.order own c.requires.way c.requires.some K (subst (λ (n : Option ℕ). CopiesInRegion s t victim w.log c.copy_into.new.log w.standing c.copy_into.new.standing (copied_in n) words) c.in-None.is c.in-Ok.ensures.tells) c.copy_into.ensures.chunk c.in-Ok.ensures.view c.copy_into.ensures.exit c.copy_into.ensures.moments c.copy_into.ensures.outside
    (runs.Kind.Commit ∷ [], one_step before after seat.number runs.Kind.Commit u c.in-Ok.ensures.made) in
    let view : u ≡ record v { looked = [] } = c.in-Ok.ensures.view ∙ copied.view_still v (copied.flying_none seat.place seat.number v w H victim first c.requires.way) in
    record {
      seat = c.copy_into.ensures.seat;
      keeps = copied.keeps_misread seat s t before after v u w c.leave_chunk-in-None.new.self victim first H c.requires.tied.stands c.requires.tied.order own c.requires.way c.requires.some M T;
      did = λ refused start from entry passed passes mail sending.
          copies (record {
            mid = v;
            before = passes;
            post = passed;
            mail = mail;
            ready = w;
            sending = sending;
            runs = (cleaning.cleans seat.place seat.number v w H victim first c.requires.way).runs;
            victim = victim;
            first = first;
            way = c.requires.way;
            some = c.requires.some;
            copies = inr (inr (M, c.in-Ok.ensures.view));
          });
      less =
          copied.copied_lower before after seat.number u w c.leave_chunk-in-None.new.self c.in-Ok.ensures.made (g.met.B.Board.lawful c.args.board.now)
          (copied.misread_less seat s t before after v u w c.leave_chunk-in-None.new.self victim first H c.requires.tied.stands c.requires.tied.order own c.requires.way c.requires.some M T
          (copied.copied_less seat.place seat.number v u w mid victim first H c.requires.way c.requires.some K view T.holds));
      starts = starts_still mid c.leave_chunk-in-None.new.self (ap (λ (z : Worker). z.leading) c.leave_chunk-in-None.ensures) (cleaning.cleans seat.place seat.number v w H victim first c.requires.way).idle;
      works = ap (λ (z : Worker). z.winds_down) c.leave_chunk-in-None.ensures;
      steps = λ passes. record { made = step_with runs.Kind.Commit (g.B.Board.view c.copy_into.new.board) ∷ []; more = c.in-Ok.ensures.steps.0; loads = tt; ends = refl; last = record { handed = λ _. c.in-Ok.ensures.steps.1; alone = λ _ no. absurd (cc no) }; asks = λ no. absurd (cc no) };
    }

pub returns-in-Err : goal.returns-in-Err
returns-in-Err g c =
    let seat = g.B.Board.seat c.args.board.now in
    let s = g.R.Region.state c.args.region.now in
    let v = g.B.Board.view c.args.board.now in
    let w = c.args.self.now in
    let victim = c.args.victim in
    let first = c.args.first in
    let H = c.requires.tied.holds in
    let f_is : c.needs_chunk-needed.result ≡ needs_chunk first w = c.needs_chunk-needed.ensures ∙ ap (λ (y : Supply). first && needs_fresh y) c.supply-supply.ensures.supply in
    let takes : TakesChunkIf (needs_chunk first w) w.allocator c.chunk_for-fresh.new.allocator c.chunk_for-fresh.result = subst (λ (b : Bool). TakesChunkIf b w.allocator c.chunk_for-fresh.new.allocator c.chunk_for-fresh.result) f_is c.chunk_for-fresh.ensures.takes in
    let t = g.R.Region.state c.copy_into.new.region in
    let u = g.B.Board.view c.copy_into.new.board in
    let before = g.B.Board.whole c.args.board.now in
    let after = g.B.Board.whole c.copy_into.new.board in
    let x = record w { log = c.copy_into.new.log; allocator = c.chunk_for-fresh.new.allocator; standing = c.copy_into.new.standing; copies = c.copy_into.new.buffer; stopped = true } in
    let L : LosesCopies first w x = record {
      fresh = c.chunk_for-fresh.result;
      takes = takes;
      sets = c.chunk_for-fresh.ensures.sets;
      layout = c.copy_into.ensures.log.layout ∙ sym H.log_layout;
      part = c.copy_into.ensures.log.part ∙ sym H.log_part;
      names = c.copy_into.ensures.names;
      same = refl;
    } in
    record {
      seat = c.copy_into.ensures.seat;
      keeps =
          copied.keeps_lost seat s t before after v u w x victim first H c.requires.tied.stands c.requires.tied.order c.requires.way L c.in-Err.ensures.view c.in-Err.ensures.made c.copy_into.ensures.chunk.frame
          (λ telling. subst (λ (z : View). Licensed seat.place seat.number z (cell_now t)) c.in-Err.ensures.view (c.copy_into.ensures.exit telling))
          c.copy_into.ensures.moments c.copy_into.ensures.outside c.in-Err.ensures.cause;
      did = λ refused start from entry passed passes mail sending.
          loses_copies (record {
            mid = v;
            before = passes;
            post = passed;
            mail = mail;
            ready = w;
            sending = sending;
            runs = (cleaning.cleans seat.place seat.number v w H victim first c.requires.way).runs;
            victim = victim;
            first = first;
            way = c.requires.way;
            view = c.in-Err.ensures.view;
            lost = L;
          });
      less = lowers_still before after w x c.in-Err.ensures.made (copied.lost_less s t seat.place seat.number v w x victim first H c.requires.tied.stands c.requires.tied.order c.requires.way L);
      starts = starts_stopped x refl;
      works = refl;
      steps = λ passes. record { made = []; more = c.in-Err.ensures.steps; loads = tt; ends = c.in-Err.ensures.view; last = tt; asks = tt };
    }
