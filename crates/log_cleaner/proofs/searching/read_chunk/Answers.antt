use Rattle.std.proofs.Common.{◌≡◌, ◌&&◌, true, false, refl, sym, ◌∙◌, arith}
use Rattle.log_standing.specs.NameCounts.{wants}
use Rattle.core_log.proofs.Clients.{may_start}
use Rattle.log_cleaner.specs.Choosing.{fits}
use Rattle.log_cleaner.proofs.ChoiceLaws.{fits_as}
use Rattle.log_cleaner.proofs.CountLaws.{count_below}
use Rattle.log_cleaner.proofs.FloorLaws.{searches_both, searches_itself}
use Rattle.log_cleaner.proofs.SearchLaws.{looking_ends, looking_on, looking_starts}
use Rattle.log_cleaner.proofs.searching.read_chunk.Goals as goal

pub loop-found-init : goal.loop-found-init
loop-found-init g c =
    let s = g.R.Region.state c.args.region.now in
    let readable = may_start s c.args.log.now c.args.chunk c.requires.stands c.requires.has in
    record {
      readable = readable;
      entries = omega arith;
      words = omega arith;
      chunk = refl;
      same = searches_itself c.args.standing.now;
      floors = refl;
      looking = λ telling. looking_starts s c.args.log.now c.args.standing.now c.args.chunk _ (readable.spelled telling) refl refl;
    }

pub loop-found-preserved : goal.loop-found-preserved
loop-found-preserved g c =
    let s = g.R.Region.state c.args.region.now in
    let p = c.in-Some.found in
    let v = c.loop-found.so_far in
    let w = c.with_entry-so_far.result in
    let was = c.loop-found.invariant in
    let below = count_below (wants c.loop-found.standing p.name.key p.name.version) v w p c.args.chunk c.loop-found.place was.entries was.words was.chunk c.in-Some.ensures.within c.with_entry-so_far.ensures in
    let looks = c.look-alone.ensures in
    record {
      readable = c.in-Some.ensures.next;
      entries = below.0;
      words = below.1;
      chunk = below.2;
      same = searches_both c.args.standing.now c.loop-found.standing c.look-alone.new.standing was.same looks.same;
      floors = looks.floors ∙ was.floors;
      looking = λ telling. looking_on s c.args.log.now c.args.standing.now c.loop-found.standing c.look-alone.new.standing c.args.chunk c.loop-found.place p c.look-alone.result c.loop-found.alone v w (c.in-Some.ensures.step telling) (was.looking telling) was.same looks c.in-Some.ensures.within.1 c.with_entry-so_far.ensures;
    }

pub returns-clause-read : goal.returns-clause-read
returns-clause-read g c = λ telling.
    let was = c.loop-found.invariant in
    looking_ends (g.R.Region.state c.args.region.now) c.args.log.now c.args.standing.now c.loop-found.standing c.args.room.now c.args.chunk c.loop-found.place c.loop-found.alone c.loop-found.so_far (was.looking telling) was.chunk (λ fit. c.in_default.ensures.step telling)

pub returns-then-not-has_room-clause-read : goal.returns-then-not-has_room-clause-read
returns-then-not-has_room-clause-read g c = λ telling.
    let s = g.R.Region.state c.args.region.now in
    let p = c.in-Some.found in
    let v = c.loop-found.so_far in
    let w = c.with_entry-so_far.result in
    let was = c.loop-found.invariant in
    let below = count_below (wants c.loop-found.standing p.name.key p.name.version) v w p c.args.chunk c.loop-found.place was.entries was.words was.chunk c.in-Some.ensures.within c.with_entry-so_far.ensures in
    let so_far = looking_on s c.args.log.now c.args.standing.now c.loop-found.standing c.look-alone.new.standing c.args.chunk c.loop-found.place p c.look-alone.result c.loop-found.alone v w (c.in-Some.ensures.step telling) (was.looking telling) was.same c.look-alone.ensures c.in-Some.ensures.within.1 c.with_entry-so_far.ensures in
    let past : fits c.args.room.now w ≡ false = fits_as c.args.room.now w c.copy_lines.result c.has_room.result c.copy_lines.ensures c.has_room.ensures ∙ c.if-not-has_room.true in
    looking_ends s c.args.log.now c.args.standing.now c.look-alone.new.standing c.args.room.now c.args.chunk p.next (c.look-alone.result && c.loop-found.alone) w so_far below.2 (λ fit. absurd (let both : false ≡ true = sym past ∙ fit in cc both))
