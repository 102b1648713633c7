use Rattle.std.proofs.Common.{refl, ◌∙◌, arith}
use Rattle.core_worker.specs.StandingTies.{SameNames}
use Rattle.core_worker.proofs.NamesKnown.{heard_later, copies_before}
use Rattle.core_worker.proofs.worker.Worker.new.Goals as goal

pub returns : goal.returns
returns c =
    let r = c.in_ok-reserve.ensures in
    let mid = c.reserve.new.self in
    let same : SameNames c.args.start.standing mid = record { copies = r.copies; settled = r.settled; room = r.room; tally = r.tally; floors = r.floors } in
    record {
      core = refl;
      layout_is = refl;
      log = refl;
      allocator = refl;
      index = c.hear_own.ensures.hears;
      standing = heard_later c.args.start.core c.args.start.index c.args.start.standing mid c.hear_own.new.standing same c.hear_own.ensures.own;
      copies = copies_before c.args.start.standing mid same r.standing;
      names = (let ok = r.ok in let more = c.hear_own.ensures.own.room in omega (arith, ok, more));
      eight = c.in_ok-places.ensures.eight;
      free = c.in_ok-places.ensures.free;
      queue = c.in_ok-queue.ensures;
      hand = refl;
      leading = (c.in_ok-buffer.buffer, refl);
      cleaning = refl;
      clearing = refl;
      last_victim = refl;
      buffer = c.in_ok-copies.copies.room;
      members = c.in_ok-notices.ensures.count ∙ c.group.ensures;
      outbox = c.in_ok-notices.ensures.none;
      spare = c.in_ok-notices.ensures.spare;
      own_gone = c.new.ensures.items;
      answers = (c.new-2.ensures.items, c.new-2.ensures.len);
      runs = refl;
      works = refl;
      unlost = refl;
      fresh = refl;
    }
