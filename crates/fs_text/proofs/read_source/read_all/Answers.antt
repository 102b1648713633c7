use Rattle.std.proofs.Common.{◌≤◌, ◌+◌, sym, ◌∙◌, subst}
use Rattle.std.proofs.Math.Nat.{le_trans}
use Rattle.fs_text.proofs.Streaming.{gives_behind}
use Rattle.fs_text.proofs.read_source.read_all.Goals as goal

pub loop-filled-preserved : goal.loop-filled-preserved
loop-filled-preserved g c = record {
  within = subst (λ n. c.loop-filled.filled + c.in_ok-count.count ≤ n) (sym c.in_ok-count.ensures.size) c.in_ok-count.ensures.within;
  most = subst (λ n. n ≤ c.args.most) (sym c.in_ok-count.ensures.size) c.in_ok-make_room.ensures.most;
  gives = gives_behind (g.S.Source.coming c.args.source.now) (g.S.Source.coming c.loop-filled.source) (g.S.Source.coming c.read_behind.new.source)
      c.loop-filled.bytes.items c.read_behind.new.bytes.items c.loop-filled.filled c.in_ok-count.count
      (c.in_ok-count.ensures.kept ∙ c.in_ok-make_room.ensures.kept) c.loop-filled.invariant.gives c.in_ok-count.ensures.gives;
  open_ = c.in_ok-count.ensures.goes_on c.if-count-eq0.false;
  count = le_trans c.loop-filled.invariant.count c.in_ok-count.ensures.count;
}
