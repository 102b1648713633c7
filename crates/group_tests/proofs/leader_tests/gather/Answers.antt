use Rattle.std.proofs.Common.{[], refl, ◌∙◌}
use Rattle.group_laws.specs.Runs.Kind.{Post, Lock, Unlock}
use Rattle.batch_leader.specs.Leading.{took}
use Rattle.group_tests.proofs.OtherLaws.{others_one, others_round, others_then, number_of}
use Rattle.group_tests.proofs.leader_tests.gather.Goals as goal

pub returns-in-Batch-clause-others : goal.returns-in-Batch-clause-others
returns-in-Batch-clause-others g c =
    let w = g.B.Board.whole in
    let v = g.B.Board.view in
    let m = (g.B.Board.seat c.args.board.now).number in
    let b0 = c.args.board.now in
    let b1 = c.post.new.self in
    let b2 = c.lead.new.board in
    let b3 = c.collect-first.new.board in
    let b4 = c.collect.new.board in
    let b5 = c.release.new.board in
    let s1 = c.post.ensures.seat in
    let s2 = c.lead.ensures.seat ∙ s1 in
    let s3 = c.collect-first.ensures.seat ∙ s2 in
    let s4 = c.collect.ensures.seat ∙ s3 in
    others_then (w b0) (w b1) (w b5) m (others_one (w b0) (w b1) m m (Post 0 c.args.change.entry []) (v b1) refl c.post.ensures.whole)
    (others_then (w b1) (w b2) (w b5) m (others_one (w b1) (w b2) m (g.B.Board.seat b1).number Lock (v b2) (number_of s1) c.lead.ensures.whole)
    (others_then (w b2) (w b3) (w b5) m (others_round (w b2) (w b3) m (g.B.Board.seat b2).number (took c.collect-first.result) _ _ (v b3) (number_of s2) c.collect-first.ensures.made)
    (others_then (w b3) (w b4) (w b5) m (others_round (w b3) (w b4) m (g.B.Board.seat b3).number (took c.collect.result) _ _ (v b4) (number_of s3) c.collect.ensures.made)
    (others_one (w b4) (w b5) m (g.B.Board.seat b4).number Unlock (v b5) (number_of s4) c.release.ensures.whole))))
