use Rattle.recover.proofs.judge_winners.judge_winner.Goals as goal

pub returns-clause-fault : goal.returns-clause-fault
returns-clause-fault g c = λ before has telling stands. c.judge_pointer.ensures.fault before has telling (c.in_ok-pointer.ensures telling stands)
