use Rattle.thread_engine.proofs.WindowAnswers.{answers_once}
use Rattle.thread_engine.proofs.work_rules.every_window.Goals as goal

pub returns : goal.returns
returns c seat refused a b at doubts ended runs ended_b works = answers_once seat refused c.every_chain.ensures a b at doubts ended runs ended_b works
