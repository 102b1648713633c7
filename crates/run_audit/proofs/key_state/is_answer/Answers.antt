use Rattle.run_audit.proofs.key_state.is_answer.Goals as goal

pub returns-in-Get : goal.returns-in-Get
returns-in-Get c = rw c.in-Get.is (c.shows.ensures 0)

pub returns-in-Delete : goal.returns-in-Delete
returns-in-Delete c = rw c.in-Delete.is (c.deletes.ensures 0)
