use Rattle.group_tests.proofs.given_back.failing_region.Goals as goal

pub returns : goal.returns
returns c = (let at = c.in_ok-create.ensures.ok in record { first = at.first; words = at.words; zeros = at.certainly })
