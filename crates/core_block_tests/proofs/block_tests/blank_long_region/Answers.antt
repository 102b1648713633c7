use Rattle.core_block_tests.proofs.block_tests.blank_long_region.Goals as goal

pub returns : goal.returns
returns c = (let at = c.in_ok-create.ensures.ok in record { first = at.first; words = at.words; zeros = at.certainly })
