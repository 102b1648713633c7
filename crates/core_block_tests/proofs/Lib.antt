mod BlockTrials
