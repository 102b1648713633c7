mod BlockReads
mod ClashSteps
