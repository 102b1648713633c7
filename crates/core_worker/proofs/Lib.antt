mod AnyPosts
mod LeadTies
mod Flight
mod Led
mod Giving
mod OutboxLaws
mod Rounds
mod Writing
mod ChunksKept
mod ListedNames
mod MailKept
mod MailTurns
mod Made
mod Quiet
mod Posts
mod PostedBlocks
mod BlockStands
mod BlockPosts
mod BlockClear
pub mod HandKeys
pub mod Aside
mod CauseFacts
pub mod StockFacts
mod QuietMoves
pub mod KeyMoves
mod HandPlaces
pub mod Given
mod AcceptMoves
mod Noted
mod QuietItems
mod PostMoves
mod SearchLaws
mod TurnLaws
mod RefusalLaws
mod Gains
mod Pointers
mod Staging
mod Finding
mod Beginnings
pub mod UnderWay
pub mod CleaningKept
mod RoomKept
mod AcceptedOrder
mod Accepted
mod Winding
mod Waiters
mod Unpledging
mod BatchRoom
mod BatchSpends
pub mod Serving
mod Heard
mod HeardNames
mod HeardDead
mod HeardMail
mod HeardStands
mod HeardMoves
mod ReadiedMail
mod SentMail
mod ReadyLaws
mod SendTurns
mod SentTurns
mod LeftMails
mod NamesAdded
mod NamesKnown
mod Renewing
mod StartNames
pub mod Tidied
pub mod Freeing
mod NamesAgreeing
pub mod NamesStood
mod NamesWrote
pub mod FreedOrder
pub mod GivingUp
pub mod Counted
pub mod PuttingBack
pub mod Settling
pub mod TakingBack
pub mod Served
pub mod Dropping
pub mod DropServed
pub mod Withdrawing
mod Unlocking
mod Retracting
mod Members
mod LeftSums
mod LeftSteps
mod LeftWorkers
mod ServedLines
mod LeftItems
mod LeftOwn
mod LeftLooks
mod LeftRounds
mod LeftLocks
mod LeftBacks
mod LetGoMoves
mod FinishMoves
mod StopMoves
pub mod LeftFair
mod RestLaws
mod RestingLoads
mod RestingSlots
mod RestingPlaces
mod Rested
mod ItemLaws
mod LeftTurns
mod StartKeys
pub mod StartBlocks
mod StartHeads
pub mod Starting
mod PartsGiven
pub mod OpeningLaws
pub mod GoneLaws
pub mod GoneKeys
pub mod LogNames
pub mod ChunkGivenUp
pub mod LogEnds
pub mod Receiving
pub mod Clients
pub mod ClearsLeft
pub mod RetiredKeys
pub mod EndedKeys
pub mod Dooming
mod Filing
mod FiledLeft
mod FiledMail
mod DoomedHolds
mod DoomedItem
mod CopiedLog
mod CopiedHolds
mod CopiedRoom
mod CopiedStands
mod CopiedItem
mod EndedHolds
pub mod EndedOrder
pub mod EndedStands
pub mod EndedMoves
mod EndedItem
mod JustRooms
mod CountedFaults
mod SendingLaws
mod WiderBoxes
mod BegunHolds
mod BegunTurns
