pub mod Places
pub mod Laid
pub mod Fine
pub mod Lows
pub mod Comes
pub mod Turns
pub mod TypedFields
pub mod Handed
pub mod CallEnds
pub mod Passed
pub mod Machine
pub mod Done
pub mod EventsMeant
pub mod Meant
pub mod CallsRun
pub mod Closed
mod QuarkExample
pub mod Room
pub mod Events
pub mod Worklist
pub mod FirstCalls
mod WrongOrders
pub mod Rounds
pub mod Spans
pub mod Fitted
pub mod Drafted
pub mod TypeRows
pub mod TypedPaths
pub mod TypedKinds
pub mod TypedBodies
pub mod LaidOut
pub mod ElementCode
pub mod ElementMeans
pub mod LayRounds
pub mod Built
pub mod ElementCodes
pub mod Blocks
pub mod Clips
pub mod PathSteps
pub mod TypedSlots
pub mod TypedCalls
pub mod TypedStatements
pub mod TreeSource
pub mod ElementRounds
pub mod ElementBuilds
pub mod Mapped
mod Making
mod Emitted
mod DepthSteps
