-- The laws of volume. Public are those that a crate above cites.
mod Starred
mod Computing
mod Example
mod Values
mod Occasions
-- one request, and lists of requests
mod Kept
mod Touching
mod Refusing
mod SoundPolicy
pub mod PlainMeanings
pub mod Passed
-- every reachable volume is sound
mod SoundCore
mod SoundClimb
mod SoundInvariant
mod SoundKeys
mod SoundSetPolicy
mod SoundLink
mod SoundRename
mod SoundCreate
mod SoundExchange
mod SoundRemove
pub mod Soundness
mod Unsound
-- what the tests mean
mod Below
pub mod Meanings
mod MeaningsExample
pub mod PolicyClause
pub mod NotPermitted
mod Bytewise
mod ContextsStay
mod StoredNames
pub mod SealedOpens
pub mod ShownApart
pub mod Leaves
-- exactly when each request is done
mod DoneWhenLines
mod DoneWhenTables
pub mod DoneWhen
pub mod Does
pub mod UnderKeys
-- names and keys in every run
mod NamesSince
pub mod KeyedNames
mod KeyedExample
-- the two runs
mod Twin
mod TwinLookup
mod TwinKeys
mod TwinAsking
mod TwinStore
mod TwinNames
mod TwinMoves
mod TwinShow
pub mod Typing
pub mod Runs
pub mod Corollaries
