-- What a reader has to believe: document 01, and the requests of document 02 that change it (A2 to A6), as definitions, and the claims that are
-- proved of them. In reading order.
-- Rules: what the others are written with
pub mod Tests
pub mod Checks
-- Rules: a state, and when it is well-formed
pub mod Entries
pub mod Replicas
pub mod Layout
pub mod Configuration
pub mod Origins
pub mod WellFormed
pub mod Setup
-- Rules: the steps
pub mod Add
pub mod Adopt
pub mod Learn
pub mod Wedge
pub mod Install
pub mod Inherit
pub mod CatchUp
pub mod Steps
-- The log, its replay, and what the program prints of it
pub mod Numbers
pub mod Log
pub mod Writer
pub mod Replay
pub mod Results
pub mod StableHistory
pub mod Transcript
-- Runs
pub mod Prefixes
pub mod Runs
pub mod Reference
-- Claims over runs
pub mod OneList
pub mod StableGrowth
pub mod Appointed
pub mod OneIssue
pub mod Sources
pub mod WedgedFirst
-- Claims of states and steps
pub mod Lengths
pub mod Orders
pub mod StaysWellFormed
pub mod Unchanged
-- Claims of the log and the program
pub mod RoundTrip
pub mod LogRoundTrip
pub mod ProgramSetup
pub mod LongerLogs
pub mod Marked
