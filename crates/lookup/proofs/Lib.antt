-- Laws of well-formed states, of their words, and of where replicas are.
pub mod Formed
pub mod ReadyFields
pub mod StateWords
pub mod FoundReplicas
pub mod Orderers
pub mod Stores
pub mod KindAnswers
