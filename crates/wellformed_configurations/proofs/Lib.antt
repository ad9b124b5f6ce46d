-- Laws of the words of a configuration.
pub mod KnownEntries
pub mod Configurations
