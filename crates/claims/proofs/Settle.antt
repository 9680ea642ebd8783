-- What events leave in the tables, and what a reading says that succeeds.
pub mod TableGrowth
pub mod ByEvent
pub mod StoreCases
pub mod StoreAll
pub mod EntryChecks
pub mod Success
