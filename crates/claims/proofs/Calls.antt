-- The claims of calls, whatever their promise allows: readings, zeros, C, the listing and its reading back, the month.
pub mod Readings
pub mod Zeros
pub mod InC
pub mod Listing
pub mod ListingBack
pub mod ListingCalls
pub mod Month
