-- What programs share: no promise of the reader's and no claim reaches these definitions, so they need not be believed.
pub mod Data
