pub mod Spec
pub mod Slots
pub mod Answers
pub mod Values
pub mod Initial
pub mod Occupied
pub mod Buckets
pub mod SlotsView
