-- Text, its runs, and CDATA sections.
pub mod CdataSections
pub mod NothingHeld
pub mod RunStops
pub mod Runs
pub mod ShownTexts
pub mod States
