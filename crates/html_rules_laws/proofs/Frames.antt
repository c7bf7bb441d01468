-- What steps, rows and tokens leave of a state as it was.
pub mod Aside
pub mod Firm
pub mod FirmAdoption
pub mod Framed
pub mod Grown
pub mod KeptByRows
pub mod KeptBySteps
pub mod Larger
pub mod Tame
