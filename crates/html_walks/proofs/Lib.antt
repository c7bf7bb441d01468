mod Fitting
mod Stepping
mod Entering
mod Levels
