mod Fronts
mod Named
mod Going
mod Reading
mod Parsed
mod Unmarked
mod Settled
