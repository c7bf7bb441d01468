mod Characters
mod Pages
mod Runs
