mod Loose
mod Words
mod Numbers
mod Pieces
mod Records
mod Headers
mod Linked
mod Inverse
