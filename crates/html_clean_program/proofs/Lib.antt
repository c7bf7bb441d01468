mod Pages
mod Printed
mod Reported
mod Requests
mod Rules
mod TwoWords
