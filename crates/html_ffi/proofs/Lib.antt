mod Answering
mod Lines
mod Making
mod Policies
mod Selecting
mod Trees
