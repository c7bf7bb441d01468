mod Left
mod Fronts
mod Found
