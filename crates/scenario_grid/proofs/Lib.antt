mod Grids
mod Scenarios
