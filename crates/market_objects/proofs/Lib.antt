mod KeyRows
mod Naming
mod Passing
