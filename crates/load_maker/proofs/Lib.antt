pub mod ForEach
