pub mod Scenario
pub mod Verdict
