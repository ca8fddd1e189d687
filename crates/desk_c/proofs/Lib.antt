mod Values
mod Handles
mod Progress
mod Setting
mod AskLines
mod CurveKinds
mod Answered
