pub mod Fits
pub mod Goes
pub mod Quiet
pub mod Stopped
