-- The verdict that the code works out; that it is the right one; what a sound verdict tells.
pub mod Verdicts
pub mod Judged
pub mod Sound
