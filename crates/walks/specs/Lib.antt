-- Walks: what a walk comes to, by any rules, and by those of the lists. Says: by rules that follow from these.
pub mod Walks
pub mod Says
