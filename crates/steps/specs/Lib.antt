-- Steps: the definitions that the contracts cite. Totals: the least total is that of each best layout.
pub mod Steps
pub mod Totals
