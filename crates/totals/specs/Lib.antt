-- Strip, Cell: the definitions that the contracts of `totals`, `table` and `slots` cite. Lent: the same of the lists that are lent. Parted, Masks, Totals, Leads: their laws.
pub mod Strip
pub mod Cell
pub mod Lent
pub mod Parted
pub mod Masks
pub mod Totals
pub mod Leads
