-- Slots: the definitions that the contracts of `slots` cite. Filling and Columns: the same words over the lists of a board, and over a column of strips. Marks: laws of marks. Lending: what a caller has to know of the list that it lends.
pub mod Slots
pub mod Filling
pub mod Columns
pub mod Marks
pub mod Lending
