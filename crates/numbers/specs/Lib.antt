-- The definitions. Whole: whole numbers by naturals. Trade: two numbers that swap. Filled: a list that a loop fills. Copies: a list with a part from another.
-- Kept: one that is kept from some place on. Arrangement: the numbers below n, each once. Sets: sets of small numbers as binary digits.
pub mod Whole
pub mod Trade
pub mod Filled
pub mod Copies
pub mod Kept
pub mod Arrangement
pub mod Sets
