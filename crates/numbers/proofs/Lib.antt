-- The laws. Whole: whole numbers for `omega`. Tests: what a Bool test says. Trade: two numbers that swap. Filled: a list that a loop fills. Copies: a list with
-- a part from another. Kept: one that is kept from some place on. Arrangement: the numbers below n, each once. Signs: signs and magnitudes. Floats: IEEE 754. Sets: sets of small numbers as binary digits. Bits: signed numbers in the machine.
pub mod Whole
pub mod Tests
pub mod Trade
pub mod Filled
pub mod Copies
pub mod Kept
pub mod Arrangement
pub mod Signs
pub mod Floats
pub mod Bits
pub mod Sets
