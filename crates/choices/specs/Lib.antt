-- Source: where figures and totals are read. Tables: what the tables that are lent have. Choices: the definitions that the contracts cite. Over: of a search.
-- Memory: those of what a walk remembers. Lists: what a proper board is to the theory.
pub mod Source
pub mod Tables
pub mod Choices
pub mod Props
pub mod Over
pub mod Memory
pub mod Lists
