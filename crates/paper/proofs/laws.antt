-- What follows from the definitions; no definition of the paper is here.
-- The tests of the faults:
pub mod Tests
-- Touching, totals, layouts and their order:
pub mod Touching
pub mod Squares
pub mod Plane
pub mod Totals
pub mod Boards
pub mod Order
-- The refusals:
pub mod Trials
pub mod Decided
pub mod Holding
pub mod Accepted
pub mod Sizes
pub mod Numbers
pub mod Named
pub mod Bounds
-- Drawn points:
pub mod Quarter
pub mod Drawn
pub mod Vectors
pub mod Texts
pub mod Reading
pub mod Exported
-- Lists of pads as text:
pub mod Lines
pub mod Parsed
pub mod Listing
pub mod Written
pub mod Imported
pub mod Readable
-- Existence, by straightening and by trying every assignment:
pub mod Straighten
pub mod Existence
pub mod Trying
pub mod Rank
pub mod Kept
pub mod Earliest
pub mod Pages
pub mod Regular
-- Places and the count of best layouts:
pub mod Places
-- THE THEOREMS: determinacy, each promise can be met, demand 3, a page and a place are what calls of Next give, straightening costs no length, by weights as by their
-- table, the worked sheets.
pub mod Determined
pub mod Met
pub mod Demand
pub mod ByNext
pub mod Alike
pub mod OnPoints
pub mod Worked
pub mod Shortest
