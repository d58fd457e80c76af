-- Two nodes for each status, any test of them on a side, the step over any tests, and the tests of a sheet of document 01.
pub mod Sides
pub mod HalfMade
pub mod Values
pub mod Tests
pub mod OneAnswer
pub mod Shelter
pub mod Edges
pub mod SheetTests
