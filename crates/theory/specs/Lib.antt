-- To be read: what document 01 demands and what the requests behind it ask.
pub mod Demands
-- Contracts that are equations:
pub mod Determined
-- Lists: their members, those that go up, and those at the start of an array:
pub mod Lists
-- Any graph: its testing orders, the circle of one that has none, and rule systems over it:
pub mod Graphs
-- Two nodes for each status, any test of them on a side, the step over any tests, and the tests of a sheet of document 01:
pub mod Step
-- Cuts and parts, fillings that are alike, and the outlook's list:
pub mod Outlook
-- How readers are built and what follows of all of them; what code that reads answers, and what its answers tell; a logic of readers:
pub mod Reading
-- What was read: names, conditions and sheets, numbers, cards and event lines, and a case that was taken:
pub mod Papers
-- What is written: a card is read back, so a step's result is again accepted; every card read is so written, and every event line; texts put into lent space:
pub mod Writing
-- The reasons: what stops a line, what is told of one status, and all of them:
pub mod Why
-- A case that was taken, when each request is, and what is refused with which number:
pub mod Requests
-- What the clerk is told: reasons, the check of a sheet with its circle, the blank card, and what may still come, status by status:
pub mod Clerk
