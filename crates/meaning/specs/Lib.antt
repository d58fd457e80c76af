-- Document 01 and the requests behind it as definitions, in the order in which to read them.
-- Texts, refusals, and how a paper is read:
pub mod Text
pub mod Refusal
pub mod Limits
pub mod Reading
pub mod Name
pub mod Number
-- Conditions and the sheet: what they are, then how they are read:
pub mod Kleene
pub mod Condition
pub mod ReadCondition
pub mod Sheet
pub mod ReadSheet
-- The card and the event line:
pub mod Card
-- What is made of them:
pub mod Graph
pub mod Tests
pub mod Dependency
pub mod Circle
pub mod Step
pub mod Outlook
pub mod Prospect
pub mod Why
pub mod Write
-- The three requests and the two programs:
pub mod Doors
pub mod Desk
pub mod Clerk
pub mod Computing
