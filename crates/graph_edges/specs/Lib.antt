-- The edges that rows of tests give, and what a function adds to a graph:
pub mod Edges
pub mod Added
