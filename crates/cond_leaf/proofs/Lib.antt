-- Signs, comparisons and leaves at the returns of their readers, and what callers use:
pub mod Leaves
pub mod Callers
-- No second answer fits:
pub mod Only
