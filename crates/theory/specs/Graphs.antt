-- Any graph: its testing orders, the circle of one that has none, and rule systems over it.
pub mod Orders
pub mod Circles
pub mod Systems
