-- Lists in the front of lent space:
pub mod Front
