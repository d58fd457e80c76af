-- Arrays that begin with a list: what a store behind the list makes of them, and how its parts are found again.
pub use Rattle.theory.specs.Lists.Padded.{take_low, behind_at, padded_at, padded_store, padded_length, padded_set, padded_more, padded_take, padded_part, padded_sets, laid, mapped_set}
