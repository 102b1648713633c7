-- What the crates above use.
pub use Rattle.answer_queue.proofs.Numbering.{times_append, numbers_append, numbers_length, leaves_all, among_first, among_rest, few_joined, among_joined, among_left, among_members, times_permutation, distinct_permutation, puts_next, next_number, run_joined, run_distinct, run_length, once_here, once_there}
pub use Rattle.answer_queue.proofs.Orders.{stored_length, any_order, in_order, places_permutation}
