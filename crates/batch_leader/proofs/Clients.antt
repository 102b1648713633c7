-- What the crates above use.
pub use Rattle.batch_leader.proofs.TakenLaws.{batch_of}
pub use Rattle.batch_leader.proofs.TrailLaws.{no_loads, same_but_looked, load_more, loads_on, loads_then, one_only, turn_of_loads, turn_of_one, turn_of_few, turn_handed, turn_after_loads}
pub use Rattle.batch_leader.proofs.Steps.{makes_then, no_steps, one_step, runs_then}
