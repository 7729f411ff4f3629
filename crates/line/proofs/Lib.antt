-- The plain engine's list and the gate's four queues: alike, so the engines agree. Then what the code of a line rests on. Last,
-- document 01's examples on the list.
pub mod Alike
pub mod Parts
pub mod Rules
pub mod Agree
pub mod Again
pub mod Packing
pub mod Steps
pub mod Building
pub mod Least
pub mod Priorities
pub mod Judged
pub mod Worked
