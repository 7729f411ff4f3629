-- What the plain engine's code makes of a state is what the model makes of what the state says; so a run of it is the gate's.
pub mod Views
pub mod Refusals
pub mod Entry
pub mod Doing
pub mod Polling
pub mod Bursts
pub mod Runs
pub mod Again
pub mod Worked
pub mod Stated
