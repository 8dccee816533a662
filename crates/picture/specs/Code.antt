-- What the code keeps: its own values as the definitions have them, and what its functions ask and leave. Contracts
-- cite these files.
pub mod Rules
pub mod Sides
pub mod Matrix
pub mod Head
pub mod Strip
pub mod Cost
pub mod Tally
pub mod Counter
pub mod Put
pub mod Layout
pub mod Counts
pub mod Packed
pub mod Picture
pub mod Search
pub mod Choice
pub mod Notes
pub mod Passes
pub mod Low
pub mod LowRest
pub mod Analysed
pub mod Coded
