-- What the code keeps: its own values as the definitions have them, and what its functions ask and leave. Contracts
-- cite these files.
pub mod Pad
pub mod Table
pub mod Run
pub mod Columns
pub mod Copy
pub mod Count
pub mod Level
pub mod Walk
pub mod Component
