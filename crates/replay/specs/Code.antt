-- What the code keeps: its own values as the definitions have them, and what its functions ask and leave. Contracts
-- cite these files.
pub mod Case
pub mod Put
pub mod Planes
