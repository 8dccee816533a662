-- Laws of the definitions, and the proof of the marked examples.
pub mod Laws
pub mod Examples
