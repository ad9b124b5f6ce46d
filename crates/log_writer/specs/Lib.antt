-- What the functions inside this crate answer: a step written in parts. The writer answers definitions of `model`.
pub mod WriteInParts
