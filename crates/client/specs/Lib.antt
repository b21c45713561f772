-- What a replay answers to a client, and what it carries of a file.
pub mod Replay
pub mod File
