-- Re-exports `one_writer` from `frames`. This definition says which operations each process of a
-- register with one writer may make.
pub use Rattle.frames.specs.OneWriter.{one_writer}
