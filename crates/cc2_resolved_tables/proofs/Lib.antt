pub mod AtOnce
