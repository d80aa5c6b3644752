pub mod Laws
mod LeastLemmas
mod Stops
