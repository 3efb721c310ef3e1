pub mod Soak
