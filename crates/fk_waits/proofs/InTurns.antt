pub mod Woken
pub mod Roused
pub mod Firsts
