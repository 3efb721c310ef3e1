pub mod Bursts
pub mod Laws
