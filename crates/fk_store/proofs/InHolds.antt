pub mod FrozenLaws
pub mod HeldLaws
