pub mod likeness
pub mod cut
pub mod rebinding
pub mod talks
pub mod waits
pub mod joined
