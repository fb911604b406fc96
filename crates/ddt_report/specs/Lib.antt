pub mod Head
pub mod Html
pub mod Markup
pub mod Page
pub mod Sections
pub mod Tables
pub mod laws
pub mod Pictures
