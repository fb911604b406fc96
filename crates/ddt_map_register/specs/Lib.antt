pub mod RegisteredLocator
pub mod RegisterRecord
pub mod MapRegister
pub mod Authentic
pub mod MapNotify
pub mod Hmac
