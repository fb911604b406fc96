-- What follows from the definitions, for this crate and for those above.
pub mod Below
pub mod Child
pub mod Free
pub mod Fronts
pub mod Holder
pub mod Kept
pub mod Next
pub mod Order
pub mod Outside
pub mod Root
pub mod RuleOrder
pub mod Served
pub mod ServersByName
pub mod Site
pub mod Zone
pub mod Statements
