pub mod Numbers
pub mod Rules
pub mod States
pub mod Forms
pub mod Views
pub mod FirstTokens
pub mod Classes
