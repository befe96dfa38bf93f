-- fields, and what decoding answers
pub mod Fields
pub mod Decoding
-- messages: each layout, and the message whose parts were read
pub mod OkLayout
pub mod OkParts
pub mod ErrLayout
pub mod ErrParts
pub mod EofLayout
pub mod PrepareOkLayout
pub mod SwitchLayout
pub mod SwitchParts
pub mod ExecuteLayout
pub mod ExecuteParts
pub mod ResponseLayout
pub mod ResponseParts
pub mod GreetingLayout
pub mod GreetingParts
