pub mod Bytes
pub mod Ends
pub mod Grammar
pub mod Piece
pub mod Lexed
pub mod Spans
pub mod Lexeme
pub mod Lexemes
