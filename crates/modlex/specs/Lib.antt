pub mod Bytes
pub mod Lines
pub mod Lexer
pub mod Tokens
pub mod Symbols
pub mod Words
pub mod Values
