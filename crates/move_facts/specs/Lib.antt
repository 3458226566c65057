pub mod MoveFacts
