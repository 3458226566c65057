pub mod MovedOpens
