-- Two facts at once.

pub record Two (First Second : Type 0) : Type 0 where
  pub first : First
  pub second : Second
