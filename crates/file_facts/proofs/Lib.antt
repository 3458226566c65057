pub mod Books
pub mod BookLaws
pub mod HeardLaws
pub mod RunFacts
pub mod CallRuns
pub mod AnswerFacts
pub mod RestFacts
pub mod KernelFacts
