pub mod FaultLaws
pub mod NotedLaws
pub mod LinkLaws
pub mod ServerLaws
pub mod RanLaws
pub mod CallLaws
pub mod ReplyLaws
pub mod ComeLaws
