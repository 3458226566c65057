pub mod ReceiverLaws
pub mod CallLaws
pub mod ClientLaws
pub mod KernelLaws
pub mod TurnLaws
pub mod StillLaws
pub mod StallLaws
pub mod LeftLaws
