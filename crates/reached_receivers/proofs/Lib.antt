pub mod WireWalk
pub mod KindLaws
pub mod CallLaws
pub mod RootLaws
pub mod PacketLaws
pub mod ReceiverLaws
