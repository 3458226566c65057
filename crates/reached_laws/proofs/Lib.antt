pub mod RecordLaws
pub mod PacketLaws
