use Rattle.unix_frames.proofs.FrameLaws.{entries_leave}
use Rattle.unix_frames.proofs.laws.entries_leave.Goals as goal

pub returns : goal.returns
returns c = entries_leave
