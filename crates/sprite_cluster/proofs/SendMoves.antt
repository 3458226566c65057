-- What crosses threads with a cluster: processes on their way.
use denote.Param.Send.{IsSend}
use denote.Param.SendFields.{variants_send}
use Rattle.sprite_cluster.proofs.SendRecords.{whole, image_sends, path_sends}
use Rattle.migrate_freeze.specs.contracts.frozen.Moving as moving
use Rattle.migrate_freeze.specs.contracts.frozen.Sent as sent
use Rattle.migrate_freeze.specs.contracts.frozen.MoveStep as move_step

pub moving_sends : IsSend moving.the_row
moving_sends = search (whole, image_sends, path_sends) depth 100 fits 400000

pub sent_sends : IsSend sent.the_row
sent_sends = search (whole, image_sends, path_sends) depth 100 fits 400000

pub move_step_sends : IsSend move_step.the_row
move_step_sends = variants_send move_step.enum (search (whole, moving_sends, sent_sends) depth 100 fits 400000)
