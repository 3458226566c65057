-- What crosses threads with a cluster: a client's kernel.
use denote.Param.Send.{IsSend}
use denote.Param.SendFields.{declared_send, variants_send}
use Rattle.sprite_cluster.proofs.SendRecords.{whole, call_sends, image_sends, kernel_line_sends, program_line_sends, reply_sends}
use Rattle.sprite_cluster.proofs.SendTables.{device_sends, home_sends}
use Rattle.sprite_cluster.proofs.SendFiles.{client_files_sends}
use Rattle.sprite_cluster.proofs.SendMoves.{move_step_sends}
use Rattle.client_homes.specs.contracts.process.ProcState as proc_state
use Rattle.client_homes.specs.contracts.process.Proc as proc
use Rattle.client_homes.specs.contracts.client.Leaving as leaving
use Rattle.client_homes.specs.contracts.client.KillState as kill_state
use Rattle.client_homes.specs.contracts.client.Unfinished as unfinished
use Rattle.client_homes.specs.contracts.client.ClientProcs as client_procs

pub proc_state_sends : IsSend proc_state.the_row
proc_state_sends = variants_send proc_state.enum (search (whole, reply_sends) depth 100 fits 400000)

pub proc_sends : IsSend proc.the_row
proc_sends = declared_send proc.the_type (search (whole, image_sends, call_sends, proc_state_sends) depth 100 fits 400000)

pub leaving_sends : IsSend leaving.the_row
leaving_sends = declared_send leaving.the_type (search (whole, move_step_sends) depth 100 fits 400000)

pub kill_state_sends : IsSend kill_state.the_row
kill_state_sends = search whole depth 100 fits 400000

pub unfinished_sends : IsSend unfinished.the_row
unfinished_sends = search whole depth 100 fits 400000

ruleset client_procs_parts = (whole, kernel_line_sends, program_line_sends, client_files_sends, home_sends, proc_sends, leaving_sends, device_sends, kill_state_sends, unfinished_sends)

pub client_procs_sends : IsSend client_procs.the_row
client_procs_sends = declared_send client_procs.the_type (
  search client_procs_parts depth 100 fits 400000,
  (
    search client_procs_parts depth 100 fits 400000,
    (
      search client_procs_parts depth 100 fits 400000,
      (
        search client_procs_parts depth 100 fits 400000,
        (
          search client_procs_parts depth 100 fits 400000,
          (
            search client_procs_parts depth 100 fits 400000,
            (
              search client_procs_parts depth 100 fits 400000,
              (
                search client_procs_parts depth 100 fits 400000,
                (
                  search client_procs_parts depth 100 fits 400000,
                  (
                    search client_procs_parts depth 100 fits 400000,
                    (
                      search client_procs_parts depth 100 fits 400000,
                      (
                        search client_procs_parts depth 100 fits 400000,
                        (
                          search client_procs_parts depth 100 fits 400000,
                          (
                            search client_procs_parts depth 100 fits 400000,
                            (
                              search client_procs_parts depth 100 fits 400000,
                              (
                                search client_procs_parts depth 100 fits 400000,
                                (
                                  search client_procs_parts depth 100 fits 400000,
                                  (
                                    search client_procs_parts depth 100 fits 400000,
                                    (
                                      search client_procs_parts depth 100 fits 400000,
                                      (search client_procs_parts depth 100 fits 400000, tt),
                                    ),
                                  ),
                                ),
                              ),
                            ),
                          ),
                        ),
                      ),
                    ),
                  ),
                ),
              ),
            ),
          ),
        ),
      ),
    ),
  ),
)
