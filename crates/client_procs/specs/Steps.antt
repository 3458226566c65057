-- One step of a client kernel.
use Rattle.std.specs.Prelude.{ℕ}
use Rattle.sprite_ids.specs.declared.TxNo.{TxNo}
use Rattle.kernel_steps.specs.declared.Input.{Input}
use Rattle.kernel_steps.specs.declared.Input.TheVariants as inputs
use Rattle.kernel_steps.specs.declared.Out.{Out}
use Rattle.client_file_tables.specs.Says.{about_of}
use Rattle.client_file_tables.specs.Steps as tables
use Rattle.client_data.specs.WriteBacks.{due_goes}
use Rattle.client_names.specs.Answers.{gives_up}
use Rattle.client_homes.specs.declared.ClientProcs.{ClientProcs}
use Rattle.client_homes.specs.Says.{with_files}
use Rattle.client_moves.specs.Paging.{needs_page}
use Rattle.client_procs.specs.Issues.{issues}
use Rattle.client_procs.specs.Answered.{hears, serves}
use Rattle.client_procs.specs.Turning.{goes_on}

-- a step begins
abbrev pub begins_step : TxNo → ℕ → ClientProcs → ClientProcs
begins_step next step s = with_files (tables.begins next step s.files) s

-- and ends
abbrev pub ends_step : ClientProcs → ClientProcs
ends_step s = with_files (tables.said s.files) s

-- what comes
abbrev pub takes : Input → ClientProcs → ClientProcs
takes (inputs.Issued pid number call) s = issues (about_of pid number) call s
takes (inputs.Request tx from body) s = serves tx body s
takes (inputs.Replied tx from body) s = hears tx from body s
takes (inputs.GaveUp tx) s = with_files (gives_up tx s.files) s
takes (inputs.Due file block) s = with_files (due_goes file block s.files) s
takes (inputs.PageNeeded pid page) s = needs_page pid page s

-- what was said, and the state after it
abbrev pub parted : ClientProcs → ClientProcs × Out
parted s = (ends_step s, s.files.out)

abbrev pub client_step : ClientProcs → Input → TxNo → ℕ → ClientProcs × Out
client_step s input next step = parted (goes_on (takes input (begins_step next step s)))
