-- A step of the files' side of a client kernel.
use Rattle.std.specs.Prelude.{ℕ, None}
use Rattle.sprite_ids.specs.declared.TxNo.{TxNo}
use Rattle.packet_bodies.specs.declared.Request.{Request}
use Rattle.packet_bodies.specs.declared.Request.TheVariants as requests
use Rattle.kernel_steps.specs.declared.Input.{Input}
use Rattle.kernel_steps.specs.declared.Input.TheVariants as inputs
use Rattle.kernel_steps.specs.declared.Out.{Out}
use Rattle.client_file_tables.specs.declared.ClientFiles.{ClientFiles}
use Rattle.client_file_tables.specs.Says.{about_of}
use Rattle.client_file_tables.specs.Steps.{begins, said}
use Rattle.client_names.specs.Answers.{gives_up}
use Rattle.client_data.specs.Grants.{called_back}
use Rattle.client_data.specs.WriteBacks.{due_goes}
use Rattle.client_files.specs.CallIssues.{issues}
use Rattle.client_files.specs.Answered.{answered}
use Rattle.client_files.specs.Turns.{goes_on}

-- servers ask nothing of this side but callbacks
abbrev pub takes_request : TxNo → Request → ClientFiles → ClientFiles
takes_request tx (requests.Callback request) s = called_back tx request s
takes_request tx _ s = s

-- what comes changes the state, and may end operations or wake some
abbrev pub takes : Input → ClientFiles → ClientFiles
takes (inputs.Issued pid number call) s = issues (about_of pid number) call None s
takes (inputs.Request tx source body) s = takes_request tx body s
takes (inputs.Replied tx source body) s = answered tx source body s
takes (inputs.GaveUp tx) s = gives_up tx s
takes (inputs.Due file block) s = due_goes file block s
takes (inputs.PageNeeded pid page) s = s

-- the state after a step, and what the step says
abbrev pub parted : ClientFiles → ClientFiles × Out
parted s = (said s, s.out)

abbrev pub files_step : ClientFiles → Input → TxNo → ℕ → ClientFiles × Out
files_step s input next step = parted (goes_on (takes input (begins next step s)))
