-- Requests of other kernels, and answers to this one.
use Rattle.std.specs.Prelude.{ℕ, if◌then◌else◌, Option, Some, None}
use Rattle.sprite_ids.specs.declared.TxNo.{TxNo}
use Rattle.sprite_ids.specs.Lists.{less}
use Rattle.kernel_steps.specs.Rows.{first_under, is_under}
use Rattle.packet_bodies.specs.declared.ReplyBody.{ReplyBody}
use Rattle.packet_bodies.specs.declared.Request.{Request}
use Rattle.packet_bodies.specs.declared.Request.TheVariants as requests
use Rattle.client_file_tables.specs.Steps.{owns}
use Rattle.client_data.specs.Grants.{called_back}
use Rattle.client_files.specs.Answered as files
use Rattle.client_homes.specs.declared.Unfinished.{Unfinished}
use Rattle.client_homes.specs.declared.Unfinished.TheVariants as unfinished
use Rattle.client_homes.specs.declared.ClientProcs.{ClientProcs}
use Rattle.client_homes.specs.Says.{with_files}
use Rattle.client_homes.specs.Words.{reply_of}
use Rattle.client_homes.specs.Procs.{is_call, replies}
use Rattle.client_homes.specs.Ends.{ends}
use Rattle.client_homes.specs.Kills.{hears_kill, kill_replied, tells_place}
use Rattle.client_homes.specs.Issuing.{hears_home, serves_home}
use Rattle.client_devices.specs.Asking.{serves_ask}
use Rattle.client_moves.specs.Leaving.{leaves_on}
use Rattle.client_moves.specs.Paging.{page_comes}
use Rattle.client_procs.specs.Arriving.{arrives, hears_place}

-- another kernel asks
abbrev pub serves : TxNo → Request → ClientProcs → ClientProcs
serves tx (requests.Callback request) s = with_files (called_back tx request s.files) s
serves tx (requests.Home request) s = serves_home tx request s
serves tx (requests.Transfer request) s = arrives tx (requests.Transfer request) s
serves tx (requests.Launch request) s = arrives tx (requests.Launch request) s
serves tx (requests.Place pid kernel) s = tells_place tx pid kernel s
serves tx (requests.Killed pid) s = hears_kill tx pid s
serves tx (requests.Ask request) s = serves_ask tx request s
serves tx _ s = s

-- a remote call for a process is answered; who sent a process has forgotten it
abbrev pub hears_for : TxNo → Unfinished → ReplyBody → ClientProcs → ClientProcs
hears_for tx (unfinished.PageOut pid) body s = leaves_on pid s
hears_for tx (unfinished.PageIn pid) body s = page_comes pid tx body s
hears_for tx (unfinished.Home pid) body s = hears_home tx pid body s
hears_for tx (unfinished.Ask pid) body s = replies pid (reply_of body) s
hears_for tx (unfinished.Death pid) body s = ends pid None s
hears_for tx (unfinished.Place pid) body s = hears_place pid s
hears_for tx (unfinished.Killed pid) body s = kill_replied pid body s
hears_for tx (unfinished.Transfer pid) body s = s

abbrev pub hears_if : TxNo → Option Unfinished → ReplyBody → ClientProcs → ClientProcs
hears_if tx (Some call) body s = hears_for tx call body s
hears_if tx None body s = s

abbrev pub hears_own : TxNo → ReplyBody → ClientProcs → ClientProcs
hears_own tx body s = hears_if tx (first_under is_call tx s.unfinished) body (record s { unfinished = less (is_under is_call tx) s.unfinished })

-- a remote call is answered
abbrev pub hears : TxNo → ℕ → ReplyBody → ClientProcs → ClientProcs
hears tx from body s = if owns tx s.files then with_files (files.answered tx from body s.files) s else hears_own tx body s
