-- By which sorts of answers a request may be answered.
use Rattle.std.specs.Prelude.{Bool, true, false}
use Rattle.packet_bodies.specs.declared.ReplyBody.{ReplyBody}
use Rattle.packet_bodies.specs.declared.ReplyBody.TheVariants as replies
use Rattle.packet_bodies.specs.declared.Request.{Request}
use Rattle.packet_bodies.specs.declared.Request.TheVariants as requests

abbrev pub is_done : ReplyBody → Bool
is_done replies.Done = true
is_done reply = false

abbrev pub is_here : ReplyBody → Bool
is_here (replies.Here path) = true
is_here reply = false

-- the reply of a process's call
abbrev pub is_call_reply : ReplyBody → Bool
is_call_reply (replies.Value value) = true
is_call_reply (replies.Refused errno) = true
is_call_reply reply = false

-- of a name call; its walk may lead on into another domain
abbrev pub is_name_reply : ReplyBody → Bool
is_name_reply (replies.Redirect path) = true
is_name_reply reply = is_call_reply reply

abbrev pub is_opening_reply : ReplyBody → Bool
is_opening_reply (replies.Opened opened) = true
is_opening_reply (replies.Refused errno) = true
is_opening_reply (replies.Redirect path) = true
is_opening_reply reply = false

-- of an operation on a file; one that went under an old stamp is answered with the present grant
abbrev pub is_op_reply : ReplyBody → Bool
is_op_reply (replies.Again grant) = true
is_op_reply reply = is_call_reply reply

abbrev pub is_fetch_reply : ReplyBody → Bool
is_fetch_reply (replies.Block stamp bytes) = true
is_fetch_reply (replies.Again grant) = true
is_fetch_reply reply = false

abbrev pub is_write_back_reply : ReplyBody → Bool
is_write_back_reply (replies.Again grant) = true
is_write_back_reply reply = is_done reply

abbrev pub is_flushed : ReplyBody → Bool
is_flushed (replies.Flushed flushed) = true
is_flushed reply = false

abbrev pub is_moved : ReplyBody → Bool
is_moved (replies.Moved grant many) = true
is_moved reply = false

abbrev pub is_page : ReplyBody → Bool
is_page (replies.Page bytes) = true
is_page reply = false

-- a process that a kill looks for may be gone
abbrev pub is_kill_reply : ReplyBody → Bool
is_kill_reply replies.Gone = true
is_kill_reply reply = is_done reply

-- whether a request may have that answer, by what both are
abbrev pub fits : Request → ReplyBody → Bool
fits requests.Echo reply = is_done reply
fits (requests.Prefix path) reply = is_here reply
fits (requests.Opening r) reply = is_opening_reply reply
fits (requests.Name r) reply = is_name_reply reply
fits (requests.Make r) reply = is_name_reply reply
fits (requests.Close r) reply = is_done reply
fits (requests.Op r) reply = is_op_reply reply
fits (requests.Fetch r) reply = is_fetch_reply reply
fits (requests.WriteBack r) reply = is_write_back_reply reply
fits (requests.Callback r) reply = is_flushed reply
fits (requests.Move r) reply = is_moved reply
fits (requests.Transfer r) reply = is_done reply
fits (requests.Home r) reply = is_call_reply reply
fits (requests.Place pid kernel) reply = is_done reply
fits (requests.Killed pid) reply = is_kill_reply reply
fits (requests.Ask r) reply = is_call_reply reply
fits (requests.PageOut r) reply = is_done reply
fits (requests.PageIn pid page) reply = is_page reply
fits (requests.Launch r) reply = is_done reply
