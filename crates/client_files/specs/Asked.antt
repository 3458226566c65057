-- Answers to name calls.
use Rattle.std.specs.Prelude.{ℕ, Option, Some, None}
use Rattle.sprite_ids.specs.declared.Grant.{Grant}
use Rattle.packet_bodies.specs.declared.OpenedReply.{OpenedReply}
use Rattle.packet_bodies.specs.declared.ReplyBody.{ReplyBody}
use Rattle.packet_bodies.specs.declared.ReplyBody.TheVariants as replies
use Rattle.client_file_tables.specs.declared.ClientFiles.{ClientFiles}
use Rattle.client_file_tables.specs.declared.NameCall.{NameCall}
use Rattle.client_file_tables.specs.declared.NameWork.{NameWork}
use Rattle.client_file_tables.specs.declared.NameState.{NameState}
use Rattle.client_file_tables.specs.declared.NameState.TheVariants.{Broadcasting, Echoing, Asking}
use Rattle.client_names.specs.Paths.{Parts}
use Rattle.client_names.specs.Lookups.{asks, learns, looks_up, redirects}
use Rattle.client_names.specs.Answers.{ends_opened, ends_refused, ends_value}
use Rattle.client_data.specs.Grants.{takes_grant}

-- a grant is taken, where there is one
abbrev pub takes_some : Option Grant → ClientFiles → ClientFiles
takes_some (Some grant) s = takes_grant grant s
takes_some None s = s

-- an open was answered: the client's part of its Delivering
abbrev pub opens_answered : ℕ → NameWork → OpenedReply → ClientFiles → ClientFiles
opens_answered pid work opened s = ends_opened pid work opened (takes_some opened.grant s)

-- the request was answered; no other bodies answer it
abbrev pub ends_asked : ℕ → NameWork → ReplyBody → ClientFiles → ClientFiles
ends_asked pid work (replies.Refused why) s = ends_refused pid why s
ends_asked pid work (replies.Redirect path) s = redirects pid work path s
ends_asked pid work (replies.Opened opened) s = opens_answered pid work opened s
ends_asked pid work (replies.Value value) s = ends_value pid work value s
ends_asked pid work _ s = s

-- a broadcast was answered
abbrev pub finds_server : ℕ → NameWork → Parts → ℕ → ClientFiles → ClientFiles
finds_server pid work prefix server s = looks_up pid work (learns prefix server s)

-- what the call waited for came
abbrev pub answers_name_by : NameState → ℕ → NameWork → ℕ → ReplyBody → ClientFiles → ClientFiles
answers_name_by (Broadcasting tx prefix) pid work source body s = finds_server pid work prefix source s
answers_name_by (Echoing tx server) pid work source body s = asks pid work server s
answers_name_by (Asking tx) pid work source body s = ends_asked pid work body s

abbrev pub answers_name : ℕ → NameCall → ℕ → ReplyBody → ClientFiles → ClientFiles
answers_name pid call source body s = answers_name_by call.state pid call.work source body s
