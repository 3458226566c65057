-- How a client reads, writes and appends: in its cache, or at the server.
use Rattle.std.specs.Prelude.{ℕ, Bool, true, false, is_some, if◌then◌else◌, List, [], ◌∷◌, ◌++◌, Option, Some, None}
use Rattle.sprite_ids.specs.declared.StreamNo.{StreamNo}
use Rattle.file_views.specs.declared.body.Access.{Access}
use Rattle.file_views.specs.declared.body.Access.TheVariants as access
use Rattle.file_views.specs.declared.body.FileBody.{FileBody}
use Rattle.file_views.specs.declared.body.FileBody.TheVariants as form
use Rattle.file_views.specs.declared.step.FileStep.{FileStep}
use Rattle.file_views.specs.declared.step.FileStep.TheVariants as act
use Rattle.file_views.specs.declared.view.View.{View}
use Rattle.file_views.specs.Setting.{Setting}
use Rattle.file_views.specs.Clients.{is_on, missing, done_cached}
use Rattle.file_views.specs.Views.{server, client, set_client, begin}

-- the operation by which a reading, writing or append goes to the server
abbrev pub op_of : ℕ → FileStep → FileBody
op_of stamp (act.Reading pid number kernel stream from length) = form.Op pid number stamp stream (access.Read from length)
op_of stamp (act.Writing pid number kernel stream from bytes) = form.Op pid number stamp stream (access.Write from bytes)
op_of stamp (act.Append pid number kernel stream bytes) = form.Op pid number stamp stream (access.Append bytes)
op_of stamp step = form.Done

-- the reading, writing or append of an operation
abbrev pub step_of : ℕ → ℕ → ℕ → StreamNo → Access → FileStep
step_of pid number kernel stream (access.Read from length) = act.Reading pid number kernel stream from length
step_of pid number kernel stream (access.Write from bytes) = act.Writing pid number kernel stream from bytes
step_of pid number kernel stream (access.Append bytes) = act.Append pid number kernel stream bytes

-- it goes to the server
abbrev pub send_op : View → ℕ → FileStep → View
send_op v kernel step = begin v kernel server (op_of (client v kernel).stamp step) None

-- a block is asked for
abbrev pub send_fetch : View → ℕ → ℕ → View
send_fetch v kernel number = begin v kernel server (form.Fetch (client v kernel).stamp (record { 0 = number })) None

-- it is done in the cache
abbrev pub enter_cached : Setting → View → ℕ → FileStep → View
enter_cached z v kernel step = set_client v kernel (done_cached z (client v kernel) step)

-- it waits at its kernel, behind others
abbrev pub queue : View → ℕ → FileStep → View
queue v kernel step = set_client v kernel (record (client v kernel) { waiting = (client v kernel).waiting ++ step ∷ [] })

-- the first that waits asks for its block
abbrev pub wait_for : View → ℕ → FileStep → ℕ → List FileStep → View
wait_for v kernel step number [] = send_fetch (queue v kernel step) kernel number
wait_for v kernel step number (first ∷ rest) = queue v kernel step

-- by whether the client uses its cache and what is missing there
abbrev pub started : Setting → View → ℕ → FileStep → Bool → Option ℕ → View
started z v kernel step false gap = send_op v kernel step
started z v kernel step true None = enter_cached z v kernel step
started z v kernel step true (Some number) = wait_for v kernel step number (client v kernel).waiting

-- a reading, writing or append begins, or begins again
abbrev pub start_data : Setting → View → ℕ → FileStep → View
start_data z v kernel step = started z v kernel step (is_on (client v kernel).mode) (missing z (client v kernel) step)

-- what waits behind the first
abbrev pub unqueue : View → ℕ → List FileStep → View
unqueue v kernel rest = set_client v kernel (record (client v kernel) { waiting = rest })

-- a looked-up number
abbrev pub or_zero : Option ℕ → ℕ
or_zero (Some number) = number
or_zero None = 0

-- what waits looks again, one after another, until one asks for a block
abbrev pub advance : Setting → List FileStep → View → ℕ → View
advance z [] v kernel = v
advance z (step ∷ rest) v kernel =
    if is_on (client v kernel).mode
    then (if is_some (missing z (client v kernel) step)
    then send_fetch v kernel (or_zero (missing z (client v kernel) step))
    else advance z rest (enter_cached z (unqueue v kernel rest) kernel step) kernel)
    else advance z rest (send_op (unqueue v kernel rest) kernel step) kernel

-- what waits at the kernel looks again
abbrev pub look : Setting → View → ℕ → View
look z v kernel = advance z (client v kernel).waiting v kernel
