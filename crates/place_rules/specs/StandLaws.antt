-- Where an entry is to stand by what is kept is where it is to stand.
use Rattle.std.proofs.Common.{◌≡◌, ◌∙◌, ℕ, Bool, true, false, cond, ◌||◌, List, Option, Some, None, refl, ap}
use Rattle.std.specs.Option.{option_map, option_and_then}
use Rattle.sprite_ids.specs.Pid.{home_of}
use Rattle.sprite_ids.specs.declared.names.StreamNo.{StreamNo}
use Rattle.sprite_paths.specs.Path.{clean_path}
use Rattle.process_machine.specs.declared.call.Call.{Call}
use Rattle.process_machine.specs.declared.call.Call.TheVariants as call
use Rattle.process_machine.specs.declared.call.Reply.{Reply}
use Rattle.unix_calls.specs.declared.description.Description.{Description}
use Rattle.unix_calls.specs.declared.entry.Entry.{Entry}
use Rattle.unix_calls.specs.declared.entry.Part.{Part}
use Rattle.unix_calls.specs.declared.entry.Part.TheVariants as part
use Rattle.unix_calls.specs.declared.event.Event.TheVariants as event
use Rattle.unix_calls.specs.declared.state.Process.{Process}
use Rattle.call_journal.specs.Past.{Past, Tie, process_in, server_of_device, tied}
use Rattle.call_journal.specs.Calls.{descriptor_of, error_in, is_value, path_text, server_of}
use Rattle.call_journal.specs.EntryPlaces as places
use Rattle.trace_tables.specs.Callers.{caller_at, name_server}
use Rattle.trace_tables.specs.Ties.{tied_by}
use Rattle.trace_rules.specs.Modes.{has_stream}
use Rattle.place_rules.specs.declared.stand.Stand.{Stand}
use Rattle.place_rules.specs.declared.stand.Stand.TheVariants as stand
use Rattle.place_rules.specs.Stands.{at_file, at_file_if, at_kernel, at_shared, by_server, device_at, device_stand, is_at, other_stand, stand_by}

-- the same place
abbrev pub told : Stand → places.Stand
told stand.AtProcess = places.AtProcess
told (stand.AtKernel kernel) = places.AtKernel kernel
told (stand.AtEither server) = places.AtEither server

pub is_at_told : (s : Stand) (at kernel : ℕ) → is_at s at kernel ≡ places.is_stand (told s) at kernel
is_at_told stand.AtProcess at kernel = refl
is_at_told (stand.AtKernel due) at kernel = refl
is_at_told (stand.AtEither server) at kernel = refl

-- ---- at devices, files and homes

device_told : (devices : List (ℕ × ℕ)) (past : Past) (o : Option ℕ) → ((place : ℕ) → device_at devices place ≡ server_of_device past.devices place) → told (device_stand devices o) ≡ places.at_kernel (option_and_then (server_of_device past.devices) o)
device_told devices past None kept = refl
device_told devices past (Some place) kept = ap (λ o. told (at_kernel o)) (kept place) ∙ by (server_of_device past.devices place)
  where
    by : (o : Option ℕ) → told (at_kernel o) ≡ places.at_kernel o
    by None = refl
    by (Some kernel) = refl

file_told : (o : Option Tie) → told (at_file (option_map tied_by o)) ≡ places.at_file o
file_told None = refl
file_told (Some tie) = refl

file_if_told : (b : Bool) (o : Option Tie) → told (at_file_if b (option_map tied_by o)) ≡ cond b (places.at_file o) places.AtProcess
file_if_told true o = file_told o
file_if_told false o = refl

shared_if_told : (a b : Bool) (server : ℕ) → a ≡ b → told (cond a (stand.AtEither server) stand.AtProcess) ≡ cond b (places.AtEither server) places.AtProcess
shared_if_told true true server is = refl
shared_if_told false false server is = refl
shared_if_told true false server is = absurd (cc (is))
shared_if_told false true server is = absurd (cc (is))

shared_told : (shared : List StreamNo) (past : Past) (o : Option Tie) → ((tie : Tie) → has_stream shared tie.stream ≡ places.is_shared past tie) → told (at_shared shared (option_map tied_by o)) ≡ places.at_shared past o
shared_told shared past None kept = refl
shared_told shared past (Some tie) kept = shared_if_told (has_stream shared tie.stream) (places.is_shared past tie) tie.file.server (kept tie)

kernel_if_told : (b : Bool) (kernel : ℕ) → told (cond b (stand.AtKernel kernel) stand.AtProcess) ≡ cond b (places.AtKernel kernel) places.AtProcess
kernel_if_told true kernel = refl
kernel_if_told false kernel = refl

-- ---- by the call

other_told : (c : Description) (past : Past) (shared : List StreamNo) (entry : Entry) (call : Call) → ((tie : Tie) → has_stream shared tie.stream ≡ places.is_shared past tie) → told (other_stand c shared (option_map tied_by (option_and_then (tied past entry.pid) (descriptor_of call))) entry.pid call entry.reply) ≡ places.other_stand c past entry call
other_told c past shared entry (call.Kill killed) kept = kernel_if_told (places.is_client_pid c killed) (home_of killed)
other_told c past shared entry (call.Read fd many) kept = file_if_told (is_value entry.reply) (tied past entry.pid fd)
other_told c past shared entry (call.Size fd) kept = file_if_told (is_value entry.reply) (tied past entry.pid fd)
other_told c past shared entry (call.Write fd bytes) kept = file_if_told (is_value entry.reply || places.is_too_big (error_in entry.reply)) (tied past entry.pid fd)
other_told c past shared entry (call.Seek fd offset) kept = shared_told shared past (tied past entry.pid fd) kept
other_told c past shared entry _ kept = refl

-- one that stays at its process's kernel, or goes to the server of its text
stays_told : (b : Bool) → places.AtProcess ≡ cond b places.AtProcess places.AtProcess
stays_told true = refl
stays_told false = refl

server_told : (o : Option ℕ) → told (by_server o stand.AtProcess) ≡ places.at_kernel o
server_told None = refl
server_told (Some server) = refl

names_if : (b : Bool) (o : Option ℕ) → told (by_server (cond b None o) stand.AtProcess) ≡ cond b places.AtProcess (places.at_kernel o)
names_if true o = refl
names_if false o = server_told o

names_told : (c : Description) (stays : Option Process → Bool) (text : List ℕ) (p : Option Process) → told (by_server (option_and_then (λ (q : Process). cond (stays (Some q)) None (option_map (server_of c) (clean_path q.cwd text))) p) stand.AtProcess) ≡ cond (stays p) places.AtProcess (places.at_kernel (places.server_of_text c p text))
names_told c stays text None = stays_told (stays None)
names_told c stays text (Some q) = names_if (stays (Some q)) (option_map (server_of c) (clean_path q.cwd text))

no_names_if : (b : Bool) (other : Stand) → told (by_server (cond b None None) other) ≡ told other
no_names_if true other = refl
no_names_if false other = refl

no_names : (stays : Option Process → Bool) (p : Option Process) (other : Stand) → told (by_server (option_and_then (λ (q : Process). cond (stays (Some q)) None None) p) other) ≡ told other
no_names stays None other = refl
no_names stays (Some q) other = no_names_if (stays (Some q)) other

whole_told : (c : Description) (past : Past) (shared : List StreamNo) (entry : Entry) (call : Call) → ((tie : Tie) → has_stream shared tie.stream ≡ places.is_shared past tie) → told (by_server (option_and_then (λ (q : Process). name_server c q call entry.reply) (process_in past entry.pid)) (other_stand c shared (option_map tied_by (option_and_then (tied past entry.pid) (descriptor_of call))) entry.pid call entry.reply)) ≡ places.whole_stand c past entry call (path_text call)
whole_told c past shared entry (call.OpenFile path flags) kept = names_told c (λ p. places.stays_by (call.OpenFile path flags) p (error_in entry.reply)) path (process_in past entry.pid)
whole_told c past shared entry (call.Stat path) kept = names_told c (λ p. places.stays_by (call.Stat path) p (error_in entry.reply)) path (process_in past entry.pid)
whole_told c past shared entry (call.Mkdir path) kept = names_told c (λ p. places.stays_by (call.Mkdir path) p (error_in entry.reply)) path (process_in past entry.pid)
whole_told c past shared entry (call.Rmdir path) kept = names_told c (λ p. places.stays_by (call.Rmdir path) p (error_in entry.reply)) path (process_in past entry.pid)
whole_told c past shared entry (call.Unlink path) kept = names_told c (λ p. places.stays_by (call.Unlink path) p (error_in entry.reply)) path (process_in past entry.pid)
whole_told c past shared entry (call.Rename old new) kept = names_told c (λ p. places.stays_by (call.Rename old new) p (error_in entry.reply)) old (process_in past entry.pid)
whole_told c past shared entry (call.List path max) kept = names_told c (λ p. places.stays_by (call.List path max) p (error_in entry.reply)) path (process_in past entry.pid)
whole_told c past shared entry (call.Chdir path) kept = names_told c (λ p. places.stays_by (call.Chdir path) p (error_in entry.reply)) path (process_in past entry.pid)
whole_told c past shared entry (call.PdMake path) kept = names_told c (λ p. places.stays_by (call.PdMake path) p (error_in entry.reply)) path (process_in past entry.pid)
whole_told c past shared entry call kept =
    no_names (λ p. places.stays_by call p (error_in entry.reply)) (process_in past entry.pid) (other_stand c shared (option_map tied_by (option_and_then (tied past entry.pid) (descriptor_of call))) entry.pid call entry.reply)
    ∙ other_told c past shared entry call kept

-- ---- of an entry

by_parts : (c : Description) (past : Past) (shared : List StreamNo) (devices : List (ℕ × ℕ)) (pid number : ℕ) (p : Part) (o : Option Call) (reply : Option Reply) → ((tie : Tie) → has_stream shared tie.stream ≡ places.is_shared past tie) → ((place : ℕ) → device_at devices place ≡ server_of_device past.devices place) → told (stand_by c shared devices (caller_at c past (event.Enter (record { pid = pid; number = number; part = p; call = o; reply = reply }))) pid p o reply) ≡ places.stand_of c past (record { pid = pid; number = number; part = p; call = o; reply = reply })
by_parts c past shared devices pid number part.Whole (Some call) reply kept served = whole_told c past shared (record { pid = pid; number = number; part = part.Whole; call = Some call; reply = reply }) call kept
by_parts c past shared devices pid number part.Whole None reply kept served = refl
by_parts c past shared devices pid number part.Ask (Some call) reply kept served =
    device_told devices past (places.device_asked past (record { pid = pid; number = number; part = part.Ask; call = Some call; reply = reply }) call) served
by_parts c past shared devices pid number part.Ask None reply kept served = refl
by_parts c past shared devices pid number part.Done (Some call) reply kept served =
    device_told devices past (places.device_asking past (record { pid = pid; number = number; part = part.Done; call = Some call; reply = reply })) served
by_parts c past shared devices pid number part.Done None reply kept served = refl
by_parts c past shared devices pid number part.Death o reply kept served = refl

pub stand_told : (c : Description) (past : Past) (shared : List StreamNo) (devices : List (ℕ × ℕ)) (entry : Entry) → ((tie : Tie) → has_stream shared tie.stream ≡ places.is_shared past tie) → ((place : ℕ) → device_at devices place ≡ server_of_device past.devices place) → told (stand_by c shared devices (caller_at c past (event.Enter entry)) entry.pid entry.part entry.call entry.reply) ≡ places.stand_of c past entry
stand_told c past shared devices entry kept served = by_parts c past shared devices entry.pid entry.number entry.part entry.call entry.reply kept served
