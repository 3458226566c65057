-- Look-ups in a view, and its smallest changes.
use Rattle.std.specs.Prelude.{ℕ, ◌+◌, ◌-◌, ◌==◌, max, Bool, true, false, ◌&&◌, not, is_none, if◌then◌else◌, List, [], ◌∷◌, ◌++◌, length, map, filter, replicate, Option, Some, None, slice_index_or, slice_set}
use Rattle.std.specs.List.{list_any}
use Rattle.sprite_ids.specs.declared.CacheMode.{CacheMode}
use Rattle.sprite_ids.specs.declared.CacheMode.TheVariants as cache
use Rattle.file_views.specs.declared.grant.FileGrant.{FileGrant}
use Rattle.file_views.specs.declared.body.FileBody.{FileBody}
use Rattle.file_views.specs.declared.body.FileBody.TheVariants as form
use Rattle.file_views.specs.declared.client.Client.{Client}
use Rattle.file_views.specs.declared.call.FileCall.{FileCall}
use Rattle.file_views.specs.declared.call.Carry.{Carry}
use Rattle.file_views.specs.declared.view.View.{View}
use Rattle.file_views.specs.Contents.{numbers_from}
use Rattle.file_views.specs.Clients.{new_client}

-- the server's kernel
abbrev pub server : ℕ
server = 16

-- a file that nobody has opened, with these first bytes, in a cluster of so many clients
abbrev pub new_view : ℕ → List ℕ → View
new_view count bytes = record {
  bytes = bytes;
  version = 1;
  holder = None;
  uncached = false;
  opens = [];
  shared = [];
  stamps = replicate count 0;
  modes = replicate count cache.None;
  given = replicate count None;
  next = 1;
  clients = replicate count new_client;
  calls = [];
  carried = [];
}

-- the clients' kernels, in ascending order
abbrev pub kernels : View → List ℕ
kernels v = numbers_from 1 (length v.clients)

-- what the kernel keeps
abbrev pub client : View → ℕ → Client
client v kernel = slice_index_or v.clients (kernel - 1) new_client

abbrev pub set_client : View → ℕ → Client → View
set_client v kernel c = record v { clients = slice_set v.clients (kernel - 1) c }

-- the kernel's current stamp, the mode given last to it, and the grant given last
abbrev pub current_stamp : View → ℕ → ℕ
current_stamp v kernel = slice_index_or v.stamps (kernel - 1) 0

abbrev pub mode_given : View → ℕ → CacheMode
mode_given v kernel = slice_index_or v.modes (kernel - 1) cache.None

abbrev pub grant_given : View → ℕ → Option FileGrant
grant_given v kernel = slice_index_or v.given (kernel - 1) None

-- whether a looked-up kernel is that one
abbrev pub is_kernel : ℕ → Option ℕ → Bool
is_kernel kernel (Some other) = other == kernel
is_kernel kernel None = false

-- whether the kernel is the holder
abbrev pub is_holder : View → ℕ → Bool
is_holder v kernel = is_kernel kernel v.holder

-- the stamp given last: it is the current one of the kernel that got it
abbrev pub greatest : List ℕ → ℕ
greatest [] = 0
greatest (stamp ∷ rest) = max stamp (greatest rest)

abbrev pub last_stamp : View → ℕ
last_stamp v = greatest v.stamps

-- the call with that number
abbrev pub find_call : List FileCall → ℕ → Option FileCall
find_call [] number = None
find_call (one ∷ rest) number = if one.number == number then Some one else find_call rest number

-- the other calls
abbrev pub without_call : ℕ → List FileCall → List FileCall
without_call number calls = filter (λ one. not (one.number == number)) calls

-- a call in the place of the one with its number
abbrev pub with_call : FileCall → List FileCall → List FileCall
with_call new calls = map (λ one. if one.number == new.number then new else one) calls

-- the carried stream of the move with that number
abbrev pub find_carried : List Carry → ℕ → Option Carry
find_carried [] number = None
find_carried (one ∷ rest) number = if one.call == number then Some one else find_carried rest number

-- the other ones
abbrev pub without_carried : ℕ → List Carry → List Carry
without_carried number carried = filter (λ one. not (one.call == number)) carried

-- a carried stream as the move that it comes from: its source has the reply
abbrev pub as_call : Carry → FileCall
as_call one = record { number = one.call; from = 0; to = server; body = form.Move one.stream one.to true 0; dirty = None; taken = true; reply = Some (form.Moved one.grant 1) }

-- the carried streams and the calls, as one list of calls; what begins comes to its end
abbrev pub things : View → List FileCall
things v = map as_call v.carried ++ v.calls

-- a call that begins takes the next number
abbrev pub new_call : View → ℕ → ℕ → FileBody → Option ℕ → FileCall
new_call v source target body dirty = record { number = v.next; from = source; to = target; body = body; dirty = dirty; taken = false; reply = None }

abbrev pub begin : View → ℕ → ℕ → FileBody → Option ℕ → View
begin v source target body dirty = record v { next = v.next + 1; calls = v.calls ++ new_call v source target body dirty ∷ [] }

-- a call that is taken and has its reply
abbrev pub replied : FileCall → FileBody → FileCall
replied one reply = record one { taken = true; reply = Some reply }

abbrev pub answer : View → FileCall → FileBody → View
answer v one reply = record v { calls = with_call (replied one reply) v.calls }

abbrev pub remove_call : View → ℕ → View
remove_call v number = record v { calls = without_call number v.calls }

-- a call that its receiver takes stands behind those that were taken before
abbrev pub to_the_end : View → FileCall → View
to_the_end v one = record v { calls = without_call one.number v.calls ++ record one { taken = true } ∷ [] }

-- whether it is a callback
abbrev pub is_callback : FileBody → Bool
is_callback (form.Callback stamp kind) = true
is_callback body = false

-- a file is busy while a callback is out
abbrev pub busy : View → Bool
busy v = list_any (λ one. is_callback one.body) v.calls

-- a request that waits at the server is taken and has no reply
abbrev pub waits : FileCall → Bool
waits one = one.taken && is_none one.reply

-- what waits at the server, in order of arrival
abbrev pub waiting_calls : View → List FileCall
waiting_calls v = filter waits v.calls
