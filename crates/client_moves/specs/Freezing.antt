-- Processes that are frozen.
use Rattle.std.specs.Prelude.{ℕ, zero, suc, not, if◌then◌else◌, List, [], ◌∷◌, ◌++◌, Option, Some, None, is_some, length, slice_get, slice_set}
use Rattle.std.specs.BTreeMap.{is_at}
use Rattle.std.specs.Map.{remove_entry}
use Rattle.std.specs.Ordering.{nat_cmp}
use Rattle.process_machine.specs.Machine.{Machine}
use Rattle.process_machine.specs.Memory.{there}
use Rattle.packet_bodies.specs.declared.Request.TheVariants as requests
use Rattle.unix_calls.specs.declared.About.{About}
use Rattle.unix_calls.specs.declared.Event.TheVariants.{Freeze}
use Rattle.stream_table.specs.declared.Carried.{Carried}
use Rattle.migrate_freeze.specs.declared.Process.{Process}
use Rattle.migrate_freeze.specs.Moves.{frozen_for, step_of}
use Rattle.migrate_freeze.specs.Packing.{can_move}
use Rattle.client_file_tables.specs.Rows.{first_of, less_of}
use Rattle.client_homes.specs.declared.Proc.{Proc}
use Rattle.client_homes.specs.declared.Unfinished.TheVariants as unfinished
use Rattle.client_homes.specs.declared.ClientProcs.{ClientProcs}
use Rattle.client_homes.specs.Says.{next_tx, notes, sends, value}
use Rattle.client_homes.specs.Procs.{enters_own, proc_at}
use Rattle.client_homes.specs.Ends.{keeps_tx}
use Rattle.client_moves.specs.declared.route.Route.{Route}
use Rattle.client_moves.specs.Carrying.{all_carried}
use Rattle.client_moves.specs.Leaving.{keeps_leaving, leaves_on}

-- the process's own call takes effect
abbrev pub enters_move : ℕ → Option About → ClientProcs → ClientProcs
enters_move pid (Some about) s = enters_own pid (value 0 0) s
enters_move pid None s = s

-- one page more, where it is here
abbrev pub with_page : ℕ → Option (List ℕ) → List (ℕ × List ℕ) → List (ℕ × List ℕ)
with_page page (Some bytes) pages = pages ++ (page, bytes) ∷ []
with_page page None pages = pages

-- the image without its pages under that number
abbrev pub taken_upto : ℕ → Machine → Machine
taken_upto zero image = image
taken_upto (suc page) image = record (taken_upto page image) { pages = slice_set (taken_upto page image).pages page None }

-- these pages, with their numbers
abbrev pub pages_upto : ℕ → Machine → List (ℕ × List ℕ)
pages_upto zero image = []
pages_upto (suc page) image = with_page page (there (slice_get (taken_upto page image).pages page)) (pages_upto page image)

-- the pages that go: none where the process starts its next program
abbrev pub pages_for : Option ℕ → Machine → List (ℕ × List ℕ)
pages_for (Some program) image = []
pages_for None image = pages_upto (length image.pages) image

-- the image without them
abbrev pub image_without : Option ℕ → Machine → Machine
image_without (Some program) image = image
image_without None image = taken_upto (length image.pages) image

-- a page goes to the server that keeps pages
abbrev pub puts_page : ℕ → ℕ → List ℕ → ClientProcs → ClientProcs
puts_page pid page bytes s =
    keeps_tx (next_tx s) (unfinished.PageOut pid) (sends s.swap_server None (requests.PageOut (record { pid = pid; page = page; bytes = bytes })) s)

-- these pages go
abbrev pub puts_pages : ℕ → List (ℕ × List ℕ) → ClientProcs → ClientProcs
puts_pages pid [] s = s
puts_pages pid (page ∷ pages) s = puts_pages pid pages (puts_page pid page.0 page.1 s)

-- a looked-up working directory
abbrev pub cwd_or_root : Option (List (List ℕ)) → List (List ℕ)
cwd_or_root (Some cwd) = cwd
cwd_or_root None = []

abbrev pub drops_cwd : ℕ → ClientProcs → ClientProcs
drops_cwd pid s = record s { files = record s.files { cwds = less_of pid s.files.cwds } }

-- the process with all that belongs to it, and those streams
abbrev pub process_of : ℕ → Proc → Route → List Carried → ClientProcs → Process
process_of pid proc route streams s =
    record {
      pid = pid;
      number = proc.number;
      image = proc.image;
      cwd = cwd_or_root (first_of pid s.files.cwds);
      streams = streams;
      killed = proc.killed;
      moving = is_some route.about;
    }

-- it begins to leave
abbrev pub begins_to_leave : ℕ → Process → Route → ClientProcs → ClientProcs
begins_to_leave pid process route s = leaves_on pid (keeps_leaving pid (step_of (frozen_for process route.to route.program)) route.about s)

abbrev pub sends_off : ℕ → Proc → Route → List Carried → ClientProcs → ClientProcs
sends_off pid proc route streams s = begins_to_leave pid (process_of pid proc route streams s) route (drops_cwd pid s)

-- its pages go, and then its streams
abbrev pub without_pages : Option ℕ → Proc → Proc
without_pages program proc = record proc { image = image_without program proc.image }

abbrev pub puts_out : ℕ → Proc → Route → List Carried → ClientProcs → ClientProcs
puts_out pid proc route streams s = sends_off pid (without_pages route.program proc) route streams (puts_pages pid (pages_for route.program proc.image) s)

abbrev pub puts_out_if : ℕ → Option Proc → Route → List Carried → ClientProcs → ClientProcs
puts_out_if pid (Some proc) route streams s = puts_out pid proc route streams s
puts_out_if pid None route streams s = s

-- the process isn't here any more
abbrev pub takes_proc : ℕ → ClientProcs → ClientProcs
takes_proc pid s = record s { procs = remove_entry (is_at (nat_cmp pid)) s.procs }

abbrev pub takes_out : ℕ → Route → List Carried → ClientProcs → ClientProcs
takes_out pid route streams s = puts_out_if pid (proc_at pid s) route streams (takes_proc pid s)

-- the process is frozen, with those streams
abbrev pub freezes_with : ℕ → Route → List Carried → ClientProcs → ClientProcs
freezes_with pid route streams s = takes_out pid route streams (enters_move pid route.about (notes (Freeze pid) s))

-- unless they can't move: then it stays
abbrev pub freezes_if : ℕ → Route → List Carried → ClientProcs → ClientProcs
freezes_if pid route streams s = if not (can_move streams) then s else freezes_with pid route streams s

-- the process is frozen
abbrev pub freezes : ℕ → Route → ClientProcs → ClientProcs
freezes pid route s = freezes_if pid route (all_carried pid s) s
