-- Pages that are fetched.
use Rattle.std.specs.Prelude.{ℕ, ◌==◌, nat_lt, Bool, false, ◌&&◌, not, if◌then◌else◌, List, length, Option, Some, None, is_some, option_map, slice_set}
use Rattle.sprite_ids.specs.declared.TxNo.{TxNo}
use Rattle.packet_bodies.specs.declared.ReplyBody.{ReplyBody}
use Rattle.packet_bodies.specs.declared.ReplyBody.TheVariants.{Page}
use Rattle.process_machine.specs.declared.Program.{Program}
use Rattle.process_machine.specs.declared.Reply.{Reply}
use Rattle.process_machine.specs.Machine.{Machine}
use Rattle.process_machine.specs.Memory.{page_of}
use Rattle.process_machine.specs.Steps.{Step, Moved, AtCall, AtBadStep, AtPage, step_of}
use Rattle.unix_calls.specs.declared.ProgramLine.{ProgramLine}
use Rattle.client_homes.specs.declared.Proc.{Proc}
use Rattle.client_homes.specs.declared.ProcState.{ProcState}
use Rattle.client_homes.specs.declared.ProcState.TheVariants as states
use Rattle.client_homes.specs.declared.ClientProcs.{ClientProcs}
use Rattle.client_homes.specs.Says.{next_tx}
use Rattle.client_homes.specs.Clusters.{program_line}
use Rattle.client_homes.specs.Procs.{in_state, proc_at, replies, with_proc}
use Rattle.client_homes.specs.Pages.{fetches}
use Rattle.client_homes.specs.Issuing.{issues_home}
use Rattle.client_moves.specs.declared.paging.PageFor.{PageFor}
use Rattle.client_moves.specs.declared.paging.PageFor.TheVariants.{Nothing, Burst, Fork, Answer}
use Rattle.client_moves.specs.Evicting.{is_ready_in}
use Rattle.client_moves.specs.Returning.{goes_between}

-- whether a page of an image is away
abbrev pub is_away : ℕ → List (Option (List ℕ)) → Bool
is_away page pages = nat_lt page (length pages) && not (is_some (page_of pages page))

-- whether the process is between two calls, and that page is away
abbrev pub lacks_in : ℕ → Proc → Bool
lacks_in page proc = is_ready_in proc.state && is_away page proc.image.pages

abbrev pub lacks_if : ℕ → Option Proc → Bool
lacks_if page (Some proc) = lacks_in page proc
lacks_if page None = false

abbrev pub lacks : ℕ → ℕ → ClientProcs → Bool
lacks pid page s = lacks_if page (proc_at pid s)

-- the process waits for a page
abbrev pub waits_for_page : ℕ → ℕ → ClientProcs → ClientProcs
waits_for_page pid page s = in_state pid (states.PageWait (next_tx s) page) (fetches pid page s)

abbrev pub needs_page : ℕ → ℕ → ClientProcs → ClientProcs
needs_page pid page s = if not (lacks pid page s) then s else waits_for_page pid page s

-- for what that remote call fetched a page
abbrev pub page_in : TxNo → ProcState → PageFor
page_in tx (states.PageWait known page) = if known.0 == tx.0 then Burst page else Nothing
page_in tx (states.ForkPages known page) = if known.0 == tx.0 then Fork page else Nothing
page_in tx (states.AnswerPages known page reply) = if known.0 == tx.0 then Answer page else Nothing
page_in tx _ = Nothing

abbrev pub page_of_proc : TxNo → Option Proc → PageFor
page_of_proc tx (Some proc) = page_in tx proc.state
page_of_proc tx None = Nothing

abbrev pub page_for : ℕ → TxNo → ClientProcs → PageFor
page_for pid tx s = page_of_proc tx (proc_at pid s)

-- the image has the page, where it is a whole one and one of the image's
abbrev pub image_with : ℕ → List ℕ → Machine → Machine
image_with page bytes image = record image { pages = slice_set image.pages page (Some bytes) }

abbrev pub with_page_in : ℕ → List ℕ → Proc → Proc
with_page_in page bytes proc =
    if (length bytes == 4096) && nat_lt page (length proc.image.pages) then record proc { image = image_with page bytes proc.image } else proc

abbrev pub has_bytes : ℕ → ℕ → List ℕ → ClientProcs → ClientProcs
has_bytes pid page bytes s = with_proc pid (option_map {T = Proc} (with_page_in page bytes) (proc_at pid s)) s

abbrev pub has_page : ℕ → ℕ → ReplyBody → ClientProcs → ClientProcs
has_page pid page (Page bytes) s = has_bytes pid page bytes s
has_page pid page _ s = s

-- the process goes on
abbrev pub goes_on : ℕ → ℕ → ReplyBody → ClientProcs → ClientProcs
goes_on pid page body s = goes_between pid (in_state pid states.Ready (has_page pid page body s))

abbrev pub forks_on : ℕ → ℕ → ReplyBody → ClientProcs → ClientProcs
forks_on pid page body s = issues_home pid (has_page pid page body s)

-- the first page that is away of those that a step wants
abbrev pub wanted : Step → Option ℕ
wanted (Moved image) = None
wanted AtCall = None
wanted AtBadStep = None
wanted (AtPage page) = Some page

abbrev pub named_by : Program → Machine → Option ℕ
named_by program image = wanted (step_of program image)

abbrev pub named_with : Machine → Option ProgramLine → Option ℕ
named_with image (Some line) = named_by line.program image
named_with image None = None

abbrev pub named_in : List ProgramLine → Machine → Option ℕ
named_in programs image = named_with image (program_line programs image.number)

abbrev pub named_of : List ProgramLine → Option Proc → Option ℕ
named_of programs (Some proc) = named_in programs proc.image
named_of programs None = None

abbrev pub page_named : ℕ → ClientProcs → Option ℕ
page_named pid s = named_of s.programs (proc_at pid s)

-- the reply that the process is given when its pages are here
abbrev pub reply_in : ProcState → Option Reply
reply_in (states.AnswerPages tx page reply) = Some reply
reply_in _ = None

abbrev pub reply_of_proc : Option Proc → Option Reply
reply_of_proc (Some proc) = reply_in proc.state
reply_of_proc None = None

abbrev pub kept_reply : ℕ → ClientProcs → Option Reply
kept_reply pid s = reply_of_proc (proc_at pid s)

-- the call is answered when the pages that it names are here
abbrev pub fetches_for_answer : ℕ → ℕ → Reply → ClientProcs → ClientProcs
fetches_for_answer pid page reply s = in_state pid (states.AnswerPages (next_tx s) page reply) (fetches pid page s)

abbrev pub answers_if : ℕ → Reply → Option ℕ → ClientProcs → ClientProcs
answers_if pid reply (Some page) s = fetches_for_answer pid page reply s
answers_if pid reply None s = replies pid reply s

abbrev pub answers_with_pages : ℕ → Reply → ClientProcs → ClientProcs
answers_with_pages pid reply s = answers_if pid reply (page_named pid s) s

abbrev pub answers_kept : ℕ → Option Reply → ClientProcs → ClientProcs
answers_kept pid (Some reply) s = answers_with_pages pid reply s
answers_kept pid None s = s

abbrev pub answers_after : ℕ → ClientProcs → ClientProcs
answers_after pid s = answers_kept pid (kept_reply pid s) s

abbrev pub answers_on : ℕ → ℕ → ReplyBody → ClientProcs → ClientProcs
answers_on pid page body s = answers_after pid (has_page pid page body s)

abbrev pub page_comes_for : ℕ → ReplyBody → PageFor → ClientProcs → ClientProcs
page_comes_for pid body (Burst page) s = goes_on pid page body s
page_comes_for pid body (Fork page) s = forks_on pid page body s
page_comes_for pid body (Answer page) s = answers_on pid page body s
page_comes_for pid body Nothing s = s

-- a page of the process was fetched
abbrev pub page_comes : ℕ → TxNo → ReplyBody → ClientProcs → ClientProcs
page_comes pid tx body s = page_comes_for pid body (page_for pid tx s) s
