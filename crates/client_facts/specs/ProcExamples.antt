-- A small state of a client's kernel in which much waits, and edits of it that lack one fact each.
use Rattle.std.specs.Prelude.{ℕ, true, false, List, [], ◌∷◌, ◌++◌, replicate, Option, Some, None, slice_set}
use Rattle.sprite_ids.specs.declared.AskKind.TheVariants.{Write}
use Rattle.sprite_ids.specs.declared.Ending.TheVariants.{Exit}
use Rattle.process_machine.specs.declared.Call.TheVariants.{Getpid}
use Rattle.process_machine.specs.Machine.{Machine}
use Rattle.stream_table.specs.declared.Carried.{Carried}
use Rattle.stream_table.specs.declared.Place.TheVariants.{Local}
use Rattle.home_table.specs.declared.birth.Birth.{Birth}
use Rattle.home_table.specs.declared.birth.Life.{Life}
use Rattle.home_table.specs.declared.birth.Life.TheVariants.{Living, Ended}
use Rattle.migrate_freeze.specs.declared.freeze.Freeze.{Freeze}
use Rattle.migrate_freeze.specs.declared.frozen.MoveStep.TheVariants as steps
use Rattle.pseudo_device.specs.declared.ask.Ask.{Ask}
use Rattle.pseudo_device.specs.Device.{Asks}
use Rattle.unix_calls.specs.declared.About.{About}
use Rattle.client_file_tables.specs.declared.client_files.ClientFiles.{ClientFiles}
use Rattle.client_file_tables.specs.declared.moves.ClosingOf.TheVariants.{End}
use Rattle.client_file_tables.specs.declared.pending.Pending.TheVariants as operations
use Rattle.client_file_tables.specs.declared.states.CloseState.TheVariants.{Closing}
use Rattle.client_file_tables.specs.declared.states.MoveState.TheVariants.{MovingOut}
use Rattle.client_homes.specs.declared.client.ClientProcs.{ClientProcs}
use Rattle.client_homes.specs.declared.client.KillState.TheVariants as kills
use Rattle.client_homes.specs.declared.client.Leaving.{Leaving}
use Rattle.client_homes.specs.declared.client.Unfinished.TheVariants as unfinished
use Rattle.client_homes.specs.declared.process.Proc.{Proc}
use Rattle.client_homes.specs.declared.process.ProcState.{ProcState}
use Rattle.client_homes.specs.declared.process.ProcState.TheVariants as states
use Rattle.client_facts.specs.FileExamples.{busy, call, opened, stream}
use Rattle.client_facts.specs.ProcFacts as facts
use Rattle.client_facts.specs.HomeFacts as homes

-- a process that is between two calls, or inside one
abbrev pub between : Machine → Proc
between image = record { number = 2; image = image; fresh = false; killed = false; evict = false; call = None; state = states.Ready }

abbrev pub inside : ProcState → Machine → Proc
inside state image = record (between image) { call = Some Getpid; state = state }

abbrev pub outside : ProcState → Machine → Proc
outside state image = record (between image) { state = state }

abbrev pub about : ℕ → ℕ → About
about pid number = record { pid = pid; number = number }

abbrev pub carried : ℕ → Carried
carried number = record { fd = 0; number = stream number; stream = opened }

-- a frozen process with these streams, the first of which moves
abbrev pub frozen : ℕ → List Carried → Machine → Freeze
frozen pid streams image = record {
  process = record { pid = pid; number = 2; image = image; cwd = []; streams = streams; killed = false; moving = false };
  to = 3;
  program = None;
  moved = replicate 16 None;
}

abbrev pub moving : ℕ → List Carried → Machine → Leaving
moving pid streams image = record { step = steps.Moving (record { freeze = frozen pid streams image; item = carried 4 }); about = None }

abbrev pub sent_off : ℕ → Machine → Leaving
sent_off pid image = record { step = steps.Sent (frozen pid [] image); about = None }

abbrev pub born : Option ℕ → ℕ → Life → Birth
born parent place life = record { parent = parent; place = place; life = life }

abbrev pub births : List Birth
births =
    born None 2 (Living false) ∷ born None 2 (Living false) ∷ born None 2 (Living false) ∷ born None 2 (Living false) ∷ born (Some 2007) 2 (Living false) ∷ born None 2 (Living false) ∷ born None 2 (Living false) ∷ born None 2 (Living false) ∷ born None 2 (Living false) ∷ born None 2 (Living false) ∷ born None 2 (Living true) ∷ born None 2 (Ended (Exit 0)) ∷ born None 3 (Living true) ∷ []

abbrev pub asking : ℕ → ℕ → Ask
asking pid number = record { pid = pid; number = number; fd = 0; kind = Write; length = 0; bytes = [] }

abbrev pub idle : Asks
idle = record { in_hand = None; waiting = []; masters = 1 }

abbrev pub asked : Asks
asked = record { in_hand = Some (asking 2009 2); waiting = asking 3005 4 ∷ []; masters = 1 }

-- the files' side, where the stream of a process moves, and another process has ended
abbrev pub files : ClientFiles
files = record busy {
  pending = busy.pending
      ++ (2010, operations.Move (record { about = None; stream = stream 4; to = 3; state = MovingOut (call 12) false (Local 0) }))
      ∷ (2012, operations.Close (record { of = End None; fds = []; state = Closing (call 9) (stream 3) }))
      ∷ [];
  txs = busy.txs ++ (call 12, 2010) ∷ (call 9, 2012) ∷ [];
}

-- four processes inside calls on files, one between two calls, one inside `wait`, one inside `pd_get`, one that asks a device, one
-- that has ended, four of another home that wait for other kernels, and two that leave, of which one has a kill that waits
abbrev pub busy_client : Machine → ClientProcs
busy_client image = record {
  kernel = 2;
  kernels = [];
  programs = [];
  swap_server = 1;
  files = files;
  home = record { home = 2; births = births; ticks = 0 };
  procs =
      (2001, inside states.InFiles image)
      ∷ (2002, inside states.InFiles image)
      ∷ (2003, inside states.InFiles image)
      ∷ (2004, inside states.InFiles image)
      ∷ (2005, between image)
      ∷ (2007, inside states.Waiting image)
      ∷ (2008, inside (states.Getting 1 100) image)
      ∷ (2009, inside (states.InAsk None) image)
      ∷ (2012, outside states.Ending image)
      ∷ (3001, inside (states.AtHome (call 11)) image)
      ∷ (3002, outside (states.Dying (call 14)) image)
      ∷ (3003, outside (states.Arriving (call 15) false) image)
      ∷ (3004, inside (states.AtHome (call 17)) image)
      ∷ [];
  leaving = (2010, moving 2010 (carried 4 ∷ []) image) ∷ (2011, sent_off 2011 image) ∷ [];
  devices = (1, idle) ∷ (2, asked) ∷ [];
  getters = (1, 2008) ∷ [];
  asked = (about 2009 2, None) ∷ (about 3005 4, Some (call 20)) ∷ [];
  making = (2001, 1) ∷ [];
  next_device = 3;
  waits = (2007, record { number = 2; tx = None }) ∷ [];
  kills = (2011, kills.Waits) ∷ (2013, kills.Out false) ∷ [];
  forks = (call 17, 3) ∷ [];
  early = (3009, call 17) ∷ [];
  unfinished =
      (call 11, unfinished.Home 3001)
      ∷ (call 13, unfinished.PageOut 2011)
      ∷ (call 14, unfinished.Death 3002)
      ∷ (call 15, unfinished.Place 3003)
      ∷ (call 16, unfinished.Killed 2013)
      ∷ (call 17, unfinished.Home 3004)
      ∷ [];
  issues = 9;
  evicts = [];
}

-- with another process beside
abbrev pub beside : Proc → Machine → ClientProcs
beside proc image = record (busy_client image) { procs = (busy_client image).procs ++ (2006, proc) ∷ [] }

-- with other births
abbrev pub with_births : List Birth → Machine → ClientProcs
with_births list image = record (busy_client image) { home = record (busy_client image).home { births = list } }

-- the small state has all facts of processes and of the home
abbrev pub BusyHasProcFacts : Type 0
BusyHasProcFacts = (image : Machine) → facts.KeepsProcFacts (busy_client image)

abbrev pub BusyHasHomeFacts : Type 0
BusyHasHomeFacts = (image : Machine) → homes.KeepsHomeFacts (busy_client image)

-- and none of them is met by every state
pub record ProcFactsCanFail (image : Machine) : Type 0 where
  pub once : facts.ProcessesAreOnce (record (busy_client image) { procs = (2005, between image) ∷ (busy_client image).procs }) → ⊥
  pub leaving_once : facts.LeavingAreOnce (record (busy_client image) { leaving = (2011, sent_off 2011 image) ∷ (busy_client image).leaving }) → ⊥
  pub apart : facts.NoneIsHereAndLeaves (record (busy_client image) { leaving = (2005, sent_off 2005 image) ∷ [] }) → ⊥
  pub inside_calls : facts.OperationsAreInside (record (busy_client image) { procs = [] }) → ⊥
  pub here : facts.InsideHaveOperations (beside (inside states.InFiles image) image) → ⊥
  pub moves : facts.InsideHaveOperations (record (busy_client image) { leaving = (2006, moving 2006 [] image) ∷ [] }) → ⊥
  pub owners : facts.OwnersAreKnown (record (busy_client image) { procs = [] }) → ⊥
  pub unmoved : facts.UnmovedAreHeld (record (busy_client image) { leaving = (2010, moving 2010 (carried 5 ∷ []) image) ∷ [] }) → ⊥
  pub killed : facts.ReadyAreFree (beside (record (between image) { killed = true }) image) → ⊥
  pub evicted : facts.ReadyAreFree (beside (record (between image) { evict = true }) image) → ⊥
  pub in_call : facts.ReadyAreFree (beside (inside states.Ready image) image) → ⊥
  pub paging : facts.ReadyAreFree (beside (inside (states.PageWait (call 30) 0) image) image) → ⊥
  pub coming : facts.ReadyAreFree (beside (inside (states.Arriving (call 30) false) image) image) → ⊥
  pub settled : facts.NoneReturns (beside (inside states.Returning image) image) → ⊥
  pub calls : facts.WaitedCallsAreUnfinished (beside (inside (states.AtHome (call 30)) image) image) → ⊥
  pub wanted : facts.UnfinishedAreWaitedFor (record (busy_client image) { unfinished = (call 30, unfinished.Home 2005) ∷ [] }) → ⊥
  pub wanted_page : facts.UnfinishedAreWaitedFor (record (busy_client image) { unfinished = (call 30, unfinished.PageIn 2005) ∷ [] }) → ⊥
  pub calls_once : facts.UnfinishedAreOnce (record (busy_client image) { unfinished = (call 11, unfinished.PageIn 2005) ∷ (busy_client image).unfinished }) → ⊥
  pub pages : facts.SentWaitForPages (record (busy_client image) { unfinished = [] }) → ⊥
  pub getting : facts.GettersWaitForAsks (record (busy_client image) { devices = (1, asked) ∷ [] }) → ⊥
  pub getters : facts.GettersAreKept (record (busy_client image) { getters = [] }) → ⊥
  pub asked_of : facts.AskedAreOfDevices (record (busy_client image) { devices = (1, idle) ∷ [] }) → ⊥
  pub askers : facts.AsksHaveAskers (record (busy_client image) { asked = [] }) → ⊥
  pub asked_once : facts.AskedAreOnce (record (busy_client image) { asked = (about 2009 2, None) ∷ (busy_client image).asked }) → ⊥
  pub made : facts.MadeAreThere (record (busy_client image) { making = (2005, 1) ∷ [] }) → ⊥

abbrev pub ProcFactsAreFacts : Type 0
ProcFactsAreFacts = (image : Machine) → ProcFactsCanFail image

-- nor is any of these
pub record HomeFactsCanFail (image : Machine) : Type 0 where
  pub own : homes.HomeIsOwn (record (busy_client image) { kernel = 3 }) → ⊥
  pub live : homes.NativesLive (with_births [] image) → ⊥
  pub parked : homes.ParkedAreWaiting (record (busy_client image) { waits = (2005, record { number = 2; tx = None }) ∷ [] }) → ⊥
  pub parked_once : homes.ParkedAreOnce (record (busy_client image) { waits = (busy_client image).waits ++ (busy_client image).waits }) → ⊥
  pub waits : homes.WaitsAreParked (record (busy_client image) { waits = [] }) → ⊥
  pub told : homes.KillsAreUnderWay (record (busy_client image) { kills = (2005, kills.Out false) ∷ [] }) → ⊥
  pub under_way : homes.KillsAreUnderWay (record (busy_client image) { kills = (2005, kills.Waits) ∷ [] }) → ⊥
  pub kills_once : homes.KillsAreOnce (record (busy_client image) { kills = (2011, kills.Waits) ∷ (busy_client image).kills }) → ⊥
  pub killed : homes.KilledHereKnowIt (with_births (slice_set births 4 (born (Some 2007) 2 (Living true))) image) → ⊥
  pub found : homes.KillsFindThem (record (busy_client image) { kills = [] }) → ⊥
  pub forks : homes.ForksAreOut (record (busy_client image) { forks = (call 31, 3) ∷ [] }) → ⊥
  pub forks_once : homes.ForksAreOnce (record (busy_client image) { forks = (call 17, 3) ∷ (busy_client image).forks }) → ⊥
  pub early : homes.EarlyMayCome (record (busy_client image) { early = (3009, call 32) ∷ [] }) → ⊥

abbrev pub HomeFactsAreFacts : Type 0
HomeFactsAreFacts = (image : Machine) → HomeFactsCanFail image
