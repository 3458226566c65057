-- Two facts, of which the second leans on the first.
use Rattle.kernel_steps.specs.declared.Input.{Input}
use Rattle.client_homes.specs.declared.client.ClientProcs.{ClientProcs}
use Rattle.client_walks.proofs.Deeds.{Always, Both, Hand, Keeps, KeepsApart, KeepsCalls, KeepsComings, KeepsDevices, KeepsFiles, KeepsTurns, KeepsHomes, KeepsKills, KeepsMoves, KeepsSteps, KeepsWithin}

joined_steps : (F P : ClientProcs → Hand → Type 0) → KeepsSteps Always F → KeepsSteps F P → KeepsSteps Always (Both F P)
joined_steps F P f p = record {
  begins = λ s h next step u k. (f.begins s h next step u k.0, p.begins s h next step k.0 k.1);
  ends_step = λ s h u k. (f.ends_step s h u k.0, p.ends_step s h k.0 k.1);
}

joined_files : (came : Input) (F P : ClientProcs → Hand → Type 0) → KeepsFiles came Always F → KeepsFiles came F P → KeepsFiles came Always (Both F P)
joined_files came F P f p = record {
  uses_files = λ s h about call device e0 u k. (f.uses_files s h about call device e0 u k.0, p.uses_files s h about call device e0 k.0 k.1);
  called_back = λ s h tx request u k. (f.called_back s h tx request u k.0, p.called_back s h tx request k.0 k.1);
  due_goes = λ s h file block u k. (f.due_goes s h file block u k.0, p.due_goes s h file block k.0 k.1);
  takes_report = λ s h report rest e0 u k. (f.takes_report s h report rest e0 u k.0, p.takes_report s h report rest e0 k.0 k.1);
  takes_reply = λ s h row rest e0 u k. (f.takes_reply s h row rest e0 u k.0, p.takes_reply s h row rest e0 k.0 k.1);
}

joined_turns : (came : Input) (F P : ClientProcs → Hand → Type 0) → KeepsTurns came Always F → KeepsTurns came F P → KeepsTurns came Always (Both F P)
joined_turns came F P f p = record {
  answered = λ s h tx source body e0 e1 u k. (f.answered s h tx source body e0 e1 u k.0, p.answered s h tx source body e0 e1 k.0 k.1);
  gives_up = λ s h tx e0 u k. (f.gives_up s h tx e0 u k.0, p.gives_up s h tx e0 k.0 k.1);
  goes_on = λ s h e0 u k. (f.goes_on s h e0 u k.0, p.goes_on s h e0 k.0 k.1);
}

pub joined_calls : (came : Input) (F P : ClientProcs → Hand → Type 0) → KeepsCalls came Always F → KeepsCalls came F P → KeepsCalls came Always (Both F P)
joined_calls came F P f p = record {
  comes_to = λ s h about call e0 u k. (f.comes_to s h about call e0 u k.0, p.comes_to s h about call e0 k.0 k.1);
  counts = λ s h u k. (f.counts s h u k.0, p.counts s h k.0 k.1);
  answers_here = λ s h pid reply e0 u k. (f.answers_here s h pid reply e0 u k.0, p.answers_here s h pid reply e0 k.0 k.1);
  replies = λ s h pid reply u k. (f.replies s h pid reply u k.0, p.replies s h pid reply k.0 k.1);
  begins_here = λ s h about program arg u k. (f.begins_here s h about program arg u k.0, p.begins_here s h about program arg k.0 k.1);
  returns = λ s h pid reply u k. (f.returns s h pid reply u k.0, p.returns s h pid reply k.0 k.1);
  flags_evict = λ s h pid evict u k. (f.flags_evict s h pid evict u k.0, p.flags_evict s h pid evict k.0 k.1);
  takes_call = λ s h tx u k. (f.takes_call s h tx u k.0, p.takes_call s h tx k.0 k.1);
}

pub joined_homes : (F P : ClientProcs → Hand → Type 0) → KeepsHomes Always F → KeepsHomes F P → KeepsHomes Always (Both F P)
joined_homes F P f p = record {
  enters_home = λ s h request reply e0 u k. (f.enters_home s h request reply e0 u k.0, p.enters_home s h request reply e0 k.0 k.1);
  ticks_for = λ s h request u k. (f.ticks_for s h request u k.0, p.ticks_for s h request k.0 k.1);
  forks = λ s h request u k. (f.forks s h request u k.0, p.forks s h request k.0 k.1);
  waits = λ s h request u k. (f.waits s h request u k.0, p.waits s h request k.0 k.1);
  kills_living = λ s h request target e0 u k. (f.kills_living s h request target e0 u k.0, p.kills_living s h request target e0 k.0 k.1);
  kills_none = λ s h request target e0 u k. (f.kills_none s h request target e0 u k.0, p.kills_none s h request target e0 k.0 k.1);
  ends_by_exit = λ s h request code u k. (f.ends_by_exit s h request code u k.0, p.ends_by_exit s h request code k.0 k.1);
  ends_by_death = λ s h about u k. (f.ends_by_death s h about u k.0, p.ends_by_death s h about k.0 k.1);
  dies_elsewhere = λ s h about e0 u k. (f.dies_elsewhere s h about e0 u k.0, p.dies_elsewhere s h about e0 k.0 k.1);
  ends = λ s h pid about u k. (f.ends s h pid about u k.0, p.ends s h pid about k.0 k.1);
  takes_waiter = λ s h pid u k. (f.takes_waiter s h pid u k.0, p.takes_waiter s h pid k.0 k.1);
  ends_wait = λ s h pid tx reply u k. (f.ends_wait s h pid tx reply u k.0, p.ends_wait s h pid tx reply k.0 k.1);
  parks = λ s h pid parked u k. (f.parks s h pid parked u k.0, p.parks s h pid parked k.0 k.1);
  parks_here = λ s h request u k. (f.parks_here s h request u k.0, p.parks_here s h request k.0 k.1);
  fetches_for_fork = λ s h pid page u k. (f.fetches_for_fork s h pid page u k.0, p.fetches_for_fork s h pid page k.0 k.1);
  asks_home = λ s h kernel request e0 u k. (f.asks_home s h kernel request e0 u k.0, p.asks_home s h kernel request e0 k.0 k.1);
  answers = λ s h tx body u k. (f.answers s h tx body u k.0, p.answers s h tx body k.0 k.1);
  hands_on = λ s h tx o u k. (f.hands_on s h tx o u k.0, p.hands_on s h tx o k.0 k.1);
  forgets_fork = λ s h tx u k. (f.forgets_fork s h tx u k.0, p.forgets_fork s h tx k.0 k.1);
  forgets_early = λ s h tx u k. (f.forgets_early s h tx u k.0, p.forgets_early s h tx k.0 k.1);
  places_child = λ s h parent child image e0 u k. (f.places_child s h parent child image e0 u k.0, p.places_child s h parent child image e0 k.0 k.1);
  meets_early = λ s h child u k. (f.meets_early s h child u k.0, p.meets_early s h child k.0 k.1);
  lets_go = λ s h pid u k. (f.lets_go s h pid u k.0, p.lets_go s h pid k.0 k.1);
}

pub joined_kills : (F P : ClientProcs → Hand → Type 0) → KeepsKills Always F → KeepsKills F P → KeepsKills Always (Both F P)
joined_kills F P f p = record {
  flags = λ s h pid u k. (f.flags s h pid u k.0, p.flags s h pid k.0 k.1);
  breaks_off = λ s h pid device max proc e0 e1 u k. (f.breaks_off s h pid device max proc e0 e1 u k.0, p.breaks_off s h pid device max proc e0 e1 k.0 k.1);
  notes_kill = λ s h pid kill u k. (f.notes_kill s h pid kill u k.0, p.notes_kill s h pid kill k.0 k.1);
  forgets_kill = λ s h pid u k. (f.forgets_kill s h pid u k.0, p.forgets_kill s h pid k.0 k.1);
  goes_after = λ s h about pid place u k. (f.goes_after s h about pid place u k.0, p.goes_after s h about pid place k.0 k.1);
  hears_here = λ s h tx pid e0 u k. (f.hears_here s h tx pid e0 u k.0, p.hears_here s h tx pid e0 k.0 k.1);
  hears_gone = λ s h tx pid e0 u k. (f.hears_gone s h tx pid e0 u k.0, p.hears_gone s h tx pid e0 k.0 k.1);
  tells_place = λ s h tx pid kernel u k. (f.tells_place s h tx pid kernel u k.0, p.tells_place s h tx pid kernel k.0 k.1);
}

pub joined_devices : (came : Input) (F P : ClientProcs → Hand → Type 0) → KeepsDevices came Always F → KeepsDevices came F P → KeepsDevices came Always (Both F P)
joined_devices came F P f p = record {
  asks_here = λ s h pid ask u k. (f.asks_here s h pid ask u k.0, p.asks_here s h pid ask k.0 k.1);
  asks_for = λ s h tx source request e0 u k. (f.asks_for s h tx source request e0 u k.0, p.asks_for s h tx source request e0 k.0 k.1);
  waits_at = λ s h device ask e0 u k. (f.waits_at s h device ask e0 u k.0, p.waits_at s h device ask e0 k.0 k.1);
  ends_ask = λ s h ask reply u k. (f.ends_ask s h ask reply u k.0, p.ends_ask s h ask reply k.0 k.1);
  serves_getter = λ s h device pid e0 u k. (f.serves_getter s h device pid e0 u k.0, p.serves_getter s h device pid e0 k.0 k.1);
  sends_ask = λ s h pid request u k. (f.sends_ask s h pid request u k.0, p.sends_ask s h pid request k.0 k.1);
  waits_for_ask = λ s h pid device max u k. (f.waits_for_ask s h pid device max u k.0, p.waits_for_ask s h pid device max k.0 k.1);
  puts_with = λ s h pid device bytes errno u k. (f.puts_with s h pid device bytes errno u k.0, p.puts_with s h pid device bytes errno k.0 k.1);
  left_at = λ s h device u k. (f.left_at s h device u k.0, p.left_at s h device k.0 k.1);
  makes_device = λ s h pid u k. (f.makes_device s h pid u k.0, p.makes_device s h pid k.0 k.1);
  ends_making = λ s h pid reply u k. (f.ends_making s h pid reply u k.0, p.ends_making s h pid reply k.0 k.1);
}

joined_moves : (F P : ClientProcs → Hand → Type 0) → KeepsMoves Always F → KeepsMoves F P → KeepsMoves Always (Both F P)
joined_moves F P f p = record {
  freezes = λ s h pid route e0 u k. (f.freezes s h pid route e0 u k.0, p.freezes s h pid route e0 k.0 k.1);
  takes_proc = λ s h pid proc e0 u k. (f.takes_proc s h pid proc e0 u k.0, p.takes_proc s h pid proc e0 k.0 k.1);
  takes_none = λ s h pid e0 u k. (f.takes_none s h pid e0 u k.0, p.takes_none s h pid e0 k.0 k.1);
  takes_ended = λ s h pid u k. (f.takes_ended s h pid u k.0, p.takes_ended s h pid k.0 k.1);
  puts_page = λ s h pid page bytes u k. (f.puts_page s h pid page bytes u k.0, p.puts_page s h pid page bytes k.0 k.1);
  drops_cwd = λ s h pid u k. (f.drops_cwd s h pid u k.0, p.drops_cwd s h pid k.0 k.1);
  keeps_leaving = λ s h pid step about u k. (f.keeps_leaving s h pid step about u k.0, p.keeps_leaving s h pid step about k.0 k.1);
  takes_leaving = λ s h pid found e0 u k. (f.takes_leaving s h pid found e0 u k.0, p.takes_leaving s h pid found e0 k.0 k.1);
  leaves_none = λ s h pid e0 u k. (f.leaves_none s h pid e0 u k.0, p.leaves_none s h pid e0 k.0 k.1);
  begins_move = λ s h pid one about u k. (f.begins_move s h pid one about u k.0, p.begins_move s h pid one about k.0 k.1);
  sends_process = λ s h pid sent about e0 u k. (f.sends_process s h pid sent about e0 u k.0, p.sends_process s h pid sent about e0 k.0 k.1);
}

pub joined_comings : (F P : ClientProcs → Hand → Type 0) → KeepsComings Always F → KeepsComings F P → KeepsComings Always (Both F P)
joined_comings F P f p = record {
  brings = λ s h pid e0 u k. (f.brings s h pid e0 u k.0, p.brings s h pid e0 k.0 k.1);
  refuses = λ s h pid e0 u k. (f.refuses s h pid e0 u k.0, p.refuses s h pid e0 k.0 k.1);
  answers_done = λ s h tx pid u k. (f.answers_done s h tx pid u k.0, p.answers_done s h tx pid k.0 k.1);
  has_streams = λ s h process streams u k. (f.has_streams s h process streams u k.0, p.has_streams s h process streams k.0 k.1);
  puts_in = λ s h process fresh u k. (f.puts_in s h process fresh u k.0, p.puts_in s h process fresh k.0 k.1);
  comes_home = λ s h pid e0 u k. (f.comes_home s h pid e0 u k.0, p.comes_home s h pid e0 k.0 k.1);
  thaws = λ s h pid u k. (f.thaws s h pid u k.0, p.thaws s h pid k.0 k.1);
  tells_home = λ s h pid moved e0 u k. (f.tells_home s h pid moved e0 u k.0, p.tells_home s h pid moved e0 k.0 k.1);
  waits_for_page = λ s h pid page e0 u k. (f.waits_for_page s h pid page e0 u k.0, p.waits_for_page s h pid page e0 k.0 k.1);
  has_page = λ s h pid page body u k. (f.has_page s h pid page body u k.0, p.has_page s h pid page body k.0 k.1);
  is_ready = λ s h pid u k. (f.is_ready s h pid u k.0, p.is_ready s h pid k.0 k.1);
  fetches_for_answer = λ s h pid page reply u k. (f.fetches_for_answer s h pid page reply u k.0, p.fetches_for_answer s h pid page reply k.0 k.1);
}

joined_apart : (came : Input) (F P : ClientProcs → Hand → Type 0) → KeepsApart came Always F → KeepsApart came F P → KeepsApart came Always (Both F P)
joined_apart came F P f p = record {
  files = joined_files came F P f.files p.files;
  calls = joined_calls came F P f.calls p.calls;
  homes = joined_homes F P f.homes p.homes;
  kills = joined_kills F P f.kills p.kills;
  devices = joined_devices came F P f.devices p.devices;
  moves = joined_moves F P f.moves p.moves;
  comings = joined_comings F P f.comings p.comings;
}

-- a fact that is kept within a step where another one is so, and that one: both are kept within it
pub joined_within : (came : Input) (F P : ClientProcs → Hand → Type 0) → KeepsWithin came Always F → KeepsWithin came F P → KeepsWithin came Always (Both F P)
joined_within came F P f p = record { apart = joined_apart came F P f.apart p.apart; turns = joined_turns came F P f.turns p.turns }

-- and by steps as a whole
pub joined : (F P : ClientProcs → Hand → Type 0) → Keeps Always F → Keeps F P → Keeps Always (Both F P)
joined F P f p = record { steps = joined_steps F P f.steps p.steps; within = λ came. joined_within came F P (f.within came) (p.within came) }
