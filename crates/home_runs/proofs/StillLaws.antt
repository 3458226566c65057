-- What of the deeds of a client's kernel its home doesn't see, and what is done at its home: a predicate of the home and of who is parked
-- there is kept by a step that keeps it where its home does something.
use Rattle.std.proofs.Common.{ℕ, [], Option, Some, None, option_map}
use Rattle.kernel_steps.specs.declared.Input.{Input}
use Rattle.process_machine.specs.Machine.{Machine}
use Rattle.client_homes.specs.declared.client.ClientProcs.{ClientProcs}
use Rattle.client_homes.specs.declared.process.Proc.{Proc}
use Rattle.client_homes.specs.Homes as homes
use Rattle.client_homes.specs.Procs.{proc_at, with_proc}
use Rattle.client_procs.specs.Readers.{with_image}
use Rattle.client_walks.proofs.Bearing.{BearsTelling, HomeSide}
use Rattle.client_walks.proofs.Bearing.{Seen as FilesSeen}
use Rattle.client_walks.proofs.Deeds.{KeepsAtHome, Walk}
use Rattle.client_walks.proofs.StepBearing.{with_home}
use Rattle.home_acts.specs.Deeds.{Seen}
use Rattle.home_runs.specs.Runs.{resting}

module _ (Q : Seen → Type 0) where
  -- it sees nothing of what the files' side has and says
  abbrev Resting : HomeSide → FilesSeen → Type 0
  Resting own files = Q (record { kernel = own.kernel; kernels = own.kernels; home = own.home; waits = own.waits; events = [] })

  bears : (came : Input) (own : HomeSide) → BearsTelling came (Resting own)
  bears came own = record {
    tells = λ seen event h q. q;
    enters = λ seen entry cause q. q;
    says = λ seen sending kind h q. q;
    answers = λ seen tx body here q. q;
    keeps = λ seen pid operation plain q. q;
    left = λ seen pid q. q;
    puts_back = λ seen pid operation e q. q;
    broadcasts = λ seen pid work prefix may e q. q;
    echoes = λ seen pid work server q. q;
    asks = λ seen pid work server q. q;
  }

  -- the walk, where what is done at homes keeps it
  pub by_home : (came : Input) → KeepsAtHome (λ s h. Q (resting s)) came → ((s : ClientProcs) (pid kernel : ℕ) → Q (resting s) → Q (resting (homes.moves_to pid kernel s))) → Walk (λ s h. Q (resting s)) came
  by_home came home places = record {
    steps = record { begins = λ s h next step f q. q; ends_step = λ s h f q. q };
    within = with_home came Resting (bears came) (λ own tx source body s e q. q) (λ own rows files q. q) home places;
  }

  image_in : (o : Option Proc) (pid : ℕ) (f : Proc → Proc) (s : ClientProcs) → Q (resting s) → Q (resting (with_proc pid (option_map f o) s))
  image_in None pid f s q = q
  image_in (Some proc) pid f s q = q

  pub image_kept : (pid : ℕ) (image : Machine) (s : ClientProcs) → Q (resting s) → Q (resting (with_image pid image s))
  image_kept pid image s q = image_in (proc_at pid s) pid (λ proc. record proc { image = image }) s q
