-- All deeds of a client's kernel: what a fact of its files' side bears, each of them keeps, and so each step; a fact that sees its home too is
-- kept where what is done at homes keeps it.
use Rattle.std.proofs.Common.{◌≡◌, ℕ, refl}
use Rattle.sprite_ids.specs.declared.TxNo.{TxNo}
use Rattle.packet_bodies.specs.declared.ReplyBody.{ReplyBody}
use Rattle.kernel_steps.specs.declared.Input.{Input}
use Rattle.kernel_steps.specs.declared.Input.TheVariants as inputs
use Rattle.unix_calls.specs.declared.SendKind.TheVariants as sendings
use Rattle.client_file_tables.specs.declared.client_files.ClientFiles.{ClientFiles}
use Rattle.client_files.specs.Answered as file_answers
use Rattle.client_homes.specs.declared.client.ClientProcs.{ClientProcs}
use Rattle.client_procs.specs.Answered as answering
use Rattle.client_procs.specs.Steps as stepping
use Rattle.client_procs.specs.Turning as turning
use Rattle.client_walks.proofs.Deeds.{Always, Hand, KeepsAtHome, KeepsTurns, KeepsWithin, WalkWithin, nothing}
use Rattle.client_walks.proofs.WalkLaws.{heard_own, rounds_keep, within_keeps}
use Rattle.client_walks.proofs.Bearing.{Bears, BearsTelling, HomeSide, Seen, home_side, seen_of}
use Rattle.client_walks.proofs.DataBearing as data_side
use Rattle.client_walks.proofs.NameBearing as files_side
use Rattle.client_walks.proofs.SideBearing as side
use Rattle.client_walks.proofs.SideBearing.{BearsSide}

-- what bears the telling bears what the rest of the kernel does
pub seen_side : (came : Input) (Q : Seen → Type 0) → BearsTelling came Q → BearsSide came (λ s. Q (seen_of s))
seen_side came Q bears = record {
  tells = λ s event h p. bears.tells (seen_of s) event h p;
  enters = λ s entry cause p. bears.enters (seen_of s) entry cause p;
  sends = λ s sending p. bears.says (seen_of s) sending sendings.Other refl p;
  answers = λ s tx body here p. bears.answers (seen_of s) tx body here p;
  gives = λ s pid reply p. p;
  closes = λ s pid about p. data_side.kept_close came Q bears pid _ s p;
  moves = λ s pid work e p. data_side.kept_move came Q bears pid work s p;
  has_cwd = λ s pid path p. files_side.sets_cwd came Q bears pid path s p;
  drops_cwd = λ s pid p. p;
  forks = λ s parent child p. p;
  takes_report = λ s rest p. p;
  takes_reply = λ s rest p. p;
  issues = λ s about call device e p. files_side.issues came Q bears about call device s p;
  called_back = λ s tx request p. files_side.called_back came Q bears tx request s p;
  due_goes = λ s file block p. files_side.due_goes came Q bears file block s p;
  arrives = λ s pid cwd streams items p. files_side.arrives came Q bears pid cwd streams items s p;
}

module _ (came : Input) (R : HomeSide → Seen → Type 0) (bears : (own : HomeSide) → BearsTelling came (R own))
    (hears : (own : HomeSide) (tx : TxNo) (source : ℕ) (body : ReplyBody) (s : ClientFiles) → came ≡ inputs.Replied tx source body → R own (seen_of s) → R own (seen_of (file_answers.answered tx source body s))) where
  abbrev Sees : HomeSide → ClientFiles → Type 0
  Sees own s = R own (seen_of s)

  abbrev Holds : ClientProcs → Hand → Type 0
  Holds s h = R (home_side s) (seen_of s.files)

  turns : KeepsTurns came Always Holds
  turns = record {
    answered = λ s h tx source body e owned u p. hears (home_side s) tx source body s.files e p;
    gives_up = λ s h tx e u p. files_side.gives_up came (R (home_side s)) (bears (home_side s)) tx s.files e p;
    goes_on = λ s h e u p. files_side.goes_on came (R (home_side s)) (bears (home_side s)) s.files p;
  }

  abbrev sides : (own : HomeSide) → BearsSide came (Sees own)
  sides own = seen_side came (R own) (bears own)

  -- the walk, where what is done at homes keeps the fact
  pub with_home : side.AnyLeaving came Sees sides → KeepsAtHome Holds came → side.KeepsPlaces came Sees sides → WalkWithin Holds came
  with_home any_leaving home places = record { apart = side.apart came Sees sides any_leaving home places; turns = turns }

  pub within : side.AnyHome came Sees sides → KeepsWithin came Always Holds
  within any_home = record { apart = side.all_apart came Sees sides any_home; turns = turns }

-- facts that see nothing of homes

module _ (came : Input) (Q : Seen → Type 0) (bears : BearsTelling came Q) (hears : (tx : TxNo) (source : ℕ) (body : ReplyBody) (s : ClientFiles) → came ≡ inputs.Replied tx source body → Q (seen_of s) → Q (seen_of (file_answers.answered tx source body s))) where
  abbrev Knows : ClientProcs → Hand → Type 0
  Knows s h = Q (seen_of s.files)

  keeps : KeepsWithin came Always Knows
  keeps = within came (λ own. Q) (λ own. bears) (λ own. hears) (λ own other files q. q)

  -- all rounds of a step
  pub rounds : (s : ClientProcs) → Q (seen_of s.files) → Q (seen_of (turning.goes_on s).files)
  rounds s q = rounds_keep Knows came keeps nothing s q

  -- an answer to a remote call of the processes' side
  pub heard : (tx : TxNo) (body : ReplyBody) (s : ClientProcs) → Q (seen_of s.files) → Q (seen_of (answering.hears_own tx body s).files)
  heard tx body s q = heard_own Knows came keeps nothing tx body s q

  -- all that a step does, from its beginning to its end
  pub goes : (s : ClientProcs) → Q (seen_of s.files) → Q (seen_of (turning.goes_on (stepping.takes came s)).files)
  goes s q = within_keeps Knows came keeps nothing s q

-- and where prefixes may be learned
pub whole_step : (came : Input) (Q : Seen → Type 0) → Bears came Q → (s : ClientProcs) → Q (seen_of s.files) → Q (seen_of (turning.goes_on (stepping.takes came s)).files)
whole_step came Q bears s q = goes came Q bears.telling (λ tx source body t e p. files_side.answered came Q bears tx source body t e p) s q
