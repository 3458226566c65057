-- No step lowers a file's version.
use Rattle.std.proofs.Common.{◌≤◌, ℕ, ◌+◌, Bool, true, false, ◌&&◌, ◌||◌, not, Option, Some, None, arith}
use Rattle.std.proofs.lemmas.Bool.{and_parts}
use Rattle.file_views.specs.declared.call.FileCall.{FileCall}
use Rattle.file_views.specs.declared.client.Held.{Held}
use Rattle.sprite_ids.specs.declared.StreamNo.{StreamNo}
use Rattle.file_views.specs.declared.step.FileStep.{FileStep}
use Rattle.file_views.specs.declared.view.View.{View}
use Rattle.file_views.specs.Setting.{Setting}
use Rattle.file_views.specs.Views.{is_holder}
use Rattle.file_views.specs.Grants.{truncates, receiver, asks_to_write, settle}
use Rattle.file_views.specs.Steps.{moving, writing_back_at, after}
use Rattle.file_views.specs.Possible.{has_room, may_do, possible, stepped}
use Rattle.file_views.specs.Sound.{Sound}
use Rattle.file_views.proofs.ClientLaws.{choose_by}
use Rattle.file_views.proofs.ModeStepLaws.{Standing, standing_of}
use Rattle.file_views.proofs.HolderLaws.{FlatHolders, flat_holders}
use Rattle.file_views.proofs.WorkLaws.{unnoted, Works}
use Rattle.file_views.proofs.PartLaws.{Parts, part_after}
use Rattle.file_views.proofs.ServeLaws.{Serves, serves_notes, serves_request}
use Rattle.file_views.proofs.SizeMoveLaws.{flushed_all}

abbrev pub Risen : ℕ → View → Type 0
Risen low v = low ≤ v.version

risen_settle : (low : ℕ) (v : View) (one : FileCall) → Risen low v → Risen low (settle v one)
risen_settle low v one l = choose_by (λ (n : ℕ). low ≤ n) (truncates one.body || (asks_to_write v.opens one.body && not (is_holder v (receiver one)))) (v.version + 1) v.version (λ e. omega (arith, l)) (λ e. l)

serves_risen : (low : ℕ) (z : Setting) → Serves z (Risen low) (Risen low)
serves_risen low z = record {
  eases = λ v l. l;
  tells = λ v b l. l;
  outs = λ v kind kernel l. l;
  settles = λ v one s l. risen_settle low v one l;
  closes = λ v one stream grants t e l. l;
  fetched = λ v one block t e l. l;
  refuses = λ v one stamp t e l. l;
  stores = λ v one block size piece t e l. l;
  operates = λ v one pid number stream way t e l. l;
  takes = λ v one b stamps m n k l. l;
  served = λ v one t x y. y;
  settled = λ v one s x y. y;
}

risen_works : (low : ℕ) (z : Setting) → Works z (λ v k s. Unit {0}) (Risen low)
risen_works low z = record {
  waits = λ v kernel waiting p i q. p;
  enters = λ v kernel step p i o n q. p;
  operates = λ v kernel step p i q. p;
  still_waits = λ v kernel waiting s i q. tt;
  still_enters = λ v kernel step s i q. tt;
  still_operates = λ v kernel step s q. tt;
  fetches = λ v kernel number p i. p;
}

-- all that a step leans on
pub record Rising (low : ℕ) (z : Setting) (v : View) : Type 0 where
  pub standing : Standing z v
  pub holders : FlatHolders v
  pub risen : Risen low v

risen_moving : (low : ℕ) (v : View) (stream : StreamNo) (source place : ℕ) (kept : Bool) → Risen low v → Risen low (moving v stream source place kept)
risen_moving low v stream source place true l = l
risen_moving low v stream source place false l = l

risen_sends : (low : ℕ) (z : Setting) (v : View) (kernel : ℕ) (one : Held) (dirty : Option ℕ) → Risen low v → Risen low (writing_back_at z v kernel one dirty)
risen_sends low z v kernel one None l = l
risen_sends low z v kernel one (Some dirty) l = l

risen_parts : (low : ℕ) (z : Setting) → Parts z (λ v k s. Unit {0}) (Rising low z) (Risen low) (Risen low)
risen_parts low z = record {
  works = risen_works low z;
  flat = λ v t. t.standing.flat;
  same = λ v t. t.risen;
  rests = λ v p. p;
  wanted = λ v kernel t p i s m. tt;
  filled_wanted = λ v one stamp block other piece t n e r i p j s m. tt;
  fetch_again_wanted = λ v one stamp block grant t n e r i p j s m. tt;
  again_wanted = λ v one grant t m pid number stamp stream way e r i. tt;
  begun = λ v step t d e. tt;
  removed = λ v one t m r a c. t.risen;
  opened = λ v one stream grant t m pid number mode truncate e r i. t.risen;
  moved = λ v one stream place kept grants grant more t m e r. t.risen;
  came = λ v carry grant t m e. t.risen;
  filled = λ v one stamp block other piece t m e r i. t.risen;
  again = λ v one stamp grant t m e r i. t.risen;
  done = λ v one stamp block size piece t m e r i. t.risen;
  flushed = λ v one stamp kind size blocks t m e r i. flushed_all z (Unit {0}) unnoted (λ had. Risen low) (λ had. Risen low) (serves_notes z (Risen low) (Risen low) (serves_risen low z)) tt v one stamp kind size blocks t.standing t.holders m e r i (λ answering. t.risen);
  called = λ v one stamp kind t m e k n i. t.risen;
  requested = λ v one t m s k n c. serves_request z (Risen low) (Risen low) (serves_risen low z) v one (record { flat = t.standing.flat; streams = t.standing.streams }) t.standing.stamps t.standing.decided.ruled t.standing.modes t.holders m s n c t.risen;
  opens = λ v kernel pid number stream mode truncate t i. t.risen;
  closes = λ v kernel stream t i. t.risen;
  moves = λ v stream source place kept t i. risen_moving low v stream source place kept t.risen;
  backs = λ v kernel one number t i h e. risen_sends low z v kernel one one.dirty t.risen;
  numbered = λ v next t l. t.risen;
  counted = λ v kernel count t i l. t.risen;
  zeroed = λ v kernel block t i e. t.risen;
  raised = λ v version t u q l. (let r = t.risen in omega (arith, r, l));
  uncached = λ v t. t.risen;
}

pub version_rises : (z : Setting) (v : View) (step : FileStep) → Sound z v → v.version ≤ (stepped z v step).version
version_rises z v step s = choose_by (Risen v.version) (possible z v step) (after z v step) v (λ e. part_after z _ (Rising v.version z) (Risen v.version) (Risen v.version) (risen_parts v.version z) v step (and_parts (has_room v) (may_do z v step) e).1
    (record { standing = standing_of z v s.shapes s.streams s.stamps s.decisions s.modes; holders = flat_holders v s.holders; risen = omega arith })) (λ e. omega arith)
